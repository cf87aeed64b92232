-- `all_within` meets its contract: one test of every number. Assumes nothing.
use native.Mathlib.Omega.{arith}
use Rattle.std.proofs.Common.{rules, nat_abs}
use Rattle.lines.specs.Sides.{AtMost}
use Rattle.lines.proofs.Parts.{tested, empty}
use Rattle.lines.proofs.sides.all_within.Goals as goal

pub returns-then-stop-start : goal.returns-then-stop-start
returns-then-stop-start c = (λ t. empty (omega arith), λ e. search rules)

pub returns-else-stop-start : goal.returns-else-stop-start
returns-else-stop-start c =
    tested {P = AtMost (nat_abs c.args.bound)} (omega arith) (omega arith) c.all.ensures (λ z k. search rules) (λ z k. search rules)
