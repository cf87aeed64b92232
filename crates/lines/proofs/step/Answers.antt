-- `step` meets its contract: a loop of rows, from row n down to row k + 1. Assumes nothing.
use native.Mathlib.Omega.{arith}
use Rattle.lines.proofs.Turns.{start, end}
use Rattle.lines.proofs.Passes.{step_rows, step_turn, step_end}
use Rattle.lines.proofs.step.Goals as goal

pub add_row-requires : goal.add_row-requires
add_row-requires c = step_rows c.requires.1 (omega arith) (omega arith) (omega arith) c.loop-j.invariant.1 c.requires.2

pub loop-j-preserved : goal.loop-j-preserved
loop-j-preserved c = (omega arith, step_turn c.requires.1 (omega arith) (omega arith) (omega arith) c.loop-j.invariant.1 c.add_row.ensures)

pub returns : goal.returns
returns c = end (step_end c.args.k c.args.n c.loop-j.j (omega arith) (omega arith)) c.loop-j.invariant.1

pub loop-j-init : goal.loop-j-init
loop-j-init c = (omega arith, start (λ b i h d. absurd (omega arith)))
