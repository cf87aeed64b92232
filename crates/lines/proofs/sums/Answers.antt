-- `sums` meets its contract: a loop of rows, from row j - 1 down. Assumes nothing.
use mathlib.Core.Logic.{inl}
use native.Mathlib.Omega.{arith}
use Rattle.lines.proofs.Turns.{start, end}
use Rattle.lines.proofs.Passes.{summed_last, sum_rows, sum_turn}
use Rattle.lines.proofs.sums.Goals as goal

pub loop-i-init : goal.loop-i-init
loop-i-init g c = start (summed_last c.args.j)

pub add_row-requires : goal.add_row-requires
add_row-requires g c = sum_rows c.requires.0 (omega arith) (omega arith) c.loop-i.invariant c.requires.1 c.requires.2

pub loop-i-preserved : goal.loop-i-preserved
loop-i-preserved g c = sum_turn c.requires.0 (omega arith) (omega arith) c.loop-i.invariant c.add_row.ensures

pub returns : goal.returns
returns g c = end (λ i h. inl (omega arith)) c.loop-i.invariant
