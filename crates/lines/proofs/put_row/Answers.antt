-- `put_row` meets its contract: one number more at a turn. Assumes nothing.
use native.Mathlib.Omega.{arith}
use Rattle.std.proofs.Common.{rules}
use Rattle.lines.proofs.Made.{none_put, one_put}
use Rattle.lines.proofs.put_row.Goals as goal

pub loop-f-init : goal.loop-f-init
loop-f-init g c = none_put

pub loop-f-preserved : goal.loop-f-preserved
loop-f-preserved g c = one_put (omega arith) (search rules) c.loop-f.invariant
