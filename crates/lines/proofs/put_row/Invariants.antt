-- `put_row` meets its contract: one number more at a turn. Assumes nothing.
use Rattle.lines.specs.Lines.{at}
use Rattle.lines.specs.Inside.{RowPut}
use Rattle.lines.proofs.put_row.Given as goal

abbrev pub invariant-loop-f : goal.invariant-loop-f
invariant-loop-f g l = RowPut l.a l.f (at l.row) l.initial.s l.s
