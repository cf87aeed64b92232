-- `each_line` meets its contract: one line more at a turn. Assumes nothing.
use Prim.Native.Nat.{◌+◌, ◌*◌}
use Rattle.lines.specs.Lines.{InBlocks, LinesCut}
use Rattle.lines.proofs.each_line.Given as goal

abbrev pub invariant-loop-o : goal.invariant-loop-o
invariant-loop-o g l = LinesCut (InBlocks ((g.row.N + 1) * 1) 1 l.o) l.up l.lo 1 g.row.N l.initial.s l.s
