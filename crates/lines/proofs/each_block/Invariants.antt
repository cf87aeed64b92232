-- `each_block` meets its contract: one block more at a turn. Assumes nothing.
use Prim.Native.Nat.{◌+◌, ◌*◌}
use Rattle.lines.specs.Lines.{InBlocks, LinesCut}
use Rattle.lines.proofs.each_block.Given as goal

abbrev pub invariant-loop-o : goal.invariant-loop-o
invariant-loop-o g l = LinesCut (InBlocks ((g.row.N + 1) * l.inner) l.inner l.o) l.up l.lo l.inner g.row.N l.initial.s l.s
