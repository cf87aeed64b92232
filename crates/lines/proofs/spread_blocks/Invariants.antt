-- `spread_blocks` meets its contract: one block more at a turn. Assumes nothing.
use Prim.Native.Nat.{◌+◌, ◌*◌}
use Rattle.lines.specs.Lines.{InBlocks, LinesSpread}
use Rattle.lines.proofs.spread_blocks.Given as goal

abbrev pub invariant-loop-o : goal.invariant-loop-o
invariant-loop-o l = LinesSpread (InBlocks ((l.n + 1) * l.inner) l.inner l.o) l.first l.inner l.n l.initial.s l.s
