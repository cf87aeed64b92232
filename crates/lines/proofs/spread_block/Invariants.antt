-- `spread_block` meets its contract: one line more at a turn. Assumes nothing.
use Rattle.lines.specs.Lines.{Under, LinesSpread}
use Rattle.lines.proofs.spread_block.Given as goal

abbrev pub invariant-loop-q : goal.invariant-loop-q
invariant-loop-q l = LinesSpread (Under l.q) l.first l.inner l.n l.initial.s l.s
