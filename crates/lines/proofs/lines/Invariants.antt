-- `lines` meets its contract: a stage for each entry, then the powers of two. Assumes nothing.
use Rattle.lines.proofs.Stages.{Staged}
use Rattle.lines.proofs.lines.Given as goal

abbrev pub invariant-loop-j : goal.invariant-loop-j
invariant-loop-j g l = Staged g.row.W l.up l.lo l.inner g.row.N l.initial.s l.j l.s
