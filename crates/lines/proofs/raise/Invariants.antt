-- `raise` meets its contract: a loop of rows, from row 1 on. Assumes nothing.
use Prim.Native.Nat.{◌<◌}
use Rattle.lines.specs.Inside.{raised}
use Rattle.lines.proofs.Turns.{Turning}
use Rattle.lines.proofs.raise.Given as goal

abbrev pub invariant-loop-i : goal.invariant-loop-i
invariant-loop-i g l = Turning raised (λ k. k < l.i) g.row.W l.up l.inner g.row.N l.initial.s l.s
