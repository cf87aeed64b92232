-- `sums` meets its contract: a loop of rows, from row j - 1 down. Assumes nothing.
use Prim.Native.Nat.{◌≤◌}
use Rattle.lines.specs.Inside.{summed}
use Rattle.lines.proofs.Turns.{Turning}
use Rattle.lines.proofs.sums.Given as goal

abbrev pub invariant-loop-i : goal.invariant-loop-i
invariant-loop-i g l = Turning (summed l.j) (λ k. l.i ≤ k) g.row.W l.up l.inner l.j l.initial.s l.s
