-- `step` meets its contract: a loop of rows, from row n down to row k + 1. Assumes nothing.
use Prim.Native.Nat.{◌≤◌, ◌<◌}
use Rattle.lines.specs.Inside.{stepped}
use Rattle.lines.proofs.Turns.{Turning}
use Rattle.lines.proofs.step.Given as goal

abbrev pub invariant-loop-j : goal.invariant-loop-j
invariant-loop-j l = (l.k ≤ l.j) × Turning (stepped l.k) (λ i. l.j < i) 1 l.first l.inner l.n l.initial.s l.s
