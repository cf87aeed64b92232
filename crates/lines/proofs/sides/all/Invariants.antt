-- `all` meets its contract: two numbers more at a turn. Assumes nothing.
use mathlib.Core.Bool.{true}
use Prim.Native.Nat.{ℕ, ◌*◌, ◌<◌}
use Rattle.lines.specs.Lines.{at}
use Rattle.lines.proofs.sides.all.Given as goal

abbrev pub invariant-loop-pair : goal.invariant-loop-pair
invariant-loop-pair g l = (k : ℕ) → k < 2 * l.pair → goal.F-post g l.test (at l.part k) true
