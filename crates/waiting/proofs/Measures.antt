-- The halves of a slot are slots, and each half of a box that is cut has one cut fewer left: the measure of the search. Assumes nothing.
use mathlib.Core.Path.{◌≡◌, ap}
use mathlib.Core.List.{List}
use Prim.Native.Nat.{ℕ, suc, ◌<◌}
use native.Mathlib.Omega.{arith}
use lib.IntN.{ℤ}
use Rattle.whole.specs.Half.{Half, lower, upper}
use Rattle.bernstein.specs.Three
use Rattle.bernstein.specs.Three.{first, second, third, ◌!◌}
use Rattle.system.specs.declared.head.Head.{Head}
use Rattle.boxes.specs.declared.half.Direction.{Direction}
use Rattle.whole.specs.declared.Sign.{Sign}
use Rattle.boxes.specs.declared.visit.Outcome.{Outcome}
use Rattle.system.specs.Heads.{depths}
use Rattle.boxes.specs.Boxes.{direction}
use Rattle.slots.specs.Slots.{box_in, half_slot}
use Rattle.slots.specs.Rules.{looked}
use Rattle.slots.proofs.Builds.{half_slot_length}
use Rattle.slots.proofs.Chosen.{cut_in}
use Rattle.search.specs.Search.{Look, is_dropped, is_kept, is_cut}
use Rattle.search.specs.Counts.{Measured}
use Rattle.search.specs.Lent.{slots, HalvesWide}
use Rattle.waiting.specs.Cells.{as_look, cells, left}

-- ---- from what `look` says back to the outcome
abbrev pub outcome : Look (ℕ × Sign) Direction → Outcome
outcome (is_dropped d) = Outcome.Dropped d.0 d.1
outcome (is_kept mark) = Outcome.Kept mark
outcome (is_cut r) = Outcome.Cut r

pub outcome_is : (o : Outcome) {k : Look (ℕ × Sign) Direction} → as_look o ≡ k → o ≡ outcome k
outcome_is (Outcome.Dropped p s) e = ap outcome e
outcome_is (Outcome.Kept m) e = ap outcome e
outcome_is (Outcome.Cut r) e = ap outcome e

pub half_left : (h : Head) (l : List ℤ) (e : Half) (r : Three.Direction) → (box_in l ! r).cuts < depths h ! r → left h l ≡ suc (left h (half_slot h e r l))
unfolding half_slot
half_left h l lower first d = omega arith
half_left h l lower second d = omega arith
half_left h l lower third d = omega arith
half_left h l upper first d = omega arith
half_left h l upper second d = omega arith
half_left h l upper third d = omega arith

pub measured : (h : Head) → Measured (slots (cells h)) (left h)
measured h l r e half = half_left h l half (direction r) (cut_in h l r (outcome_is (looked h l) e)).below

pub halves_wide : (h : Head) → HalvesWide (cells h)
halves_wide h e r l n = half_slot_length h e (direction r) l
