-- The theorems of this crate, as statements: what the definitions that the contracts cite say in 01's words. Proved in proofs/Halves and Middles.
use Rattle.std.specs.Prelude.{◌≡◌, true, ◌↔◌, ℕ, suc, ◌+◌, ◌*◌, ◌%◌, T, Float, Ok}
use Rattle.std.specs.Float.{binary64}
use Rattle.std.specs.Float.Ieee.{fits}
use Rattle.whole.specs.Half.{Half}
use Rattle.bernstein.specs.Numbers.{Span, half_box}
use Rattle.boxes.specs.declared.half.Box.{Box}
use Rattle.system.specs.Directions.{direction_at}
use Rattle.boxes.specs.Boxes.{as_box, box_ok, Allowed, half_of}
use Rattle.boxes.specs.Middles.{over_power, middle, half_width, Exactly}

-- 01, "Runs": a box passes exactly if it is allowed
abbrev pub BoxAllowed : Type 0
BoxAllowed = (b : Box) → (box_ok b ≡ true) ↔ Allowed (as_box b)

-- 01, "The numbers of a box": the child is the box's lower or upper half in that direction, and an allowed box again
abbrev pub ChildHalf : Type 0
ChildHalf = (h : Half) (b c : Box) (d : ℕ) → half_of h b d ≡ Ok c → (as_box c ≡ half_box h (direction_at d) (as_box b)) × Allowed (as_box c)

-- 01, "Runs": both doubles are exact
abbrev pub DoublesExact : Type 0
DoublesExact = (i : Span) → Exactly (middle i) (2 * i.position + 1) (suc i.cuts) × Exactly (half_width i) 1 (suc i.cuts)

-- no other double is exactly an odd number over that power of two
abbrev pub DoublesOnce : Type 0
DoublesOnce = (x : Float) (a s : ℕ) → T (fits binary64 x) → a % 2 ≡ 1 → Exactly x a (suc s) → x ≡ over_power a s
