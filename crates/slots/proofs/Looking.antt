-- The rules of a visit in the terms of the code: the search for a polynomial with one sign, and where the counts of cuts stand. Assumes nothing.
use Rattle.whole.specs.declared.Sign.{Sign}
use Rattle.std.specs.Prelude.{Option, None, ◌≤ℤ◌}
use mathlib.Core.Path.{◌≡◌, refl, sym, ◌∙◌}
use mathlib.Core.List.{List}
use Prim.Native.Nat.{ℕ, suc, ◌+◌, ◌*◌, ◌-◌, ◌≤◌, ◌<◌}
use native.Mathlib.Omega.{arith}
use native.Mathlib.Nat as NatL
use lib.IntN.{ℤ, pos}
use lib.ListN.{length, take, drop}
use lib.Seq.{drop-drop}
use Rattle.bernstein.specs.Three as Three
use Rattle.bernstein.specs.Three.{three, first, second, third, ◌!◌}
use Rattle.bernstein.specs.Places.{size}
use Rattle.system.specs.declared.head.Head.{Head}
use Rattle.system.specs.Heads.{degrees, places}
use Rattle.lines.specs.Sides.{SideIs}
use Rattle.slots.specs.Slots.{at, numbers, SlotFits}
use Rattle.slots.specs.Rules.{signed, decided}
use Rattle.slots.proofs.Tests.{by_side, signed_side}

-- ---- the sign: polynomials 1 to p are mixed
pub record Deciding (s : List ℤ) (size m p : ℕ) : Type 0 where
  pub inside : p ≤ m
  pub goes_on : decided m size 1 (numbers s) ≡ decided (m - p) size (suc p) (drop (6 + p * size) s)

decided_suc : (c size p : ℕ) (xs : List ℤ) → decided (suc c) size p xs ≡ signed p (take size xs) (decided c size (suc p) (drop size xs))
unfolding decided
decided_suc c size p xs = refl

-- polynomial p + 1 stands in the slot
pub part_fits : (s : List ℤ) (size m p : ℕ) → length s ≡ 6 + m * size → p < m → 6 + p * size + size ≤ length s
part_fits s size m p l h = omega (arith, NatL.mul-le-mul_right size (let q : suc p ≤ m = h in q))

module _ {s : List ℤ} {size m p : ℕ} (d : Deciding s size m p) where
  pub deciding_end : m ≤ p → None ≡ decided m size 1 (numbers s)
  unfolding decided
  deciding_end h = let e : m - p ≡ 0 = omega arith in sym (d.goes_on ∙ rw e refl)

  -- what the side of the next polynomial makes of the rest
  pub turn : {start : ℕ} {r : Option Sign} → length s ≡ 6 + m * size → p < m → start ≡ 6 + p * size → SideIs s start (start + size) r
      → decided m size 1 (numbers s) ≡ by_side r (p + 1) (decided (m - (p + 1)) size (suc (p + 1)) (drop (6 + (p + 1) * size) s))
  turn {start} {r} l h b i =
      let e : m - p ≡ suc (m - (p + 1)) = omega arith in
      let n : suc p ≡ p + 1 = omega arith in
      let z : 6 + p * size + size ≡ 6 + (p + 1) * size = omega arith in
      let k : 6 + p * size + size ≤ length s = part_fits s size m p l h in
      d.goes_on ∙ rw (e, decided_suc, drop-drop, z, n) (signed_side s (6 + p * size) size refl k (rw b at i) (p + 1) (decided (m - (p + 1)) size (suc (p + 1)) (drop (6 + (p + 1) * size) s)))

  pub deciding_on : {start : ℕ} → length s ≡ 6 + m * size → p < m → start ≡ 6 + p * size → SideIs s start (start + size) None → Deciding s size m (p + 1)
  deciding_on l h b i = record { inside = omega arith; goes_on = turn l h b i }

-- ---- a slot that is looked at
module _ {h : Head} {s : List ℤ} (f : SlotFits h s) where
  pub slot_long : 6 ≤ length s
  slot_long = omega (arith, f.long)

  pub slot_length : length s ≡ 6 + h.m * size (degrees h)
  unfolding places
  slot_length = f.long

  -- where the s of each direction stands
  pub cuts_column : (r : Three.Direction) → (three 0 2 4 ! r < length s) × (pos 0 ≤ℤ at s (three 0 2 4 ! r))
  cuts_column first = (omega (arith, f.long), (f.spans first).s_low)
  cuts_column second = (omega (arith, f.long), (f.spans second).s_low)
  cuts_column third = (omega (arith, f.long), (f.spans third).s_low)
