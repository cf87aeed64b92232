-- Rational points in whole numbers (01, "The numbers of a box"): one numerator per direction over a common q above 0; a point in a closed box, the value of a
-- polynomial at a point, multiplied out, and a strict sign. Definitions only.
use Rattle.std.specs.Prelude.{suc, ◌-◌, ◌^◌, ℤ, pos, ◌*ℤ◌, ◌-ℤ◌, ◌≤ℤ◌, ◌<ℤ◌}
use Rattle.std.proofs.Math.IntN.{pow}
use Rattle.whole.specs.Sums.{choose}
use Rattle.bernstein.specs.Three.{Direction, Three, three, ◌!◌, Upto, sum_upto, product}
use Rattle.bernstein.specs.Numbers.{Degrees, Index, Patch, Span, Box}

-- k / 2^s ≤ X / q ≤ (k + 1) / 2^s
pub record Inside (i : Span) (X q : ℤ) : Type 0 where
  pub above : (pos i.position *ℤ q) ≤ℤ (pos (2 ^ i.cuts) *ℤ X)
  pub below : (pos (2 ^ i.cuts) *ℤ X) ≤ℤ (pos (suc i.position) *ℤ q)

-- the point X / q lies in the closed box, edges counted
pub record Within (b : Box) (X : Three ℤ) (q : ℤ) : Type 0 where
  pub within : (r : Direction) → Inside (b ! r) (X ! r) q

-- The value of the polynomial a where variable r is X / q, with a q for each direction, times the product of all q^n.
unfoldable pub value_over : Degrees → Three ℤ → Three ℤ → Patch → ℤ
value_over n X q a = sum_upto n (λ i. product (λ r. pow (X ! r) (i ! r) *ℤ pow (q ! r) (n ! r - i ! r)) *ℤ a i)

-- The value at X / q, times q^(n1 + n2 + n3).
abbrev pub value : Degrees → Three ℤ → ℤ → Patch → ℤ
value n X q a = value_over n X (three q q q) a

-- Bernstein's form (004, section 2.1): the sum over J of p_J · C(N, J) y^J (1 - y)^(N - J) at y = Y / Q, times the product of all Q^n.
unfoldable pub bernstein_value : Degrees → Three ℤ → Three ℤ → Patch → ℤ
bernstein_value n Y Q p =
    sum_upto n (λ j. product (λ r. pos (choose (n ! r) (j ! r)) *ℤ pow (Y ! r) (j ! r) *ℤ pow (Q ! r -ℤ Y ! r) (n ! r - j ! r)) *ℤ p j)

-- a strict sign: zero has neither
pub data Sign : Type 0 where
  above below : Sign

abbrev pub Has : Sign → ℤ → Type 0
Has above z = pos 0 <ℤ z
Has below z = z <ℤ pos 0

-- all numbers of a patch have it
pub record AllHave (s : Sign) (n : Degrees) (p : Patch) : Type 0 where
  pub all_have : (j : Index) → Upto j n → Has s (p j)
