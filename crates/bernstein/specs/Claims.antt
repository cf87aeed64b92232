-- What is proved of the numbers of a box, as statements: the start, the cut, the sign, the halves, the sizes, the places, and that the definitions mean what they say.
-- The proofs are in proofs/; each is named as its statement.
use Rattle.std.specs.Prelude.{◌≡◌, ◌⊎◌, ℕ, suc, ◌+◌, ◌*◌, ◌^◌, ◌≤◌, ◌<◌, ℤ, pos, nat_abs, ◌+ℤ◌, ◌*ℤ◌, ◌<ℤ◌}
use Rattle.whole.specs.Half.{Half, lower, upper}
use Rattle.whole.specs.Sums.{choose}
use Rattle.bernstein.specs.Three.{Direction, Three, three, ◌!◌, replace, Upto, product}
use Rattle.bernstein.specs.Numbers.{Degrees, Small, Index, Patch, Span, Box, unit, half_box, scale, weight, moved, formula, Exact, half_patch, Cuttable, Stored}
use Rattle.bernstein.specs.Points.{Inside, Within, value_over, value, bernstein_value, Sign, Has, AllHave}
use Rattle.bernstein.specs.Places.{place, size, index, stride}

-- "Scale: .. the least common multiple": a multiple of each C(n, i), so that the weights are whole.
abbrev pub WeightsWhole : Type 0
WeightsWhole = (n i : ℕ) → n ≤ 6 → i ≤ n → choose n i * weight n i ≡ scale n

-- and the least one: whatever is a multiple of each C(n, i) is a multiple of the scale.
pub record Multiple (d k : ℕ) : Type 0 where
  pub times : ℕ
  pub is : k ≡ times * d

abbrev pub ScaleLeast : Type 0
ScaleLeast = (n k : ℕ) → n ≤ 6 → ((i : ℕ) → i ≤ n → Multiple (choose n i) k) → Multiple (scale n) k

-- "Bernstein coefficient at J on the unit box (004, formula 2)": there the stored numbers are formula (2) times the scale.
abbrev pub StartExact : Type 0
StartExact = (n : Degrees) → Small n → (a : Patch) → Exact n unit a (formula n a)

-- The halves of exact numbers are the exact numbers of the halves, in every direction.
abbrev pub CutExact : Type 0
CutExact = (n : Degrees) → Small n → (a p : Patch) (b : Box) → Exact n b a p → (h : Half) (r : Direction) → Exact n (half_box h r b) a (half_patch h n r p)

-- All numbers above zero, or all below: so is the value at every rational point of the closed box.
abbrev pub SignHolds : Type 0
SignHolds = (n : Degrees) → Small n → (a p : Patch) (b : Box) → Exact n b a p → (s : Sign) → AllHave s n p
    → (X : Three ℤ) (q : ℤ) → pos 0 <ℤ q → Within b X q → Has s (value n X q a)

-- "It is the closed interval from k/2^s to (k+1)/2^s": both ends lie in it.
abbrev pub EndsInside : Type 0
EndsInside = (i : Span) → Inside i (pos i.position) (pos (2 ^ i.cuts)) × Inside i (pos (suc i.position)) (pos (2 ^ i.cuts))

-- A point of a box lies in its lower or in its upper half, and a point of a half in the box.
abbrev pub HalvesCover : Type 0
HalvesCover = (r : Direction) (b : Box) (X : Three ℤ) (q : ℤ) → Within b X q → Within (half_box lower r b) X q ⊎ Within (half_box upper r b) X q

abbrev pub HalvesInside : Type 0
HalvesInside = (h : Half) (r : Direction) (b : Box) (X : Three ℤ) (q : ℤ) → Within (half_box h r b) X q → Within b X q

-- "A box can be cut": then the numbers of both halves are at most M in size.
abbrev pub CutFits : Type 0
CutFits = (n : Degrees) → Small n → (h : Half) (r : Direction) (p : Patch) → Cuttable n r p → Stored n (half_patch h n r p)

-- "The starting numbers always fit."
abbrev pub StartFits : Type 0
StartFits = (n : Degrees) → Small n → size n ≤ 64 → (a : Patch) → ((i : Index) → Upto i n → nat_abs (a i) ≤ 1000000000) → Stored n (formula n a)

-- "Term (i1,i2,i3) has place ..": below S, no place twice, and a step in direction r is the stride of r.
abbrev pub PlaceBelow : Type 0
PlaceBelow = (n : Degrees) (j : Index) → Upto j n → place n j < size n

abbrev pub PlaceOnce : Type 0
PlaceOnce = (n : Degrees) (i j : Index) → Upto i n → Upto j n → place n i ≡ place n j → i ≡ j

abbrev pub PlaceSteps : Type 0
PlaceSteps = (n : Degrees) (r : Direction) (j : Index) → place n j ≡ place n (replace r 0 j) + j ! r * stride n r

-- The index of a place has that place, and the place of an index that index.
abbrev pub IndexOfPlace : Type 0
IndexOfPlace = (n : Degrees) (j : Index) → Upto j n → index n (place n j) ≡ j

abbrev pub PlaceOfIndex : Type 0
PlaceOfIndex = (n : Degrees) (p : ℕ) → p < size n → Upto (index n p) n × (place n (index n p) ≡ p)

-- ---- the definitions mean what they say
-- The moved polynomial at y = Y / Q is the polynomial at (k + y) / 2^s, that is at (k Q + Y) / (2^s Q), multiplied out.
abbrev pub moved_to : Box → Three ℤ → Three ℤ → Three ℤ
moved_to b Y Q = three (at b.x₁ Y.x₁ Q.x₁) (at b.x₂ Y.x₂ Q.x₂) (at b.x₃ Y.x₃ Q.x₃)
  where
    at : Span → ℤ → ℤ → ℤ
    at i y q = pos i.position *ℤ q +ℤ y

abbrev pub finer : Box → Three ℤ → Three ℤ
finer b Q = three (pos (2 ^ b.x₁.cuts) *ℤ Q.x₁) (pos (2 ^ b.x₂.cuts) *ℤ Q.x₂) (pos (2 ^ b.x₃.cuts) *ℤ Q.x₃)

abbrev pub MovedMeans : Type 0
MovedMeans = (n : Degrees) (b : Box) (a : Patch) (Y Q : Three ℤ) → value_over n Y Q (moved n b a) ≡ value_over n (moved_to b Y Q) (finer b Q) a

-- Bernstein's form with the coefficients of formula (2) is the polynomial (004, section 2.1), times the scale.
abbrev pub FormulaMeans : Type 0
FormulaMeans = (n : Degrees) → Small n → (c : Patch) (Y Q : Three ℤ) → bernstein_value n Y Q (formula n c) ≡ product (λ r. pos (scale (n ! r))) *ℤ value_over n Y Q c

-- Together: exact numbers on a box are, times the scale and the powers of two, the coefficients of Bernstein's form of the polynomial there.
abbrev pub ExactMeans : Type 0
ExactMeans = (n : Degrees) → Small n → (b : Box) (a p : Patch) → Exact n b a p → (Y Q : Three ℤ)
    → bernstein_value n Y Q p ≡ product (λ r. pos (scale (n ! r))) *ℤ value_over n (moved_to b Y Q) (finer b Q) a
