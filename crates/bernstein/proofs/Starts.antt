-- The starting numbers fit: with coefficients of size at most 10^9 and at most 64 places they keep to 2^62 - 1, and so does every number on the way to them.
-- Assumes nothing.
use mathlib.Core.Path.{◌≡◌, subst}
use mathlib.Core.Bool.{Bool, false, cond}
use Prim.Native.Nat.{ℕ, suc, ◌+◌, ◌*◌, ◌^◌, ◌≤◌, ◌<◌}
use native.Mathlib.Omega.{arith}
use native.Mathlib.Nat as NatL
use lib.Dec.{T, leb, ltb, leb→le, le→leb, ltb→lt}
use lib.Pow.{pow_pos}
use lib.IntN.{ℤ, pos, nat_abs, ◌*ℤ◌}
use Rattle.whole.specs.Sums.{choose}
use Rattle.whole.proofs.Sizes.{nat_abs-*}
use Rattle.whole.proofs.Sums.{sum_abs}
use Rattle.whole.proofs.Choose.{choose_self}
use Rattle.bernstein.specs.Three.{Direction, first, second, third, three, ◌!◌, Upto, sum_upto, product}
use Rattle.bernstein.specs.Numbers.{Degrees, Small, Index, Patch, scale, weight, formula, Cuttable, weighted}
use Rattle.bernstein.specs.Places.{size}
use Rattle.bernstein.specs.Claims.{StartFits}
use Rattle.bernstein.proofs.Tests.{together, implied, implied_at}
use Rattle.bernstein.proofs.Nested.{upto_three}
use Rattle.bernstein.proofs.Sizes.{two_room, line_size}
use Rattle.bernstein.proofs.Spreads.{stage}

-- ---- each factor C(j, t) · scale / C(n, t) is at most 60: one computed test
small_factor : ℕ → ℕ → ℕ → Bool
small_factor n j t = leb (choose j t * weight n t) 60

small_factors : T (implied (λ n j t. cond (leb j n) (leb t j) false) small_factor)
unfolding small_factor weight scale choose
small_factors = tt

pub factor_le : (n j t : ℕ) → n ≤ 6 → j ≤ n → t ≤ j → choose j t * weight n t ≤ 60
unfolding small_factor
factor_le n j t a b c =
    leb→le _ 60
    (implied_at (λ n j t. cond (leb j n) (leb t j) false) small_factor small_factors n j t a (omega arith) (omega arith) (together (leb j n) (leb t j) (le→leb j n b) (le→leb t j c)))

-- ---- the size of a sum over I ≤ N
pub sum_size : (n : Degrees) (B : ℕ) (f : Index → ℤ) → ((i : Index) → Upto i n → nat_abs (f i) ≤ B) → nat_abs (sum_upto n f) ≤ size n * B
unfolding sum_upto size
sum_size n B f h = subst (λ (x : ℕ). nat_abs (sum_upto n f) ≤ x) total
    (sum_abs _ _ _ (λ i₁ l₁. sum_abs _ _ _ (λ i₂ l₂. sum_abs _ B _ (λ i₃ l₃. h (three i₁ i₂ i₃) (upto_three (omega arith) (omega arith) (omega arith))))))
  where
    total : suc n.x₁ * (suc n.x₂ * (suc n.x₃ * B)) ≡ (n.x₁ + 1) * (n.x₂ + 1) * (n.x₃ + 1) * B
    total = omega arith

size_le : (j n : Degrees) → Upto j n → size j ≤ size n
unfolding size
size_le j n u = NatL.mul-le-mul (NatL.mul-le-mul (omega (arith, u.upto first)) (omega (arith, u.upto second))) (omega (arith, u.upto third))

more : (k x : ℕ) → x ≤ 2 ^ k * x
more k x = omega (arith, NatL.mul-le-mul_right x (pow_pos k))

-- three factors of at most 60
factors_size : (c : Direction → ℕ) → ((r : Direction) → c r ≤ 60) → (z : ℤ) (A : ℕ) → nat_abs z ≤ A → nat_abs (product (λ r. pos (c r)) *ℤ z) ≤ 60 * 60 * 60 * A
factors_size c le z A h = rw (nat_abs-* _ z) (NatL.mul-le-mul (NatL.mul-le-mul (NatL.mul-le-mul (le first) (le second)) (le third)) h)

module _ (n : Degrees) (m : Small n) (a : Patch) (A : ℕ) (h : (i : Index) → Upto i n → nat_abs (a i) ≤ A) where
  pub start_size : (j : Index) → Upto j n → nat_abs (formula n a j) ≤ size n * (60 * 60 * 60 * A)
  unfolding formula
  start_size j u = NatL.le_trans
      (sum_size j _ _ (λ t v. factors_size _ (λ r. factor_le (n ! r) (j ! r) (t ! r) (m.small r) (u.upto r) (v.upto r))
      (a t) A (h t (record { upto = λ r. NatL.le_trans (v.upto r) (u.upto r) }))))
      (NatL.mul-le-mul_right _ (size_le j n u))

  -- the coefficients with their weights
  pub weighted_size : (i : Index) → Upto i n → nat_abs (weighted n a i) ≤ 60 * 60 * 60 * A
  weighted_size i u = factors_size (λ r. weight (n ! r) (i ! r)) (λ r. omega (arith, rw (choose_self (i ! r)) at (factor_le (n ! r) (i ! r) (i ! r) (m.small r) (u.upto r) (NatL.le_refl (i ! r))))) (a i) A (h i u)

pub start_fits : StartFits
start_fits n m s a h = record { stored = λ j u. record { below = omega (arith, start_size n m a 1000000000 h j u) } }

-- ---- on the way there every number fits: what stands before the steps along a direction is such as can be cut in it
abbrev most : ℕ
most = 60 * 60 * 60 * 1000000000

-- at most 64 places leave room for all the steps: one computed test
roomy : ℕ → ℕ → ℕ → Bool
roomy x y z = ltb (2 ^ x * (2 ^ y * (2 ^ z * most))) (2 ^ 62)

all_roomy : T (implied (λ x y z. leb ((x + 1) * (y + 1) * (z + 1)) 64) roomy)
unfolding roomy
all_roomy = tt

room : (n : Degrees) → Small n → size n ≤ 64 → 2 ^ n.x₁ * (2 ^ n.x₂ * (2 ^ n.x₃ * most)) < 2 ^ 62
unfolding roomy size
room n m s = ltb→lt _ _ (implied_at (λ x y z. leb ((x + 1) * (y + 1) * (z + 1)) 64) roomy all_roomy n.x₁ n.x₂ n.x₃ (m.small first) (m.small second) (m.small third) (le→leb _ 64 s))

module _ (n : Degrees) (m : Small n) (s : size n ≤ 64) (a : Patch) (h : (i : Index) → Upto i n → nat_abs (a i) ≤ 1000000000) where
  -- how great the numbers before the steps along r can be
  reach : Direction → ℕ
  reach third = most
  reach second = 2 ^ n.x₃ * most
  reach first = 2 ^ n.x₂ * (2 ^ n.x₃ * most)

  stage_size : (r : Direction) (i : Index) → Upto i n → nat_abs (stage n a r i) ≤ reach r
  unfolding reach
  stage_size third i u = weighted_size n m a 1000000000 h i u
  stage_size second i u = line_size n _ (stage n a third) (weighted_size n m a 1000000000 h) third n.x₃ i u
  stage_size first i u = line_size n _ (stage n a second) (line_size n _ (stage n a third) (weighted_size n m a 1000000000 h) third n.x₃) second n.x₂ i u

  reach_room : (r : Direction) → 2 ^ (n ! r) * reach r < 2 ^ 62
  unfolding reach
  reach_room first = room n m s
  reach_room second = NatL.lt_of_le_of_lt (more n.x₁ _) (room n m s)
  reach_room third = NatL.lt_of_le_of_lt (more n.x₂ _) (NatL.lt_of_le_of_lt (more n.x₁ _) (room n m s))

  pub start_cuttable : (r : Direction) → Cuttable n r (stage n a r)
  start_cuttable r = record {
    cuttable = λ i u. record {
      below = NatL.lt_of_mul-lt-mul_left (2 ^ (n ! r)) (rw (two_room (n ! r) (omega (arith, m.small r))) (NatL.lt_of_le_of_lt (NatL.mul-le-mul_left _ (stage_size r i u)) (reach_room r)));
    };
  }
