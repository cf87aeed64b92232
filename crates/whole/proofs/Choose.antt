-- Laws of the binomial coefficients: the ends of a row, Pascal's rule, the factor that passes to the row below. Assumes nothing.
use mathlib.Core.Path.{◌≡◌, refl, ap₂, ◌∙◌}
use Prim.Native.Nat.{ℕ, zero, suc, ◌+◌, ◌*◌, ◌≤◌, ◌<◌}
use native.Mathlib.Omega.{arith}
use native.Mathlib.Nat as NatL
use Rattle.whole.specs.Sums.{choose}

pub choose_pascal : (n k : ℕ) → choose (suc n) (suc k) ≡ choose n k + choose n (suc k)
unfolding choose
choose_pascal n k = refl

pub choose_zero : (n : ℕ) → choose n 0 ≡ 1
unfolding choose
choose_zero zero = refl
choose_zero (suc n) = refl

pub choose_above : (n k : ℕ) → n < k → choose n k ≡ 0
unfolding choose
choose_above zero zero h = absurd (NatL.lt_irrefl 0 h)
choose_above zero (suc k) h = refl
choose_above (suc n) zero h = absurd (NatL.not-suc-le-zero h)
choose_above (suc n) (suc k) h = ap₂ ◌+◌ (choose_above n k (omega arith)) (choose_above n (suc k) (omega arith))

pub choose_self : (n : ℕ) → choose n n ≡ 1
unfolding choose
choose_self zero = refl
choose_self (suc n) = ap₂ ◌+◌ (choose_self n) (choose_above n (suc n) (omega arith))

pub choose_one : (n : ℕ) → choose n 1 ≡ n
unfolding choose
choose_one zero = refl
choose_one (suc n) = ap₂ ◌+◌ (choose_zero n) (choose_one n) ∙ omega arith

pub choose_positive : (n k : ℕ) → k ≤ n → 0 < choose n k
unfolding choose
choose_positive zero zero h = omega arith
choose_positive zero (suc k) h = absurd (NatL.not-suc-le-zero h)
choose_positive (suc n) zero h = omega arith
choose_positive (suc n) (suc k) h = let p : 0 < choose n k = choose_positive n k (omega arith) in omega arith

-- (k + 1) C(n + 1, k + 1) = (n + 1) C(n, k)
pub choose_absorb : (n k : ℕ) → suc k * choose (suc n) (suc k) ≡ suc n * choose n k
unfolding choose
choose_absorb zero zero = refl
choose_absorb zero (suc k) = omega arith
choose_absorb (suc n) zero = let h : 1 * choose (suc n) 1 ≡ suc n * choose n 0 = choose_absorb n 0 in let z : choose n 0 ≡ 1 = choose_zero n in let o : choose n 1 ≡ n = choose_one n in omega arith
choose_absorb (suc n) (suc k) =
    let h : suc k * choose (suc n) (suc k) ≡ suc n * choose n k = choose_absorb n k in
    let g : suc (suc k) * choose (suc n) (suc (suc k)) ≡ suc n * choose n (suc k) = choose_absorb n (suc k) in
    omega arith
