-- The scale of each degree from 0 to 6 and its weights, scale / C(n, t): whole, and they pass from one place to another as binomial coefficients do. The scales are a
-- table, so both are one computed test. Assumes nothing.
use mathlib.Core.Path.{◌≡◌}
use mathlib.Core.Bool.{Bool, false, cond}
use Prim.Native.Nat.{ℕ, zero, suc, ◌+◌, ◌*◌, ◌-◌, ◌≤◌, ◌<◌}
use native.Mathlib.Omega.{arith}
use lib.Dec.{T, eqb, ltb, leb, eqb→eq, ltb→lt, le→leb}
use Rattle.whole.specs.Sums.{choose}
use Rattle.bernstein.specs.Numbers.{scale, weight}
use Rattle.bernstein.specs.Claims.{WeightsWhole, Multiple, ScaleLeast}
use Rattle.bernstein.proofs.Tests.{both, implied, implied_at}

-- ---- whole weights w of the scale S
pub record Weights (n S : ℕ) (w : ℕ → ℕ) : Type 0 where
  pub some : 0 < S
  pub whole : (t : ℕ) → t ≤ n → choose n t * w t ≡ S
  pub moves : (t r : ℕ) → t + r ≤ n → w t * choose (t + r) t ≡ choose (n - t) r * w (t + r)

is_whole : ℕ → ℕ → Bool
is_whole n t = eqb (choose n t * weight n t) (scale n)

moves_on : ℕ → ℕ → ℕ → Bool
moves_on n t r = eqb (weight n t * choose (t + r) t) (choose (n - t) r * weight n (t + r))

right : ℕ → ℕ → ℕ → Bool
right n t r = cond (ltb 0 (scale n)) (cond (is_whole n t) (moves_on n t r) false) false

all_right : T (implied (λ n t r. leb (t + r) n) right)
unfolding right is_whole moves_on scale weight choose
all_right = tt

pub weights : (n : ℕ) → n ≤ 6 → Weights n (scale n) (weight n)
unfolding right is_whole moves_on
weights n h = record { some = ltb→lt _ _ (at 0 0 (omega arith)).0; whole = λ t l. eqb→eq _ _ (at t 0 (omega arith)).1; moves = λ t r l. eqb→eq _ _ (at t r l).2 }
  where
    at : (t r : ℕ) → t + r ≤ n → T (ltb 0 (scale n)) × T (is_whole n t) × T (moves_on n t r)
    at t r l =
        let x = both (ltb 0 (scale n)) (cond (is_whole n t) (moves_on n t r) false) (implied_at (λ n t r. leb (t + r) n) right all_right n t r h (omega arith) (omega arith) (le→leb (t + r) n l)) in
        let y = both (is_whole n t) (moves_on n t r) x.1 in
        (x.0, y.0, y.1)

pub weights_whole : WeightsWhole
weights_whole n i h l = (weights n h).whole i l

-- ---- the least common multiple: the scale is one of the C(n, i), or a difference of multiples of two of them (12 is 3 · 4 and 2 · 6, 60 is 4 · 15 and 3 · 20)
multiple_of : (d k c : ℕ) → k ≡ c * d → Multiple d k
multiple_of d k c e = record { times = c; is = e }

by_two : (k a b : ℕ) → k ≡ a * 4 → k ≡ b * 6 → k ≡ (a - b) * 12
by_two k a b e f = omega arith

by_three : (k a b : ℕ) → k ≡ a * 15 → k ≡ b * 20 → k ≡ (a - b) * 60
by_three k a b e f = omega arith

pub scale_least : ScaleLeast
unfolding scale choose
scale_least zero k h m = m 0 (omega arith)
scale_least (suc zero) k h m = m 0 (omega arith)
scale_least (suc (suc zero)) k h m = m 1 (omega arith)
scale_least (suc (suc (suc zero))) k h m = m 1 (omega arith)
scale_least (suc (suc (suc (suc zero)))) k h m =
    let four = m 1 (omega arith) in
    let six = m 2 (omega arith) in
    multiple_of 12 k (four.times - six.times) (by_two k four.times six.times four.is six.is)
scale_least (suc (suc (suc (suc (suc zero))))) k h m = m 2 (omega arith)
scale_least (suc (suc (suc (suc (suc (suc zero)))))) k h m =
    let fifteen = m 2 (omega arith) in
    let twenty = m 3 (omega arith) in
    multiple_of 60 k (fifteen.times - twenty.times) (by_three k fifteen.times twenty.times fifteen.is twenty.is)
scale_least (suc (suc (suc (suc (suc (suc (suc n))))))) k h m = absurd (omega arith)
