-- Computed tests as laws: a test of all numbers below n, and of all triples of numbers to 6 where a condition holds. Such a test of a table is proved by `tt`.
-- Assumes nothing.
use mathlib.Core.Path.{◌≡◌, subst}
use mathlib.Core.Bool.{Bool, true, false, cond}
use Prim.Native.Nat.{ℕ, zero, suc, ◌≤◌, ◌<◌}
use native.Mathlib.Omega.{arith}
use native.Mathlib.Nat as NatL
use lib.Dec.{T}
use Rattle.whole.proofs.Parts.{by_lt}

pub both : (x y : Bool) → T (cond x y false) → T x × T y
both true y t = (tt, t)
both false y t = absurd t

pub together : (x y : Bool) → T x → T y → T (cond x y false)
together true y t u = u
together false y t u = absurd t

pub given : (x y : Bool) → T (cond x y true) → T x → T y
given true y t u = t
given false y t u = absurd u

abbrev pub all : (ℕ → Bool) → ℕ → Bool
all p zero = true
all p (suc n) = cond (p n) (all p n) false

pub all_at : (p : ℕ → Bool) (n i : ℕ) → T (all p n) → i < n → T (p i)
all_at p zero i t h = absurd (NatL.not-suc-le-zero h)
all_at p (suc n) i t h =
    by_lt i n (all_at p n i (both (p n) (all p n) t).1) (λ m. let e : n ≡ i = omega arith in subst (λ (x : ℕ). T (p x)) e (both (p n) (all p n) t).0)

-- where p holds, q does
abbrev pub implied : (ℕ → ℕ → ℕ → Bool) → (ℕ → ℕ → ℕ → Bool) → Bool
implied p q = all (λ x. all (λ y. all (λ z. cond (p x y z) (q x y z) true) 7) 7) 7

pub implied_at : (p q : ℕ → ℕ → ℕ → Bool) → T (implied p q) → (x y z : ℕ) → x ≤ 6 → y ≤ 6 → z ≤ 6 → T (p x y z) → T (q x y z)
implied_at p q t x y z a b c = given (p x y z) _
    (all_at (λ z. cond (p x y z) (q x y z) true) 7 z
    (all_at (λ y. all (λ z. cond (p x y z) (q x y z) true) 7) 7 y
    (all_at (λ x. all (λ y. all (λ z. cond (p x y z) (q x y z) true) 7) 7) 7 x t (omega arith)) (omega arith)) (omega arith))
