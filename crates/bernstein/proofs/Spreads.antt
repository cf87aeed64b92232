-- Steps of the cut as sums: entry j after k steps is a binomial sum of its neighbours; so formula (2) is the weighted coefficients, cut once along each direction, and
-- that is how starting numbers are made. Assumes nothing.
use mathlib.Core.Path.{◌≡◌, refl, sym, ◌∙◌, ap, ap₂, fun_ext}
use Prim.Native.Nat.{ℕ, zero, suc, ◌+◌, ◌-◌, ◌^◌, ◌≤◌, min}
use native.Mathlib.Omega.{arith}
use native.Mathlib.Nat as NatL
use lib.IntN.{ℤ, pos, ◌+ℤ◌, ◌*ℤ◌}
use Rattle.whole.specs.Half.{lower, upper}
use Rattle.whole.specs.Sums.{sum_to}
use Rattle.whole.proofs.Ring.{one-*ℤ, *ℤ-assoc}
use Rattle.whole.proofs.Choose.{choose_zero}
use Rattle.whole.proofs.Parts.{by_lt}
use Rattle.bernstein.specs.Three.{Direction, first, second, third, ◌!◌, Upto}
use Rattle.bernstein.specs.Numbers.{Degrees, Index, Patch, weight, formula, after, half_line, weighted, spread}
use Rattle.bernstein.proofs.Functionals.{Line, comb, combs}
use Rattle.bernstein.proofs.Steps.{Splits}
use Rattle.bernstein.proofs.Lines.{after_same, casteljau}
use Rattle.bernstein.proofs.Binomials.{row, pascal_sum, sum_one}
use Rattle.bernstein.proofs.Nested.{nested_cong, nested_weights}
use Rattle.bernstein.proofs.Boxes.{formula_nested}

-- ---- the steps of one line
-- binomial sums of neighbours split
sums : Line → ℕ → ℕ → ℕ → ℤ
sums b c p q = comb (suc c) (row c) (λ t. b (q + t))

sums_split : (b : Line) → Splits (sums b)
unfolding sums
sums_split b = record { split = λ c p q. pascal_sum c (λ t. b (q + t)) ∙ ap (λ f. comb (suc c) (row c) (λ t. b (q + t)) +ℤ comb (suc c) (row c) f) (fun_ext λ t. ap b (let e : q + suc t ≡ suc q + t = omega arith in e)) }

pub after_sums : (b : Line) (k j : ℕ) → after b k j ≡ comb (suc (min k j)) (row (min k j)) (λ t. b (j - k + t))
unfolding sums
after_sums b k j = casteljau _ (sums_split b) j b (λ i l.
    sym (sum_one _ ∙ ap₂ (λ (x y : ℕ). pos x *ℤ b y) (choose_zero 0) (NatL.add-zero i) ∙ one-*ℤ (b i))) k j (NatL.le_refl j)

-- after all its steps
pub after_all : (n : ℕ) (b : Line) (j : ℕ) → j ≤ n → after b n j ≡ comb (suc j) (row j) b
after_all n b j l =
    after_sums b n j
    ∙ ap₂ (λ (x y : ℕ). comb (suc x) (row x) (λ t. b (y + t))) (let e : min n j ≡ j = omega arith in e) (let e : j - n ≡ 0 = omega arith in e)
    ∙ ap (comb (suc j) (row j)) (fun_ext λ t. ap b (NatL.zero-add t))

-- an entry stays from step j on
pub after_still : (b : Line) (k j : ℕ) → j ≤ k → after b k j ≡ after b j j
after_still b zero j h = let e : j ≡ 0 = omega arith in rw e refl
after_still b (suc k) j h = by_lt k j (λ p. let e : j ≡ suc k = omega arith in rw e refl) (λ p. after_same b k j p ∙ after_still b k j p)

pub half_lower : (n : ℕ) (b : Line) (j : ℕ) → j ≤ n → half_line lower n b j ≡ pos (2 ^ (n - j)) *ℤ after b j j
unfolding half_line
half_lower n b j l = ap (λ z. pos (2 ^ (n - j)) *ℤ z) (after_still b n j l)

pub half_upper : (n : ℕ) (b : Line) (j : ℕ) → half_line upper n b j ≡ pos (2 ^ j) *ℤ after b (n - j) n
unfolding half_line
half_upper n b j = refl

-- how starting numbers are made: what stands before the steps along r, the third direction first
abbrev pub stage : Degrees → Patch → Direction → Patch
stage n a third = weighted n a
stage n a second = spread n third (weighted n a)
stage n a first = spread n second (spread n third (weighted n a))

pub formula_spread : (n : Degrees) (a : Patch) (j : Index) → Upto j n → spread n first (stage n a first) j ≡ formula n a j
formula_spread n a j u =
    after_all n.x₁ _ j.x₁ (u.upto first)
    ∙ ap (comb (suc j.x₁) (row j.x₁)) (fun_ext λ i₁.
    after_all n.x₂ _ j.x₂ (u.upto second)
    ∙ ap (comb (suc j.x₂) (row j.x₂)) (fun_ext λ i₂. after_all n.x₃ _ j.x₃ (u.upto third)))
    ∙ nested_weights (λ r. (combs (suc (j ! r)) (row (j ! r))).linear) (λ r t. pos (weight (n ! r) t)) a
    ∙ nested_cong (λ r f. ap (sum_to (suc (j ! r))) (fun_ext λ t. sym (*ℤ-assoc (row (j ! r) t) (pos (weight (n ! r) t)) (f t)))) a
    ∙ sym (formula_nested n a j)
