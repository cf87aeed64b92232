-- The paper's sums in one direction, and what they come to: formula (2) of the moved polynomial is the line's number of the weighted coefficients; on the unit span
-- nothing moves; Bernstein's form and the steps to a point are the value; the moved polynomial is the polynomial at the moved point. Assumes whole weights (Weights).
use mathlib.Core.Path.{◌≡◌, refl, sym, ◌∙◌, ap, ap₂, fun_ext}
use mathlib.Core.List.{[], ◌∷◌}
use Prim.Native.Nat.{ℕ, zero, suc, ◌+◌, ◌*◌, ◌-◌, ◌^◌, ◌≤◌, ◌<◌}
use native.Mathlib.Omega.{arith}
use native.Mathlib.Nat as NatL
use lib.IntN.{ℤ, pos, pow, ◌+ℤ◌, ◌-ℤ◌, ◌*ℤ◌, zero-*ℤ, +ℤ_idl, +ℤ_idr}
use Rattle.whole.specs.Sums.{sum_to, choose}
use Rattle.whole.proofs.Ring.{*ℤ-assoc, pow_zero, pow_suc, pow_add, pow-*ℤ}
use Rattle.whole.proofs.Quote.{ring, ring_from, reads}
use Rattle.whole.proofs.Sums.{sum_split, sum_zeros, sum_cong, sum-*l, sum-*r, sum_swap}
use Rattle.whole.proofs.Choose.{choose_above}
use Rattle.bernstein.specs.Numbers.{Span, span, part}
use Rattle.bernstein.proofs.Functionals.{Line, Functional, comb, combs}
use Rattle.bernstein.proofs.Steps.{step, steps, steps_steps, blends→splits, blends, pow_pos}
use Rattle.bernstein.proofs.Lines.{grid, low, number}
use Rattle.bernstein.proofs.Binomials.{row, blends_sum, splits_sum, steps_sum, binomial}
use Rattle.bernstein.proofs.Weights.{Weights}

-- ---- the sums of specs/ in one direction
abbrev pub moved_line : ℕ → Span → ℕ → Line → ℤ
moved_line n i t = comb (suc n) (λ e. pos (part n i e t))

abbrev pub formula_line : (ℕ → ℕ) → ℕ → Line → ℤ
formula_line w j = comb (suc j) (λ t. pos (choose j t * w t))

abbrev pub value_line : ℕ → ℤ → ℤ → Line → ℤ
value_line n X q = comb (suc n) (λ i. pow X i *ℤ pow q (n - i))

abbrev pub bernstein_line : ℕ → ℤ → ℤ → Line → ℤ
bernstein_line n Y Q = comb (suc n) (λ j. pos (choose n j) *ℤ pow Y j *ℤ pow (Q -ℤ Y) (n - j))

pub moved_functional : (n : ℕ) (i : Span) (t : ℕ) → Functional (moved_line n i t)
moved_functional n i t = combs (suc n) (λ e. pos (part n i e t))

pub formula_functional : (w : ℕ → ℕ) (j : ℕ) → Functional (formula_line w j)
formula_functional w j = combs (suc j) (λ t. pos (choose j t * w t))

pub value_functional : (n : ℕ) (X q : ℤ) → Functional (value_line n X q)
value_functional n X q = combs (suc n) (λ i. pow X i *ℤ pow q (n - i))

pub bernstein_functional : (n : ℕ) (Y Q : ℤ) → Functional (bernstein_line n Y Q)
bernstein_functional n Y Q = combs (suc n) (λ j. pos (choose n j) *ℤ pow Y j *ℤ pow (Q -ℤ Y) (n - j))

-- ---- the parts of a power, in ℤ
abbrev parts : ℕ → Span → ℕ → Line
parts n i t e = row e t *ℤ pow (low i) (e - t) *ℤ pow (grid i) (n - e)

two_pow : (s m : ℕ) → pos (2 ^ (s * m)) ≡ pow (pos (2 ^ s)) m
two_pow s zero = ap (λ (x : ℕ). pos (2 ^ x)) (NatL.mul-zero s) ∙ sym (pow_zero _)
two_pow s (suc m) =
    ap pos (ap (λ (x : ℕ). 2 ^ x) (NatL.mul-suc s m) ∙ lib.Pow.pow-add 2 (s * m) s) ∙ ap (λ z. z *ℤ pos (2 ^ s)) (two_pow s m) ∙ sym (pow_suc _ m)

moved_is : (n : ℕ) (i : Span) (t : ℕ) (a : Line) → moved_line n i t a ≡ comb (suc n) (parts n i t) a
moved_is n i t a = ap (λ α. comb (suc n) α a) (fun_ext λ e. ap₂ (λ x y. row e t *ℤ x *ℤ y) (sym (pow_pos i.position (e - t))) (two_pow i.cuts (n - e)))

no_part : (n : ℕ) (i : Span) (t e : ℕ) → e < t → parts n i t e ≡ pos 0
no_part n i t e l = ap (λ (x : ℕ). pos x *ℤ pow (low i) (e - t) *ℤ pow (grid i) (n - e)) (choose_above e t l) ∙ ring (pow (low i) (e - t) ∷ pow (grid i) (n - e) ∷ []) (search reads depth 20) tt

-- ---- two kinds of step that only move, or do nothing
shifts : (m : ℕ) (y : Line) (t : ℕ) → steps (pos 0) (pos 1) m y t ≡ y (t + m)
unfolding steps step
shifts zero y t = ap y (sym (NatL.add-zero t))
shifts (suc m) y t =
    ring (steps (pos 0) (pos 1) m y t ∷ steps (pos 0) (pos 1) m y (suc t) ∷ []) (search reads depth 20) tt ∙ shifts m y (suc t) ∙ ap y (let e : suc t + m ≡ t + suc m = omega arith in e)

stays : (m : ℕ) (y : Line) (t : ℕ) → steps (pos 1) (pos 0) m y t ≡ y t
unfolding steps step
stays zero y t = refl
stays (suc m) y t = ring (steps (pos 1) (pos 0) m y t ∷ steps (pos 1) (pos 0) m y (suc t) ∷ []) (search reads depth 20) tt ∙ stays m y t

-- the coefficients with their weights
abbrev pub weighted_line : (ℕ → ℕ) → Line → Line
weighted_line w a e = pos (w e) *ℤ a e

module _ {n S : ℕ} {w : ℕ → ℕ} (h : Weights n S w) (a : Line) where
  -- ---- a coefficient of the moved polynomial, with its weight, is n - t steps
  module _ (i : Span) where
    moved_term : (t r : ℕ) → t + r ≤ n → pos (w t) *ℤ (parts n i t (t + r) *ℤ a (t + r)) ≡ row (n - t) r *ℤ (pow (grid i) (n - t - r) *ℤ pow (low i) r *ℤ weighted_line w a (t + r))
    moved_term t r l =
        ap₂ (λ (x y : ℕ). pos (w t) *ℤ (row (t + r) t *ℤ pow (low i) x *ℤ pow (grid i) y *ℤ a (t + r))) (let e : t + r - t ≡ r = omega arith in e) (let e : n - (t + r) ≡ n - t - r = omega arith in e)
        ∙ ring_from (pos (w t) ∷ row (t + r) t ∷ row (n - t) r ∷ pos (w (t + r)) ∷ pow (low i) r ∷ pow (grid i) (n - t - r) ∷ a (t + r) ∷ [])
        (ap (λ (x : ℕ). pos x *ℤ (pow (low i) r *ℤ pow (grid i) (n - t - r) *ℤ a (t + r))) (h.moves t r l)) (search reads depth 20) tt

    moved_steps : (t : ℕ) → t ≤ n → pos (w t) *ℤ moved_line n i t a ≡ steps (grid i) (low i) (n - t) (weighted_line w a) t
    moved_steps t l =
        ap (λ z. pos (w t) *ℤ z)
        (moved_is n i t a ∙ ap (λ (x : ℕ). sum_to x f) (let e : suc n ≡ t + suc (n - t) = omega arith in e) ∙ sum_split t _ f
        ∙ ap (λ z. z +ℤ sum_to (suc (n - t)) (λ r. f (t + r))) (sum_zeros t f (λ e m. ap (λ z. z *ℤ a e) (no_part n i t e m) ∙ zero-*ℤ (a e))) ∙ +ℤ_idl (sum_to (suc (n - t)) (λ r. f (t + r))))
        ∙ sym (sum-*l _ (pos (w t)) _) ∙ sum_cong _ _ _ (λ r m. moved_term t r (omega arith)) ∙ sym (steps_sum (grid i) (low i) (n - t) _ t)
      where
        f : Line
        f e = parts n i t e *ℤ a e

    -- formula (2) by steps
    formula_steps : (j : ℕ) → j ≤ n → (f : Line) → ((t : ℕ) → t ≤ n → pos (w t) *ℤ moved_line n i t a ≡ f t) → formula_line w j (λ t. moved_line n i t a) ≡ comb (suc j) (row j) f
    formula_steps j l f e = sum_cong (suc j) _ _ (λ t m.
        *ℤ-assoc (row j t) (pos (w t)) (moved_line n i t a) ∙ ap (λ z. row j t *ℤ z) (e t (omega arith)))

    -- formula (2) of the moved polynomial is the line's number of the weighted coefficients
    pub exact_number : (j : ℕ) → j ≤ n → formula_line w j (λ t. moved_line n i t a) ≡ number n i j (weighted_line w a)
    unfolding number steps
    exact_number j l =
        formula_steps j l (λ t. steps (grid i) (low i) (n - t) (steps (pos 0) (pos 1) t (weighted_line w a)) 0) (λ t m.
        moved_steps t m ∙ ap (steps (grid i) (low i) (n - t) (weighted_line w a)) (sym (NatL.zero-add t)) ∙ sym (shifts t _ 0)
        ∙ ap (λ f. f 0) (steps_steps (pos 0) (pos 1) t (grid i) (low i) (n - t) _))
        ∙ sym (splits_sum (blends→splits (blends (pos 1) (pos 1) (grid i) (low i) (pos 0) (pos 1) (ring (grid i ∷ []) (search reads depth 20) tt) (ap pos (omega arith)) (weighted_line w a) 0)) j (n - j) n (omega arith))

  -- on the unit span nothing moves
  pub start_line : (j : ℕ) → j ≤ n → formula_line w j (λ t. moved_line n (span 0 0) t a) ≡ formula_line w j a
  start_line j l =
      formula_steps (span 0 0) j l (weighted_line w a) (λ t m. moved_steps (span 0 0) t m ∙ stays (n - t) _ t)
      ∙ ap (sum_to (suc j)) (fun_ext λ t. sym (*ℤ-assoc (row j t) (pos (w t)) (a t)))

  -- ---- the value at X / q, times q^n and the scale
  pub exact_value : (X q : ℤ) → steps q X n (weighted_line w a) 0 ≡ pos S *ℤ value_line n X q a
  exact_value X q =
      steps_sum q X n _ 0 ∙ sum_cong (suc n) _ _ (λ r l.
      ap (λ (x : ℕ). row n r *ℤ (pow q (n - r) *ℤ pow X r *ℤ weighted_line w a x)) (NatL.zero-add r)
      ∙ ring_from (row n r ∷ pow q (n - r) ∷ pow X r ∷ pos (w r) ∷ a r ∷ pos S ∷ []) (ap (λ (x : ℕ). pos x *ℤ (pow X r *ℤ pow q (n - r) *ℤ a r)) (h.whole r (omega arith))) (search reads depth 20) tt)
      ∙ sum-*l (suc n) (pos S) _

  -- Bernstein's form is the value
  pub bernstein_is : (Y Q : ℤ) → bernstein_line n Y Q (λ j. formula_line w j a) ≡ pos S *ℤ value_line n Y Q a
  unfolding number steps
  bernstein_is Y Q =
      sum_cong (suc n) _ _ (λ j l.
      ap (λ z. row n j *ℤ pow Y j *ℤ pow (Q -ℤ Y) (n - j) *ℤ z) (sym (start_line j (omega arith)) ∙ exact_number (span 0 0) j (omega arith))
      ∙ ring (row n j ∷ pow Y j ∷ pow (Q -ℤ Y) (n - j) ∷ number n (span 0 0) j (weighted_line w a) ∷ []) (search reads depth 20) tt)
      ∙ sym (blends_sum (blends (Q -ℤ Y) Y (pos 1) (pos 0) (pos 1) (pos 1) (ring (Y ∷ Q ∷ []) (search reads depth 20) tt) (ring (Y ∷ Q ∷ []) (search reads depth 20) tt) (weighted_line w a) 0) n 0 n (NatL.zero-add n))
      ∙ exact_value Y Q

-- ---- the moved polynomial at Y / r is the polynomial at (k r + Y) / (2^s r)
module _ (n : ℕ) (i : Span) (a : Line) (Y r : ℤ) where
  term : ℕ → Line
  term e t = pow Y t *ℤ pow r (n - t) *ℤ (parts n i t e *ℤ a e)

  rest : Line
  rest e = pow (grid i *ℤ r) (n - e) *ℤ a e

  column_term : (e : ℕ) → e ≤ n → (t : ℕ) → t < suc e → term e t ≡ row e t *ℤ (pow (low i *ℤ r) (e - t) *ℤ pow Y t) *ℤ rest e
  unfolding term rest
  column_term e l t m =
      ap (λ z. pow Y t *ℤ z *ℤ (parts n i t e *ℤ a e)) (ap (pow r) (let both : n - t ≡ e - t + (n - e) = omega arith in both) ∙ pow_add r (e - t) (n - e))
      ∙ ring (pow Y t ∷ pow r (e - t) ∷ pow r (n - e) ∷ row e t ∷ pow (low i) (e - t) ∷ pow (grid i) (n - e) ∷ a e ∷ []) (search reads depth 20) tt
      ∙ ap₂ (λ x y. row e t *ℤ (x *ℤ pow Y t) *ℤ (y *ℤ a e)) (sym (pow-*ℤ (low i) r (e - t))) (sym (pow-*ℤ (grid i) r (n - e)))

  column : (e : ℕ) → e < suc n → sum_to (suc n) (term e) ≡ pow (low i *ℤ r +ℤ Y) e *ℤ pow (grid i *ℤ r) (n - e) *ℤ a e
  unfolding rest term
  column e l =
      ap (λ (x : ℕ). sum_to x (term e)) (let both : suc n ≡ suc e + (n - e) = omega arith in both) ∙ sum_split (suc e) (n - e) _
      ∙ ap₂ ◌+ℤ◌ (sum_cong (suc e) _ _ (column_term e (omega arith)) ∙ sum-*r (suc e) _ f)
      (sum_zeros (n - e) _ (λ x m. ap (λ z. pow Y (suc e + x) *ℤ pow r (n - (suc e + x)) *ℤ (z *ℤ a e)) (no_part n i (suc e + x) e (omega arith))
      ∙ ring (pow Y (suc e + x) ∷ pow r (n - (suc e + x)) ∷ a e ∷ []) (search reads depth 20) tt))
      ∙ +ℤ_idr _ ∙ ap (λ z. z *ℤ rest e) (sym (binomial (low i *ℤ r) Y e)) ∙ sym (*ℤ-assoc (pow (low i *ℤ r +ℤ Y) e) _ (a e))
    where
      f : Line
      f t = row e t *ℤ (pow (low i *ℤ r) (e - t) *ℤ pow Y t)

  pub moved_is_at : value_line n Y r (λ t. moved_line n i t a) ≡ value_line n (low i *ℤ r +ℤ Y) (grid i *ℤ r) a
  unfolding term
  moved_is_at =
      ap (sum_to (suc n)) (fun_ext λ t.
      ap (λ z. pow Y t *ℤ pow r (n - t) *ℤ z) (moved_is n i t a) ∙ sym (sum-*l (suc n) (pow Y t *ℤ pow r (n - t)) _))
      ∙ sum_swap (suc n) (suc n) _ ∙ sum_cong (suc n) _ _ column
