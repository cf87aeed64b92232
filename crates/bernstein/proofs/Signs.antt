-- The sign on one line, for every degree: where all numbers of a span are above zero, so is the value at each rational point X / q of the closed span.
-- A sign as a factor, so that one law speaks of both signs. Assumes nothing.
use mathlib.Core.Path.{◌≡◌, sym, ap, subst, subst₂}
use mathlib.Core.List.{[], ◌∷◌}
use Prim.Native.Nat.{ℕ, zero, suc, ◌+◌, ◌-◌, ◌≤◌}
use native.Mathlib.Omega.{arith}
use lib.Pow.{pow_pos as two_above}
use lib.IntN.{ℤ, pos, negsuc, one, pow, ◌+ℤ◌, ◌-ℤ◌, ◌*ℤ◌, *ℤ-zero}
use lib.Signed.{◌≤ℤ◌, ◌<ℤ◌}
use Rattle.whole.proofs.Quote.{ring, ring_from, reads}
use Rattle.whole.proofs.Order.{≤ℤ-sub, <ℤ-suc, pos_suc_pos, pos-<, positive-+, positive-*, nonneg-*, *ℤ-cancel-<, <-by}
use Rattle.bernstein.specs.Numbers.{Span}
use Rattle.bernstein.specs.Points.{Inside, Sign, above, below, Has}
use Rattle.bernstein.proofs.Functionals.{Line}
use Rattle.bernstein.proofs.Steps.{steps, steps_scale, Blends, blends}
use Rattle.bernstein.proofs.Lines.{grid, low, high, high_is, number}

-- ---- values that blend are above zero where their ends are
blend_positive : {v u x y : ℤ} → pos 0 ≤ℤ v → pos 0 ≤ℤ u → pos 0 <ℤ (v +ℤ u) → pos 0 <ℤ x → pos 0 <ℤ y → pos 0 <ℤ (v *ℤ x +ℤ u *ℤ y)
blend_positive {v} {u} {x} {y} hv hu h hx hy =
    subst (λ z. pos 0 <ℤ z) (ring (v ∷ u ∷ x ∷ y ∷ []) (search reads depth 20) tt)
    (positive-+ (positive-+ h (nonneg-* hv (≤ℤ-sub (<ℤ-suc hx)))) (nonneg-* hu (≤ℤ-sub (<ℤ-suc hy))))

module _ {v u : ℤ} (W : ℕ → ℕ → ℕ → ℤ) (bl : Blends v u W) (hv : pos 0 ≤ℤ v) (hu : pos 0 ≤ℤ u) (h : pos 0 <ℤ (v +ℤ u)) (n : ℕ) (ends : (j : ℕ) → j ≤ n → pos 0 <ℤ W 0 (n - j) j) where
  pub blends_positive : (c p q : ℕ) → c + p + q ≡ n → pos 0 <ℤ W c p q
  blends_positive zero p q e = subst (λ (x : ℕ). pos 0 <ℤ W 0 x q) (omega arith) (ends q (omega arith))
  blends_positive (suc c) p q e =
      subst (λ z. pos 0 <ℤ z) (sym (bl.blend c p q))
      (blend_positive hv hu h (blends_positive c (suc p) q (omega arith)) (blends_positive c p (suc q) (omega arith)))

-- ---- the weights of a point of a span, with P for its grid, K for low and K' for high
module _ (P K X q : ℤ) {K' : ℤ} (next : K' ≡ K +ℤ pos 1) where
  total : (K' *ℤ q -ℤ P *ℤ X) +ℤ (P *ℤ X -ℤ K *ℤ q) ≡ q
  total = ring_from (P ∷ K ∷ X ∷ q ∷ K' ∷ []) (ap (λ z. z *ℤ q) next) (search reads depth 20) tt

  scaled : (K' *ℤ q -ℤ P *ℤ X) *ℤ P +ℤ (P *ℤ X -ℤ K *ℤ q) *ℤ P ≡ P *ℤ q
  scaled = ring_from (P ∷ K ∷ X ∷ q ∷ K' ∷ []) (ap (λ z. z *ℤ q *ℤ P) next) (search reads depth 20) tt

  point : (K' *ℤ q -ℤ P *ℤ X) *ℤ K +ℤ (P *ℤ X -ℤ K *ℤ q) *ℤ K' ≡ P *ℤ X
  point = ring_from (P ∷ K ∷ X ∷ q ∷ K' ∷ []) (ap (λ z. P *ℤ X *ℤ z) next) (search reads depth 20) tt

pow_positive : {m : ℤ} (n : ℕ) → pos 0 <ℤ m → pos 0 <ℤ pow m n
unfolding pow one
pow_positive zero h = pos_suc_pos 0
pow_positive (suc n) h = positive-* (pow_positive n h) h

-- v is how far a point lies from the upper edge, u from the lower
pub positive_line : (n : ℕ) (i : Span) (X q : ℤ) → pos 0 <ℤ q → Inside i X q → (g : Line) → ((j : ℕ) → j ≤ n → pos 0 <ℤ number n i j g) → pos 0 <ℤ steps q X n g 0
unfolding steps number
positive_line n i X q hq w g h =
    let v = high i *ℤ q -ℤ grid i *ℤ X in
    let u = grid i *ℤ X -ℤ low i *ℤ q in
    *ℤ-cancel-< (pow (grid i) n) (pow_positive n (pos-< (two_above i.cuts)))
    (subst₂ ◌<ℤ◌ (sym (*ℤ-zero (pow (grid i) n))) (steps_scale (grid i) q X n g 0)
    (blends_positive (λ m p r. steps (grid i) (low i) p (steps (grid i *ℤ q) (grid i *ℤ X) m (steps (grid i) (high i) r g)) 0)
    (blends v u (grid i) (low i) (grid i) (high i) (scaled (grid i) (low i) X q (high_is i)) (point (grid i) (low i) X q (high_is i)) g 0)
    (≤ℤ-sub w.below) (≤ℤ-sub w.above) (subst (λ z. pos 0 <ℤ z) (sym (total (grid i) (low i) X q (high_is i))) hq) n h n 0 0 (omega arith)))

-- ---- a sign as a factor: z has it where factor · z is above zero
abbrev pub factor : Sign → ℤ
factor above = pos 1
factor below = negsuc 0

pub has_factor : (s : Sign) (z : ℤ) → Has s z → pos 0 <ℤ (factor s *ℤ z)
has_factor above z h = <-by (z ∷ []) h (search reads depth 20) tt
has_factor below z h = <-by (z ∷ []) h (search reads depth 20) tt

pub factor_has : (s : Sign) (z : ℤ) → pos 0 <ℤ (factor s *ℤ z) → Has s z
factor_has above z h = <-by (z ∷ []) h (search reads depth 20) tt
factor_has below z h = <-by (z ∷ []) h (search reads depth 20) tt
