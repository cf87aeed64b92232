-- Steps along a line: c times an entry and d times the next. Steps commute, add and scale; values made of steps of two kinds blend: from c + 1 middles to c, with one
-- more of the lower or of the upper end. That alone is de Casteljau's cut (Lines) and the sign (Signs). Assumes nothing.
use mathlib.Core.Path.{◌≡◌, refl, sym, ◌∙◌, ap, ap₂, fun_ext}
use mathlib.Core.List.{[], ◌∷◌}
use Prim.Native.Nat.{ℕ, zero, suc, ◌^◌}
use native.Mathlib.Nat as NatL
use lib.IntN.{ℤ, pos, one, pow, ◌+ℤ◌, ◌*ℤ◌}
use Rattle.whole.proofs.Ring.{one-*ℤ}
use Rattle.whole.proofs.Quote.{ring, reads}
use Rattle.bernstein.proofs.Functionals.{Line, Functional, entry, plus, times}

unfoldable pub step : ℤ → ℤ → Line → Line
step c d g i = c *ℤ g i +ℤ d *ℤ g (suc i)

unfoldable pub steps : ℤ → ℤ → ℕ → Line → Line
steps c d zero g = g
steps c d (suc n) g = step c d (steps c d n g)

pub step_functional : (c d : ℤ) (n t : ℕ) → Functional (λ g. steps c d n g t)
unfolding steps step
step_functional c d zero t = entry t
step_functional c d (suc n) t = plus (times c (step_functional c d n t)) (times d (step_functional c d n (suc t)))

-- ---- steps of two kinds commute
step_comm : (c d c' d' : ℤ) (g : Line) → step c d (step c' d' g) ≡ step c' d' (step c d g)
unfolding step
step_comm c d c' d' g = fun_ext λ i. ring (c ∷ d ∷ c' ∷ d' ∷ g i ∷ g (suc i) ∷ g (suc (suc i)) ∷ []) (search reads depth 20) tt

pub step_steps : (c d c' d' : ℤ) (n : ℕ) (g : Line) → step c d (steps c' d' n g) ≡ steps c' d' n (step c d g)
unfolding steps
step_steps c d c' d' zero g = refl
step_steps c d c' d' (suc n) g = step_comm c d c' d' _ ∙ ap (step c' d') (step_steps c d c' d' n g)

pub steps_steps : (c d : ℤ) (m : ℕ) (c' d' : ℤ) (n : ℕ) (g : Line) → steps c d m (steps c' d' n g) ≡ steps c' d' n (steps c d m g)
unfolding steps
steps_steps c d zero c' d' n g = refl
steps_steps c d (suc m) c' d' n g = ap (step c d) (steps_steps c d m c' d' n g) ∙ step_steps c d c' d' n _

-- ---- a multiple of a step
step_scale : (m c d : ℤ) (g : Line) (k : ℤ) (f : Line) → g ≡ (λ i. k *ℤ f i) → (t : ℕ) → step (m *ℤ c) (m *ℤ d) g t ≡ k *ℤ m *ℤ step c d f t
unfolding step
step_scale m c d g k f e t = ap (λ h. m *ℤ c *ℤ h t +ℤ m *ℤ d *ℤ h (suc t)) e ∙ ring (m ∷ c ∷ d ∷ k ∷ f t ∷ f (suc t) ∷ []) (search reads depth 20) tt

pub steps_scale : (m c d : ℤ) (n : ℕ) (g : Line) (t : ℕ) → steps (m *ℤ c) (m *ℤ d) n g t ≡ pow m n *ℤ steps c d n g t
unfolding steps pow one
steps_scale m c d zero g t = sym (one-*ℤ (g t))
steps_scale m c d (suc n) g t = step_scale m c d _ (pow m n) _ (fun_ext (steps_scale m c d n g)) t

-- ---- values W c p q of c middles, p lower and q upper ends
-- they blend with weights v and u
pub record Blends (v u : ℤ) (W : ℕ → ℕ → ℕ → ℤ) : Type 0 where
  pub blend : (c p q : ℕ) → W (suc c) p q ≡ v *ℤ W c (suc p) q +ℤ u *ℤ W c p (suc q)

-- with weights 1 they split
pub record Splits (W : ℕ → ℕ → ℕ → ℤ) : Type 0 where
  pub split : (c p q : ℕ) → W (suc c) p q ≡ W c (suc p) q +ℤ W c p (suc q)

pub blends→splits : {W : ℕ → ℕ → ℕ → ℤ} → Blends (pos 1) (pos 1) W → Splits W
blends→splits {W} b = record { split = λ c p q. b.blend c p q ∙ ap₂ ◌+ℤ◌ (one-*ℤ (W c (suc p) q)) (one-*ℤ _) }

pub splits→blends : {W : ℕ → ℕ → ℕ → ℤ} → Splits W → Blends (pos 1) (pos 1) W
splits→blends {W} s = record { blend = λ c p q. s.split c p q ∙ sym (ap₂ ◌+ℤ◌ (one-*ℤ (W c (suc p) q)) (one-*ℤ _)) }

-- p steps for the lower end, q for the upper end, and m for their weighted sum, c'' and d''
module _ (v u c d c' d' : ℤ) {c'' d'' : ℤ} (scaled : v *ℤ c +ℤ u *ℤ c' ≡ c'') (point : v *ℤ d +ℤ u *ℤ d' ≡ d'') (g : Line) where
  step_blend : (y : Line) (i : ℕ) → step c'' d'' y i ≡ v *ℤ step c d y i +ℤ u *ℤ step c' d' y i
  unfolding step
  step_blend y i = ap₂ (λ a b. a *ℤ y i +ℤ b *ℤ y (suc i)) (sym scaled) (sym point) ∙ ring (v ∷ u ∷ c ∷ d ∷ c' ∷ d' ∷ y i ∷ y (suc i) ∷ []) (search reads depth 20) tt

  pub blends : (t : ℕ) → Blends v u (λ m p q. steps c d p (steps c'' d'' m (steps c' d' q g)) t)
  unfolding steps
  blends t = record {
    blend = λ m p q.
        let y = steps c'' d'' m (steps c' d' q g) in
        ap (λ h. steps c d p h t) (fun_ext (step_blend y))
        ∙ (step_functional c d p t).linear.sums v u (step c d y) (step c' d' y)
        ∙ ap₂ (λ (f h : Line). v *ℤ f t +ℤ u *ℤ h t) (sym (step_steps c d c d p y)) (ap (steps c d p) (step_steps c' d' c'' d'' m _));
  }

-- steps at equal coefficients
pub steps_at : {c c' d d' : ℤ} → c ≡ c' → d ≡ d' → (n : ℕ) (g : Line) → steps c d n g ≡ steps c' d' n g
steps_at x y n g = λ i. steps (x i) (y i) n g

-- ---- powers of natural numbers
pub pow_pos : (b n : ℕ) → pow (pos b) n ≡ pos (b ^ n)
unfolding pow one
pow_pos b zero = ap pos (sym (NatL.pow-zero b))
pow_pos b (suc n) = ap (λ z. z *ℤ pos b) (pow_pos b n) ∙ ap pos (sym (NatL.pow-suc b n))
