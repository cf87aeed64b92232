-- Sums with binomial coefficients: Pascal's rule summed, and what blends c times as a sum of its c + 1 ends. Steps as a sum, and the binomial theorem, are
-- cases of it. Assumes nothing.
use mathlib.Core.Path.{◌≡◌, refl, sym, ◌∙◌, ap, ap₂, fun_ext}
use mathlib.Core.List.{[], ◌∷◌}
use Prim.Native.Nat.{ℕ, zero, suc, ◌+◌, ◌-◌, ◌<◌}
use native.Mathlib.Omega.{arith}
use native.Mathlib.Nat as NatL
use lib.IntN.{ℤ, pos, one, pow, ◌+ℤ◌, ◌*ℤ◌, zero-*ℤ, +ℤ_idr, +ℤ_idl, +ℤ_assoc}
use Rattle.whole.specs.Sums.{sum_to, choose}
use Rattle.whole.proofs.Ring.{one-*ℤ, *ℤ-pos-one, pow_zero, pow_suc, *ℤ-distr-r}
use Rattle.whole.proofs.Quote.{ring, reads}
use Rattle.whole.proofs.Sums.{sum_none, sum_first, sum_last, sum_cong, sum-+, sum-*l}
use Rattle.whole.proofs.Choose.{choose_zero, choose_above, choose_pascal}
use Rattle.bernstein.proofs.Functionals.{Line, comb}
use Rattle.bernstein.proofs.Steps.{step, steps, Splits, Blends, splits→blends}

-- the row of C(c, t)
abbrev pub row : ℕ → Line
row c t = pos (choose c t)

pub pascal_sum : (c : ℕ) (f : Line) → comb (suc (suc c)) (row (suc c)) f ≡ comb (suc c) (row c) f +ℤ comb (suc c) (row c) (λ t. f (suc t))
pascal_sum c f =
    sum_first (suc c) _
    ∙ ap₂ ◌+ℤ◌ (ap (λ (m : ℕ). pos m *ℤ f 0) (choose_zero (suc c) ∙ sym (choose_zero c))) (sum_cong (suc c) _ _ each ∙ sum-+ (suc c) _ _)
    ∙ sym (+ℤ_assoc (row c 0 *ℤ f 0) _ _)
    ∙ ap (λ z. z +ℤ comb (suc c) (row c) (λ t. f (suc t)))
    (sym (sum_first (suc c) _) ∙ sum_last (suc c) _
    ∙ ap (λ z. comb (suc c) (row c) f +ℤ z) (ap (λ (m : ℕ). pos m *ℤ f (suc c)) (choose_above c (suc c) (omega arith)) ∙ zero-*ℤ (f (suc c)))
    ∙ +ℤ_idr (comb (suc c) (row c) f))
  where
    each : (t : ℕ) → t < suc c → row (suc c) (suc t) *ℤ f (suc t) ≡ row c (suc t) *ℤ f (suc t) +ℤ row c t *ℤ f (suc t)
    each t l = ap (λ (m : ℕ). pos m *ℤ f (suc t)) (choose_pascal c t ∙ NatL.add_comm (choose c t) (choose c (suc t))) ∙ *ℤ-distr-r (row c (suc t)) (row c t) (f (suc t))

pub sum_one : (f : Line) → sum_to 1 f ≡ f 0
sum_one f = sum_last 0 f ∙ ap (λ z. z +ℤ f 0) (sum_none f) ∙ +ℤ_idl (f 0)

-- ---- a blend as a sum: its end with c - t of the lower kind and t of the upper
module _ {v u : ℤ} {W : ℕ → ℕ → ℕ → ℤ} (b : Blends v u W) where
  end : ℕ → ℕ → ℕ → ℕ → ℤ
  end c p q t = pow v (c - t) *ℤ pow u t *ℤ W 0 (p + (c - t)) (q + t)

  end_lower : (c p q t : ℕ) → t < suc c → v *ℤ (row c t *ℤ end c (suc p) q t) ≡ row c t *ℤ end (suc c) p q t
  unfolding end
  end_lower c p q t l =
      ap (λ (m : ℕ). v *ℤ (row c t *ℤ (pow v (c - t) *ℤ pow u t *ℤ W 0 m (q + t)))) (let e : suc p + (c - t) ≡ p + suc (c - t) = omega arith in e)
      ∙ ring (v ∷ row c t ∷ pow v (c - t) ∷ pow u t ∷ W 0 (p + suc (c - t)) (q + t) ∷ []) (search reads depth 20) tt
      ∙ ap (λ z. row c t *ℤ (z *ℤ pow u t *ℤ W 0 (p + suc (c - t)) (q + t))) (sym (pow_suc v (c - t)))
      ∙ ap (λ (m : ℕ). row c t *ℤ (pow v m *ℤ pow u t *ℤ W 0 (p + m) (q + t))) (let e : suc (c - t) ≡ suc c - t = omega arith in e)

  end_upper : (c p q t : ℕ) → t < suc c → u *ℤ (row c t *ℤ end c p (suc q) t) ≡ row c t *ℤ end (suc c) p q (suc t)
  unfolding end
  end_upper c p q t l =
      ring (u ∷ row c t ∷ pow v (c - t) ∷ pow u t ∷ W 0 (p + (c - t)) (suc q + t) ∷ []) (search reads depth 20) tt
      ∙ ap (λ z. row c t *ℤ (pow v (c - t) *ℤ z *ℤ W 0 (p + (c - t)) (suc q + t))) (sym (pow_suc u t))
      ∙ ap₂ (λ (m x : ℕ). row c t *ℤ (pow v m *ℤ pow u (suc t) *ℤ W 0 (p + m) x)) (let e : c - t ≡ suc c - suc t = omega arith in e) (let e : suc q + t ≡ q + suc t = omega arith in e)

  blend_ends : (c p q : ℕ) → W c p q ≡ comb (suc c) (row c) (end c p q)
  unfolding end
  blend_ends zero p q = sym (sum_one _ ∙ ap (λ (m : ℕ). pos m *ℤ end 0 p q 0) (choose_zero 0)
      ∙ ap₂ (λ x y. pos 1 *ℤ (x *ℤ y *ℤ W 0 (p + 0) (q + 0))) (pow_zero v) (pow_zero u)
      ∙ ap₂ (λ (x y : ℕ). pos 1 *ℤ (pos 1 *ℤ pos 1 *ℤ W 0 x y)) (NatL.add-zero p) (NatL.add-zero q)
      ∙ ring (W 0 p q ∷ []) (search reads depth 20) tt)
  blend_ends (suc c) p q =
      b.blend c p q
      ∙ ap₂ (λ x y. v *ℤ x +ℤ u *ℤ y) (blend_ends c (suc p) q) (blend_ends c p (suc q))
      ∙ ap₂ ◌+ℤ◌ (each v (end c (suc p) q) (end (suc c) p q) (end_lower c p q)) (each u (end c p (suc q)) (λ t. end (suc c) p q (suc t)) (end_upper c p q))
      ∙ sym (pascal_sum c (end (suc c) p q))
    where
      each : (m : ℤ) (f g : Line) → ((t : ℕ) → t < suc c → m *ℤ (row c t *ℤ f t) ≡ row c t *ℤ g t) → m *ℤ comb (suc c) (row c) f ≡ comb (suc c) (row c) g
      each m f g h = sym (sum-*l (suc c) m _) ∙ sum_cong (suc c) _ _ h

  -- the same with p lower ends at first, n ends in all
  pub blends_sum : (c p n : ℕ) → p + c ≡ n → W c p 0 ≡ comb (suc c) (row c) (λ t. pow v (c - t) *ℤ pow u t *ℤ W 0 (n - t) t)
  unfolding end
  blends_sum c p n e = blend_ends c p 0 ∙ sum_cong (suc c) _ _ (λ t l.
      ap₂ (λ (x y : ℕ). row c t *ℤ (pow v (c - t) *ℤ pow u t *ℤ W 0 x y)) (let r : p + (c - t) ≡ n - t = omega arith in r) (NatL.zero-add t))

pow_one : (n : ℕ) → pow (pos 1) n ≡ pos 1
unfolding pow one
pow_one zero = refl
pow_one (suc n) = ap (λ z. z *ℤ pos 1) (pow_one n)

pub splits_sum : {W : ℕ → ℕ → ℕ → ℤ} → Splits W → (c p n : ℕ) → p + c ≡ n → W c p 0 ≡ comb (suc c) (row c) (λ t. W 0 (n - t) t)
splits_sum {W} s c p n e =
    blends_sum (splits→blends s) c p n e
    ∙ ap (comb (suc c) (row c)) (fun_ext λ t. ap₂ (λ x y. x *ℤ y *ℤ W 0 (n - t) t) (pow_one (c - t)) (pow_one t) ∙ one-*ℤ (W 0 (n - t) t))

-- ---- steps
pub steps_sum : (c d : ℤ) (m : ℕ) (g : Line) (t : ℕ) → steps c d m g t ≡ comb (suc m) (row m) (λ r. pow c (m - r) *ℤ pow d r *ℤ g (t + r))
unfolding steps step
steps_sum c d m g t =
    ap (steps c d m g) (sym (NatL.add-zero t))
    ∙ blends_sum {v = c} {u = d} {W = λ m p q. steps c d m g (t + q)}
    (record { blend = λ m p q. ap (λ (x : ℕ). c *ℤ steps c d m g (t + q) +ℤ d *ℤ steps c d m g x) (sym (NatL.add-suc t q)) }) m 0 m (NatL.zero-add m)

-- ---- the binomial theorem
pub binomial : (x y : ℤ) (n : ℕ) → pow (x +ℤ y) n ≡ comb (suc n) (row n) (λ t. pow x (n - t) *ℤ pow y t)
unfolding pow one
binomial x y n =
    blends_sum {v = x} {u = y} {W = λ c p q. pow (x +ℤ y) c} (record { blend = λ c p q. ring (x ∷ y ∷ pow (x +ℤ y) c ∷ []) (search reads depth 20) tt }) n 0 n (NatL.zero-add n)
    ∙ ap (comb (suc n) (row n)) (fun_ext λ t. *ℤ-pos-one (pow x (n - t) *ℤ pow y t))
