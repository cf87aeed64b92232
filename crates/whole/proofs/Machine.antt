-- Signed numbers as the machine has them: a signed local is bits, so a proof's needs speak of `to_z w64 (of_z w64 a)`. What such a number reads as,
-- that sums, products and negations of small ones fit, and what a signed test says. Assumes nothing.
use mathlib.Core.Path.{◌≡◌, refl, sym, ap₂, ◌∙◌, subst}
use mathlib.Core.Bool.{Bool, true, false, not}
use mathlib.Core.Logic.{◌↔◌}
use Prim.Native.Nat.{ℕ, ◌*◌, ◌^◌, ◌%◌, ◌<◌}
use native.Mathlib.Omega.{arith}
use native.Mathlib.Nat.{one-mul, mod-eq_of_lt, lt_trans}
use lib.Pow.{pow-lt}
use lib.Dec.{T, lit<, lt→ltb, ltb→lt, nleb→lt}
use lib.IntN.{ℤ, pos, negsuc, nat_abs, neg_ℤ, ◌+ℤ◌, ◌-ℤ◌, ◌*ℤ◌, +ℤ_idl}
use lib.Signed.{mag, lt_z, le_z, non_neg, ◌<ℤ◌, ◌≤ℤ◌, lt_z_no}
use mir.Syntax.{Width, w64}
use mir.Val.{Fits, SFits, to_z, of_z}
use mir.Facts.{to_z-of_z, Fits-nat_abs}
use Rattle.whole.specs.Size.{Below}
use Rattle.whole.proofs.Sizes.{below_add, below_le, fits_64}

-- ---- reading
pub read : {a : ℤ} → Below (2 ^ 63) a → to_z w64 (of_z w64 a) ≡ a
read h = to_z-of_z (fits_64 h)

-- from what a call's `.ok` or a read's `.given` says
pub back : {a : ℤ} → mag a < 2 ^ 63 → to_z w64 (of_z w64 a) ≡ a
back h = to_z-of_z {w = w64} (record { sfits = h })

-- ---- sums, products, powers of two, negation
module _ {a b : ℤ} (p : Below (2 ^ 62) a) (q : Below (2 ^ 62) b) where
  sum_read : to_z w64 (of_z w64 a) +ℤ to_z w64 (of_z w64 b) ≡ a +ℤ b
  sum_read = rw (read (below_le (omega arith) p), read (below_le (omega arith) q)) refl

  pub sum_fits : SFits w64 (to_z w64 (of_z w64 a) +ℤ to_z w64 (of_z w64 b))
  sum_fits = rw sum_read (fits_64 (below_add p q))

  pub sum_is : to_z w64 (of_z w64 (to_z w64 (of_z w64 a) +ℤ to_z w64 (of_z w64 b))) ≡ a +ℤ b
  sum_is = to_z-of_z sum_fits ∙ sum_read

module _ {a b : ℤ} (p : SFits w64 a) (q : SFits w64 b) (r : Below (2 ^ 63) (a *ℤ b)) where
  mul_read : to_z w64 (of_z w64 a) *ℤ to_z w64 (of_z w64 b) ≡ a *ℤ b
  mul_read = rw (to_z-of_z p, to_z-of_z q) refl

  pub mul_fits : SFits w64 (to_z w64 (of_z w64 a) *ℤ to_z w64 (of_z w64 b))
  mul_fits = rw mul_read (fits_64 r)

  pub mul_is : to_z w64 (of_z w64 (to_z w64 (of_z w64 a) *ℤ to_z w64 (of_z w64 b))) ≡ a *ℤ b
  mul_is = to_z-of_z mul_fits ∙ mul_read

-- `1 << s`
pub one_shl : (s : ℕ) → s < 62 → (1 * 2 ^ s) % 2 ^ 64 ≡ 2 ^ s
one_shl s h = rw (one-mul (2 ^ s)) (mod-eq_of_lt (lt_trans (pow-lt h) (lit< tt)))

pub neg_read : {x : ℤ} → SFits w64 x → pos 0 -ℤ to_z w64 (of_z w64 x) ≡ neg_ℤ x
neg_read f = rw (to_z-of_z f) (+ℤ_idl _)

-- what a cast to an unsigned type asks and gives
pub cast_fits : {x : ℤ} → SFits w64 x → T (non_neg x) → T (non_neg (to_z w64 (of_z w64 x))) × Fits w64 (nat_abs (to_z w64 (of_z w64 x)))
cast_fits f t = rw (to_z-of_z f) (t, Fits-nat_abs tt f)

pub non_neg_neg : (x : ℤ) → lt_z x (pos 0) ≡ true → T (non_neg (neg_ℤ x))
non_neg_neg (pos n) e = absurd (not_below n (ltb→lt n 0 (subst T (sym e) tt)))
  where
    not_below : (n : ℕ) → n < 0 → ⊥
    not_below n h = omega arith
non_neg_neg (negsuc n) e = tt

pub non_neg_no : (x : ℤ) → lt_z x (pos 0) ≡ false → T (non_neg x)
non_neg_no (pos n) e = tt
non_neg_no (negsuc n) e = subst T e tt

-- ---- a signed test in code: the flag of `x < y` is lt_z of what the bits of x and y read as
≡true : (b : Bool) → b ≡ true → T b
≡true b e = subst T (sym e) tt

≡false : (b : Bool) → b ≡ false → T (not b)
≡false b e = subst (λ c. T (not c)) (sym e) tt

pub lt_z_true : {a b : ℤ} → lt_z a b ≡ true → a <ℤ b
lt_z_true {a} {b} e = record { lt = ≡true (lt_z a b) e }

pub lt_z_false : {a b : ℤ} → lt_z a b ≡ false → b ≤ℤ a
lt_z_false {a} {b} e = lib.Signed.lt_z_no (≡false (lt_z a b) e)

pub le_z_true : {a b : ℤ} → le_z a b ≡ true → a ≤ℤ b
le_z_true {a} {b} e = record { le = ≡true (le_z a b) e }

not_le : (a b : ℤ) → T (not (le_z a b)) → T (lt_z b a)
not_le (pos a) (pos b) t = lt→ltb b a (nleb→lt a b t)
not_le (pos a) (negsuc b) t = tt
not_le (negsuc a) (pos b) t = absurd t
not_le (negsuc a) (negsuc b) t = lt→ltb a b (nleb→lt b a t)

pub le_z_false : {a b : ℤ} → le_z a b ≡ false → b <ℤ a
le_z_false {a} {b} e = record { lt = not_le a b (≡false (le_z a b) e) }

module _ {w : Width} {x y : ℤ} (fx : SFits w x) (fy : SFits w y) where
  flag : (f : ℤ → ℤ → Bool) → f (to_z w (of_z w x)) (to_z w (of_z w y)) ≡ f x y
  flag f = ap₂ f (to_z-of_z fx) (to_z-of_z fy)

  pub taken-< : lt_z (to_z w (of_z w x)) (to_z w (of_z w y)) ≡ true → x <ℤ y
  taken-< e = lt_z_true (sym (flag lt_z) ∙ e)

  pub left-< : lt_z (to_z w (of_z w x)) (to_z w (of_z w y)) ≡ false → y ≤ℤ x
  left-< e = lt_z_false (sym (flag lt_z) ∙ e)

  pub taken-≤ : le_z (to_z w (of_z w x)) (to_z w (of_z w y)) ≡ true → x ≤ℤ y
  taken-≤ e = le_z_true (sym (flag le_z) ∙ e)

  pub left-≤ : le_z (to_z w (of_z w x)) (to_z w (of_z w y)) ≡ false → y <ℤ x
  left-≤ e = le_z_false (sym (flag le_z) ∙ e)

-- ---- a bool that says whether P
pub iff_yes : {P : Type 0} → P → (true ≡ true) ↔ P
iff_yes p = (λ e. p, λ q. refl)

pub iff_no : {P : Type 0} → (P → ⊥) → (false ≡ true) ↔ P
iff_no f = (λ e. absurd (subst T (sym e) tt), λ p. absurd (f p))
