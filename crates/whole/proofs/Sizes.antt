-- The size of a sum, a difference, a product; what is below a bound in size, and so fits an i64; bounds on the size by two tests. Assumes nothing.
use mathlib.Core.Path.{◌≡◌, refl, sym, ap, ◌∙◌, subst}
use Prim.Native.Nat.{ℕ, zero, suc, ◌+◌, ◌-◌, ◌*◌, ◌^◌, ◌≤◌, ◌<◌}
use native.Mathlib.Omega.{arith}
use native.Mathlib.Nat as NatL
use lib.Dec.{ltb, ltb→lt, leb→le}
use lib.Pow.{pow-lt, pow_pos, pow-add}
use lib.IntN.{ℤ, pos, negsuc, nat_abs, neg_ℤ, sub_ℕ, ◌+ℤ◌, ◌-ℤ◌, ◌*ℤ◌, +ℤ_idl}
use lib.Signed.{mag, ◌<ℤ◌, ◌≤ℤ◌, yes_non_neg, pos-nat_abs}
use mir.Syntax.{w64}
use mir.Val.{SFits}
use Rattle.whole.specs.Size.{Below}
use Rattle.whole.proofs.Order.{cond_ind}

-- ---- the size of a number
abs_sub : (a b : ℕ) → nat_abs (sub_ℕ a b) ≤ a + b
abs_sub a b = cond_ind (ltb a b) (negsuc (b - suc a)) (pos (a - b)) (λ z. nat_abs z ≤ a + b) (λ t. let h : a < b = ltb→lt a b t in omega arith) (λ t. omega arith)

pub nat_abs-+ : (a b : ℤ) → nat_abs (a +ℤ b) ≤ nat_abs a + nat_abs b
nat_abs-+ (pos a) (pos b) = NatL.le_refl (a + b)
nat_abs-+ (pos a) (negsuc b) = abs_sub a (suc b)
nat_abs-+ (negsuc a) (pos b) = let h : nat_abs (sub_ℕ b (suc a)) ≤ b + suc a = abs_sub b (suc a) in omega arith
nat_abs-+ (negsuc a) (negsuc b) = omega arith

pub nat_abs_neg : (a : ℤ) → nat_abs (neg_ℤ a) ≡ nat_abs a
nat_abs_neg (pos zero) = refl
nat_abs_neg (pos (suc n)) = refl
nat_abs_neg (negsuc n) = refl

pub nat_abs_sub : (a b : ℤ) → nat_abs (a -ℤ b) ≤ nat_abs a + nat_abs b
nat_abs_sub a b = subst (λ (n : ℕ). nat_abs (a -ℤ b) ≤ nat_abs a + n) (nat_abs_neg b) (nat_abs-+ a (neg_ℤ b))

pub nat_abs-* : (a b : ℤ) → nat_abs (a *ℤ b) ≡ nat_abs a * nat_abs b
nat_abs-* (pos a) (pos b) = refl
nat_abs-* (pos a) (negsuc b) = nat_abs_neg (pos (a * suc b))
nat_abs-* (negsuc a) (pos b) = nat_abs_neg (pos (suc a * b))
nat_abs-* (negsuc a) (negsuc b) = refl

-- ---- below a bound
pub below_add : {m n : ℕ} {a b : ℤ} → Below m a → Below n b → Below (m + n) (a +ℤ b)
below_add {m} {n} {a} {b} p q = record { below = omega (arith, nat_abs-+ a b) }

pub below_le : {m n : ℕ} {a : ℤ} → m ≤ n → Below m a → Below n a
below_le h p = record { below = omega arith }

pub below_neg : {m : ℕ} {x : ℤ} → Below m x → Below m (neg_ℤ x)
below_neg {m} {x} p = record { below = rw (nat_abs_neg x) p.below }

pub below_mul : {m : ℕ} {a : ℤ} (k : ℕ) → 0 < k → Below m a → Below (m * k) (a *ℤ pos k)
below_mul {m} {a} k h p = record { below = rw (nat_abs-* a (pos k)) (NatL.mul-lt-mul_of_pos_right p.below h) }

pub pow_below : (s : ℕ) → s < 62 → Below (2 ^ 62) (pos (2 ^ s))
pow_below s h = record { below = pow-lt h }

-- below 2 ^ (62 - s), times 2 ^ s
pub below_scaled : {x : ℤ} (s : ℕ) → s < 62 → Below (2 ^ (62 - s)) x → Below (2 ^ 62) (x *ℤ pos (2 ^ s))
below_scaled {x} s h p =
    let s62 : 62 - s + s ≡ 62 = omega arith in let e : 2 ^ (62 - s) * 2 ^ s ≡ 2 ^ 62 = rw (← pow-add, s62) refl in
    subst (λ (m : ℕ). Below m (x *ℤ pos (2 ^ s))) e (below_mul (2 ^ s) (pow_pos s) p)

-- ---- what fits an i64
mag_le : (z : ℤ) → mag z ≤ nat_abs z
mag_le (pos n) = NatL.le_refl n
mag_le (negsuc n) = NatL.le-suc n

pub fits_64 : {z : ℤ} → Below (2 ^ 63) z → SFits w64 z
fits_64 {z} h = record { sfits = omega (arith, mag_le z) }

-- ---- a bound on the size, from and to two tests
pub size_in : (x : ℤ) (m : ℕ) → x ≤ℤ pos m → neg_ℤ (pos m) ≤ℤ x → nat_abs x ≤ m
size_in (pos n) m p q = leb→le n m p.le
size_in (negsuc n) zero p q = absurd q.le
size_in (negsuc n) (suc m) p q = let h : n ≤ m = leb→le n m q.le in omega arith

pub size_over : (x : ℤ) (m : ℕ) → pos m <ℤ x → nat_abs x ≤ m → ⊥
size_over (pos n) m p h = let l : m < n = ltb→lt m n p.lt in omega arith
size_over (negsuc n) m p h = p.lt

pub size_under : (x : ℤ) (m : ℕ) → x <ℤ neg_ℤ (pos m) → nat_abs x ≤ m → ⊥
size_under (pos n) zero p h = let l : n < 0 = ltb→lt n 0 p.lt in omega arith
size_under (pos n) (suc m) p h = p.lt
size_under (negsuc n) zero p h = omega arith
size_under (negsuc n) (suc m) p h = let l : m < n = ltb→lt m n p.lt in omega arith

-- the same, where the bound is a number b that is not negative, and the code computes `-b`
module _ (b : ℤ) (x : ℤ) (nn : pos 0 ≤ℤ b) where
  plain : pos 0 -ℤ b ≡ neg_ℤ (pos (nat_abs b))
  plain = +ℤ_idl (neg_ℤ b) ∙ ap neg_ℤ (sym (pos-nat_abs b (yes_non_neg nn)))

  bound_is : b ≡ pos (nat_abs b)
  bound_is = sym (pos-nat_abs b (yes_non_neg nn))

  pub bound_over : b <ℤ x → nat_abs x ≤ nat_abs b → ⊥
  bound_over p = size_over x (nat_abs b) (subst (λ (z : ℤ). z <ℤ x) bound_is p)

-- `-b` fits where b is not the least i64
pub neg_fits : (b : ℤ) → pos 0 ≤ℤ b → SFits w64 b → SFits w64 (pos 0 -ℤ b)
neg_fits (pos n) nn f = rw (+ℤ_idl (neg_ℤ (pos n))) (fits_64 (record { below = rw (nat_abs_neg (pos n)) f.sfits }))
neg_fits (negsuc n) nn f = absurd nn.le
