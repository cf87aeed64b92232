-- The commutative ring laws of the library's ℤ that the library lacks.
use mathlib.Core.Path.{◌≡◌, refl, sym, ◌∙◌, ap, ap₂}
use Prim.Native.Nat.{ℕ, zero, suc, ◌+◌}
use lib.IntN.{ℤ, pos, negsuc, suc_ℤ, pred_ℤ, neg_ℤ, one, pow, ◌+ℤ◌, ◌-ℤ◌, ◌*ℤ◌, suc_ℤ-+ℤ, pred_ℤ-+ℤ, +ℤ_idl, +ℤ_assoc, +ℤ_comm, +ℤ_invr, +ℤ_invl, neg_ℤ-neg_ℤ, *ℤ-one, zero-*ℤ, suc_ℤ-*ℤ, pred_ℤ-*ℤ, *ℤ_comm}

-- induction by successor and predecessor, in the shape that the library's sucℤ- and predℤ- laws fit
pub ℤ_step {ℓ} : (P : ℤ → Type ℓ) → P (pos zero) → ((m : ℤ) → P m → P (suc_ℤ m)) → ((m : ℤ) → P m → P (pred_ℤ m)) → (k : ℤ) → P k
ℤ_step P z s p (pos zero) = z
ℤ_step P z s p (pos (suc n)) = s (pos n) (ℤ_step P z s p (pos n))
ℤ_step P z s p (negsuc zero) = p (pos zero) z
ℤ_step P z s p (negsuc (suc n)) = p (negsuc n) (ℤ_step P z s p (negsuc n))

-- sums: regrouping
pub +ℤ-left-comm : (a b c : ℤ) → a +ℤ (b +ℤ c) ≡ b +ℤ (a +ℤ c)
+ℤ-left-comm a b c = sym (+ℤ_assoc a b c) ∙ ap (λ x. x +ℤ c) (+ℤ_comm a b) ∙ +ℤ_assoc b a c

pub +ℤ-right-comm : (a b c : ℤ) → a +ℤ b +ℤ c ≡ a +ℤ c +ℤ b
+ℤ-right-comm a b c = +ℤ_assoc a b c ∙ ap (λ x. a +ℤ x) (+ℤ_comm b c) ∙ sym (+ℤ_assoc a c b)

pub +ℤ-swap : (a b c d : ℤ) → (a +ℤ b) +ℤ (c +ℤ d) ≡ (a +ℤ c) +ℤ (b +ℤ d)
+ℤ-swap a b c d = +ℤ_assoc a b (c +ℤ d) ∙ ap (λ x. a +ℤ x) (+ℤ-left-comm b c d) ∙ sym (+ℤ_assoc a c (b +ℤ d))

-- distributivity
pub *ℤ-distr-r : (m k x : ℤ) → (m +ℤ k) *ℤ x ≡ m *ℤ x +ℤ k *ℤ x
*ℤ-distr-r m k x = ℤ_step (λ m. (m +ℤ k) *ℤ x ≡ m *ℤ x +ℤ k *ℤ x)
    (ap (λ y. y *ℤ x) (+ℤ_idl k) ∙ sym (ap (λ y. y +ℤ k *ℤ x) (zero-*ℤ x) ∙ +ℤ_idl (k *ℤ x)))
    (λ m h. ap (λ y. y *ℤ x) (suc_ℤ-+ℤ m k) ∙ suc_ℤ-*ℤ (m +ℤ k) x ∙ ap (λ y. y +ℤ x) h ∙ +ℤ-right-comm (m *ℤ x) (k *ℤ x) x ∙ ap (λ y. y +ℤ k *ℤ x) (sym (suc_ℤ-*ℤ m x)))
    (λ m h. ap (λ y. y *ℤ x) (pred_ℤ-+ℤ m k) ∙ pred_ℤ-*ℤ (m +ℤ k) x ∙ ap (λ y. y -ℤ x) h ∙ +ℤ-right-comm (m *ℤ x) (k *ℤ x) (neg_ℤ x) ∙ ap (λ y. y +ℤ k *ℤ x) (sym (pred_ℤ-*ℤ m x)))
    m

pub *ℤ-distr-l : (x m k : ℤ) → x *ℤ (m +ℤ k) ≡ x *ℤ m +ℤ x *ℤ k
*ℤ-distr-l x m k = *ℤ_comm x (m +ℤ k) ∙ *ℤ-distr-r m k x ∙ ap₂ ◌+ℤ◌ (*ℤ_comm m x) (*ℤ_comm k x)

-- cancellation in a sum
pub +ℤ-cancel-r : (a b c : ℤ) → a +ℤ c ≡ b +ℤ c → a ≡ b
+ℤ-cancel-r a b c h = sym (lib.IntN.+ℤ-neg_ℤ_cancel a c) ∙ ap (λ x. x -ℤ c) h ∙ lib.IntN.+ℤ-neg_ℤ_cancel b c

-- the inverse is unique
pub negℤ_unique : (a b : ℤ) → a +ℤ b ≡ pos zero → a ≡ neg_ℤ b
negℤ_unique a b h = +ℤ-cancel-r a (neg_ℤ b) b (h ∙ sym (+ℤ_invl b))

-- negation through the product
pub negℤ-*ℤ_l : (a b : ℤ) → neg_ℤ a *ℤ b ≡ neg_ℤ (a *ℤ b)
negℤ-*ℤ_l a b = negℤ_unique (neg_ℤ a *ℤ b) (a *ℤ b) (sym (*ℤ-distr-r (neg_ℤ a) a b) ∙ ap (λ x. x *ℤ b) (+ℤ_invl a) ∙ zero-*ℤ b)

pub negℤ-*ℤ_r : (a b : ℤ) → a *ℤ neg_ℤ b ≡ neg_ℤ (a *ℤ b)
negℤ-*ℤ_r a b = *ℤ_comm a (neg_ℤ b) ∙ negℤ-*ℤ_l b a ∙ ap neg_ℤ (*ℤ_comm b a)

-- associativity
pub *ℤ-assoc : (a b c : ℤ) → (a *ℤ b) *ℤ c ≡ a *ℤ (b *ℤ c)
*ℤ-assoc a b c = ℤ_step (λ a. (a *ℤ b) *ℤ c ≡ a *ℤ (b *ℤ c))
    (ap (λ y. y *ℤ c) (zero-*ℤ b) ∙ zero-*ℤ c ∙ sym (zero-*ℤ (b *ℤ c)))
    (λ a h. ap (λ y. y *ℤ c) (suc_ℤ-*ℤ a b) ∙ *ℤ-distr-r (a *ℤ b) b c ∙ ap (λ y. y +ℤ b *ℤ c) h ∙ sym (suc_ℤ-*ℤ a (b *ℤ c)))
    (λ a h. ap (λ y. y *ℤ c) (pred_ℤ-*ℤ a b) ∙ *ℤ-distr-r (a *ℤ b) (neg_ℤ b) c ∙ ap₂ ◌+ℤ◌ h (negℤ-*ℤ_l b c) ∙ sym (pred_ℤ-*ℤ a (b *ℤ c)))
    a

pub *ℤ-left-comm : (a b c : ℤ) → a *ℤ (b *ℤ c) ≡ b *ℤ (a *ℤ c)
*ℤ-left-comm a b c = sym (*ℤ-assoc a b c) ∙ ap (λ x. x *ℤ c) (*ℤ_comm a b) ∙ *ℤ-assoc b a c

pub *ℤ-swap : (a b c d : ℤ) → (a *ℤ b) *ℤ (c *ℤ d) ≡ (a *ℤ c) *ℤ (b *ℤ d)
*ℤ-swap a b c d = *ℤ-assoc a b (c *ℤ d) ∙ ap (λ x. a *ℤ x) (*ℤ-left-comm b c d) ∙ sym (*ℤ-assoc a c (b *ℤ d))

-- the unit
pub one-*ℤ : (k : ℤ) → pos 1 *ℤ k ≡ k
unfolding one
one-*ℤ k = *ℤ_comm (pos 1) k ∙ *ℤ-one k

pub *ℤ-pos-one : (k : ℤ) → k *ℤ pos 1 ≡ k
unfolding one
*ℤ-pos-one k = *ℤ-one k

pub -ℤ-self : (a : ℤ) → a -ℤ a ≡ pos 0
-ℤ-self a = +ℤ_invr a

pub -ℤ-zero→≡ : (a b : ℤ) → a -ℤ b ≡ pos 0 → a ≡ b
-ℤ-zero→≡ a b h = negℤ_unique a (neg_ℤ b) h ∙ neg_ℤ-neg_ℤ b

-- powers
pub pow_zero : (m : ℤ) → pow m 0 ≡ pos 1
unfolding pow one
pow_zero m = refl

pub pow_suc : (m : ℤ) (n : ℕ) → pow m (suc n) ≡ pow m n *ℤ m
unfolding pow
pow_suc m n = refl

pub pow_add : (m : ℤ) (a b : ℕ) → pow m (a + b) ≡ pow m a *ℤ pow m b
pow_add m a zero = ap (pow m) (native.Mathlib.Nat.add-zero a) ∙ sym (ap (λ x. pow m a *ℤ x) (pow_zero m) ∙ *ℤ-pos-one (pow m a))
pow_add m a (suc b) = ap (pow m) (native.Mathlib.Nat.add-suc a b) ∙ pow_suc m (a + b) ∙ ap (λ x. x *ℤ m) (pow_add m a b) ∙ *ℤ-assoc (pow m a) (pow m b) m ∙ ap (λ x. pow m a *ℤ x) (sym (pow_suc m b))

pub pow-*ℤ : (a b : ℤ) (n : ℕ) → pow (a *ℤ b) n ≡ pow a n *ℤ pow b n
pow-*ℤ a b zero = pow_zero (a *ℤ b) ∙ sym (ap₂ ◌*ℤ◌ (pow_zero a) (pow_zero b))
pow-*ℤ a b (suc n) = pow_suc (a *ℤ b) n ∙ ap (λ x. x *ℤ (a *ℤ b)) (pow-*ℤ a b n) ∙ *ℤ-swap (pow a n) (pow b n) a b ∙ sym (ap₂ ◌*ℤ◌ (pow_suc a n) (pow_suc b n))
