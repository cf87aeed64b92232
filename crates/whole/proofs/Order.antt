-- The order of ℤ (the library's ◌≤ℤ◌ and ◌<ℤ◌): a ≤ b where b is a and a natural number more. The laws of sign reasoning, and the naturals in ℤ. Assumes nothing.
use mathlib.Core.Path.{◌≡◌, refl, sym, ◌∙◌, ap, ap₂, subst}
use mathlib.Core.List.{List, [], ◌∷◌}
use mathlib.Core.Logic.{◌⊎◌, inl, inr}
use mathlib.Core.Bool.{Bool, true, false, not, cond}
use Prim.Native.Nat.{ℕ, zero, suc, ◌+◌, ◌*◌, ◌-◌, ◌≤◌, ◌<◌}
use native.Mathlib.Omega.{arith}
use native.Mathlib.Nat as NatL
use lib.Dec.{T, ltb, leb→le, le→leb, ltb→lt, lt→ltb, leb-zero, leb-suc-zero, leb-suc-suc}
use lib.Arith.{le→nltb}
use lib.IntN.{ℤ, pos, negsuc, suc_ℤ, neg_ℤ, nat_abs, sub_ℕ, ◌+ℤ◌, ◌-ℤ◌, ◌*ℤ◌, +ℤ_idl, +ℤ_assoc, +ℤ_one}
use lib.Signed.{◌≤ℤ◌, ◌<ℤ◌, le_z, lt_z, ≤ℤ_refl, <ℤ-≤ℤ_trans, clash_ℤ}
use Rattle.whole.proofs.Ring.{+ℤ-cancel-r}
use Rattle.whole.proofs.Quote.{ring, reads, Sides, Agree, sides_eq}

-- ---- a − b of naturals, by which is greater
cond_yes : (c : Bool) (x y : ℤ) → T c → cond c x y ≡ x
cond_yes true x y t = refl
cond_yes false x y t = absurd t

cond_no : (c : Bool) (x y : ℤ) → T (not c) → cond c x y ≡ y
cond_no true x y t = absurd t
cond_no false x y t = refl

pub cond_ind : (c : Bool) (x y : ℤ) (P : ℤ → Type 0) → (T c → P x) → (T (not c) → P y) → P (cond c x y)
cond_ind true x y P f g = f tt
cond_ind false x y P f g = g tt

pub subℕ_ge : (a b : ℕ) → b ≤ a → sub_ℕ a b ≡ pos (a - b)
subℕ_ge a b h = cond_no (ltb a b) (negsuc (b - suc a)) (pos (a - b)) (le→nltb a b h)

pub subℕ_lt : (a b : ℕ) → a < b → sub_ℕ a b ≡ negsuc (b - suc a)
subℕ_lt a b h = cond_yes (ltb a b) (negsuc (b - suc a)) (pos (a - b)) (lt→ltb a b h)

-- ---- an order is a natural number added
dest' : (a b : ℤ) → T (le_z a b) → (k : ℕ) × (b ≡ a +ℤ pos k)
dest' (pos a) (pos b) t = (b - a, let h : a ≤ b = leb→le a b t in ap pos (omega arith))
dest' (pos a) (negsuc b) t = absurd t
dest' (negsuc a) (pos b) t = (suc a + b, sym (subℕ_ge (suc a + b) (suc a) (omega arith) ∙ ap pos (omega arith)))
dest' (negsuc a) (negsuc b) t = (a - b, let h : b ≤ a = leb→le b a t in sym (subℕ_lt (a - b) (suc a) (omega arith) ∙ ap negsuc (omega arith)))

pub ≤ℤ-dest : {a b : ℤ} → a ≤ℤ b → (k : ℕ) × (b ≡ a +ℤ pos k)
≤ℤ-dest {a} {b} h = dest' a b h.le

intro' : (a : ℤ) (k : ℕ) → T (le_z a (a +ℤ pos k))
intro' (pos a) k = le→leb a (a + k) (omega arith)
intro' (negsuc a) k = cond_ind (ltb k (suc a)) (negsuc (suc a - suc k)) (pos (k - suc a)) (λ z. T (le_z (negsuc a) z))
    (λ t. le→leb (suc a - suc k) a (omega arith)) (λ t. tt)

pub ≤ℤ-intro : {a b : ℤ} (k : ℕ) → b ≡ a +ℤ pos k → a ≤ℤ b
≤ℤ-intro {a} {b} k e = record { le = subst (λ z. T (le_z a z)) (sym e) (intro' a k) }

-- ---- the strict order is the order from the successor
lt_is : (a b : ℤ) → lt_z a b ≡ le_z (suc_ℤ a) b
lt_is (pos a) (pos b) = refl
lt_is (pos a) (negsuc b) = refl
lt_is (negsuc zero) (pos b) = sym (leb-zero b)
lt_is (negsuc (suc a)) (pos b) = refl
lt_is (negsuc zero) (negsuc b) = leb-suc-zero b
lt_is (negsuc (suc a)) (negsuc b) = leb-suc-suc b a

pub <ℤ-suc : {a b : ℤ} → a <ℤ b → (a +ℤ pos 1) ≤ℤ b
<ℤ-suc {a} {b} h = record { le = subst (λ z. T (le_z z b)) (sym (+ℤ_one a)) (subst T (lt_is a b) h.lt) }

pub suc-<ℤ : {a b : ℤ} → (a +ℤ pos 1) ≤ℤ b → a <ℤ b
suc-<ℤ {a} {b} h = record { lt = subst T (sym (lt_is a b)) (subst (λ z. T (le_z z b)) (+ℤ_one a) h.le) }

pub <ℤ-dest : {a b : ℤ} → a <ℤ b → (k : ℕ) × (b ≡ a +ℤ pos (suc k))
<ℤ-dest {a} {b} h =
    let d = ≤ℤ-dest (<ℤ-suc h) in
    (d.0, d.1 ∙ +ℤ_assoc a (pos 1) (pos d.0) ∙ ap (λ (n : ℕ). a +ℤ pos n) (omega arith))

pub <ℤ-intro : {a b : ℤ} (k : ℕ) → b ≡ a +ℤ pos (suc k) → a <ℤ b
<ℤ-intro {a} {b} k e = suc-<ℤ (≤ℤ-intro k (e ∙ ap (λ (n : ℕ). a +ℤ pos n) (omega arith) ∙ sym (+ℤ_assoc a (pos 1) (pos k))))

-- ---- from one to the other
pub <ℤ-≤ℤ : {a b : ℤ} → a <ℤ b → a ≤ℤ b
<ℤ-≤ℤ h = let d = <ℤ-dest h in ≤ℤ-intro (suc d.0) d.1

pub ≡-≤ℤ : {a b : ℤ} → a ≡ b → a ≤ℤ b
≡-≤ℤ {a} {b} e = subst (λ z. a ≤ℤ z) e (≤ℤ_refl a)

-- ---- transitivity
pub ≤ℤ-trans : {a b c : ℤ} → a ≤ℤ b → b ≤ℤ c → a ≤ℤ c
≤ℤ-trans {a} h k =
    let d = ≤ℤ-dest h in let e = ≤ℤ-dest k in
    ≤ℤ-intro (d.0 + e.0) (e.1 ∙ ap (λ z. z +ℤ pos e.0) d.1 ∙ +ℤ_assoc a (pos d.0) (pos e.0))

pub ≤ℤ-<ℤ-trans : {a b c : ℤ} → a ≤ℤ b → b <ℤ c → a <ℤ c
≤ℤ-<ℤ-trans {a} h k =
    let d = ≤ℤ-dest h in let e = <ℤ-dest k in
    <ℤ-intro (d.0 + e.0) (e.1 ∙ ap (λ z. z +ℤ pos (suc e.0)) d.1 ∙ +ℤ_assoc a (pos d.0) (pos (suc e.0)) ∙ ap (λ (n : ℕ). a +ℤ pos n) (omega arith))

pub <ℤ-trans : {a b c : ℤ} → a <ℤ b → b <ℤ c → a <ℤ c
<ℤ-trans h k = ≤ℤ-<ℤ-trans (<ℤ-≤ℤ h) k

pub ≤ℤ-antisym : {a b : ℤ} → a ≤ℤ b → b ≤ℤ a → a ≡ b
≤ℤ-antisym {a = pos a} {b = pos b} h k = ap pos (NatL.le_antisymm (leb→le a b h.le) (leb→le b a k.le))
≤ℤ-antisym {a = pos a} {b = negsuc b} h k = absurd h.le
≤ℤ-antisym {a = negsuc a} {b = pos b} h k = absurd k.le
≤ℤ-antisym {a = negsuc a} {b = negsuc b} h k = ap negsuc (NatL.le_antisymm (leb→le a b k.le) (leb→le b a h.le))

-- ---- decision: total, and by three cases
by_test : (b : Bool) → T b ⊎ T (not b)
by_test true = inl tt
by_test false = inr tt

pub ≤ℤ-or-<ℤ : (a b : ℤ) → (a ≤ℤ b) ⊎ (b <ℤ a)
≤ℤ-or-<ℤ a b = go (by_test (lt_z b a))
  where
    go : T (lt_z b a) ⊎ T (not (lt_z b a)) → (a ≤ℤ b) ⊎ (b <ℤ a)
    go (inl t) = inr (record { lt = t })
    go (inr t) = inl (lib.Signed.lt_z_no t)

-- ---- an order carried over by an identity: y - x is v - u
-- ≤-by (a ∷ b ∷ []) h (search reads depth 20) tt : x ≤ℤ y, from h : u ≤ℤ v
pub ≤-by : (ρ : List ℤ) {x y u v : ℤ} → u ≤ℤ v → (s : Sides ρ (x +ℤ v) (y +ℤ u)) → Agree s → x ≤ℤ y
≤-by ρ {x} {y} {u} {v} h s e =
    let d = ≤ℤ-dest h in
    ≤ℤ-intro d.0 (+ℤ-cancel-r y (x +ℤ pos d.0) u (sym (sides_eq s e) ∙ ap (λ z. x +ℤ z) d.1 ∙ ring (x ∷ u ∷ pos d.0 ∷ []) (search reads depth 20) tt))

pub <-by : (ρ : List ℤ) {x y u v : ℤ} → u <ℤ v → (s : Sides ρ (x +ℤ v) (y +ℤ u)) → Agree s → x <ℤ y
<-by ρ {x} {y} {u} {v} h s e =
    let d = <ℤ-dest h in
    <ℤ-intro d.0 (+ℤ-cancel-r y (x +ℤ pos (suc d.0)) u (sym (sides_eq s e) ∙ ap (λ z. x +ℤ z) d.1 ∙ ring (x ∷ u ∷ pos (suc d.0) ∷ []) (search reads depth 20) tt))

-- ---- sums
pub +ℤ-mono : {a b c d : ℤ} → a ≤ℤ b → c ≤ℤ d → (a +ℤ c) ≤ℤ (b +ℤ d)
+ℤ-mono {a} {b} {c} {d} h k =
    ≤ℤ-trans {b = b +ℤ c} (≤-by (a ∷ b ∷ c ∷ []) h (search reads depth 20) tt) (≤-by (b ∷ c ∷ d ∷ []) k (search reads depth 20) tt)

pub +ℤ-mono-< : {a b c d : ℤ} → a <ℤ b → c ≤ℤ d → (a +ℤ c) <ℤ (b +ℤ d)
+ℤ-mono-< {a} {b} {c} {d} h k =
    <ℤ-≤ℤ_trans {b = b +ℤ c} (<-by (a ∷ b ∷ c ∷ []) h (search reads depth 20) tt) (≤-by (b ∷ c ∷ d ∷ []) k (search reads depth 20) tt)

pub +ℤ-mono-≤< : {a b c d : ℤ} → a ≤ℤ b → c <ℤ d → (a +ℤ c) <ℤ (b +ℤ d)
+ℤ-mono-≤< {a} {b} {c} {d} h k =
    ≤ℤ-<ℤ-trans {b = b +ℤ c} (≤-by (a ∷ b ∷ c ∷ []) h (search reads depth 20) tt) (<-by (b ∷ c ∷ d ∷ []) k (search reads depth 20) tt)

-- ---- not negative, and positive
pub nonneg_pos : (n : ℕ) → pos 0 ≤ℤ pos n
nonneg_pos n = ≤ℤ-intro n (sym (+ℤ_idl (pos n)))

pub pos_suc_pos : (n : ℕ) → pos 0 <ℤ pos (suc n)
pos_suc_pos n = <ℤ-intro n (sym (+ℤ_idl (pos (suc n))))

pub nonneg_is : {a : ℤ} → pos 0 ≤ℤ a → (n : ℕ) × (a ≡ pos n)
nonneg_is h = let d = ≤ℤ-dest h in (d.0, d.1 ∙ +ℤ_idl (pos d.0))

pub positive_is : {a : ℤ} → pos 0 <ℤ a → (n : ℕ) × (a ≡ pos (suc n))
positive_is h = let d = <ℤ-dest h in (d.0, d.1 ∙ +ℤ_idl (pos (suc d.0)))

pub nonneg-+ : {a b : ℤ} → pos 0 ≤ℤ a → pos 0 ≤ℤ b → pos 0 ≤ℤ (a +ℤ b)
nonneg-+ h k = +ℤ-mono h k

pub positive-+ : {a b : ℤ} → pos 0 <ℤ a → pos 0 ≤ℤ b → pos 0 <ℤ (a +ℤ b)
positive-+ h k = +ℤ-mono-< h k

pub positive-+' : {a b : ℤ} → pos 0 ≤ℤ a → pos 0 <ℤ b → pos 0 <ℤ (a +ℤ b)
positive-+' h k = +ℤ-mono-≤< h k

pub nonneg-* : {a b : ℤ} → pos 0 ≤ℤ a → pos 0 ≤ℤ b → pos 0 ≤ℤ (a *ℤ b)
nonneg-* h k =
    let d = nonneg_is h in let e = nonneg_is k in
    ≤ℤ-intro (d.0 * e.0) (ap₂ ◌*ℤ◌ d.1 e.1 ∙ sym (+ℤ_idl (pos (d.0 * e.0))))

pub positive-* : {a b : ℤ} → pos 0 <ℤ a → pos 0 <ℤ b → pos 0 <ℤ (a *ℤ b)
positive-* h k =
    let d = positive_is h in let e = positive_is k in
    <ℤ-intro (d.0 * e.0 + d.0 + e.0) (ap₂ ◌*ℤ◌ d.1 e.1 ∙ ap pos (omega arith) ∙ sym (+ℤ_idl (pos (suc (d.0 * e.0 + d.0 + e.0)))))

-- ---- differences
pub ≤ℤ-sub : {a b : ℤ} → a ≤ℤ b → pos 0 ≤ℤ (b -ℤ a)
≤ℤ-sub {a} {b} h = ≤-by (a ∷ b ∷ []) h (search reads depth 20) tt

pub sub-≤ℤ : {a b : ℤ} → pos 0 ≤ℤ (b -ℤ a) → a ≤ℤ b
sub-≤ℤ {a} {b} h = ≤-by (a ∷ b ∷ []) h (search reads depth 20) tt

pub <ℤ-sub : {a b : ℤ} → a <ℤ b → pos 0 <ℤ (b -ℤ a)
<ℤ-sub {a} {b} h = <-by (a ∷ b ∷ []) h (search reads depth 20) tt

pub sub-<ℤ : {a b : ℤ} → pos 0 <ℤ (b -ℤ a) → a <ℤ b
sub-<ℤ {a} {b} h = <-by (a ∷ b ∷ []) h (search reads depth 20) tt

-- ---- negation turns the order
pub negℤ-≤ : {a b : ℤ} → a ≤ℤ b → neg_ℤ b ≤ℤ neg_ℤ a
negℤ-≤ {a} {b} h = ≤-by (a ∷ b ∷ []) h (search reads depth 20) tt

pub negℤ-< : {a b : ℤ} → a <ℤ b → neg_ℤ b <ℤ neg_ℤ a
negℤ-< {a} {b} h = <-by (a ∷ b ∷ []) h (search reads depth 20) tt

-- ---- products
pub *ℤ-mono-l : {a b : ℤ} (c : ℤ) → pos 0 ≤ℤ c → a ≤ℤ b → (c *ℤ a) ≤ℤ (c *ℤ b)
*ℤ-mono-l {a} {b} c n h = ≤-by (a ∷ b ∷ c ∷ []) (nonneg-* n (≤ℤ-sub h)) (search reads depth 20) tt

pub *ℤ-mono-<-l : {a b : ℤ} (c : ℤ) → pos 0 <ℤ c → a <ℤ b → (c *ℤ a) <ℤ (c *ℤ b)
*ℤ-mono-<-l {a} {b} c n h = <-by (a ∷ b ∷ c ∷ []) (positive-* n (<ℤ-sub h)) (search reads depth 20) tt

-- a positive factor is taken away
pub *ℤ-cancel-≤ : {a b : ℤ} (c : ℤ) → pos 0 <ℤ c → (c *ℤ a) ≤ℤ (c *ℤ b) → a ≤ℤ b
*ℤ-cancel-≤ {a} {b} c n h = go (≤ℤ-or-<ℤ a b)
  where
    go : (a ≤ℤ b) ⊎ (b <ℤ a) → a ≤ℤ b
    go (inl k) = k
    go (inr k) = clash_ℤ (*ℤ-mono-<-l c n k) h

pub *ℤ-cancel-< : {a b : ℤ} (c : ℤ) → pos 0 <ℤ c → (c *ℤ a) <ℤ (c *ℤ b) → a <ℤ b
*ℤ-cancel-< {a} {b} c n h = go (≤ℤ-or-<ℤ b a)
  where
    go : (b ≤ℤ a) ⊎ (a <ℤ b) → a <ℤ b
    go (inl k) = clash_ℤ h (*ℤ-mono-l c (<ℤ-≤ℤ n) k)
    go (inr k) = k

pub *ℤ-cancel-≡ : {a b : ℤ} (c : ℤ) → pos 0 <ℤ c → c *ℤ a ≡ c *ℤ b → a ≡ b
*ℤ-cancel-≡ {a} {b} c n h = ≤ℤ-antisym (*ℤ-cancel-≤ c n (≡-≤ℤ h)) (*ℤ-cancel-≤ c n (≡-≤ℤ (sym h)))

-- ---- the embedding of ℕ
pub pos_inj : {m n : ℕ} → pos m ≡ pos n → m ≡ n
pos_inj e = ap nat_abs e

pub pos-≤ : {m n : ℕ} → m ≤ n → pos m ≤ℤ pos n
pos-≤ {m} {n} h = record { le = le→leb m n h }

pub ≤-pos : {m n : ℕ} → pos m ≤ℤ pos n → m ≤ n
≤-pos {m} {n} h = leb→le m n h.le

pub pos-< : {m n : ℕ} → m < n → pos m <ℤ pos n
pos-< {m} {n} h = record { lt = lt→ltb m n h }

pub <-pos : {m n : ℕ} → pos m <ℤ pos n → m < n
<-pos {m} {n} h = ltb→lt m n h.lt
