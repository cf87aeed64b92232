-- Linear arithmetic over ℤ by `omega`. Each integer is the difference of two naturals, `pp z` and `np z`. A fact x ≤ y on integers is one on naturals, N ≤ P: P and N are the sums of the positive and the negative terms of the normal form of y - x, in which each monomial is an atom.
--     ≤⇒ ρ (search reads depth 20) h     the fact on naturals that h : x ≤ℤ y says; <⇒ and ≡⇒ likewise
--     ≤⇐ ρ (search reads depth 20) t     x ≤ℤ y, from the fact t on naturals; <⇐, ≡⇐ and ⊥⇐ likewise
-- So  ≤⇐ ρ (search reads depth 20) (omega (arith, ≤⇒ ρ (search reads depth 20) h, ..))
use mathlib.Core.Path.{◌≡◌, refl, sym, ◌∙◌, ap, ap₂}
use mathlib.Core.List.{List, [], ◌∷◌}
use Prim.Native.Nat.{ℕ, suc, ◌+◌, ◌*◌, ◌-◌, ◌≤◌, ◌<◌}
use native.Mathlib.Omega.{arith}
use lib.IntN.{ℤ, pos, negsuc, neg_ℤ, nat_abs, ◌+ℤ◌, ◌-ℤ◌, ◌*ℤ◌, +ℤ_idl, +ℤ_idr}
use lib.Signed.{◌≤ℤ◌, ◌<ℤ◌}
use Rattle.whole.proofs.Ring.{*ℤ-pos-one, -ℤ-zero→≡, -ℤ-self, +ℤ-cancel-r}
use Rattle.whole.proofs.Solve.{◌⊖◌, Poly, nil, term, at, mev, pev, norm, norm_is}
use Rattle.whole.proofs.Quote.{ring_from, reads, Sides, sides, lhs, rhs, ex_is}
use Rattle.whole.proofs.Order.{subℕ_ge, ≤ℤ-sub, sub-≤ℤ, <ℤ-sub, sub-<ℤ, ≤ℤ-intro, <ℤ-intro, nonneg_is, positive_is}

-- the two parts of an integer
pub pp : ℤ → ℕ
pp (pos n) = n
pp (negsuc n) = 0

pub np : ℤ → ℕ
np (pos n) = 0
np (negsuc n) = suc n

pub parts : (z : ℤ) → z +ℤ pos (np z) ≡ pos (pp z)
unfolding pp np
parts (pos n) = +ℤ_idr (pos n)
parts (negsuc n) = subℕ_ge (suc n) (suc n) (omega arith) ∙ ap pos (omega arith)

-- of a monomial
abbrev pub pm : List ℤ → List ℕ → ℕ
pm ρ [] = 1
pm ρ (i ∷ []) = pp (at ρ i)
pm ρ (i ∷ j ∷ m) = pp (mev ρ (i ∷ j ∷ m))

abbrev pub nm : List ℤ → List ℕ → ℕ
nm ρ [] = 0
nm ρ (i ∷ []) = np (at ρ i)
nm ρ (i ∷ j ∷ m) = np (mev ρ (i ∷ j ∷ m))

mono_parts : (ρ : List ℤ) (m : List ℕ) → mev ρ m +ℤ pos (nm ρ m) ≡ pos (pm ρ m)
mono_parts ρ [] = refl
mono_parts ρ (i ∷ []) = ap (λ z. z +ℤ pos (np (at ρ i))) (*ℤ-pos-one (at ρ i)) ∙ parts (at ρ i)
mono_parts ρ (i ∷ j ∷ m) = parts (mev ρ (i ∷ j ∷ m))

-- of a polynomial
abbrev pub ps : List ℤ → Poly → ℕ
ps ρ nil = 0
ps ρ (term (pos c) m p) = c * pm ρ m + ps ρ p
ps ρ (term (negsuc c) m p) = suc c * nm ρ m + ps ρ p

abbrev pub ns : List ℤ → Poly → ℕ
ns ρ nil = 0
ns ρ (term (pos c) m p) = c * nm ρ m + ns ρ p
ns ρ (term (negsuc c) m p) = suc c * pm ρ m + ns ρ p

shift_pos : (C M R a n A : ℤ) → M +ℤ a ≡ A → (C *ℤ M +ℤ R) +ℤ (C *ℤ a +ℤ n) ≡ C *ℤ A +ℤ (R +ℤ n)
shift_pos C M R a n A e = ring_from (C ∷ M ∷ R ∷ a ∷ n ∷ A ∷ []) (ap (λ t. C *ℤ t) e) (search reads depth 20) tt

shift_neg : (C M R a n A : ℤ) → M +ℤ a ≡ A → (neg_ℤ C *ℤ M +ℤ R) +ℤ (C *ℤ A +ℤ n) ≡ C *ℤ a +ℤ (R +ℤ n)
shift_neg C M R a n A e = ring_from (C ∷ M ∷ R ∷ a ∷ n ∷ A ∷ []) (ap (λ t. C *ℤ t) (sym e)) (search reads depth 20) tt

pub poly_parts : (ρ : List ℤ) (p : Poly) → pev ρ p +ℤ pos (ns ρ p) ≡ pos (ps ρ p)
poly_parts ρ nil = refl
poly_parts ρ (term (pos c) m p) = shift_pos (pos c) (mev ρ m) (pev ρ p) (pos (nm ρ m)) (pos (ns ρ p)) (pos (pm ρ m)) (mono_parts ρ m) ∙ ap (λ z. pos (c * pm ρ m) +ℤ z) (poly_parts ρ p)
poly_parts ρ (term (negsuc c) m p) = shift_neg (pos (suc c)) (mev ρ m) (pev ρ p) (pos (nm ρ m)) (pos (ns ρ p)) (pos (pm ρ m)) (mono_parts ρ m) ∙ ap (λ z. pos (suc c * nm ρ m) +ℤ z) (poly_parts ρ p)

-- of the difference of two sides
abbrev pub P : {ρ : List ℤ} {x y : ℤ} → Sides ρ x y → ℕ
P {ρ} s = ps ρ (norm (rhs s ⊖ lhs s))

abbrev pub N : {ρ : List ℤ} {x y : ℤ} → Sides ρ x y → ℕ
N {ρ} s = ns ρ (norm (rhs s ⊖ lhs s))

sides_parts : {ρ : List ℤ} {x y : ℤ} (s : Sides ρ x y) → (y -ℤ x) +ℤ pos (N s) ≡ pos (P s)
sides_parts {ρ} {x} {y} (sides p q) =
    ap (λ z. z +ℤ pos (ns ρ (norm (rhs (sides p q) ⊖ lhs (sides p q))))) (sym (norm_is ρ (rhs (sides p q) ⊖ lhs (sides p q)) ∙ ap₂ ◌-ℤ◌ (ex_is q) (ex_is p)))
    ∙ poly_parts ρ (norm (rhs (sides p q) ⊖ lhs (sides p q)))

-- ---- on the numbers alone
module _ {D : ℤ} {n p : ℕ} (e : D +ℤ pos n ≡ pos p) where
  le_out : pos 0 ≤ℤ D → n ≤ p
  le_out h = let d = nonneg_is h in let f : d.0 + n ≡ p = ap nat_abs (ap (λ z. z +ℤ pos n) (sym d.1) ∙ e) in omega arith

  lt_out : pos 0 <ℤ D → n < p
  lt_out h = let d = positive_is h in let f : suc d.0 + n ≡ p = ap nat_abs (ap (λ z. z +ℤ pos n) (sym d.1) ∙ e) in omega arith

  eq_out : D ≡ pos 0 → n ≡ p
  eq_out h = let f : 0 + n ≡ p = ap nat_abs (ap (λ z. z +ℤ pos n) (sym h) ∙ e) in omega arith

  is : n ≤ p → D ≡ pos (p - n)
  is h = +ℤ-cancel-r D (pos (p - n)) (pos n) (e ∙ ap pos (omega arith))

  le_in : n ≤ p → pos 0 ≤ℤ D
  le_in h = ≤ℤ-intro (p - n) (is h ∙ sym (+ℤ_idl (pos (p - n))))

  lt_in : n < p → pos 0 <ℤ D
  lt_in h = <ℤ-intro (p - n - 1) (is (omega arith) ∙ ap pos (omega arith) ∙ sym (+ℤ_idl (pos (suc (p - n - 1)))))

  eq_in : n ≡ p → D ≡ pos 0
  eq_in h = is (omega arith) ∙ ap pos (omega arith)

-- ---- from ℤ to ℕ
pub ≤⇒ : (ρ : List ℤ) {x y : ℤ} (s : Sides ρ x y) → x ≤ℤ y → N s ≤ P s
≤⇒ ρ s h = le_out (sides_parts s) (≤ℤ-sub h)

pub <⇒ : (ρ : List ℤ) {x y : ℤ} (s : Sides ρ x y) → x <ℤ y → N s < P s
<⇒ ρ s h = lt_out (sides_parts s) (<ℤ-sub h)

pub ≡⇒ : (ρ : List ℤ) {x y : ℤ} (s : Sides ρ x y) → x ≡ y → N s ≡ P s
≡⇒ ρ {x} {y} s h = eq_out (sides_parts s) (ap (λ z. y -ℤ z) h ∙ -ℤ-self y)

-- ---- and back
pub ≤⇐ : (ρ : List ℤ) {x y : ℤ} (s : Sides ρ x y) → N s ≤ P s → x ≤ℤ y
≤⇐ ρ s h = sub-≤ℤ (le_in (sides_parts s) h)

pub <⇐ : (ρ : List ℤ) {x y : ℤ} (s : Sides ρ x y) → N s < P s → x <ℤ y
<⇐ ρ s h = sub-<ℤ (lt_in (sides_parts s) h)

pub ≡⇐ : (ρ : List ℤ) {x y : ℤ} (s : Sides ρ x y) → N s ≡ P s → x ≡ y
≡⇐ ρ {x} {y} s h = sym (-ℤ-zero→≡ y x (eq_in (sides_parts s) h))
