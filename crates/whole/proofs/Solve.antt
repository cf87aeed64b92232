-- A reflective solver for identities of the commutative ring ℤ.
-- An expression is an `Ex`; its value under a list of integers is `ev ρ e`; its normal form `norm e` is a sum of monomials, sorted, with no zero coefficient.
-- solve ρ e₁ e₂ tt : ev ρ e₁ ≡ ev ρ e₂   where the two normal forms are one. All is `abbrev`, so that both sides compute where the call stands.
use mathlib.Core.Path.{◌≡◌, refl, sym, ◌∙◌, ap, ap₂}
use mathlib.Core.List.{List, [], ◌∷◌}
use mathlib.Core.Bool.{Bool, true, false}
use Prim.Native.Nat.{ℕ, zero, suc, compare, Ordering}
use lib.Dec.{T, leb, eqb, eqb→eq, compare_is_eq}
use lib.IntN.{ℤ, pos, negsuc, neg_ℤ, ◌+ℤ◌, ◌-ℤ◌, ◌*ℤ◌, +ℤ_idl, +ℤ_idr, +ℤ_assoc, neg_ℤ-+ℤ, zero-*ℤ}
use Rattle.whole.proofs.Ring.{+ℤ-left-comm, *ℤ-distr-r, *ℤ-distr-l, *ℤ-assoc, *ℤ-left-comm, *ℤ-swap, one-*ℤ, *ℤ-pos-one, negℤ-*ℤ_l}

infixl 6 ◌⊕◌ ◌⊖◌
infixl 7 ◌⊗◌
pub data Ex : Type 0 where
  var : ℕ → Ex
  con : ℤ → Ex
  ◌⊕◌ : Ex → Ex → Ex
  ◌⊗◌ : Ex → Ex → Ex
  ◌⊖◌ : Ex → Ex → Ex
  neg : Ex → Ex

abbrev pub at : List ℤ → ℕ → ℤ
at [] i = pos 0
at (x ∷ ρ) zero = x
at (x ∷ ρ) (suc i) = at ρ i

abbrev pub ev : List ℤ → Ex → ℤ
ev ρ (var i) = at ρ i
ev ρ (con c) = c
ev ρ (e ⊕ f) = ev ρ e +ℤ ev ρ f
ev ρ (e ⊗ f) = ev ρ e *ℤ ev ρ f
ev ρ (e ⊖ f) = ev ρ e -ℤ ev ρ f
ev ρ (neg e) = neg_ℤ (ev ρ e)

-- ---- monomials: sorted lists of variables
abbrev pub mev : List ℤ → List ℕ → ℤ
mev ρ [] = pos 1
mev ρ (i ∷ m) = at ρ i *ℤ mev ρ m

abbrev pub ins_v : ℕ → List ℕ → List ℕ
ins_v i [] = i ∷ []
ins_v i (j ∷ m) = elim (leb i j) [ true ↦ i ∷ j ∷ m | false ↦ j ∷ ins_v i m ]

abbrev pub mul_m : List ℕ → List ℕ → List ℕ
mul_m [] n = n
mul_m (i ∷ m) n = ins_v i (mul_m m n)

abbrev pub cmp_m : List ℕ → List ℕ → Ordering
cmp_m [] [] = Ordering.eq
cmp_m [] (j ∷ n) = Ordering.lt
cmp_m (i ∷ m) [] = Ordering.gt
cmp_m (i ∷ m) (j ∷ n) = elim (compare i j) [ Ordering.lt ↦ Ordering.lt | Ordering.eq ↦ cmp_m m n | Ordering.gt ↦ Ordering.gt ]

-- ---- polynomials
pub data Poly : Type 0 where
  nil : Poly
  term : ℤ → List ℕ → Poly → Poly

abbrev pub pev : List ℤ → Poly → ℤ
pev ρ nil = pos 0
pev ρ (term c m p) = c *ℤ mev ρ m +ℤ pev ρ p

-- a term in front, unless its coefficient is zero
abbrev pub front : ℤ → List ℕ → Poly → Poly
front (pos zero) m p = p
front (pos (suc n)) m p = term (pos (suc n)) m p
front (negsuc n) m p = term (negsuc n) m p

abbrev pub ins_t : ℤ → List ℕ → Poly → Poly
ins_t c m nil = term c m nil
ins_t c m (term d n p) = elim (cmp_m m n) [ Ordering.lt ↦ term c m (term d n p) | Ordering.eq ↦ front (c +ℤ d) n p | Ordering.gt ↦ term d n (ins_t c m p) ]

abbrev pub add_p : Poly → Poly → Poly
add_p nil q = q
add_p (term c m p) q = ins_t c m (add_p p q)

abbrev pub neg_p : Poly → Poly
neg_p nil = nil
neg_p (term c m p) = term (neg_ℤ c) m (neg_p p)

-- the same, once the monomial is computed: an argument that is a call waits, and would be computed anew at each comparison
abbrev pub ins_f : ℤ → List ℕ → Poly → Poly
ins_f (pos k) [] p = ins_t (pos k) [] p
ins_f (pos k) (i ∷ m) p = ins_t (pos k) (i ∷ m) p
ins_f (negsuc k) [] p = ins_t (negsuc k) [] p
ins_f (negsuc k) (i ∷ m) p = ins_t (negsuc k) (i ∷ m) p

abbrev pub mul_t : ℤ → List ℕ → Poly → Poly → Poly
mul_t c m nil acc = acc
mul_t c m (term d n p) acc = ins_f (c *ℤ d) (mul_m m n) (mul_t c m p acc)

abbrev pub mul_p : Poly → Poly → Poly
mul_p nil q = nil
mul_p (term c m p) q = mul_t c m q (mul_p p q)

abbrev pub norm : Ex → Poly
norm (var i) = term (pos 1) (i ∷ []) nil
norm (con c) = front c [] nil
norm (e ⊕ f) = add_p (norm e) (norm f)
norm (e ⊗ f) = mul_p (norm e) (norm f)
norm (e ⊖ f) = add_p (norm e) (neg_p (norm f))
norm (neg e) = neg_p (norm e)

-- ---- soundness
ins_v_is : (ρ : List ℤ) (i : ℕ) (m : List ℕ) → mev ρ (ins_v i m) ≡ at ρ i *ℤ mev ρ m
ins_v_is ρ i [] = refl
ins_v_is ρ i (j ∷ m) = go (leb i j) (ins_v_is ρ i m)
  where
    go : (b : Bool) → mev ρ (ins_v i m) ≡ at ρ i *ℤ mev ρ m → mev ρ (elim b [ true ↦ i ∷ j ∷ m | false ↦ j ∷ ins_v i m ]) ≡ at ρ i *ℤ (at ρ j *ℤ mev ρ m)
    go true h = refl
    go false h = ap (λ x. at ρ j *ℤ x) h ∙ *ℤ-left-comm (at ρ j) (at ρ i) (mev ρ m)

mul_m_is : (ρ : List ℤ) (m n : List ℕ) → mev ρ (mul_m m n) ≡ mev ρ m *ℤ mev ρ n
mul_m_is ρ [] n = sym (one-*ℤ (mev ρ n))
mul_m_is ρ (i ∷ m) n = ins_v_is ρ i (mul_m m n) ∙ ap (λ x. at ρ i *ℤ x) (mul_m_is ρ m n) ∙ sym (*ℤ-assoc (at ρ i) (mev ρ m) (mev ρ n))

front_is : (ρ : List ℤ) (c : ℤ) (m : List ℕ) (p : Poly) → pev ρ (front c m p) ≡ c *ℤ mev ρ m +ℤ pev ρ p
front_is ρ (pos zero) m p = sym (ap (λ x. x +ℤ pev ρ p) (zero-*ℤ (mev ρ m)) ∙ +ℤ_idl (pev ρ p))
front_is ρ (pos (suc n)) m p = refl
front_is ρ (negsuc n) m p = refl

cmp_m_eq : (m n : List ℕ) → T (compare_is_eq (cmp_m m n)) → m ≡ n
cmp_m_eq [] [] t = refl
cmp_m_eq [] (j ∷ n) t = absurd t
cmp_m_eq (i ∷ m) [] t = absurd t
cmp_m_eq (i ∷ m) (j ∷ n) t = go (compare i j) (λ s. eqb→eq i j s) (cmp_m_eq m n) t
  where
    go : (o : Ordering) → (T (compare_is_eq o) → i ≡ j) → (T (compare_is_eq (cmp_m m n)) → m ≡ n) → T (compare_is_eq (elim o [ Ordering.lt ↦ Ordering.lt | Ordering.eq ↦ cmp_m m n | Ordering.gt ↦ Ordering.gt ])) → i ∷ m ≡ j ∷ n
    go Ordering.lt f g s = absurd s
    go Ordering.eq f g s = ap₂ ◌∷◌ (f tt) (g s)
    go Ordering.gt f g s = absurd s

ins_t_is : (ρ : List ℤ) (c : ℤ) (m : List ℕ) (p : Poly) → pev ρ (ins_t c m p) ≡ c *ℤ mev ρ m +ℤ pev ρ p
ins_t_is ρ c m nil = refl
ins_t_is ρ c m (term d n p) = go (cmp_m m n) (λ s. cmp_m_eq m n s) (ins_t_is ρ c m p)
  where
    go : (o : Ordering) → (T (compare_is_eq o) → m ≡ n) → pev ρ (ins_t c m p) ≡ c *ℤ mev ρ m +ℤ pev ρ p
        → pev ρ (elim o [ Ordering.lt ↦ term c m (term d n p) | Ordering.eq ↦ front (c +ℤ d) n p | Ordering.gt ↦ term d n (ins_t c m p) ]) ≡ c *ℤ mev ρ m +ℤ (d *ℤ mev ρ n +ℤ pev ρ p)
    go Ordering.lt f h = refl
    go Ordering.eq f h = front_is ρ (c +ℤ d) n p ∙ ap (λ x. x +ℤ pev ρ p) (*ℤ-distr-r c d (mev ρ n) ∙ ap (λ k. c *ℤ mev ρ k +ℤ d *ℤ mev ρ n) (sym (f tt))) ∙ +ℤ_assoc (c *ℤ mev ρ m) (d *ℤ mev ρ n) (pev ρ p)
    go Ordering.gt f h = ap (λ x. d *ℤ mev ρ n +ℤ x) h ∙ +ℤ-left-comm (d *ℤ mev ρ n) (c *ℤ mev ρ m) (pev ρ p)

add_p_is : (ρ : List ℤ) (p q : Poly) → pev ρ (add_p p q) ≡ pev ρ p +ℤ pev ρ q
add_p_is ρ nil q = sym (+ℤ_idl (pev ρ q))
add_p_is ρ (term c m p) q = ins_t_is ρ c m (add_p p q) ∙ ap (λ x. c *ℤ mev ρ m +ℤ x) (add_p_is ρ p q) ∙ sym (+ℤ_assoc (c *ℤ mev ρ m) (pev ρ p) (pev ρ q))

neg_p_is : (ρ : List ℤ) (p : Poly) → pev ρ (neg_p p) ≡ neg_ℤ (pev ρ p)
neg_p_is ρ nil = refl
neg_p_is ρ (term c m p) = ap₂ ◌+ℤ◌ (negℤ-*ℤ_l c (mev ρ m)) (neg_p_is ρ p) ∙ sym (neg_ℤ-+ℤ (c *ℤ mev ρ m) (pev ρ p))

ins_f_is : (ρ : List ℤ) (c : ℤ) (m : List ℕ) (p : Poly) → pev ρ (ins_f c m p) ≡ c *ℤ mev ρ m +ℤ pev ρ p
ins_f_is ρ (pos k) [] p = ins_t_is ρ (pos k) [] p
ins_f_is ρ (pos k) (i ∷ m) p = ins_t_is ρ (pos k) (i ∷ m) p
ins_f_is ρ (negsuc k) [] p = ins_t_is ρ (negsuc k) [] p
ins_f_is ρ (negsuc k) (i ∷ m) p = ins_t_is ρ (negsuc k) (i ∷ m) p

mul_t_is : (ρ : List ℤ) (c : ℤ) (m : List ℕ) (p acc : Poly) → pev ρ (mul_t c m p acc) ≡ (c *ℤ mev ρ m) *ℤ pev ρ p +ℤ pev ρ acc
mul_t_is ρ c m nil acc = sym (ap (λ x. x +ℤ pev ρ acc) (lib.IntN.*ℤ-zero (c *ℤ mev ρ m)) ∙ +ℤ_idl (pev ρ acc))
mul_t_is ρ c m (term d n p) acc =
    ins_f_is ρ (c *ℤ d) (mul_m m n) (mul_t c m p acc)
    ∙ ap₂ ◌+ℤ◌ (ap (λ x. (c *ℤ d) *ℤ x) (mul_m_is ρ m n) ∙ *ℤ-swap c d (mev ρ m) (mev ρ n)) (mul_t_is ρ c m p acc)
    ∙ sym (+ℤ_assoc ((c *ℤ mev ρ m) *ℤ (d *ℤ mev ρ n)) ((c *ℤ mev ρ m) *ℤ pev ρ p) (pev ρ acc))
    ∙ ap (λ x. x +ℤ pev ρ acc) (sym (*ℤ-distr-l (c *ℤ mev ρ m) (d *ℤ mev ρ n) (pev ρ p)))

mul_p_is : (ρ : List ℤ) (p q : Poly) → pev ρ (mul_p p q) ≡ pev ρ p *ℤ pev ρ q
mul_p_is ρ nil q = sym (zero-*ℤ (pev ρ q))
mul_p_is ρ (term c m p) q = mul_t_is ρ c m q (mul_p p q) ∙ ap (λ x. (c *ℤ mev ρ m) *ℤ pev ρ q +ℤ x) (mul_p_is ρ p q) ∙ sym (*ℤ-distr-r (c *ℤ mev ρ m) (pev ρ p) (pev ρ q))

pub norm_is : (ρ : List ℤ) (e : Ex) → pev ρ (norm e) ≡ ev ρ e
norm_is ρ (var i) = ap (λ x. x +ℤ pos 0) (one-*ℤ (at ρ i *ℤ pos 1) ∙ *ℤ-pos-one (at ρ i)) ∙ +ℤ_idr (at ρ i)
norm_is ρ (con c) = front_is ρ c [] nil ∙ +ℤ_idr (c *ℤ pos 1) ∙ *ℤ-pos-one c
norm_is ρ (e ⊕ f) = add_p_is ρ (norm e) (norm f) ∙ ap₂ ◌+ℤ◌ (norm_is ρ e) (norm_is ρ f)
norm_is ρ (e ⊗ f) = mul_p_is ρ (norm e) (norm f) ∙ ap₂ ◌*ℤ◌ (norm_is ρ e) (norm_is ρ f)
norm_is ρ (e ⊖ f) = add_p_is ρ (norm e) (neg_p (norm f)) ∙ ap₂ ◌+ℤ◌ (norm_is ρ e) (neg_p_is ρ (norm f) ∙ ap neg_ℤ (norm_is ρ f))
norm_is ρ (neg e) = neg_p_is ρ (norm e) ∙ ap neg_ℤ (norm_is ρ e)

-- the two normal forms are one, by a test that computes, whose proof is `tt`. To compare them as terms, by `refl`, takes up to thirty times the steps
abbrev pub eq_z : ℤ → ℤ → Bool
eq_z (pos a) (pos b) = eqb a b
eq_z (pos a) (negsuc b) = false
eq_z (negsuc a) (pos b) = false
eq_z (negsuc a) (negsuc b) = eqb a b

eq_z_is : (a b : ℤ) → T (eq_z a b) → a ≡ b
eq_z_is (pos a) (pos b) t = ap pos (eqb→eq a b t)
eq_z_is (pos a) (negsuc b) t = absurd t
eq_z_is (negsuc a) (pos b) t = absurd t
eq_z_is (negsuc a) (negsuc b) t = ap negsuc (eqb→eq a b t)

abbrev pub same : Poly → Poly → Bool
same nil nil = true
same nil (term d n q) = false
same (term c m p) nil = false
same (term c m p) (term d n q) = elim (eq_z c d) [ true ↦ elim (compare_is_eq (cmp_m m n)) [ true ↦ same p q | false ↦ false ] | false ↦ false ]

same_is : (p q : Poly) → T (same p q) → p ≡ q
same_is nil nil t = refl
same_is nil (term d n q) t = absurd t
same_is (term c m p) nil t = absurd t
same_is (term c m p) (term d n q) t = go (eq_z c d) (eq_z_is c d) (compare_is_eq (cmp_m m n)) (cmp_m_eq m n) (same_is p q) t
  where
    go : (a : Bool) → (T a → c ≡ d) → (b : Bool) → (T b → m ≡ n) → (T (same p q) → p ≡ q) → T (elim a [ true ↦ elim b [ true ↦ same p q | false ↦ false ] | false ↦ false ]) → term c m p ≡ term d n q
    go true f true g h s = λ i. term (f tt i) (g tt i) (h s i)
    go true f false g h s = absurd s
    go false f b g h s = absurd s

pub solve : (ρ : List ℤ) (e f : Ex) → T (same (norm e) (norm f)) → ev ρ e ≡ ev ρ f
solve ρ e f t = sym (norm_is ρ e) ∙ ap (pev ρ) (same_is (norm e) (norm f) t) ∙ norm_is ρ f
