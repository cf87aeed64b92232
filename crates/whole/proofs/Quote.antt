-- The solver with no expression to write: `search reads` finds the expression of each side of the goal.
-- ring (a ∷ b ∷ []) (search reads depth 20) tt proves an identity in a, b (any terms), sums, differences, products, negations and literals. The list names the atoms, at most 16.
use mathlib.Core.Path.{◌≡◌, refl, sym, ap, ap₂, ◌∙◌}
use mathlib.Core.List.{List, ◌∷◌}
use Prim.Native.Nat.{ℕ, ◌+◌, ◌*◌}
use lib.Dec.{T, leb}
use lib.IntN.{ℤ, pos, negsuc, neg_ℤ, ◌+ℤ◌, ◌*ℤ◌}
use Rattle.whole.proofs.Ring.{+ℤ-cancel-r}
use Rattle.whole.proofs.Solve.{Ex, var, con, ◌⊕◌, ◌⊗◌, neg, solve, same, ev, norm}

-- an expression whose value is x
pub data Q (ρ : List ℤ) (x : ℤ) : Type 0 where
  quoted : (e : Ex) → ev ρ e ≡ x → Q ρ x

abbrev pub ex : {ρ : List ℤ} {x : ℤ} → Q ρ x → Ex
ex (quoted e p) = e

pub ex_is : {ρ : List ℤ} {x : ℤ} (q : Q ρ x) → ev ρ (ex q) ≡ x
ex_is (quoted e p) = p

abbrev pub q_add : {ρ : List ℤ} {x y : ℤ} → Q ρ x → Q ρ y → Q ρ (x +ℤ y)
q_add (quoted e p) (quoted f q) = quoted (e ⊕ f) (ap₂ ◌+ℤ◌ p q)

abbrev pub q_mul : {ρ : List ℤ} {x y : ℤ} → Q ρ x → Q ρ y → Q ρ (x *ℤ y)
q_mul (quoted e p) (quoted f q) = quoted (e ⊗ f) (ap₂ ◌*ℤ◌ p q)

abbrev pub q_neg : {ρ : List ℤ} {x : ℤ} → Q ρ x → Q ρ (neg_ℤ x)
q_neg (quoted e p) = quoted (neg e) (ap neg_ℤ p)

-- a literal: the test computes only there, so a number with a variable in it is no constant
abbrev pub q_pos : {ρ : List ℤ} {n : ℕ} → T (leb 0 n) → Q ρ (pos n)
q_pos {n} t = quoted (con (pos n)) refl

abbrev pub q_negsuc : {ρ : List ℤ} {n : ℕ} → T (leb 0 n) → Q ρ (negsuc n)
q_negsuc {n} t = quoted (con (negsuc n)) refl

-- a sum or a product of casts computes to the cast of one: taken apart again, so that the naturals can be atoms
abbrev pub q_nadd : {ρ : List ℤ} {n m : ℕ} → Q ρ (pos n) → Q ρ (pos m) → Q ρ (pos (n + m))
q_nadd (quoted e p) (quoted f q) = quoted (e ⊕ f) (ap₂ ◌+ℤ◌ p q)

abbrev pub q_nmul : {ρ : List ℤ} {n m : ℕ} → Q ρ (pos n) → Q ρ (pos m) → Q ρ (pos (n * m))
q_nmul (quoted e p) (quoted f q) = quoted (e ⊗ f) (ap₂ ◌*ℤ◌ p q)

-- An atom by its place in the list. One law for each place: the search then takes an atom in one step, where a walk along the list costs it hundreds.
abbrev pub q_0 : {x0 : ℤ} {ρ : List ℤ} → Q (x0 ∷ ρ) x0
q_0 = quoted (var 0) refl

abbrev pub q_1 : {x0 x1 : ℤ} {ρ : List ℤ} → Q (x0 ∷ x1 ∷ ρ) x1
q_1 = quoted (var 1) refl

abbrev pub q_2 : {x0 x1 x2 : ℤ} {ρ : List ℤ} → Q (x0 ∷ x1 ∷ x2 ∷ ρ) x2
q_2 = quoted (var 2) refl

abbrev pub q_3 : {x0 x1 x2 x3 : ℤ} {ρ : List ℤ} → Q (x0 ∷ x1 ∷ x2 ∷ x3 ∷ ρ) x3
q_3 = quoted (var 3) refl

abbrev pub q_4 : {x0 x1 x2 x3 x4 : ℤ} {ρ : List ℤ} → Q (x0 ∷ x1 ∷ x2 ∷ x3 ∷ x4 ∷ ρ) x4
q_4 = quoted (var 4) refl

abbrev pub q_5 : {x0 x1 x2 x3 x4 x5 : ℤ} {ρ : List ℤ} → Q (x0 ∷ x1 ∷ x2 ∷ x3 ∷ x4 ∷ x5 ∷ ρ) x5
q_5 = quoted (var 5) refl

abbrev pub q_6 : {x0 x1 x2 x3 x4 x5 x6 : ℤ} {ρ : List ℤ} → Q (x0 ∷ x1 ∷ x2 ∷ x3 ∷ x4 ∷ x5 ∷ x6 ∷ ρ) x6
q_6 = quoted (var 6) refl

abbrev pub q_7 : {x0 x1 x2 x3 x4 x5 x6 x7 : ℤ} {ρ : List ℤ} → Q (x0 ∷ x1 ∷ x2 ∷ x3 ∷ x4 ∷ x5 ∷ x6 ∷ x7 ∷ ρ) x7
q_7 = quoted (var 7) refl

abbrev pub q_8 : {x0 x1 x2 x3 x4 x5 x6 x7 x8 : ℤ} {ρ : List ℤ} → Q (x0 ∷ x1 ∷ x2 ∷ x3 ∷ x4 ∷ x5 ∷ x6 ∷ x7 ∷ x8 ∷ ρ) x8
q_8 = quoted (var 8) refl

abbrev pub q_9 : {x0 x1 x2 x3 x4 x5 x6 x7 x8 x9 : ℤ} {ρ : List ℤ} → Q (x0 ∷ x1 ∷ x2 ∷ x3 ∷ x4 ∷ x5 ∷ x6 ∷ x7 ∷ x8 ∷ x9 ∷ ρ) x9
q_9 = quoted (var 9) refl

abbrev pub q_10 : {x0 x1 x2 x3 x4 x5 x6 x7 x8 x9 x10 : ℤ} {ρ : List ℤ} → Q (x0 ∷ x1 ∷ x2 ∷ x3 ∷ x4 ∷ x5 ∷ x6 ∷ x7 ∷ x8 ∷ x9 ∷ x10 ∷ ρ) x10
q_10 = quoted (var 10) refl

abbrev pub q_11 : {x0 x1 x2 x3 x4 x5 x6 x7 x8 x9 x10 x11 : ℤ} {ρ : List ℤ} → Q (x0 ∷ x1 ∷ x2 ∷ x3 ∷ x4 ∷ x5 ∷ x6 ∷ x7 ∷ x8 ∷ x9 ∷ x10 ∷ x11 ∷ ρ) x11
q_11 = quoted (var 11) refl

abbrev pub q_12 : {x0 x1 x2 x3 x4 x5 x6 x7 x8 x9 x10 x11 x12 : ℤ} {ρ : List ℤ} → Q (x0 ∷ x1 ∷ x2 ∷ x3 ∷ x4 ∷ x5 ∷ x6 ∷ x7 ∷ x8 ∷ x9 ∷ x10 ∷ x11 ∷ x12 ∷ ρ) x12
q_12 = quoted (var 12) refl

abbrev pub q_13 : {x0 x1 x2 x3 x4 x5 x6 x7 x8 x9 x10 x11 x12 x13 : ℤ} {ρ : List ℤ} → Q (x0 ∷ x1 ∷ x2 ∷ x3 ∷ x4 ∷ x5 ∷ x6 ∷ x7 ∷ x8 ∷ x9 ∷ x10 ∷ x11 ∷ x12 ∷ x13 ∷ ρ) x13
q_13 = quoted (var 13) refl

abbrev pub q_14 : {x0 x1 x2 x3 x4 x5 x6 x7 x8 x9 x10 x11 x12 x13 x14 : ℤ} {ρ : List ℤ} → Q (x0 ∷ x1 ∷ x2 ∷ x3 ∷ x4 ∷ x5 ∷ x6 ∷ x7 ∷ x8 ∷ x9 ∷ x10 ∷ x11 ∷ x12 ∷ x13 ∷ x14 ∷ ρ) x14
q_14 = quoted (var 14) refl

abbrev pub q_15 : {x0 x1 x2 x3 x4 x5 x6 x7 x8 x9 x10 x11 x12 x13 x14 x15 : ℤ} {ρ : List ℤ} → Q (x0 ∷ x1 ∷ x2 ∷ x3 ∷ x4 ∷ x5 ∷ x6 ∷ x7 ∷ x8 ∷ x9 ∷ x10 ∷ x11 ∷ x12 ∷ x13 ∷ x14 ∷ x15 ∷ ρ) x15
q_15 = quoted (var 15) refl

-- both sides of a goal
pub data Sides (ρ : List ℤ) (x y : ℤ) : Type 0 where
  sides : Q ρ x → Q ρ y → Sides ρ x y

abbrev pub lhs : {ρ : List ℤ} {x y : ℤ} → Sides ρ x y → Ex
lhs (sides p q) = ex p

abbrev pub rhs : {ρ : List ℤ} {x y : ℤ} → Sides ρ x y → Ex
rhs (sides p q) = ex q

-- the two are one polynomial: computes, and is proved by `tt`
abbrev pub Agree : {ρ : List ℤ} {x y : ℤ} → Sides ρ x y → Type 0
Agree s = T (same (norm (lhs s)) (norm (rhs s)))

pub sides_eq : {ρ : List ℤ} {x y : ℤ} (s : Sides ρ x y) → Agree s → x ≡ y
sides_eq {ρ} (sides p q) t = sym (ex_is p) ∙ solve ρ (ex p) (ex q) t ∙ ex_is q

-- an identity: ring (a ∷ b ∷ []) (search reads depth 20) tt
pub ring : (ρ : List ℤ) {x y : ℤ} (s : Sides ρ x y) → Agree s → x ≡ y
ring ρ s t = sides_eq s t

-- an identity that holds by one equation: x - y = u - v as polynomials, and u ≡ v
pub ring_from : (ρ : List ℤ) {x y u v : ℤ} → u ≡ v → (s : Sides ρ (x +ℤ v) (y +ℤ u)) → Agree s → x ≡ y
ring_from ρ {x} {y} {u} {v} e s t = +ℤ-cancel-r x y v (sides_eq s t ∙ ap (λ z. y +ℤ z) e)

pub ruleset reads = (sides, q_0, q_1, q_2, q_3, q_4, q_5, q_6, q_7, q_8, q_9, q_10, q_11, q_12, q_13, q_14, q_15, q_add, q_mul, q_neg, q_nadd, q_nmul, q_pos, q_negsuc)
