-- A test says a fact: it answers true exactly where the fact holds. Tests joined say facts joined, so that a chain of tests is read as a record of facts.
-- Assumes nothing.
use mathlib.Core.Path.{◌≡◌, refl}
use mathlib.Core.Bool.{Bool, true, false, ◌&&◌, ◌||◌}
use Prim.Native.Nat.{ℕ, ◌≤◌, ◌<◌}
use native.Mathlib.Omega.{arith}
use borrow.Author.Tests.{leb-true, leb-false, ltb-true, eqb-true, le-leb, lt-ltb, eq-eqb}
use lib.Dec.{leb, ltb, eqb}
use Rattle.bernstein.specs.Three.{Direction, first, second, third}
use Rattle.system.specs.Directions.{each}

pub record Says (t : Bool) (A : Type 0) : Type 0 where
  pub fact : t ≡ true → A
  pub passes : A → t ≡ true

-- ---- tests of numbers
pub le_says : (a b : ℕ) → Says (leb a b) (a ≤ b)
le_says a b = record { fact = leb-true a b; passes = le-leb a b }

pub lt_says : (a b : ℕ) → Says (ltb a b) (a < b)
lt_says a b = record { fact = ltb-true a b; passes = lt-ltb a b }

pub eq_says : (a b : ℕ) → Says (eqb a b) (a ≡ b)
eq_says a b = record { fact = eqb-true a b; passes = eq-eqb a b }

-- ---- tests joined
false_true : {A : Type 0} → false ≡ true → A
false_true e = let z : ◌≡◌ {A = ℕ} 0 1 = cc in absurd (omega arith)

and_fact : {A B : Type 0} (s t : Bool) → (s ≡ true → A) → (t ≡ true → B) → s && t ≡ true → A × B
and_fact true t f g e = (f refl, g e)
and_fact false t f g e = false_true e

pub and_left : (s t : Bool) → s && t ≡ true → s ≡ true
and_left s t e = (and_fact s t (λ x. x) (λ x. x) e).0

and_passes : (s t : Bool) → s ≡ true → t ≡ true → s && t ≡ true
and_passes s t p q = rw (p, q) refl

pub and_says : {s t : Bool} {A B : Type 0} → Says s A → Says t B → Says (s && t) (A × B)
and_says {s} {t} p q = record { fact = and_fact s t p.fact q.fact; passes = λ ab. and_passes s t (p.passes ab.0) (q.passes ab.1) }

-- "beyond variable l": where r is above l, the second test decides
beyond_fact : {A : Type 0} (r l : ℕ) (s t : Bool) → leb r l ≡ s → (t ≡ true → A) → s || t ≡ true → l < r → A
beyond_fact r l true t d f e m = let h = leb-true r l d in absurd (omega arith)
beyond_fact r l false t d f e m = f e

beyond_passes : {A : Type 0} (r l : ℕ) (s t : Bool) → leb r l ≡ s → (A → t ≡ true) → (l < r → A) → s || t ≡ true
beyond_passes r l true t d f g = refl
beyond_passes r l false t d f g = f (g (leb-false r l d))

pub beyond_says : {t : Bool} {A : Type 0} (r l : ℕ) → Says t A → Says (leb r l || t) (l < r → A)
beyond_says {t} r l p = record { fact = beyond_fact r l (leb r l) t refl p.fact; passes = beyond_passes r l (leb r l) t refl p.passes }

-- one test in each direction
by_three : (P : Direction → Type 0) → P first → P second → P third → (r : Direction) → P r
by_three P p q s first = p
by_three P p q s second = q
by_three P p q s third = s

pub each_says : {f : Direction → Bool} {P : Direction → Type 0} → ((r : Direction) → Says (f r) (P r)) → Says (each f) ((r : Direction) → P r)
each_says {f} {P} p =
    let all = and_says (and_says (p first) (p second)) (p third) in
    record { fact = λ e. let t = all.fact e in by_three P t.0.0 t.0.1 t.1; passes = λ g. all.passes ((g first, g second), g third) }

-- the same fact in other words
pub says_as : {t : Bool} {A B : Type 0} → Says t A → (A → B) → (B → A) → Says t B
says_as p f g = record { fact = λ e. f (p.fact e); passes = λ b. p.passes (g b) }

-- two tests that say one fact answer alike
alike : {A : Type 0} (s t : Bool) → Says s A → Says t A → s ≡ t
alike true true p q = refl
alike true false p q = false_true (q.passes (p.fact refl))
alike false true p q = false_true (p.passes (q.fact refl))
alike false false p q = refl

pub says_same : {s t : Bool} {A : Type 0} → Says s A → Says t A → s ≡ t
says_same {s} {t} p q = alike s t p q
