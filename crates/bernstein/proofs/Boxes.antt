-- The numbers of a box in three directions: the starting numbers are exact, the halves of exact numbers are exact, and a sign of all numbers is the sign of the value
-- at every point of the closed box. Each is the fact of one line (Lines, Signs, Exactness), lifted (Nested). Assumes nothing.
use mathlib.Core.Path.{◌≡◌, sym, ◌∙◌, ap, subst, subst₂, fun_ext}
use mathlib.Core.List.{[], ◌∷◌}
use Prim.Native.Nat.{ℕ, ◌*◌, ◌-◌, ◌≤◌}
use lib.IntN.{ℤ, pos, pow, ◌*ℤ◌, *ℤ-zero}
use lib.Signed.{◌<ℤ◌}
use Rattle.whole.specs.Half.{Half}
use Rattle.whole.specs.Sums.{choose}
use Rattle.whole.proofs.Quote.{ring, reads}
use Rattle.whole.proofs.Order.{pos-<, positive-*, *ℤ-cancel-<}
use Rattle.bernstein.specs.Three.{Direction, first, second, third, Three, three, ◌!◌, replace, Upto, product}
use Rattle.bernstein.specs.Numbers.{Degrees, Small, Index, Patch, Box, unit, half_box, scale, weight, part, moved, formula, Exact, half_patch, weighted}
use Rattle.bernstein.specs.Points.{Within, value_over, value, Sign, Has, AllHave}
use Rattle.bernstein.specs.Claims.{StartExact, CutExact, SignHolds}
use Rattle.bernstein.proofs.Functionals.{Line, Linear, Functional}
use Rattle.bernstein.proofs.Steps.{steps, step_functional}
use Rattle.bernstein.proofs.Lines.{number, number_functional, half_exact}
use Rattle.bernstein.proofs.Signs.{positive_line, factor, has_factor, factor_has}
use Rattle.bernstein.proofs.Weights.{weights}
use Rattle.bernstein.proofs.Exactness.{moved_line, formula_line, value_line, moved_functional, formula_functional, value_functional, exact_number, start_line, exact_value}
use Rattle.bernstein.proofs.Nested.{in_each, upto_three, upto_replace, Map, nested, out, nested_cong, nested_times, nested_weights, nested_product, sum_nested, lift}

-- ---- the sums of specs/, direction by direction
pub formula_nested : (n : Degrees) (c : Patch) (j : Index) → formula n c j ≡ nested (λ r. formula_line (weight (n ! r)) (j ! r)) c
unfolding formula
formula_nested n c j = sum_nested j (λ r t. pos (choose (j ! r) t * weight (n ! r) t)) c

pub moved_nested : (n : Degrees) (b : Box) (a : Patch) (t : Index) → moved n b a t ≡ nested (λ r. moved_line (n ! r) (b ! r) (t ! r)) a
unfolding moved
moved_nested n b a t = sum_nested n (λ r e. pos (part (n ! r) (b ! r) e (t ! r))) a

pub value_nested : (n : Degrees) (X q : Three ℤ) (a : Patch) → value_over n X q a ≡ nested (λ r. value_line (n ! r) (X ! r) (q ! r)) a
unfolding value_over
value_nested n X q a = sum_nested n (λ r i. pow (X ! r) i *ℤ pow (q ! r) (n ! r - i)) a

-- a sum of the moved polynomial, from what it is in each direction
pub of_moved : (n : Degrees) (b : Box) (a : Patch) {A C : Direction → Map} → ((r : Direction) → Functional (A r))
    → ((r : Direction) (f : Line) → A r (λ t. moved_line (n ! r) (b ! r) t f) ≡ C r f) → nested A (moved n b a) ≡ nested C a
of_moved n b a {A} l h = ap (nested A) (fun_ext (moved_nested n b a)) ∙ lift l (λ r t. (moved_functional (n ! r) (b ! r) t).linear) h a

module _ (n : Degrees) (m : Small n) (a : Patch) where
  formulas : (j : Index) (r : Direction) → Functional (formula_line (weight (n ! r)) (j ! r))
  formulas j r = formula_functional (weight (n ! r)) (j ! r)

  -- ---- the start
  start : Exact n unit a (formula n a)
  start = record { exact = λ j u. formula_nested n a j ∙ sym (formula_nested n _ j ∙ of_moved n unit a (formulas j) (at_unit j u)) }
    where
      at_unit : (j : Index) → Upto j n → (r : Direction) (f : Line) → formula_line (weight (n ! r)) (j ! r) (λ t. moved_line (n ! r) (unit ! r) t f) ≡ formula_line (weight (n ! r)) (j ! r) f
      at_unit j u first f = start_line (weights n.x₁ (m.small first)) f j.x₁ (u.upto first)
      at_unit j u second f = start_line (weights n.x₂ (m.small second)) f j.x₂ (u.upto second)
      at_unit j u third f = start_line (weights n.x₃ (m.small third)) f j.x₃ (u.upto third)

  -- ---- the numbers of a box are the lines' numbers of the weighted coefficients, nested
  abbrev numbers : Box → Index → Direction → Map
  numbers b j r = number (n ! r) (b ! r) (j ! r)

  numbers_linear : (b : Box) (j : Index) (r : Direction) → Linear (numbers b j r)
  numbers_linear b j r = (number_functional (n ! r) (b ! r) (j ! r)).linear

  exact_is : (b : Box) (j : Index) → Upto j n → formula n (moved n b a) j ≡ nested (numbers b j) (weighted n a)
  exact_is b j u =
      formula_nested n _ j ∙ of_moved n b a (formulas j) (λ r f. exact_number (weights (n ! r) (m.small r)) f (b ! r) (j ! r) (u.upto r))
      ∙ sym (nested_weights (numbers_linear b j) (λ r i. pos (weight (n ! r) i)) a)

  -- ---- the cut
  module _ (b : Box) {p : Patch} (e : Exact n b a p) where
    cut : (h : Half) (r : Direction) → Exact n (half_box h r b) a (half_patch h n r p)
    cut h r = record {
      exact = λ j u.
          half_exact (n ! r) (b ! r) _ _ (λ i l.
          e.exact (replace r i j) (upto_replace r i l u) ∙ exact_is b (replace r i j) (upto_replace r i l u)
          ∙ out (λ x i. number (n ! x) (b ! x) i) j (numbers_linear b j) r i (number_functional (n ! r) (b ! r) i) _) h (j ! r) (u.upto r)
          ∙ sym (exact_is (half_box h r b) j u
          ∙ out (λ x s. number (n ! x) s (j ! x)) b (numbers_linear b j) r _ (number_functional (n ! r) _ (j ! r)) (weighted n a));
    }

  -- ---- the sign
  module _ (b : Box) (X : Three ℤ) (q : ℤ) (hq : pos 0 <ℤ q) (w : Within b X q) where
    abbrev values : Direction → Map
    values r f = steps q (X ! r) (n ! r) f 0

    values_linear : (r : Direction) → Linear (values r)
    values_linear r = (step_functional q (X ! r) (n ! r) 0).linear

    -- in one direction the values take the place of the numbers
    one_positive : (g : Patch) {L : Three Map} → ((x : Direction) → Linear (L ! x)) → (r : Direction)
        → ((i : ℕ) → i ≤ n ! r → pos 0 <ℤ nested (λ x. replace r (number (n ! r) (b ! r) i) L ! x) g) → pos 0 <ℤ nested (λ x. replace r (values r) L ! x) g
    one_positive g {L} l r h =
        subst (λ z. pos 0 <ℤ z) (sym (out (λ x M. M) L l r _ (step_functional q (X ! r) (n ! r) 0) g))
        (positive_line (n ! r) (b ! r) (X ! r) q hq (w.within r) _ (λ i k.
        subst (λ z. pos 0 <ℤ z) (out (λ x M. M) L l r _ (number_functional (n ! r) (b ! r) i) g) (h i k)))

    -- and so in all, from the third to the first
    all_positive : (g : Patch) → ((j : Index) → Upto j n → pos 0 <ℤ nested (numbers b j) g) → pos 0 <ℤ nested values g
    all_positive g h =
        one_positive g (linears (values_linear first) (values_linear second) (values_linear third)) third (λ i₃ l₃.
        one_positive g (linears (values_linear first) (values_linear second) (numbers_linear b (three 0 0 i₃) third)) second (λ i₂ l₂.
        one_positive g (linears (values_linear first) (numbers_linear b (three 0 i₂ i₃) second) (numbers_linear b (three 0 i₂ i₃) third)) first (λ i₁ l₁.
        h (three i₁ i₂ i₃) (upto_three l₁ l₂ l₃))))
      where
        linears : {L M N : Map} → Linear L → Linear M → Linear N → (x : Direction) → Linear (three L M N ! x)
        linears = in_each (λ x M. Linear M)

    abbrev scales : ℤ
    scales = product (λ r. pos (scale (n ! r)))

    value_is : nested values (weighted n a) ≡ scales *ℤ value n X q a
    value_is =
        nested_weights values_linear (λ r i. pos (weight (n ! r) i)) a
        ∙ nested_cong (λ r f. exact_value (weights (n ! r) (m.small r)) f (X ! r) q) a
        ∙ nested_product (λ r. (value_functional (n ! r) (X ! r) q).linear) (λ r. pos (scale (n ! r))) a
        ∙ ap (λ z. scales *ℤ z) (sym (value_nested n X _ a))

    scales_positive : pos 0 <ℤ scales
    scales_positive = positive-* (positive-* (some first) (some second)) (some third)
      where
        some : (r : Direction) → pos 0 <ℤ pos (scale (n ! r))
        some r = pos-< (weights (n ! r) (m.small r)).some

    sign : {p : Patch} → Exact n b a p → (s : Sign) → AllHave s n p → Has s (value n X q a)
    sign {p} e s h = factor_has s at_point (*ℤ-cancel-< scales scales_positive
        (subst₂ ◌<ℤ◌ (sym (*ℤ-zero scales)) (nested_times values_linear (factor s) (weighted n a) ∙ ap (λ z. factor s *ℤ z) value_is ∙ ring (factor s ∷ scales ∷ at_point ∷ []) (search reads depth 20) tt)
        (all_positive (λ i. factor s *ℤ weighted n a i) (λ j u.
        subst (λ z. pos 0 <ℤ z) (ap (λ z. factor s *ℤ z) (e.exact j u ∙ exact_is b j u) ∙ sym (nested_times (numbers_linear b j) (factor s) (weighted n a))) (has_factor s (p j) (h.all_have j u))))))
      where
        at_point : ℤ
        at_point = value n X q a

pub start_exact : StartExact
start_exact n m a = start n m a

pub cut_exact : CutExact
cut_exact n m a p b e h r = cut n m a b e h r

pub sign_holds : SignHolds
sign_holds n m a p b e s h X q hq w = sign n m a b X q hq w e s h
