-- Terms in order, taken apart and put together, for every layout. Assumes nothing.
use Rattle.std.specs.Prelude.{Ok}
use mathlib.Core.Path.{◌≡◌, refl, ap}
use mathlib.Core.Bool.{true, false, cond, ◌&&◌, not, and-false}
use mathlib.Core.List.{List}
use Prim.Native.Nat.{ℕ, zero, suc, ◌+◌, ◌-◌, ◌≤◌}
use native.Mathlib.Omega.{arith}
use borrow.Author.Tests.{leb-true, le-leb, lt-ltb, eq-eqb, ne_eqb}
use lib.Dec.{leb, ltb}
use lib.ListN.{length, drop}
use Rattle.system.specs.declared.refusal.Refusal.TheVariants.{ExponentTooHigh, BadCoefficient, NotRising}
use Rattle.system.specs.Chain.{test}
use Rattle.file.specs.Layout.{Layout}
use Rattle.file.specs.Terms.{exponents, place_of, value_of, in_range, is_zero, term, terms, here, coefficients}
use Rattle.file.proofs.Tests.{both, and_intro, not_not, passed, pass, parts, chain}

-- what one term in order says
pub record InOrder (L : Layout) (next : ℕ) (r : List ℕ) : Type 0 where
  pub inside : L.within (exponents r) ≡ true
  pub ranged : in_range (value_of r) ≡ true
  pub nonzero : is_zero (value_of r) ≡ false
  pub rising : next ≤ place_of L r

module _ (L : Layout) where
  term_good : (o next : ℕ) (r : List ℕ) → term L o next r ≡ Ok tt → InOrder L next r
  unfolding term
  term_good o next r e =
      let a = parts (test (L.within (exponents r)) ExponentTooHigh o) _ e in
      let b = parts (test (in_range (value_of r) && not (is_zero (value_of r))) BadCoefficient o) (test (leb next (place_of L r)) NotRising o) a.1 in
      let v = both (in_range (value_of r)) (not (is_zero (value_of r))) (passed _ BadCoefficient o b.0) in
      record {
        inside = passed _ ExponentTooHigh o a.0;
        ranged = v.0;
        nonzero = not_not (is_zero (value_of r)) v.1;
        rising = leb-true next (place_of L r) (passed _ NotRising o b.1);
      }

  good_term : (o next : ℕ) (r : List ℕ) → InOrder L next r → term L o next r ≡ Ok tt
  unfolding term
  good_term o next r g =
      chain (pass ExponentTooHigh o g.inside)
      (chain (pass BadCoefficient o (and_intro g.ranged (ap not g.nonzero))) (pass NotRising o (le-leb next (place_of L r) g.rising)))

  pub terms_good : (t o next : ℕ) (r : List ℕ) → terms L (suc t) o next r ≡ Ok tt → InOrder L next r × (terms L t (o + 7) (place_of L r + 1) (drop 7 r) ≡ Ok tt)
  unfolding terms
  terms_good t o next r e = let a = parts (term L o next r) (terms L t (o + 7) (place_of L r + 1) (drop 7 r)) e in (term_good o next r a.0, a.1)

  pub good_terms : (t o next : ℕ) (r : List ℕ) → InOrder L next r → terms L t (o + 7) (place_of L r + 1) (drop 7 r) ≡ Ok tt → terms L (suc t) o next r ≡ Ok tt
  unfolding terms
  good_terms t o next r g e = chain (good_term o next r g) e

  -- the next term is beyond p
  pub not_here : (t o p : ℕ) (r : List ℕ) → terms L t o (p + 1) r ≡ Ok tt → here L t p r ≡ false
  not_here zero o p r e = refl
  not_here (suc t) o p r e =
      let g = (terms_good t o (p + 1) r e).0.rising in
      let q : place_of L r ≡ p → ⊥ = λ z. omega arith in
      rw (ne_eqb (place_of L r) p q) (and-false (ltb 0 (suc t)))

  pub is_here : (t p : ℕ) (r : List ℕ) → place_of L r ≡ p → here L (suc t) p r ≡ true
  is_here t p r e = and_intro (lt-ltb 0 (suc t) (omega arith)) (eq-eqb (place_of L r) p e)

  pub coefficients_length : (n t p : ℕ) (r : List ℕ) → length (coefficients L n t p r) ≡ n
  unfolding coefficients
  coefficients_length zero t p r = refl
  coefficients_length (suc n) t p r = ap suc (coefficients_length n (cond (here L t p r) (t - 1) t) (p + 1) (drop (cond (here L t p r) 7 0) r))
