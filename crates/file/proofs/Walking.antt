-- The checking pass, turn by turn: W is the answer that the definitions give. Assumes nothing.
use Rattle.std.specs.Prelude.{Result, Ok, ⊤}
use mathlib.Core.Path.{◌≡◌, refl, sym, ◌∙◌}
use mathlib.Core.List.{List}
use Prim.Native.Nat.{ℕ, suc, ◌+◌, ◌-◌, ◌*◌, ◌≤◌, ◌<◌}
use native.Mathlib.Omega.{arith}
use borrow.Author.Tests.{eqb-true}
use lib.Dec.{eqb}
use lib.ListN.{length, drop, length-drop}
use lib.Seq.{drop-drop}
use Rattle.file.specs.Bytes.{byte, word16}
use Rattle.system.specs.declared.refusal.Refusal.TheVariants.{NotDue}
use Rattle.system.specs.declared.refusal.Refused.{Refused}
use Rattle.system.specs.Chain.{test, ◌then◌}
use Rattle.file.specs.Layout.{Layout}
use Rattle.file.specs.Records.{length_of, due}
use Rattle.file.specs.Terms.{place_of, term, terms}
use Rattle.file.specs.Reading.{polynomial_shape, term_count, polynomial, ending, polynomials}
use Rattle.file.proofs.Tests.{passed, parts}
use Rattle.file.proofs.Stepping.{length_there, Due, due_parts, fits_says}

-- ---- terms
pub terms_step : (L : Layout) (t i o next : ℕ) (r : List ℕ) → i < t
    → terms L (t - i) o next r ≡ (term L o next r then terms L (t - (i + 1)) (o + 7) (place_of L r + 1) (drop 7 r))
unfolding terms
terms_step L t i o next r h = let e : t - i ≡ suc (t - (i + 1)) = omega arith in rw e refl

pub terms_none : (L : Layout) (t i o next : ℕ) (r : List ℕ) → t ≤ i → terms L (t - i) o next r ≡ Ok tt
unfolding terms
terms_none L t i o next r h = let e : t - i ≡ 0 = omega arith in rw e refl

pub terms_turn : (L : Layout) (s : List ℕ) (W : Result ⊤ Refused) (t i at next p : ℕ) → i < t → term L (at + 7 * i) next (drop (at + 7 * i) s) ≡ Ok tt
    → p ≡ place_of L (drop (at + 7 * i) s) → terms L (t - i) (at + 7 * i) next (drop (at + 7 * i) s) ≡ W
    → terms L (t - (i + 1)) (at + 7 * (i + 1)) (p + 1) (drop (at + 7 * (i + 1)) s) ≡ W
terms_turn L s W t i at next p h g q w =
    let e : at + 7 * (i + 1) ≡ at + 7 * i + 7 = omega arith in
    rw (e, q, ← drop-drop 7 (at + 7 * i) s) (rw (terms_step L t i (at + 7 * i) next (drop (at + 7 * i) s) h, g) at w)

-- ---- polynomials
pub polynomials_step : (L : Layout) (m k o : ℕ) (r : List ℕ) → k < m
    → polynomials L (m - k) (k + 1) o r ≡ (polynomial L (k + 1) o r then polynomials L (m - (k + 1)) (k + 1 + 1) (o + (4 + length_of r)) (drop (4 + length_of r) r))
unfolding polynomials
polynomials_step L m k o r h = let e : m - k ≡ suc (m - (k + 1)) = omega arith in rw e refl

pub polynomials_none : (L : Layout) (m k o : ℕ) (r : List ℕ) → m ≤ k → polynomials L (m - k) (k + 1) o r ≡ ending o r
unfolding polynomials
polynomials_none L m k o r h = let e : m - k ≡ 0 = omega arith in rw e refl

pub polynomials_turn : (L : Layout) (s : List ℕ) (W : Result ⊤ Refused) (m k o len : ℕ) → k < m → polynomial L (k + 1) o (drop o s) ≡ Ok tt → len ≡ word16 s o
    → polynomials L (m - k) (k + 1) o (drop o s) ≡ W → polynomials L (m - (k + 1)) (k + 1 + 1) (o + (4 + len)) (drop (o + (4 + len)) s) ≡ W
polynomials_turn L s W m k o len h g q w =
    rw (← drop-drop (4 + len) o s, q ∙ sym (length_there s o)) (rw (polynomials_step L m k o (drop o s) h, g) at w)

-- what the record of a polynomial in order says
pub record Polynomial (L : Layout) (k o : ℕ) (r : List ℕ) : Type 0 where
  pub header : Due 2 (polynomial_shape L.size) r
  pub number : byte r 4 ≡ k
  pub in_order : terms L (term_count r) (o + 5) 0 (drop 5 r) ≡ Ok tt

pub polynomial_parts : (L : Layout) (k o : ℕ) (r : List ℕ) → polynomial L k o r ≡ Ok tt → Polynomial L k o r
unfolding polynomial
polynomial_parts L k o r e =
    let a = parts (due 2 (polynomial_shape L.size) o r) _ e in
    let b = parts (test (eqb (byte r 4) k) NotDue o) (terms L (term_count r) (o + 5) 0 (drop 5 r)) a.1 in
    record { header = due_parts 2 (polynomial_shape L.size) o r a.0; number = eqb-true (byte r 4) k (passed _ NotDue o b.0); in_order = b.1 }

pub polynomial_long : (L : Layout) (k o : ℕ) (s : List ℕ) → polynomial L k o (drop o s) ≡ Ok tt → (o + 4 + word16 s o ≤ length s) × (1 ≤ word16 s o)
polynomial_long L k o s e =
    let d = (polynomial_parts L k o (drop o s) e).header in
    let f = ((fits_says (polynomial_shape L.size) (length_of (drop o s))).fact d.fitting).0.0 in
    (omega (arith, d.present, length-drop o s, length_there s o), omega (arith, length_there s o))
