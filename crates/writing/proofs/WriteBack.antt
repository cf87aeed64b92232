-- A file that is in order is, written again, the same bytes; and what it says may be written. Assumes nothing.
use Rattle.std.specs.Prelude.{Ok}
use mathlib.Core.Path.{◌≡◌, refl, sym, ap, ◌∙◌, subst}
use mathlib.Core.Bool.{true}
use mathlib.Core.List.{List, [], ◌∷◌, ◌++◌, append_assoc}
use Prim.Native.Nat.{ℕ, zero, suc, ◌+◌, ◌-◌, ◌*◌, ◌/◌, ◌%◌, ◌≤◌}
use native.Mathlib.Omega.{arith}
use native.Mathlib.Decide.{ℕ_discrete}
use native.Mathlib.Nat.{suc-mul, zero-mul}
use borrow.Author.Tests.{leb-true}
use lib.Dec.{leb}
use lib.IntN.{ℤ, pos}
use lib.ListN.{length, take, drop, length-append, length-drop, take-append-drop}
use lib.Seq.{drop_at, take_at, take-add, take_all}
use Rattle.file.specs.Bytes.{byte, Bytes, bytes32}
use Rattle.file.proofs.Words.{word16_small, bytes32_back, bytes_drop, take4, take5, take7, take12}
use Rattle.system.specs.Heads.{places}
use Rattle.system.specs.declared.refusal.Refusal.TheVariants.{ExtraBytes}
use Rattle.system.specs.Chain.{test}
use Rattle.file.specs.Layout.{Layout, layout}
use Rattle.file.specs.Records.{length_of, due}
use Rattle.file.specs.Terms.{exponents, place_of, value_of, terms, coefficients}
use Rattle.file.specs.Reading.{head_shape, polynomial_shape, end_shape, term_count, polynomial, ending, polynomials, numbers_of, head_of, checked, numbers}
use Rattle.file.proofs.Tests.{and_intro, passed, parts}
use Rattle.file.proofs.Layouts.{Lawful, lawful}
use Rattle.file.proofs.Stepping.{due_parts, fits_says}
use Rattle.file.proofs.InOrder.{InOrder, terms_good, good_terms, not_here, is_here, coefficients_length}
use Rattle.file.proofs.Walking.{Polynomial, polynomial_parts}
use Rattle.file.proofs.Answering.{in_file}
use Rattle.writing.specs.Counts.{count}
use Rattle.writing.specs.Writing.{record_bytes, head_body, exponent_bytes, terms_bytes, polynomial_bytes, polynomials_bytes, file_bytes, all_in_range}
use Rattle.writing.proofs.Counting.{terms_length, all_join}
use Rattle.writing.proofs.ReadBack.{System}

-- ---- terms: the coefficients from p on, written, are the t terms of r
pub record Back (L : Layout) (p t : ℕ) (r : List ℕ) (xs : List ℤ) : Type 0 where
  pub bytes : terms_bytes L p xs ≡ take (7 * t) r
  pub number : count xs ≡ t
  pub ranged : all_in_range xs ≡ true

module _ (L : Layout) (law : Lawful L) where
  zero_first : (p t : ℕ) (r : List ℕ) (xs : List ℤ) → Back L (p + 1) t r xs → Back L p t r (pos 0 ∷ xs)
  unfolding terms_bytes count all_in_range
  zero_first p t r xs b = record { bytes = b.bytes; number = b.number; ranged = b.ranged }

  term_back : (r : List ℕ) → Bytes r → L.within (exponents r) ≡ true → 7 ≤ length r → exponent_bytes (L.index (place_of L r)) ++ bytes32 (value_of r) ≡ take 7 r
  term_back r b w h = rw (law.index_of (exponents r) w, bytes32_back r 3 b) (sym (take7 r h))

  term_first : (t : ℕ) (r : List ℕ) (xs : List ℤ) → Bytes r → InOrder L 0 r → 7 * suc t ≤ length r → Back L (place_of L r + 1) t (drop 7 r) xs → Back L (place_of L r) (suc t) r (value_of r ∷ xs)
  unfolding terms_bytes count all_in_range
  term_first t r xs b g h k =
      let e : 7 * suc t ≡ 7 + 7 * t = omega arith in
      record {
        bytes = rw (g.nonzero, k.bytes, e) (ap (λ (l : List ℕ). l ++ take (7 * t) (drop 7 r)) (term_back r b g.inside (omega arith)) ∙ sym (take-add 7 (7 * t) r));
        number = rw (g.nonzero, k.number) refl;
        ranged = and_intro g.ranged k.ranged;
      }

  lower : {next : ℕ} {r : List ℕ} → InOrder L next r → (n : ℕ) → n ≤ place_of L r → InOrder L n r
  lower g n h = record { inside = g.inside; ranged = g.ranged; nonzero = g.nonzero; rising = h }

  pub terms_back : (n t p o : ℕ) (r : List ℕ) → Bytes r → terms L t o p r ≡ Ok tt → p + n ≡ L.size → 7 * t ≤ length r → Back L p t r (coefficients L n t p r)
  unfolding coefficients terms terms_bytes count all_in_range
  terms_back zero zero p o r b e s h = record { bytes = refl; number = refl; ranged = refl }
  terms_back zero (suc t) p o r b e s h =
      let g = (terms_good L t o p r e).0 in
      absurd (let z : ⊥ = omega (arith, g.rising, law.below _ g.inside) in z)
  terms_back (suc n) zero p o r b e s h = zero_first p zero r (coefficients L n zero (p + 1) r) (terms_back n zero (p + 1) o r b refl (omega arith) h)
  terms_back (suc n) (suc t) p o r b e s h =
      go (ℕ_discrete (place_of L r) p)
      (λ f. terms_back n (suc t) (p + 1) o r b (good_terms L t o (p + 1) r (lower g.0 (p + 1) (far f)) g.1) (omega arith) h)
      (λ q. terms_back n t (p + 1) (o + 7) (drop 7 r) (bytes_drop 7 b) (rw q at g.1) (omega arith) (rw (length-drop 7 r) (omega arith)))
    where
      g : InOrder L p r × (terms L t (o + 7) (place_of L r + 1) (drop 7 r) ≡ Ok tt)
      g = terms_good L t o p r e

      far : (place_of L r ≡ p → ⊥) → p + 1 ≤ place_of L r
      far f = omega (arith, g.0.rising)

      down : suc t - 1 ≡ t
      down = omega arith

      go : Dec (place_of L r ≡ p) → ((place_of L r ≡ p → ⊥) → Back L (p + 1) (suc t) r (coefficients L n (suc t) (p + 1) r)) → (place_of L r ≡ p → Back L (p + 1) t (drop 7 r) (coefficients L n t (p + 1) (drop 7 r)))
          → Back L p (suc t) r (coefficients L (suc n) (suc t) p r)
      go (yes q) u v =
          rw (is_here L t p r q, down)
          (subst (λ (x : ℕ). Back L x (suc t) r (value_of r ∷ coefficients L n t (p + 1) (drop 7 r))) q
          (term_first t r (coefficients L n t (p + 1) (drop 7 r)) b (lower g.0 0 (omega arith)) h (subst (λ (x : ℕ). Back L (x + 1) t (drop 7 r) (coefficients L n t (p + 1) (drop 7 r))) (sym q) (v q))))
      go (no f) u v = rw (not_here L (suc t) o p r (good_terms L t o (p + 1) r (lower g.0 (p + 1) (far f)) g.1)) (zero_first p (suc t) r (coefficients L n (suc t) (p + 1) r) (u f))

-- ---- one polynomial's record
module _ (L : Layout) (law : Lawful L) (k o : ℕ) (r : List ℕ) (byt : Bytes r) (w : Polynomial L k o r) where
  abbrev xs : List ℤ
  xs = coefficients L L.size (term_count r) 0 (drop 5 r)

  its_length : length_of r ≡ 1 + 7 * term_count r
  its_length = let f = ((fits_says (polynomial_shape L.size) (length_of r)).fact w.header.fitting).0 in omega (arith, f.0, f.1)

  long : 5 + 7 * term_count r ≤ length r
  long = omega (arith, w.header.present, its_length)

  pub its_back : Back L 0 (term_count r) (drop 5 r) xs
  its_back = terms_back L law L.size (term_count r) 0 (o + 5) (drop 5 r) (bytes_drop 5 byt) w.in_order (omega arith) (rw (length-drop 5 r) (omega (arith, long)))

  pub its_bytes : polynomial_bytes L k xs ≡ take (4 + length_of r) r
  its_bytes =
      let two = word16_small r 2 2 byt w.header.kind_is (omega arith) in
      let n : length (k ∷ terms_bytes L 0 (coefficients L L.size (term_count r) 0 (drop 5 r))) ≡ length_of r = omega (arith, terms_length L 0 (coefficients L L.size (term_count r) 0 (drop 5 r)), its_back.number, its_length) in
      let m0 : length_of r % 256 ≡ byte r 0 = omega (arith, byt.at 0) in
      let m1 : length_of r / 256 ≡ byte r 1 = omega (arith, byt.at 0) in
      let e : 4 + length_of r ≡ 5 + 7 * term_count r = omega (arith, its_length) in
      rw (n, its_back.bytes, m0, m1, e, take-add 5 (7 * term_count r) r, take5 r (omega (arith, long)), two.0, two.1, w.number) refl

-- ---- all polynomials
module _ (L : Layout) (law : Lawful L) where
  pub record Whole (j k : ℕ) (r : List ℕ) : Type 0 where
    pub same : polynomials_bytes L j k (numbers_of L j r) ++ record_bytes 3 [] ≡ r
    pub long : length (numbers_of L j r) ≡ j * L.size
    pub ranged : all_in_range (numbers_of L j r) ≡ true

  last_record : (o : ℕ) (r : List ℕ) → Bytes r → due 3 end_shape o r ≡ Ok tt → length r ≤ 4 → record_bytes 3 [] ≡ r
  last_record o r b d l =
      let w = due_parts 3 end_shape o r d in
      let f = ((fits_says end_shape (length_of r)).fact w.fitting).1 in
      let none = word16_small r 0 0 b (omega arith) (omega arith) in
      let three = word16_small r 2 3 b w.kind_is (omega arith) in
      sym (sym (take_all 4 r l) ∙ take4 r (omega (arith, w.present)) ∙ rw (none.0, none.1, three.0, three.1) refl)

  pub polynomials_back : (j k o : ℕ) (r : List ℕ) → Bytes r → polynomials L j k o r ≡ Ok tt → Whole j k r
  unfolding ending polynomials polynomials_bytes numbers_of all_in_range
  polynomials_back zero k o r b e =
      let a = parts (due 3 end_shape o r) (test (leb (length r) 4) ExtraBytes (o + 4)) e in
      record { same = last_record o r b a.0 (leb-true (length r) 4 (passed _ ExtraBytes (o + 4) a.1)); long = sym (zero-mul L.size); ranged = refl }
  polynomials_back (suc j) k o r b e =
      let a = parts (polynomial L k o r) (polynomials L j (k + 1) (o + (4 + length_of r)) (drop (4 + length_of r) r)) e in
      let w = polynomial_parts L k o r a.0 in
      let ih = polynomials_back j (k + 1) (o + (4 + length_of r)) (drop (4 + length_of r) r) (bytes_drop (4 + length_of r) b) a.1 in
      let ys : List ℤ = coefficients L L.size (term_count r) 0 (drop 5 r) in
      let zs : List ℤ = numbers_of L j (drop (4 + length_of r) r) in
      let len : length (coefficients L L.size (term_count r) 0 (drop 5 r)) ≡ L.size = coefficients_length L L.size (term_count r) 0 (drop 5 r) in
      record {
        same =
            rw (take_at ys zs L.size len, drop_at ys zs L.size len)
            (ap (λ (l : List ℕ). l ++ polynomials_bytes L j (k + 1) zs ++ record_bytes 3 []) (its_bytes L law k o r b w)
            ∙ append_assoc (take (4 + length_of r) r) (polynomials_bytes L j (k + 1) zs) (record_bytes 3 [])
            ∙ ap (λ (l : List ℕ). take (4 + length_of r) r ++ l) ih.same ∙ take-append-drop (4 + length_of r) r);
        long = length-append ys zs ∙ omega (arith, len, ih.long, suc-mul j L.size);
        ranged = all_join ys zs (its_back L law k o r b w).ranged ih.ranged;
      }

-- ---- the whole file
module _ (s : List ℕ) (b : Bytes s) (e : checked s ≡ Ok tt) where
  head_back : record_bytes 1 (head_body (head_of s)) ≡ take 12 s
  head_back =
      let d = (in_file s e).header in
      let f = (fits_says head_shape (length_of s)).fact d.fitting in
      let eight = word16_small s 0 8 b (omega (arith, f.0.0, f.1)) (omega arith) in
      let one = word16_small s 2 1 b d.kind_is (omega arith) in
      sym (take12 s (in_file s e).long ∙ rw (eight.0, eight.1, one.0, one.1) refl)

  polynomials_same : Whole (layout (head_of s)) (lawful (head_of s)) (head_of s).m 1 (drop 12 s)
  polynomials_same = polynomials_back (layout (head_of s)) (lawful (head_of s)) (head_of s).m 1 12 (drop 12 s) (bytes_drop 12 b) (in_file s e).in_order

  pub file_back : file_bytes (head_of s) (numbers s) ≡ s
  unfolding file_bytes
  file_back = ap (λ (l : List ℕ). record_bytes 1 (head_body (head_of s)) ++ l) polynomials_same.same ∙ ap (λ (l : List ℕ). l ++ drop 12 s) head_back ∙ take-append-drop 12 s

  pub system_back : System (head_of s) (numbers s)
  unfolding places
  system_back = record { limits = (in_file s e).limits; long = polynomials_same.long; ranged = polynomials_same.ranged }
