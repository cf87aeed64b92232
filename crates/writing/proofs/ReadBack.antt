-- A system that is written reads back as the same head and numbers. Assumes nothing.
use Rattle.std.specs.Prelude.{Ok}
use mathlib.Core.Path.{◌≡◌, refl, ◌∙◌, subst}
use mathlib.Core.Bool.{true}
use mathlib.Core.List.{List, [], ◌∷◌, ◌++◌, append_assoc}
use Prim.Native.Nat.{ℕ, zero, suc, ◌+◌, ◌-◌, ◌*◌, ◌/◌, ◌%◌, ◌≤◌}
use native.Mathlib.Omega.{arith}
use native.Mathlib.Nat.{suc-mul, zero-mul}
use borrow.Author.Tests.{eq-eqb}
use lib.IntN.{ℤ}
use lib.ListN.{length, take, drop, length-append, length-drop, take-append-drop}
use lib.Seq.{drop_at, length-take-le}
use Rattle.file.proofs.Words.{word16_bytes}
use Rattle.system.specs.Heads.{places, head_ok}
use Rattle.system.specs.declared.refusal.Refusal.TheVariants.{NotDue, OutOfLimits}
use Rattle.system.specs.declared.head.Head.{Head}
use Rattle.file.specs.Layout.{Layout, layout}
use Rattle.file.specs.Records.{length_of}
use Rattle.file.specs.Terms.{terms, coefficients}
use Rattle.file.specs.Reading.{head_shape, polynomial_shape, end_shape, term_count, polynomial, ending, polynomials, numbers_of, checked, numbers}
use Rattle.file.proofs.Tests.{pass, chain}
use Rattle.file.proofs.Layouts.{Lawful, lawful}
use Rattle.file.proofs.Stepping.{Due, due_good, fits_says}
use Rattle.writing.specs.Counts.{count}
use Rattle.writing.specs.Writing.{record_bytes, terms_bytes, polynomial_bytes, polynomials_bytes, file_bytes, all_in_range}
use Rattle.writing.proofs.Counting.{count_le, terms_length, all_split}
use Rattle.writing.proofs.Forth.{terms_written, coefficients_written}

-- ---- one polynomial's record, followed by anything
module _ (L : Layout) (law : Lawful L) (k : ℕ) (ys : List ℤ) (tail : List ℕ) (len : length ys ≡ L.size) (all : all_in_range ys ≡ true) where
  abbrev r : List ℕ
  r = polynomial_bytes L k ys ++ tail

  its_length : length_of r ≡ 1 + 7 * count ys
  its_length = word16_bytes (length (k ∷ terms_bytes L 0 ys)) ∙ omega (arith, terms_length L 0 ys)

  its_count : term_count r ≡ count ys
  its_count = rw its_length (let e : (1 + 7 * count ys - 1) / 7 ≡ count ys = omega arith in e)

  its_header : Due 2 (polynomial_shape L.size) r
  its_header =
      let whole : length (terms_bytes L 0 ys ++ tail) ≡ 7 * count ys + length tail = length-append (terms_bytes L 0 ys) tail ∙ rw (terms_length L 0 ys) refl in
      let few : (1 + 7 * count ys - 1) / 7 ≤ L.size = omega (arith, count_le ys) in
      let none : (1 + 7 * count ys - 1) % 7 ≡ 0 = omega arith in
      record {
        present = rw its_length (omega (arith, whole));
        kind_is = refl;
        fitting = (fits_says (polynomial_shape L.size) (length_of r)).passes (rw its_length ((omega arith, none), few));
      }

  its_terms : (o : ℕ) → terms L (term_count r) o 0 (drop 5 r) ≡ Ok tt
  its_terms o = rw its_count (terms_written L law ys 0 o 0 tail (omega arith) (omega arith) all)

  pub its_good : (o : ℕ) → polynomial L k o r ≡ Ok tt
  unfolding polynomial
  its_good o = chain (due_good 2 (polynomial_shape L.size) o r its_header) (chain (pass NotDue o (eq-eqb k k refl)) (its_terms (o + 5)))

  pub its_numbers : coefficients L L.size (term_count r) 0 (drop 5 r) ≡ ys
  its_numbers = rw its_count (subst (λ (n : ℕ). coefficients L n (count ys) 0 (terms_bytes L 0 ys ++ tail) ≡ ys) len (coefficients_written L law ys 0 tail (omega arith) all))

  pub its_rest : drop (4 + length_of r) r ≡ tail
  its_rest =
      let e : 4 + (1 + 7 * count ys) ≡ suc (suc (suc (suc (suc (7 * count ys))))) = omega arith in
      rw (its_length, e) (drop_at (terms_bytes L 0 ys) tail (7 * count ys) (terms_length L 0 ys))

-- ---- all polynomials: they are in order, and say the coefficients
module _ (L : Layout) (law : Lawful L) where
  abbrev bytes : ℕ → ℕ → List ℤ → List ℕ
  bytes j k xs = polynomials_bytes L j k xs ++ record_bytes 3 []

  pub polynomials_written : (j k o : ℕ) (xs : List ℤ) → length xs ≡ j * L.size → all_in_range xs ≡ true → (polynomials L j k o (bytes j k xs) ≡ Ok tt) × (numbers_of L j (bytes j k xs) ≡ xs)
  unfolding ending polynomials polynomials_bytes numbers_of
  polynomials_written zero k o [] e a = (chain (due_good 3 end_shape o (record_bytes 3 []) (record { present = omega arith; kind_is = refl; fitting = refl })) refl, refl)
  polynomials_written zero k o (x ∷ xs) e a = absurd (let z : ⊥ = omega (arith, zero-mul L.size) in z)
  polynomials_written (suc j) k o xs e a =
      let big : L.size ≤ length xs = omega (arith, suc-mul j L.size) in
      let ys : List ℤ = take L.size xs in
      let zs : List ℤ = drop L.size xs in
      let tail : List ℕ = bytes j (k + 1) zs in
      let len : length (take L.size xs) ≡ L.size = length-take-le L.size xs big in
      let inr = all_split L.size xs a in
      let left : length (drop L.size xs) ≡ j * L.size = rw (length-drop L.size xs) (omega (arith, suc-mul j L.size)) in
      let rest = its_rest L law k ys tail len inr.0 in
      rw (append_assoc (polynomial_bytes L k ys) (polynomials_bytes L j (k + 1) zs) (record_bytes 3 []))
      (chain (its_good L law k ys tail len inr.0 o) (rw rest (polynomials_written j (k + 1) _ zs left inr.1).0), rw (its_numbers L law k ys tail len inr.0, rest, (polynomials_written j (k + 1) 0 zs left inr.1).1) (take-append-drop L.size xs))

-- ---- the whole: a system, as it may be written
pub record System (h : Head) (xs : List ℤ) : Type 0 where
  pub limits : head_ok h ≡ true
  pub long : length xs ≡ places h
  pub ranged : all_in_range xs ≡ true

module _ (h : Head) (xs : List ℤ) (s : System h xs) where
  pub checked_written : checked (file_bytes h xs) ≡ Ok tt
  unfolding checked file_bytes places
  checked_written =
      chain (due_good 1 head_shape 0 _ (record { present = omega arith; kind_is = refl; fitting = refl }))
      (chain (pass OutOfLimits 0 s.limits) (polynomials_written (layout h) (lawful h) h.m 1 12 xs s.long s.ranged).0)

  pub numbers_back : numbers (file_bytes h xs) ≡ xs
  unfolding file_bytes places
  numbers_back = (polynomials_written (layout h) (lawful h) h.m 1 0 xs s.long s.ranged).1
