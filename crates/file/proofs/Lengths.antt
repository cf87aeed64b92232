-- Every record of a file that reads is within its longest, so the file is; and the tests of a longer file look only at its front. Assumes nothing.
use Rattle.std.specs.Prelude.{Result, Ok, Err, ⊤}
use mathlib.Core.Path.{◌≡◌, refl, sym, ap, ap₂, ◌∙◌}
use mathlib.Core.Bool.{Bool, true, false}
use mathlib.Core.List.{List, ◌++◌}
use Prim.Native.Nat.{ℕ, zero, suc, ◌+◌, ◌*◌, ◌≤◌, ◌<◌}
use native.Mathlib.Omega.{arith}
use borrow.Author.Tests.{le-leb, lt-leb, leb-true, leb-false}
use lib.Dec.{leb}
use lib.ListN.{length, take, drop, length-drop, length-append, get_or-append, take-append-drop}
use lib.Seq.{drop-append-le, take_all, length-take-le}
use Rattle.system.specs.Heads.{head_ok}
use Rattle.system.proofs.Heads.{head_says}
use Rattle.system.specs.declared.refusal.Refusal.TheVariants.{ExtraBytes, OutOfLimits}
use Rattle.system.specs.declared.head.Head.{Head}
use Rattle.system.specs.declared.refusal.Refused.{Refused}
use Rattle.system.specs.Chain.{test, ◌then◌}
use Rattle.file.specs.Bytes.{byte}
use Rattle.file.specs.Layout.{Layout, layout}
use Rattle.file.specs.Records.{length_of, kind_of, fits, due}
use Rattle.file.specs.Terms.{exponents, place_of, term, terms}
use Rattle.file.specs.Reading.{head_shape, polynomial_shape, end_shape, term_count, polynomial, ending, polynomials, head_of, checked, reads}
use Rattle.file.specs.Lengths.{longest, ReadIsShort, FrontDecides}
use Rattle.file.specs.declared.parser.Shape.{Shape}
use Rattle.file.proofs.Tests.{parts, passed}
use Rattle.file.proofs.Stepping.{due_parts, fits_says}
use Rattle.file.proofs.Answering.{in_file, reads_stop}

-- ---- the length of each record
polynomial_length : (s n : ℕ) → fits (polynomial_shape s) n ≡ true → n ≤ 1 + 7 * s
polynomial_length s n e = let f = (fits_says (polynomial_shape s) n).fact e in omega (arith, f.0.0, f.0.1, f.1)

module _ (L : Layout) (small : L.size ≤ 64) where
  polynomial_in_file : (k o : ℕ) (r : List ℕ) → polynomial L k o r ≡ Ok tt → length_of r ≤ 449
  unfolding polynomial
  polynomial_in_file k o r e =
      let a = parts (due 2 (polynomial_shape L.size) o r) _ e in
      omega (arith, polynomial_length L.size (length_of r) (due_parts 2 (polynomial_shape L.size) o r a.0).fitting)

  -- what is left of a file, where j polynomials are due
  left_short : (j k o : ℕ) (r : List ℕ) → polynomials L j k o r ≡ Ok tt → length r ≤ 453 * j + 4
  unfolding polynomials ending
  left_short zero k o r e =
      let a = parts (due 3 end_shape o r) (test (leb (length r) 4) ExtraBytes (o + 4)) e in
      omega (arith, leb-true (length r) 4 (passed (leb (length r) 4) ExtraBytes (o + 4) a.1))
  left_short (suc j) k o r e =
      let a = parts (polynomial L k o r) (polynomials L j (k + 1) (o + (4 + length_of r)) (drop (4 + length_of r) r)) e in
      let n = polynomial_in_file k o r a.0 in
      let i = left_short j (k + 1) (o + (4 + length_of r)) (drop (4 + length_of r) r) a.1 in
      omega (arith, n, i, length-drop (4 + length_of r) r)

good_short : (s : List ℕ) → checked s ≡ Ok tt → length s ≤ longest
good_short s e =
    let f = in_file s e in
    let m = (head_says (head_of s)).fact f.limits in
    let r = left_short (layout (head_of s)) m.size_high (head_of s).m 1 12 (drop 12 s) f.in_order in
    omega (arith, r, m.m_high, length-drop 12 s)

pub read_is_short : ReadIsShort
read_is_short s out h e = from (checked s) refl
  where
    from : (c : Result ⊤ Refused) → checked s ≡ c → length s ≤ longest
    from (Ok tt) q = good_short s q
    from (Err x) q = let z : Err x ≡ Ok h = sym (ap (λ r. r.0) (reads_stop s out x q)) ∙ e in
        let w : ◌≡◌ {A = ℕ} 0 1 = cc z in absurd (omega arith)

-- ---- the tests of a file r with more behind it
module _ (x : List ℕ) where
  same_byte : (r : List ℕ) (i : ℕ) → i < length r → byte (r ++ x) i ≡ byte r i
  same_byte r i h = get_or-append r x 0 i h

  longer : (r : List ℕ) → length r ≤ length (r ++ x)
  longer r = omega (arith, length-append r x)

  same_words : (r : List ℕ) → 4 ≤ length r → (length_of (r ++ x) ≡ length_of r) × (kind_of (r ++ x) ≡ kind_of r)
  same_words r h = (
    rw (same_byte r 0 (omega arith), same_byte r 1 (omega arith)) refl,
    rw (same_byte r 2 (omega arith), same_byte r 3 (omega arith)) refl,
  )

  same_due : (kind : ℕ) (shape : Shape) (o : ℕ) (r : List ℕ) → 4 ≤ length r → (fits shape (length_of r) ≡ true → 4 + length_of r ≤ length r)
      → due kind shape o (r ++ x) ≡ due kind shape o r
  unfolding due
  same_due kind shape o r h body = go (fits shape (length_of r)) refl
    where
      go : (b : Bool) → fits shape (length_of r) ≡ b → due kind shape o (r ++ x) ≡ due kind shape o r
      go true e = rw (
        le-leb 4 (length r) h,
        le-leb 4 (length (r ++ x)) (omega (arith, longer r)),
        (same_words r h).0,
        (same_words r h).1,
        e,
        le-leb (4 + length_of r) (length r) (body e),
        le-leb (4 + length_of r) (length (r ++ x)) (omega (arith, body e, longer r)),
      ) refl
      go false e = rw (le-leb 4 (length r) h, le-leb 4 (length (r ++ x)) (omega (arith, longer r)), (same_words r h).0, (same_words r h).1, e) refl

  same_ending : (o : ℕ) (r : List ℕ) → 4 < length r → ending o (r ++ x) ≡ ending o r
  unfolding ending
  same_ending o r h =
      let none : fits end_shape (length_of r) ≡ true → 4 + length_of r ≤ length r
      = λ e. let f = (fits_says end_shape (length_of r)).fact e in omega (arith, f.0.0, f.0.1, f.1) in
      rw (same_due 3 end_shape o r (omega arith) none, lt-leb (length r) 4 h, lt-leb (length (r ++ x)) 4 (omega (arith, longer r))) refl

  module _ (L : Layout) where
    same_place : (r : List ℕ) → 3 ≤ length r → place_of L (r ++ x) ≡ place_of L r
    same_place r h =
        let e : exponents (r ++ x) ≡ exponents r = rw (same_byte r 0 (omega arith), same_byte r 1 (omega arith), same_byte r 2 (omega arith)) refl in
        ap L.place e

    same_term : (o next : ℕ) (r : List ℕ) → 7 ≤ length r → term L o next (r ++ x) ≡ term L o next r
    unfolding term
    same_term o next r h = rw (
      same_place r (omega arith),
      same_byte r 0 (omega arith),
      same_byte r 1 (omega arith),
      same_byte r 2 (omega arith),
      same_byte r 3 (omega arith),
      same_byte r 4 (omega arith),
      same_byte r 5 (omega arith),
      same_byte r 6 (omega arith),
    ) refl

    same_terms : (t o next : ℕ) (r : List ℕ) → 7 * t ≤ length r → terms L t o next (r ++ x) ≡ terms L t o next r
    unfolding terms
    same_terms zero o next r h = refl
    same_terms (suc t) o next r h =
        let d : drop 7 (r ++ x) ≡ drop 7 r ++ x = drop-append-le 7 r x (omega arith) in
        rw (
          same_term o next r (omega arith),
          d,
          same_place r (omega arith),
          same_terms t (o + 7) (place_of L r + 1) (drop 7 r) (omega (arith, length-drop 7 r)),
        ) refl

    module _ (small : L.size ≤ 64) where
      same_polynomial : (k o : ℕ) (r : List ℕ) → 453 < length r → polynomial L k o (r ++ x) ≡ polynomial L k o r
      unfolding polynomial
      same_polynomial k o r h = go (due 2 (polynomial_shape L.size) o r) refl
        where
          same : due 2 (polynomial_shape L.size) o (r ++ x) ≡ due 2 (polynomial_shape L.size) o r
          same = same_due 2 (polynomial_shape L.size) o r (omega arith) (λ e. omega (arith, polynomial_length L.size (length_of r) e))

          go : (c : Result ⊤ Refused) → due 2 (polynomial_shape L.size) o r ≡ c → polynomial L k o (r ++ x) ≡ polynomial L k o r
          go (Ok tt) e =
              let n = polynomial_length L.size (length_of r) (due_parts 2 (polynomial_shape L.size) o r e).fitting in
              let d : drop 5 (r ++ x) ≡ drop 5 r ++ x = drop-append-le 5 r x (omega arith) in
              rw (
                same,
                e,
                same_byte r 4 (omega arith),
                (same_words r (omega arith)).0,
                d,
                same_terms (term_count r) (o + 5) 0 (drop 5 r) (omega (arith, n, length-drop 5 r)),
              ) refl
          go (Err y) e = rw (same, e) refl

      same_polynomials : (j k o : ℕ) (r : List ℕ) → 453 * j + 4 < length r → polynomials L j k o (r ++ x) ≡ polynomials L j k o r
      unfolding polynomials
      same_polynomials zero k o r h = same_ending o r h
      same_polynomials (suc j) k o r h = go (λ k o r h. same_polynomials j k o r h) (polynomial L k o r) refl
        where
          same : polynomial L k o (r ++ x) ≡ polynomial L k o r
          same = same_polynomial k o r (omega arith)

          go : ((k o : ℕ) (r : List ℕ) → 453 * j + 4 < length r → polynomials L j k o (r ++ x) ≡ polynomials L j k o r)
              → (c : Result ⊤ Refused) → polynomial L k o r ≡ c → polynomials L (suc j) k o (r ++ x) ≡ polynomials L (suc j) k o r
          go again (Ok tt) e =
              let n = polynomial_in_file L small k o r e in
              let d : drop (4 + length_of r) (r ++ x) ≡ drop (4 + length_of r) r ++ x = drop-append-le (4 + length_of r) r x (omega (arith, n)) in
              rw (
                same,
                e,
                (same_words r (omega arith)).0,
                d,
                again (k + 1) (o + (4 + length_of r)) (drop (4 + length_of r) r) (omega (arith, n, length-drop (4 + length_of r) r)),
              ) refl
          go again (Err y) e = rw (same, e) refl

  same_head : (s : List ℕ) → 12 ≤ length s → head_of (s ++ x) ≡ head_of s
  same_head s h = rw (
    same_byte s 4 (omega arith),
    same_byte s 5 (omega arith),
    same_byte s 6 (omega arith),
    same_byte s 7 (omega arith),
    same_byte s 8 (omega arith),
    same_byte s 9 (omega arith),
    same_byte s 10 (omega arith),
    same_byte s 11 (omega arith),
  ) refl

  -- the tests of a head, and what follows it
  abbrev headed : Head → List ℕ → Result ⊤ Refused
  headed h r = test (head_ok h) OutOfLimits 0 then polynomials (layout h) h.m 1 12 r

  same_headed : (h : Head) (r : List ℕ) → 453 * 3 + 4 < length r → headed h (r ++ x) ≡ headed h r
  same_headed h r l = go (head_ok h) refl
    where
      go : (b : Bool) → head_ok h ≡ b → headed h (r ++ x) ≡ headed h r
      go true e =
          let m = (head_says h).fact e in
          let p = same_polynomials (layout h) m.size_high h.m 1 12 r (omega (arith, m.m_high)) in
          ap (λ (c : Result ⊤ Refused). test (head_ok h) OutOfLimits 0 then c) p
      go false e = rw e refl

  same_checked : (s : List ℕ) → longest < length s → checked (s ++ x) ≡ checked s
  unfolding checked
  same_checked s h =
      let eight : fits head_shape (length_of s) ≡ true → 4 + length_of s ≤ length s
      = λ e. let f = (fits_says head_shape (length_of s)).fact e in omega (arith, f.0.0, f.0.1, f.1) in
      let front : headed (head_of (s ++ x)) (drop 12 (s ++ x)) ≡ headed (head_of s) (drop 12 s ++ x)
      = ap₂ headed (same_head s (omega arith)) (drop-append-le 12 s x (omega arith)) in
      ap₂ ◌then◌ (same_due 1 head_shape 0 s (omega arith) eight) (front ∙ same_headed (head_of s) (drop 12 s) (omega (arith, length-drop 12 s)))

pub front_decides : FrontDecides
front_decides s out n h = from (leb (length s) n) refl
  where
    longer_file : n < length s → (c : Result ⊤ Refused) → checked (take n s) ≡ c → reads (take n s) out ≡ reads s out
    longer_file l (Ok tt) q = absurd (omega (arith, good_short (take n s) q, length-take-le n s (omega arith)))
    longer_file l (Err y) q =
        let same : checked (take n s ++ drop n s) ≡ checked (take n s) = same_checked (drop n s) (take n s) (omega (arith, length-take-le n s (omega arith))) in
        reads_stop (take n s) out y q ∙ sym (reads_stop s out y (ap checked (sym (take-append-drop n s)) ∙ same ∙ q))

    from : (b : Bool) → leb (length s) n ≡ b → reads (take n s) out ≡ reads s out
    from true e = ap (λ (l : List ℕ). reads l out) (take_all n s (leb-true (length s) n e))
    from false e = longer_file (leb-false (length s) n e) (checked (take n s)) refl
