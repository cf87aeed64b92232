-- The public write, where all tests pass: what is put is the file. Assumes nothing.
use Rattle.std.specs.Prelude.{Ok, Result, ⊤}
use mathlib.Core.Path.{◌≡◌, refl, sym, ap, ◌∙◌}
use mathlib.Core.Bool.{Bool, true}
use mathlib.Core.List.{List, [], ◌++◌, append_assoc}
use Prim.Native.Nat.{ℕ, ◌+◌, ◌*◌, ◌≤◌}
use native.Mathlib.Omega.{arith}
use borrow.Author.Tests.{le-leb}
use lib.IntN.{ℤ}
use lib.ListN.{length, take, drop}
use lib.Seq.{length-take-le}
use Rattle.file.specs.Bytes.{over}
use Rattle.file.proofs.Putting.{over_over}
use Rattle.system.specs.Heads as Heads
use Rattle.system.specs.Heads.{places, head_ok}
use Rattle.system.specs.declared.refusal.Refusal.TheVariants.{OutOfLimits}
use Rattle.system.specs.declared.head.Head.{Head}
use Rattle.system.specs.declared.refusal.Refused.{Refused}
use Rattle.system.proofs.Heads.{head_limits}
use Rattle.file.specs.Layout.{layout}
use Rattle.file.proofs.Tests.{passed}
use Rattle.writing.specs.Counts.{count}
use Rattle.writing.specs.Writing.{record_bytes, head_body, polynomials_bytes, file_bytes, all_in_range, Ready, writable, writes}
use Rattle.writing.proofs.Joining.{file_parts, file_length, front_bytes}

-- the code's tests, passed: n is its number of places
pub record Passed (h : Head) (xs : List ℤ) (n : ℕ) : Type 0 where
  pub good : Heads.checked h ≡ Ok tt
  pub places_are : n ≡ places h
  pub enough : n ≤ length xs
  pub ranged : all_in_range (take n xs) ≡ true

pub all_passed : (h : Head) (xs : List ℤ) {d : Result ⊤ Refused} {n : ℕ} {b : Bool} → d ≡ Heads.checked h → d ≡ Ok tt → n ≡ places h → n ≤ length xs
    → b ≡ all_in_range (take n xs) → b ≡ true → Passed h xs n
all_passed h xs ed g en l eb y = record { good = sym ed ∙ g; places_are = en; enough = l; ranged = sym eb ∙ y }

module _ {h : Head} {xs : List ℤ} {n : ℕ} (p : Passed h xs n) where
  good_head : head_ok h ≡ true
  good_head = passed (head_ok h) OutOfLimits 0 p.good

  pub its_ready : Ready (layout h) (places h) (take n xs)
  its_ready = record { long = length-take-le n xs p.enough ∙ p.places_are; few = ((head_limits h).0 good_head).size_high; ranged = p.ranged }

  pub its_records : polynomials_bytes (layout h) h.m 1 (take n xs) ≡ polynomials_bytes (layout h) h.m 1 xs
  unfolding places
  its_records = rw p.places_are (front_bytes (layout h) h.m 1 xs)

  -- the code counts the file's bytes
  pub its_length : (m k : ℕ) → m ≡ h.m → k ≡ count (take n xs) → 16 + 5 * m + 7 * k ≡ length (file_bytes h xs)
  its_length m k em ek = let few : k ≡ count (take (places h) xs) = ek ∙ ap (λ (z : ℕ). count (take z xs)) p.places_are in omega (arith, file_length h xs)

  module _ (t : List ℕ) (len : ℕ) (el : len ≡ length (file_bytes h xs)) (l : len ≤ length t) where
    goes : writable h xs (length t) ≡ Ok tt
    unfolding writable
    goes = rw (good_head, ← p.places_are, le-leb n (length xs) p.enough, p.ranged, ← el, le-leb len (length t) l) refl

    said : writes h xs t ≡ (Ok len, file_bytes h xs ++ drop len t)
    unfolding writes
    said = rw (goes, ← el) refl

    front : over t 0 (file_bytes h xs) ≡ file_bytes h xs ++ drop len t
    unfolding over
    front = let z : 0 + length (file_bytes h xs) ≡ len = omega arith in ap (λ (k : ℕ). file_bytes h xs ++ drop k t) z

    joined : (record_bytes 1 (head_body h) ++ polynomials_bytes (layout h) h.m 1 xs) ++ record_bytes 3 [] ≡ file_bytes h xs
    unfolding file_bytes
    joined = append_assoc (record_bytes 1 (head_body h)) (polynomials_bytes (layout h) h.m 1 xs) (record_bytes 3 [])

    pub write_fine : (t1 t2 t3 : List ℕ) (o : ℕ) → t1 ≡ over t 0 (record_bytes 1 (head_body h)) → o ≡ 12 + length (polynomials_bytes (layout h) h.m 1 xs)
        → t2 ≡ over t1 12 (polynomials_bytes (layout h) h.m 1 xs) → t3 ≡ over t2 o (record_bytes 3 []) → (Ok len ≡ (writes h xs t).0) × (t3 ≡ (writes h xs t).1)
    write_fine t1 t2 t3 o e1 eo e2 e3 =
        let P : List ℕ = polynomials_bytes (layout h) h.m 1 xs in
        let H : List ℕ = record_bytes 1 (head_body h) in
        let fit : 12 + (length (polynomials_bytes (layout h) h.m 1 xs) + 4) ≤ length t = omega (arith, file_parts h xs) in
        let a : t2 ≡ over t 0 (H ++ P) = e2 ∙ rw e1 (over_over t 0 H P (omega arith)) in
        let eo2 : o ≡ 0 + length (record_bytes 1 (head_body h) ++ polynomials_bytes (layout h) h.m 1 xs) = omega arith in
        let b : t3 ≡ over t 0 ((H ++ P) ++ record_bytes 3 []) = e3 ∙ rw (a, eo2) (over_over t 0 (H ++ P) (record_bytes 3 []) (omega arith)) in
        rw said (refl, b ∙ rw joined front)
