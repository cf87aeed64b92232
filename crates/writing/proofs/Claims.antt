-- The statements of specs/Claims, proved. Assumes nothing.
use Rattle.std.specs.Prelude.{Result, Ok, Err, ⊤}
use mathlib.Core.Path.{◌≡◌, refl, sym, ap, ◌∙◌}
use mathlib.Core.Bool.{true}
use mathlib.Core.List.{List, ◌++◌}
use Prim.Native.Nat.{ℕ, zero, suc, ◌+◌, ◌*◌, ◌≤◌}
use native.Mathlib.Omega.{arith}
use native.Mathlib.Nat.{suc-mul}
use borrow.Author.Tests.{le-leb, leb-true}
use lib.Dec.{leb}
use lib.IntN.{ℤ}
use lib.ListN.{length, take, drop, length-append, length-drop, take-append-drop}
use lib.Seq.{take_at, length-take-le, take-append-le, drop-append-le}
use Rattle.file.specs.Bytes.{Bytes}
use Rattle.system.specs.Heads.{places, head_ok}
use Rattle.system.specs.declared.refusal.Refusal.TheVariants.{OutOfLimits, BadCoefficient, TooShort}
use Rattle.system.specs.declared.head.Head.{Head}
use Rattle.system.specs.declared.refusal.Refused.{Refused}
use Rattle.system.specs.Chain.{test, ◌then◌}
use Rattle.file.specs.Layout.{Layout, layout}
use Rattle.file.specs.Reading.{head_of, checked, numbers, filled, reads}
use Rattle.file.proofs.Tests.{parts, passed}
use Rattle.file.proofs.Answering.{reads_fine}
use Rattle.writing.specs.Writing.{polynomials_bytes, file_bytes, all_in_range, writable, written, writes}
use Rattle.writing.specs.Claims.{WrittenBack, ReadBack, Decided, OneFile, InLimits, Unread, Unwritten}
use Rattle.writing.proofs.ReadBack.{System, checked_written, numbers_back}
use Rattle.writing.proofs.WriteBack.{file_back, system_back}

-- ---- what an answer says
never : {A : Type 0} → ◌≡◌ {A = ℕ} 0 1 → A
never z = absurd (omega arith)

-- a file that reads
pub record Readable (s : List ℕ) (out : List ℤ) (h : Head) (xs : List ℤ) : Type 0 where
  pub good : checked s ≡ Ok tt
  pub room : places (head_of s) ≤ length out
  pub head_is : head_of s ≡ h
  pub numbers_are : numbers s ++ drop (places (head_of s)) out ≡ xs

module _ (s : List ℕ) (out : List ℤ) where
  abbrev outcome : Result ⊤ Refused
  outcome = checked s then test (leb (places (head_of s)) (length out)) TooShort 0

  pub readable : (h : Head) (xs : List ℤ) → reads s out ≡ (Ok h, xs) → Readable s out h xs
  unfolding reads
  readable h xs e = go outcome refl e
    where
      go : (c : Result ⊤ Refused) → outcome ≡ c → filled c s out ≡ (Ok h, xs) → Readable s out h xs
      go (Ok tt) q f =
          let a = parts (checked s) (test (leb (places (head_of s)) (length out)) TooShort 0) q in
          let g : Ok (head_of s) ≡ Ok h = ap (λ (z : Result Head Refused × List ℤ). z.0) f in
          record {
            good = a.0;
            room = leb-true (places (head_of s)) (length out) (passed _ TooShort 0 a.1);
            head_is = cc g;
            numbers_are = ap (λ (z : Result Head Refused × List ℤ). z.1) f;
          }
      go (Err x) q f = let g : Err x ≡ Ok h = ap (λ (z : Result Head Refused × List ℤ). z.0) f in let z : ◌≡◌ {A = ℕ} 0 1 = cc g in never z

-- a system that is written
pub record Writable (h : Head) (xs : List ℤ) (t : List ℕ) (n : ℕ) (t' : List ℕ) : Type 0 where
  pub enough : places h ≤ length xs
  pub limits : head_ok h ≡ true
  pub ranged : all_in_range (take (places h) xs) ≡ true
  pub length_is : length (file_bytes h xs) ≡ n
  pub bytes_are : file_bytes h xs ++ drop (length (file_bytes h xs)) t ≡ t'

module _ (h : Head) (xs : List ℤ) (t : List ℕ) where
  tests : writable h xs (length t) ≡ Ok tt → (head_ok h ≡ true) × (places h ≤ length xs) × (all_in_range (take (places h) xs) ≡ true)
  unfolding writable
  tests e =
      let a = parts (test (head_ok h) OutOfLimits 0) _ e in
      let b = parts (test (leb (places h) (length xs)) TooShort 0) _ a.1 in
      let c = parts (test (all_in_range (take (places h) xs)) BadCoefficient 0) (test (leb (length (file_bytes h xs)) (length t)) TooShort 0) b.1 in
      (passed _ OutOfLimits 0 a.0, leb-true (places h) (length xs) (passed _ TooShort 0 b.0), passed _ BadCoefficient 0 c.0)

  pub writing : (n : ℕ) (t' : List ℕ) → writes h xs t ≡ (Ok n, t') → Writable h xs t n t'
  unfolding writes
  writing n t' e = go (writable h xs (length t)) refl e
    where
      go : (c : Result ⊤ Refused) → writable h xs (length t) ≡ c → written c h xs t ≡ (Ok n, t') → Writable h xs t n t'
      go (Ok tt) q f =
          let a = tests q in
          let g : Ok (length (file_bytes h xs)) ≡ Ok n = ap (λ (z : Result ℕ Refused × List ℕ). z.0) f in
          record { enough = a.1; limits = a.0; ranged = a.2; length_is = cc g; bytes_are = ap (λ (z : Result ℕ Refused × List ℕ). z.1) f }
      go (Err x) q f = let g : Err x ≡ Ok n = ap (λ (z : Result ℕ Refused × List ℕ). z.0) f in let z : ◌≡◌ {A = ℕ} 0 1 = cc g in never z

  pub writes_fine : System h (take (places h) xs) → places h ≤ length xs → length (file_bytes h xs) ≤ length t
      → writes h xs t ≡ (Ok (length (file_bytes h xs)), file_bytes h xs ++ drop (length (file_bytes h xs)) t)
  unfolding writes writable
  writes_fine s e l = rw (s.limits, le-leb (places h) (length xs) e, s.ranged, le-leb (length (file_bytes h xs)) (length t) l) refl

-- ---- coefficients beyond the first m × S are not written
polynomials_front : (L : Layout) (j k : ℕ) (xs ys : List ℤ) → length xs ≡ j * L.size → polynomials_bytes L j k (xs ++ ys) ≡ polynomials_bytes L j k xs
unfolding polynomials_bytes
polynomials_front L zero k xs ys e = refl
polynomials_front L (suc j) k xs ys e =
    let big : L.size ≤ length xs = omega (arith, suc-mul j L.size) in
    let left : length (drop L.size xs) ≡ j * L.size = rw (length-drop L.size xs) (omega (arith, suc-mul j L.size)) in
    rw (take-append-le L.size xs ys big, drop-append-le L.size xs ys big, polynomials_front L j (k + 1) (drop L.size xs) ys left) refl

file_front : (h : Head) (xs : List ℤ) → places h ≤ length xs → file_bytes h xs ≡ file_bytes h (take (places h) xs)
unfolding file_bytes places
file_front h xs e =
    let f : polynomials_bytes (layout h) h.m 1 xs ≡ polynomials_bytes (layout h) h.m 1 (take (places h) xs) =
    ap (polynomials_bytes (layout h) h.m 1) (sym (take-append-drop (places h) xs)) ∙ polynomials_front (layout h) h.m 1 (take (places h) xs) (drop (places h) xs) (length-take-le (places h) xs e)
    in rw f refl

head_front : (h : Head) (xs : List ℤ) → head_of (file_bytes h xs) ≡ h
unfolding file_bytes
head_front h xs = refl

-- ---- a file that reads is that of its system
module _ (s : List ℕ) (b : Bytes s) (out : List ℤ) (h : Head) (xs : List ℤ) (r : Readable s out h xs) where
  front : take (places h) xs ≡ numbers s
  front =
      let len : length (numbers s) ≡ places h = (system_back s b r.good).long ∙ ap places r.head_is in
      rw (← r.numbers_are) (take_at (numbers s) (drop (places (head_of s)) out) (places h) len)

  system_is : System h (take (places h) xs)
  system_is = rw (front, ← r.head_is) (system_back s b r.good)

  file_is : file_bytes h (take (places h) xs) ≡ s
  file_is = rw (front, ← r.head_is) (file_back s b r.good)

  long_is : places h ≤ length xs
  long_is = let e = length-append (numbers s) (drop (places (head_of s)) out) in let n = (system_back s b r.good).long in rw (← r.numbers_are, ← r.head_is) (omega arith)

-- ---- the statements
pub written_back : WrittenBack
written_back s b out h xs e t l =
    let r = readable s out h xs e in
    let f : file_bytes h xs ≡ s = file_front h xs (long_is s b out h xs r) ∙ file_is s b out h xs r in
    writes_fine h xs t (system_is s b out h xs r) (long_is s b out h xs r) (rw f l) ∙ rw f refl

pub read_back : ReadBack
read_back h xs t n t' e out l =
    let w = writing h xs t n t' e in
    let ys : List ℤ = take (places h) xs in
    let s : System h ys = record { limits = w.limits; long = length-take-le (places h) xs w.enough; ranged = w.ranged } in
    let f : take n t' ≡ file_bytes h ys = rw (← w.bytes_are) (take_at (file_bytes h xs) (drop (length (file_bytes h xs)) t) n w.length_is) ∙ file_front h xs w.enough in
    rw f (reads_fine (file_bytes h ys) out (checked_written h ys s) (rw (head_front h ys) l) ∙ rw (head_front h ys, numbers_back h ys s) refl)

pub decided : Decided
decided s out a b xs ys p q = let e = sym p ∙ q in (ap (λ (z : Result Head Refused × List ℤ). z.0) e, ap (λ (z : Result Head Refused × List ℤ). z.1) e)

pub one_file : OneFile
one_file s t b c out h xs p q = sym (file_is s b out h xs (readable s out h xs p)) ∙ file_is t c out h xs (readable t out h xs q)

pub in_limits : InLimits
in_limits s b out h xs e = let r = readable s out h xs e in let i = system_is s b out h xs r in (i.limits, long_is s b out h xs r, i.ranged)

pub unread : Unread
unfolding reads
unread s out x out' e = go (outcome s out) e
  where
    go : (c : Result ⊤ Refused) → filled c s out ≡ (Err x, out') → out' ≡ out
    go (Ok tt) f = let g : Ok (head_of s) ≡ Err x = ap (λ (z : Result Head Refused × List ℤ). z.0) f in let z : ◌≡◌ {A = ℕ} 0 1 = cc g in never z
    go (Err y) f = sym (ap (λ (z : Result Head Refused × List ℤ). z.1) f)

pub unwritten : Unwritten
unfolding writes
unwritten h xs t x t' e = go (writable h xs (length t)) e
  where
    go : (c : Result ⊤ Refused) → written c h xs t ≡ (Err x, t') → t' ≡ t
    go (Ok tt) f = let g : Ok (length (file_bytes h xs)) ≡ Err x = ap (λ (z : Result ℕ Refused × List ℕ). z.0) f in let z : ◌≡◌ {A = ℕ} 0 1 = cc g in never z
    go (Err y) f = sym (ap (λ (z : Result ℕ Refused × List ℕ). z.1) f)
