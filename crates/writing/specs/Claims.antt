-- What is proved of reading and writing together, as statements over what `read` and `write` promise. The proofs are in proofs/; each is named as its
-- statement.
use Rattle.std.specs.Prelude.{◌≡◌, true, List, ◌++◌, ℕ, ◌≤◌, ℤ, length, take, drop, Result, Ok, Err}
use Rattle.file.specs.Bytes.{Bytes}
use Rattle.system.specs.Heads.{places, head_ok}
use Rattle.system.specs.declared.refusal.Refused.{Refused}
use Rattle.system.specs.declared.head.Head.{Head}
use Rattle.file.specs.Reading.{reads}
use Rattle.writing.specs.Writing.{all_in_range, writes}

-- A file that reads is, written again, the same bytes.
abbrev pub WrittenBack : Type 0
WrittenBack = (s : List ℕ) → Bytes s → (out : List ℤ) (h : Head) (xs : List ℤ) → reads s out ≡ (Ok h, xs)
    → (t : List ℕ) → length s ≤ length t → writes h xs t ≡ (Ok (length s), s ++ drop (length s) t)

-- A system that is written reads back as the same head and numbers.
abbrev pub ReadBack : Type 0
ReadBack = (h : Head) (xs : List ℤ) (t : List ℕ) (n : ℕ) (t' : List ℕ) → writes h xs t ≡ (Ok n, t')
    → (out : List ℤ) → places h ≤ length out → reads (take n t') out ≡ (Ok h, take (places h) xs ++ drop (places h) out)

-- Reading is decided: of a file and lent places there is one answer, and one content of the places.
abbrev pub Decided : Type 0
Decided = (s : List ℕ) (out : List ℤ) (a b : Result Head Refused) (xs ys : List ℤ) → reads s out ≡ (a, xs) → reads s out ≡ (b, ys) → (a ≡ b) × (xs ≡ ys)

-- And the other way round: a system has one file.
abbrev pub OneFile : Type 0
OneFile = (s t : List ℕ) → Bytes s → Bytes t → (out : List ℤ) (h : Head) (xs : List ℤ) → reads s out ≡ (Ok h, xs) → reads t out ≡ (Ok h, xs) → s ≡ t

-- What is read keeps the limits, so `write` and a start refuse it neither with 4 nor with 6.
abbrev pub InLimits : Type 0
InLimits = (s : List ℕ) → Bytes s → (out : List ℤ) (h : Head) (xs : List ℤ) → reads s out ≡ (Ok h, xs)
    → (head_ok h ≡ true) × (places h ≤ length xs) × (all_in_range (take (places h) xs) ≡ true)

-- A refusal changes nothing.
abbrev pub Unread : Type 0
Unread = (s : List ℕ) (out : List ℤ) (x : Refused) (out' : List ℤ) → reads s out ≡ (Err x, out') → out' ≡ out

abbrev pub Unwritten : Type 0
Unwritten = (h : Head) (xs : List ℤ) (t : List ℕ) (x : Refused) (t' : List ℕ) → writes h xs t ≡ (Err x, t') → t' ≡ t
