-- How long a file that reads can be, and that nothing behind that length decides anything (01, "The system file"; "The program": "Reads up to 4,096 bytes").
-- Statements; the proofs are in proofs/Lengths.
use Rattle.std.specs.Prelude.{◌≡◌, List, ℕ, ◌+◌, ◌*◌, ◌≤◌, ◌<◌, ℤ, length, take, Ok}
use Rattle.system.specs.declared.head.Head.{Head}
use Rattle.file.specs.Reading.{reads}

-- a head of 12 bytes, three polynomials of 5 bytes and 64 terms, an end of 4: 1,375
abbrev pub longest : ℕ
longest = 12 + 3 * (5 + 7 * 64) + 4

abbrev pub ReadIsShort : Type 0
ReadIsShort = (s : List ℕ) (out : List ℤ) (h : Head) → (reads s out).0 ≡ Ok h → length s ≤ longest

-- Whoever reads more bytes than that reads all that counts: a longer file is refused, and with the same number at the same offset whether its end is read or not.
abbrev pub FrontDecides : Type 0
FrontDecides = (s : List ℕ) (out : List ℤ) (n : ℕ) → longest < n → reads (take n s) out ≡ reads s out
