-- Numbers and lines as text, in ASCII (01, "The program"; F): a number in decimal digits, the first not 0 unless the number is; a line is words with one blank
-- between two of them, and ends in one LF. Definitions, and the statements that the digits are right.
use Rattle.std.specs.Prelude.{◌≡◌, ℕ, zero, suc, ◌+◌, ◌-◌, ◌*◌, ◌/◌, ◌%◌, ◌^◌, ◌≤◌, ◌<◌, true, false, List, [], ◌∷◌, ◌++◌, ltb, length, get_or}

abbrev pub digit : ℕ → List ℕ
digit d = (48 + d) ∷ []

-- the digits of n, if they are no more than `more` and one
unfoldable pub digits : (more : ℕ) → ℕ → List ℕ
digits zero n = digit n
digits (suc more) n = elim (ltb n 10) [ true ↦ digit n | false ↦ digits more (n / 10) ++ digit (n % 10) ]

unfoldable pub decimal : ℕ → List ℕ
decimal n = digits n n

-- what stands behind the first word of a line: the other words, each behind a blank, and LF
unfoldable pub ended : List (List ℕ) → List ℕ
ended [] = 10 ∷ []
ended (w ∷ ws) = 32 ∷ (w ++ ended ws)

unfoldable pub line : List (List ℕ) → List ℕ
line [] = 10 ∷ []
line (w ∷ ws) = w ++ ended ws

-- ---- the number that digits say, behind others that said v
unfoldable pub value : (v : ℕ) → List ℕ → ℕ
value v [] = v
value v (d ∷ ds) = value (10 * v + (d - 48)) ds

-- The digits of a number say that number, and they are as few as can be.
abbrev pub SaysBack : Type 0
SaysBack = (n : ℕ) → value 0 (decimal n) ≡ n

-- Each is a digit, 48 to 57, and the first is not 0 unless the number is.
abbrev pub OnlyDigits : Type 0
OnlyDigits = (n i : ℕ) → i < length (decimal n) → (48 ≤ get_or (decimal n) i 0) × (get_or (decimal n) i 0 ≤ 57)

abbrev pub NoLeadingZero : Type 0
NoLeadingZero = (n : ℕ) → 0 < n → 48 < get_or (decimal n) 0 0

abbrev pub AsFew : Type 0
AsFew = (k n : ℕ) → n < 10 ^ suc k → length (decimal n) ≤ suc k
