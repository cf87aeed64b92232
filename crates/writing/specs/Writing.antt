-- Writing a system file (01, "The system file", "Refusal numbers"): from a head and coefficients to bytes, or to the first refusal in 01's order; and the
-- lent bytes afterwards. Definitions only.
use Rattle.std.specs.Prelude.{ℕ, zero, suc, ◌+◌, ◌≤◌, ◌≡◌, Bool, true, cond, ◌&&◌, List, [], ◌∷◌, ◌++◌, leb, ℤ, length, take, drop, Result, Ok, Err, ⊤}
use Rattle.bernstein.specs.Numbers.{Index}
use Rattle.file.specs.Bytes.{bytes16, bytes32}
use Rattle.system.specs.Heads.{places, head_ok}
use Rattle.system.specs.declared.refusal.Refusal.{Refusal}
use Rattle.system.specs.declared.head.Head.{Head}
use Rattle.system.specs.declared.refusal.Refused.{Refused}
use Rattle.system.specs.Chain.{test, ◌then◌}
use Rattle.file.specs.Layout.{Layout, layout}
use Rattle.file.specs.Terms.{in_range, is_zero}

-- "two-byte length of the body, two-byte kind, body"
abbrev pub record_bytes : ℕ → List ℕ → List ℕ
record_bytes kind body = bytes16 (length body) ++ (bytes16 kind ++ body)

-- ---- kind 1
abbrev pub head_body : Head → List ℕ
head_body h = h.l ∷ h.m ∷ h.n1 ∷ h.n2 ∷ h.n3 ∷ h.g1 ∷ h.g2 ∷ h.g3 ∷ []

-- ---- kind 2: "a zero is not written"
abbrev pub exponent_bytes : Index → List ℕ
exponent_bytes j = j.x₁ ∷ j.x₂ ∷ j.x₃ ∷ []

abbrev pub term_bytes : Layout → ℕ → ℤ → List ℕ
term_bytes L p x = cond (is_zero x) [] (exponent_bytes (L.index p) ++ bytes32 x)

-- the terms of the coefficients from place p on
unfoldable pub terms_bytes : Layout → ℕ → List ℤ → List ℕ
terms_bytes L p [] = []
terms_bytes L p (x ∷ xs) = term_bytes L p x ++ terms_bytes L (p + 1) xs

-- the polynomial with the number k
abbrev pub polynomial_bytes : Layout → ℕ → List ℤ → List ℕ
polynomial_bytes L k xs = record_bytes 2 (k ∷ terms_bytes L 0 xs)

-- j polynomials, the first of which has the number k
unfoldable pub polynomials_bytes : Layout → ℕ → ℕ → List ℤ → List ℕ
polynomials_bytes L zero k xs = []
polynomials_bytes L (suc j) k xs = polynomial_bytes L k (take L.size xs) ++ polynomials_bytes L j (k + 1) (drop L.size xs)

-- ---- the whole file
unfoldable pub file_bytes : Head → List ℤ → List ℕ
file_bytes h xs = record_bytes 1 (head_body h) ++ (polynomials_bytes (layout h) h.m 1 xs ++ record_bytes 3 [])

unfoldable pub all_in_range : List ℤ → Bool
all_in_range [] = true
all_in_range (x ∷ xs) = in_range x && all_in_range xs

-- n coefficients that may be written: of few places, and each in the range
pub record Ready (L : Layout) (n : ℕ) (xs : List ℤ) : Type 0 where
  pub long : length xs ≡ n
  pub few : L.size ≤ 64
  pub ranged : all_in_range xs ≡ true

-- ---- into lent bytes: "Start and write: 4, 9 for short coefficients, 6, 9 for a short target"
unfoldable pub writable : Head → List ℤ → ℕ → Result ⊤ Refused
writable h xs room =
    test (head_ok h) Refusal.OutOfLimits 0
    then test (leb (places h) (length xs)) Refusal.TooShort 0
    then test (all_in_range (take (places h) xs)) Refusal.BadCoefficient 0
    then test (leb (length (file_bytes h xs)) room) Refusal.TooShort 0

-- a refusal changes nothing, and nothing beyond the file's bytes is changed
abbrev pub written : Result ⊤ Refused → Head → List ℤ → List ℕ → Result ℕ Refused × List ℕ
written (Ok u) h xs t = (Ok (length (file_bytes h xs)), file_bytes h xs ++ drop (length (file_bytes h xs)) t)
written (Err x) h xs t = (Err x, t)

-- the answer, and the lent bytes afterwards
unfoldable pub writes : Head → List ℤ → List ℕ → Result ℕ Refused × List ℕ
writes h xs t = written (writable h xs (length t)) h xs t
