-- Reading a system file (01, "The system file", "Refusal numbers"): from bytes to a head and coefficients, or to the first refusal in 01's order;
-- and the lent places afterwards. Definitions only.
use Rattle.std.specs.Prelude.{ℕ, zero, suc, ◌+◌, ◌-◌, ◌/◌, List, [], ◌++◌, leb, eqb, ℤ, length, drop, Result, Ok, Err, ⊤}
use Rattle.file.specs.Bytes.{byte}
use Rattle.system.specs.Heads.{places, head_ok}
use Rattle.system.specs.declared.refusal.Refusal.{Refusal}
use Rattle.system.specs.declared.head.Head.{Head}
use Rattle.system.specs.declared.refusal.Refused.{Refused}
use Rattle.system.specs.Chain.{test, ◌then◌}
use Rattle.file.specs.Layout.{Layout, layout}
use Rattle.file.specs.Records.{length_of, due}
use Rattle.file.specs.Terms.{terms, coefficients}
use Rattle.file.specs.declared.parser.Shape.{Shape}

-- ---- the bodies' lengths: 8 bytes; a number and up to S terms; none
abbrev pub head_shape : Shape
head_shape = record { base = 8; unit = 1; most = 0 }

abbrev pub polynomial_shape : ℕ → Shape
polynomial_shape s = record { base = 1; unit = 7; most = s }

abbrev pub end_shape : Shape
end_shape = record { base = 0; unit = 1; most = 0 }

-- ---- kind 2: the polynomial with the number k
abbrev pub term_count : List ℕ → ℕ
term_count r = (length_of r - 1) / 7

unfoldable pub polynomial : Layout → ℕ → ℕ → List ℕ → Result ⊤ Refused
polynomial L k o r =
    due 2 (polynomial_shape L.size) o r
    then test (eqb (byte r 4) k) Refusal.NotDue o
    then terms L (term_count r) (o + 5) 0 (drop 5 r)

-- ---- kind 3, "last, empty", and nothing after it
unfoldable pub ending : ℕ → List ℕ → Result ⊤ Refused
ending o r = due 3 end_shape o r then test (leb (length r) 4) Refusal.ExtraBytes (o + 4)

-- ---- j polynomials, the first of which has the number k; then the end
unfoldable pub polynomials : Layout → ℕ → ℕ → ℕ → List ℕ → Result ⊤ Refused
polynomials L zero k o r = ending o r
polynomials L (suc j) k o r = polynomial L k o r then polynomials L j (k + 1) (o + (4 + length_of r)) (drop (4 + length_of r) r)

unfoldable pub numbers_of : Layout → ℕ → List ℕ → List ℤ
numbers_of L zero r = []
numbers_of L (suc j) r = coefficients L L.size (term_count r) 0 (drop 5 r) ++ numbers_of L j (drop (4 + length_of r) r)

-- ---- kind 1, first
abbrev pub head_of : List ℕ → Head
head_of s = record { l = byte s 4; m = byte s 5; n1 = byte s 6; n2 = byte s 7; n3 = byte s 8; g1 = byte s 9; g2 = byte s 10; g3 = byte s 11 }

-- ---- the whole file
unfoldable pub checked : List ℕ → Result ⊤ Refused
checked s =
    due 1 head_shape 0 s
    then test (head_ok (head_of s)) Refusal.OutOfLimits 0
    then polynomials (layout (head_of s)) (head_of s).m 1 12 (drop 12 s)

-- the m × S coefficients of a file that is in order
abbrev pub numbers : List ℕ → List ℤ
numbers s = numbers_of (layout (head_of s)) (head_of s).m (drop 12 s)

-- ---- into lent places: "Then 8, then 9"; a refusal changes nothing, and nothing beyond the m × S places is changed
abbrev pub filled : Result ⊤ Refused → List ℕ → List ℤ → Result Head Refused × List ℤ
filled (Ok u) s out = (Ok (head_of s), numbers s ++ drop (places (head_of s)) out)
filled (Err x) s out = (Err x, out)

-- the answer, and the lent places afterwards
unfoldable pub reads : List ℕ → List ℤ → Result Head Refused × List ℤ
reads s out = filled (checked s then test (leb (places (head_of s)) (length out)) Refusal.TooShort 0) s out
