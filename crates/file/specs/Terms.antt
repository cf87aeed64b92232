-- The terms of a polynomial (01, "The system file", kind 2): 7 bytes each, i1, i2, i3 and the coefficient; and the coefficients that they say, place by
-- place. Of a head they know its layout. Definitions only.
use Rattle.std.specs.Prelude.{ℕ, zero, suc, ◌+◌, ◌-◌, Bool, cond, ◌&&◌, not, List, [], ◌∷◌, leb, ltb, eqb, ℤ, pos, nat_abs, drop, Result, Ok, ⊤}
use Rattle.bernstein.specs.Three.{three}
use Rattle.bernstein.specs.Numbers.{Index}
use Rattle.file.specs.Bytes.{byte, word32, signed32}
use Rattle.system.specs.declared.refusal.Refusal.{Refusal}
use Rattle.system.specs.declared.refusal.Refused.{Refused}
use Rattle.system.specs.Chain.{test, ◌then◌}
use Rattle.file.specs.Layout.{Layout}

abbrev pub exponents : List ℕ → Index
exponents r = three (byte r 0) (byte r 1) (byte r 2)

abbrev pub place_of : Layout → List ℕ → ℕ
place_of L r = L.place (exponents r)

abbrev pub value_of : List ℕ → ℤ
value_of r = signed32 (word32 r 3)

-- "-1,000,000,000 to 1,000,000,000"
abbrev pub in_range : ℤ → Bool
in_range x = leb (nat_abs x) 1000000000

abbrev pub is_zero : ℤ → Bool
is_zero x = eqb (nat_abs x) 0

-- "per term 5, 6, 7": exponents, coefficient, place at least `next`
unfoldable pub term : Layout → ℕ → ℕ → List ℕ → Result ⊤ Refused
term L o next r =
    test (L.within (exponents r)) Refusal.ExponentTooHigh o
    then test (in_range (value_of r) && not (is_zero (value_of r))) Refusal.BadCoefficient o
    then test (leb next (place_of L r)) Refusal.NotRising o

-- t terms; next is one above the place of the term before
unfoldable pub terms : Layout → ℕ → ℕ → ℕ → List ℕ → Result ⊤ Refused
terms L zero o next r = Ok tt
terms L (suc t) o next r = term L o next r then terms L t (o + 7) (place_of L r + 1) (drop 7 r)

-- ---- the coefficients
-- whether the next of t terms is that of place p
abbrev pub here : Layout → ℕ → ℕ → List ℕ → Bool
here L t p r = ltb 0 t && eqb (place_of L r) p

-- of the n places from p on, from t terms: "A place without a term is 0"
unfoldable pub coefficients : Layout → ℕ → ℕ → ℕ → List ℕ → List ℤ
coefficients L zero t p r = []
coefficients L (suc n) t p r =
    cond (here L t p r) (value_of r) (pos 0)
    ∷ coefficients L n (cond (here L t p r) (t - 1) t) (p + 1) (drop (cond (here L t p r) 7 0) r)
