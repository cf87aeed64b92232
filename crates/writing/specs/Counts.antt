-- How many coefficients are not zero: what the writer counts before it writes. Definitions only.
use Rattle.std.specs.Prelude.{ℕ, suc, Bool, cond, List, [], ◌∷◌, ℤ}
use Rattle.file.specs.Terms.{is_zero}

-- one more, unless
abbrev pub unless : Bool → ℕ → ℕ
unless b n = cond b n (suc n)

unfoldable pub count : List ℤ → ℕ
count [] = 0
count (x ∷ xs) = unless (is_zero x) (count xs)
