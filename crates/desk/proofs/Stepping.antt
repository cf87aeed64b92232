-- A run of puts, byte by byte and number by number: what is put next, and that it fits. Assumes nothing.
use mathlib.Core.Path.{refl, subst}
use mathlib.Core.List.{List, [], ◌∷◌, ◌++◌, map}
use Prim.Native.Nat.{ℕ, ◌+◌, ◌≤◌, ◌<◌}
use native.Mathlib.Omega.{arith}
use native.Mathlib.Numerals.{add-one}
use lib.ListN.{length, drop, get_or, set, drop_of_length-le}
use lib.Seq.{drop-cons}
use Rattle.file.proofs.Putting.{Putting, putting_fits, putting_turn, put1}
use Rattle.desk.specs.Text.{decimal, ended}

-- ---- one byte
module _ (t0 : List ℕ) (at : ℕ) (W : List ℕ) (fit : at + length W ≤ length t0) (o : ℕ) (t : List ℕ) (b : ℕ) (rest : List ℕ) (i : Putting t0 at W o t (b ∷ rest)) where
  pub byte_fits : o < length t
  byte_fits = omega (arith, putting_fits t0 at W fit o t (b ∷ []) rest i)

  pub byte_turn : Putting t0 at W (o + 1) (set t o b) rest
  byte_turn = putting_turn t0 at W fit o t (b ∷ []) rest i (o + 1) (set t o b) refl (put1 t o b (omega (arith, byte_fits)))

-- ---- what is left of a word, and of the numbers of a line, from i on
module _ (t0 : List ℕ) (at : ℕ) (W : List ℕ) (o : ℕ) (t : List ℕ) (xs : List ℕ) (i : ℕ) where
  pub next_byte : i < length xs → Putting t0 at W o t (drop i xs) → Putting t0 at W o t (get_or xs i 0 ∷ drop (i + 1) xs)
  next_byte h p = rw add-one (subst (Putting t0 at W o t) (drop-cons xs i 0 h) p)

  pub no_byte : length xs ≤ i → Putting t0 at W o t (drop i xs) → Putting t0 at W o t []
  no_byte h p = subst (Putting t0 at W o t) (drop_of_length-le xs h) p

  pub next_number : i < length xs → Putting t0 at W o t (ended (map decimal (drop i xs))) → Putting t0 at W o t
      (32 ∷ (decimal (get_or xs i 0) ++ ended (map decimal (drop (i + 1) xs))))
  unfolding ended
  next_number h p = rw add-one (subst (λ (ys : List ℕ). Putting t0 at W o t (ended (map decimal ys))) (drop-cons xs i 0 h) p)

  pub no_number : length xs ≤ i → Putting t0 at W o t (ended (map decimal (drop i xs))) → Putting t0 at W o t (10 ∷ [])
  unfolding ended
  no_number h p = subst (λ (ys : List ℕ). Putting t0 at W o t (ended (map decimal ys))) (drop_of_length-le xs h) p
