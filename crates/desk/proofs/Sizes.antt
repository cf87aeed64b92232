-- How long the lines are: a number of the list has at most 5 digits, any other at most 20. Assumes nothing.
use Prim.Native.Nat.{ℕ, zero, suc, ◌+◌, ◌*◌, ◌^◌, ◌≤◌, ◌<◌, min}
use mathlib.Core.Path.{◌≡◌}
use mathlib.Core.List.{List, [], ◌∷◌, ◌++◌, map}
use native.Mathlib.Omega.{arith}
use lib.ListN.{length, drop, take, get_or, length-append}
use lib.Seq.{get_or-drop}
use Rattle.boxes.specs.declared.visit.Word.{Word}
use Rattle.boxes.specs.declared.visit.Word.TheVariants.{Finished, Spent, Full}
use Rattle.runs.specs.Lists.{seven, first, taken}
use Rattle.desk.specs.Text.{decimal, ended, line}
use Rattle.desk.proofs.Decimals.{as_few}
use Rattle.desk.specs.Lines.{word, at, refused_line, kept_line, kept_lines}

-- numbers of at most k + 1 digits each
ended_short : (k : ℕ) (ns : List ℕ) → ((i : ℕ) → get_or ns i 0 < 10 ^ suc k) → length (ended (map decimal ns)) ≤ (2 + k) * length ns + 1
unfolding ended
ended_short k [] small = omega arith
ended_short k (n ∷ ns) small =
    omega (arith, length-append (decimal n) (ended (map decimal ns)), as_few k n (small 0), ended_short k ns (λ i. small (suc i)))

word_short : (w : Word) → length (word w) ≤ 8
word_short Finished = omega arith
word_short Spent = omega arith
word_short Full = omega arith

-- ---- numbers of 64 bits
abbrev Long : ℕ → Type 0
Long n = n < 18446744073709551616

pub stop_short : (w : Word) (ns : List ℕ) → length ns ≡ 4 → ((i : ℕ) → Long (get_or ns i 0)) → length (line (word w ∷ map decimal ns)) ≤ 93
unfolding line
stop_short w ns four long =
    omega (arith, word_short w, length-append (word w) (ended (map decimal ns)), ended_short 19 ns (λ i. omega (arith, long i)))

pub refused_short : (n o : ℕ) → Long n → Long o → length (refused_line n o) ≤ 93
unfolding line ended
refused_short n o hn ho =
    omega (
      arith,
      length-append (decimal n) (32 ∷ (at ++ (32 ∷ (decimal o ++ (10 ∷ []))))),
      length-append (decimal o) (10 ∷ []),
      as_few 19 n (omega arith),
      as_few 19 o (omega arith),
    )

-- ---- numbers of the list
abbrev Short : ℕ → Type 0
Short n = n < 65536

kept_short : (xs : List ℕ) → ((i : ℕ) → Short (get_or xs i 0)) → length (kept_line (first xs)) ≤ 42
unfolding line
kept_short xs small =
    omega (
      arith,
      length-append (decimal (get_or xs 0 0)) (ended (map decimal (drop 1 (seven (first xs))))),
      as_few 4 (get_or xs 0 0) (omega (arith, small 0)),
      ended_short 4 (drop 1 (seven (first xs))) others,
    )
  where
    others : (i : ℕ) → get_or (drop 1 (seven (first xs))) i 0 < 10 ^ 5
    others zero = omega (arith, small 1)
    others (suc zero) = omega (arith, small 2)
    others (suc (suc zero)) = omega (arith, small 3)
    others (suc (suc (suc zero))) = omega (arith, small 4)
    others (suc (suc (suc (suc zero)))) = omega (arith, small 5)
    others (suc (suc (suc (suc (suc zero))))) = omega (arith, small 6)
    others (suc (suc (suc (suc (suc (suc i)))))) = omega arith

pub lines_short : (k n : ℕ) (xs : List ℕ) → ((i : ℕ) → Short (get_or xs i 0)) → length (kept_lines (take k (taken n xs))) ≤ 42 * min k n
unfolding kept_lines taken
lines_short zero n xs small = omega arith
lines_short (suc k) zero xs small = omega arith
lines_short (suc k) (suc n) xs small =
    omega (
      arith,
      length-append (kept_line (first xs)) (kept_lines (take k (taken n (drop 7 xs)))),
      kept_short xs small,
      lines_short k n (drop 7 xs) (λ i. rw (get_or-drop 7 xs i 0) (small (7 + i))),
    )
