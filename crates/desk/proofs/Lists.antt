-- The records of a list of numbers, one after the other. Assumes nothing.
use Prim.Native.Nat.{ℕ, zero, suc, ◌+◌, ◌/◌, ◌<◌, min}
use mathlib.Core.Path.{◌≡◌, refl, ap, ◌∙◌}
use mathlib.Core.List.{List, [], ◌∷◌, ◌++◌}
use native.Mathlib.Omega.{arith}
use lib.ListN.{length, take, drop, get_or, length-append, get_or-append}
use lib.Seq.{drop_at, get_or-drop}
use Rattle.waiting.specs.declared.cursor.Kept.{Kept}
use Rattle.runs.specs.Lists.{first, taken, listed}

-- the record at the front
first_front : (xs ys : List ℕ) → length xs ≡ 7 → first (xs ++ ys) ≡ first xs
first_front xs ys h =
    let g = get_or-append xs ys 0 in
    rw (g 0 (omega arith), g 1 (omega arith), g 2 (omega arith), g 3 (omega arith), g 4 (omega arith), g 5 (omega arith), g 6 (omega arith)) refl

pub listed_next : (xs ys : List ℕ) → length xs ≡ 7 → listed (xs ++ ys) ≡ first xs ∷ listed ys
unfolding taken
listed_next xs ys h =
    let n : length (xs ++ ys) / 7 ≡ suc (length ys / 7) = omega (arith, length-append xs ys) in
    rw (n, first_front xs ys h, drop_at xs ys 7 h) refl

pub listed_none : (xs : List ℕ) → length xs < 7 → listed xs ≡ []
unfolding taken
listed_none xs h = let n : length xs / 7 ≡ 0 = omega arith in rw n refl

-- a list has no more records than it has
pub taken_least : (k n : ℕ) (xs : List ℕ) → taken (min k n) xs ≡ take k (taken n xs)
unfolding taken
taken_least zero n xs = let e : min 0 n ≡ 0 = omega arith in rw e refl
taken_least (suc k) zero xs = let e : min (suc k) 0 ≡ 0 = omega arith in rw e refl
taken_least (suc k) (suc n) xs =
    let e : min (suc k) (suc n) ≡ suc (min k n) = omega arith in
    let r : taken (suc (min k n)) xs ≡ take (suc k) (taken (suc n) xs) = ap (λ (ks : List Kept). first xs ∷ ks) (taken_least k n (drop 7 xs)) in
    rw e r

-- the number at the head of what is left
pub first_number : (n : ℕ) (xs : List ℕ) → get_or (drop n xs) 0 0 ≡ get_or xs n 0
first_number n xs = let e : n + 0 ≡ n = omega arith in get_or-drop n xs 0 0 ∙ ap (λ (k : ℕ). get_or xs k 0) e
