-- What both kinds of lists keep (`Listing`), with its proof, as the code's trait cites it: records in a list, and seven numbers to a record. Assumes nothing.
use Prim.Native.Nat.{ℕ, zero, suc, ◌+◌, ◌*◌, ◌/◌, ◌≤◌}
use mathlib.Core.Path.{◌≡◌, refl, sym, ◌∙◌, ap}
use mathlib.Core.List.{List, [], ◌∷◌, ◌++◌}
use native.Mathlib.Omega.{arith}
use lib.ListN.{length, drop, length-append, length-drop}
use lib.Seq.{drop-cons, drop-drop, drop_at}
use Rattle.waiting.specs.declared.cursor.Kept.{Kept}
use Rattle.runs.specs.Lists.{seven, first, taken, listed, numbers, relisted, Listing}

length_taken : (n : ℕ) (xs : List ℕ) → length (taken n xs) ≡ n
unfolding taken
length_taken zero xs = refl
length_taken (suc n) xs = ap suc (length_taken n (drop 7 xs))

pub length_listed : (xs : List ℕ) → length (listed xs) ≡ length xs / 7
length_listed xs = length_taken (length xs / 7) xs

length_numbers : (ks : List Kept) → length (numbers ks) ≡ 7 * length ks
unfolding numbers
length_numbers [] = refl
length_numbers (k ∷ ks) = omega (arith, length_numbers ks)

-- ---- nothing is changed where the records stay
whole : (xs : List ℕ) → 7 ≤ length xs → seven (first xs) ++ drop 7 xs ≡ xs
whole xs p =
    rw (
      ← drop-cons xs 6 0 (omega arith),
      ← drop-cons xs 5 0 (omega arith),
      ← drop-cons xs 4 0 (omega arith),
      ← drop-cons xs 3 0 (omega arith),
      ← drop-cons xs 2 0 (omega arith),
      ← drop-cons xs 1 0 (omega arith),
      ← drop-cons xs 0 0 (omega arith),
    ) refl

taken_back : (n : ℕ) (xs : List ℕ) → 7 * n ≤ length xs → numbers (taken n xs) ++ drop (7 * n) xs ≡ xs
unfolding numbers taken
taken_back zero xs p = refl
taken_back (suc n) xs p =
    let at : 7 * suc n ≡ 7 + 7 * n = omega arith in
    let e : drop (7 * suc n) xs ≡ drop (7 * n) (drop 7 xs) = ap (λ (i : ℕ). drop i xs) at ∙ sym (drop-drop (7 * n) 7 xs) in
    ap (λ (ys : List ℕ). seven (first xs) ++ (numbers (taken n (drop 7 xs)) ++ ys)) e
    ∙ ap (λ (ys : List ℕ). seven (first xs) ++ ys) (taken_back n (drop 7 xs) (omega (arith, length-drop 7 xs))) ∙ whole xs (omega arith)

pub same_listed : (xs : List ℕ) → relisted xs (listed xs) ≡ xs
same_listed xs =
    ap (λ (n : ℕ). numbers (listed xs) ++ drop (7 * n) xs) (length_listed xs) ∙ taken_back (length xs / 7) xs (omega arith)

-- ---- the records are those that were put there
taken_numbers : (ks : List Kept) (ys : List ℕ) → taken (length ks) (numbers ks ++ ys) ≡ ks
unfolding numbers taken
taken_numbers [] ys = refl
taken_numbers (k ∷ ks) ys = ap (λ (js : List Kept). k ∷ js) (taken_numbers ks ys)

module _ (xs : List ℕ) (ks : List Kept) (e : length ks ≡ length (listed xs)) where
  pub length_relisted : length (relisted xs ks) ≡ length xs
  length_relisted =
      length-append (numbers ks) (drop (7 * length ks) xs) ∙ omega (arith, length_numbers ks, length-drop (7 * length ks) xs, e, length_listed xs)

  pub relisted_again : (js : List Kept) → length js ≡ length ks → relisted (relisted xs ks) js ≡ relisted xs js
  relisted_again js f =
      ap (λ (ys : List ℕ). numbers js ++ ys)
      (drop_at (numbers ks) (drop (7 * length ks) xs) (7 * length js) (omega (arith, length_numbers ks)) ∙ ap (λ (n : ℕ). drop (7 * n) xs) (sym f))

numbers_back : (xs : List ℕ) (ks : List Kept) → length ks ≡ length (listed xs) → listed (relisted xs ks) ≡ ks
numbers_back xs ks e =
    ap (λ (n : ℕ). taken n (relisted xs ks)) (omega (arith, length_relisted xs ks e, e, length_listed xs)) ∙ taken_numbers ks (drop (7 * length ks) xs)

-- ---- both kinds of lists
pub struct_laws : Listing (λ (ks : List Kept). ks) (λ (xs ks : List Kept). ks)
struct_laws = record { unchanged = λ xs. refl; read_back = λ xs ks e. refl; last_counts = λ xs ks js e f. refl }

pub number_laws : Listing listed relisted
number_laws = record { unchanged = same_listed; read_back = numbers_back; last_counts = λ xs ks js e f. relisted_again xs ks e js f }
