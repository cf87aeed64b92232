-- Coefficients: how many are not zero, whether all are in range; and lists of them, split and joined. Assumes nothing.
use mathlib.Core.Path.{◌≡◌, refl, ap}
use mathlib.Core.Bool.{Bool, true, false, cond, not}
use mathlib.Core.List.{List, [], ◌∷◌, ◌++◌}
use Prim.Native.Nat.{ℕ, suc, ◌+◌, ◌*◌, ◌≤◌, ◌<◌}
use native.Mathlib.Omega.{arith}
use native.Mathlib.Numerals.{add-one}
use lib.IntN.{ℤ, pos}
use lib.ListN.{length, get_or, take, drop, drop_of_length-le, take-append-drop}
use lib.Seq.{drop-cons}
use Rattle.std.specs.List.{filter}
use Rattle.file.specs.Layout.{Layout}
use Rattle.file.specs.Terms.{in_range, is_zero}
use Rattle.file.proofs.Tests.{both, and_intro}
use Rattle.writing.specs.Counts.{unless, count}
use Rattle.writing.specs.Writing.{terms_bytes, all_in_range}

-- ---- how many are not zero
pub unless_le : (b : Bool) (r k : ℕ) → r ≤ k → unless b r ≤ k + 1
unless_le true r k h = omega arith
unless_le false r k h = omega arith

-- what a filter leaves
pub count_filter : (xs : List ℤ) → length (filter (λ x. not (is_zero x)) xs) ≡ count xs
unfolding count
count_filter [] = refl
count_filter (x ∷ xs) = go (is_zero x) (count_filter xs)
  where
    go : (b : Bool) → length (filter (λ x. not (is_zero x)) xs) ≡ count xs
        → length (cond (not b) (x ∷ filter (λ x. not (is_zero x)) xs) (filter (λ x. not (is_zero x)) xs)) ≡ unless b (count xs)
    go true e = e
    go false e = ap suc e

pub count_le : (xs : List ℤ) → count xs ≤ length xs
unfolding count
count_le [] = omega arith
count_le (x ∷ xs) = let h : unless (is_zero x) (count xs) ≤ length xs + 1 = unless_le (is_zero x) (count xs) (length xs) (count_le xs) in omega arith

pub count_append : (xs ys : List ℤ) → count (xs ++ ys) ≡ count xs + count ys
unfolding count
count_append [] ys = omega arith
count_append (x ∷ xs) ys = go (is_zero x) (count_append xs ys)
  where
    go : (b : Bool) → count (xs ++ ys) ≡ count xs + count ys → unless b (count (xs ++ ys)) ≡ unless b (count xs) + count ys
    go true e = e
    go false e = omega arith

-- one after the other: those before place i are counted in n, and those from there on are still to be counted
module _ (xs : List ℤ) (i : ℕ) where
  count_place : i < length xs → count (drop i xs) ≡ unless (is_zero (get_or xs i (pos 0))) (count (drop (i + 1) xs))
  unfolding count
  count_place h = rw (drop-cons xs i (pos 0) h, add-one i) refl

  pub next_counted : (n : ℕ) → i < length xs → n + count (drop i xs) ≡ count xs
      → unless (is_zero (get_or xs i (pos 0))) n + count (drop (i + 1) xs) ≡ count xs
  next_counted n h e = go (is_zero (get_or xs i (pos 0))) (rw (count_place h) at e)
    where
      go : (b : Bool) → n + unless b (count (drop (i + 1) xs)) ≡ count xs → unless b n + count (drop (i + 1) xs) ≡ count xs
      go true e = e
      go false e = omega arith

  pub all_counted : (n : ℕ) → length xs ≤ i → n + count (drop i xs) ≡ count xs → n ≡ count xs
  unfolding count
  all_counted n h e = let d : n + count [] ≡ count xs = rw (drop_of_length-le xs h) at e in omega arith

-- each takes seven bytes
term_length : (b : Bool) (n : ℕ) (a0 a1 a2 a3 a4 a5 a6 : ℕ) (tail : List ℕ) → length tail ≡ 7 * n
    → length (cond b [] (a0 ∷ a1 ∷ a2 ∷ a3 ∷ a4 ∷ a5 ∷ a6 ∷ []) ++ tail) ≡ 7 * unless b n
term_length true n a0 a1 a2 a3 a4 a5 a6 tail e = e
term_length false n a0 a1 a2 a3 a4 a5 a6 tail e = omega arith

pub terms_length : (L : Layout) (p : ℕ) (xs : List ℤ) → length (terms_bytes L p xs) ≡ 7 * count xs
unfolding terms_bytes count
terms_length L p [] = refl
terms_length L p (x ∷ xs) =
    term_length (is_zero x) (count xs) (L.index p).x₁ (L.index p).x₂ (L.index p).x₃ _ _ _ _ (terms_bytes L (p + 1) xs) (terms_length L (p + 1) xs)

-- ---- whether all are in range
pub all_parts : (xs ys : List ℤ) → all_in_range (xs ++ ys) ≡ true → (all_in_range xs ≡ true) × (all_in_range ys ≡ true)
unfolding all_in_range
all_parts [] ys e = (refl, e)
all_parts (x ∷ xs) ys e = let p = both (in_range x) (all_in_range (xs ++ ys)) e in let q = all_parts xs ys p.1 in (and_intro p.0 q.0, q.1)

pub all_join : (xs ys : List ℤ) → all_in_range xs ≡ true → all_in_range ys ≡ true → all_in_range (xs ++ ys) ≡ true
unfolding all_in_range
all_join [] ys p q = q
all_join (x ∷ xs) ys p q = let a = both (in_range x) (all_in_range xs) p in and_intro a.0 (all_join xs ys a.1 q)

pub all_split : (n : ℕ) (xs : List ℤ) → all_in_range xs ≡ true → (all_in_range (take n xs) ≡ true) × (all_in_range (drop n xs) ≡ true)
all_split n xs e = all_parts (take n xs) (drop n xs) (rw (take-append-drop n xs) e)
