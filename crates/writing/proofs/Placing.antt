-- The terms of a polynomial, put one place after the other. Assumes nothing.
use mathlib.Core.Path.{◌≡◌, refl, sym}
use mathlib.Core.Bool.{true}
use mathlib.Core.List.{List, [], ◌++◌}
use Prim.Native.Nat.{ℕ, ◌+◌, ◌≤◌, ◌<◌}
use native.Mathlib.Omega.{arith}
use borrow.Author.Tests.{leb-true}
use lib.IntN.{ℤ, pos, nat_abs}
use lib.ListN.{length, get_or, drop, drop_of_length-le}
use lib.Seq.{drop-cons}
use native.Mathlib.Numerals.{add-one}
use Rattle.std.proofs.lemmas.List.Recursion.{and_at}
use Rattle.whole.specs.Size.{Below}
use Rattle.file.specs.Bytes.{over}
use Rattle.file.proofs.Putting.{Putting, over_none}
use Rattle.file.specs.Layout.{Layout}
use Rattle.file.specs.Terms.{in_range, is_zero}
use Rattle.writing.specs.Writing.{term_bytes, terms_bytes, all_in_range}

pub range_below : (x : ℤ) → in_range x ≡ true → Below 2147483648 x
range_below x e = let h = leb-true (nat_abs x) 1000000000 e in record { below = omega arith }

-- ---- one term
module _ (L : Layout) (p : ℕ) (x : ℤ) (t : List ℕ) (at : ℕ) (fit : at + length (term_bytes L p x) ≤ length t) where
  pub none_put : is_zero x ≡ true → (at ≡ at + length (term_bytes L p x)) × (t ≡ over t at (term_bytes L p x))
  none_put e = let g : at + 0 ≤ length t = rw e at fit in rw e (omega arith, sym (over_none t at (omega arith)))

-- ---- the run over the places: what is left to put at place p is that of the coefficients from there on
module _ (L : Layout) (xs : List ℤ) (p : ℕ) (h : p < length xs) where
  next_bytes : terms_bytes L p (drop p xs) ≡ term_bytes L p (get_or xs p (pos 0)) ++ terms_bytes L (p + 1) (drop (p + 1) xs)
  unfolding terms_bytes
  next_bytes = rw (drop-cons xs p (pos 0) h, add-one p) refl

  -- the term of place p is the next of those that are left
  pub term_next : {t0 W t : List ℕ} {at o : ℕ} → Putting t0 at W o t (terms_bytes L p (drop p xs))
      → Putting t0 at W o t (term_bytes L p (get_or xs p (pos 0)) ++ terms_bytes L (p + 1) (drop (p + 1) xs))
  term_next i = rw next_bytes at i

  pub range_next : all_in_range xs ≡ true → in_range (get_or xs p (pos 0)) ≡ true
  unfolding all_in_range
  range_next e = and_at all_in_range in_range refl (λ _ _. refl) xs p (pos 0) h e

pub terms_none : (L : Layout) (xs : List ℤ) (p : ℕ) → length xs ≤ p → terms_bytes L p (drop p xs) ≡ []
unfolding terms_bytes
terms_none L xs p h = rw (drop_of_length-le xs h) refl
