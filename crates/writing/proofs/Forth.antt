-- Terms as they are written: they are in order, and say the coefficients that were written. For every lawful layout. Assumes nothing.
use Rattle.std.specs.Prelude.{Ok}
use mathlib.Core.Path.{◌≡◌, refl, sym, ap, ◌∙◌}
use mathlib.Core.Bool.{Bool, true, false, cond}
use mathlib.Core.List.{List, [], ◌∷◌, ◌++◌}
use Prim.Native.Nat.{ℕ, suc, ◌+◌, ◌-◌, ◌≤◌, ◌<◌}
use native.Mathlib.Omega.{arith}
use borrow.Author.Tests.{eqb-true}
use lib.IntN.{ℤ, pos, negsuc}
use lib.ListN.{length}
use Rattle.file.specs.Bytes.{bytes32}
use Rattle.file.proofs.Words.{value_back}
use Rattle.file.specs.Layout.{Layout}
use Rattle.file.specs.Terms.{in_range, is_zero, terms, coefficients}
use Rattle.file.proofs.Tests.{both}
use Rattle.file.proofs.Layouts.{Lawful}
use Rattle.file.proofs.InOrder.{InOrder, good_terms, not_here, is_here}
use Rattle.writing.specs.Counts.{unless, count}
use Rattle.writing.specs.Writing.{exponent_bytes, terms_bytes, all_in_range}
use Rattle.writing.proofs.Placing.{range_below}

zero_is : (x : ℤ) → is_zero x ≡ true → pos 0 ≡ x
zero_is (pos n) e = ap pos (sym (eqb-true n 0 e))
zero_is (negsuc n) e = let z : suc n ≡ 0 = eqb-true (suc n) 0 e in absurd (let w : ⊥ = omega arith in w)

module _ (L : Layout) (law : Lawful L) where
  -- the seven bytes of one term, before others
  abbrev seven : ℕ → ℤ → List ℕ
  seven p x = exponent_bytes (L.index p) ++ bytes32 x

  written_term : (p next : ℕ) (x : ℤ) (tail : List ℕ) → p < L.size → next ≤ p → in_range x ≡ true → is_zero x ≡ false → InOrder L next (seven p x ++ tail)
  written_term p next x tail h n g z =
      record {
        inside = law.within_at p h;
        ranged = ap in_range (value_back x (range_below x g)) ∙ g;
        nonzero = ap is_zero (value_back x (range_below x g)) ∙ z;
        rising = omega (arith, law.place_at p);
      }

  pub terms_written : (xs : List ℤ) (p o next : ℕ) (tail : List ℕ) → next ≤ p → p + length xs ≤ L.size → all_in_range xs ≡ true
      → terms L (count xs) o next (terms_bytes L p xs ++ tail) ≡ Ok tt
  unfolding terms terms_bytes count all_in_range
  terms_written [] p o next tail a b e = refl
  terms_written (x ∷ xs) p o next tail a b e =
      go (is_zero x) refl (terms_written xs (p + 1) o next tail (omega arith) (omega arith) (both (in_range x) (all_in_range xs) e).1)
      (terms_written xs (p + 1) (o + 7) (p + 1) tail (omega arith) (omega arith) (both (in_range x) (all_in_range xs) e).1)
    where
      go : (z : Bool) → is_zero x ≡ z → terms L (count xs) o next (terms_bytes L (p + 1) xs ++ tail) ≡ Ok tt → terms L (count xs) (o + 7) (p + 1) (terms_bytes L (p + 1) xs ++ tail) ≡ Ok tt
          → terms L (unless z (count xs)) o next (cond z [] (seven p x) ++ terms_bytes L (p + 1) xs ++ tail) ≡ Ok tt
      go true q i k = i
      go false q i k =
          good_terms L (count xs) o next _ (written_term p next x (terms_bytes L (p + 1) xs ++ tail) (omega arith) a (both (in_range x) (all_in_range xs) e).0 q)
          (rw (law.place_at p) k)

  pub coefficients_written : (xs : List ℤ) (p : ℕ) (tail : List ℕ) → p + length xs ≤ L.size → all_in_range xs ≡ true
      → coefficients L (length xs) (count xs) p (terms_bytes L p xs ++ tail) ≡ xs
  unfolding coefficients terms_bytes count all_in_range
  coefficients_written [] p tail b e = refl
  coefficients_written (x ∷ xs) p tail b e =
      go (is_zero x) refl (coefficients_written xs (p + 1) tail (omega arith) (both (in_range x) (all_in_range xs) e).1)
    where
      go : (z : Bool) → is_zero x ≡ z → coefficients L (length xs) (count xs) (p + 1) (terms_bytes L (p + 1) xs ++ tail) ≡ xs
          → coefficients L (suc (length xs)) (unless z (count xs)) p (cond z [] (seven p x) ++ terms_bytes L (p + 1) xs ++ tail) ≡ x ∷ xs
      go true q i =
          rw (not_here L (count xs) 0 p (terms_bytes L (p + 1) xs ++ tail) (terms_written xs (p + 1) 0 (p + 1) tail (omega arith) (omega arith) (both (in_range x) (all_in_range xs) e).1))
          (rw (zero_is x q, i) refl)
      go false q i =
          let n : suc (count xs) - 1 ≡ count xs = omega arith in
          rw (is_here L (count xs) p (seven p x ++ (terms_bytes L (p + 1) xs ++ tail)) (law.place_at p))
          (rw (value_back x (range_below x (both (in_range x) (all_in_range xs) e).0), n, i) refl)
