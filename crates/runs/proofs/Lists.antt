-- A list of numbers and the records in it, seven numbers to a record. Assumes nothing.
use Prim.Native.Nat.{ℕ, zero, suc, ◌*◌, ◌/◌, ◌≤◌, ◌<◌}
use mathlib.Core.Path.{◌≡◌, refl, sym, ◌∙◌, ap}
use mathlib.Core.List.{List, [], ◌∷◌, ◌++◌}
use native.Mathlib.Nat.{not-suc-le-zero}
use native.Mathlib.Omega.{arith}
use lib.ListN.{length, drop, set, length-set}
use lib.Seq.{sets, set_out}
use Rattle.waiting.specs.declared.cursor.Kept.{Kept}
use Rattle.runs.specs.Listings.{length_listed, same_listed}
use Rattle.runs.specs.Lists.{seven, listed, numbers, relisted}

-- ---- seven numbers are written
sets_numbers : (ks : List Kept) (ys : List ℕ) (to : ℕ) (k : Kept) → to < length ks → sets (numbers ks ++ ys) (7 * to) (seven k) ≡ numbers (set ks to k) ++ ys
unfolding numbers
sets_numbers [] ys to k p = absurd (not-suc-le-zero p)
sets_numbers (j ∷ ks) ys zero k p = refl
sets_numbers (j ∷ ks) ys (suc to) k p =
    ap (λ (i : ℕ). sets (numbers (j ∷ ks) ++ ys) i (seven k)) at ∙ ap (λ (zs : List ℕ). seven j ++ zs) (sets_numbers ks ys to k (omega arith))
  where
    at : 7 * suc to ≡ suc (suc (suc (suc (suc (suc (suc (7 * to)))))))
    at = omega arith

module _ (xs : List ℕ) (to : ℕ) (k : Kept) where
  pub written : to < length xs / 7 → sets xs (to * 7) (seven k) ≡ relisted xs (set (listed xs) to k)
  written p =
      let ks : List Kept = listed xs in
      let at : to * 7 ≡ 7 * to = omega arith in
      ap (λ (i : ℕ). sets xs i (seven k)) at ∙ ap (λ (zs : List ℕ). sets zs (7 * to) (seven k)) (sym (same_listed xs))
      ∙ sets_numbers ks (drop (7 * length ks) xs) to k (omega (arith, length_listed xs))
      ∙ ap (λ (n : ℕ). numbers (set ks to k) ++ drop (7 * n) xs) (sym (length-set ks to k))

  pub unwritten : length xs / 7 ≤ to → xs ≡ relisted xs (set (listed xs) to k)
  unwritten p = sym (ap (relisted xs) (set_out (listed xs) to k (omega (arith, length_listed xs))) ∙ same_listed xs)
