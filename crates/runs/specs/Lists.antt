-- A list of kept boxes as numbers, seven to a record (01, "Runs"): the whole records that stand in it, and the numbers after records were changed; what
-- every kind of list keeps. Definitions, and the statement that the numbers then say those records.
use Rattle.std.specs.Prelude.{ℕ, zero, suc, ◌*◌, ◌/◌, ◌≡◌, List, [], ◌∷◌, ◌++◌, length, drop, get_or}
use Rattle.waiting.specs.declared.cursor.Kept.{Kept}

abbrev pub seven : Kept → List ℕ
seven k = k.at.s1 ∷ k.at.k1 ∷ k.at.s2 ∷ k.at.k2 ∷ k.at.s3 ∷ k.at.k3 ∷ k.mark ∷ []

-- the record at the head of the numbers
abbrev pub first : List ℕ → Kept
first xs = record {
  at = record { s1 = get_or xs 0 0; k1 = get_or xs 1 0; s2 = get_or xs 2 0; k2 = get_or xs 3 0; s3 = get_or xs 4 0; k3 = get_or xs 5 0 };
  mark = get_or xs 6 0;
}

-- n records
unfoldable pub taken : (n : ℕ) → List ℕ → List Kept
taken zero xs = []
taken (suc n) xs = first xs ∷ taken n (drop 7 xs)

-- as many as there are
abbrev pub listed : List ℕ → List Kept
listed xs = taken (length xs / 7) xs

unfoldable pub numbers : List Kept → List ℕ
numbers [] = []
numbers (k ∷ ks) = seven k ++ numbers ks

-- the numbers xs after their records became ks: nothing behind the records is changed
abbrev pub relisted : List ℕ → List Kept → List ℕ
relisted xs ks = numbers ks ++ drop (7 * length ks) xs

-- What stands in the numbers afterwards are those records.
abbrev pub ListedBack : Type 0
ListedBack = (xs : List ℕ) (ks : List Kept) → length ks ≡ length (listed xs) → listed (relisted xs ks) ≡ ks

-- What a kind of list keeps: its own records change nothing, other records stand in it afterwards, and the last ones count.
pub record Listing {L : Type 0} (records : L → List Kept) (with_records : L → List Kept → L) : Type 0 where
  pub unchanged : (xs : L) → with_records xs (records xs) ≡ xs
  pub read_back : (xs : L) (ks : List Kept) → length ks ≡ length (records xs) → records (with_records xs ks) ≡ ks
  pub last_counts : (xs : L) (ks js : List Kept) → length ks ≡ length (records xs) → length js ≡ length ks → with_records (with_records xs ks) js ≡ with_records xs js
