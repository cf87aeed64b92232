-- The records of the polynomials, put one after the other, and their lengths. Assumes nothing.
use mathlib.Core.Path.{◌≡◌, refl, ap, ◌∙◌}
use mathlib.Core.List.{List, [], ◌∷◌, ◌++◌}
use Prim.Native.Nat.{ℕ, zero, suc, ◌+◌, ◌-◌, ◌*◌, ◌≤◌, ◌<◌}
use native.Mathlib.Omega.{arith}
use native.Mathlib.Nat.{suc-mul, zero-mul, mul_comm, add_comm, mul-le-mul_left}
use lib.IntN.{ℤ}
use lib.ListN.{length, take, drop, length-append, length-drop}
use lib.Seq.{take-add, take-take, drop-drop, length-take-le}
use Rattle.std.proofs.lemmas.List.{drop-take}
use Rattle.file.specs.Bytes.{bytes16, over}
use Rattle.file.proofs.Putting.{Putting, putting_fits, over_over}
use Rattle.system.specs.Heads.{places}
use Rattle.system.specs.declared.head.Head.{Head}
use Rattle.file.specs.Layout.{Layout, layout}
use Rattle.writing.specs.Counts.{count}
use Rattle.writing.specs.Writing.{record_bytes, terms_bytes, polynomial_bytes, polynomials_bytes, file_bytes, Ready}
use Rattle.writing.proofs.Counting.{count_append, terms_length, all_split}

-- ---- one record: header, number, terms
module _ (L : Layout) (k : ℕ) (ys : List ℤ) (t : List ℕ) (at : ℕ) (fit : at + length (polynomial_bytes L k ys) ≤ length t) (n : ℕ) (en : n ≡ count ys) where
  pub record_fits : at + (5 + length (terms_bytes L 0 ys)) ≤ length t
  record_fits = omega (arith, fit)

  body_length : 1 + 7 * n ≡ length (k ∷ terms_bytes L 0 ys)
  body_length = omega (arith, terms_length L 0 ys)

  module _ (t1 : List ℕ) (e1 : t1 ≡ over t at (bytes16 (1 + 7 * n) ++ (2 ∷ 0 ∷ []))) (t2 : List ℕ) (e2 : t2 ≡ over t1 (at + 4) (k ∷ [])) where
    five : t2 ≡ over t at (bytes16 (1 + 7 * n) ++ (2 ∷ 0 ∷ k ∷ []))
    five = e2 ∙ rw e1 (over_over t at (bytes16 (1 + 7 * n) ++ (2 ∷ 0 ∷ [])) (k ∷ []) (omega (arith, record_fits)))

    pub record_put : (r : ℕ) (t3 : List ℕ) → r ≡ at + 5 + length (terms_bytes L 0 ys) → t3 ≡ over t2 (at + 5) (terms_bytes L 0 ys)
        → (r ≡ at + length (polynomial_bytes L k ys)) × (t3 ≡ over t at (polynomial_bytes L k ys))
    record_put r t3 er e3 =
        let g : over t2 (at + 5) (terms_bytes L 0 ys) ≡ over t at (bytes16 (1 + 7 * n) ++ (2 ∷ 0 ∷ k ∷ terms_bytes L 0 ys)) = rw five (over_over t at (bytes16 (1 + 7 * n) ++ (2 ∷ 0 ∷ k ∷ [])) (terms_bytes L 0 ys) (omega (arith, record_fits))) in
        (omega arith, e3 ∙ g ∙ ap (λ (z : ℕ). over t at (bytes16 z ++ (2 ∷ 0 ∷ k ∷ terms_bytes L 0 ys))) body_length)

-- ---- all records: m - k are left
module _ (L : Layout) (xs : List ℤ) (m k d : ℕ) (h : k < m) (ed : d ≡ L.size) where
  pub part_fits : length xs ≡ m * L.size → d * k + d ≤ length xs
  part_fits e = let q : d * (k + 1) ≤ d * m = mul-le-mul_left d (omega arith) in let z : m * L.size ≡ d * m = rw ed (mul_comm m L.size) in omega arith

module _ (L : Layout) (xs : List ℤ) (m k d base : ℕ) (h : k < m) (ed : d ≡ L.size) (eb : base ≡ d * k) where
  -- the record of polynomial k + 1 is the next of those that are left
  pub record_next : {t0 W t : List ℕ} {at o : ℕ} → Putting t0 at W o t (polynomials_bytes L (m - k) (k + 1) (drop (d * k) xs))
      → Putting t0 at W o t (polynomial_bytes L (k + 1) (take d (drop base xs)) ++ polynomials_bytes L (m - (k + 1)) (k + 1 + 1) (drop (d * (k + 1)) xs))
  unfolding polynomials_bytes
  record_next i =
      let less : m - k ≡ suc (m - (k + 1)) = omega arith in
      let e : L.size + L.size * k ≡ L.size * (k + 1) = omega arith in
      rw (eb, ed, ← e, add_comm L.size (L.size * k)) (rw (less, ed, drop-drop L.size (L.size * k) xs) at i)

  pub record_room : {t0 W t : List ℕ} {at o : ℕ} → at + length W ≤ length t0 → Putting t0 at W o t (polynomials_bytes L (m - k) (k + 1) (drop (d * k) xs))
      → o + length (polynomial_bytes L (k + 1) (take d (drop base xs))) ≤ length t
  record_room f i =
      putting_fits _ _ _ f _ _ (polynomial_bytes L (k + 1) (take d (drop base xs))) (polynomials_bytes L (m - (k + 1)) (k + 1 + 1) (drop (d * (k + 1)) xs)) (record_next i)

  -- and its coefficients may be written
  pub ready_next : Ready L (m * L.size) xs → Ready L L.size (take d (drop base xs))
  ready_next r =
      let f : base + d ≤ length xs = omega (arith, part_fits L xs m k d h ed r.long) in
      let p = all_split base xs r.ranged in
      record {
        long = length-take-le d (drop base xs) (omega (arith, length-drop base xs)) ∙ ed;
        few = r.few;
        ranged = (all_split d (drop base xs) p.1).0;
      }

pub last_record : (L : Layout) (xs : List ℤ) (m k : ℕ) → m ≤ k → polynomials_bytes L (m - k) (k + 1) xs ≡ []
unfolding polynomials_bytes
last_record L xs m k h = let z : m - k ≡ 0 = omega arith in rw z refl

-- ---- lengths
polynomials_length : (L : Layout) (j k : ℕ) (xs : List ℤ) → length (polynomials_bytes L j k xs) ≡ 5 * j + 7 * count (take (j * L.size) xs)
unfolding polynomials_bytes count
polynomials_length L zero k xs = rw (zero-mul L.size) refl
polynomials_length L (suc j) k xs =
    let e : suc j * L.size ≡ L.size + j * L.size = suc-mul j L.size ∙ omega arith in
    rw (e, take-add L.size (j * L.size) xs, count_append (take L.size xs) (take (j * L.size) (drop L.size xs)))
    (length-append (polynomial_bytes L k (take L.size xs)) (polynomials_bytes L j (k + 1) (drop L.size xs))
    ∙ omega (arith, polynomials_length L j (k + 1) (drop L.size xs), terms_length L 0 (take L.size xs)))

module _ (h : Head) (xs : List ℤ) where
  pub file_parts : 12 + (length (polynomials_bytes (layout h) h.m 1 xs) + 4) ≡ length (file_bytes h xs)
  unfolding file_bytes
  file_parts = let e = length-append (polynomials_bytes (layout h) h.m 1 xs) (record_bytes 3 []) in omega arith

  pub file_length : length (file_bytes h xs) ≡ 16 + 5 * h.m + 7 * count (take (places h) xs)
  unfolding places
  file_length = omega (arith, file_parts, polynomials_length (layout h) h.m 1 xs)

-- ---- coefficients behind the last polynomial's are not written
pub front_bytes : (L : Layout) (j k : ℕ) (xs : List ℤ) → polynomials_bytes L j k (take (j * L.size) xs) ≡ polynomials_bytes L j k xs
unfolding polynomials_bytes
front_bytes L zero k xs = refl
front_bytes L (suc j) k xs =
    let e : suc j * L.size ≡ L.size + j * L.size = suc-mul j L.size ∙ omega arith in
    rw (e, take-take L.size (L.size + j * L.size) xs (omega arith), drop-take L.size (j * L.size) xs, front_bytes L j (k + 1) (drop L.size xs)) refl
