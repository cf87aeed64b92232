-- The filling pass, turn by turn: what the places hold so far, and what is still to come, are together W. Assumes nothing.
use Rattle.std.specs.Prelude.{Ok}
use mathlib.Core.Path.{◌≡◌, refl, sym, ap, ◌∙◌}
use mathlib.Core.Bool.{true, false, cond}
use mathlib.Core.List.{List, [], ◌∷◌, ◌++◌, append_assoc, append-nil}
use Prim.Native.Nat.{ℕ, zero, suc, ◌+◌, ◌-◌, ◌*◌, ◌/◌, ◌≤◌, ◌<◌}
use native.Mathlib.Omega.{arith}
use native.Mathlib.Nat.{suc-mul, zero-mul}
use native.Mathlib.Numerals.{add-one}
use lib.IntN.{ℤ, pos}
use lib.ListN.{length, take, drop, set, length-drop, length-append, take-append-drop}
use lib.Seq.{take-suc-set, take_at, drop_at, drop-drop, length-take-le, append_snoc, take_all}
use Rattle.file.specs.Bytes.{word16}
use Rattle.file.specs.Layout.{Layout}
use Rattle.file.specs.Records.{length_of}
use Rattle.file.specs.Terms.{value_of, here, coefficients}
use Rattle.file.specs.Reading.{polynomial, polynomials, numbers_of}
use Rattle.file.proofs.Tests.{parts}
use Rattle.file.proofs.Stepping.{length_there}
use Rattle.file.proofs.InOrder.{coefficients_length}
use Rattle.std.proofs.lemmas.List.{take_rest}
use Rattle.file.proofs.Walking.{polynomial_long}

pub coefficients_step : (L : Layout) (n t p : ℕ) (r : List ℕ) → p < n
    → coefficients L (n - p) t p r ≡ cond (here L t p r) (value_of r) (pos 0)
    ∷ coefficients L (n - (p + 1)) (cond (here L t p r) (t - 1) t) (p + 1) (drop (cond (here L t p r) 7 0) r)
unfolding coefficients
coefficients_step L n t p r h = let e : n - p ≡ suc (n - (p + 1)) = omega arith in rw e refl

pub coefficients_none : (L : Layout) (n t p : ℕ) (r : List ℕ) → n ≤ p → coefficients L (n - p) t p r ≡ []
unfolding coefficients
coefficients_none L n t p r h = let e : n - p ≡ 0 = omega arith in rw e refl

-- ---- one polynomial: its places before p are filled, and the terms that are left fill the others
module _ (L : Layout) (W out : List ℤ) (n p left : ℕ) (r : List ℕ) (h : p < n) (l : p < length out) (w : take p out ++ coefficients L (n - p) left p r ≡ W) where
  turn : (v : ℤ) → v ≡ cond (here L left p r) (value_of r) (pos 0)
      → take (p + 1) (set out p v) ++ coefficients L (n - (p + 1)) (cond (here L left p r) (left - 1) left) (p + 1) (drop (cond (here L left p r) 7 0) r) ≡ W
  turn v e = rw (add-one p, take-suc-set out p v l, ← add-one p) (append_snoc (take p out) v _ ∙ rw e (rw (coefficients_step L n left p r h) at w))

  pub found_turn : here L left p r ≡ true → (v : ℤ) → v ≡ value_of r → take (p + 1) (set out p v) ++ coefficients L (n - (p + 1)) (left - 1) (p + 1) (drop 7 r) ≡ W
  found_turn e v q = rw e at (turn v (rw e q))

  pub none_turn : here L left p r ≡ false → take (p + 1) (set out p (pos 0)) ++ coefficients L (n - (p + 1)) left (p + 1) r ≡ W
  none_turn e = rw e at (turn (pos 0) (rw e refl))

pub here_some : (L : Layout) (left p : ℕ) (r : List ℕ) → here L left p r ≡ true → 0 < left
here_some L zero p r e = absurd (let z : ◌≡◌ {A = ℕ} 0 1 = cc in let y : ⊥ = omega arith in y)
here_some L (suc n) p r e = omega arith

pub filled_places : (L : Layout) (W out : List ℤ) (n p left : ℕ) (r : List ℕ) → n ≤ p → length out ≤ n → take p out ++ coefficients L (n - p) left p r ≡ W → out ≡ W
filled_places L W out n p left r h l w =
    sym (take_all p out (omega arith)) ∙ sym (append-nil (take p out)) ∙ (rw (coefficients_none L n left p r h) at w)

-- ---- all polynomials: those before k are filled in
pub record Filled (L : Layout) (s : List ℕ) (W : List ℤ) (out0 : List ℤ) (m k o base : ℕ) (out : List ℤ) : Type 0 where
  pub long : length out ≡ length out0
  pub room : base + (m - k) * L.size ≡ m * L.size
  pub done : take base out ++ numbers_of L (m - k) (drop o s) ≡ W
  pub rest : drop base out ≡ drop base out0
  pub good : polynomials L (m - k) (k + 1) o (drop o s) ≡ Ok tt

polynomials_first : (L : Layout) (j k o : ℕ) (r : List ℕ) → polynomials L (suc j) k o r ≡ Ok tt
    → (polynomial L k o r ≡ Ok tt) × (polynomials L j (k + 1) (o + (4 + length_of r)) (drop (4 + length_of r) r) ≡ Ok tt)
unfolding polynomials
polynomials_first L j k o r e = parts (polynomial L k o r) (polynomials L j (k + 1) (o + (4 + length_of r)) (drop (4 + length_of r) r)) e

module _ (L : Layout) (s : List ℕ) (W out0 : List ℤ) (m : ℕ) (fit : m * L.size ≤ length out0) (k o base : ℕ) (out : List ℤ) (i : Filled L s W out0 m k o base out) where
  module _ (h : k < m) where
    one_less : m - k ≡ suc (m - (k + 1))
    one_less = omega arith

    splits : (polynomial L (k + 1) o (drop o s) ≡ Ok tt) × (polynomials L (m - (k + 1)) (k + 1 + 1) (o + (4 + length_of (drop o s))) (drop (4 + length_of (drop o s)) (drop o s)) ≡ Ok tt)
    splits = polynomials_first L (m - (k + 1)) (k + 1) o (drop o s) (rw one_less at i.good)

    pub filled_long : (o + 4 + word16 s o ≤ length s) × (1 ≤ word16 s o)
    filled_long = polynomial_long L (k + 1) o s splits.0

    left_room : base + (L.size + (m - (k + 1)) * L.size) ≡ m * L.size
    left_room = let q : (m - k) * L.size ≡ (m - (k + 1)) * L.size + L.size = rw one_less (suc-mul (m - (k + 1)) L.size) in omega (arith, i.room)

    pub filled_fits : base + L.size ≤ length out
    filled_fits = omega (arith, left_room, i.long)

    pub filled_turn : (len : ℕ) → len ≡ word16 s o → (out' : List ℤ) → out' ≡ take base out ++ (coefficients L L.size ((len - 1) / 7) 0 (drop (o + 5) s) ++ drop (base + L.size) out)
        → Filled L s W out0 m (k + 1) (o + (4 + len)) (base + L.size) out'
    unfolding numbers_of
    filled_turn len q out' e =
        let C : List ℤ = coefficients L L.size ((len - 1) / 7) 0 (drop (o + 5) s) in
        let cl : length (coefficients L L.size ((len - 1) / 7) 0 (drop (o + 5) s)) ≡ L.size = coefficients_length L L.size ((len - 1) / 7) 0 (drop (o + 5) s) in
        let tl : length (take base out) ≡ base = length-take-le base out (omega (arith, filled_fits)) in
        let e2 : out' ≡ (take base out ++ C) ++ drop (base + L.size) out = e ∙ sym (append_assoc (take base out) C (drop (base + L.size) out)) in
        let fl : length (take base out ++ C) ≡ base + L.size = length-append (take base out) C ∙ omega arith in
        let lw : length_of (drop o s) ≡ len = length_there s o ∙ sym q in
        let d = rw (one_less, lw, drop-drop 5 o s, drop-drop (4 + len) o s) at i.done in
        record {
          long = ap length e2 ∙ length-append (take base out ++ C) (drop (base + L.size) out) ∙ rw (length-drop (base + L.size) out) (omega (arith, fl, filled_fits, i.long));
          room = omega (arith, left_room);
          done = rw (e2, take_at (take base out ++ C) (drop (base + L.size) out) (base + L.size) fl, append_assoc (take base out) C (numbers_of L (m - (k + 1)) (drop (o + (4 + len)) s))) d;
          rest = rw (e2, drop_at (take base out ++ C) (drop (base + L.size) out) (base + L.size) fl) (sym (drop-drop L.size base out) ∙ ap (drop L.size) i.rest ∙ drop-drop L.size base out0);
          good = rw (← drop-drop (4 + len) o s, ← lw) splits.1;
        }

  pub filled_over : m ≤ k → out ≡ W ++ drop (m * L.size) out0
  unfolding numbers_of
  filled_over h =
      let z : m - k ≡ 0 = omega arith in
      let b : base ≡ m * L.size = let q : (m - k) * L.size ≡ 0 = rw z (zero-mul L.size) in omega (arith, i.room) in
      let d : take base out ≡ W = sym (append-nil (take base out)) ∙ (rw z at i.done) in
      sym (take-append-drop base out) ∙ rw (d, i.rest, b) refl

  -- what is read and filled next is there
  pub filled_next : k < m → (o + 4 + word16 s o ≤ length s) × ((1 ≤ word16 s o) × (base + L.size ≤ length out))
  filled_next h = let e = filled_long h in (e.0, (e.1, filled_fits h))

pub filled_start : (L : Layout) (s : List ℕ) (out0 : List ℤ) (m base : ℕ) → base ≡ 0 → polynomials L m 1 12 (drop 12 s) ≡ Ok tt → Filled L s (numbers_of L m (drop 12 s)) out0 m 0 12 base out0
filled_start L s out0 m base e g =
    let z : m - 0 ≡ m = omega arith in
    rw e (record { long = refl; room = rw z (omega arith); done = rw z refl; rest = refl; good = rw z g })

-- ---- the loop's turns: the numbers of polynomial k stand from n * k on, and the next polynomial is there, with room for it
abbrev pub Kept : (L : Layout) (s : List ℕ) (W out0 : List ℤ) (m n k o : ℕ) (out : List ℤ) → Type 0
Kept L s W out0 m n k o out =
    Filled L s W out0 m k o (n * k) out × (k < m → (o + 4 + word16 s o ≤ length s) × ((1 ≤ word16 s o) × (n * k + n ≤ length out)))

module _ (L : Layout) (s : List ℕ) where
  kept : (W out0 : List ℤ) (m : ℕ) → m * L.size ≤ length out0 → (n : ℕ) → n ≡ L.size → (k o : ℕ) (out : List ℤ) → Filled L s W out0 m k o (n * k) out → Kept L s W out0 m n k o out
  kept W out0 m fit n en k o out f =
      (f, λ h. let e = filled_next L s W out0 m fit k o (n * k) out f h in (e.0, (e.1.0, let z : n * k + L.size ≤ length out = e.1.1 in omega (arith, en))))

  pub kept_start : (out0 : List ℤ) (m : ℕ) → m * L.size ≤ length out0 → (n : ℕ) → n ≡ L.size → polynomials L m 1 12 (drop 12 s) ≡ Ok tt
      → Kept L s (numbers_of L m (drop 12 s)) out0 m n 0 12 out0
  kept_start out0 m fit n en g = kept _ out0 m fit n en 0 12 out0 (filled_start L s out0 m (n * 0) (omega arith) g)

  pub kept_turn : (W out0 : List ℤ) (m : ℕ) → m * L.size ≤ length out0 → (n : ℕ) → n ≡ L.size → (k o : ℕ) (out : List ℤ) → Kept L s W out0 m n k o out → k < m
      → (len : ℕ) → len ≡ word16 s o → (ys : List ℤ) → ys ≡ coefficients L L.size ((len - 1) / 7) 0 (take (length s - (o + 5)) (drop (o + 5) s)) → (d : ℕ) → d ≡ n
      → Kept L s W out0 m n (k + 1) (o + (4 + len)) (take (n * k) out ++ (ys ++ drop d (drop (n * k) out)))
  kept_turn W out0 m fit n en k o out i h len q ys ey d ed =
      let e : n * (k + 1) ≡ n * k + L.size = omega (arith, en) in
      let b : n * k + d ≡ n * k + L.size = omega (arith, en, ed) in
      let y : take (n * k) out ++ (ys ++ drop d (drop (n * k) out)) ≡ take (n * k) out ++ (coefficients L L.size ((len - 1) / 7) 0 (drop (o + 5) s) ++ drop (n * k + L.size) out)
      = rw (drop-drop d (n * k) out, b, ey, take_rest s (o + 5)) refl in
      kept W out0 m fit n en (k + 1) (o + (4 + len)) _ (rw e (filled_turn L s W out0 m fit k o (n * k) out i.0 h len q _ y))
