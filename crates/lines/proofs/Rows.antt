-- Where the rows of w lines stand, and what writing one of them leaves. Assumes nothing.
use mathlib.Core.Path.{◌≡◌, ap, subst}
use mathlib.Core.List.{List}
use Prim.Native.Nat.{ℕ, suc, ◌+◌, ◌*◌, ◌≤◌, ◌<◌}
use native.Mathlib.Omega.{arith}
use native.Mathlib.Nat.{mul-le-mul_right}
use lib.IntN.{ℤ}
use lib.ListN.{length}
use Rattle.whole.specs.Size.{Below}
use Rattle.whole.proofs.Parts.{by_lt}
use Rattle.lines.specs.Lines.{at, Off, Under}
use Rattle.lines.specs.Inside.{RowPut, Row, Block}

-- ---- where rows stand: entry i of line f has place first + f + i * inner
pub row_le : (inner : ℕ) {i n : ℕ} → i ≤ n → i * inner ≤ n * inner
row_le inner h = mul-le-mul_right inner h

-- a row ends before the next begins
pub row_lt : (inner : ℕ) {i j : ℕ} → i < j → i * inner + inner ≤ j * inner
row_lt inner {i} {j} h = let a : suc i * inner ≤ j * inner = mul-le-mul_right inner h in omega arith

-- two entries of lines closer than inner, at one place, are in one row
pub same_row : (inner i j f g : ℕ) → f < inner → g < inner → f + i * inner ≡ g + j * inner → i ≡ j
same_row inner i j f g h k e = by_lt i j (λ p. absurd (omega (arith, row_lt inner p))) (λ p. by_lt j i (λ q. absurd (omega (arith, row_lt inner q))) (λ q. omega arith))

-- row i of w lines was written
module _ (first inner i : ℕ) {w a : ℕ} {v : ℕ → ℤ} {l m : List ℤ} (apart : w ≤ inner) (place : a ≡ first + i * inner) (b : RowPut a w v l m) where
  pub this_row : (f : ℕ) → f < w → at m (first + f + i * inner) ≡ v f
  this_row f h = let e : a + f ≡ first + f + i * inner = omega arith in subst (λ (x : ℕ). at m x ≡ v f) e (b.put f h)

  pub other_row : (f k : ℕ) → f < w → (k ≡ i → ⊥) → at m (first + f + k * inner) ≡ at l (first + f + k * inner)
  other_row f k h o = b.kept (first + f + k * inner) (λ g hg z. o (same_row inner k i f g (omega arith) (omega arith) (omega arith)))

  pub off_row : {n : ℕ} → i ≤ n → (p : ℕ) → Off (Under w) first inner n p → at m p ≡ at l p
  off_row h p o = b.kept p (λ f hf z. o f i hf h (omega arith))

-- a number of row i, by the row's place and by the line's
pub at_row : (first inner i : ℕ) {a : ℕ} (l : List ℤ) → a ≡ first + i * inner → (f : ℕ) → at l (a + f) ≡ at l (first + f + i * inner)
at_row first inner i {a} l place f = let e : a + f ≡ first + f + i * inner = omega arith in ap (λ (x : ℕ). at l x) e

-- row i of a block as what `add_row` and `scale_row` ask for
pub row_of : {w first inner n : ℕ} {old : List ℤ} (i : ℕ) {a m : ℕ} {g : ℤ → ℤ} {l : List ℤ} → Block w first inner n old → length l ≡ length old → i ≤ n → a ≡ first + i * inner
    → ((f : ℕ) → f < w → Below m (g (at l (first + f + i * inner)))) → Row m w a g l
row_of {w} {first} {inner} {n} {old} i {a} {m} {g} {l} b size h place s = record {
  fits = omega (arith, b.fits, row_le inner h);
  small = λ f hf. rw (at_row first inner i l place f) (s f hf);
}
