-- The loops of `sums`, `raise` and `step`, each as a loop of rows: the rows that it asks for, and its turn; and the loop of `spread`, one step more at a turn.
-- Assumes nothing.
use mathlib.Core.Path.{◌≡◌, refl, sym, ◌∙◌, ap, ap₂}
use mathlib.Core.Bool.{cond}
use mathlib.Core.Logic.{◌⊎◌, inl, inr}
use mathlib.Core.List.{List}
use Prim.Native.Nat.{ℕ, suc, ◌+◌, ◌*◌, ◌-◌, ◌^◌, ◌≤◌, ◌<◌}
use native.Mathlib.Omega.{arith}
use native.Mathlib.Numerals.{add-one}
use lib.Dec.{ltb, ltb→lt, nltb→le}
use lib.IntN.{ℤ, pos, ◌+ℤ◌, ◌*ℤ◌, +ℤ_comm}
use Rattle.whole.proofs.Ring.{one-*ℤ}
use Rattle.whole.proofs.Order.{cond_ind}
use Rattle.whole.proofs.Parts.{by_lt}
use Rattle.bernstein.specs.Numbers.{after}
use Rattle.bernstein.proofs.Sizes.{after_below}
use Rattle.lines.specs.Lines.{at, Line, along, InPlace, Under, only}
use Rattle.lines.specs.Inside.{RowPut, sum_down, summed, raised, stepped, Row, Block, EntriesBelow, SumsBelow, RaisedBelow, Ready}
use Rattle.lines.proofs.Rows.{at_row, row_of}
use Rattle.lines.proofs.Turns.{Turning, turn}

-- ---- the sums: the rows after i are done, and row i is next
pub summed_last : (j : ℕ) (b : Line) (i : ℕ) → i ≤ j → j ≤ i → b i ≡ summed j b i
unfolding sum_down
summed_last j b i h k = let e : i ≡ j = omega arith in let z : j - i ≡ 0 = omega arith in rw (z, e) refl

summed_next : (j : ℕ) (b : Line) (i : ℕ) → i < j → b i +ℤ summed j b (i + 1) ≡ summed j b i
unfolding sum_down
summed_next j b i h = let e : j - i ≡ suc (j - (i + 1)) = omega arith in let z : j - suc (j - (i + 1)) ≡ i = omega arith in rw (e, z) refl

module _ {w up inner j i k : ℕ} {old l : List ℤ} (b : Block w up inner j old) (after : k ≡ i + 1) (within : i < j)
    (t : Turning (summed j) (λ r. k ≤ r) w up inner j old l) where
  after_row : up + i * inner + inner ≡ up + (i + 1) * inner
  after_row = omega arith

  next_row : (f : ℕ) → f < w → at l (up + f + i * inner) ≡ at old (up + f + i * inner)
  next_row f h = t.todo f i h (omega arith) (λ d. omega arith)

  last_row : (f : ℕ) → f < w → at l (up + f + (i + 1) * inner) ≡ summed j (along old (up + f) inner) (i + 1)
  last_row f h = t.done f (i + 1) h (omega arith) (omega arith)

  pub sum_rows : EntriesBelow w up inner j old → SumsBelow w up inner j old
      → Row (2 ^ 62) w (up + i * inner) (λ z. z) l × Row (2 ^ 62) w (up + i * inner + inner) (λ z. z) l
  sum_rows e s = (
    row_of i b t.size (omega arith) refl (λ f h. rw (next_row f h) (e f i h (omega arith))),
    row_of (i + 1) b t.size (omega arith) after_row (λ f h. rw (last_row f h) (s f (j - (i + 1)) h (omega arith))),
  )

  pub sum_turn : {m : List ℤ} → RowPut (up + i * inner) w (λ f. at l (up + i * inner + f) +ℤ at l (up + i * inner + inner + f)) l m
      → Turning (summed j) (λ r. i ≤ r) w up inner j old m
  sum_turn r = turn i b.apart (omega arith) refl (λ x d. omega arith) (omega arith) (λ x d o. omega arith) t r
      (λ f h. ap₂ ◌+ℤ◌ (at_row up inner i l refl f ∙ next_row f h) (at_row up inner (i + 1) l after_row f ∙ last_row f h)
      ∙ summed_next j (along old (up + f) inner) i within)

-- ---- the powers of two: the rows before i are done, and row i is next
pub raised_none : (b : Line) (i : ℕ) → i < 1 → b i ≡ raised b i
raised_none b i h = let z : i ≡ 0 = omega arith in rw z (sym (one-*ℤ (b 0)))

module _ {w up inner n i : ℕ} {old l : List ℤ} (b : Block w up inner n old) (within : i ≤ n) (t : Turning raised (λ k. k < i) w up inner n old l) where
  this_row : (f : ℕ) → f < w → at l (up + f + i * inner) ≡ at old (up + f + i * inner)
  this_row f h = t.todo f i h within (λ d. omega arith)

  pub raise_row : RaisedBelow w up inner n old → Row (2 ^ 63) w (up + i * inner) (λ z. pos (2 ^ i) *ℤ z) l
  raise_row s = row_of i b t.size within refl (λ f h. rw (this_row f h) (s f i h within))

  pub raise_turn : {m : List ℤ} → RowPut (up + i * inner) w (λ f. pos (2 ^ i) *ℤ at l (up + i * inner + f)) l m → Turning raised (λ k. k < i + 1) w up inner n old m
  raise_turn r = turn i b.apart within refl (λ k d. omega arith) (omega arith) (λ k d o. omega arith) t r
      (λ f h. ap (λ (z : ℤ). pos (2 ^ i) *ℤ z) (at_row up inner i l refl f ∙ this_row f h))

-- ---- a step: the rows after j + 1 are done, and row j + 1 is next
pub stepped_sum : (k : ℕ) (b : Line) (j : ℕ) → k ≤ j → stepped k b (j + 1) ≡ b j +ℤ b (j + 1)
unfolding stepped
stepped_sum k b j h =
    let e : j + 1 - 1 ≡ j = omega arith in
    cond_ind (ltb k (j + 1)) (b (j + 1 - 1) +ℤ b (j + 1)) (b (j + 1)) (λ z. z ≡ b j +ℤ b (j + 1)) (λ t. rw e refl)
    (λ t. let q : j + 1 ≤ k = nltb→le k (j + 1) t in absurd (omega arith))

pub stepped_same : (k : ℕ) (b : Line) (j : ℕ) → j ≤ k → stepped k b j ≡ b j
unfolding stepped
stepped_same k b j h = cond_ind (ltb k j) (b (j - 1) +ℤ b j) (b j) (λ z. z ≡ b j) (λ t. let q : k < j = ltb→lt k j t in absurd (omega arith)) (λ t. refl)

module _ {first inner k n j x : ℕ} {old l : List ℤ} (b : Block 1 first inner n old) (after : x ≡ j + 1) (kj : k ≤ j) (within : j < n)
    (t : Turning (stepped k) (λ i. x < i) 1 first inner n old l) where
  row_after : first + j * inner + inner ≡ first + (j + 1) * inner
  row_after = omega arith

  still : (f i : ℕ) → f < 1 → i ≤ j + 1 → at l (first + f + i * inner) ≡ at old (first + f + i * inner)
  still f i h q = t.todo f i h (omega arith) (λ d. omega arith)

  pub step_rows : EntriesBelow 1 first inner n old → Row (2 ^ 62) 1 (first + j * inner + inner) (λ z. z) l × Row (2 ^ 62) 1 (first + j * inner) (λ z. z) l
  step_rows e = (
    row_of (j + 1) b t.size (omega arith) row_after (λ f h. rw (still f (j + 1) h (omega arith)) (e f (j + 1) h (omega arith))),
    row_of j b t.size (omega arith) refl (λ f h. rw (still f j h (omega arith)) (e f j h (omega arith))),
  )

  pub step_turn : {m : List ℤ} → RowPut (first + j * inner + inner) 1 (λ f. at l (first + j * inner + inner + f) +ℤ at l (first + j * inner + f)) l m
      → Turning (stepped k) (λ i. j < i) 1 first inner n old m
  step_turn r = turn (j + 1) b.apart (omega arith) row_after (λ i d. omega arith) (omega arith) (λ i d o. omega arith) t r
      (λ f h. ap₂ ◌+ℤ◌ (at_row first inner (j + 1) l row_after f ∙ still f (j + 1) h (omega arith)) (at_row first inner j l refl f ∙ still f j h (omega arith))
      ∙ +ℤ_comm (along old (first + f) inner (j + 1)) (along old (first + f) inner j) ∙ sym (stepped_sum k (along old (first + f) inner) j kj))

pub step_end : (k n j : ℕ) → k ≤ j → j ≤ k → (i : ℕ) → i ≤ n → (j < i) ⊎ ((j < i → ⊥) × ((b : Line) → b i ≡ stepped k b i))
step_end k n j h q i m = by_lt j i inl (λ p. inr (λ d. omega arith, λ b. sym (stepped_same k b i (omega arith))))

-- ---- k steps, one after the other
stepped_after : (b e : Line) (k n : ℕ) → ((j : ℕ) → j ≤ n → e j ≡ after b k j) → (j : ℕ) → j ≤ n → stepped k e j ≡ after b (k + 1) j
unfolding stepped after
stepped_after b e k n s j h = rw (add-one k) (ap₂ (λ x y. cond (ltb k j) (x +ℤ y) y) (s (j - 1) (omega arith)) (s j h))

pub no_step : {F : ℕ → Type 0} {first inner n : ℕ} {l : List ℤ} → InPlace (λ b. after b 0) F first inner n l l
unfolding after
no_step = record { size = refl; entries = λ u f j h q. refl; kept = λ p o. refl }

pub one_step : (k : ℕ) {F : ℕ → Type 0} {first inner n : ℕ} {old l m : List ℤ} → InPlace (λ b. after b k) F first inner n old l → InPlace (stepped k) F first inner n l m → InPlace (λ b. after b (k + 1)) F first inner n old m
one_step k {F} {first} {inner} {n} {old} {l} t s = record {
  size = s.size ∙ t.size;
  entries = λ u f j h q. s.entries tt f j h q ∙ stepped_after (along old (first + f) inner) (along l (first + f) inner) k n (λ i r. t.entries tt f i h r) j q;
  kept = λ p o. s.kept p o ∙ t.kept p o;
}

-- the next step can be made
pub step_ready : (k : ℕ) {first inner n : ℕ} {old l : List ℤ} → Ready (λ h. first) only 1 inner n old → InPlace (λ b. after b k) (Under 1) first inner n old l
    → Block 1 first inner n l × EntriesBelow 1 first inner n l
step_ready k {first} {inner} {n} {old} y t = (
  record { apart = y.apart; fits = omega (arith, y.room.fits only, t.size) },
  λ f i h q. rw (t.entries tt f i h q) (after_below n (omega (arith, y.degree)) (along old (first + f) inner) (λ x r. y.small f x h r) k i q),
)
