-- Loops that write the rows of w lines one by one, in place, each row once: what holds at the loop's head, at the start, after a row, and at the end.
-- `D i` says that row i is done. Assumes nothing.
use mathlib.Core.Path.{◌≡◌, refl, sym, ◌∙◌, subst}
use mathlib.Core.Logic.{◌⊎◌, ⊎_elim}
use mathlib.Core.List.{List}
use Prim.Native.Nat.{ℕ, ◌+◌, ◌*◌, ◌≤◌, ◌<◌}
use native.Mathlib.Decide.{ℕ_discrete}
use lib.IntN.{ℤ}
use lib.ListN.{length}
use Rattle.lines.specs.Lines.{at, Line, along, Off, Under, InPlace}
use Rattle.lines.specs.Inside.{RowPut}
use Rattle.lines.proofs.Rows.{this_row, other_row, off_row}

pub record Turning (work : Line → Line) (D : ℕ → Type 0) (w first inner n : ℕ) (old l : List ℤ) : Type 0 where
  pub size : length l ≡ length old
  pub done : (f i : ℕ) → f < w → i ≤ n → D i → at l (first + f + i * inner) ≡ work (along old (first + f) inner) i
  pub todo : (f i : ℕ) → f < w → i ≤ n → (D i → ⊥) → at l (first + f + i * inner) ≡ at old (first + f + i * inner)
  pub kept : (p : ℕ) → Off (Under w) first inner n p → at l p ≡ at old p

-- at the start the rows that count as done are those that the work leaves as they are
pub start : {work : Line → Line} {D : ℕ → Type 0} {w first inner n : ℕ} {l : List ℤ} → ((b : Line) (i : ℕ) → i ≤ n → D i → b i ≡ work b i) → Turning work D w first inner n l l
start {first} {inner} {l} same = record { size = refl; done = λ f i h m d. same (along l (first + f) inner) i m d; todo = λ f i h m o. refl; kept = λ p o. refl }

-- row i is written
module _ {work : Line → Line} {D E : ℕ → Type 0} {w first inner n a : ℕ} {v : ℕ → ℤ} {old l m : List ℤ}
    (i : ℕ) (apart : w ≤ inner) (within : i ≤ n) (place : a ≡ first + i * inner)
    (more : (k : ℕ) → D k → E k) (here : E i) (less : (k : ℕ) → E k → (k ≡ i → ⊥) → D k)
    (t : Turning work D w first inner n old l) (b : RowPut a w v l m)
    (right : (f : ℕ) → f < w → v f ≡ work (along old (first + f) inner) i) where
  pub turn : Turning work E w first inner n old m
  turn = record {
    size = b.size ∙ t.size;
    done = λ f k h q e. new f k h q e (ℕ_discrete k i);
    todo = λ f k h q o. other_row first inner i apart place b f k h (λ z. o (subst E (sym z) here)) ∙ t.todo f k h q (λ d. o (more k d));
    kept = λ p o. off_row first inner i apart place b within p o ∙ t.kept p o;
  }
    where
      new : (f k : ℕ) → f < w → k ≤ n → E k → Dec (k ≡ i) → at m (first + f + k * inner) ≡ work (along old (first + f) inner) k
      new f k h q e (yes z) = rw z (this_row first inner i apart place b f h ∙ right f h)
      new f k h q e (no o) = other_row first inner i apart place b f k h o ∙ t.done f k h q (less k e o)

-- at the end each row is done, or the work leaves it as it is
pub end : {work : Line → Line} {D : ℕ → Type 0} {w first inner n : ℕ} {old l : List ℤ} → ((i : ℕ) → i ≤ n → D i ⊎ ((D i → ⊥) × ((b : Line) → b i ≡ work b i)))
    → Turning work D w first inner n old l → InPlace work (Under w) first inner n old l
end {first} {inner} {old} all t = record {
  size = t.size;
  entries = λ u f i h m. ⊎_elim (λ d. t.done f i h m d) (λ o. t.todo f i h m o.0 ∙ o.1 (along old (first + f) inner)) (all i m);
  kept = λ p o. t.kept p (o tt);
}
