-- The three ways of a visit, and the steps of a run, in the code's terms: what the code leaves is what the lent machine makes. Assumes nothing.
use Rattle.std.specs.Prelude.{Some, None, Result, Ok, Err}
use mathlib.Core.Path.{◌≡◌, refl, sym, ap, subst, ◌∙◌}
use mathlib.Core.List.{List}
use Prim.Native.Nat.{ℕ, suc, ◌+◌, ◌-◌, ◌≤◌}
use native.Mathlib.Omega.{arith}
use native.Mathlib.Numerals.{add-one}
use lib.IntN.{ℤ}
use Rattle.whole.specs.Half.{lower, upper}
use Rattle.system.specs.declared.head.Head.{Head}
use Rattle.boxes.specs.declared.half.Direction.{Direction}
use Rattle.whole.specs.declared.Sign.{Sign}
use Rattle.boxes.specs.declared.visit.Outcome.{Outcome}
use Rattle.boxes.specs.declared.visit.Word.{Word}
use Rattle.boxes.specs.Boxes.{direction}
use Rattle.slots.specs.Slots.{box_in, half_slot}
use Rattle.search.specs.Lent.{in_slot, given_up, lent_become}
use Rattle.waiting.specs.Cells.{boxed, cells}
use Rattle.waiting.specs.Steps.{kept_of, halted, gone_on, top, due, visited, moved, next, visit_of, seen, Ready, MayVisit}
use Rattle.waiting.specs.declared.state.State.{State}
use Rattle.waiting.specs.declared.cursor.Kept.{Kept}
use Rattle.waiting.specs.declared.cursor.Cursor.{Cursor}
use Rattle.waiting.proofs.Turning.{SaysDue, due_says, may_visit}
use Rattle.waiting.proofs.Driving.{next_by}

abbrev state : (waiting kept visits dropped : ℕ) → State
state w k v d = record { waiting = w; kept = k; visits = v; dropped = d }

-- ---- a visit
-- cursor and store are those of the visit
abbrev pub Moves : Head → List ℤ → Cursor → Outcome → Cursor → List ℤ → Type 0
Moves h st c o r st' = (r ≡ (moved (boxed h) st c o).cursor) × (st' ≡ (moved (boxed h) st c o).store)

module _ (h : Head) (st : List ℤ) (c : Cursor) {r : Cursor} {st' : List ℤ} where
  pub moves_dropped : {o : Outcome} (p : ℕ) (s : Sign) → o ≡ Outcome.Dropped p s
      → r ≡ gone_on c (state (c.state.waiting - 1) c.state.kept (c.state.visits + 1) (c.state.dropped + 1)) None
      → st' ≡ given_up (cells h) (c.state.waiting - 1) st → Moves h st c o r st'
  unfolding visited lent_become
  moves_dropped p s e er es = rw e (er ∙ rw (add-one c.state.visits, add-one c.state.dropped) refl, es)

  pub moves_kept : {o : Outcome} {k : Kept} (mark : ℕ) → o ≡ Outcome.Kept mark → k ≡ kept_of (box_in (top (boxed h) st c.state)) mark
      → r ≡ gone_on c (state (c.state.waiting - 1) (c.state.kept + 1) (c.state.visits + 1) c.state.dropped) (Some (c.state.kept, k))
      → st' ≡ given_up (cells h) (c.state.waiting - 1) st → Moves h st c o r st'
  unfolding visited lent_become
  moves_kept mark e ek er es = rw e (er ∙ rw (ek, add-one c.state.visits, add-one c.state.kept) refl, es)

  pub moves_cut : {o : Outcome} (d : Direction) → 1 ≤ c.state.waiting → o ≡ Outcome.Cut d
      → r ≡ gone_on c (state (c.state.waiting + 1) c.state.kept (c.state.visits + 1) c.state.dropped) None
      → st' ≡ in_slot (cells h) (suc (c.state.waiting - 1)) (half_slot h lower (direction d) (top (boxed h) st c.state))
      (in_slot (cells h) (c.state.waiting - 1) (half_slot h upper (direction d) (top (boxed h) st c.state)) st)
      → Moves h st c o r st'
  unfolding visited lent_become
  moves_cut d low e er es =
      let q : suc (suc (c.state.waiting - 1)) ≡ c.state.waiting + 1 = omega arith in
      rw e (er ∙ rw (add-one c.state.visits, ← q) refl, es)

-- ---- a step, from what the code found due
module _ (h : Head) (st : List ℤ) (c : Cursor) {d : Result Outcome Word} (e : d ≡ due (boxed h) st c) where
  module _ {w : Word} (f : d ≡ Err w) where
    pub stop_cursor : halted c w ≡ (next (boxed h) st c).cursor
    stop_cursor = ap (λ (n : Rattle.waiting.specs.Steps.Next ℤ). n.cursor) (sym (next_by (boxed h) st c (Err w) (sym e ∙ f)))

    pub stop_store : st ≡ (next (boxed h) st c).store
    stop_store = ap (λ (n : Rattle.waiting.specs.Steps.Next ℤ). n.store) (sym (next_by (boxed h) st c (Err w) (sym e ∙ f)))

    pub stop_seen : Err w ≡ seen (boxed h) st c (due (boxed h) st c)
    stop_seen = ap (seen (boxed h) st c) (sym (sym e ∙ f))

  module _ {o : Outcome} (f : d ≡ Ok o) where
    pub may_make : Ready h st c → MayVisit h st c o
    may_make r = may_visit h st c r o (subst (SaysDue (boxed h) st c) (sym e ∙ f) (due_says (boxed h) st c))

    pub made : {r : Cursor} {st' : List ℤ} → Moves h st c o r st' → (r ≡ (next (boxed h) st c).cursor) × (st' ≡ (next (boxed h) st c).store)
    made m = rw (next_by (boxed h) st c (Ok o) (sym e ∙ f)) m

    pub visit_seen : Ok (visit_of (boxed h) (top (boxed h) st c.state) o) ≡ seen (boxed h) st c (due (boxed h) st c)
    visit_seen = ap (seen (boxed h) st c) (sym (sym e ∙ f))
