-- One step of a run (01, "One visit", "Runs"): the cursor and the store, by the lent machine, for any cells that are boxes; those of a system are `boxed h`.
-- The list is not here: the step says which record goes where. Definitions only.
use Rattle.std.specs.Prelude.{◌≡◌, Bool, cond, List, [], ℕ, ◌+◌, ◌-◌, ◌*◌, ◌^◌, ◌≤◌, ◌<◌, leb, eqb, ℤ, length, set, is_none, Option, Some, None, Result, Ok, Err}
use Rattle.bernstein.specs.Numbers.{Box, unit}
use Rattle.system.specs.declared.head.Head.{Head}
use Rattle.boxes.specs.declared.half.Direction.{Direction}
use Rattle.boxes.specs.declared.visit.Outcome.{Outcome}
use Rattle.boxes.specs.declared.visit.Visit.{Visit}
use Rattle.boxes.specs.declared.visit.Word.{Word}
use Rattle.system.specs.Heads.{width, Limits}
use Rattle.boxes.specs.Boxes.{from_box}
use Rattle.slots.specs.Slots.{SlotFits}
use Rattle.search.specs.Lent.{slot, Lent, lent_become}
use Rattle.waiting.specs.declared.state.State.{State}
use Rattle.waiting.specs.declared.cursor.Kept.{Kept}
use Rattle.waiting.specs.declared.cursor.Cursor.{Cursor}
use Rattle.waiting.specs.Cells.{as_look, Boxed, cells_of, boxed}
use Rattle.waiting.specs.States.{memory_of, state_of, needed, SlotAllowed, MayCut}

-- ---- records of the list
abbrev pub kept_of : Box → ℕ → Kept
kept_of b mark = record { at = from_box b; mark = mark }

-- a record of zeros
abbrev pub nothing_kept : Kept
nothing_kept = kept_of unit 0

-- a list after a record was put in its place, if there is one
abbrev pub put_in : List Kept → Option (ℕ × Kept) → List Kept
put_in list None = list
put_in list (Some p) = set list p.0 p.1

-- ---- the cursor: whether it goes on, and where a call begins, stops, and goes on
abbrev pub goes : Cursor → Bool
goes c = is_none c.word

abbrev pub begun : State → (budget room : ℕ) → Cursor
begun s budget room = record { state = s; left = budget; room = room; put = None; word = None }

abbrev pub halted : Cursor → Word → Cursor
halted c w = record { state = c.state; left = c.left; room = c.room; put = None; word = Some w }

abbrev pub gone_on : Cursor → State → Option (ℕ × Kept) → Cursor
gone_on c s p = record { state = s; left = c.left - 1; room = c.room; put = p; word = None }

-- ---- for an outcome
-- the visit is made, unless the box would be kept and the list has no room
abbrev pub for_room : (kept room : ℕ) → Outcome → Result Outcome Word
for_room kept room (Outcome.Dropped p s) = Ok (Outcome.Dropped p s)
for_room kept room (Outcome.Kept mark) = cond (leb room kept) (Err Word.Full) (Ok (Outcome.Kept mark))
for_room kept room (Outcome.Cut r) = Ok (Outcome.Cut r)

-- what a step leaves
pub record Next (A : Type 0) : Type 0 where
  pub cursor : Cursor
  pub store : List A

module _ {A : Type 0} (K : Boxed A) where
  -- ---- what is due before a visit: nothing waits, finished; the budget is used up, spent; the top box would be kept and the list has no room, full
  abbrev pub top : List A → State → List A
  top st s = slot K.width (s.waiting - 1) st

  unfoldable pub due : List A → Cursor → Result Outcome Word
  due st c =
      cond (eqb c.state.waiting 0) (Err Word.Finished)
      (cond (eqb c.left 0) (Err Word.Spent) (for_room c.state.kept c.room (K.says (top st c.state))))

  -- ---- a visit of the top box, of which the rules say o
  -- the record of a box that is kept, and its place: behind those kept before
  abbrev pub put_for : List A → Cursor → Outcome → Option (ℕ × Kept)
  put_for l c (Outcome.Dropped p s) = None
  put_for l c (Outcome.Kept mark) = Some (c.state.kept, kept_of (K.box l) mark)
  put_for l c (Outcome.Cut r) = None

  -- a visit's store and counts do not look at the list
  unfoldable pub visited : List A → State → Outcome → Lent A Box
  visited st s o = lent_become (cells_of K) (s.waiting - 1) (memory_of st [] s) (as_look o)

  abbrev pub moved : List A → Cursor → Outcome → Next A
  moved st c o = record {
    cursor = gone_on c (state_of (visited st c.state o)) (put_for (top st c.state) c o);
    store = (visited st c.state o).store;
  }

  -- ---- one step
  abbrev pub by_due : List A → Cursor → Result Outcome Word → Next A
  by_due st c (Err w) = record { cursor = halted c w; store = st }
  by_due st c (Ok o) = moved st c o

  unfoldable pub next : List A → Cursor → Next A
  next st c = by_due st c (due st c)

  -- ---- what a visit answers: the box, and what became of it; or the word of a stop
  abbrev pub visit_of : List A → Outcome → Visit
  visit_of l o = record { at = from_box (K.box l); what = o }

  abbrev pub seen : List A → Cursor → Result Outcome Word → Result Visit Word
  seen st c (Err w) = Err w
  seen st c (Ok o) = Ok (visit_of (top st c.state) o)

-- ---- what a step is given: a state that the rules allow, and a budget that its count of visits has room for
pub record Ready (h : Head) (st : List ℤ) (c : Cursor) : Type 0 where
  pub limits : Limits h
  pub long : needed h ≤ length st
  pub slots : (p : ℕ) → p < c.state.waiting → SlotAllowed h p (slot (width h) p st)
  pub kept_high : c.state.kept ≤ c.room
  pub room_fits : c.room < 2 ^ 64
  pub dropped_high : c.state.dropped ≤ c.state.visits
  pub visits_fit : c.state.visits + c.left < 2 ^ 63

-- A visit that may be made: something waits, the budget is not used up, a box that is kept has room in the list, one that is cut has a slot above.
pub record MayVisit (h : Head) (st : List ℤ) (c : Cursor) (o : Outcome) : Type 0 where
  pub ready : Ready h st c
  pub waits : 1 ≤ c.state.waiting
  pub budget : 1 ≤ c.left
  pub inside : (c.state.waiting - 1) * width h + width h ≤ length st
  pub fits : SlotFits h (top (boxed h) st c.state)
  pub has_room : (mark : ℕ) → o ≡ Outcome.Kept mark → c.state.kept < c.room
  pub has_slot : (r : Direction) → o ≡ Outcome.Cut r
      → ((c.state.waiting - 1) * width h + width h + width h ≤ length st) × MayCut h r (top (boxed h) st c.state)
