-- A run as a driver makes it (01, "Runs"): `step` again and again, each record stored where the cursor says. Definitions, and the statements that this is
-- `drive` of the lent machine, for any cells that are boxes, and that the rules allow every stop of a run from a state that they allow.
use Rattle.std.specs.Prelude.{◌≡◌, true, false, List, map, ℕ, zero, suc, ◌≤◌, ℤ, length, Some, Ok}
use Rattle.bernstein.specs.Numbers.{Box}
use Rattle.boxes.specs.Boxes.{as_box}
use Rattle.system.specs.declared.head.Head.{Head}
use Rattle.boxes.specs.declared.visit.Word.{Word}
use Rattle.system.specs.Heads.{Limits}
use Rattle.search.specs.Machine.{Answer, finished, spent, full, Turn, nothing, no_room, go, Stop, drive}
use Rattle.search.specs.Search.{Entry, entry}
use Rattle.search.specs.Lent.{Lent, lent}
use Rattle.waiting.specs.Cells.{Boxed, cells_of, cells}
use Rattle.waiting.specs.States.{needed, Allowed}
use Rattle.waiting.specs.States.{memory_of, state_of}
use Rattle.waiting.specs.Steps.{kept_of, put_in, goes, halted, top, due, Next, next, visit_of, seen}
use Rattle.waiting.specs.declared.state.State.{State}
use Rattle.waiting.specs.declared.cursor.Kept.{Kept}
use Rattle.waiting.specs.declared.cursor.Cursor.{Cursor}

-- a record of the list is an entry of the lent machine without its visit number
abbrev pub forget : Entry Box → Kept
forget e = kept_of e.place e.mark

-- and any record is one
abbrev pub remember : Kept → Entry Box
remember k = entry (as_box k.at) k.mark 0

abbrev pub word_of : Answer → Word
word_of finished = Word.Finished
word_of spent = Word.Spent
word_of full = Word.Full

-- what a driver has before a turn
pub record Way (A : Type 0) : Type 0 where
  pub list : List Kept
  pub store : List A
  pub cursor : Cursor

abbrev pub way : {A : Type 0} → List Kept → List A → Cursor → Way A
way list st c = record { list = list; store = st; cursor = c }

-- a step's record stored where it says
abbrev pub stored : {A : Type 0} → List Kept → Next A → Way A
stored list n = way (put_in list n.cursor.put) n.store n.cursor

-- the memory after a visit, every place of it, and the run goes on
pub record Visited {A : Type 0} (w : Way A) (f : Lent A Box) : Type 0 where
  pub store : w.store ≡ f.store
  pub list : w.list ≡ map forget f.list
  pub state : w.cursor.state ≡ state_of f
  pub goes : goes w.cursor ≡ true

-- the driver's end is the lent machine's stop: every place of both stores, the four counts and the word
pub record Ends {A : Type 0} (w : Way A) (r : Stop (Lent A Box)) : Type 0 where
  pub store : w.store ≡ r.state.store
  pub list : w.list ≡ map forget r.state.list
  pub state : w.cursor.state ≡ state_of r.state
  pub word : w.cursor.word ≡ Some (word_of r.answer)

module _ {A : Type 0} (K : Boxed A) where
  -- a turn of the driver
  abbrev pub turned : Way A → Way A
  turned w = stored w.list (next K w.store w.cursor)

  -- as long as the cursor says so, with `fuel` turns at most
  unfoldable pub went : (fuel : ℕ) → Way A → Way A
  went zero w = w
  went (suc f) w = elim (goes w.cursor) [ true ↦ went f (turned w) | false ↦ w ]

  -- One turn from a cursor with some budget is one turn of the lent machine: where nothing waits, or the list has no room for the box, nothing changes; else
  -- the top box is visited, and the visit is told: that box, and what the rules say of it.
  abbrev pub OneTurn : List (Entry Box) → List A → Cursor → Turn → Type 0
  OneTurn list st c nothing = turned (way (map forget list) st c) ≡ way (map forget list) st (halted c Word.Finished)
  OneTurn list st c no_room = turned (way (map forget list) st c) ≡ way (map forget list) st (halted c Word.Full)
  OneTurn list st c go =
      Visited (turned (way (map forget list) st c)) ((lent (cells_of K)).visit (memory_of st list c.state))
      × (seen K st c (due K st c) ≡ Ok (visit_of K (top K st c.state) (K.says (top K st c.state))))

abbrev pub TurnTurns : Type 1
TurnTurns = (A : Type 0) (K : Boxed A) (list : List (Entry Box)) (st : List A) (c : Cursor) → 1 ≤ c.left → c.room ≡ length list → c.state.kept ≤ c.room
    → OneTurn K list st c ((lent (cells_of K)).turn c.room (memory_of st list c.state))

-- With one turn more than the budget a driver ends where `drive` stops, for every list of entries that the records are.
abbrev pub RunDrives : Type 1
RunDrives = (A : Type 0) (K : Boxed A) (list : List (Entry Box)) (st : List A) (c : Cursor) → goes c ≡ true → c.room ≡ length list → c.state.kept ≤ c.room
    → Ends (went K (suc c.left) (way (map forget list) st c)) (drive (lent (cells_of K)) c.left c.room (memory_of st list c.state))

-- Every stop of a run from an allowed state is allowed again, as long as its visits stay within 2^31 - 1.
pub record Stays (h : Head) (room : ℕ) (f : Lent ℤ Box) : Type 0 where
  pub long : needed h ≤ length f.store
  pub places : length f.list ≡ room
  pub allowed : f.visits ≤ 2147483647 → Allowed h (state_of f) f.store room

abbrev pub StopsAllowed : Type 0
StopsAllowed = (h : Head) (s : State) (st : List ℤ) (list : List (Entry Box)) → Limits h → needed h ≤ length st → Allowed h s st (length list)
    → (budget : ℕ) → Stays h (length list) (drive (lent (cells h)) budget (length list) (memory_of st list s)).state
