-- What a caller reaches by the library's own calls, from a start on: every such state and its stores are lent memory as the demands have it (`Begun`), so every
-- demand holds of it, and no call from it is refused. Statements; the proofs are in proofs/Reached.
use Rattle.std.specs.Prelude.{◌≡◌, List, map, ◌⊎◌, ℕ, ◌≤◌, ◌<◌, ℤ, length, take, Ok}
use Rattle.bernstein.specs.Numbers.{unit}
use Rattle.system.specs.declared.head.Head.{Head}
use Rattle.boxes.specs.Boxes.{as_box}
use Rattle.system.specs.Heads.{width}
use Rattle.slots.specs.Slots.{box_in}
use Rattle.search.specs.Lists.{Any}
use Rattle.search.specs.Lent.{slot, stack}
use Rattle.waiting.specs.declared.state.State.{State}
use Rattle.waiting.specs.declared.cursor.Kept.{Kept}
use Rattle.waiting.specs.Fits.{Fit, Point, LiesIn, CommonZero}
use Rattle.waiting.specs.States.{SlotAllowed, judged}
use Rattle.waiting.specs.Starts.{start_check, start_answer, start_store}
use Rattle.waiting.specs.States.{state_of}
use Rattle.waiting.specs.Runs.{forget}
use Rattle.runs.specs.declared.runs.Stop.{Stop}
use Rattle.runs.specs.declared.visits.Seen.{Seen}
use Rattle.runs.specs.declared.visits.Answer as Visit
use Rattle.runs.specs.Runs.{run_of}
use Rattle.runs.specs.Visits.{visit_of}
use Rattle.runs.specs.Tables.{box_of}
use Rattle.claims.specs.Calls.{Memory, Begun}

-- The state that the caller has, and what the list and the waiting store hold: after a start, a run or a visit that was not refused, each as its contract says
-- it; and with a longer list that begins with the same kept records.
pub data Reached (h : Head) (cs st : List ℤ) : State → (list : List Kept) (store : List ℤ) → Type 0 where
  by_start : (s : State) (list : List Kept) → start_answer (start_check h cs st) ≡ Ok s
      → Reached h cs st s list (start_store h cs st (start_check h cs st))
  by_run : {s : State} {list : List Kept} {store : List ℤ} → Reached h cs st s list store → (budget : ℕ) (r : Stop)
      → (run_of h s budget list store).answer ≡ Ok r
      → Reached h cs st r.state (run_of h s budget list store).end.list (run_of h s budget list store).end.store
  by_visit : {s : State} {list : List Kept} {store : List ℤ} → Reached h cs st s list store → (v : Seen)
      → (visit_of h s list store).answer ≡ Ok (Visit.Answer.Saw v)
      → Reached h cs st v.state (visit_of h s list store).end.list (visit_of h s list store).end.store
  with_longer : {s : State} {list : List Kept} {store : List ℤ} → Reached h cs st s list store → (next : List Kept)
      → take s.kept list ≡ take s.kept next → length list ≤ length next
      → Reached h cs st s next store

-- f is that state and those stores: an entry has its visit number besides
pub record Shows (f : Memory) (s : State) (list : List Kept) (store : List ℤ) : Type 0 where
  pub state : state_of f ≡ s
  pub list_is : map forget f.list ≡ list
  pub store_is : f.store ≡ store

pub record StandsFor (h : Head) (cs st : List ℤ) (s : State) (list : List Kept) (store : List ℤ) : Type 0 where
  pub accepted : start_check h cs st ≡ Ok tt
  pub memory : Memory
  pub begun : Begun h cs st memory
  pub shows : Shows memory s list store

-- the demands are about every state that a caller reaches
abbrev pub ReachedIsBegun : Type 0
ReachedIsBegun = (h : Head) (cs st : List ℤ) (s : State) (list : List Kept) (store : List ℤ) → Reached h cs st s list store → StandsFor h cs st s list store

-- "A run may be continued from its state": the check lets every state through that a caller reaches, so no run and no visit from it is refused
abbrev pub NeverRefused : Type 0
NeverRefused = (h : Head) (cs st : List ℤ) (s : State) (list : List Kept) (store : List ℤ) → Reached h cs st s list store
    → judged h s store list ≡ Ok tt

-- Demands 2 and 3 in the caller's own terms, of the state, the list and the store that a call left: each waiting slot has exact numbers; and every common zero of
-- the unit box lies in a waiting slot's box or in the box of one of the first `kept` records.
abbrev pub ReachedExact : Type 0
ReachedExact = (h : Head) (cs st : List ℤ) (s : State) (list : List Kept) (store : List ℤ) → Reached h cs st s list store
    → (p : ℕ) → p < s.waiting → Fit h cs (slot (width h) p store) × SlotAllowed h p (slot (width h) p store)

abbrev pub ReachedHolds : Type 0
ReachedHolds = (h : Head) (cs st : List ℤ) (s : State) (list : List Kept) (store : List ℤ) → Reached h cs st s list store
    → (x : Point) → LiesIn h x unit → CommonZero h cs x
    → Any (λ l. LiesIn h x (box_in l)) (stack (width h) s.waiting store) ⊎ Any (λ k. LiesIn h x (as_box (box_of k))) (take s.kept list)
