-- The demands on runs and visits in what the caller is told and holds: the state, the list's records and the waiting store. Statements; the proofs are in
-- proofs/Told.
--
--     first_run            one call from a fresh start
--     ReachedContinued     what a caller reached by several calls is what one fresh call reaches
--     RunsGoOn             of two fresh calls, the one with more visits and more room goes on from the other
--     VisitTellsSign       a box that a visit says it dropped has the polynomial and the sign that it names
use Rattle.std.specs.Prelude.{◌≡◌, List, ◌⊎◌, ℕ, ◌≤◌, ℤ, length, take, Ok}
use Rattle.bernstein.specs.Numbers.{Box}
use Rattle.system.specs.declared.head.Head.{Head}
use Rattle.whole.specs.declared.Sign.{Sign}
use Rattle.boxes.specs.declared.visit.Outcome.{Outcome}
use Rattle.boxes.specs.declared.visit.Word.{Word}
use Rattle.boxes.specs.Boxes.{as_box}
use Rattle.system.specs.Heads.{width}
use Rattle.slots.specs.Slots.{box_in}
use Rattle.search.specs.Lists.{All, Any}
use Rattle.search.specs.Lent.{stack}
use Rattle.waiting.specs.declared.state.State.{State}
use Rattle.waiting.specs.declared.cursor.Kept.{Kept}
use Rattle.waiting.specs.Fits.{InsideBox}
use Rattle.waiting.specs.Starts.{start_check, start_store, fresh_state}
use Rattle.runs.specs.declared.runs.Stop.{Stop}
use Rattle.runs.specs.declared.visits.Seen.{Seen}
use Rattle.runs.specs.declared.visits.Answer as Visit
use Rattle.runs.specs.Runs.{Run, run_of}
use Rattle.runs.specs.Visits.{visit_of}
use Rattle.runs.specs.Tables.{box_of}
use Rattle.claims.specs.Demands.{OneSign}
use Rattle.claims.specs.Reached.{Reached}

-- `start` on the store st, then one call of `run`
abbrev pub first_run : Head → (coefficients store : List ℤ) → (budget : ℕ) → List Kept → Run
first_run h cs st budget list = run_of h fresh_state budget list (start_store h cs st (start_check h cs st))

-- "it then ends in the state that one fresh call reaches with all the visits made and the last list": the counts, the whole store and every kept record. (The
-- word may be another.)
pub record EndsSo (r : Run) (s : State) (list : List Kept) (store : List ℤ) : Type 0 where
  pub word : Word
  pub answer : r.answer ≡ Ok (record { word = word; state = s })
  pub store_is : r.end.store ≡ store
  pub kept_are : take s.kept r.end.list ≡ take s.kept list

abbrev pub ReachedContinued : Type 0
ReachedContinued = (h : Head) (cs st : List ℤ) (s : State) (list : List Kept) (store : List ℤ) → Reached h cs st s list store
    → (list' : List Kept) → length list' ≡ length list → EndsSo (first_run h cs st s.visits list') s list store

-- the box lies inside a waiting slot's box, or inside the box of one of the first `kept` records
abbrev pub LiesAmong : Head → Box → State → List Kept → (store : List ℤ) → Type 0
LiesAmong h b s list store =
    Any (λ l. InsideBox h b (box_in l)) (stack (width h) s.waiting store) ⊎ Any (λ k. InsideBox h b (as_box (box_of k))) (take s.kept list)

-- "begins its kept list with the other's whole list, and each of its kept or waiting boxes lies inside a kept or waiting box of the other"
pub record GoesOn (h : Head) (s : State) (list : List Kept) (store : List ℤ) (s' : State) (list' : List Kept) (store' : List ℤ) : Type 0 where
  pub more : s.kept ≤ s'.kept
  pub begins : take s.kept list' ≡ take s.kept list
  pub waiting_in : All (λ l. LiesAmong h (box_in l) s list store) (stack (width h) s'.waiting store')
  pub kept_in : All (λ k. LiesAmong h (as_box (box_of k)) s list store) (take s'.kept list')

abbrev pub RunsGoOn : Type 0
RunsGoOn = (h : Head) (cs st st' : List ℤ) → start_check h cs st ≡ Ok tt → start_check h cs st' ≡ Ok tt
    → (budget budget' : ℕ) (list list' : List Kept) → budget ≤ budget' → length list ≤ length list'
    → (r r' : Stop) → (first_run h cs st budget list).answer ≡ Ok r → (first_run h cs st' budget' list').answer ≡ Ok r'
    → let e = (first_run h cs st budget list).end in
    let e' = (first_run h cs st' budget' list').end in
    GoesOn h r.state e.list e.store r'.state e'.list e'.store

-- "each dropped box has one polynomial with the same strict sign at all its rational points": those that the visit tells
abbrev pub VisitTellsSign : Type 0
VisitTellsSign = (h : Head) (cs st : List ℤ) (s : State) (list : List Kept) (store : List ℤ) → Reached h cs st s list store
    → (v : Seen) → (visit_of h s list store).answer ≡ Ok (Visit.Answer.Saw v) → (p : ℕ) (g : Sign) → v.visit.what ≡ Outcome.Dropped p g
    → OneSign h cs (as_box v.visit.at) p g
