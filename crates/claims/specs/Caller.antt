-- What the caller's `run` and `visit` do: the definitions that their contracts cite are one call, and one visit, of the lent machine, after the checks in 01's
-- order; a visit is a run with a budget of one; a refusal changes nothing. So the demands, which speak of the lent machine, speak of what the caller gets.
-- Statements; the proofs are in proofs/Caller.
use Rattle.std.specs.Prelude.{◌≡◌, List, map, ℕ, ℤ, length, Result, Ok, Err}
use Rattle.bernstein.specs.Numbers.{Box}
use Rattle.system.specs.declared.head.Head.{Head}
use Rattle.system.specs.declared.refusal.Refused.{Refused}
use Rattle.boxes.specs.declared.visit.Word.{Word}
use Rattle.slots.specs.Rules.{looked}
use Rattle.search.specs.Machine.{Turn, nothing, no_room, go}
use Rattle.search.specs.Search.{Entry}
use Rattle.search.specs.Lent.{lent}
use Rattle.waiting.specs.declared.state.State.{State}
use Rattle.waiting.specs.declared.cursor.Kept.{Kept}
use Rattle.waiting.specs.Cells.{boxed, cells}
use Rattle.waiting.specs.States.{judged}
use Rattle.waiting.specs.States.{memory_of, state_of}
use Rattle.waiting.specs.Steps.{top, visit_of as seen_in}
use Rattle.waiting.specs.Runs.{Way, forget, word_of}
use Rattle.runs.specs.declared.runs.Stop.{Stop}
use Rattle.runs.specs.declared.visits.Answer as Visit
use Rattle.runs.specs.declared.visits.Answer.TheVariants.{Saw, Stopped as NotMade}
use Rattle.runs.specs.Runs.{Run, run_of}
use Rattle.runs.specs.Visits.{One, visit_of}
use Rattle.claims.specs.Calls.{Memory, called}

-- the list and the store, every place: a record of the list is an entry without its visit number
pub record Leaves (w : Way ℤ) (f : Memory) : Type 0 where
  pub list : w.list ≡ map forget f.list
  pub store : w.store ≡ f.store

-- ---- a run: the answer, the list and the store of a stop
pub record Gives (r : Run) (h : Head) (budget : ℕ) (f : Memory) : Type 0 where
  pub answer : r.answer ≡ Ok (record { word = word_of (called h budget f).answer; state = state_of (called h budget f).state })
  pub leaves : Leaves r.end (called h budget f).state

-- for every list of entries that the records are
abbrev pub RunIsACall : Type 0
RunIsACall = (h : Head) (s : State) (budget : ℕ) (list : List (Entry Box)) (st : List ℤ) → judged h s st (map forget list) ≡ Ok tt
    → Gives (run_of h s budget (map forget list) st) h budget (memory_of st list s)

-- ---- a visit, by what the rules say before it
-- "Where nothing waits, or the box would be kept and the list has no room, it answers finished or full and changes nothing"; else the top box is visited, and
-- told: that box and what the rules say of its numbers, with the state after the visit
abbrev pub Tells : One → Head → Memory → Turn → Type 0
Tells r h f nothing = (r.answer ≡ Ok (Visit.Answer.Stopped Word.Finished)) × Leaves r.end f
Tells r h f no_room = (r.answer ≡ Ok (Visit.Answer.Stopped Word.Full)) × Leaves r.end f
Tells r h f go =
    let box = top (boxed h) f.store (state_of f) in
    let after = (lent (cells h)).visit f in
    (r.answer ≡ Ok (Visit.Answer.Saw (record { state = state_of after; visit = seen_in (boxed h) box (looked h box) }))) × Leaves r.end after

abbrev pub VisitIsAVisit : Type 0
VisitIsAVisit = (h : Head) (s : State) (list : List (Entry Box)) (st : List ℤ) → judged h s st (map forget list) ≡ Ok tt
    → Tells (visit_of h s (map forget list) st) h (memory_of st list s) ((lent (cells h)).turn (length list) (memory_of st list s))

-- what a visit and a run with a budget of one answer, from the state s: the same counts; the same word where no visit is made; the same refusal
abbrev pub Agree : State → Result Visit.Answer Refused → Result Stop Refused → Type 0
Agree s (Ok (Saw v)) (Ok r) = v.state ≡ r.state
Agree s (Ok (NotMade w)) (Ok r) = (w ≡ r.word) × (s ≡ r.state)
Agree s (Err x) (Ok r) = ⊥
Agree s (Ok (Saw v)) (Err y) = ⊥
Agree s (Ok (NotMade w)) (Err y) = ⊥
Agree s (Err x) (Err y) = x ≡ y

-- "Its refusals are a run's", and so is everything else that it does
pub record SameEffects (s : State) (v : One) (r : Run) : Type 0 where
  pub answers : Agree s v.answer r.answer
  pub list : v.end.list ≡ r.end.list
  pub store : v.end.store ≡ r.end.store

abbrev pub VisitIsARun : Type 0
VisitIsARun = (h : Head) (s : State) (list : List Kept) (st : List ℤ) → SameEffects s (visit_of h s list st) (run_of h s 1 list st)

-- ---- "All return the number and an offset and change nothing lent"
pub record Unmoved (w : Way ℤ) (list : List Kept) (st : List ℤ) : Type 0 where
  pub list_stays : w.list ≡ list
  pub store_stays : w.store ≡ st

abbrev pub RefusalChangesNothing : Type 0
RefusalChangesNothing = (h : Head) (s : State) (list : List Kept) (st : List ℤ) (x : Refused) → judged h s st list ≡ Err x
    → ((budget : ℕ) → ((run_of h s budget list st).answer ≡ Err x) × Unmoved (run_of h s budget list st).end list st)
    × (((visit_of h s list st).answer ≡ Err x) × Unmoved (visit_of h s list st).end list st)
