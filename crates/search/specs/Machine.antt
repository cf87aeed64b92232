-- A run of visits, whatever a state is: on lists of cells, and on the lent memory that holds them.
-- Definitions only: what a machine is, its run with a budget and a room, the log of the run, calls that continue one another, two runs in step.
use Rattle.std.specs.Prelude.{◌≡◌, List, [], ◌++◌, ℕ, zero, suc, ◌≤◌}
use Rattle.search.specs.Lists.{Both}

-- 01, Runs: the answer words.
pub data Answer : Type 0 where
  finished spent full : Answer

-- What the rules say before a visit, the budget aside: nothing waits, the top would be kept and the list has no room, or the visit is made.
pub data Turn : Type 0 where
  nothing no_room go : Turn

pub record Machine : Type 1 where
  pub State : Type 0
  pub Note : Type 0
  pub turn : (room : ℕ) → State → Turn
  pub visit : State → State
  -- what the log has of the visit made in a state
  pub note : State → List Note

pub record Stop (State : Type 0) : Type 0 where
  pub state : State
  pub answer : Answer

abbrev pub stop : {State : Type 0} → State → Answer → Stop State
stop s a = record { state = s; answer = a }

-- 01, Runs. Before each visit, in this order: nothing waits, finished; the budget is used up, spent; the top would be kept and the list has no room, full.
unfoldable pub drive : (M : Machine) (budget room : ℕ) → M.State → Stop M.State
drive M zero room s = elim (M.turn room s) [ nothing ↦ stop s finished | no_room ↦ stop s spent | go ↦ stop s spent ]
drive M (suc b) room s = elim (M.turn room s) [ nothing ↦ stop s finished | no_room ↦ stop s full | go ↦ drive M b room (M.visit s) ]

-- The visits that a run makes, the first first.
unfoldable pub trace : (M : Machine) (budget room : ℕ) → M.State → List M.Note
trace M zero room s = []
trace M (suc b) room s = elim (M.turn room s) [ nothing ↦ [] | no_room ↦ [] | go ↦ M.note s ++ trace M b room (M.visit s) ]

-- `t` was reached from `s` by calls, each from the state in which the one before stopped, with room that never shrinks. `room`: the last call's.
pub data Called (M : Machine) (s : M.State) : (room : ℕ) → M.State → Type 0 where
  first : (budget room : ℕ) → Called M s room (drive M budget room s).state
  again : {before : ℕ} {t : M.State} → Called M s before t → (budget room : ℕ) → before ≤ room → Called M s room (drive M budget room t).state

-- Two runs in step: the same answer, states related by `R`, logs related by `Q` visit by visit.
pub record BothStop {A B X Y : Type 0} (R : A → B → Type 0) (Q : X → Y → Type 0) (r : Stop A) (h : List X) (q : Stop B) (g : List Y) : Type 0 where
  pub answer : r.answer ≡ q.answer
  pub state : R r.state q.state
  pub log : Both Q h g
