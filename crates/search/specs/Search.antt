-- A search that cuts cells: what a search is (`Search`), where it stands (`State`), one visit (`visit`), a run (`run`) and its log (`log`).
-- Nothing is said here of boxes, triangles or polynomials: they are values of `Search`. Definitions only.
use Rattle.std.specs.Prelude.{List, [], ◌∷◌, ◌++◌, length, ℕ, zero, suc, ◌-◌}
use Rattle.whole.specs.Half.{Half, lower, upper}
use Rattle.search.specs.Machine.{Machine, Turn, nothing, no_room, go, Stop, drive, trace}

-- 01, One visit: a cell is dropped, kept with a mark, or cut. `Drop` and `Cut` say by what.
pub data Look (Drop Cut : Type 0) : Type 0 where
  is_dropped : Drop → Look Drop Cut
  is_kept : ℕ → Look Drop Cut
  is_cut : Cut → Look Drop Cut

pub record Search : Type 1 where
  -- a waiting cell with its numbers
  pub Node : Type 0
  -- a cell without them, as the kept list has it
  pub Place : Type 0
  pub Drop : Type 0
  pub Cut : Type 0
  pub place : Node → Place
  pub look : Node → Look Drop Cut
  -- the halves of a cell, cut so
  pub half : Half → Cut → Node → Node

-- 01, Runs: a kept cell and its mark, with the number of the visit that kept it, counted from 1.
pub record Entry (Place : Type 0) : Type 0 where
  pub place : Place
  pub mark : ℕ
  pub visit : ℕ

abbrev pub entry : {Place : Type 0} → Place → ℕ → ℕ → Entry Place
entry p m v = record { place = p; mark = m; visit = v }

-- 01, Runs: where a search stands. waiting: the top first. kept: the oldest first.
pub record State (Node Place : Type 0) : Type 0 where
  pub waiting : List Node
  pub kept : List (Entry Place)
  pub visits : ℕ
  pub dropped : ℕ

abbrev pub state : {Node Place : Type 0} → List Node → List (Entry Place) → ℕ → ℕ → State Node Place
state w k v d = record { waiting = w; kept = k; visits = v; dropped = d }

-- The same state with `n` waiting over all others.
abbrev pub with_top : {Node Place : Type 0} → Node → State Node Place → State Node Place
with_top n s = state (n ∷ s.waiting) s.kept s.visits s.dropped

abbrev pub States : Search → Type 0
States S = State S.Node S.Place

-- 01, Runs: a start. The root waits, and the counts are 1, 0, 0, 0.
abbrev pub start : (S : Search) → S.Node → States S
start S root = state (root ∷ []) [] 0 0

-- 01, One visit. The cell `n`, taken from the top of what waits in `s`, becomes what the rules say. The upper half waits under the lower half.
unfoldable pub become : (S : Search) → S.Node → States S → Look S.Drop S.Cut → States S
become S n s (is_dropped _) = state s.waiting s.kept (suc s.visits) (suc s.dropped)
become S n s (is_kept mark) = state s.waiting (s.kept ++ (entry (S.place n) mark (suc s.visits) ∷ [])) (suc s.visits) s.dropped
become S n s (is_cut c) = state (S.half lower c n ∷ S.half upper c n ∷ s.waiting) s.kept (suc s.visits) s.dropped

-- One visit. Where nothing waits it changes nothing.
unfoldable pub visit : (S : Search) → States S → States S
visit S s = elim s.waiting [ [] ↦ s | n ∷ rest ↦ become S n (state rest s.kept s.visits s.dropped) (S.look n) ]

-- 01, Runs: a visit is made unless the top would be kept and the list has no room. `spare`: the places of the list that are free.
unfoldable pub turn_look : {Drop Cut : Type 0} → (spare : ℕ) → Look Drop Cut → Turn
turn_look spare (is_dropped _) = go
turn_look zero (is_kept _) = no_room
turn_look (suc _) (is_kept _) = go
turn_look spare (is_cut _) = go

unfoldable pub turn_top : (S : Search) (spare : ℕ) → List S.Node → Turn
turn_top S spare [] = nothing
turn_top S spare (n ∷ _) = turn_look spare (S.look n)

-- What the rules say before a visit, the budget aside.
unfoldable pub turn : (S : Search) (room : ℕ) → States S → Turn
turn S room s = turn_top S (room - length s.kept) s.waiting

-- One visit of the log: the cell, and what became of it.
pub record Seen (Node Drop Cut : Type 0) : Type 0 where
  pub node : Node
  pub what : Look Drop Cut

abbrev pub seen : {Node Drop Cut : Type 0} → Node → Look Drop Cut → Seen Node Drop Cut
seen n l = record { node = n; what = l }

abbrev pub Visit : Search → Type 0
Visit S = Seen S.Node S.Drop S.Cut

abbrev pub Log : Search → Type 0
Log S = List (Visit S)

-- The visit that is due, as the log has it. The log is no part of the state: it is what the claims speak of.
unfoldable pub due : (S : Search) → List S.Node → Log S
due S [] = []
due S (n ∷ _) = seen n (S.look n) ∷ []

abbrev pub searching : Search → Machine
searching S = record { State = States S; Note = Visit S; turn = turn S; visit = visit S; note = λ s. due S s.waiting }

-- 01, Runs, on lists of cells.
abbrev pub run : (S : Search) (budget room : ℕ) → States S → Stop (States S)
run S budget room s = drive (searching S) budget room s

abbrev pub log : (S : Search) (budget room : ℕ) → States S → Log S
log S budget room s = trace (searching S) budget room s
