-- Lent memory as a call of a run finds it: as a start left it, or as an earlier call did; and what the call makes of it, by the definitions that the contracts
-- of `start` and `run` cite. What a call is, whatever a cell is made of, stands in search/Lent. Definitions only.
use Rattle.std.specs.Prelude.{List, ℕ, ℤ}
use Rattle.bernstein.specs.Numbers.{Box}
use Rattle.system.specs.declared.head.Head.{Head}
use Rattle.search.specs.Machine.{Stop}
use Rattle.search.specs.Search.{Entry, States, Log}
use Rattle.search.specs.Lent
use Rattle.search.specs.Lent.{Lent, memory, slots, held}
use Rattle.waiting.specs.Cells.{cells}
use Rattle.waiting.specs.Starts.{fresh_store}

abbrev pub Memory : Type 0
Memory = Lent ℤ Box

-- the waiting store as a start leaves it, a list, and the counts 1, 0, 0, 0
abbrev pub fresh : Head → (coefficients store : List ℤ) → List (Entry Box) → Memory
fresh h cs st list = memory (fresh_store h cs st) list 1 0 0 0

-- one call: where it stops, and the visits that it makes
abbrev pub called : Head → (budget : ℕ) → Memory → Stop Memory
called h = Lent.called (cells h)

abbrev pub visits_made : (h : Head) → (budget : ℕ) → Memory → Log (slots (cells h))
visits_made h = Lent.visits_made (cells h)

-- from that start on
abbrev pub Begun : Head → (coefficients store : List ℤ) → Memory → Type 0
Begun h cs st = Lent.Begun (cells h) (fresh_store h cs st)

-- the waiting boxes and the kept ones, as the search has them
abbrev pub boxes_of : (h : Head) → Memory → States (slots (cells h))
boxes_of h f = held (cells h) f
