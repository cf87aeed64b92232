-- A start (01, "Runs", "Refusal numbers", Start: 4, 9 for short coefficients, 6, 9 for a short store): its chain of tests, its answer, and every place of
-- the store afterwards. Definitions, and the statement that the rules allow what it leaves.
use Rattle.std.specs.Prelude.{◌≡◌, List, ◌++◌, ℕ, ◌*◌, leb, ℤ, pos, length, take, drop, replicate, Result, Ok, Err, ⊤}
use Rattle.system.specs.declared.refusal.Refusal.{Refusal}
use Rattle.system.specs.declared.head.Head.{Head}
use Rattle.system.specs.declared.refusal.Refused.{Refused}
use Rattle.system.specs.Heads.{places, depth, width, checked}
use Rattle.slots.specs.Slots.{unit_slot}
use Rattle.slots.specs.Rules.{every, within}
use Rattle.system.specs.Chain.{test, ◌then◌}
use Rattle.waiting.specs.States.{needed, Allowed}
use Rattle.waiting.specs.declared.state.State.{State}

-- coefficients beyond m × S are not looked at
unfoldable pub start_check : Head → (coefficients store : List ℤ) → Result ⊤ Refused
start_check h cs st =
    checked h
    then test (leb (places h) (length cs)) Refusal.TooShort 0
    then test (every (within 1000000000) (take (places h) cs)) Refusal.BadCoefficient 0
    then test (leb (needed h) (length st)) Refusal.TooShort 0

-- its counts are 1, 0, 0, 0
abbrev pub fresh_state : State
fresh_state = record { waiting = 1; kept = 0; visits = 0; dropped = 0 }

-- the unit box in slot 0, zeros in the other D slots, and nothing beyond
unfoldable pub fresh_store : Head → (coefficients store : List ℤ) → List ℤ
fresh_store h cs st = unit_slot h cs ++ (replicate (depth h * width h) (pos 0) ++ drop (needed h) st)

abbrev pub start_answer : Result ⊤ Refused → Result State Refused
start_answer (Ok u) = Ok fresh_state
start_answer (Err w) = Err w

-- a refusal changes nothing
abbrev pub start_store : Head → (coefficients store : List ℤ) → Result ⊤ Refused → List ℤ
start_store h cs st (Ok u) = fresh_store h cs st
start_store h cs st (Err w) = st

-- A start leaves a state that the rules allow, for a list of any length.
abbrev pub StartAllowed : Type 0
StartAllowed = (h : Head) (cs st : List ℤ) → start_check h cs st ≡ Ok tt → (room : ℕ) → Allowed h fresh_state (fresh_store h cs st) room
