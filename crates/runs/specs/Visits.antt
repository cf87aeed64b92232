-- One visit (01, "One visit"): the state is checked, and where it is good one step is made and its record stored. It answers with the visit, or with finished or
-- full, which change nothing; a refusal moves nothing. Definitions only.
use Rattle.std.specs.Prelude.{List, ℤ, length, Result, Ok, Err, ⊤}
use Rattle.system.specs.declared.head.Head.{Head}
use Rattle.system.specs.declared.refusal.Refused.{Refused}
use Rattle.boxes.specs.declared.visit.Visit.{Visit}
use Rattle.boxes.specs.declared.visit.Word.{Word}
use Rattle.waiting.specs.declared.state.State.{State}
use Rattle.waiting.specs.declared.cursor.Kept.{Kept}
use Rattle.waiting.specs.declared.cursor.Cursor.{Cursor}
use Rattle.waiting.specs.declared.step.Made.{Made}
use Rattle.waiting.specs.States.{judged}
use Rattle.waiting.specs.Cells.{boxed}
use Rattle.waiting.specs.Steps.{begun, due, next, seen}
use Rattle.waiting.specs.Runs.{Way, way, turned}
use Rattle.runs.specs.declared.visits.Answer.{Answer}
use Rattle.runs.specs.declared.visits.Answer.TheVariants.{Saw, Stopped}
use Rattle.runs.specs.Runs.{opened}

-- a step, with the visit that it made
abbrev pub stepped : Head → List ℤ → Cursor → Made
stepped h st c = record { cursor = (next (boxed h) st c).cursor; visit = seen (boxed h) st c (due (boxed h) st c) }

-- the state after it and the visit, or the word
abbrev pub told : State → Result Visit Word → Answer
told s (Ok v) = Saw (record { state = s; visit = v })
told s (Err w) = Stopped w

pub record One : Type 0 where
  pub answer : Result Answer Refused
  pub end : Way ℤ

-- from where a call begins, by what is judged
abbrev pub one : Head → List Kept → List ℤ → Cursor → Result ⊤ Refused → One
one h list st c (Ok u) = record { answer = Ok (told (stepped h st c).cursor.state (stepped h st c).visit); end = turned (boxed h) (way list st c) }
one h list st c (Err x) = record { answer = Err x; end = way list st (opened (Err x) c) }

abbrev pub visit_of : Head → State → List Kept → List ℤ → One
visit_of h s list st = one h list st (begun s 1 (length list)) (judged h s st list)
