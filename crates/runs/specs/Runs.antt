-- A run (01, "Runs"): the state is checked, and where it is good a driver makes the steps and stores the records that they name. A refusal moves nothing, as
-- the cursor is then halted. Definitions only.
use Rattle.std.specs.Prelude.{ℕ, ◌+◌, List, ℤ, length, unwrap_or, Result, Ok, Err, ⊤}
use Rattle.system.specs.declared.head.Head.{Head}
use Rattle.system.specs.declared.refusal.Refused.{Refused}
use Rattle.boxes.specs.declared.visit.Word.{Word}
use Rattle.waiting.specs.declared.state.State.{State}
use Rattle.waiting.specs.declared.cursor.Kept.{Kept}
use Rattle.waiting.specs.declared.cursor.Cursor.{Cursor}
use Rattle.waiting.specs.States.{judged}
use Rattle.waiting.specs.Cells.{boxed}
use Rattle.waiting.specs.Steps.{begun, halted}
use Rattle.waiting.specs.Runs.{Way, way, went}
use Rattle.runs.specs.declared.runs.Stop.{Stop}

-- where a run begins
abbrev pub opened : Result ⊤ Refused → Cursor → Cursor
opened (Ok u) c = c
opened (Err x) c = halted c Word.Spent

-- the word and the four counts, or the refusal; a run ends with a word, so that the one for a cursor that has none is never given (`Ends` in waiting/Runs)
abbrev pub answered : Result ⊤ Refused → Cursor → Result Stop Refused
answered (Ok u) c = Ok (record { word = unwrap_or c.word Word.Spent; state = c.state })
answered (Err x) c = Err x

abbrev pub set_out : Head → State → (budget : ℕ) → List Kept → List ℤ → Way ℤ
set_out h s budget list st = way list st (opened (judged h s st list) (begun s budget (length list)))

-- what a run answers, and where it ends: the list, the store and the cursor
pub record Run : Type 0 where
  pub answer : Result Stop Refused
  pub end : Way ℤ

abbrev pub run_of : Head → State → (budget : ℕ) → List Kept → List ℤ → Run
run_of h s budget list st = record {
  answer = answered (judged h s st list) (went (boxed h) (budget + 1) (set_out h s budget list st)).cursor;
  end = went (boxed h) (budget + 1) (set_out h s budget list st);
}
