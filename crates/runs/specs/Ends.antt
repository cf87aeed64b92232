-- What a reader of the numbers finds after a call (01, "Runs"): the records of the run and of the visit over records, all of them and in their places. Statements only.
use Rattle.std.specs.Prelude.{ℕ, ◌≡◌, List, ℤ}
use Rattle.system.specs.declared.head.Head.{Head}
use Rattle.waiting.specs.declared.state.State.{State}
use Rattle.runs.specs.Runs.{run_of}
use Rattle.runs.specs.Visits.{visit_of}
use Rattle.runs.specs.Lists.{listed, relisted}

abbrev pub RunListed : Type 0
RunListed = (h : Head) (s : State) (budget : ℕ) (xs : List ℕ) (st : List ℤ)
    → listed (relisted xs (run_of h s budget (listed xs) st).end.list) ≡ (run_of h s budget (listed xs) st).end.list

abbrev pub VisitListed : Type 0
VisitListed = (h : Head) (s : State) (xs : List ℕ) (st : List ℤ)
    → listed (relisted xs (visit_of h s (listed xs) st).end.list) ≡ (visit_of h s (listed xs) st).end.list
