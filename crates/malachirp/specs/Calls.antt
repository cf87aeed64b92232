-- What each call leaves: its code, its offset, and every place lent to it for writing, in the order of its parameters; a primed name is a place as the
-- library's own call leaves it. A refusal leaves all as it was: of the coefficients, the file and the store `reads`, `writes` and `start_store` say so
-- themselves. Definitions only.
use Rattle.std.specs.Prelude.{ℕ, List, [], ◌∷◌, ℤ, Float, Result, Ok, Err, ⊤}
use Rattle.system.specs.declared.head.Head.{Head}
use Rattle.system.specs.declared.refusal.Refused.{Refused}
use Rattle.boxes.specs.declared.middle.Middles.{Middles}
use Rattle.waiting.specs.declared.state.State.{State}
use Rattle.system.specs.Heads.{places, checked, head_from, head_numbers}
use Rattle.boxes.specs.Middles.{placed, middle_numbers}
use Rattle.boxes.specs.Visits.{visit_numbers, word_number}
use Rattle.waiting.specs.States.{needed, state_from, state_numbers}
use Rattle.waiting.specs.Starts.{start_check, start_answer, start_store}
use Rattle.file.specs.Reading.{reads}
use Rattle.writing.specs.Writing.{writes}
use Rattle.runs.specs.declared.runs.Stop.{Stop}
use Rattle.runs.specs.declared.visits.Answer as OfVisit
use Rattle.runs.specs.Runs.{Run, run_of}
use Rattle.runs.specs.Visits.{One, visit_of}
use Rattle.runs.specs.Tables.{box_of}
use Rattle.runs.specs.Lists.{first, listed, relisted}
use Rattle.malachirp.specs.Codes.{Left, done, refused}

-- ---- the coefficients' places and the waiting store's, for a head within limits
abbrev pub sizes_left : Head → List ℕ → Result ⊤ Refused → Left (List ℕ)
sizes_left h sizes (Ok u) = done (places h ∷ needed h ∷ [])
sizes_left h sizes (Err x) = refused x sizes

abbrev pub sizes_call : (head sizes : List ℕ) → Left (List ℕ)
sizes_call head sizes = sizes_left (head_from head) sizes (checked (head_from head))

-- ---- reading a file
abbrev pub read_left : (head : List ℕ) (coefficients' : List ℤ) → Result Head Refused → Left (List ℤ × List ℕ)
read_left head coefficients' (Ok h) = done (coefficients', head_numbers h)
read_left head coefficients' (Err x) = refused x (coefficients', head)

abbrev pub read_call : (file : List ℕ) (coefficients : List ℤ) (head : List ℕ) → Left (List ℤ × List ℕ)
read_call file coefficients head = read_left head (reads file coefficients).1 (reads file coefficients).0

-- ---- writing a file
abbrev pub write_left : (length : ℕ) (file' : List ℕ) → Result ℕ Refused → Left (List ℕ × ℕ)
write_left length file' (Ok n) = done (file', n)
write_left length file' (Err x) = refused x (file', length)

abbrev pub write_call : (head : List ℕ) (coefficients : List ℤ) (file : List ℕ) (length : ℕ) → Left (List ℕ × ℕ)
write_call head coefficients file length = write_left length (writes (head_from head) coefficients file).1 (writes (head_from head) coefficients file).0

-- ---- a start
abbrev pub start_left : (state : List ℕ) (store' : List ℤ) → Result State Refused → Left (List ℤ × List ℕ)
start_left state store' (Ok s) = done (store', state_numbers s)
start_left state store' (Err x) = refused x (store', state)

abbrev pub start_by : Head → (coefficients store : List ℤ) (state : List ℕ) → Result ⊤ Refused → Left (List ℤ × List ℕ)
start_by h coefficients store state c = start_left state (start_store h coefficients store c) (start_answer c)

abbrev pub start_call : (head : List ℕ) (coefficients store : List ℤ) (state : List ℕ) → Left (List ℤ × List ℕ)
start_call head coefficients store state = start_by (head_from head) coefficients store state (start_check (head_from head) coefficients store)

-- ---- a run
abbrev pub run_left : (store : List ℤ) (list state : List ℕ) (word : ℕ) → (store' : List ℤ) (list' : List ℕ) → Result Stop Refused → Left (List ℤ × List ℕ × List ℕ × ℕ)
run_left store list state word store' list' (Ok s) = done (store', list', state_numbers s.state, word_number s.word)
run_left store list state word store' list' (Err x) = refused x (store, list, state, word)

abbrev pub run_by : (store : List ℤ) (list state : List ℕ) (word : ℕ) → Run → Left (List ℤ × List ℕ × List ℕ × ℕ)
run_by store list state word r = run_left store list state word r.end.store (relisted list r.end.list) r.answer

abbrev pub run_call : (head : List ℕ) (budget : ℕ) (store : List ℤ) (list state : List ℕ) (word : ℕ) → Left (List ℤ × List ℕ × List ℕ × ℕ)
run_call head budget store list state word = run_by store list state word (run_of (head_from head) (state_from state) budget (listed list) store)

-- ---- one visit: the word is 0 where it was made; finished and full change nothing else
abbrev pub visit_left : (store : List ℤ) (list state visit : List ℕ) (word : ℕ) → (store' : List ℤ) (list' : List ℕ) → Result OfVisit.Answer Refused
    → Left (List ℤ × List ℕ × List ℕ × List ℕ × ℕ)
visit_left store list state visit word store' list' (Ok (OfVisit.Answer.Saw s)) = done (store', list', state_numbers s.state, visit_numbers s.visit, 0)
visit_left store list state visit word store' list' (Ok (OfVisit.Answer.Stopped w)) = done (store, list, state, visit, word_number w)
visit_left store list state visit word store' list' (Err x) = refused x (store, list, state, visit, word)

abbrev pub visit_by : (store : List ℤ) (list state visit : List ℕ) (word : ℕ) → One → Left (List ℤ × List ℕ × List ℕ × List ℕ × ℕ)
visit_by store list state visit word r = visit_left store list state visit word r.end.store (relisted list r.end.list) r.answer

abbrev pub visit_call : (head : List ℕ) (store : List ℤ) (list state visit : List ℕ) (word : ℕ) → Left (List ℤ × List ℕ × List ℕ × List ℕ × ℕ)
visit_call head store list state visit word = visit_by store list state visit word (visit_of (head_from head) (state_from state) (listed list) store)

-- ---- the middles and half widths of a record
abbrev pub middles_left : (middles : List Float) → Result Middles Refused → Left (List Float)
middles_left middles (Ok m) = done (middle_numbers m)
middles_left middles (Err x) = refused x middles

abbrev pub middles_call : (kept : List ℕ) (middles : List Float) → Left (List Float)
middles_call kept middles = middles_left middles (placed (box_of (first kept)))
