-- What the desk program finds in a file and prints of it, from the bytes read to the bytes printed (01, "The program"): the file is read, a run is started and
-- made, and its answer told, all by the definitions that the contracts of these calls cite. Definitions, and the statement that the places are enough.
use Rattle.std.specs.Prelude.{ℕ, ◌*◌, ◌≤◌, List, ℤ, pos, replicate, Result, Ok, Err}
use Rattle.system.specs.declared.head.Head.{Head}
use Rattle.system.specs.declared.refusal.Refused.{Refused}
use Rattle.system.specs.Heads.{places, Limits}
use Rattle.file.specs.Reading.{reads}
use Rattle.waiting.specs.Starts.{start_check, start_answer, start_store}
use Rattle.waiting.specs.States.{needed}
use Rattle.waiting.specs.declared.state.State.{State}
use Rattle.waiting.specs.declared.cursor.Kept.{Kept}
use Rattle.runs.specs.declared.runs.Stop.{Stop}
use Rattle.runs.specs.Runs.{run_of}
use Rattle.runs.specs.Lists.{listed}
use Rattle.desk.specs.Lines.{told}

-- the answer, and the records that the list then holds; list is what its numbers were before
pub record Found : Type 0 where
  pub answer : Result Stop Refused
  pub kept : List Kept

-- a refusal changes nothing
abbrev pub refused : Refused → (list : List ℕ) → Found
refused x list = record { answer = Err x; kept = listed list }

-- ---- from a state, with what stands in the store
unfoldable pub run_found : (budget : ℕ) → Head → State → (store : List ℤ) (list : List ℕ) → Found
run_found b h s st list = record { answer = (run_of h s b (listed list) st).answer; kept = (run_of h s b (listed list) st).end.list }

-- ---- from a start
abbrev pub started_found : (budget : ℕ) → Head → Result State Refused → (store : List ℤ) (list : List ℕ) → Found
started_found b h (Ok s) st list = run_found b h s st list
started_found b h (Err x) st list = refused x list

unfoldable pub system_found : (budget : ℕ) → Head → (coefficients store : List ℤ) (list : List ℕ) → Found
system_found b h cs st list = started_found b h (start_answer (start_check h cs st)) (start_store h cs st (start_check h cs st)) list

-- ---- from a file
abbrev pub read_found : (budget : ℕ) → Result Head Refused → (coefficients store : List ℤ) (list : List ℕ) → Found
read_found b (Ok h) cs st list = system_found b h cs st list
read_found b (Err x) cs st list = refused x list

unfoldable pub file_found : (budget : ℕ) → List ℕ → (coefficients store : List ℤ) (list : List ℕ) → Found
file_found b file cs st list = read_found b (reads file cs).0 (reads file cs).1 st list

-- ---- "budget 1,000,000". Coefficients: m × S is at most 3 × 64. Store: (D + 1) × (6 + m × S) is at most 31 × 198. What they hold before is never read.
unfoldable pub found : (file list : List ℕ) → Found
found file list = file_found 1000000 file (replicate (3 * 64) (pos 0)) (replicate (31 * 198) (pos 0)) list

-- ---- "list room 1,024", a record being seven numbers; and what is printed
unfoldable pub report : List ℕ → List ℕ
report file = told (found file (replicate (7 * 1024) 0)).answer (found file (replicate (7 * 1024) 0)).kept

-- Every head within limits finds room there: the program refuses no file for want of room.
abbrev pub RoomEnough : Type 0
RoomEnough = (h : Head) → Limits h → (places h ≤ 3 * 64) × (needed h ≤ 31 * 198)
