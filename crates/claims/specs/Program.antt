-- What the desk program prints, joined to the demands: a refusal of the file, or one call from a fresh start (`Demands`), whose state and stores a caller reaches
-- (`Reached`). `report` is what the contracts of `desk::search` and `desk::tell` give together. Statements; the proofs are in proofs/Program, that of F in proofs/Starred.
use Rattle.std.specs.Prelude.{◌≡◌, List, [], ◌∷◌, map, ◌++◌, ℕ, ◌*◌, ℤ, pos, length, take, replicate, Ok, Err}
use Rattle.bernstein.specs.Numbers.{Box, unit}
use Rattle.system.specs.declared.head.Head.{Head}
use Rattle.system.specs.declared.refusal.Refused.{Refused}
use Rattle.boxes.specs.declared.visit.Word.{Word}
use Rattle.boxes.specs.Boxes.{as_box}
use Rattle.search.specs.Lists.{Any}
use Rattle.search.specs.Machine.{Answer, Stop}
use Rattle.search.specs.Search.{Entry}
use Rattle.waiting.specs.Fits.{Point, LiesIn, CommonZero}
use Rattle.waiting.specs.Starts.{start_check}
use Rattle.waiting.specs.States.{state_of}
use Rattle.waiting.specs.declared.cursor.Kept.{Kept}
use Rattle.waiting.specs.Runs.{forget, remember, word_of}
use Rattle.runs.specs.Tables.{box_of}
use Rattle.runs.specs.Lists.{first}
use Rattle.file.specs.Bytes.{Bytes}
use Rattle.file.specs.Reading.{reads}
use Rattle.desk.specs.Lines.{word, refusal_line, stop_line, kept_lines}
use Rattle.desk.specs.Report.{report}
use Rattle.claims.specs.Calls.{Memory, fresh, called, boxes_of}
use Rattle.claims.specs.Reached.{Reached}

-- ---- what the program lends: places for coefficients, a waiting store, and "list room 1,024"; what they hold is never read before it is written
abbrev pub no_coefficients : List ℤ
no_coefficients = replicate (3 * 64) (pos 0)

abbrev pub empty_store : List ℤ
empty_store = replicate (31 * 198) (pos 0)

abbrev pub free : List (Entry Box)
free = replicate 1024 (remember (first (replicate 7 0)))

-- its one call: "budget 1,000,000"
abbrev pub program_call : Head → (coefficients : List ℤ) → Stop Memory
program_call h cs = called h 1000000 (fresh h cs empty_store free)

-- ---- "or `refused N at OFFSET`": with the number and the offset that reading the file gives
abbrev pub PrintsRefusal : Type 0
PrintsRefusal = (s : List ℕ) (x : Refused) → (reads s no_coefficients).0 ≡ Err x → report s ≡ refusal_line x

-- ---- "Prints the answer word, visits, dropped, kept, waiting; then per kept box s1 k1 s2 k2 s3 k3 mark"
-- of memory as a call left it, with the call's answer: the kept boxes are those that the demands speak of
abbrev pub lines_of : (h : Head) → Answer → Memory → List ℕ
lines_of h w f = stop_line (word_of w) f.visits f.dropped f.kept f.waiting ++ kept_lines (map forget (boxes_of h f).kept)

-- A file that reads is not refused afterwards. The start accepts it, so every demand holds of the program's call; and that call is what is printed.
pub record Printed (s : List ℕ) (h : Head) (cs : List ℤ) : Type 0 where
  pub accepted : start_check h cs empty_store ≡ Ok tt
  pub prints : report s ≡ lines_of h (program_call h cs).answer (program_call h cs).state
  pub reached : let f = (program_call h cs).state in Reached h cs empty_store (state_of f) (map forget f.list) f.store

abbrev pub PrintsARun : Type 0
PrintsARun = (s : List ℕ) → Bytes s → (h : Head) (cs : List ℤ) → reads s no_coefficients ≡ (Ok h, cs) → Printed s h cs

-- ---- "The answer says whether the list is short or whole, and how many boxes wait": what `finished` at the head of the printed bytes means.
-- The file is a system, 0 boxes wait, as many boxes are printed as are counted, and every common zero of the unit box lies in one of them.
abbrev pub finished_lines : (visits dropped : ℕ) → List Kept → List ℕ
finished_lines visits dropped boxes = stop_line Word.Finished visits dropped (length boxes) 0 ++ kept_lines boxes

pub record Whole (s : List ℕ) : Type 0 where
  pub head : Head
  pub coefficients : List ℤ
  pub read : reads s no_coefficients ≡ (Ok head, coefficients)
  pub visits : ℕ
  pub dropped : ℕ
  pub boxes : List Kept
  pub prints : report s ≡ finished_lines visits dropped boxes
  pub whole : (x : Point) → LiesIn head x unit → CommonZero head coefficients x → Any (λ k. LiesIn head x (as_box (box_of k))) boxes

abbrev pub PrintsFinished : Type 0
PrintsFinished = (s : List ℕ) → Bytes s → (rest : List ℕ) → report s ≡ word Word.Finished ++ rest → Whole s

-- ---- F, "the program on E's system, bytes (hex)" 08 00 01 00 .. 00 00 03 00, and the three lines printed
abbrev pub F_file : List ℕ
F_file =
    8 ∷ 0 ∷ 1 ∷ 0 ∷ 1 ∷ 1 ∷ 1 ∷ 0 ∷ 0 ∷ 2 ∷ 0 ∷ 0
    ∷ 15 ∷ 0 ∷ 2 ∷ 0 ∷ 1 ∷ 0 ∷ 0 ∷ 0 ∷ 255 ∷ 255 ∷ 255 ∷ 255 ∷ 1 ∷ 0 ∷ 0 ∷ 2 ∷ 0 ∷ 0 ∷ 0
    ∷ 0 ∷ 0 ∷ 3 ∷ 0 ∷ []

abbrev pub F_lines : List ℕ
F_lines =
    102 ∷ 105 ∷ 110 ∷ 105 ∷ 115 ∷ 104 ∷ 101 ∷ 100 ∷ 32 ∷ 55 ∷ 32 ∷ 50 ∷ 32 ∷ 50 ∷ 32 ∷ 48 ∷ 10
    ∷ 50 ∷ 32 ∷ 49 ∷ 32 ∷ 48 ∷ 32 ∷ 48 ∷ 32 ∷ 48 ∷ 32 ∷ 48 ∷ 32 ∷ 49 ∷ 10
    ∷ 50 ∷ 32 ∷ 50 ∷ 32 ∷ 48 ∷ 32 ∷ 48 ∷ 32 ∷ 48 ∷ 32 ∷ 48 ∷ 32 ∷ 49 ∷ 10 ∷ []

abbrev pub PrintsF : Type 0
PrintsF = report F_file ≡ F_lines

-- ---- 10y - 3 and 20z - 11 in three variables, to the depths 0, 2 and 3: no two of the counts printed are equal, and with F's lines no two places of a box's line
-- can be exchanged
abbrev pub three_file : List ℕ
three_file =
    8 ∷ 0 ∷ 1 ∷ 0 ∷ 3 ∷ 2 ∷ 0 ∷ 1 ∷ 1 ∷ 0 ∷ 2 ∷ 3
    ∷ 15 ∷ 0 ∷ 2 ∷ 0 ∷ 1 ∷ 0 ∷ 0 ∷ 0 ∷ 253 ∷ 255 ∷ 255 ∷ 255 ∷ 0 ∷ 1 ∷ 0 ∷ 10 ∷ 0 ∷ 0 ∷ 0
    ∷ 15 ∷ 0 ∷ 2 ∷ 0 ∷ 2 ∷ 0 ∷ 0 ∷ 0 ∷ 245 ∷ 255 ∷ 255 ∷ 255 ∷ 0 ∷ 0 ∷ 1 ∷ 20 ∷ 0 ∷ 0 ∷ 0
    ∷ 0 ∷ 0 ∷ 3 ∷ 0 ∷ []

abbrev pub three_lines : List ℕ
three_lines =
    102 ∷ 105 ∷ 110 ∷ 105 ∷ 115 ∷ 104 ∷ 101 ∷ 100 ∷ 32 ∷ 49 ∷ 49 ∷ 32 ∷ 53 ∷ 32 ∷ 49 ∷ 32 ∷ 48 ∷ 10
    ∷ 48 ∷ 32 ∷ 48 ∷ 32 ∷ 50 ∷ 32 ∷ 49 ∷ 32 ∷ 51 ∷ 32 ∷ 52 ∷ 32 ∷ 49 ∷ 10 ∷ []

abbrev pub PrintsThree : Type 0
PrintsThree = report three_file ≡ three_lines

-- ---- "Reads up to 4,096 bytes of standard input": of a longer input the same is printed as if all of it were read
abbrev pub PrintsOfTheFront : Type 0
PrintsOfTheFront = (s : List ℕ) → report (take 4096 s) ≡ report s

-- ---- "An empty file: 1 at 0"
abbrev pub PrintsOfNoBytes : Type 0
PrintsOfNoBytes = report [] ≡ (114 ∷ 101 ∷ 102 ∷ 117 ∷ 115 ∷ 101 ∷ 100 ∷ 32 ∷ 49 ∷ 32 ∷ 97 ∷ 116 ∷ 32 ∷ 48 ∷ 10 ∷ [])
