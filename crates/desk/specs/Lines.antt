-- The lines that the desk program prints (01, "The program"; F): a refusal; or the answer word with visits, dropped, kept, waiting, then a line for each kept box.
-- Definitions only.
use Rattle.std.specs.Prelude.{ℕ, ◌/◌, min, List, [], ◌∷◌, ◌++◌, map, take, Result, Ok, Err}
use Rattle.system.specs.Refusals.{number}
use Rattle.system.specs.declared.refusal.Refused.{Refused}
use Rattle.boxes.specs.declared.visit.Word.{Word}
use Rattle.boxes.specs.declared.visit.Word.TheVariants.{Finished, Spent, Full}
use Rattle.waiting.specs.declared.cursor.Kept.{Kept}
use Rattle.runs.specs.declared.runs.Stop.{Stop}
use Rattle.runs.specs.Lists.{seven}
use Rattle.desk.specs.Text.{decimal, line}

-- ---- the words, in ASCII: finished, spent, full; refused, at
abbrev pub word : Word → List ℕ
word Finished = 102 ∷ 105 ∷ 110 ∷ 105 ∷ 115 ∷ 104 ∷ 101 ∷ 100 ∷ []
word Spent = 115 ∷ 112 ∷ 101 ∷ 110 ∷ 116 ∷ []
word Full = 102 ∷ 117 ∷ 108 ∷ 108 ∷ []

abbrev pub refused : List ℕ
refused = 114 ∷ 101 ∷ 102 ∷ 117 ∷ 115 ∷ 101 ∷ 100 ∷ []

abbrev pub at : List ℕ
at = 97 ∷ 116 ∷ []

-- ---- the lines: `refused N at OFFSET`
abbrev pub refused_line : (n offset : ℕ) → List ℕ
refused_line n offset = line (refused ∷ decimal n ∷ at ∷ decimal offset ∷ [])

abbrev pub refusal_line : Refused → List ℕ
refusal_line x = refused_line (number x.why) x.at

-- "the answer word, visits, dropped, kept, waiting"
abbrev pub stop_line : Word → (visits dropped kept waiting : ℕ) → List ℕ
stop_line w visits dropped kept waiting = line (word w ∷ map decimal (visits ∷ dropped ∷ kept ∷ waiting ∷ []))

-- "s1 k1 s2 k2 s3 k3 mark"
abbrev pub kept_line : Kept → List ℕ
kept_line k = line (map decimal (seven k))

unfoldable pub kept_lines : List Kept → List ℕ
kept_lines [] = []
kept_lines (k ∷ ks) = kept_line k ++ kept_lines ks

-- ---- what is printed of a run's answer, where the list holds these records
abbrev pub told : Result Stop Refused → List Kept → List ℕ
told (Ok s) list =
    stop_line s.word s.state.visits s.state.dropped s.state.kept s.state.waiting ++ kept_lines (take s.state.kept list)
told (Err x) list = refusal_line x

-- how many kept boxes that tells, where the list has so many numbers
abbrev pub lines_told : Result Stop Refused → (numbers : ℕ) → ℕ
lines_told (Ok s) n = min s.state.kept (n / 7)
lines_told (Err x) n = 0
