-- 01's starred examples A, B, C and E, and its limits, as one list of cases and one statement over it: starting numbers, halves, what a start and a run answer,
-- and on both sides of each limit what the checks and the rules say, by the definitions that the contracts cite. The proof computes them.
use Rattle.std.specs.Prelude.{◌≡◌, Bool, true, false, List, [], ◌∷◌, ◌++◌, ℕ, ◌+◌, ◌*◌, ℤ, pos, negsuc, take, set, replicate, Result, Ok, Err, ⊤}
use Rattle.whole.specs.Half.{Half, lower, upper}
use Rattle.bernstein.specs.Three.{Direction, first, Three, three}
use Rattle.system.specs.declared.head.Head.{Head}
use Rattle.system.specs.declared.refusal.Refused.{Refused}
use Rattle.boxes.specs.declared.visit.Word.{Word}
use Rattle.system.specs.declared.refusal.Refusal.{Refusal}
use Rattle.system.specs.Heads.{checked}
use Rattle.system.specs.Refusals.{number, at_start}
use Rattle.slots.specs.Slots.{start_numbers, half_numbers}
use Rattle.slots.specs.Rules.{can_cut}
use Rattle.search.specs.Lists.{All}
use Rattle.waiting.specs.declared.state.State.{State}
use Rattle.waiting.specs.States.{needed, judged}
use Rattle.waiting.specs.Starts.{start_check, start_answer, start_store, fresh_state}
use Rattle.waiting.specs.Steps.{nothing_kept}
use Rattle.runs.specs.Runs.{run_of}
use Rattle.file.specs.Reading.{reads}
use Rattle.desk.specs.Lines.{stop_line}
use Rattle.claims.specs.Program.{F_file}

-- one polynomial in one variable
abbrev pub one : (degree depth : ℕ) → Head
one n g = record { l = 1; m = 1; n1 = n; n2 = 0; n3 = 0; g1 = g; g2 = 0; g3 = 0 }

pub data Case : Type 0 where
  -- the starting numbers of a system with these coefficients
  starts : Head → (coefficients numbers : List ℤ) → Case
  -- the numbers of a half of a box with these numbers
  halves : Head → Half → Direction → (numbers half : List ℤ) → Case
  -- what a run answers after a start: the word, visits, dropped, kept, waiting
  stops : Head → (coefficients : List ℤ) (budget room : ℕ) → Word → (visits dropped kept waiting : ℕ) → Case
  -- what a start says of a head and coefficients that are all the same
  accepts : Head → ℤ → Result ⊤ Refused → Case
  -- what a run says of a state with one waiting box and one number, after so many visits
  allows : (number : ℤ) (visits : ℕ) → Result ⊤ Refused → Case
  -- whether a box in one variable can be cut, where its numbers are all the same
  cuts : (degree : ℕ) (number : ℤ) → Bool → Case
  -- with which number, and at which offset a file is refused
  numbered : Refusal → ℕ → Case
  refuses : (file : List ℕ) → Refusal → (offset : ℕ) → Case
  -- the line that tells a stop
  tells : Word → (visits dropped kept waiting : ℕ) → (line : List ℕ) → Case

abbrev pub Right : Case → Type 0
Right (starts h cs xs) = (checked h ≡ Ok tt) × (start_numbers h cs ≡ xs)
Right (halves h e r xs ys) = half_numbers h e r xs ≡ ys
Right (stops h cs budget room word visits dropped kept waiting) =
    let st = replicate (needed h) (pos 0) in
    let tested = start_check h cs st in
    (start_answer tested ≡ Ok fresh_state)
    × ((run_of h fresh_state budget (replicate room nothing_kept) (start_store h cs st tested)).answer
    ≡ Ok (record { word = word; state = record { waiting = waiting; kept = kept; visits = visits; dropped = dropped } }))
Right (accepts h c v) = start_check h (replicate (3 * 64) c) (replicate (31 * 198) (pos 0)) ≡ v
Right (allows x visits v) =
    let s : State = record { waiting = 1; kept = 0; visits = visits; dropped = 0 } in
    judged (one 0 0) s (replicate 6 (pos 0) ++ (x ∷ [])) [] ≡ v
Right (cuts n x b) = can_cut (one n 1) first (replicate (7 + n) x) ≡ b
Right (numbered w n) = number w ≡ n
Right (refuses s w offset) = (reads s []).0 ≡ Err (record { why = w; at = offset })
Right (tells w visits dropped kept waiting line) = stop_line w visits dropped kept waiting ≡ line

-- and in two
abbrev two : Head
two = record { l = 2; m = 1; n1 = 2; n2 = 2; n3 = 0; g1 = 1; g2 = 1; g3 = 0 }

abbrev -1 : ℤ
-1 = negsuc 0

abbrev -2 : ℤ
-2 = negsuc 1

abbrev -4 : ℤ
-4 = negsuc 3

-- a head by l, m, its degrees and its depths; and the refusal of a start
abbrev of : (l m : ℕ) (n g : Three ℕ) → Head
of l m n g = record { l = l; m = m; n1 = n.x₁; n2 = n.x₂; n3 = n.x₃; g1 = g.x₁; g2 = g.x₂; g3 = g.x₃ }

abbrev no : Refusal → Result ⊤ Refused
no w = Err (at_start w)

-- 2x - 1
abbrev pub e : List ℤ
e = -1 ∷ pos 2 ∷ []

abbrev pub examples : List Case
examples =
    -- A: x - x², degree 2
    starts (one 2 1) (pos 0 ∷ pos 1 ∷ -1 ∷ []) (pos 0 ∷ pos 1 ∷ pos 0 ∷ [])
    ∷ halves (one 2 1) lower first (pos 0 ∷ pos 1 ∷ pos 0 ∷ []) (pos 0 ∷ pos 2 ∷ pos 2 ∷ [])
    ∷ halves (one 2 1) upper first (pos 0 ∷ pos 1 ∷ pos 0 ∷ []) (pos 2 ∷ pos 2 ∷ pos 0 ∷ [])
    -- B: the same as degree 4
    ∷ starts (one 4 1) (pos 0 ∷ pos 1 ∷ -1 ∷ pos 0 ∷ pos 0 ∷ []) (pos 0 ∷ pos 3 ∷ pos 4 ∷ pos 3 ∷ pos 0 ∷ [])
    ∷ halves (one 4 1) lower first (pos 0 ∷ pos 3 ∷ pos 4 ∷ pos 3 ∷ pos 0 ∷ []) (pos 0 ∷ pos 24 ∷ pos 40 ∷ pos 48 ∷ pos 48 ∷ [])
    ∷ halves (one 4 1) upper first (pos 0 ∷ pos 3 ∷ pos 4 ∷ pos 3 ∷ pos 0 ∷ []) (pos 48 ∷ pos 48 ∷ pos 40 ∷ pos 24 ∷ pos 0 ∷ [])
    -- C: x² + y² - 1, degrees 2, 2; x - y
    ∷ starts two (-1 ∷ pos 0 ∷ pos 1 ∷ pos 0 ∷ pos 0 ∷ pos 0 ∷ pos 1 ∷ pos 0 ∷ pos 0 ∷ []) (-4 ∷ -4 ∷ pos 0 ∷ -4 ∷ -4 ∷ pos 0 ∷ pos 0 ∷ pos 0 ∷ pos 4 ∷ [])
    ∷ starts two (pos 0 ∷ -1 ∷ pos 0 ∷ pos 1 ∷ pos 0 ∷ pos 0 ∷ pos 0 ∷ pos 0 ∷ pos 0 ∷ []) (pos 0 ∷ -2 ∷ -4 ∷ pos 2 ∷ pos 0 ∷ -2 ∷ pos 4 ∷ pos 2 ∷ pos 0 ∷ [])
    -- E: 2x - 1, degree 1, depth 2: budget 3; list room 1 with a large budget, and with budget 5
    ∷ stops (one 1 2) e 3 1024 Word.Spent 3 1 0 2
    ∷ stops (one 1 2) e 1000 1 Word.Full 5 1 1 2
    ∷ stops (one 1 2) e 5 1 Word.Spent 5 1 1 2
    -- the same to depth 3: four different counts
    ∷ stops (one 1 3) e 1000 1 Word.Full 8 2 1 3
    ∷ []

-- the limits of "The system": the largest of each, and one more
abbrev pub limits : List Case
limits =
    accepts (of 3 3 (three 3 3 3) (three 10 10 10)) (pos 1000000000) (Ok tt)
    ∷ accepts (of 1 1 (three 6 0 0) (three 0 0 0)) (negsuc 999999999) (Ok tt)
    ∷ accepts (of 3 3 (three 3 3 3) (three 10 10 10)) (pos 1000000001) (no Refusal.BadCoefficient)
    ∷ accepts (of 3 3 (three 3 3 3) (three 10 10 10)) (negsuc 1000000000) (no Refusal.BadCoefficient)
    ∷ accepts (of 0 1 (three 0 0 0) (three 0 0 0)) (pos 0) (no Refusal.OutOfLimits)
    ∷ accepts (of 4 1 (three 0 0 0) (three 0 0 0)) (pos 0) (no Refusal.OutOfLimits)
    ∷ accepts (of 1 0 (three 0 0 0) (three 0 0 0)) (pos 0) (no Refusal.OutOfLimits)
    ∷ accepts (of 1 4 (three 0 0 0) (three 0 0 0)) (pos 0) (no Refusal.OutOfLimits)
    ∷ accepts (of 3 1 (three 0 0 7) (three 0 0 0)) (pos 0) (no Refusal.OutOfLimits)
    ∷ accepts (of 3 1 (three 0 0 0) (three 0 0 11)) (pos 0) (no Refusal.OutOfLimits)
    ∷ accepts (of 1 1 (three 1 1 0) (three 0 0 0)) (pos 0) (no Refusal.OutOfLimits)
    ∷ accepts (of 3 1 (three 6 4 1) (three 0 0 0)) (pos 0) (no Refusal.OutOfLimits)
    -- M = 2^62 - 1, and 2^31 - 1 visits
    ∷ allows (pos 4611686018427387903) 2147483647 (Ok tt)
    ∷ allows (negsuc 4611686018427387903) 0 (no Refusal.OutsideRules)
    ∷ allows (pos 0) 2147483648 (no Refusal.OutsideRules)
    -- "Degree 6 is cut with sizes up to 2^56 - 1, not at 2^56", and degree 0 up to M
    ∷ cuts 6 (pos 72057594037927935) true
    ∷ cuts 6 (negsuc 72057594037927935) false
    ∷ cuts 0 (pos 4611686018427387903) true
    ∷ cuts 0 (pos 4611686018427387904) false
    ∷ []

-- the table of refusals; and each in F's file, by one byte that is wrong, or by too few or too many
abbrev pub refusals : List Case
refusals =
    numbered Refusal.Ended 1
    ∷ numbered Refusal.NotDue 2
    ∷ numbered Refusal.WrongLength 3
    ∷ numbered Refusal.OutOfLimits 4
    ∷ numbered Refusal.ExponentTooHigh 5
    ∷ numbered Refusal.BadCoefficient 6
    ∷ numbered Refusal.NotRising 7
    ∷ numbered Refusal.ExtraBytes 8
    ∷ numbered Refusal.TooShort 9
    ∷ numbered Refusal.OutsideRules 10
    ∷ refuses [] Refusal.Ended 0
    ∷ refuses (take 30 F_file) Refusal.Ended 12
    ∷ refuses (take 31 F_file) Refusal.Ended 31
    ∷ refuses (set F_file 14 3) Refusal.NotDue 12
    ∷ refuses (set F_file 16 2) Refusal.NotDue 12
    ∷ refuses (set F_file 12 16) Refusal.WrongLength 12
    ∷ refuses (set F_file 4 4) Refusal.OutOfLimits 0
    ∷ refuses (set F_file 24 2) Refusal.ExponentTooHigh 24
    ∷ refuses (set F_file 27 0) Refusal.BadCoefficient 24
    ∷ refuses (set F_file 24 0) Refusal.NotRising 24
    ∷ refuses (F_file ++ (0 ∷ [])) Refusal.ExtraBytes 35
    ∷ refuses F_file Refusal.TooShort 0
    ∷ []

-- spent 8 2 1 3, and full 8 2 1 3
abbrev pub told : List Case
told =
    tells Word.Spent 8 2 1 3 (115 ∷ 112 ∷ 101 ∷ 110 ∷ 116 ∷ 32 ∷ 56 ∷ 32 ∷ 50 ∷ 32 ∷ 49 ∷ 32 ∷ 51 ∷ 10 ∷ [])
    ∷ tells Word.Full 8 2 1 3 (102 ∷ 117 ∷ 108 ∷ 108 ∷ 32 ∷ 56 ∷ 32 ∷ 50 ∷ 32 ∷ 49 ∷ 32 ∷ 51 ∷ 10 ∷ [])
    ∷ []

abbrev pub starred : List Case
starred = examples ++ (limits ++ (refusals ++ told))

abbrev pub StarredRight : Type 0
StarredRight = All Right starred
