-- What a visit and a run answer (01, "One visit", "Runs"), case by case as numbers and values, and a sign as bernstein's. Definitions only.
use Rattle.std.specs.Prelude.{ℕ, List, [], ◌∷◌, ◌++◌}
use Rattle.bernstein.specs.Points
use Rattle.bernstein.specs.Points.{above, below}
use Rattle.system.specs.Directions.{direction_number}
use Rattle.boxes.specs.Boxes.{direction}
use Rattle.boxes.specs.declared.half.Box.{Box}
use Rattle.whole.specs.declared.Sign.{Sign}
use Rattle.whole.specs.Side.{sign_number}
use Rattle.boxes.specs.declared.visit.Outcome.{Outcome}
use Rattle.boxes.specs.declared.visit.Visit.{Visit}
use Rattle.boxes.specs.declared.visit.Word.{Word}

-- all numbers above zero, or all below
abbrev pub sign : Sign → Points.Sign
sign Sign.Above = above
sign Sign.Below = below

-- which case, then its values, filled up with 0: 1 dropped by a polynomial with a sign, 2 kept with a mark, 3 cut in a direction
abbrev pub outcome_numbers : Outcome → List ℕ
outcome_numbers (Outcome.Dropped p s) = 1 ∷ p ∷ sign_number s ∷ []
outcome_numbers (Outcome.Kept mark) = 2 ∷ mark ∷ 0 ∷ []
outcome_numbers (Outcome.Cut d) = 3 ∷ direction_number (direction d) ∷ 0 ∷ []

-- s1, k1, s2, k2, s3, k3
abbrev pub box_numbers : Box → List ℕ
box_numbers b = b.s1 ∷ b.k1 ∷ b.s2 ∷ b.k2 ∷ b.s3 ∷ b.k3 ∷ []

abbrev pub visit_numbers : Visit → List ℕ
visit_numbers v = box_numbers v.at ++ outcome_numbers v.what

-- in the order in which a run tests for them
abbrev pub word_number : Word → ℕ
word_number Word.Finished = 1
word_number Word.Spent = 2
word_number Word.Full = 3
