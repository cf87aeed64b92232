-- Nothing that stands left of an arrow in the demands is empty. Every point, every common zero and every list of bytes is one: `AnyPoint` and `AnyZero` of
-- waiting/Fits, `AnyBytes` of file/Bytes. Here: every start, call and longer list leads to a state that was reached; and 1/2, the zero of E's system, goes
-- through the demands to a box that F prints. Statements; the proofs are in proofs/Meets.
use Rattle.std.specs.Prelude.{◌≡◌, List, ◌∷◌, ℕ, ◌≤◌, ℤ, pos, negsuc, length, take, replicate, Ok}
use Rattle.bernstein.specs.Three.{three}
use Rattle.bernstein.specs.Numbers.{Box, unit}
use Rattle.system.specs.declared.head.Head.{Head}
use Rattle.boxes.specs.Boxes.{as_box}
use Rattle.search.specs.Lists.{Any}
use Rattle.search.specs.Search.{Entry}
use Rattle.search.specs.Lent.{used}
use Rattle.waiting.specs.declared.state.State.{State}
use Rattle.waiting.specs.declared.cursor.Kept.{Kept}
use Rattle.waiting.specs.Fits.{Point, LiesIn, CommonZero}
use Rattle.waiting.specs.States.{needed}
use Rattle.waiting.specs.Steps.{nothing_kept}
use Rattle.waiting.specs.Starts.{start_check, fresh_state, fresh_store}
use Rattle.runs.specs.declared.runs.Stop.{Stop}
use Rattle.runs.specs.declared.visits.Seen.{Seen}
use Rattle.runs.specs.declared.visits.Answer as Visit
use Rattle.runs.specs.Runs.{run_of}
use Rattle.runs.specs.Visits.{visit_of}
use Rattle.runs.specs.Tables.{box_of}
use Rattle.claims.specs.Calls.{Memory, fresh, called, Begun}
use Rattle.claims.specs.Reached.{Reached}
use Rattle.claims.specs.Program.{Whole, F_file}
use Rattle.claims.specs.Starred.{one, e}

-- ---- what a caller reaches: after a start that is not refused, after every run and every visit, and with every longer list
abbrev pub StartReaches : Type 0
StartReaches = (h : Head) (cs st : List ℤ) → start_check h cs st ≡ Ok tt → (list : List Kept) → Reached h cs st fresh_state list (fresh_store h cs st)

module _ (h : Head) (cs st : List ℤ) (s : State) (list : List Kept) (store : List ℤ) where
  abbrev pub GoesOn : Type 0
  GoesOn =
      ((budget : ℕ) (r : Stop) → (run_of h s budget list store).answer ≡ Ok r
      → Reached h cs st r.state (run_of h s budget list store).end.list (run_of h s budget list store).end.store)
      × ((v : Seen) → (visit_of h s list store).answer ≡ Ok (Visit.Answer.Saw v)
      → Reached h cs st v.state (visit_of h s list store).end.list (visit_of h s list store).end.store)
      × ((next : List Kept) → take s.kept list ≡ take s.kept next → length list ≤ length next → Reached h cs st s next store)

abbrev pub ReachedGoesOn : Type 0
ReachedGoesOn = (h : Head) (cs st : List ℤ) (s : State) (list : List Kept) (store : List ℤ) → Reached h cs st s list store → GoesOn h cs st s list store

-- and lent memory likewise: as a start leaves it, with any list, and as a call leaves it, with a list that is no shorter and begins with the same entries
abbrev pub Begins : Type 0
Begins = (h : Head) (cs st : List ℤ) (list : List (Entry Box)) → Begun h cs st (fresh h cs st list)

abbrev pub BegunGoesOn : Type 0
BegunGoesOn = (h : Head) (cs st : List ℤ) (f : Memory) → Begun h cs st f → (budget : ℕ) (next : Memory) → used (called h budget f).state ≡ used next
    → length f.list ≤ length next.list → Begun h cs st next

-- ---- E's system: a start with room 1, a visit, which cuts the unit box, and then a list of 2
abbrev pub E_store : List ℤ
E_store =
    pos 1 ∷ pos 1 ∷ pos 0 ∷ pos 0 ∷ pos 0 ∷ pos 0 ∷ pos 0 ∷ pos 2
    ∷ pos 1 ∷ pos 0 ∷ pos 0 ∷ pos 0 ∷ pos 0 ∷ pos 0 ∷ negsuc 1 ∷ pos 0
    ∷ replicate 8 (pos 0)

abbrev pub EReached : Type 0
EReached =
    Reached (one 1 2) e (replicate (needed (one 1 2)) (pos 0)) (record { waiting = 2; kept = 0; visits = 1; dropped = 0 }) (replicate 2 nothing_kept) E_store

-- ---- 1/2 is a common zero of the system of F's file and lies in the unit box; so it lies in one of the boxes printed
pub record HalfPrinted : Type 0 where
  pub file : Whole F_file
  pub point : Point
  pub numerators : point.numerators ≡ three (pos 1) (pos 0) (pos 0)
  pub denominator : point.q ≡ pos 2
  pub inside : LiesIn file.head point unit
  pub zero : CommonZero file.head file.coefficients point
  pub printed : Any (λ k. LiesIn file.head point (as_box (box_of k))) file.boxes

abbrev pub HalfIsPrinted : Type 0
HalfIsPrinted = HalfPrinted
