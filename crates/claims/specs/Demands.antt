-- The customer's demands on runs, each as a statement with his sentence above it, of every call from a fresh start and of its continuations (`Begun`).
-- The definitions are those that the contracts cite; the proofs are in proofs/, each named as its statement.
use Rattle.std.specs.Prelude.{◌≡◌, List, ◌++◌, ℕ, suc, ◌+◌, ◌*◌, ◌-◌, ◌≤◌, ◌<◌, ℤ, pos, length, take, drop, replicate, Ok}
use Rattle.bernstein.specs.Numbers.{Box, unit}
use Rattle.bernstein.specs.Points.{Has}
use Rattle.system.specs.declared.head.Head.{Head}
use Rattle.whole.specs.declared.Sign.{Sign}
use Rattle.system.specs.Heads.{depth, frame, width}
use Rattle.boxes.specs.Visits.{sign}
use Rattle.slots.specs.Slots.{box_in, polynomial, unit_slot}
use Rattle.search.specs.Lists.{All, Any}
use Rattle.search.specs.Machine.{finished}
use Rattle.search.specs.Search.{Entry, Visit, is_dropped, is_kept, start, run, log}
use Rattle.search.specs.Claims.{Held, Means, Further}
use Rattle.search.specs.Counts.{Counted}
use Rattle.search.specs.Lent.{slot, slots, used}
use Rattle.waiting.specs.Cells.{cells}
use Rattle.waiting.specs.Fits.{Fit, Point, LiesIn, CommonZero, InsideBox}
use Rattle.waiting.specs.States.{needed, SlotAllowed}
use Rattle.waiting.specs.Starts.{start_check}
use Rattle.claims.specs.Calls.{Memory, fresh, called, visits_made, Begun, boxes_of}
use Rattle.claims.specs.Rules.{Says}

-- Of every call on a system that `start` accepts: h and cs are its head and its coefficients, f is the lent memory that the call finds, budget its budget.
abbrev pub EveryCall : ((h : Head) (cs : List ℤ) (f : Memory) (budget : ℕ) → Type 0) → Type 0
EveryCall P = (h : Head) (cs st : List ℤ) → start_check h cs st ≡ Ok tt → (f : Memory) → Begun h cs st f → (budget : ℕ) → P h cs f budget

-- 2. "For each box that a run reaches, every stored number is the exact Bernstein coefficient of that polynomial on that box times the fixed scale":
-- in every waiting slot at the stop (`Fit`: exact numbers, within M, cuts within the depths); and it is a slot that the check of a state allows (`SlotAllowed`: no s
-- or k is negative, and so on)
abbrev pub WaitingExact : Type 0
WaitingExact = EveryCall (λ h cs f budget. (p : ℕ) → p < (called h budget f).state.waiting
    → Fit h cs (slot (width h) p (called h budget f).state.store) × SlotAllowed h p (slot (width h) p (called h budget f).state.store))

-- "and each box is dropped, kept or cut by the stated rules on these numbers": every visit is of a box with exact numbers, and became what 01 says of them
-- (`Says`, in Rules)
pub record SeenRightly (h : Head) (cs : List ℤ) (v : Visit (slots (cells h))) : Type 0 where
  pub fit : Fit h cs v.node
  pub says : Says h v.node v.what

abbrev pub VisitsByTheRules : Type 0
VisitsByTheRules = EveryCall (λ h cs f budget. All (SeenRightly h cs) (visits_made h budget f))

-- every kept box is one that the rules keep with its mark, on exact numbers
pub record KeptRightly (h : Head) (cs : List ℤ) (e : Entry Box) : Type 0 where
  pub node : List ℤ
  pub fit : Fit h cs node
  pub says : Says h node (is_kept e.mark)
  pub placed : box_in node ≡ e.place

abbrev pub KeptByTheRules : Type 0
KeptByTheRules = EveryCall (λ h cs f budget. All (KeptRightly h cs) (boxes_of h (called h budget f).state).kept)

-- A start holds the unit box with formula (2)'s numbers, nothing kept and no visits; and a call stops where the rules on lists of boxes stop (`run` of
-- search/Search), after the same visits: that much of lent memory is used, and nothing else decides.
abbrev pub StartsAsTheSearch : Type 0
StartsAsTheSearch = (h : Head) (cs st : List ℤ) (list : List (Entry Box)) → boxes_of h (fresh h cs st list) ≡ start (slots (cells h)) (unit_slot h cs)

abbrev pub RunsAsTheSearch : Type 0
RunsAsTheSearch = EveryCall (λ h cs f budget.
    let r = run (slots (cells h)) budget (length f.list) (boxes_of h f) in
    ((called h budget f).answer ≡ r.answer) × (boxes_of h (called h budget f).state ≡ r.state)
    × (visits_made h budget f ≡ log (slots (cells h)) budget (length f.list) (boxes_of h f)))

-- "A system read and written back gives the same bytes; written and read, the same numbers": writing/specs/Claims, `WrittenBack` and `ReadBack`.

-- the counts are those of the visits made
abbrev pub CountsOfVisits : Type 0
CountsOfVisits = EveryCall (λ h cs f budget. Counted (slots (cells h)) (boxes_of h f) (visits_made h budget f) (boxes_of h (called h budget f).state))

-- 3. "wherever it stops: every rational point of the unit box at which all polynomials are zero lies in a kept or a waiting box, edges counted"
abbrev pub NoZeroLost : Type 0
NoZeroLost = EveryCall (λ h cs f budget. (x : Point) → LiesIn h x unit → CommonZero h cs x
    → Held (slots (cells h)) (LiesIn h) x (boxes_of h (called h budget f).state))

-- "each dropped box has one polynomial with the same strict sign at all its rational points": the polynomial that is named, with the sign that is named
pub record OneSign (h : Head) (cs : List ℤ) (b : Box) (p : ℕ) (s : Sign) : Type 0 where
  pub which : ℕ
  pub below : which < h.m
  pub named : p ≡ 1 + which
  pub signs : (x : Point) → LiesIn h x b → Has (sign s) ((frame h).value x.numerators x.q (polynomial h cs which))

abbrev pub DroppedOneSign : Type 0
DroppedOneSign = EveryCall (λ h cs f budget.
    All (λ v. (p : ℕ) (s : Sign) → v.what ≡ is_dropped (p, s) → OneSign h cs (box_in v.node) p s) (visits_made h budget f))

-- "Of two runs made in one call each, for the same system and depths, the one given at least as many visits and as much list room begins its kept list with the
-- other's whole list, and each of its kept or waiting boxes lies inside a kept or waiting box of the other"
abbrev pub LongerGoesOn : Type 0
LongerGoesOn = (h : Head) (cs st st' : List ℤ) → start_check h cs st ≡ Ok tt → start_check h cs st' ≡ Ok tt
    → (list list' : List (Entry Box)) (budget budget' : ℕ) → budget ≤ budget' → length list ≤ length list'
    → Further (slots (cells h)) (InsideBox h) (boxes_of h (called h budget (fresh h cs st list)).state)
    (boxes_of h (called h budget' (fresh h cs st' list')).state)

-- 4. "The answer says whether the list is short or whole, and how many boxes wait": finished, nothing waits; spent, the budget is used up and boxes wait;
-- full, the top box would be kept and there is no room
abbrev pub AnswersMean : Type 0
AnswersMean = EveryCall (λ h cs f budget.
    Means (slots (cells h)) budget (length f.list) (boxes_of h f) (boxes_of h (called h budget f).state) (called h budget f).answer)

-- "The list is whole": where a run answers finished, every common zero lies in a kept box
abbrev pub FinishedIsWhole : Type 0
FinishedIsWhole = EveryCall (λ h cs f budget. (called h budget f).answer ≡ finished
    → (x : Point) → LiesIn h x unit → CommonZero h cs x → Any (λ e. LiesIn h x e.place) (boxes_of h (called h budget f).state).kept)

-- 01, "Runs": "D + 1 slots are always enough"
abbrev pub SlotsEnough : Type 0
SlotsEnough = EveryCall (λ h cs f budget. (called h budget f).state.waiting ≤ suc (depth h))

-- "A slot given up is set to zero", "and nothing beyond": at every stop all slots above the waiting ones are zero, up to D + 1 slots, and what stood behind them
-- before the start stands there still
abbrev pub StoreBeyond : Type 0
StoreBeyond = (h : Head) (cs st : List ℤ) → start_check h cs st ≡ Ok tt → (f : Memory) → Begun h cs st f → (budget : ℕ)
    → let g = (called h budget f).state in
    drop (g.waiting * width h) g.store ≡ replicate ((suc (depth h) - g.waiting) * width h) (pos 0) ++ drop (needed h) st

-- "places past the kept count are not written", and what was kept before the call stays
pub record ListStays (f g : Memory) : Type 0 where
  pub past : drop g.kept g.list ≡ drop g.kept f.list
  pub before : take f.kept g.list ≡ take f.kept f.list

abbrev pub ListBeyond : Type 0
ListBeyond = EveryCall (λ h cs f budget. ListStays f (called h budget f).state)

-- "it then ends in the state that one fresh call reaches with all the visits made and the last list": both stores, every slot and every kept entry, and the counts
abbrev pub Continued : Type 0
Continued = (h : Head) (cs st : List ℤ) → start_check h cs st ≡ Ok tt → (f : Memory) → Begun h cs st f
    → (budget : ℕ) (list : List (Entry Box)) → length list ≡ length f.list
    → used (called h (called h budget f).state.visits (fresh h cs st list)).state ≡ used (called h budget f).state
