-- What is shown of every search, from every state: no zero is lost, what cutting keeps holds of every cell, what an answer means,
-- a continued run is one run, a longer run goes on from a shorter one, a finished run walks the whole tree. Each claim is a type; `proofs/` has its proof under the same name.
use Rattle.std.specs.Prelude.{◌≡◌, ◌⊎◌, ◌≢◌, List, [], ◌∷◌, ◌++◌, length, ℕ, ◌+◌, ◌-◌, ◌≤◌, ◌<◌}
use Rattle.whole.specs.Half.{Half, lower, upper}
use Rattle.search.specs.Lists.{All, Any}
use Rattle.search.specs.Machine.{Answer, finished, spent, full, Called}
use Rattle.search.specs.Search.{is_dropped, is_kept, is_cut, Search, Entry, entry, States, Visit, Log, seen, start, searching, run, log}

-- `P n m` of every cell `n` that is cut and each half `m` of it.
abbrev pub AtCut : (S : Search) → (S.Node → S.Node → Type 0) → Type 0
AtCut S P = (n : S.Node) (c : S.Cut) → S.look n ≡ is_cut c → (h : Half) → P n (S.half h c n)

-- `Fit` passes to the halves of a cell that is cut.
abbrev pub Passes : (S : Search) → (S.Node → Type 0) → Type 0
Passes S Fit = AtCut S (λ n m. Fit n → Fit m)

-- `In x p`: the point x lies in the cell at p. `Zero x`: what must not be lost. A dropped cell has none, and a point of a cell lies in one of its halves.
pub record Sound (S : Search) (Fit : S.Node → Type 0) (Point : Type 0) (Zero : Point → Type 0) (In : Point → S.Place → Type 0) : Type 0 where
  pub passes : Passes S Fit
  pub never : (n : S.Node) (d : S.Drop) → S.look n ≡ is_dropped d → Fit n → (x : Point) → Zero x → In x (S.place n) → ⊥
  pub halves : (n : S.Node) (c : S.Cut) → S.look n ≡ is_cut c → Fit n → (x : Point) → In x (S.place n) → (h : Half) × In x (S.place (S.half h c n))

-- x lies in a cell that waits or was kept.
abbrev pub Held : (S : Search) {Point : Type 0} → (Point → S.Place → Type 0) → Point → States S → Type 0
Held S In x s = Any (λ n. In x (S.place n)) s.waiting ⊎ Any (λ e. In x e.place) s.kept

-- Demand 3. Wherever a run stops, every zero that lay in a kept or a waiting cell still lies in one, edges counted. From a start, where the root waits, and from
-- any other state whose waiting cells are fit.
abbrev pub NoZeroLost : Type 1
NoZeroLost = (S : Search) (Fit : S.Node → Type 0) (Point : Type 0) (Zero : Point → Type 0) (In : Point → S.Place → Type 0) → Sound S Fit Point Zero In
    → (x : Point) → Zero x → (budget room : ℕ) (s : States S) → All Fit s.waiting → Held S In x s → Held S In x (run S budget room s).state

-- `Fit` passes to the halves, and a fit cell is kept as a good entry.
pub record Inherits (S : Search) (Fit : S.Node → Type 0) (Good : Entry S.Place → Type 0) : Type 0 where
  pub passes : Passes S Fit
  pub keeps : (n : S.Node) (mark visit : ℕ) → S.look n ≡ is_kept mark → Fit n → Good (entry (S.place n) mark visit)

-- The closest such `Good`: the place of a fit cell that the rules keep with this mark.
pub record KeptBy (S : Search) (Fit : S.Node → Type 0) (e : Entry S.Place) : Type 0 where
  pub node : S.Node
  pub fit : Fit node
  pub looked : S.look node ≡ is_kept e.mark
  pub placed : S.place node ≡ e.place

-- A visit of the log: the cell was fit, and it became what the rules say.
pub record SeenBy (S : Search) (Fit : S.Node → Type 0) (z : Visit S) : Type 0 where
  pub fit : Fit z.node
  pub looked : S.look z.node ≡ z.what

pub record Fitting (S : Search) (Fit : S.Node → Type 0) (Good : Entry S.Place → Type 0) (h : Log S) (s : States S) : Type 0 where
  pub waiting : All Fit s.waiting
  pub kept : All Good s.kept
  pub visited : All (SeenBy S Fit) h

-- Demand 2. What cutting keeps, as that the numbers of a cell are exact, holds of every waiting, kept and visited cell, and each visit is one of the rules.
abbrev pub CuttingKeeps : Type 1
CuttingKeeps = (S : Search) (Fit : S.Node → Type 0) (Good : Entry S.Place → Type 0) → Inherits S Fit Good
    → (budget room : ℕ) (s : States S) → All Fit s.waiting → All Good s.kept → Fitting S Fit Good (log S budget room s) (run S budget room s).state

-- The top cell would be kept, and the list has no room.
pub record TopKept (S : Search) (room : ℕ) (s : States S) : Type 0 where
  pub node : S.Node
  pub under : List S.Node
  pub mark : ℕ
  pub top : s.waiting ≡ node ∷ under
  pub looked : S.look node ≡ is_kept mark
  pub no_room : room ≤ length s.kept

-- 01, Runs: of a run from `s` that stopped in `t`. Finished: nothing waits. Spent: as many visits as the budget, and something waits.
-- Full: fewer visits than the budget, the top would be kept and there is no room.
abbrev pub Means : (S : Search) (budget room : ℕ) (s t : States S) → Answer → Type 0
Means S b room s t finished = (t.visits ≤ s.visits + b) × (t.waiting ≡ [])
Means S b room s t spent = (t.visits ≡ s.visits + b) × (t.waiting ≢ [])
Means S b room s t full = (t.visits < s.visits + b) × TopKept S room t

-- Demand 4. The answer says whether the list is short or whole.
abbrev pub AnswerMeans : Type 1
AnswerMeans = (S : Search) (budget room : ℕ) (s : States S) → Means S budget room s (run S budget room s).state (run S budget room s).answer

-- 01, Runs: a continued run ends in the state that one fresh call reaches with all the visits made and the last list. (The answer word may differ.)
abbrev pub ContinuedState : Type 1
ContinuedState = (S : Search) (s t : States S) (room : ℕ) → Called (searching S) s room t → (run S (t.visits - s.visits) room s).state ≡ t

-- The continued run, answer and all, is the one run whose budget has the visits made besides.
abbrev pub ContinuedAnswer : Type 1
ContinuedAnswer = (S : Search) (b b' r r' : ℕ) (s : States S) → r ≤ r'
    → run S ((run S b r s).state.visits - s.visits + b') r' s ≡ run S b' r' (run S b r s).state

-- `Within p q`: the cell at p lies inside the cell at q.
pub record Nests (S : Search) (Fit : S.Node → Type 0) (Within : S.Place → S.Place → Type 0) : Type 0 where
  pub passes : Passes S Fit
  pub itself : (p : S.Place) → Within p p
  pub through : (p q r : S.Place) → Within p q → Within q r → Within p r
  pub inside : AtCut S (λ n m. Fit n → Within (S.place m) (S.place n))

-- `t` begins its kept list with the whole list of `s`, and each of its cells lies inside one of `s`.
pub record Further (S : Search) (Within : S.Place → S.Place → Type 0) (s t : States S) : Type 0 where
  -- what `t` kept besides
  pub besides : List (Entry S.Place)
  pub begins : t.kept ≡ s.kept ++ besides
  pub waiting_in : All (λ n. Held S Within (S.place n) s) t.waiting
  pub kept_in : All (λ e. Held S Within e.place s) t.kept

-- Demand 3. Of two runs, the one given at least as many visits and as much room begins its kept list with the other's whole list, and each of its kept
-- or waiting cells lies inside a kept or waiting cell of the other.
abbrev pub LongerGoesOn : Type 1
LongerGoesOn = (S : Search) (Fit : S.Node → Type 0) (Within : S.Place → S.Place → Type 0) → Nests S Fit Within
    → (b b' r r' : ℕ) (s : States S) → All Fit s.waiting → b ≤ b' → r ≤ r' → Further S Within (run S b r s).state (run S b' r' s).state

-- The walk of a cell's tree: the cell and, if it is cut, the walk of its lower half, then that of its upper half.
pub data Walk (S : Search) : S.Node → Log S → Type 0 where
  walk_dropped : {n : S.Node} {d : S.Drop} → S.look n ≡ is_dropped d → Walk S n (seen n (is_dropped d) ∷ [])
  walk_kept : {n : S.Node} {mark : ℕ} → S.look n ≡ is_kept mark → Walk S n (seen n (is_kept mark) ∷ [])
  walk_cut : {n : S.Node} {c : S.Cut} {h g : Log S} → S.look n ≡ is_cut c → Walk S (S.half lower c n) h → Walk S (S.half upper c n) g → Walk S n (seen n (is_cut c) ∷ (h ++ g))

-- The visits of a fresh run that finishes are the walk of the whole tree: what a checker of walks made elsewhere has to accept.
abbrev pub FinishedWalks : Type 1
FinishedWalks = (S : Search) (root : S.Node) (budget room : ℕ) → (run S budget room (start S root)).answer ≡ finished → Walk S root (log S budget room (start S root))
