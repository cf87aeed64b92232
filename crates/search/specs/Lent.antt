-- The search in lent memory, slot by slot: the waiting cells in slots of a flat store, the kept entries in a lent list, and four counts.
-- Definitions, and the claims that depth + 1 slots are enough, that it runs in step with the search, and that a continued run is one run in every slot;
-- `proofs/` has their proofs under the same names.
use Rattle.std.specs.Prelude.{◌≡◌, List, [], ◌∷◌, ◌++◌, length, take, drop, set, replicate, ℕ, zero, suc, ◌+◌, ◌-◌, ◌*◌, ◌≤◌}
use Rattle.whole.specs.Half.{Half, lower, upper}
use Rattle.search.specs.Machine.{Machine, Stop, BothStop, drive, trace}
use Rattle.search.specs.Search.{Look, is_dropped, is_kept, is_cut, Search, Entry, States, Visit, Log, state, entry, turn, due, run, log}
use Rattle.search.specs.Counts.{Measured}

-- `x` written over `st` from the place `at`.
abbrev pub put : {A : Type 0} → ℕ → List A → List A → List A
put at x st = take at st ++ (x ++ drop (at + length x) st)

module _ {A : Type 0} (width : ℕ) where
  -- The numbers in slot c, counted from 0.
  abbrev pub slot : ℕ → List A → List A
  slot c st = take width (drop (c * width) st)

  -- The cells in the slots below c, the highest slot first.
  unfoldable pub stack : ℕ → List A → List (List A)
  stack zero st = []
  stack (suc c) st = slot c st ∷ stack c st

-- A search whose cells are slots of `width` numbers. `blank` stands in a slot given up.
pub record Slots (A : Type 0) : Type 1 where
  pub Place : Type 0
  pub Drop : Type 0
  pub Cut : Type 0
  pub width : ℕ
  pub blank : A
  pub place : List A → Place
  pub look : List A → Look Drop Cut
  pub half : Half → Cut → List A → List A

-- The halves of a slot are slots: they have its width.
abbrev pub HalvesWide : {A : Type 0} → Slots A → Type 0
HalvesWide {A} K = (h : Half) (c : K.Cut) (n : List A) → length n ≡ K.width → length (K.half h c n) ≡ K.width

abbrev pub slots : {A : Type 0} → Slots A → Search
slots {A} K = record { Node = List A; Place = K.Place; Drop = K.Drop; Cut = K.Cut; place = K.place; look = K.look; half = K.half }

-- 01, Runs: the state is four counts, and two lent stores go with it.
pub record Lent (A Place : Type 0) : Type 0 where
  pub store : List A
  pub list : List (Entry Place)
  pub waiting : ℕ
  pub kept : ℕ
  pub visits : ℕ
  pub dropped : ℕ

abbrev pub memory : {A Place : Type 0} → (store : List A) (list : List (Entry Place)) (waiting kept visits dropped : ℕ) → Lent A Place
memory st l w k v d = record { store = st; list = l; waiting = w; kept = k; visits = v; dropped = d }

module _ {A : Type 0} (K : Slots A) where
  -- The state of the search that lent memory holds.
  abbrev pub held : Lent A K.Place → States (slots K)
  held f = state (stack K.width f.waiting f.store) (take f.kept f.list) f.visits f.dropped

  -- The store with `x` in slot p; and with slot p given up.
  abbrev pub in_slot : ℕ → List A → List A → List A
  in_slot p x st = put (p * K.width) x st

  abbrev pub given_up : ℕ → List A → List A
  given_up p st = in_slot p (replicate K.width K.blank) st

  -- 01, Runs. The cell in slot p becomes what the rules say. A slot given up is blank; the upper half takes the cell's slot, the lower half the slot
  -- above; a kept entry stands at the first free place of the list. Nothing else is written.
  unfoldable pub lent_become : ℕ → Lent A K.Place → Look K.Drop K.Cut → Lent A K.Place
  lent_become p f (is_dropped _) = memory (given_up p f.store) f.list p f.kept (suc f.visits) (suc f.dropped)
  lent_become p f (is_kept mark) =
      let new = entry (K.place (slot K.width p f.store)) mark (suc f.visits) in
      memory (given_up p f.store) (set f.list f.kept new) p (suc f.kept) (suc f.visits) f.dropped
  lent_become p f (is_cut c) =
      let half : Half → List A = λ h. K.half h c (slot K.width p f.store) in
      memory (in_slot (suc p) (half lower) (in_slot p (half upper) f.store)) f.list (suc (suc p)) f.kept (suc f.visits) f.dropped

  -- One visit of the cell in the highest slot in use.
  unfoldable pub lent_top : ℕ → Lent A K.Place → Lent A K.Place
  lent_top zero f = f
  lent_top (suc p) f = lent_become p f (K.look (slot K.width p f.store))

  abbrev pub lent : Machine
  lent = record {
    State = Lent A K.Place;
    Note = Visit (slots K);
    turn = λ room f. turn (slots K) room (held f);
    visit = λ f. lent_top f.waiting f;
    note = λ f. due (slots K) (held f).waiting;
  }

-- The cell over p others has at most `depth - p` cuts left: 01, Refusal numbers, "in slot p fewer than p cuts in all".
abbrev pub Stacked : {Node : Type 0} → (Node → ℕ) → ℕ → List Node → Type 0
Stacked left depth [] = Unit {0}
Stacked left depth (n ∷ rest) = (left n + length rest ≤ depth) × Stacked left depth rest

-- 01, Runs: depth + 1 slots are always enough. A start is stacked if its root has at most `depth` cuts left.
abbrev pub SlotsEnough : Type 1
SlotsEnough = (S : Search) (left : S.Node → ℕ) → Measured S left → (depth budget room : ℕ) (s : States S) → Stacked left depth s.waiting
    → Stacked left depth (run S budget room s).state.waiting × (length (run S budget room s).state.waiting ≤ suc depth)

module _ {A : Type 0} (K : Slots A) (left : List A → ℕ) (depth room : ℕ) where
  -- The memory is long enough.
  pub record Enough (f : Lent A K.Place) : Type 0 where
    pub stacked : Stacked left depth (stack K.width f.waiting f.store)
    pub store_fits : suc depth * K.width ≤ length f.store
    pub kept_fits : f.kept ≤ length f.list
    pub room_is : room ≡ length f.list

  -- The memory is long enough and holds the state.
  abbrev pub Holds : Lent A K.Place → States (slots K) → Type 0
  Holds f s = Enough f × (held K f ≡ s)

-- A run in lent memory that is long enough runs in step with the search: the same answer, the same visits, and the memory holds the search's state.
abbrev pub LentRuns : Type 1
LentRuns = (A : Type 0) (K : Slots A) (left : List A → ℕ) → HalvesWide K → Measured (slots K) left
    → (depth room budget : ℕ) (f : Lent A K.Place) → Enough K left depth room f
    → BothStop (Holds K left depth room) (λ y z. y ≡ z) (drive (lent K) budget room f) (trace (lent K) budget room f)
    (run (slots K) budget room (held K f)) (log (slots K) budget room (held K f))

-- What is in use of lent memory: all of it but the places of the list past the kept count.
abbrev pub used : {A Place : Type 0} → Lent A Place → Lent A Place
used f = memory f.store (take f.kept f.list) f.waiting f.kept f.visits f.dropped

module _ {A : Type 0} (K : Slots A) where
  -- One call, with the list that the memory has: where it stops, and the visits that it makes.
  abbrev pub called : (budget : ℕ) → Lent A K.Place → Stop (Lent A K.Place)
  called budget f = drive (lent K) budget (length f.list) f

  abbrev pub visits_made : (budget : ℕ) → Lent A K.Place → Log (slots K)
  visits_made budget f = trace (lent K) budget (length f.list) f

-- 01, Runs: lent memory as a call finds it. As a start left it, with the root in slot 0 of `store`, any list, and the counts 1, 0, 0, 0; or as an earlier
-- call did: "A run may be continued from its state, .. with its stores as it left them, also with a longer list that begins with the same entries".
pub data Begun {A : Type 0} (K : Slots A) (store : List A) : Lent A K.Place → Type 0 where
  at_start : (list : List (Entry K.Place)) → Begun K store (memory store list 1 0 0 0)
  continued : {f : Lent A K.Place} → Begun K store f → (budget : ℕ) (next : Lent A K.Place) → used (called K budget f).state ≡ used next
      → length f.list ≤ length next.list → Begun K store next

-- `g` was reached from `f` by calls, each with what was in use when the one before stopped and a list that is no shorter.
pub data LentCalled {A : Type 0} (K : Slots A) (f : Lent A K.Place) : Lent A K.Place → Type 0 where
  lent_first : (budget : ℕ) → LentCalled K f (drive (lent K) budget (length f.list) f).state
  lent_again : {g : Lent A K.Place} → LentCalled K f g → (next : Lent A K.Place) → used g ≡ used next → length g.list ≤ length next.list
      → (budget : ℕ) → LentCalled K f (drive (lent K) budget (length next.list) next).state

-- 01, Runs, in lent memory: a continued run ends in the state, slot by slot, that one fresh call reaches with all the visits made and the last list.
abbrev pub LentContinued : Type 1
LentContinued = (A : Type 0) (K : Slots A) (f g : Lent A K.Place) → f.kept ≤ length f.list → LentCalled K f g
    → (fresh : Lent A K.Place) → used f ≡ used fresh → length fresh.list ≡ length g.list
    → used (drive (lent K) (g.visits - f.visits) (length fresh.list) fresh).state ≡ used g
