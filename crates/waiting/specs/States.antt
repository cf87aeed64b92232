-- The check of a state against the head, the waiting store and the list (01, "Refusal numbers", Run: 4, 9, 10): once as the chain of tests that `check` makes,
-- once as a record of facts. Definitions, and the statement that the two agree.
use Rattle.std.specs.Prelude.{◌≡◌, Bool, true, false, ◌&&◌, List, [], ◌∷◌, ◌↔◌, ℕ, zero, suc, ◌+◌, ◌-◌, ◌*◌, ◌^◌, ◌≤◌, ◌<◌, leb, ltb, ℤ, pos, nat_abs, length, get_or, Result, Ok, ⊤}
use Rattle.std.specs.Int.Signed.{le_z}
use Rattle.bernstein.specs.Three.{Direction, ◌!◌}
use Rattle.bernstein.specs.Numbers.{Box}
use Rattle.system.specs.declared.refusal.Refusal.{Refusal}
use Rattle.boxes.specs.declared.half.Direction as Half
use Rattle.boxes.specs.Boxes.{direction}
use Rattle.system.specs.declared.head.Head.{Head}
use Rattle.system.specs.declared.refusal.Refused.{Refused}
use Rattle.system.specs.Directions.{each}
use Rattle.system.specs.Heads.{depths, depth, width, Limits, checked}
use Rattle.slots.specs.Slots.{at, column, box_in, numbers, SpanFits, SlotFits}
use Rattle.slots.specs.Rules.{every, within, can_cut}
use Rattle.search.specs.Search.{Entry}
use Rattle.search.specs.Lent.{slot, Lent, memory}
use Rattle.system.specs.Chain.{test, ◌then◌}
use Rattle.waiting.specs.declared.state.State.{State}
use Rattle.waiting.specs.declared.cursor.Kept.{Kept}

-- M
abbrev pub most : ℕ
most = 2 ^ 62 - 1

-- the cuts of a slot's box, in all
abbrev pub cuts : List ℤ → ℕ
cuts l = (box_in l).x₁.cuts + (box_in l).x₂.cuts + (box_in l).x₃.cuts

-- (D + 1) × (6 + m × S)
abbrev pub needed : Head → ℕ
needed h = suc (depth h) * width h

-- ---- a state as the counts of lent memory
abbrev pub memory_of : {A : Type 0} → List A → List (Entry Box) → State → Lent A Box
memory_of st list s = memory st list s.waiting s.kept s.visits s.dropped

abbrev pub state_of : {A : Type 0} → Lent A Box → State
state_of f = record { waiting = f.waiting; kept = f.kept; visits = f.visits; dropped = f.dropped }

-- ---- as tests
-- a bad s or k: s above g, k not below 2^s, a negative one
unfoldable pub span_ok : ℕ → ℤ → ℤ → Bool
span_ok g s k = le_z (pos 0) s && leb (nat_abs s) g && le_z (pos 0) k && ltb (nat_abs k) (2 ^ nat_abs s)

abbrev pub spans_ok : Head → List ℤ → Bool
spans_ok h l = each (λ r. span_ok (depths h ! r) (at l (column r)) (at l (column r + 1)))

-- the slot l, as slot p
unfoldable pub slot_ok : Head → ℕ → List ℤ → Bool
slot_ok h p l = spans_ok h l && every (within most) (numbers l) && leb p (cuts l)

-- the waiting slots, from slot 0 on
unfoldable pub slots_ok : Head → (waiting : ℕ) → List ℤ → Bool
slots_ok h zero st = true
slots_ok h (suc p) st = slots_ok h p st && slot_ok h p (slot (width h) p st)

unfoldable pub counts_ok : Head → State → Bool
counts_ok h s = leb s.waiting (suc (depth h)) && leb s.dropped s.visits && leb s.visits 2147483647

-- the list, record by record: as many as were kept are there
unfoldable pub records_ok : (kept : ℕ) → List Kept → Bool
records_ok zero list = true
records_ok (suc n) [] = false
records_ok (suc n) (k ∷ list) = records_ok n list

unfoldable pub list_ok : State → List Kept → Bool
list_ok s list = records_ok s.kept list

-- the tests in order, by what is found of the list
unfoldable pub judged_by : Head → State → List ℤ → (listed : Bool) → Result ⊤ Refused
judged_by h s st listed =
    checked h
    then test (leb (needed h) (length st)) Refusal.TooShort 0
    then test (counts_ok h s) Refusal.OutsideRules 0
    then test (slots_ok h s.waiting st) Refusal.OutsideRules 0
    then test listed Refusal.OutsideRules 0

abbrev pub judged : Head → State → List ℤ → List Kept → Result ⊤ Refused
judged h s st list = judged_by h s st (list_ok s list)

-- By the number of records `check` answers what is judged of them, whatever they are.
abbrev pub JudgedByNumber : Type 0
JudgedByNumber = (h : Head) (s : State) (st : List ℤ) (list : List Kept) → judged_by h s st (leb s.kept (length list)) ≡ judged h s st list

-- ---- as facts
pub record SlotAllowed (h : Head) (p : ℕ) (l : List ℤ) : Type 0 where
  pub spans : (r : Direction) → SpanFits (depths h ! r) (at l (column r)) (at l (column r + 1))
  pub small : (i : ℕ) → i < length (numbers l) → nat_abs (at (numbers l) i) ≤ most
  pub deep : p ≤ cuts l

pub record Allowed (h : Head) (s : State) (st : List ℤ) (room : ℕ) : Type 0 where
  pub waiting_high : s.waiting ≤ suc (depth h)
  pub kept_high : s.kept ≤ room
  pub dropped_high : s.dropped ≤ s.visits
  pub visits_high : s.visits ≤ 2147483647
  pub slots : (p : ℕ) → p < s.waiting → SlotAllowed h p (slot (width h) p st)

-- A state is let through exactly if the head is within limits, the store is long enough, and the rules allow the state.
abbrev pub JudgedAllowed : Type 0
JudgedAllowed = (h : Head) (s : State) (st : List ℤ) (list : List Kept)
    → (judged h s st list ≡ Ok tt) ↔ (Limits h × (needed h ≤ length st) × Allowed h s st (length list))

-- A slot that may be cut in direction r, as `cut` asks it.
pub record MayCut (h : Head) (r : Half.Direction) (l : List ℤ) : Type 0 where
  pub fits : SlotFits h l
  pub below : (box_in l ! direction r).cuts < depths h ! direction r
  pub can : can_cut h (direction r) l ≡ true

-- ---- as four numbers
-- waiting, kept, visits, dropped
abbrev pub state_from : List ℕ → State
state_from b = record { waiting = get_or b 0 0; kept = get_or b 1 0; visits = get_or b 2 0; dropped = get_or b 3 0 }

abbrev pub state_numbers : State → List ℕ
state_numbers s = s.waiting ∷ s.kept ∷ s.visits ∷ s.dropped ∷ []
