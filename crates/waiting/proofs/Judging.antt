-- The tests of a state say what 01 says: a slot, the waiting slots, the counts, and the whole check (`judged_allowed`). Assumes nothing.
use Rattle.std.specs.Prelude.{Result, Ok, Err, ⊤}
use mathlib.Core.Path.{◌≡◌, refl, sym, ap, subst}
use mathlib.Core.Bool.{Bool, true, false}
use mathlib.Core.List.{List, [], ◌∷◌}
use Prim.Native.Nat.{ℕ, zero, suc, ◌+◌, ◌*◌, ◌^◌, ◌≤◌, ◌<◌}
use native.Mathlib.Omega.{arith}
use native.Mathlib.Decide.{ℕ_discrete}
use native.Mathlib.Nat as NatL
use lib.Dec.{T, leb}
use lib.IntN.{ℤ, pos, nat_abs}
use lib.ListN.{length}
use lib.Signed.{le_z, ◌≤ℤ◌}
use Rattle.bernstein.specs.Three.{◌!◌, first, second, third}
use Rattle.system.specs.declared.refusal.Refusal.{Refusal}
use Rattle.system.specs.declared.head.Head.{Head}
use Rattle.system.specs.declared.refusal.Refused.{Refused}
use Rattle.system.specs.Heads.{depths, depth, width, Limits, checked}
use Rattle.system.proofs.Says.{Says, le_says, lt_says, and_says, each_says, says_as, says_same}
use Rattle.system.proofs.Heads.{head_says}
use Rattle.slots.specs.Slots.{at, column, numbers, SpanFits}
use Rattle.slots.specs.Rules.{every, within}
use Rattle.search.specs.Lent.{slot}
use Rattle.system.specs.Chain.{test, ◌then◌}
use Rattle.waiting.specs.States.{most, cuts, needed, span_ok, spans_ok, slot_ok, slots_ok, counts_ok, records_ok, list_ok, judged_by, SlotAllowed, JudgedByNumber, JudgedAllowed}
use Rattle.waiting.specs.declared.state.State.{State}
use Rattle.waiting.specs.declared.cursor.Kept.{Kept}

-- ---- one number, all numbers of a list
is_true : (b : Bool) → T b → b ≡ true
is_true true t = refl
is_true false t = absurd t

le_z_says : (a b : ℤ) → Says (le_z a b) (a ≤ℤ b)
le_z_says a b = record { fact = λ e. record { le = subst T (sym e) tt }; passes = λ p. is_true (le_z a b) p.le }

pub every_says : (b : ℕ) (xs : List ℤ) → Says (every (within b) xs) ((i : ℕ) → i < length xs → nat_abs (at xs i) ≤ b)
unfolding every
every_says b [] = record { fact = λ e i h. absurd (NatL.not-suc-le-zero h); passes = λ f. refl }
every_says b (x ∷ xs) =
    says_as (and_says (le_says (nat_abs x) b) (every_says b xs)) (λ p. each p) (λ f. (f 0 (omega arith), λ i h. f (suc i) (omega arith)))
  where
    each : (nat_abs x ≤ b) × ((i : ℕ) → i < length xs → nat_abs (at xs i) ≤ b) → (i : ℕ) → i < length (x ∷ xs) → nat_abs (at (x ∷ xs) i) ≤ b
    each p zero h = p.0
    each p (suc i) h = p.1 i (omega arith)

-- ---- a slot
pub span_says : (g : ℕ) (s k : ℤ) → Says (span_ok g s k) (SpanFits g s k)
unfolding span_ok
span_says g s k =
    says_as (and_says (and_says (and_says (le_z_says (pos 0) s) (le_says (nat_abs s) g)) (le_z_says (pos 0) k)) (lt_says (nat_abs k) (2 ^ nat_abs s)))
    (λ p. record { s_low = p.0.0.0; s_high = p.0.0.1; k_low = p.0.1; k_high = p.1 }) (λ f. (((f.s_low, f.s_high), f.k_low), f.k_high))

pub few_cuts : (g : ℕ) (s k : ℤ) → g ≤ 10 → span_ok g s k ≡ true → nat_abs s ≤ 10
few_cuts g s k h e = omega (arith, ((span_says g s k).fact e).s_high)

-- so that they can be counted
pub spans_few : (h : Head) (l : List ℤ) → Limits h → spans_ok h l ≡ true → (nat_abs (at l 0) ≤ 10) × (nat_abs (at l 2) ≤ 10) × (nat_abs (at l 4) ≤ 10)
spans_few h l m e =
    let f = (each_says (λ r. span_says (depths h ! r) (at l (column r)) (at l (column r + 1)))).fact e in
    (omega (arith, (f first).s_high, m.depths_high first), omega (arith, (f second).s_high, m.depths_high second), omega (arith, (f third).s_high, m.depths_high third))

pub slot_says : (h : Head) (p : ℕ) (l : List ℤ) → Says (slot_ok h p l) (SlotAllowed h p l)
unfolding slot_ok
slot_says h p l =
    says_as (and_says (and_says (each_says (λ r. span_says (depths h ! r) (at l (column r)) (at l (column r + 1)))) (every_says most (numbers l))) (le_says p (cuts l)))
    (λ p. record { spans = p.0.0; small = p.0.1; deep = p.1 }) (λ f. ((f.spans, f.small), f.deep))

-- ---- the waiting slots
abbrev pub AllAllowed : Head → ℕ → List ℤ → Type 0
AllAllowed h n st = (p : ℕ) → p < n → SlotAllowed h p (slot (width h) p st)

-- what holds below n and at n holds below n + 1
pub one_more : (P : ℕ → Type 0) (n : ℕ) → ((p : ℕ) → p < n → P p) → P n → (p : ℕ) → p < suc n → P p
one_more P n f q p l = from (ℕ_discrete p n)
  where
    from : Dec (p ≡ n) → P p
    from (yes e) = subst P (sym e) q
    from (no g) = f p (omega arith)

pub slots_says : (h : Head) (n : ℕ) (st : List ℤ) → Says (slots_ok h n st) (AllAllowed h n st)
unfolding slots_ok
slots_says h zero st = record { fact = λ e p l. absurd (NatL.not-suc-le-zero l); passes = λ f. refl }
slots_says h (suc n) st =
    says_as (and_says (slots_says h n st) (slot_says h n (slot (width h) n st))) (λ q. one_more (λ p. SlotAllowed h p (slot (width h) p st)) n q.0 q.1)
    (λ f. (λ p l. f p (omega arith), f n (omega arith)))

-- a slot that is not allowed settles the test
pub slots_stop : (h : Head) (n p : ℕ) (st : List ℤ) → p < n → slot_ok h p (slot (width h) p st) ≡ false → slots_ok h n st ≡ false
slots_stop h n p st l e = from (slots_ok h n st) refl
  where
    from : (b : Bool) → slots_ok h n st ≡ b → slots_ok h n st ≡ false
    from false f = f
    from true f = let z : ◌≡◌ {A = ℕ} 0 1 = cc ((slot_says h p (slot (width h) p st)).passes ((slots_says h n st).fact f p l)) in absurd (omega arith)

-- ---- a chain of tests passes exactly if each does
pub record Passes (c : Result ⊤ Refused) (A : Type 0) : Type 0 where
  pub fact : c ≡ Ok tt → A
  pub passes : A → c ≡ Ok tt

test_passes : {b : Bool} {A : Type 0} (w : Refusal) → Says b A → Passes (test b w 0) A
test_passes {b} w s = record { fact = λ e. s.fact (from b e); passes = λ a. rw (s.passes a) refl }
  where
    from : (b : Bool) → test b w 0 ≡ Ok tt → b ≡ true
    from true e = refl
    from false e = let z : ◌≡◌ {A = ℕ} 0 1 = cc in absurd (omega arith)

infixr 30 ◌then-passes◌
pub ◌then-passes◌ : {c d : Result ⊤ Refused} {A B : Type 0} → Passes c A → Passes d B → Passes (c then d) (A × B)
◌then-passes◌ {c} {d} p q = record { fact = λ e. let b = both c e in (p.fact b.0, q.fact b.1); passes = λ ab. rw (p.passes ab.0) (q.passes ab.1) }
  where
    both : (c : Result ⊤ Refused) → c then d ≡ Ok tt → (c ≡ Ok tt) × (d ≡ Ok tt)
    both (Ok u) e = (refl, e)
    both (Err w) e = let z : ◌≡◌ {A = ℕ} 0 1 = cc in absurd (omega arith)

pub head_passes : (h : Head) → Passes (checked h) (Limits h)
head_passes h = test_passes Refusal.OutOfLimits (head_says h)

pub le_passes : (a b : ℕ) (w : Refusal) → Passes (test (leb a b) w 0) (a ≤ b)
le_passes a b w = test_passes w (le_says a b)

pub true_passes : (b : Bool) (w : Refusal) → Passes (test b w 0) (b ≡ true)
true_passes b w = test_passes w (record { fact = λ e. e; passes = λ e. e })

-- ---- the counts
counts_says : (h : Head) (s : State) → Says (counts_ok h s) (((s.waiting ≤ suc (depth h)) × (s.dropped ≤ s.visits)) × (s.visits ≤ 2147483647))
unfolding counts_ok
counts_says h s = and_says (and_says (le_says s.waiting (suc (depth h))) (le_says s.dropped s.visits)) (le_says s.visits 2147483647)

-- waiting slots stand in the store
pub counts_inside : (h : Head) (s : State) (st : List ℤ) → counts_ok h s ≡ true → needed h ≤ length st → s.waiting * width h ≤ length st
counts_inside h s st e l = omega (arith, NatL.mul-le-mul_right (width h) ((counts_says h s).fact e).0.0)

-- ---- the list: of its records nothing is asked but that they are there
records_says : (n : ℕ) (list : List Kept) → Says (records_ok n list) (n ≤ length list)
unfolding records_ok
records_says zero list = record { fact = λ e. omega arith; passes = λ l. refl }
records_says (suc n) [] = record { fact = λ e. let z : ◌≡◌ {A = ℕ} 0 1 = cc in absurd (omega arith); passes = λ l. absurd (omega arith) }
records_says (suc n) (k ∷ list) = says_as (records_says n list) (λ l. omega arith) (λ l. omega arith)

list_says : (s : State) (list : List Kept) → Says (list_ok s list) (s.kept ≤ length list)
unfolding list_ok
list_says s list = records_says s.kept list

pub judged_by_number : JudgedByNumber
judged_by_number h s st list = ap (judged_by h s st) (says_same (le_says s.kept (length list)) (list_says s list))

-- ---- the check
pub judged_allowed : JudgedAllowed
unfolding judged_by
judged_allowed h s st list =
    let whole = head_passes h then-passes le_passes (needed h) (length st) Refusal.TooShort then-passes test_passes Refusal.OutsideRules (counts_says h s)
    then-passes test_passes Refusal.OutsideRules (slots_says h s.waiting st) then-passes test_passes Refusal.OutsideRules (list_says s list) in (
      λ e. let f = whole.fact e in (
        f.0,
        f.1.0,
        record {
          waiting_high = f.1.1.0.0.0;
          kept_high = f.1.1.1.1;
          dropped_high = f.1.1.0.0.1;
          visits_high = f.1.1.0.1;
          slots = f.1.1.1.0;
        },
      ),
      λ k. whole.passes (k.0, (k.1, (((k.2.waiting_high, k.2.dropped_high), k.2.visits_high), (k.2.slots, k.2.kept_high)))),
    )
