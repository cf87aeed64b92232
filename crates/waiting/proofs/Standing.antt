-- The rules allow the slot of a start and both halves of an allowed slot that is cut, so every slot that a run reaches is allowed; and D + 1 slots are enough.
-- Assumes nothing.
use mathlib.Core.Path.{◌≡◌}
use mathlib.Core.Bool.{true}
use mathlib.Core.List.{List, [], ◌∷◌, ◌++◌}
use Prim.Native.Nat.{ℕ, zero, suc, ◌+◌, ◌/◌, ◌%◌, ◌^◌, ◌≤◌, ◌<◌}
use native.Mathlib.Omega.{arith}
use native.Mathlib.Nat as NatL
use lib.IntN.{ℤ, nat_abs}
use lib.ListN.{length}
use Rattle.whole.specs.Half.{Half, lower, upper}
use Rattle.whole.proofs.Order.{nonneg_pos}
use Rattle.bernstein.specs.Three
use Rattle.bernstein.specs.Three.{first, second, third, ◌!◌}
use Rattle.bernstein.specs.Numbers.{Patch, Box, half_box, unit}
use Rattle.bernstein.specs.Frames.{Lawful}
use Rattle.system.specs.declared.head.Head.{Head}
use Rattle.system.specs.Heads.{depths, depth, frame, places, width, Limits}
use Rattle.boxes.specs.Boxes.{direction}
use Rattle.system.proofs.Heads.{lawful}
use Rattle.slots.specs.Slots.{at, column, box_in, box_numbers, numbers, in_turn, polynomial, half_numbers, half_slot, start_numbers, unit_slot, SpanFits}
use Rattle.slots.specs.Rules.{can_cut, looked}
use Rattle.slots.proofs.Builds.{build_at, in_turn_length}
use Rattle.slots.proofs.Chosen.{cut_in}
use Rattle.search.specs.Search.{is_dropped, is_kept, is_cut, States, become}
use Rattle.search.specs.Lent.{slot, stack, slots, Stacked}
use Rattle.search.proofs.Search.{Closed}
use Rattle.search.proofs.Slots.{stack_length}
use Rattle.waiting.specs.Cells.{cells, left}
use Rattle.waiting.specs.States.{most, cuts, SlotAllowed}
use Rattle.waiting.proofs.Measures.{outcome_is}
use Rattle.waiting.proofs.Fitting.{AllStored, start_stored, half_spans, half_stored}
use Rattle.waiting.proofs.Judging.{AllAllowed, one_more}

-- ---- the numbers of patches in turn, place by place
in_turn_small : (h : Head) → Lawful (frame h) → (p : ℕ → Patch) → ((t : ℕ) → t < h.m → AllStored h (p t)) → (i : ℕ) → i < length (in_turn h p) → nat_abs (at (in_turn h p) i) ≤ most
unfolding in_turn places
in_turn_small h L p f i l =
    let some : 0 < (frame h).size = L.size_low in
    let below : i < places h = rw (in_turn_length h p) at l in
    let row : i / (frame h).size < h.m = (NatL.div-lt_iff_lt-mul some).1 below in
    let s = f (i / (frame h).size) row ((frame h).index (i % (frame h).size)) (L.index_inside (i % (frame h).size) (NatL.mod-lt i some)) in
    rw (build_at (places h) (λ x. p (x / (frame h).size) ((frame h).index (x % (frame h).size))) i below) (omega (arith, s.below))

-- ---- a slot that a box and patches make
abbrev SpansIn : Head → Box → Type 0
SpansIn h b = (r : Three.Direction) → ((b ! r).cuts ≤ depths h ! r) × ((b ! r).position < 2 ^ (b ! r).cuts)

made_spans : (h : Head) (b : Box) (xs : List ℤ) → SpansIn h b → (r : Three.Direction) → SpanFits (depths h ! r) (at (box_numbers b ++ xs) (column r)) (at (box_numbers b ++ xs) (column r + 1))
made_spans h b xs f first = record { s_low = nonneg_pos b.x₁.cuts; s_high = (f first).0; k_low = nonneg_pos b.x₁.position; k_high = (f first).1 }
made_spans h b xs f second = record { s_low = nonneg_pos b.x₂.cuts; s_high = (f second).0; k_low = nonneg_pos b.x₂.position; k_high = (f second).1 }
made_spans h b xs f third = record { s_low = nonneg_pos b.x₃.cuts; s_high = (f third).0; k_low = nonneg_pos b.x₃.position; k_high = (f third).1 }

-- and back, of any slot
spans_in : (h : Head) (p : ℕ) (l : List ℤ) → SlotAllowed h p l → SpansIn h (box_in l)
spans_in h p l a first = ((a.spans first).s_high, (a.spans first).k_high)
spans_in h p l a second = ((a.spans second).s_high, (a.spans second).k_high)
spans_in h p l a third = ((a.spans third).s_high, (a.spans third).k_high)

-- ---- the start
pub unit_allowed : (h : Head) → Limits h → (cs : List ℤ) → ((i : ℕ) → i < places h → nat_abs (at cs i) ≤ 1000000000) → SlotAllowed h 0 (unit_slot h cs)
unfolding unit_slot
unit_allowed h m cs small = record {
  spans = made_spans h unit (start_numbers h cs) (elim [ first ↦ (omega arith, omega arith) | second ↦ (omega arith, omega arith) | third ↦ (omega arith, omega arith) ]);
  small = in_turn_small h (lawful h m) (λ t. (frame h).start (polynomial h cs t)) (start_stored h m cs small);
  deep = omega arith;
}

-- ---- a cut
half_cuts : (h : Head) (e : Half) (r : Three.Direction) (l : List ℤ) → cuts (half_slot h e r l) ≡ suc (cuts l)
unfolding half_slot
half_cuts h lower first l = omega arith
half_cuts h lower second l = omega arith
half_cuts h lower third l = omega arith
half_cuts h upper first l = omega arith
half_cuts h upper second l = omega arith
half_cuts h upper third l = omega arith

-- in a direction below its depth in which the box can be cut
pub half_allowed : (h : Head) → Limits h → (p : ℕ) (l : List ℤ) → SlotAllowed h p l → (d : Three.Direction) → (box_in l ! d).cuts < depths h ! d → can_cut h d l ≡ true
    → (e : Half) (q : ℕ) → q ≤ suc p → SlotAllowed h q (half_slot h e d l)
unfolding half_slot
half_allowed h m p l a d below can e q k = record {
  spans = made_spans h (half_box e d (box_in l)) (half_numbers h e d (numbers l)) (half_spans h e d (box_in l) below (spans_in h p l a));
  small = in_turn_small h (lawful h m) (λ t. (frame h).half e d (polynomial h (numbers l) t)) (half_stored h m l e d can);
  deep = omega (arith, half_cuts h e d l, a.deep);
}

-- ---- the waiting slots as the stack of a search, the top first
abbrev pub StackAllowed : Head → List (List ℤ) → Type 0
StackAllowed h [] = Unit {0}
StackAllowed h (l ∷ rest) = SlotAllowed h (length rest) l × StackAllowed h rest

module _ (h : Head) (st : List ℤ) where
  pub to_stack : (n : ℕ) → AllAllowed h n st → StackAllowed h (stack (width h) n st)
  unfolding stack
  to_stack zero f = tt
  to_stack (suc n) f = (rw (stack_length (width h) n st) (f n (omega arith)), to_stack n (λ p l. f p (omega arith)))

  pub from_stack : (n : ℕ) → StackAllowed h (stack (width h) n st) → AllAllowed h n st
  unfolding stack
  from_stack zero f p l = absurd (NatL.not-suc-le-zero l)
  from_stack (suc n) f p l = one_more (λ p. SlotAllowed h p (slot (width h) p st)) n (from_stack n f.1) (rw (stack_length (width h) n st) at f.0) p l

-- a slot at p has at most D - p cuts left
pub slot_left : (h : Head) (p : ℕ) (l : List ℤ) → SlotAllowed h p l → left h l + p ≤ depth h
slot_left h p l a = omega (arith, a.deep, (a.spans first).s_high, (a.spans second).s_high, (a.spans third).s_high)

pub stacked : (h : Head) (w : List (List ℤ)) → StackAllowed h w → Stacked (left h) (depth h) w
stacked h [] f = tt
stacked h (l ∷ rest) f = (slot_left h (length rest) l f.0, stacked h rest f.1)

-- every visit leaves allowed slots, and no more drops than visits
pub record Stands (h : Head) (s : States (slots (cells h))) : Type 0 where
  pub allowed : StackAllowed h s.waiting
  pub dropped_high : s.dropped ≤ s.visits

pub stands_closed : (h : Head) → Limits h → Closed (slots (cells h)) (λ z s. Stands h s)
unfolding become
stands_closed h m z n s (is_dropped x) e u p = record { allowed = p.allowed.1; dropped_high = omega (arith, p.dropped_high) }
stands_closed h m z n s (is_kept k) e u p = record { allowed = p.allowed.1; dropped_high = omega (arith, p.dropped_high) }
stands_closed h m z n s (is_cut r) e u p =
    let c = cut_in h n r (outcome_is (looked h n) e) in
    let half = half_allowed h m (length s.waiting) n p.allowed.0 (direction r) c.below c.can in
    record {
      allowed = (half lower (suc (length s.waiting)) (omega arith), (half upper (length s.waiting) (omega arith), p.allowed.1));
      dropped_high = omega (arith, p.dropped_high);
    }
