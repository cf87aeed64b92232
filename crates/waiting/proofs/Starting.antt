-- A start that passes its tests leaves a state that the rules allow, whose memory holds the start of the search, in a slot of exact numbers. Assumes nothing.
use Rattle.std.specs.Prelude.{Ok}
use mathlib.Core.Path.{◌≡◌, refl, sym, ap, subst, ◌∙◌}
use mathlib.Core.Bool.{true}
use mathlib.Core.List.{List, ◌++◌}
use Prim.Native.Nat.{ℕ, ◌+◌, ◌-◌, ◌*◌, ◌≤◌, ◌<◌}
use native.Mathlib.Omega.{arith}
use native.Mathlib.Nat.{zero-mul}
use lib.IntN.{ℤ, pos, nat_abs}
use lib.ListN.{length, take, drop, replicate, length-replicate, length-append, length-take, length-drop}
use lib.Seq.{take_at, drop_at, drop-drop, get_or-take, length-take-le}
use Rattle.bernstein.specs.Numbers.{Box}
use Rattle.system.specs.declared.refusal.Refusal.{Refusal}
use Rattle.system.specs.declared.head.Head.{Head}
use Rattle.system.specs.Heads.{places, depth, width, Limits}
use Rattle.slots.specs.Slots.{at, unit_slot}
use Rattle.slots.specs.Rules.{every, within}
use Rattle.slots.proofs.Builds.{unit_slot_length}
use Rattle.search.specs.Search.{Entry, start}
use Rattle.search.specs.Lent.{slot, stack, slots, held}
use Rattle.waiting.specs.Cells.{cells}
use Rattle.waiting.specs.Fits.{Fit}
use Rattle.waiting.specs.States.{needed, SlotAllowed}
use Rattle.waiting.specs.Starts.{start_check, fresh_state, fresh_store, StartAllowed}
use Rattle.waiting.specs.States.{memory_of}
use Rattle.waiting.proofs.Fitting.{unit_fit}
use Rattle.waiting.proofs.Judging.{◌then-passes◌, head_passes, le_passes, true_passes, every_says}
use Rattle.waiting.proofs.Standing.{unit_allowed}

-- ---- what a start that is not refused has
pub record Startable (h : Head) (cs st : List ℤ) : Type 0 where
  pub limits : Limits h
  pub enough : places h ≤ length cs
  pub every_in_range : every (within 1000000000) (take (places h) cs) ≡ true
  pub in_range : (i : ℕ) → i < places h → nat_abs (at cs i) ≤ 1000000000
  pub long : needed h ≤ length st

pub start_passes : (h : Head) (cs st : List ℤ) → start_check h cs st ≡ Ok tt → Startable h cs st
unfolding start_check
start_passes h cs st e =
    let f = (head_passes h then-passes le_passes (places h) (length cs) Refusal.TooShort then-passes true_passes (every (within 1000000000) (take (places h) cs)) Refusal.BadCoefficient
    then-passes le_passes (needed h) (length st) Refusal.TooShort).fact e in
    record {
      limits = f.0;
      enough = f.1.0;
      every_in_range = f.1.1.0;
      in_range = λ i l.
          subst (λ (z : ℤ). nat_abs z ≤ 1000000000) (get_or-take (places h) cs i (pos 0) l)
          ((every_says 1000000000 (take (places h) cs)).fact f.1.1.0 i (rw (length-take-le (places h) cs f.1.0) l));
      long = f.1.1.1;
    }

-- ---- the store afterwards
-- y at the front, then k times v, and the rest as it was: first y is put, then the k places after it
module _ {A : Type 0} (W k : ℕ) (y st : List A) (v : A) (ly : length y ≡ W) (long : W + k ≤ length st) where
  front_length : length (y ++ drop W st) ≡ length st
  front_length = simp (length-append, length-drop) (omega arith)

  two_parts : (z : List A) → z ≡ replicate (length (take k (drop W (y ++ drop W st)))) v
      → take W (y ++ drop W st) ++ (z ++ drop k (drop W (y ++ drop W st))) ≡ y ++ (replicate k v ++ drop (W + k) st)
  two_parts z e =
      let d : drop W (y ++ drop W st) ≡ drop W st = drop_at y (drop W st) W ly in
      let n : length (take k (drop W st)) ≡ k = simp (length-take, length-drop) (omega arith) in
      rw (e, d, n, take_at y (drop W st) W ly, drop-drop k W st) refl

-- the same as the code has it, with the width w and the depth d that it computed
module _ (h : Head) (cs st : List ℤ) {w d : ℕ} (ew : w ≡ width h) (ed : d ≡ depth h) (long : needed h ≤ length st) (y : List ℤ) (ey : y ≡ unit_slot h cs) where
  zeros_are : w + d * w - w ≡ depth h * width h
  zeros_are = let e : d * w ≡ depth h * width h = rw (ew, ed) refl in omega arith

  pub filled_inside : w + d * w ≤ length (y ++ drop (w - 0) st)
  filled_inside =
      let e : d * w ≡ depth h * width h = rw (ew, ed) refl in
      let z : w - 0 ≡ width h = omega arith in
      let n : length (y ++ drop (width h) st) ≡ length st = front_length (width h) (depth h * width h) y st (pos 0) (ap length ey ∙ unit_slot_length h cs) (omega arith) in
      rw z (omega arith)

  pub filled : (z : List ℤ) → z ≡ replicate (length (take (w + d * w - w) (drop w (y ++ drop (w - 0) st)))) (pos 0)
      → take w (y ++ drop (w - 0) st) ++ (z ++ drop (w + d * w - w) (drop w (y ++ drop (w - 0) st))) ≡ fresh_store h cs st
  unfolding fresh_store
  filled z e =
      let o : w - 0 ≡ width h = omega arith in
      let n : width h + depth h * width h ≡ needed h = omega arith in
      let f : z ≡ replicate (length (take (depth h * width h) (drop (width h) (y ++ drop (width h) st)))) (pos 0) = rw (zeros_are, o, ew) at e in
      rw (zeros_are, o, ew) (two_parts (width h) (depth h * width h) y st (pos 0) (ap length ey ∙ unit_slot_length h cs) (omega arith) z f ∙ rw (ey, n) refl)

module _ (h : Head) (cs st : List ℤ) where
  pub fresh_slot : slot (width h) 0 (fresh_store h cs st) ≡ unit_slot h cs
  unfolding fresh_store
  fresh_slot =
      ap (λ (i : ℕ). take (width h) (drop i (unit_slot h cs ++ (replicate (depth h * width h) (pos 0) ++ drop (needed h) st)))) (zero-mul (width h))
      ∙ take_at (unit_slot h cs) (replicate (depth h * width h) (pos 0) ++ drop (needed h) st) (width h) (unit_slot_length h cs)

  pub fresh_length : needed h ≤ length st → length (fresh_store h cs st) ≡ length st
  unfolding fresh_store
  fresh_length l = simp (length-append, length-replicate, length-drop) (omega (arith, unit_slot_length h cs))

  -- the root alone waits
  pub fresh_held : (list : List (Entry Box)) → held (cells h) (memory_of (fresh_store h cs st) list fresh_state) ≡ start (slots (cells h)) (unit_slot h cs)
  unfolding stack
  fresh_held list = ap (λ (l : List ℤ). start (slots (cells h)) l) fresh_slot

  module _ (e : start_check h cs st ≡ Ok tt) where
    -- exact numbers within M
    pub start_fit : Fit h cs (unit_slot h cs)
    start_fit = unit_fit h (start_passes h cs st e).limits cs (start_passes h cs st e).in_range

    fresh_allowed : SlotAllowed h 0 (slot (width h) 0 (fresh_store h cs st))
    fresh_allowed = subst (SlotAllowed h 0) (sym fresh_slot) (unit_allowed h (start_passes h cs st e).limits cs (start_passes h cs st e).in_range)

pub start_allowed : StartAllowed
start_allowed h cs st e room = record {
  waiting_high = omega arith;
  kept_high = omega arith;
  dropped_high = omega arith;
  visits_high = omega arith;
  slots = λ p l. let z : 0 ≡ p = omega arith in subst (λ (p : ℕ). SlotAllowed h p (slot (width h) p (fresh_store h cs st))) z (fresh_allowed h cs st e);
}
