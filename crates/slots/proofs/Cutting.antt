-- The cut of a slot: all its lines can be cut, and from their halves come the two slots of the halves. Assumes nothing.
use mathlib.Core.Path.{◌≡◌, sym, ◌∙◌, ap, ap₂, subst}
use mathlib.Core.Bool.{true}
use mathlib.Core.Logic.{inl, inr}
use mathlib.Core.List.{List, ◌++◌}
use Prim.Native.Nat.{ℕ, ◌+◌, ◌*◌, ◌-◌, ◌^◌, ◌≤◌, ◌<◌}
use native.Mathlib.Omega.{arith}
use native.Mathlib.Nat as NatL
use borrow.Author.Tests.{leb-true}
use lib.Pow.{pow_pos}
use lib.IntN.{ℤ, pos, nat_abs}
use lib.ListN.{length, length-append, get_or-append}
use lib.Seq.{ext_get_or, get_or-append-add}
use Rattle.whole.specs.Half.{Half, lower, upper}
use Rattle.whole.specs.Size.{Below}
use Rattle.whole.proofs.Parts.{by_lt}
use Rattle.bernstein.specs.Three.{Direction, ◌!◌}
use Rattle.bernstein.specs.Numbers.{half_box, half_line}
use Rattle.bernstein.specs.Places.{stride, blocks}
use Rattle.bernstein.proofs.Lines.{half_cong}
use Rattle.system.specs.declared.head.Head.{Head}
use Rattle.system.specs.Heads.{degrees, places, width, Limits}
use Rattle.lines.specs.Lines.{InBlocks, half_at, LinesCut, ReadyBlocks}
use Rattle.lines.proofs.Rooms.{cut_room, off_blocks}
use Rattle.slots.specs.Slots.{at, box_in, box_numbers, numbers, half_numbers, half_slot}
use Rattle.slots.specs.Rules.{within, limit, can_cut}
use Rattle.slots.proofs.Builds.{half_slot_length}
use Rattle.slots.proofs.Decided.{every_at}
use Rattle.slots.proofs.Working.{all_blocks, blocks_low, worked_at}
use Rattle.slots.proofs.Laying.{Laid}

-- ---- the lines can be cut
pub cut_ready : (h : Head) (r : Direction) {l store : List ℤ} {w o st n : ℕ} → w ≡ width h → o ≡ h.m * blocks (degrees h) r → st ≡ stride (degrees h) r → n ≡ degrees h ! r
    → Limits h → length (numbers l) ≡ places h → can_cut h r l ≡ true → Laid h r l store → ReadyBlocks (half_at 6 (w + 6)) upper o st n store
cut_ready h r {l} {store} ew eo es en k ln c s = rw (ew, eo, es, en) (record {
  degree = k.degrees_high.small r;
  some = blocks_low h k r;
  room = rw (all_blocks h r) (cut_room (omega arith) (omega (arith, s.long)));
  small = λ x b.
      let p : x < places h = rw (all_blocks h r) at b in
      let a : nat_abs (at (numbers l) x) ≤ limit (degrees h ! r) = leb-true _ _ (every_at (within (limit (degrees h ! r))) (numbers l) c x (rw ln p)) in
      subst (Below (2 ^ (62 - degrees h ! r))) (sym (s.inside x p)) (record { below = omega (arith, pow_pos (62 - degrees h ! r)) });
})

-- ---- and the cut makes the two slots
pub as_blocks : (h : Head) (r : Direction) {w o st n : ℕ} {old new : List ℤ} → w ≡ width h → o ≡ h.m * blocks (degrees h) r → st ≡ stride (degrees h) r → n ≡ degrees h ! r
    → LinesCut (InBlocks ((n + 1) * st) st o) 6 (w + 6) st n old new
    → LinesCut (InBlocks ((degrees h ! r + 1) * stride (degrees h) r) (stride (degrees h) r) (h.m * blocks (degrees h) r)) 6 (width h + 6) (stride (degrees h) r) (degrees h ! r) old new
as_blocks h r ew eo es en c = rw (ew, eo, es, en) at c

module _ (h : Head) (r : Direction) {l store done : List ℤ} (s : Laid h r l store)
    (c : LinesCut (InBlocks ((degrees h ! r + 1) * stride (degrees h) r) (stride (degrees h) r) (h.m * blocks (degrees h) r)) 6 (width h + 6) (stride (degrees h) r) (degrees h ! r) store done) where
  -- where the slot of a half stands
  slot_of : Half → ℕ
  slot_of lower = width h
  slot_of upper = 0

  box_kept : (e : Half) (i : ℕ) → i < 6 → at done (slot_of e + i) ≡ at (box_numbers (half_box e r (box_in l))) i
  unfolding slot_of
  box_kept e i b = c.kept (slot_of e + i) (λ k. off_blocks (slot_of e + i) (rw (all_blocks h r) (apart e k))) ∙ was e
    where
      apart : (e k : Half) → mathlib.Core.Logic.◌⊎◌ (slot_of e + i < half_at 6 (width h + 6) k) (half_at 6 (width h + 6) k + places h ≤ slot_of e + i)
      apart lower lower = inl (omega arith)
      apart lower upper = inr (omega arith)
      apart upper lower = inl (omega arith)
      apart upper upper = inl (omega arith)

      was : (e : Half) → at store (slot_of e + i) ≡ at (box_numbers (half_box e r (box_in l))) i
      was lower = s.back i b
      was upper = ap (at store) (NatL.zero-add i) ∙ s.front i b

  number_cut : (e : Half) (x : ℕ) → x < places h → at done (slot_of e + (6 + x)) ≡ at (half_numbers h e r (numbers l)) x
  unfolding slot_of
  number_cut e x b =
      ap (at done) (where_at e)
      ∙ worked_at (λ e. half_line e (degrees h ! r)) h r (λ e b d same. half_cong (degrees h ! r) b d same e) (half_at 6 (width h + 6)) upper store done c (numbers l) s.inside e x b
    where
      where_at : (e : Half) → slot_of e + (6 + x) ≡ half_at 6 (width h + 6) e + x
      where_at lower = omega arith
      where_at upper = omega arith

  half_at_slot : (e : Half) (i : ℕ) → i < width h → at done (slot_of e + i) ≡ at (half_slot h e r l) i
  unfolding half_slot
  half_at_slot e i b = by_lt i 6
      (λ p. box_kept e i p ∙ sym (get_or-append (box_numbers (half_box e r (box_in l))) (half_numbers h e r (numbers l)) (pos 0) i p))
      (λ p.
      let z : i ≡ 6 + (i - 6) = omega arith in
      subst (λ (i : ℕ). at done (slot_of e + i) ≡ at (half_slot h e r l) i) (sym z)
      (number_cut e (i - 6) (omega arith) ∙ sym (get_or-append-add (box_numbers (half_box e r (box_in l))) (half_numbers h e r (numbers l)) (i - 6) (pos 0))))

  pub cut_halves : done ≡ half_slot h upper r l ++ half_slot h lower r l
  unfolding slot_of
  cut_halves = ext_get_or (pos 0) done (half_slot h upper r l ++ half_slot h lower r l)
      (c.size ∙ s.long ∙ sym (length-append (half_slot h upper r l) (half_slot h lower r l) ∙ ap₂ ◌+◌ (half_slot_length h upper r l) (half_slot_length h lower r l)))
      (λ i b. by_lt i (width h)
      (λ p. ap (at done) (sym (NatL.zero-add i)) ∙ half_at_slot upper i p ∙ sym (get_or-append (half_slot h upper r l) (half_slot h lower r l) (pos 0) i (rw (half_slot_length h upper r l) p)))
      (λ p.
      let z : i ≡ width h + (i - width h) = omega arith in
      let y : width h + (i - width h) ≡ length (half_slot h upper r l) + (i - width h) = omega (arith, half_slot_length h upper r l) in
      ap (at done) z ∙ half_at_slot lower (i - width h) (omega (arith, c.size, s.long))
      ∙ sym (ap (at (half_slot h upper r l ++ half_slot h lower r l)) (z ∙ y) ∙ get_or-append-add (half_slot h upper r l) (half_slot h lower r l) (i - width h) (pos 0))))
