-- The other stages of a start: the steps along all lines of a direction, the third first; every number on the way is small enough; and at the end stands formula (2).
-- Assumes nothing.
use mathlib.Core.Path.{◌≡◌, refl, sym, ◌∙◌, ap, subst}
use mathlib.Core.Bool.{true}
use mathlib.Core.Logic.{inl}
use mathlib.Core.List.{List, ◌++◌}
use Prim.Native.Nat.{ℕ, ◌+◌, ◌*◌, ◌-◌, ◌/◌, ◌%◌, ◌^◌, ◌≤◌, ◌<◌}
use native.Mathlib.Omega.{arith}
use borrow.Author.Tests.{leb-true}
use lib.IntN.{ℤ, pos, nat_abs}
use lib.ListN.{length, take, length-append}
use lib.Seq.{ext_get_or, get_or-take, get_or-drop, get_or-append-add, length-take-le}
use Rattle.whole.specs.Size.{Below}
use Rattle.bernstein.specs.Three.{Direction, first, third, ◌!◌, replace, Upto}
use Rattle.bernstein.specs.Numbers.{Index, Patch, after, formula, line, unit, spread}
use Rattle.bernstein.specs.Places.{size, index, stride, blocks}
use Rattle.bernstein.proofs.Starts.{start_cuttable}
use Rattle.bernstein.proofs.Lines.{after_cong}
use Rattle.bernstein.proofs.Nested.{upto_replace}
use Rattle.bernstein.proofs.Spreads.{stage, formula_spread}
use Rattle.system.specs.declared.head.Head.{Head}
use Rattle.boxes.specs.declared.half.Box.{Box}
use Rattle.boxes.specs.Boxes.{as_box, from_box}
use Rattle.system.specs.Heads.{degrees, places, width, Limits}
use Rattle.system.proofs.Heads.{lawful}
use Rattle.lines.specs.Lines.{InBlocks, only, LinesSpread, ReadyBlocks}
use Rattle.lines.proofs.Rooms.{only_room, off_blocks}
use Rattle.slots.specs.Slots.{at, polynomial, numbers, in_turn, box_numbers, unit_slot}
use Rattle.slots.specs.Rules.{every, within}
use Rattle.slots.proofs.Builds.{build_at, in_turn_length, in_turn_filled}
use Rattle.slots.proofs.Decided.{every_at}
use Rattle.slots.proofs.Working.{all_blocks, blocks_low, where_upto, which_below, in_places, worked_at}
use Rattle.slots.proofs.Weighing.{rebuilt}

-- ---- the steps along all lines of direction r
module _ (h : Head) (r : Direction) {o st n : ℕ} (eo : o ≡ h.m * blocks (degrees h) r) (es : st ≡ stride (degrees h) r) (en : n ≡ degrees h ! r) where
  pub spread_ready : {s : List ℤ} → Limits h → length s ≡ width h → ((x : ℕ) → x < places h → Below (2 ^ (62 - degrees h ! r)) (at s (6 + x))) → ReadyBlocks {H = Unit {0}} (λ e. 6) only o st n s
  spread_ready k l small = rw (eo, es, en) (record {
    degree = k.degrees_high.small r;
    some = blocks_low h k r;
    room = rw (all_blocks h r) (only_room (omega arith));
    small = λ x b. small x (rw (all_blocks h r) at b);
  })

  pub spread_made : {old new : List ℤ} → length old ≡ width h → LinesSpread (InBlocks ((n + 1) * st) st o) 6 st n old new
      → new ≡ take 6 old ++ in_turn h (λ t. spread (degrees h) r (polynomial h (numbers old) t))
  spread_made {old} {new} l done = from (rw (eo, es, en) at done)
    where
      from : LinesSpread (InBlocks ((degrees h ! r + 1) * stride (degrees h) r) (stride (degrees h) r) (h.m * blocks (degrees h) r)) 6 (stride (degrees h) r) (degrees h ! r) old new
          → new ≡ take 6 old ++ in_turn h (λ t. spread (degrees h) r (polynomial h (numbers old) t))
      from d = rebuilt h (λ t. spread (degrees h) r (polynomial h (numbers old) t)) old new l (d.size ∙ l) (λ i b. d.kept i (λ k. off_blocks i (inl b)))
          (λ x b. worked_at {H = Unit {0}} (λ e b. after b (degrees h ! r)) h r (λ e b c same. after_cong (degrees h ! r) b c same (degrees h ! r)) (λ e. 6) only old new d (numbers old)
          (λ y q. sym (get_or-drop 6 old y (pos 0))) only x b)

-- ---- the stages
module _ (h : Head) (cs : List ℤ) where
  pub coefficient_high : places h ≤ length cs → every (within 1000000000) (take (places h) cs) ≡ true → (x : ℕ) → x < places h → nat_abs (at cs x) ≤ 1000000000
  coefficient_high l e x b =
      leb-true (nat_abs (at cs x)) 1000000000 (subst (λ (z : ℤ). within 1000000000 z ≡ true) (get_or-take (places h) cs x (pos 0) b) (every_at (within 1000000000) (take (places h) cs) e x (rw (length-take-le (places h) cs l) b)))

  -- what stands in the slot before the steps along r
  abbrev pub staged : Direction → List ℤ
  staged r = in_turn h (λ t. stage (degrees h) (polynomial h cs t) r)

  stage_small : Limits h → places h ≤ length cs → every (within 1000000000) (take (places h) cs) ≡ true → (r : Direction) (s : List ℤ) → s ≡ box_numbers unit ++ staged r
      → (x : ℕ) → x < places h → Below (2 ^ (62 - degrees h ! r)) (at s (6 + x))
  unfolding in_turn
  stage_small k l e r s g x b =
      let t = x / size (degrees h) in
      let a = polynomial h cs t in
      subst (Below (2 ^ (62 - degrees h ! r))) (sym (ap (λ (s : List ℤ). at s (6 + x)) g ∙ get_or-append-add (box_numbers unit) (staged r) x (pos 0) ∙ build_at (places h) _ x b))
      ((start_cuttable (degrees h) k.degrees_high k.size_high a (λ i u. coefficient_high l e _ (in_places h t (which_below h x b) i u)) r
      ).cuttable (index (degrees h) (x % size (degrees h))) (where_upto h x b))

  pub stage_ready : Limits h → places h ≤ length cs → every (within 1000000000) (take (places h) cs) ≡ true → (r : Direction) (s : List ℤ) → s ≡ box_numbers unit ++ staged r
      → (length s ≡ width h) × ((x : ℕ) → x < places h → Below (2 ^ (62 - degrees h ! r)) (at s (6 + x)))
  stage_ready k l e r s g = (ap length g ∙ length-append (box_numbers unit) (staged r) ∙ ap (λ (x : ℕ). 6 + x) (in_turn_length h _), stage_small k l e r s g)

  -- after the box and the weighing
  pub weighed : {old new : List ℤ} {b : Box} → b ≡ from_box unit → {rest : List ℤ} → old ≡ box_numbers (as_box b) ++ rest → new ≡ take 6 old ++ staged third → new ≡ box_numbers unit ++ staged third
  weighed {b} eb {rest} eo en = en ∙ rw (eo, eb) refl

  in_turn_same : (p q : ℕ → Patch) → ((t : ℕ) → t < h.m → (j : Index) → Upto j (degrees h) → p t j ≡ q t j) → in_turn h p ≡ in_turn h q
  unfolding in_turn
  in_turn_same p q same = ext_get_or (pos 0) (in_turn h p) (in_turn h q) (in_turn_length h p ∙ sym (in_turn_length h q)) (λ x b.
      let c : x < places h = rw (in_turn_length h p) at b in
      build_at (places h) _ x c ∙ same (x / size (degrees h)) (which_below h x c) (index (degrees h) (x % size (degrees h))) (where_upto h x c) ∙ sym (build_at (places h) _ x c))

  spread_same : (r : Direction) (p q : Patch) → ((j : Index) → Upto j (degrees h) → p j ≡ q j) → (j : Index) → Upto j (degrees h) → spread (degrees h) r p j ≡ spread (degrees h) r q j
  spread_same r p q same j u = after_cong (degrees h ! r) (line r p j) (line r q j) (λ i l. same (replace r i j) (upto_replace r i l u)) (degrees h ! r) (j ! r) (u.upto r)

  pub spread_on : Limits h → (r : Direction) (old new : List ℤ) → old ≡ box_numbers unit ++ staged r
      → new ≡ take 6 old ++ in_turn h (λ t. spread (degrees h) r (polynomial h (numbers old) t)) → new ≡ box_numbers unit ++ in_turn h (λ t. spread (degrees h) r (stage (degrees h) (polynomial h cs t) r))
  spread_on m r old new e g =
      g ∙ ap (λ (s : List ℤ). take 6 s ++ in_turn h (λ t. spread (degrees h) r (polynomial h (numbers s) t))) e
      ∙ ap (λ (s : List ℤ). box_numbers unit ++ s)
      (in_turn_same (λ t. spread (degrees h) r (polynomial h (staged r) t)) (λ t. spread (degrees h) r (stage (degrees h) (polynomial h cs t) r))
      (λ t l j u. spread_same r (polynomial h (staged r) t) (stage (degrees h) (polynomial h cs t) r) (in_turn_filled h (lawful h m) (λ t. stage (degrees h) (polynomial h cs t) r) t l) j u))

  pub start_is : (s : List ℤ) → s ≡ box_numbers unit ++ in_turn h (λ t. spread (degrees h) first (stage (degrees h) (polynomial h cs t) first)) → s ≡ unit_slot h cs
  unfolding unit_slot
  start_is s e = e ∙ ap (λ (s : List ℤ). box_numbers unit ++ s)
      (in_turn_same (λ t. spread (degrees h) first (stage (degrees h) (polynomial h cs t) first)) (λ t. formula (degrees h) (polynomial h cs t)) (λ t l j u. formula_spread (degrees h) (polynomial h cs t) j u))
