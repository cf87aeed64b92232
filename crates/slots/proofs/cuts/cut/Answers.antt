-- `cut` meets its contract: both boxes are written, then all lines of the direction are cut. Assumes nothing.
use mathlib.Core.Path.{◌≡◌, sym, ap, ◌∙◌}
use mathlib.Core.List.{List}
use native.Mathlib.Omega.{arith}
use Prim.Native.Nat.{◌+◌, ◌<◌}
use lib.IntN.{ℤ}
use lib.ListN.{length, take, length-take, length-drop}
use Rattle.whole.specs.Half.{lower, upper}
use Rattle.bernstein.specs.Three.{◌!◌}
use Rattle.boxes.specs.Boxes.{direction, as_box, from_box}
use Rattle.system.specs.Heads.{depths, width, places}
use Rattle.system.specs.declared.head.Head.{Head}
use Rattle.boxes.specs.declared.half.Box.{Box}
use Rattle.boxes.specs.declared.half.Direction.{Direction}
use Rattle.slots.specs.Slots.{box_in, numbers, SlotFits}
use Rattle.slots.proofs.Laying.{front_spans, front_box, front_cuts, laid, half_value}
use Rattle.slots.proofs.Cutting.{cut_ready, as_blocks, cut_halves}
use Rattle.slots.proofs.cuts.cut.Goals as goal

-- the slot that is cut, and its box
abbrev slot : Head → List ℤ → List ℤ
slot h two = take (width h) two

module _ (h : Head) (two : List ℤ) (b : Box) (f : SlotFits h (slot h two)) (e : b ≡ from_box (box_in two)) where
  box_is : b ≡ from_box (box_in (slot h two))
  box_is = e ∙ ap from_box (sym (front_box h two f))

  cuttable : (r : Direction) → (box_in (slot h two) ! direction r).cuts < depths h ! direction r
      → ((as_box b ! direction r).cuts < 10) × ((as_box b ! direction r).position < 1024)
  cuttable r l = rw box_is (front_cuts h two f (direction r) l)

numbers_long : (h : Head) (two : List ℤ) → length two ≡ width h + width h → length (numbers (slot h two)) ≡ places h
numbers_long h two e = simp (length-drop, length-take) (omega (arith, e))

pub box_of-b-requires : goal.box_of-b-requires
box_of-b-requires c = (omega arith, front_spans c.args.h c.args.two.now c.requires.0)

pub half_in-requires : goal.half_in-requires
half_in-requires c = let k = cuttable c.args.h c.args.two.now c.box_of-b.result c.requires.0 c.box_of-b.ensures c.args.r c.requires.2 in (k.0, k.1)

pub half_in-requires-2 : goal.half_in-requires-2
half_in-requires-2 c = let k = cuttable c.args.h c.args.two.now c.box_of-b.result c.requires.0 c.box_of-b.ensures c.args.r c.requires.2 in (k.0, k.1)

pub blocks-requires : goal.blocks-requires
blocks-requires c =
    let s = c.args in
    let b = box_is s.h s.two.now c.box_of-b.result c.requires.0 c.box_of-b.ensures in
    let y = laid s.h (direction s.r) s.two.now c.requires.1 (half_value upper (direction s.r) c.half_in-2.ensures b) (half_value lower (direction s.r) c.half_in.ensures b)
    (rw c.width-w.ensures at c.put_box.ensures) (rw c.width-w.ensures at c.put_box-2.ensures) in
    cut_ready s.h (direction s.r) c.width-w.ensures c.along-along.ensures.blocks c.along-along.ensures.stride c.along-along.ensures.degree
    c.requires.0.limits (numbers_long s.h s.two.now c.requires.1) c.requires.3 y

pub returns : goal.returns
returns c =
    let s = c.args in
    let b = box_is s.h s.two.now c.box_of-b.result c.requires.0 c.box_of-b.ensures in
    let y = laid s.h (direction s.r) s.two.now c.requires.1 (half_value upper (direction s.r) c.half_in-2.ensures b) (half_value lower (direction s.r) c.half_in.ensures b)
    (rw c.width-w.ensures at c.put_box.ensures) (rw c.width-w.ensures at c.put_box-2.ensures) in
    cut_halves s.h (direction s.r) y (as_blocks s.h (direction s.r) c.width-w.ensures c.along-along.ensures.blocks c.along-along.ensures.stride c.along-along.ensures.degree c.blocks-2.ensures)
