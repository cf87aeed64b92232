-- The boxes of a system as the cells of a search in lent memory: `cells h` is what 01 says of a slot, under the names of `search`.
use Rattle.std.specs.Prelude.{List, ℕ, ◌+◌, ◌-◌, ℤ, pos}
use Rattle.whole.specs.Half.{Half}
use Rattle.bernstein.specs.Numbers.{Box}
use Rattle.system.specs.declared.head.Head.{Head}
use Rattle.boxes.specs.declared.half.Direction.{Direction}
use Rattle.whole.specs.declared.Sign.{Sign}
use Rattle.boxes.specs.declared.visit.Outcome.{Outcome}
use Rattle.system.specs.Heads.{depths, width}
use Rattle.boxes.specs.Boxes.{direction}
use Rattle.slots.specs.Slots.{box_in, half_slot}
use Rattle.slots.specs.Rules.{looked}
use Rattle.search.specs.Search.{Look, is_dropped, is_kept, is_cut}
use Rattle.search.specs.Lent.{Slots}

-- dropped by a polynomial with a sign, kept with a mark, or cut in a direction
abbrev pub as_look : Outcome → Look (ℕ × Sign) Direction
as_look (Outcome.Dropped p s) = is_dropped (p, s)
as_look (Outcome.Kept mark) = is_kept mark
as_look (Outcome.Cut r) = is_cut r

-- Cells that are boxes, whatever their numbers are: of a slot its box, what the rules say of it, and its halves in a direction.
pub record Boxed (A : Type 0) : Type 0 where
  pub width : ℕ
  pub blank : A
  pub box : List A → Box
  pub says : List A → Outcome
  pub half : Half → Direction → List A → List A

abbrev pub cells_of : {A : Type 0} → Boxed A → Slots A
cells_of K = record {
  Place = Box;
  Drop = ℕ × Sign;
  Cut = Direction;
  width = K.width;
  blank = K.blank;
  place = K.box;
  look = λ l. as_look (K.says l);
  half = K.half;
}

-- the boxes of a system
abbrev pub boxed : Head → Boxed ℤ
boxed h = record { width = width h; blank = pos 0; box = box_in; says = looked h; half = λ e r l. half_slot h e (direction r) l }

abbrev pub cells : Head → Slots ℤ
cells h = cells_of (boxed h)

-- the cuts that a box has left, to its depths
abbrev pub left : Head → List ℤ → ℕ
left h l = ((depths h).x₁ - (box_in l).x₁.cuts) + ((depths h).x₂ - (box_in l).x₂.cuts) + ((depths h).x₃ - (box_in l).x₃.cuts)
