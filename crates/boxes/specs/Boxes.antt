-- A box by value and its halves (01, "The numbers of a box"): six numbers as the box of three spans, which boxes are allowed, and the half in a direction.
-- Definitions only; that a child is the half that 01 says is `ChildHalf` in Claims.
use Rattle.std.specs.Prelude.{ℕ, ◌^◌, ◌≤◌, ◌<◌, Bool, cond, ◌&&◌, leb, ltb, Result, Ok, Err}
use Rattle.whole.specs.Half.{Half, lower, upper}
use Rattle.bernstein.specs.Three
use Rattle.bernstein.specs.Three.{three, ◌!◌, first, second, third}
use Rattle.bernstein.specs.Numbers
use Rattle.bernstein.specs.Numbers.{Span, span, half_box}
use Rattle.system.specs.Directions.{direction_at, each, between}
use Rattle.system.specs.Refusals.{at_start}
use Rattle.system.specs.declared.refusal.Refusal.{Refusal}
use Rattle.boxes.specs.declared.half.Direction.{Direction}
use Rattle.boxes.specs.declared.half.Half as Code
use Rattle.boxes.specs.declared.half.Box.{Box}
use Rattle.system.specs.declared.refusal.Refused.{Refused}

-- ---- directions and boxes
abbrev pub direction : Direction → Three.Direction
direction Direction.First = first
direction Direction.Second = second
direction Direction.Third = third

abbrev pub to_direction : Three.Direction → Direction
to_direction first = Direction.First
to_direction second = Direction.Second
to_direction third = Direction.Third

-- the direction of a number, or refusal 10 ("or outside directions 1 to 3")
abbrev pub direction_from : ℕ → Result Direction Refused
direction_from n = cond (between 1 3 n) (Ok (to_direction (direction_at n))) (Err (at_start Refusal.OutsideRules))

abbrev pub as_box : Box → Numbers.Box
as_box b = three (span b.s1 b.k1) (span b.s2 b.k2) (span b.s3 b.k3)

abbrev pub from_box : Numbers.Box → Box
from_box c = record { s1 = c.x₁.cuts; k1 = c.x₁.position; s2 = c.x₂.cuts; k2 = c.x₂.position; s3 = c.x₃.cuts; k3 = c.x₃.position }

-- an allowed box, as the test that each call makes (01, "Runs": "refuse with 10 an s above 10 or a k not below 2^s") and as facts
abbrev pub span_ok : Span → Bool
span_ok i = leb i.cuts 10 && ltb i.position (2 ^ i.cuts)

unfoldable pub box_ok : Box → Bool
box_ok b = each (λ r. span_ok (as_box b ! r))

pub record Allowed (c : Numbers.Box) : Type 0 where
  pub cuts_high : (r : Three.Direction) → (c ! r).cuts ≤ 10
  pub position_high : (r : Three.Direction) → (c ! r).position < 2 ^ (c ! r).cuts

-- ---- halves
abbrev pub refused : Result Box Refused
refused = Err (at_start Refusal.OutsideRules)

-- "a half also at s = 10": in the direction asked for
unfoldable pub half_in : Half → Box → Three.Direction → Result Box Refused
half_in h b r = cond (ltb (as_box b ! r).cuts 10) (Ok (from_box (half_box h r (as_box b)))) refused

-- "or outside directions 1 to 3"
unfoldable pub half_of : Half → Box → ℕ → Result Box Refused
half_of h b d = cond (box_ok b && between 1 3 d) (half_in h b (direction_at d)) refused

-- down a path: what is refused stays refused
abbrev pub half_on : Half → Result Box Refused → ℕ → Result Box Refused
half_on h (Ok b) d = half_of h b d
half_on h (Err w) d = Err w

-- the code's word for a half
abbrev pub as_half : Code.Half → Half
as_half Code.Half.Lower = lower
as_half Code.Half.Upper = upper
