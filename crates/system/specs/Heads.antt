-- The head of a system (01, "The system"): degrees, depths, S, D, places, the width of a slot, the scale, and the limits: once as the chain of tests that
-- `check` makes, once as a record of facts. Definitions only; that the two agree is `HeadLimits` in Claims.
use Rattle.std.specs.Prelude.{ℕ, List, [], ◌∷◌, get_or, ◌+◌, ◌*◌, ◌≤◌, ◌<◌, ◌≡◌, Bool, cond, ◌&&◌, ◌||◌, leb, eqb, Result, Ok, Err, ⊤}
use Rattle.bernstein.specs.Three.{Direction, Three, three, ◌!◌}
use Rattle.bernstein.specs.Numbers.{Degrees, Small}
use Rattle.bernstein.specs.Numbers
use Rattle.bernstein.specs.Places.{size}
use Rattle.bernstein.specs.Frames.{Frame, boxes}
use Rattle.system.specs.Directions.{direction_number, each, between}
use Rattle.system.specs.Refusals.{at_start}
use Rattle.system.specs.declared.refusal.Refusal.{Refusal}
use Rattle.system.specs.declared.head.Head.{Head}
use Rattle.system.specs.declared.refusal.Refused.{Refused}

abbrev pub degrees : Head → Degrees
degrees h = three h.n1 h.n2 h.n3

abbrev pub depths : Head → Three ℕ
depths h = three h.g1 h.g2 h.g3

-- what a cell of the system is
abbrev pub frame : Head → Frame
frame h = boxes (degrees h)

-- S is `(frame h).size`; the places of all polynomials are m × S
unfoldable pub places : Head → ℕ
places h = h.m * (frame h).size

-- D
abbrev pub depth : Head → ℕ
depth h = h.g1 + h.g2 + h.g3

-- a slot of the waiting store (01, "Runs")
abbrev pub width : Head → ℕ
width h = 6 + places h

-- the product of the directions' factors (01, "The numbers of a box")
unfoldable pub scale : Head → ℕ
scale h = Numbers.scale h.n1 * Numbers.scale h.n2 * Numbers.scale h.n3

-- ---- the limits
abbrev pub variable_ok : ℕ → ℕ → ℕ → ℕ → Bool
variable_ok l r n g = leb n 6 && leb g 10 && (leb r l || (eqb n 0 && eqb g 0))

unfoldable pub head_ok : Head → Bool
head_ok h =
    between 1 3 h.l && between 1 3 h.m
    && each (λ r. variable_ok h.l (direction_number r) (degrees h ! r) (depths h ! r))
    && leb (size (degrees h)) 64

pub record Limits (h : Head) : Type 0 where
  pub l_low : 1 ≤ h.l
  pub l_high : h.l ≤ 3
  pub m_low : 1 ≤ h.m
  pub m_high : h.m ≤ 3
  pub degrees_high : Small (degrees h)
  pub depths_high : (r : Direction) → depths h ! r ≤ 10
  pub beyond : (r : Direction) → h.l < direction_number r → (degrees h ! r ≡ 0) × (depths h ! r ≡ 0)
  pub size_high : size (degrees h) ≤ 64

-- refusal 4
abbrev pub checked : Head → Result ⊤ Refused
checked h = cond (head_ok h) (Ok tt) (Err (at_start Refusal.OutOfLimits))

-- ---- as eight bytes
-- l, m, n1, n2, n3, g1, g2, g3: as in the file
abbrev pub head_from : List ℕ → Head
head_from b = record {
  l = get_or b 0 0;
  m = get_or b 1 0;
  n1 = get_or b 2 0;
  n2 = get_or b 3 0;
  n3 = get_or b 4 0;
  g1 = get_or b 5 0;
  g2 = get_or b 6 0;
  g3 = get_or b 7 0;
}

abbrev pub head_numbers : Head → List ℕ
head_numbers h = h.l ∷ h.m ∷ h.n1 ∷ h.n2 ∷ h.n3 ∷ h.g1 ∷ h.g2 ∷ h.g3 ∷ []
