-- The middle and the half width of a box as doubles (01, "Runs"): (2k+1)/2^(s+1) and 1/2^(s+1), over the values of `Rattle.std.specs.Float.Ieee`. Definitions only.
-- A finite value there is `fin sign m e`: m · 2^e, negative where the sign is true; `negsuc s` is the exponent -(s + 1).
-- That these values are exact, said in whole numbers, and that no other double is: `DoublesExact`, `DoublesOnce` in Claims.
use Rattle.std.specs.Prelude.{ℕ, List, [], ◌∷◌, ◌+◌, ◌*◌, ◌^◌, ◌≡◌, false, cond, negsuc, Result, Ok, Err}
use lib.Ieee.{Float, nan, inf, fin, up, down}
use Rattle.bernstein.specs.Numbers.{Span}
use Rattle.system.specs.Refusals.{at_start}
use Rattle.boxes.specs.Boxes.{as_box, box_ok}
use Rattle.system.specs.declared.refusal.Refusal.{Refusal}
use Rattle.boxes.specs.declared.half.Box.{Box}
use Rattle.boxes.specs.declared.middle.Middles.{Middles}
use Rattle.system.specs.declared.refusal.Refused.{Refused}

-- m / 2^(s+1)
abbrev pub over_power : ℕ → ℕ → Float
over_power m s = fin false m (negsuc s)

abbrev pub middle : Span → Float
middle i = over_power (2 * i.position + 1) i.cuts

abbrev pub half_width : Span → Float
half_width i = over_power 1 i.cuts

abbrev pub middles : Box → Middles
middles b = record {
  middle1 = middle (as_box b).x₁;
  half1 = half_width (as_box b).x₁;
  middle2 = middle (as_box b).x₂;
  half2 = half_width (as_box b).x₂;
  middle3 = middle (as_box b).x₃;
  half3 = half_width (as_box b).x₃;
}

-- refusal 10
abbrev pub placed : Box → Result Middles Refused
placed b = cond (box_ok b) (Ok (middles b)) (Err (at_start Refusal.OutsideRules))

-- x is finite, not negative, and exactly num / 2^shift, in whole numbers: 2^e is the fraction up e / down e, of which one side is 1
abbrev pub Exactly : Float → ℕ → ℕ → Type 0
Exactly nan num shift = ⊥
Exactly (inf s) num shift = ⊥
Exactly (fin s m e) num shift = (s ≡ false) × (m * up e * 2 ^ shift ≡ num * down e)

-- of each direction its middle and its half width
abbrev pub middle_numbers : Middles → List Float
middle_numbers m = m.middle1 ∷ m.half1 ∷ m.middle2 ∷ m.half2 ∷ m.middle3 ∷ m.half3 ∷ []
