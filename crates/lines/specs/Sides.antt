-- What can be said of every number of a part of a store (01, "One visit": all numbers above zero, or all below, "zero is neither"; "at most .. in size").
-- Definitions only.
use Rattle.std.specs.Prelude.{◌≡◌, ◌↔◌, List, ℕ, ◌≤◌, ◌<◌, ℤ, pos, nat_abs, get_or, Option, Some}
use Rattle.bernstein.specs.Points.{Sign, above, below, Has}
use Rattle.whole.specs.declared.Sign as Whole
use Rattle.whole.specs.declared.Sign.TheVariants.{Above, Below}

-- every number of l from place start to the place before stop is so
pub record Each (P : ℤ → Type 0) (l : List ℤ) (start stop : ℕ) : Type 0 where
  pub each : (i : ℕ) → start ≤ i → i < stop → P (get_or l i (pos 0))

-- at most a bound in size
abbrev pub AtMost : ℕ → ℤ → Type 0
AtMost bound z = nat_abs z ≤ bound

-- the answer for each sign
abbrev pub side : Sign → Whole.Sign
side above = Above
side below = Below

-- the answer is a sign exactly where every number has it
pub record SideIs (l : List ℤ) (start stop : ℕ) (r : Option Whole.Sign) : Type 0 where
  pub is : (s : Sign) → (r ≡ Some (side s)) ↔ Each (Has s) l start stop
