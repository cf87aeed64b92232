-- What the rules of heads and boxes share: the number of a direction and the direction of a number, one test in each direction, a number in a range. Definitions only.
use Rattle.std.specs.Prelude.{ℕ, Bool, cond, ◌&&◌, leb, eqb}
use Rattle.bernstein.specs.Three.{Direction, first, second, third}

-- variable 1 to 3 (01, "The system")
abbrev pub direction_number : Direction → ℕ
direction_number first = 1
direction_number second = 2
direction_number third = 3

-- "directions 1 to 3" (01, "Runs"); what another number gives is never asked
abbrev pub direction_at : ℕ → Direction
direction_at d = cond (eqb d 1) first (cond (eqb d 2) second third)

abbrev pub each : (Direction → Bool) → Bool
each f = f first && f second && f third

-- a to b, both counted
abbrev pub between : ℕ → ℕ → ℕ → Bool
between a b x = leb a x && leb x b
