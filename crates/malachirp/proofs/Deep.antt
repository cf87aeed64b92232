-- A record with more than 10 cuts in some direction is no box: it is refused with 10. Assumes nothing.
use Rattle.std.specs.Prelude.{Err}
use mathlib.Core.Path.{◌≡◌, refl}
use mathlib.Core.Bool.{Bool, true, false}
use Prim.Native.Nat.{◌<◌}
use native.Mathlib.Omega.{arith}
use Rattle.bernstein.specs.Three.{Direction, ◌!◌}
use Rattle.system.specs.declared.refusal.Refusal.{Refusal}
use Rattle.boxes.specs.declared.half.Box.{Box}
use Rattle.system.specs.Refusals.{at_start}
use Rattle.boxes.specs.Boxes.{as_box, box_ok}
use Rattle.boxes.specs.Middles.{placed}
use Rattle.boxes.proofs.Halves.{part_within}

pub too_deep : (b : Box) (r : Direction) → 10 < (as_box b ! r).cuts → placed b ≡ Err (at_start Refusal.OutsideRules)
too_deep b r deep = from (box_ok b) refl
  where
    from : (t : Bool) → box_ok b ≡ t → placed b ≡ Err (at_start Refusal.OutsideRules)
    from true e = absurd (omega (arith, (part_within b e r).0))
    from false e = rw e refl
