-- What the loop of `terms::fill_places` keeps: the places before p are filled, and the terms that are left fill the others.
use mathlib.Core.Path.{◌≡◌}
use mathlib.Core.List.{◌++◌}
use Prim.Native.Nat.{◌*◌, ◌-◌, ◌≤◌}
use lib.ListN.{length, take}
use Rattle.file.specs.Layout.{layout}
use Rattle.file.specs.Terms.{coefficients}
use Rattle.file.proofs.terms.fill_places.Given as goal

abbrev pub invariant-loop-p : goal.invariant-loop-p
invariant-loop-p l =
    (7 * l.left ≤ length l.rest)
    × (take l.p l.places ++ coefficients (layout l.h) ((layout l.h).size - l.p) l.left l.p l.rest
    ≡ coefficients (layout l.h) (layout l.h).size l.t 0 l.bytes)
