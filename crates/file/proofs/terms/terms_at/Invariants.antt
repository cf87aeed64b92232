-- What the loop of `terms::terms_at` keeps: at each turn the terms that are left answer what all of them answer.
use mathlib.Core.Path.{◌≡◌}
use Prim.Native.Nat.{◌*◌, ◌+◌, ◌-◌}
use lib.ListN.{drop}
use Rattle.file.specs.Layout.{layout}
use Rattle.file.specs.Terms.{terms}
use Rattle.file.proofs.terms.terms_at.Given as goal

abbrev pub invariant-loop-i : goal.invariant-loop-i
invariant-loop-i l =
    terms (layout l.h) (l.t - l.i) (l.at + 7 * l.i) l.next (drop (l.at + 7 * l.i) l.file) ≡ terms (layout l.h) l.t l.at 0 (drop l.at l.file)
