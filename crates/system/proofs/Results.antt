-- What a `?` hands on. Assumes nothing.
use Rattle.std.specs.Prelude.{Result, Ok, Err, IsErrAnd}
use mathlib.Core.Path.{◌≡◌, ap}

pub handed_on : {A E : Type 0} (r : Result A E) {x : E} → IsErrAnd r (λ e. e ≡ x) → r ≡ Err x
handed_on (Ok a) p = absurd p
handed_on (Err e) p = ap Err p
