-- What was put at the front of a text is a part of it. Assumes nothing.
use Rattle.std.proofs.Common.{ℕ, ◌≤◌, ◌≡◌, ◌++◌, List, ap, arith, length, length-append, ◌∙◌}

pub front_there : (t W rest : List ℕ) (r : ℕ) → r ≡ length W → t ≡ W ++ rest → r ≤ length t
front_there t W rest r er et = omega (arith, ap length et ∙ length-append W rest)
