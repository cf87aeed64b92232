-- `reading::polynomial_at` meets its contract: its terms stand behind its number. Assumes nothing.
use Rattle.std.proofs.lemmas.Grind.{common_steps}
use native.Mathlib.Omega.{arith}
use lib.Seq.{drop-drop}
use Rattle.file.proofs.Words.{byte_drop}
use Rattle.file.proofs.Stepping.{length_there}
use Rattle.file.proofs.reading.polynomial_at.Goals as goal
use Rattle.file.specs.Reading.{polynomial}

pub returns-clause-says : goal.returns-clause-says
unfolding polynomial
returns-clause-says c =
    let a = c.args in
    let e = length_there a.file.now a.at in
    let f = byte_drop a.file.now a.at 4 in
    let d = drop-drop 5 a.at a.file.now in
    grind (arith, common_steps, e, f, d)
