-- `place` meets its contract: a count of cuts above 10 is refused whether or not it fits a byte. Assumes nothing.
use mathlib.Core.Path.{sym}
use Rattle.bernstein.specs.Three.{first, second, third}
use Rattle.runs.specs.Tables.{box_of}
use Rattle.runs.specs.Lists as Lists
use Rattle.malachirp.proofs.Deep.{too_deep}
use Rattle.malachirp.proofs.middles.place.Goals.{then-s1-gt10-via-then-s1-gt10, then-s1-gt10-via-else-s1-gt10+then-s2-gt10, then-s1-gt10-via-else-s1-gt10+else-s2-gt10+then-s3-gt10}
use Rattle.malachirp.proofs.middles.place.Goals as goal

pub returns-then-s1-gt10 : goal.returns-then-s1-gt10
returns-then-s1-gt10 c =
    let b = box_of (Lists.first c.args.kept.now) in
    rw c.at_start.ensures
    (sym (elim c.then-s1-gt10.branch [
      | then-s1-gt10-via-then-s1-gt10 w ↦ too_deep b first w.if-s1-gt10.true
      | then-s1-gt10-via-else-s1-gt10+then-s2-gt10 w ↦ too_deep b second w.if-s2-gt10.true
      | then-s1-gt10-via-else-s1-gt10+else-s2-gt10+then-s3-gt10 w ↦ too_deep b third w.if-s3-gt10.true
    ]))
