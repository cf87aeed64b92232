-- `search_system` meets its contract: what is found after a start, or its refusal. Assumes nothing.
use mathlib.Core.Path.{◌∙◌}
use Rattle.system.proofs.Results.{handed_on}
use Rattle.desk.proofs.Finding.{after_start, not_started}
use Rattle.desk.proofs.search_system.Goals as goal

pub returns : goal.returns
returns c =
    let a = c.args in
    after_start 1000000 a.h a.coefficients.now a.store.now a.list.now c.start.result c.start.ensures.0 _ _ c.run.result _
    c.start.ensures.1 c.in_ok-s.was c.run.ensures.0 c.run.ensures.1.0

pub returns-in_err-s : goal.returns-in_err-s
returns-in_err-s c =
    let a = c.args in
    let p = not_started 1000000 a.h a.coefficients.now a.store.now a.list.now c.start.result c.start.ensures.0 _ c.in_err-s.was in
    (handed_on c.from_residual.result c.from_residual.ensures.1 ∙ p.0, p.1)
