-- `search_file` meets its contract: what is found after a file is read, or its refusal. Assumes nothing.
use mathlib.Core.Path.{◌∙◌}
use Rattle.system.proofs.Results.{handed_on}
use Rattle.desk.proofs.Finding.{after_read, not_read}
use Rattle.desk.proofs.search_file.Goals as goal

pub returns : goal.returns
returns c =
    let a = c.args in
    after_read 1000000 a.file.now a.coefficients.now a.store.now a.list.now c.read.result c.read.ensures.0 _ _
    c.search_system.result _ c.read.ensures.1 c.in_ok-h.was c.search_system.ensures

pub returns-in_err-h : goal.returns-in_err-h
returns-in_err-h c =
    let a = c.args in
    let p = not_read 1000000 a.file.now a.coefficients.now a.store.now a.list.now c.read.result c.read.ensures.0 _ c.in_err-h.was in
    (handed_on c.from_residual.result c.from_residual.ensures.1 ∙ p.0, p.1)
