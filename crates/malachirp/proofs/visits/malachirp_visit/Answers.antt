-- `malachirp_visit` meets its contract: by the cases of what `visit` answers. Assumes nothing.
use Rattle.std.specs.Prelude.{Ok}
use mathlib.Core.Path.{refl, sym, ap, ◌∙◌}
use Rattle.runs.specs.declared.visits.Answer.{Answer}
use Rattle.malachirp.proofs.Unchanged.{visit_unmade}
use Rattle.malachirp.proofs.visits.malachirp_visit.Goals as goal

pub returns-in-Ok-Stopped : goal.returns-in-Ok-Stopped
returns-in-Ok-Stopped c =
    let x = sym c.visit.ensures.0 ∙ c.in-Ok-Stopped.is ∙ ap (λ (a : Answer). Ok a) c.in-Ok-Stopped.field-0-is in
    let same = visit_unmade _ _ c.args.list.now _ _ x tt in
    rw (sym c.from.ensures, sym c.from-2.ensures, x, c.visit.ensures.1.1 ∙ same.0, c.visit.ensures.1.0 ∙ same.1, c.into-in-Ok-Stopped.ensures, c.from-in-Ok-Stopped.ensures) refl

pub returns-in-Err : goal.returns-in-Err
returns-in-Err c =
    let x = sym c.visit.ensures.0 ∙ c.in-Err.is in
    let same = visit_unmade _ _ c.args.list.now _ _ x tt in
    rw (sym c.from.ensures, sym c.from-2.ensures, x, c.visit.ensures.1.1 ∙ same.0, c.visit.ensures.1.0 ∙ same.1, c.refuse.ensures.0, c.refuse.ensures.1) refl
