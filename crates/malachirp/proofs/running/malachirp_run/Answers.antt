-- `malachirp_run` meets its contract: by the cases of what `run` answers. Assumes nothing.
use mathlib.Core.Path.{refl, sym, ◌∙◌}
use Rattle.malachirp.proofs.Unchanged.{run_refused}
use Rattle.malachirp.proofs.running.malachirp_run.Goals as goal

pub returns-in-Err : goal.returns-in-Err
returns-in-Err c =
    let x = sym c.run.ensures.0 ∙ c.in-Err.is in
    let same = run_refused _ _ c.args.list.now _ _ c.args.budget _ x in
    rw (
      sym c.from.ensures,
      sym c.from-2.ensures,
      same.1,
      c.run.ensures.1.1 ∙ same.0.0,
      c.run.ensures.1.0 ∙ same.0.1,
      c.refuse.ensures.0,
      c.refuse.ensures.1,
    ) refl
