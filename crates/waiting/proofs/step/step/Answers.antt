-- `step` meets its contract. Assumes nothing.
use mathlib.Core.Path.{◌∙◌}
use Rattle.waiting.proofs.Becoming.{stop_cursor, stop_store, may_make, made}
use Rattle.waiting.proofs.step.step.Goals as goal

pub make-requires : goal.make-requires
make-requires c = let a = c.args in may_make a.h a.store.now a.c c.before_visit.ensures c.in-Ok.is c.requires

pub returns-in-Err : goal.returns-in-Err
returns-in-Err c =
    let a = c.args in
    let e = c.before_visit.ensures in
    let f = c.in-Err.is in
    (c.halt.ensures ∙ stop_cursor a.h a.store.now a.c e f, stop_store a.h a.store.now a.c e f)

pub returns-in-Ok : goal.returns-in-Ok
returns-in-Ok c = let a = c.args in made a.h a.store.now a.c c.before_visit.ensures c.in-Ok.is c.make.ensures
