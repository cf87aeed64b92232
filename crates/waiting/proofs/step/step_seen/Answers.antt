-- `step_seen` meets its contract. Assumes nothing.
use mathlib.Core.Path.{◌∙◌}
use Rattle.waiting.proofs.Becoming.{stop_cursor, stop_store, stop_seen, may_make, made, visit_seen}
use Rattle.waiting.proofs.step.step_seen.Goals as goal

pub overflow_sub-c : goal.overflow_sub-c
overflow_sub-c c = let a = c.args in (may_make a.h a.store.now a.c c.before_visit.ensures c.in-Ok.is c.requires).waits

pub box_at-at-requires : goal.box_at-at-requires
box_at-at-requires c =
    let a = c.args in
    let m = may_make a.h a.store.now a.c c.before_visit.ensures c.in-Ok.is c.requires in
    (m.inside, m.fits)

pub make-requires : goal.make-requires
make-requires c = let a = c.args in may_make a.h a.store.now a.c c.before_visit.ensures c.in-Ok.is c.requires

pub returns-in-Ok : goal.returns-in-Ok
returns-in-Ok c =
    let a = c.args in
    let e = c.before_visit.ensures in
    let f = c.in-Ok.is in
    let m = made a.h a.store.now a.c e f c.make.ensures in
    (m.0, rw c.box_at-at.ensures (visit_seen a.h a.store.now a.c e f), m.1)

pub returns-in-Err : goal.returns-in-Err
returns-in-Err c =
    let a = c.args in
    let e = c.before_visit.ensures in
    let f = c.in-Err.is in
    (c.halt.ensures ∙ stop_cursor a.h a.store.now a.c e f, stop_seen a.h a.store.now a.c e f, stop_store a.h a.store.now a.c e f)
