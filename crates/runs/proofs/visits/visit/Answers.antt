-- `visit` meets its contract. Assumes nothing.
use Rattle.std.specs.Prelude.{Result, Ok}
use mathlib.Core.Path.{sym, ap, ◌∙◌}
use native.Mathlib.Omega.{arith}
use Rattle.boxes.specs.declared.visit.Visit.{Visit}
use Rattle.boxes.specs.declared.visit.Word.{Word}
use Rattle.system.proofs.Results.{handed_on}
use Rattle.runs.specs.Visits.{told}
use Rattle.runs.proofs.Going.{verdict_of}
use Rattle.runs.proofs.Seeing.{refused, may_see, saw}
use Rattle.runs.proofs.visits.visit.Goals as goal

pub returns-in_err-check : goal.returns-in_err-check
returns-in_err-check g c =
    let a = c.args in
    let v = verdict_of a.h a.s a.store.now (g.E.ListItem.records a.list.now) c.room-room.ensures c.check.ensures in
    let p = refused g.met.E.ListItem.laws a.h a.s a.list.now a.store.now (sym v ∙ c.in_err-check.was) in
    (handed_on c.from_residual.result c.from_residual.ensures.1 ∙ p.0, p.1)

pub step_seen-made-requires : goal.step_seen-made-requires
step_seen-made-requires g c =
    let a = c.args in
    let v = verdict_of a.h a.s a.store.now (g.E.ListItem.records a.list.now) c.room-room.ensures c.check.ensures in
    may_see g.met.E.ListItem.laws a.h a.s a.list.now a.store.now c.room-room.ensures c.new.ensures (sym v ∙ c.in_ok-check.was) (omega arith)

pub returns-in-Ok : goal.returns-in-Ok
returns-in-Ok g c =
    let a = c.args in
    let v = verdict_of a.h a.s a.store.now (g.E.ListItem.records a.list.now) c.room-room.ensures c.check.ensures in
    let m = c.step_seen-made in
    let p = saw g.met.E.ListItem.laws a.h a.s a.list.now a.store.now c.room-room.ensures c.new.ensures (sym v ∙ c.in_ok-check.was)
    m.ensures.0 m.ensures.1 m.ensures.2 c.put_kept.ensures in
    (ap (λ (x : Result Visit Word). Ok (told m.result.cursor.state x)) (sym c.in-Ok.is) ∙ p.0, p.1)

pub returns-in-Err : goal.returns-in-Err
returns-in-Err g c =
    let a = c.args in
    let v = verdict_of a.h a.s a.store.now (g.E.ListItem.records a.list.now) c.room-room.ensures c.check.ensures in
    let m = c.step_seen-made in
    let p = saw g.met.E.ListItem.laws a.h a.s a.list.now a.store.now c.room-room.ensures c.new.ensures (sym v ∙ c.in_ok-check.was)
    m.ensures.0 m.ensures.1 m.ensures.2 c.put_kept.ensures in
    (ap (λ (x : Result Visit Word). Ok (told m.result.cursor.state x)) (sym c.in-Err.is) ∙ p.0, p.1)
