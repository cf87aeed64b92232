-- `run` meets its contract. Assumes nothing.
use Rattle.std.specs.Prelude.{Option, is_none}
use mathlib.Core.Path.{sym, ap, ◌∙◌}
use native.Mathlib.Omega.{arith}
use borrow.Author.Rules.{rules}
use Rattle.boxes.specs.declared.visit.Word.{Word}
use Rattle.system.proofs.Results.{handed_on}
use Rattle.runs.proofs.Going.{verdict_of, going, fewer, goes_on, stopped, refused}
use Rattle.runs.proofs.runs.run.Goals as goal

pub returns-in_err-check : goal.returns-in_err-check
returns-in_err-check g c =
    let a = c.args in
    let v = verdict_of a.h a.s a.store.now (g.E.ListItem.records a.list.now) c.room-room.ensures c.check.ensures in
    let p = refused g.met.E.ListItem.laws a.h a.s a.budget a.list.now a.store.now (sym v ∙ c.in_err-check.was) in
    (handed_on c.from_residual.result c.from_residual.ensures.1 ∙ p.0, p.1)

pub loop-c-init : goal.loop-c-init
loop-c-init g c =
    let a = c.args in
    let v = verdict_of a.h a.s a.store.now (g.E.ListItem.records a.list.now) c.room-room.ensures c.check.ensures in
    going g.met.E.ListItem.laws a.h a.s a.budget a.list.now a.store.now c.room-room.ensures c.new-c.ensures (omega arith) (omega arith) (sym v ∙ c.in_ok-check.was)

pub returns-in-Some : goal.returns-in-Some
returns-in-Some g c =
    let a = c.args in
    let v = verdict_of a.h a.s a.store.now (g.E.ListItem.records a.list.now) c.room-room.ensures c.check.ensures in
    stopped g.met.E.ListItem.laws a.h a.s a.budget a.list.now a.store.now (sym v ∙ c.in_ok-check.was) c.loop-c.invariant c.in-Some.is

pub loop-c-smaller : goal.loop-c-smaller
loop-c-smaller g c =
    fewer g.met.E.ListItem.laws c.loop-c.invariant (ap (λ (w : Option Word). is_none w) c.in_default.is) c.step-c.result c.step-c.ensures.0

pub loop-c-preserved : goal.loop-c-preserved
loop-c-preserved g c =
    let p = c.step-c in
    goes_on g.met.E.ListItem.laws c.loop-c.invariant (ap (λ (w : Option Word). is_none w) c.in_default.is) c.put_kept.new.list p.new.store p.result (search rules)
    p.ensures.0 p.ensures.1 c.put_kept.ensures
