-- `terms::terms_at` meets its contract: at each turn the terms that are left answer what all of them answer. Assumes nothing.
use mathlib.Core.Path.{sym, ◌∙◌}
use Prim.Native.Nat.{◌*◌, ◌+◌}
use native.Mathlib.Omega.{arith}
use lib.ListN.{drop}
use Rattle.std.proofs.lemmas.Grind.{common_steps}
use Rattle.file.proofs.Walking.{terms_step, terms_turn}
use Rattle.std.proofs.lemmas.List.{take_rest}
use Rattle.file.specs.Layout.{layout}
use Rattle.file.proofs.terms.terms_at.Goals as goal

pub returns-in_err-check_term : goal.returns-in_err-check_term
returns-in_err-check_term c =
    let a = c.args in
    let o = a.at + 7 * c.loop-i.i in
    let e = terms_step (layout a.h) a.t c.loop-i.i o c.loop-i.next (drop o a.file.now) (omega arith) in
    grind (arith, common_steps, e)

pub loop-i-preserved : goal.loop-i-preserved
loop-i-preserved c =
    let a = c.args in
    let r = take_rest a.file.now (a.at + 7 * c.loop-i.i) in
    terms_turn _ a.file.now _ a.t c.loop-i.i a.at _ _ (omega arith) (rw r at (sym c.check_term.ensures ∙ c.in_ok-check_term.was))
    (rw r at c.place_of-next.ensures.0) c.loop-i.invariant
