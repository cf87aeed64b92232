-- `terms::fill_places` meets its contract: at each turn one place more is filled. Assumes nothing.
use mathlib.Core.Path.{◌≡◌, sym, ap, ◌∙◌}
use mathlib.Core.List.{List}
use Prim.Native.Nat.{ℕ}
use native.Mathlib.Omega.{arith}
use lib.ListN.{drop, length-drop}
use Rattle.whole.proofs.Machine.{back}
use Rattle.file.proofs.Filling.{found_turn, none_turn, here_some, filled_places}
use Rattle.std.proofs.lemmas.List.{take_rest}
use Rattle.file.specs.Layout.{layout}
use Rattle.file.proofs.terms.fill_places.Goals as goal
use Rattle.file.proofs.terms.fill_places.Goals.{then-here, else-here}

pub loop-p-preserved : goal.loop-p-preserved
loop-p-preserved c =
    let L = layout c.args.h in
    let l = c.loop-p in
    elim c.if-here.branch [
      | then-here w ↦ (
          let r : c.if-here.rest.now ≡ drop 7 l.rest.now = ap (λ (b : denote.Bor.Bor (List ℕ)). b.now) w.rest-is ∙ take_rest l.rest.now 7 in
          rw (w.places-is, r, w.left-is) (
            omega (arith, length-drop 7 l.rest.now, here_some L l.left l.p l.rest.now (sym w.if-here.ensures), l.invariant.0),
            found_turn L _ l.places L.size l.p l.left l.rest.now (omega arith) (omega arith) l.invariant.1 (sym w.if-here.ensures) _
                (back w.value_of.type_inv ∙ w.value_of.ensures),
          ))
      | else-here w ↦ rw (w.places-is, w.rest-is, w.left-is) (
        l.invariant.0,
        none_turn L _ l.places L.size l.p l.left l.rest.now (omega arith) (omega arith) l.invariant.1 (sym w.if-here.ensures),
      )
    ]

pub returns : goal.returns
returns c = filled_places (layout c.args.h) _ c.loop-p.places (layout c.args.h).size c.loop-p.p c.loop-p.left c.loop-p.rest.now (omega arith) (omega arith) c.loop-p.invariant.1
