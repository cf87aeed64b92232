-- `polynomials::put_terms` meets its contract: at each turn the terms before place p are put. Assumes nothing.
use native.Mathlib.Omega.{arith}
use borrow.Author.Rules.{rules}
use lib.IntN.{pos}
use lib.ListN.{get_or}
use Rattle.file.specs.Layout.{layout}
use Rattle.whole.proofs.Machine.{back}
use Rattle.file.proofs.Putting.{putting_start, putting_fits, putting_turn, putting_over}
use Rattle.writing.proofs.Placing.{term_next, range_next, terms_none}
use Rattle.writing.proofs.polynomials.put_terms.Goals as goal

pub loop-p-init : goal.loop-p-init
loop-p-init c = putting_start c.args.target.now c.args.at _ c.requires.0

pub put_place-o-requires : goal.put_place-o-requires
put_place-o-requires c =
    let a = c.args in
    let l = c.loop-p in
    rw (back {a = get_or a.xs.now l.p (pos 0)} (search rules)) (
      putting_fits _ _ _ c.requires.0 _ _ _ _ (term_next (layout a.h) a.xs.now l.p (omega arith) l.invariant),
      (omega arith, range_next (layout a.h) a.xs.now l.p (omega arith) c.requires.1.ranged),
    )

pub loop-p-preserved : goal.loop-p-preserved
loop-p-preserved c =
    let a = c.args in
    let l = c.loop-p in
    let r = c.put_place-o in
    let y = back {a = get_or a.xs.now l.p (pos 0)} (search rules) in
    putting_turn _ _ _ c.requires.0 _ _ _ _ (term_next (layout a.h) a.xs.now l.p (omega arith) l.invariant)
    r.result r.new.target (rw y at r.ensures.0) (rw y at r.ensures.1)

pub returns : goal.returns
returns c =
    let l = c.loop-p in
    putting_over _ _ _ c.requires.0 l.o l.target (rw (terms_none (layout c.args.h) c.args.xs.now l.p (omega arith)) at l.invariant)
