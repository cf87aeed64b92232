-- `reading::fill` meets its contract: at each turn one polynomial more is filled in. Assumes nothing.
use native.Mathlib.Omega.{arith}
use Rattle.system.specs.Heads.{places}
use Rattle.file.proofs.Filling.{kept_start, kept_turn, filled_over}
use Rattle.file.specs.Layout.{layout}
use Rattle.file.proofs.reading.fill.Goals as goal

pub loop-k-init : goal.loop-k-init
unfolding places
loop-k-init c = kept_start (layout c.args.h) c.args.file.now c.args.out.now c.args.h.m c.requires.1 c.size-n.result c.size-n.ensures c.requires.0

pub loop-k-preserved : goal.loop-k-preserved
unfolding places
loop-k-preserved c =
    let l = c.loop-k in
    kept_turn (layout c.args.h) c.args.file.now _ c.args.out.now c.args.h.m c.requires.1 c.size-n.result c.size-n.ensures l.k l.o l.out l.invariant (omega arith)
    c.two-len.result c.two-len.ensures.0 c.fill_places.new.places c.fill_places.ensures _ (omega arith)

pub returns : goal.returns
unfolding places
returns c = filled_over _ _ _ _ _ c.requires.1 _ _ _ _ c.loop-k.invariant.0 (omega arith)
