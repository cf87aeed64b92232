-- `polynomials::put_polynomials` meets its contract: at each turn the records of the first k are put. Assumes nothing.
use mathlib.Core.Path.{◌≡◌, ap}
use Prim.Native.Nat.{ℕ, ◌*◌, ◌+◌, ◌-◌}
use native.Mathlib.Omega.{arith}
use Rattle.system.specs.Heads.{places}
use Rattle.file.specs.Layout.{layout}
use Rattle.file.proofs.Putting.{putting_start, putting_turn, putting_over}
use Rattle.writing.proofs.Joining.{part_fits, record_next, record_room, ready_next, last_record}
use Rattle.writing.proofs.polynomials.put_polynomials.Goals as goal

pub loop-k-init : goal.loop-k-init
unfolding places
loop-k-init c =
    let a = c.args in
    let z : a.h.m - 0 ≡ a.h.m = omega arith in
    let y : c.size-n.result * 0 ≡ 0 = omega arith in
    (rw (z, y) (putting_start a.target.now 12 _ c.requires.0), λ h. part_fits (layout a.h) a.xs.now a.h.m 0 _ h c.size-n.ensures c.requires.1.long)

pub put_polynomial-o-requires : goal.put_polynomial-o-requires
unfolding places
put_polynomial-o-requires c =
    let a = c.args in
    let l = c.loop-k in
    let n = c.size-n.result in
    let b : n * c.from.result ≡ n * l.k = ap (λ (z : ℕ). n * z) c.from.ensures in
    let w : n * c.from.result + n - n * c.from.result ≡ n = omega arith in
    rw w (
      record_room (layout a.h) a.xs.now a.h.m l.k n _ (omega arith) c.size-n.ensures b c.requires.0 l.invariant.0,
      ready_next (layout a.h) a.xs.now a.h.m l.k n _ (omega arith) c.size-n.ensures b c.requires.1,
    )

pub loop-k-preserved : goal.loop-k-preserved
unfolding places
loop-k-preserved c =
    let a = c.args in
    let l = c.loop-k in
    let n = c.size-n.result in
    let r = c.put_polynomial-o in
    let b : n * c.from.result ≡ n * l.k = ap (λ (z : ℕ). n * z) c.from.ensures in
    let w : n * c.from.result + n - n * c.from.result ≡ n = omega arith in (
      putting_turn _ _ _ c.requires.0 _ _ _ _ (record_next (layout a.h) a.xs.now a.h.m l.k n _ (omega arith) c.size-n.ensures b l.invariant.0)
          r.result r.new.target (rw w at r.ensures.0) (rw w at r.ensures.1),
      λ h. part_fits (layout a.h) a.xs.now a.h.m (l.k + 1) _ h c.size-n.ensures c.requires.1.long,
    )

pub returns : goal.returns
returns c =
    let l = c.loop-k in
    putting_over _ _ _ c.requires.0 l.o l.target (rw (last_record (layout c.args.h) _ c.args.h.m l.k (omega arith)) at l.invariant.0)
