-- `weigh` meets its contract: one weighted coefficient more at each turn. Assumes nothing.
use mathlib.Core.Path.{◌∙◌}
use native.Mathlib.Omega.{arith}
use native.Mathlib.Nat as NatL
use Prim.Native.Nat.{◌<◌}
use Rattle.system.specs.Heads.{places}
use Rattle.system.proofs.Heads.{size_low}
use Rattle.whole.proofs.Machine.{back}
use Rattle.slots.proofs.Weighing.{weighing_on, weighing_end, heavy_made}
use Rattle.slots.proofs.Spreading.{coefficient_high}
use Rattle.slots.proofs.starts.Startable.weigh.Goals as goal

pub nonzero_rem-x : goal.nonzero_rem-x
nonzero_rem-x c = rw c.size-size.ensures (size_low c.args.self.now.head)

pub weight_at-requires : goal.weight_at-requires
weight_at-requires c = let h = c.args.self.now.head in rw c.size-size.ensures (NatL.mod-lt c.loop-x.x (size_low h))

pub times-requires : goal.times-requires
times-requires c = (
  c.weight_at.ensures.1,
  rw (back c.times-arg-1.given) (coefficient_high c.args.self.now.head c.args.self.now.coefficients.now c.args.self.now.enough c.args.self.now.ranged c.loop-x.x (omega arith)),
)

pub loop-x-preserved : goal.loop-x-preserved
loop-x-preserved c =
    let h = c.args.self.now.head in
    let b : c.loop-x.x < places h = omega arith in
    weighing_on h c.args.self.now.coefficients.now c.requires c.loop-x.invariant b
    (heavy_made h c.args.self.now.coefficients.now c.loop-x.x b c.size-size.ensures c.weight_at.ensures.0 (back c.times-arg-1.given) (back c.times.type_inv ∙ c.times.ensures))

pub returns : goal.returns
returns c = weighing_end c.args.self.now.head c.args.self.now.coefficients.now c.requires c.loop-x.invariant (omega arith)
