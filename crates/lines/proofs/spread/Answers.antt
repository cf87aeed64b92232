-- `spread` meets its contract: k steps, then one more. Assumes nothing.
use mathlib.Core.Path.{◌≡◌, subst}
use native.Mathlib.Omega.{arith}
use Prim.Native.Nat.{ℕ}
use Rattle.bernstein.specs.Numbers.{after}
use Rattle.lines.specs.Lines.{Under, InPlace}
use Rattle.lines.proofs.Passes.{no_step, one_step, step_ready}
use Rattle.lines.proofs.spread.Goals as goal

pub loop-k-init : goal.loop-k-init
loop-k-init c = no_step

pub step-requires : goal.step-requires
step-requires c = let y = step_ready c.loop-k.k c.requires c.loop-k.invariant in (omega arith, y.0, y.1)

pub loop-k-preserved : goal.loop-k-preserved
loop-k-preserved c = one_step c.loop-k.k c.loop-k.invariant c.step.ensures

pub returns : goal.returns
returns c =
    let e : c.loop-k.k ≡ c.args.n = omega arith in
    subst (λ (k : ℕ). InPlace (λ b. after b k) (Under 1) c.args.first c.args.inner c.args.n c.args.s.now c.loop-k.s) e c.loop-k.invariant
