-- `spread` meets its contract: k steps, then one more. Assumes nothing.
use Rattle.bernstein.specs.Numbers.{after}
use Rattle.lines.specs.Lines.{Under, InPlace}
use Rattle.lines.proofs.spread.Given as goal

abbrev pub invariant-loop-k : goal.invariant-loop-k
invariant-loop-k l = InPlace (λ b. after b l.k) (Under 1) l.first l.inner l.n l.initial.s l.s
