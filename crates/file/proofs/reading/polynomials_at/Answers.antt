-- `reading::polynomials_at` meets its contract: at each turn the records that are left answer what all of them answer. Assumes nothing.
use mathlib.Core.Path.{sym, ◌∙◌}
use native.Mathlib.Omega.{arith}
use Rattle.file.proofs.Walking.{polynomials_turn}
use Rattle.file.proofs.reading.polynomials_at.Goals as goal

pub loop-k-preserved : goal.loop-k-preserved
loop-k-preserved c =
    polynomials_turn _ _ _ c.args.h.m c.loop-k.k c.loop-k.o _ (omega arith) (sym c.polynomial_at.ensures.says ∙ c.in_ok-polynomial_at.was)
    c.two.ensures.0 c.loop-k.invariant
