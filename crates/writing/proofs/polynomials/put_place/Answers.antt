-- `polynomials::put_place` meets its contract: of a zero nothing is put. Assumes nothing.
use mathlib.Core.Path.{sym, ap, ◌∙◌}
use mir.Facts.{to_z-of_z}
use Rattle.file.specs.Layout.{layout}
use Rattle.file.specs.Terms.{is_zero}
use Rattle.writing.proofs.Placing.{none_put}
use Rattle.writing.proofs.polynomials.put_place.Goals as goal

pub returns-then-is_zero : goal.returns-then-is_zero
returns-then-is_zero c =
    none_put (layout c.args.h) c.args.p c.args.x c.args.target.now c.args.at c.requires.0
    (ap is_zero (sym (to_z-of_z c.ranges.x)) ∙ sym c.is_zero.ensures ∙ c.if-is_zero.true)
