-- `scale_row` meets its contract: the products are asked to fit, made, and then stored. Assumes nothing.
use Prim.Native.Nat.{◌+◌, ◌^◌}
use lib.IntN.{pos, ◌*ℤ◌}
use Rattle.std.proofs.Common.{rules}
use Rattle.lines.specs.Lines.{at}
use Rattle.lines.proofs.Made.{made, row_is}
use Rattle.lines.proofs.scale_row.Goals as goal

pub returns : goal.returns
returns g c =
    row_is (λ f h. made _ (λ f. pos (2 ^ c.args.e) *ℤ at c.args.s.now (c.args.b + f)) g.row.W _ (λ i y q m k. search rules) _ c.from_fn-row.ensures.items f h _) c.put_row.ensures
