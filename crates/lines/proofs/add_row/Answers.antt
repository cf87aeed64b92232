-- `add_row` meets its contract: the sums are made, and then stored. Assumes nothing.
use Prim.Native.Nat.{◌+◌}
use lib.IntN.{◌+ℤ◌}
use Rattle.std.proofs.Common.{rules}
use Rattle.whole.proofs.Machine.{sum_is}
use Rattle.lines.specs.Lines.{at}
use Rattle.lines.proofs.Made.{made, row_is}
use Rattle.lines.proofs.add_row.Goals as goal

pub returns : goal.returns
returns g c =
    row_is (λ f h. made _ (λ f. at c.args.s.now (c.args.a + f) +ℤ at c.args.s.now (c.args.b + f)) g.row.W _ (λ i y q m k. search (rules, sum_is (c.requires.0.small i m) (c.requires.1.small i m))) _ c.from_fn-row.ensures.items f h _) c.put_row.ensures
