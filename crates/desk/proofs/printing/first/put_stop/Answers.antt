-- `put_stop` meets its contract: the word, and the counts behind it. Assumes nothing.
use mathlib.Core.Path.{ap}
use mathlib.Core.List.{map}
use native.Mathlib.Omega.{arith}
use lib.ListN.{length, length-append}
use Rattle.desk.specs.Text.{decimal, ended, line}
use Rattle.desk.specs.Lines.{word}
use Rattle.desk.proofs.Putting.{puts_then}
use Rattle.desk.proofs.Sizes.{stop_short}
use Rattle.desk.proofs.printing.first.put_stop.Goals as goal

pub rest-requires : goal.rest-requires
unfolding line
rest-requires c =
    let s = stop_short c.args.w c.args.counts.now c.told-counts c.fits-counts in
    let w = ap length c.answer_word.ensures in
    omega (arith, length-append (word c.args.w) (ended (map decimal c.args.counts.now)))

pub returns : goal.returns
unfolding line
returns c =
    let s = stop_short c.args.w c.args.counts.now c.told-counts c.fits-counts in
    record {
      put = puts_then (word c.args.w) (ended (map decimal c.args.counts.now)) (omega arith) (rw c.answer_word.ensures at c.word.ensures) (λ _. c.rest.ensures);
      short = s;
    }
