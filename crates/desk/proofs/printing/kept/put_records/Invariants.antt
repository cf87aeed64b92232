-- `put_records` puts record after record: what is left to put at each turn. Assumes nothing.
use mathlib.Core.Path.{◌≡◌}
use lib.ListN.{take}
use Rattle.std.specs.Iterator.Adapters.{take_source, take_count}
use Rattle.std.specs.Slice.Iter.{chunks_exact_rest, chunks_exact_size}
use Rattle.runs.specs.Lists.{listed}
use Rattle.desk.specs.Lines.{kept_lines}
use Rattle.desk.proofs.Putting.{Left}
use Rattle.desk.proofs.printing.kept.put_records.Given as goal

abbrev pub invariant-loop-numbers : goal.invariant-loop-numbers
invariant-loop-numbers l = let i = l.numbers-iterator in record {
  seven : chunks_exact_size (take_source i) ≡ 7;
  left : Left l.initial.text (kept_lines (take l.kept (listed l.list))) l.text (kept_lines (take (take_count i) (listed (chunks_exact_rest (take_source i)))));
}
