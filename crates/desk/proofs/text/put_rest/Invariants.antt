-- `put_rest` meets its contract: at each turn the numbers before it are put. Assumes nothing.
use mathlib.Core.List.{map}
use lib.ListN.{drop}
use Rattle.file.proofs.Putting.{Putting}
use Rattle.desk.specs.Text.{decimal, ended}
use Rattle.desk.proofs.text.put_rest.Given as goal

abbrev pub invariant-loop-n : goal.invariant-loop-n
invariant-loop-n l = Putting l.initial.t l.at (ended (map decimal l.ns)) l.o l.t (ended (map decimal (drop l.n-index l.ns)))
