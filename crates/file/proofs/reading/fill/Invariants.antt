-- What the loop of `reading::fill` keeps: the polynomials before k are filled in, and the next one is there, with room for it.
use lib.ListN.{drop}
use Rattle.file.proofs.Filling.{Kept}
use Rattle.file.specs.Layout.{layout}
use Rattle.file.specs.Reading.{numbers_of}
use Rattle.file.proofs.reading.fill.Given as goal

abbrev pub invariant-loop-k : goal.invariant-loop-k
invariant-loop-k l = Kept (layout l.h) l.file (numbers_of (layout l.h) l.h.m (drop 12 l.file)) l.fn.out l.h.m l.n l.k l.o l.out
