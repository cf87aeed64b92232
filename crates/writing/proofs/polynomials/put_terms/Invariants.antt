-- What the loop of `polynomials::put_terms` keeps: the terms before place p are put.
use lib.ListN.{drop}
use Rattle.file.specs.Layout.{layout}
use Rattle.file.proofs.Putting.{Putting}
use Rattle.writing.specs.Writing.{terms_bytes}
use Rattle.writing.proofs.polynomials.put_terms.Given as goal

abbrev pub invariant-loop-p : goal.invariant-loop-p
invariant-loop-p l = Putting l.fn.target l.at (terms_bytes (layout l.h) 0 l.xs) l.o l.target (terms_bytes (layout l.h) l.p (drop l.p l.xs))
