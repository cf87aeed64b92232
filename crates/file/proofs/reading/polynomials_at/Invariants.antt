-- What the loop of `reading::polynomials_at` keeps: at each turn the records that are left answer what all of them answer.
use mathlib.Core.Path.{◌≡◌}
use Prim.Native.Nat.{◌+◌, ◌-◌}
use lib.ListN.{drop}
use Rattle.file.specs.Layout.{layout}
use Rattle.file.specs.Reading.{polynomials}
use Rattle.file.proofs.reading.polynomials_at.Given as goal

abbrev pub invariant-loop-k : goal.invariant-loop-k
invariant-loop-k l = polynomials (layout l.h) (l.h.m - l.k) (l.k + 1) l.o (drop l.o l.file) ≡ polynomials (layout l.h) l.h.m 1 12 (drop 12 l.file)
