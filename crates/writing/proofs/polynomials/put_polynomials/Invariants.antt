-- What the loop of `polynomials::put_polynomials` keeps: the records of the first k are put, and the coefficients of the next are there.
use Prim.Native.Nat.{◌+◌, ◌-◌, ◌*◌, ◌≤◌, ◌<◌}
use lib.ListN.{length, drop}
use Rattle.file.specs.Layout.{layout}
use Rattle.file.proofs.Putting.{Putting}
use Rattle.writing.specs.Writing.{polynomials_bytes}
use Rattle.writing.proofs.polynomials.put_polynomials.Given as goal

abbrev pub invariant-loop-k : goal.invariant-loop-k
invariant-loop-k l =
    Putting l.fn.target 12 (polynomials_bytes (layout l.h) l.h.m 1 l.xs) l.o l.target
    (polynomials_bytes (layout l.h) (l.h.m - l.k) (l.k + 1) (drop (l.n * l.k) l.xs))
    × (l.k < l.h.m → l.n * l.k + l.n ≤ length l.xs)
