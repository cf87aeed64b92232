-- What `read` keeps: the count stays within the file. Assumes nothing.
use Rattle.std.proofs.Common.{◌≤◌, length}
use Rattle.solve.proofs.moving.read.Given as goal

abbrev pub invariant-loop : goal.invariant-loop
invariant-loop g l = l.count ≤ length l.file
