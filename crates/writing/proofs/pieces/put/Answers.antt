-- `pieces::put` meets its contract: a part of the target is replaced. Assumes nothing.
use mathlib.Core.Path.{◌≡◌, refl}
use Prim.Native.Nat.{◌+◌, ◌-◌}
use native.Mathlib.Omega.{arith}
use lib.ListN.{length}
use lib.Seq.{drop-drop}
use Rattle.file.specs.Bytes.{over}
use Rattle.writing.proofs.pieces.put.Goals as goal

pub returns : goal.returns
unfolding over
returns c =
    let a = c.args in
    let n : a.at + length a.bytes.now - a.at ≡ length a.bytes.now = omega arith in
    (refl, rw (c.copy_from_slice.ensures.after, n, drop-drop (length a.bytes.now) a.at a.target.now) refl)
