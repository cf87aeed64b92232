-- `put_pair` meets its contract: two bytes stored are two bytes put. Assumes nothing.
use mathlib.Core.Path.{refl}
use Prim.Native.Nat.{◌+◌, ◌/◌, ◌%◌}
use Rattle.file.proofs.Putting.{put2}
use Rattle.desk.proofs.text.put_pair.Goals as goal

pub returns : goal.returns
returns c = let a = c.args in (refl, put2 a.t.now a.at (48 + a.n / 10) (48 + a.n % 10) c.requires.0)
