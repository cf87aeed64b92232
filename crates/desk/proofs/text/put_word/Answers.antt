-- `put_word` meets its contract: a part of the bytes is replaced. Assumes nothing.
use mathlib.Core.Path.{refl, ap, ◌∙◌}
use Prim.Native.Nat.{◌+◌, ◌-◌}
use lib.ListN.{length}
use borrow.Rule.Slice.PartMut.{put_mid}
use Rattle.desk.proofs.Putting.{copied}
use Rattle.desk.proofs.text.put_word.Goals as goal

pub returns : goal.returns
returns c =
    let a = c.args in
    (refl, ap (put_mid a.at (a.at + length a.w.now - a.at) a.t.now) c.copy_from_slice.ensures.after ∙ copied a.t.now a.at a.w.now)
