-- `bytes::four` meets its contract: the machine reads the same four bytes as the same signed number. Assumes nothing.
use mathlib.Core.Path.{◌∙◌}
use Prim.Native.Nat.{◌+◌}
use native.Mathlib.Omega.{arith}
use mir.Syntax.{w32}
use mir.Facts.{to_z-of_z}
use Rattle.whole.proofs.Machine.{back}
use Rattle.file.specs.Bytes.{word32}
use Rattle.file.proofs.Words.{signed_bits}
use Rattle.file.proofs.bytes.four.Goals as goal

pub returns : goal.returns
returns c =
    let s = c.args.s.now in
    let i = c.args.i in
    let b = c.type_inv.s in
    back c.from.type_inv ∙ c.from.ensures ∙ to_z-of_z {w = w32} (record { sfits = c.from_le_bytes.type_inv }) ∙ c.from_le_bytes.ensures
    ∙ signed_bits _ (word32 s i) (omega arith) (omega (arith, b i, b (i + 1), b (i + 2), b (i + 3)))
