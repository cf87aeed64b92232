-- `bytes::bytes_of` meets its contract: the machine's four bytes are those of the number. Assumes nothing.
use mathlib.Core.Path.{◌∙◌}
use mir.Facts.{to_z-of_z}
use Rattle.file.specs.Bytes.{unsigned32}
use Rattle.file.proofs.Words.{machine_bits, machine_bytes, unsigned_fits}
use Rattle.file.proofs.bytes.bytes_of.Goals as goal

pub returns : goal.returns
returns c =
    let x = c.args.x in
    c.to_le_bytes.ensures ∙ machine_bytes _ (unsigned32 x) (machine_bits x _ c.requires (to_z-of_z c.ranges.x)) (unsigned_fits x c.requires)
