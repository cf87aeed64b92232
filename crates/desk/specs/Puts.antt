-- What a call puts into a lent text. Definitions only.
use Rattle.std.specs.Prelude.{◌≡◌, ℕ, ◌+◌, ◌≤◌, List, length}
use Rattle.file.specs.Bytes.{over}
use Rattle.desk.specs.declared.text.Text.{Text}

-- there is room for n bytes from where the text stands on, and for the bytes bs
abbrev pub Room : Text → (n : ℕ) → Type 0
Room t n = t.at + n ≤ length t.bytes.now

abbrev pub Fits : Text → (bs : List ℕ) → Type 0
Fits t bs = Room t (length bs)

-- bs was put where the text stood, and it stands behind bs now, in the same lent bytes and as many
pub record Puts (old new : Text) (bs : List ℕ) : Type 0 where
  pub same : new.bytes.ghost_name ≡ old.bytes.ghost_name
  pub long : length new.bytes.now ≡ length old.bytes.now
  pub at : new.at ≡ old.at + length bs
  pub now : new.bytes.now ≡ over old.bytes.now old.at bs
