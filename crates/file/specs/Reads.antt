-- Where a reader stands after a record (01, "The system file"): behind its body, and where it stood if there is none.
use Rattle.std.specs.Prelude.{ℕ, ◌+◌, Result, Ok, Err}
use Rattle.system.specs.declared.refusal.Refused.{Refused}
use Rattle.file.specs.declared.parser.Record.{Record}

abbrev pub after : ℕ → Result Record Refused → ℕ
after at (Ok p) = p.start + p.len
after at (Err x) = at
