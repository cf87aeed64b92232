-- How a call ends: code 0 is done, 1 to 10 are 01's refusals. Definitions only.
use Rattle.std.specs.Prelude.{ℕ}
use Rattle.system.specs.Refusals.{number}
use Rattle.system.specs.declared.refusal.Refused.{Refused}

-- ---- what a call leaves: its code, its offset, and the places lent to it
pub record Left (A : Type 0) : Type 0 where
  pub code : ℕ
  pub offset : ℕ
  pub lent : A

abbrev pub left : {A : Type 0} → ℕ → ℕ → A → Left A
left code offset lent = record { code = code; offset = offset; lent = lent }

abbrev pub done : {A : Type 0} → A → Left A
done lent = left 0 0 lent

abbrev pub refused : {A : Type 0} → Refused → A → Left A
refused x lent = left (number x.why) x.at lent
