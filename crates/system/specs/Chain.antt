-- A chain of tests, of which the first that fails answers (01, "Refusal numbers": "All return the number and an offset"). Definitions only.
use Rattle.std.specs.Prelude.{ℕ, Bool, cond, Result, Ok, Err, ⊤}
use Rattle.system.specs.Refusals.{at}
use Rattle.system.specs.declared.refusal.Refusal.{Refusal}
use Rattle.system.specs.declared.refusal.Refused.{Refused}

-- a refusal at an offset
abbrev pub refused : Refusal → ℕ → Result ⊤ Refused
refused w o = Err (at w o)

-- one test
abbrev pub test : Bool → Refusal → ℕ → Result ⊤ Refused
test b w o = cond b (Ok tt) (refused w o)

infixr 30 ◌then◌
abbrev pub ◌then◌ : Result ⊤ Refused → Result ⊤ Refused → Result ⊤ Refused
Ok u then c = c
Err x then c = Err x
