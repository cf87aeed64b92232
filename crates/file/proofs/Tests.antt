-- Chains of tests, and Booleans: taken apart and put together. Assumes nothing.
use Rattle.std.specs.Prelude.{Result, Ok, Err, ⊤}
use mathlib.Core.Path.{◌≡◌, refl, sym}
use mathlib.Core.Bool.{Bool, true, false, ◌&&◌, not}
use Prim.Native.Nat.{ℕ}
use native.Mathlib.Omega.{arith}
use Rattle.system.specs.declared.refusal.Refusal.{Refusal}
use Rattle.system.specs.declared.refusal.Refused.{Refused}
use Rattle.system.specs.Chain.{test, ◌then◌}

pub no_way : {A : Type 0} → true ≡ false → A
no_way e = let z : ◌≡◌ {A = ℕ} 0 1 = cc in absurd (omega arith)

pub no_good : {A : Type 0} {x : Refused} → ◌≡◌ {A = Result ⊤ Refused} (Err x) (Ok tt) → A
no_good e = let z : ◌≡◌ {A = ℕ} 0 1 = cc in absurd (omega arith)

-- ---- Booleans
pub both : (a b : Bool) → a && b ≡ true → (a ≡ true) × (b ≡ true)
both true b e = (refl, e)
both false b e = no_way (sym e)

pub and_intro : {a b : Bool} → a ≡ true → b ≡ true → a && b ≡ true
and_intro p q = rw (p, q) refl

pub not_not : (b : Bool) → not b ≡ true → b ≡ false
not_not true e = sym e
not_not false e = refl

-- ---- tests
pub passed : (b : Bool) (w : Refusal) (o : ℕ) → test b w o ≡ Ok tt → b ≡ true
passed true w o e = refl
passed false w o e = no_good e

pub pass : {b : Bool} (w : Refusal) (o : ℕ) → b ≡ true → test b w o ≡ Ok tt
pass w o e = rw e refl

pub parts : (a b : Result ⊤ Refused) → a then b ≡ Ok tt → (a ≡ Ok tt) × (b ≡ Ok tt)
parts (Ok tt) b e = (refl, e)
parts (Err x) b e = no_good e

pub chain : {a b : Result ⊤ Refused} → a ≡ Ok tt → b ≡ Ok tt → a then b ≡ Ok tt
chain p q = rw (p, q) refl
