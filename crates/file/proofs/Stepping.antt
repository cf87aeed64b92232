-- Records at an offset of a file: what the code's tests say of `step`, `fits` and `due`, and what a due record in order says. Assumes nothing.
use Rattle.std.specs.Prelude.{Ok}
use mathlib.Core.Path.{◌≡◌, refl}
use mathlib.Core.Bool.{true}
use mathlib.Core.List.{List}
use Prim.Native.Nat.{ℕ, ◌+◌, ◌-◌, ◌/◌, ◌%◌, ◌≤◌}
use native.Mathlib.Omega.{arith}
use borrow.Author.Tests.{le-leb, eq-eqb, leb-true, eqb-true}
use lib.Dec.{leb, eqb}
use lib.ListN.{length, drop}
use Rattle.file.specs.Bytes.{word16}
use Rattle.file.proofs.Words.{byte_drop}
use Rattle.system.proofs.Says.{Says, le_says, eq_says, and_says}
use Rattle.system.specs.declared.refusal.Refusal.TheVariants.{Ended, NotDue, WrongLength}
use Rattle.system.specs.Chain.{test}
use Rattle.file.specs.Records.{length_of, kind_of, fits, due}
use Rattle.file.specs.declared.parser.Shape.{Shape}
use Rattle.file.proofs.Tests.{passed, pass, parts, chain}

-- ---- the header's numbers
pub length_there : (s : List ℕ) (at : ℕ) → length_of (drop at s) ≡ word16 s at
length_there s at = let e : at + 0 ≡ at = omega arith in rw (byte_drop s at 0, byte_drop s at 1, e) refl

pub kind_there : (s : List ℕ) (at : ℕ) → kind_of (drop at s) ≡ word16 s (at + 2)
kind_there s at = let e : at + 3 ≡ at + 2 + 1 = omega arith in rw (byte_drop s at 2, byte_drop s at 3, e) refl

-- ---- the length of a body
module _ (s : Shape) (n : ℕ) where
  pub fits_says : Says (fits s n) (((s.base ≤ n) × ((n - s.base) % s.unit ≡ 0)) × ((n - s.base) / s.unit ≤ s.most))
  fits_says = and_says (and_says (le_says s.base n) (eq_says ((n - s.base) % s.unit) 0)) (le_says ((n - s.base) / s.unit) s.most)

-- ---- what a due record in order says
pub record Due (kind : ℕ) (shape : Shape) (r : List ℕ) : Type 0 where
  pub present : 4 + length_of r ≤ length r
  pub kind_is : kind_of r ≡ kind
  pub fitting : fits shape (length_of r) ≡ true

module _ (kind : ℕ) (shape : Shape) (o : ℕ) (r : List ℕ) where
  pub due_parts : due kind shape o r ≡ Ok tt → Due kind shape r
  unfolding due
  due_parts e =
      let a = parts (test (leb 4 (length r)) Ended o) _ e in
      let b = parts (test (eqb (kind_of r) kind) NotDue o) _ a.1 in
      let c = parts (test (fits shape (length_of r)) WrongLength o) (test (leb (4 + length_of r) (length r)) Ended o) b.1 in
      record {
        present = leb-true (4 + length_of r) (length r) (passed _ Ended o c.1);
        kind_is = eqb-true (kind_of r) kind (passed _ NotDue o b.0);
        fitting = passed _ WrongLength o c.0;
      }

  pub due_good : Due kind shape r → due kind shape o r ≡ Ok tt
  unfolding due
  due_good d =
      chain (pass Ended o (le-leb 4 (length r) (omega arith)))
      (chain (pass NotDue o (eq-eqb (kind_of r) kind d.kind_is))
      (chain (pass WrongLength o d.fitting) (pass Ended o (le-leb (4 + length_of r) (length r) d.present))))
