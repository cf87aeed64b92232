-- The public read: the check, the room, the numbers; and what a file in order says. Assumes nothing.
use Rattle.std.specs.Prelude.{Ok, Err}
use mathlib.Core.Path.{◌≡◌, refl}
use mathlib.Core.Bool.{true}
use mathlib.Core.List.{List, ◌++◌}
use Prim.Native.Nat.{ℕ, ◌≤◌, ◌<◌}
use native.Mathlib.Omega.{arith}
use borrow.Author.Tests.{le-leb, lt-leb}
use lib.IntN.{ℤ}
use lib.ListN.{length, drop}
use Rattle.system.specs.Heads.{places, head_ok}
use Rattle.system.specs.declared.refusal.Refusal.TheVariants.{OutOfLimits, TooShort}
use Rattle.system.specs.declared.refusal.Refused.{Refused}
use Rattle.system.specs.Chain.{test}
use Rattle.file.specs.Layout.{layout}
use Rattle.file.specs.Records.{length_of, due}
use Rattle.file.specs.Reading.{head_shape, polynomials, head_of, checked, numbers, reads}
use Rattle.file.proofs.Tests.{parts, passed}
use Rattle.file.proofs.Stepping.{Due, due_parts, fits_says}

pub record InFile (s : List ℕ) : Type 0 where
  pub header : Due 1 head_shape s
  pub long : 12 ≤ length s
  pub limits : head_ok (head_of s) ≡ true
  pub in_order : polynomials (layout (head_of s)) (head_of s).m 1 12 (drop 12 s) ≡ Ok tt

pub in_file : (s : List ℕ) → checked s ≡ Ok tt → InFile s
unfolding checked
in_file s e =
    let a = parts (due 1 head_shape 0 s) _ e in
    let b = parts (test (head_ok (head_of s)) OutOfLimits 0) (polynomials (layout (head_of s)) (head_of s).m 1 12 (drop 12 s)) a.1 in
    let d = due_parts 1 head_shape 0 s a.0 in
    let f = ((fits_says head_shape (length_of s)).fact d.fitting).0.0 in
    record { header = d; long = omega (arith, d.present); limits = passed (head_ok (head_of s)) OutOfLimits 0 b.0; in_order = b.1 }

-- ---- what `reads` answers
module _ (s : List ℕ) (out : List ℤ) where
  pub reads_stop : (x : Refused) → checked s ≡ Err x → reads s out ≡ (Err x, out)
  unfolding reads
  reads_stop x e = rw e refl

  pub reads_short : checked s ≡ Ok tt → length out < places (head_of s) → reads s out ≡ (Err (record { why = TooShort; at = 0 }), out)
  unfolding reads
  reads_short e l = rw (e, lt-leb (places (head_of s)) (length out) l) refl

  pub reads_fine : checked s ≡ Ok tt → places (head_of s) ≤ length out → reads s out ≡ (Ok (head_of s), numbers s ++ drop (places (head_of s)) out)
  unfolding reads
  reads_fine e l = rw (e, le-leb (places (head_of s)) (length out) l) refl
