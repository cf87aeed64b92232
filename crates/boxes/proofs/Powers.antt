-- Powers of two as shifts make them. Assumes nothing.
use mathlib.Core.Path.{◌≡◌, sym, ◌∙◌}
use Prim.Native.Nat.{ℕ, ◌+◌, ◌*◌, ◌%◌, ◌^◌, ◌≤◌}
use native.Mathlib.Nat.{one-mul, mul_comm}
use native.Mathlib.Omega.{arith}
use lib.Dec.{lit<}
use lib.Pow.{shl_exact, pow-add}

pub single : (s : ℕ) → s ≤ 10 → 1 * 2 ^ s % 2 ^ 16 ≡ 2 ^ s
single s g = shl_exact 1 s 16 (lit< tt) (omega arith) ∙ one-mul (2 ^ s)

pub double : (s : ℕ) → s ≤ 10 → 2 * 2 ^ s % 2 ^ 16 ≡ 2 ^ (s + 1)
double s g = shl_exact 2 s 16 (lit< tt) (omega arith) ∙ mul_comm 2 (2 ^ s) ∙ sym (pow-add 2 s 1)
