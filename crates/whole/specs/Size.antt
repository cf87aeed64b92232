-- The size of a whole number is the number without its sign; "at most 2^(62-n) - 1 in size" is `Below (2 ^ (62 - n))`. Definitions only.
-- A record, so that a number can be read off a fact about its size.
use Rattle.std.specs.Prelude.{ℕ, ◌<◌, ℤ, nat_abs}

pub record Below (m : ℕ) (z : ℤ) : Type 0 where
  pub below : nat_abs z < m
