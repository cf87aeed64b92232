-- What a start asks of its table of weights. The public contracts do not mention it. Definitions only.
use Rattle.std.specs.Prelude.{◌≡◌, List, [], ℕ, ◌≤◌, get_or}
use Rattle.bernstein.specs.Numbers.{weight}

-- entry i of row n is the weight of degree n at i; what stands beyond n is not read
pub record Weights (rows : List (List ℕ)) : Type 0 where
  pub weighs : (n i : ℕ) → n ≤ 6 → i ≤ n → get_or (get_or rows n []) i 0 ≡ weight n i
