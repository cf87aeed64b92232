-- On which side of zero a number stands (01, "One visit": above zero, below zero; "Zero is neither"). Definitions only.
use Rattle.std.specs.Prelude.{ℕ, ℤ, pos, negsuc, zero, suc, Option, Some, None}
use Rattle.whole.specs.declared.Sign.{Sign}
use Rattle.whole.specs.declared.Sign.TheVariants.{Above, Below}

abbrev pub side_of : ℤ → Option Sign
side_of (pos zero) = None
side_of (pos (suc n)) = Some Above
side_of (negsuc n) = Some Below

-- as numbers tell a sign
abbrev pub sign_number : Sign → ℕ
sign_number Above = 1
sign_number Below = 2
