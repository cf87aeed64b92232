-- 01, "Refusal numbers": the number of each refusal; where no file is read the offset is 0. Definitions only.
use Rattle.std.specs.Prelude.{ℕ}
use Rattle.system.specs.declared.refusal.Refusal.{Refusal}
use Rattle.system.specs.declared.refusal.Refusal.TheVariants.{Ended, NotDue, WrongLength, OutOfLimits, ExponentTooHigh, BadCoefficient, NotRising, ExtraBytes, TooShort, OutsideRules}
use Rattle.system.specs.declared.refusal.Refused.{Refused}

abbrev pub number : Refusal → ℕ
-- input ends inside a record or before kind 3
number Ended = 1
-- a kind or polynomial number other than the one due
number NotDue = 2
-- length wrong for the kind
number WrongLength = 3
-- a head value outside the ranges, or S above 64
number OutOfLimits = 4
-- exponent above its degree
number ExponentTooHigh = 5
-- coefficient beyond the range; in a file also zero
number BadCoefficient = 6
-- place not above the term before
number NotRising = 7
-- bytes after kind 3
number ExtraBytes = 8
-- a lent buffer too short
number TooShort = 9
-- a box or state outside the rules
number OutsideRules = 10

-- why, and where in the file
abbrev pub at : Refusal → ℕ → Refused
at w o = record { why = w; at = o }

abbrev pub at_start : Refusal → Refused
at_start w = at w 0
