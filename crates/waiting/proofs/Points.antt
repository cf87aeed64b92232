-- Points and common zeros are made of what 01 asks of them, and of nothing else. Assumes nothing.
use mathlib.Core.Path.{refl}
use Rattle.waiting.specs.Fits.{AnyPoint, AnyZero}

pub any_point : AnyPoint
any_point X q h = (record { numerators = X; q = q; above_zero = h }, refl, refl)

pub any_zero : AnyZero
any_zero h cs x z = record { zeros = z }
