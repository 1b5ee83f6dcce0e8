-- Shares by computation: a half goes up, less than a half does not.
use mathlib.Core.Path.{◌≡◌, refl}
use Rattle.meter_rules.specs.Shares.{tenths_of}

-- 1 of 2,000; 1 of 2,001; 613 of 1,000; all.
pub shares : (tenths_of 1999 1 ≡ 1) × (tenths_of 2000 1 ≡ 0) × (tenths_of 387 613 ≡ 613) × (tenths_of 0 5 ≡ 1000)
unfolding tenths_of
shares = (refl, refl, refl, refl)
