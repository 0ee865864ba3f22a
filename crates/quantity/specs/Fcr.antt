-- Volumes: whole numbers of tenths up to 10,000, in the direction up.
use Rattle.std.specs.Prelude.{◌≡◌, ℕ, zero, suc, ◌+◌, ◌-◌, Bool, true, false, cond, Some, None, Option, nat_le, refl}
use Rattle.std.proofs.Common.{arith, leb-true}
use Rattle.std.specs.Option.{unwrap_or}
use Rattle.quantity.specs.declared.fcr.Volume.{Volume}

unfoldable pub volume_by : (n : ℕ) (b : Bool) → nat_le n 10000 ≡ b → Option Volume
volume_by n true e = Some (record { tenths = n; bounded = leb-true n 10000 e })
volume_by n false e = None

-- the volume of n tenths: none above 10,000
unfoldable pub volume_of : ℕ → Option Volume
volume_of n = volume_by n (nat_le n 10000) refl

abbrev pub no_volume : Volume
no_volume = record { tenths = 0; bounded = omega arith }

-- the sum of two volumes
abbrev pub volume_sum : Volume → Volume → Option Volume
volume_sum a b = volume_of (a.tenths + b.tenths)

-- what is left of a after b
abbrev pub volume_left : Volume → Volume → Option Volume
volume_left a b = cond (nat_le b.tenths a.tenths) (volume_of (a.tenths - b.tenths)) None

-- the volume that a row tells
abbrev pub volume_told : ℕ → Volume
volume_told n = unwrap_or (volume_of n) no_volume

-- the tenths in the direction of a number
abbrev pub volume_tenths : Volume → ℕ → ℕ
volume_tenths v zero = v.tenths
volume_tenths v (suc d) = 0
