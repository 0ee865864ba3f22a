-- Bands: whole numbers of tenths up to 10,000 in each of the directions up and down.
use Rattle.std.specs.Prelude.{◌≡◌, ℕ, zero, suc, ◌+◌, ◌-◌, Bool, true, false, cond, ◌&&◌, Some, None, Option, nat_le, refl}
use Rattle.std.proofs.Common.{arith, leb-true}
use Rattle.std.proofs.lemmas.Bool.{and_parts}
use Rattle.std.specs.Option.{unwrap_or}
use Rattle.quantity.specs.declared.afrr.Band.{Band}
use Rattle.quantity.specs.declared.up_down.UpDown.{UpDown}

unfoldable pub band_by : (u d : ℕ) (b : Bool) → (nat_le u 10000 && nat_le d 10000) ≡ b → Option Band
band_by u d true e = Some (record { up = u; down = d; upward = leb-true u 10000 (and_parts (nat_le u 10000) (nat_le d 10000) e).0; downward = leb-true d 10000 (and_parts (nat_le u 10000) (nat_le d 10000) e).1 })
band_by u d false e = None

-- the band of u tenths up and d down: none above 10,000
unfoldable pub band_of : ℕ → ℕ → Option Band
band_of u d = band_by u d (nat_le u 10000 && nat_le d 10000) refl

abbrev pub no_band : Band
no_band = record { up = 0; down = 0; upward = omega arith; downward = omega arith }

-- the sum of two bands
abbrev pub band_sum : Band → Band → Option Band
band_sum a b = band_of (a.up + b.up) (a.down + b.down)

-- whether a has at least the tenths of b in each direction
abbrev pub band_covers : Band → Band → Bool
band_covers a b = nat_le b.up a.up && nat_le b.down a.down

-- what is left of a after b
abbrev pub band_left : Band → Band → Option Band
band_left a b = cond (band_covers a b) (band_of (a.up - b.up) (a.down - b.down)) None

-- the row of a band, and the band that a row tells
abbrev pub band_row : Band → UpDown ℕ
band_row v = record { up = v.up; down = v.down }

abbrev pub band_told : UpDown ℕ → Band
band_told r = unwrap_or (band_of r.up r.down) no_band

-- the tenths in the direction of a number
abbrev pub band_tenths : Band → ℕ → ℕ
band_tenths v zero = v.up
band_tenths v (suc zero) = v.down
band_tenths v (suc (suc d)) = 0
