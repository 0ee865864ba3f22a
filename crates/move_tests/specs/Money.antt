-- Sums of money: whole numbers of cents, of which those from -1,000,000 to 1,000,000 fit.
use Rattle.std.specs.Prelude.{◌≡◌, Bool, true, false, ℤ, pos, ◌+ℤ◌, ◌-ℤ◌, Some, None, Option, nat_le, unsigned_abs, refl}
use Rattle.std.proofs.Common.{arith, leb-true}
use Rattle.std.specs.Option.{unwrap_or}
use Rattle.move_tests.specs.declared.cents.Cents.{Cents}

unfoldable pub cents_by : (n : ℤ) (b : Bool) → nat_le (unsigned_abs n) 1000000 ≡ b → Option Cents
cents_by n true e = Some (record { cents = n; bounded = leb-true (unsigned_abs n) 1000000 e })
cents_by n false e = None

-- the sum of n cents: none outside the bounds
unfoldable pub cents_of : ℤ → Option Cents
cents_of n = cents_by n (nat_le (unsigned_abs n) 1000000) refl

abbrev pub no_cents : Cents
no_cents = record { cents = pos 0; bounded = omega arith }

abbrev pub cents_sum : Cents → Cents → Option Cents
cents_sum a b = cents_of (a.cents +ℤ b.cents)

-- what is left of a after b
abbrev pub cents_left : Cents → Cents → Option Cents
cents_left a b = cents_of (a.cents -ℤ b.cents)

-- the sum that a row tells
abbrev pub cents_told : ℤ → Cents
cents_told n = unwrap_or (cents_of n) no_cents
