-- The accounts of a sheet, and how much awards are at most.
use Rattle.std.specs.Prelude.{ℕ, List, [], slice_index_or}
use Rattle.awards.specs.declared.sheet.account.Account.{Account}

-- how many awards a day has at most
abbrev pub most_awards : ℕ
most_awards = 512

-- the highest price, in cents
abbrev pub most_cents : ℕ
most_cents = 200000

-- what one award earns at most, by the highest price: 10,000 tenths in 100 quarters, in each of two directions
abbrev pub most_earned : ℕ
most_earned = 400000000000

-- the account of a provider, an empty one where there is none
abbrev pub account_of : List Account → ℕ → Account
account_of accounts p = slice_index_or accounts p (record { earned = 0; exempt = [] })
