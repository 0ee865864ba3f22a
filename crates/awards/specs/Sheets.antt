-- What a sheet tells.
use Rattle.std.specs.Prelude.{ℕ, ◌+◌, Bool, false, cond, ◌&&◌, ◌==◌, nat_le, nat_lt, slice_index_or}
use Rattle.book.specs.Grid.{in_range}
use Rattle.awards.specs.declared.sheet.Sheet.{Sheet}
use Rattle.awards.specs.Accounts.{account_of, most_awards, most_earned}

-- what each provider earned, in which quarters it is exempt, and how many awards there are
pub record SheetView : Type 0 where
  pub earned : ℕ → ℕ
  pub exempt : ℕ → ℕ → Bool
  pub awards : ℕ

-- nothing is earned and nobody is exempt outside the range
abbrev pub view : Sheet → SheetView
view s = record { earned = λ p. (account_of s.accounts p).earned; exempt = λ p t. cond (in_range p t) (slice_index_or (account_of s.accounts p).exempt t false) false; awards = s.awards }

-- the sheet of a day without awards
abbrev pub blank_view : SheetView
blank_view = record { earned = λ p. 0; exempt = λ p t. false; awards = 0 }

-- one award more, by which a provider earns an amount
abbrev pub entered : ℕ → ℕ → SheetView → SheetView
entered provider amount v = record { earned = λ p. cond (p == provider) (v.earned p + amount) (v.earned p); exempt = v.exempt; awards = v.awards + 1 }

-- whether there is such a provider, room for one more award, and the amount is one that an award can earn
abbrev pub enterable : ℕ → ℕ → SheetView → Bool
enterable provider amount v = nat_lt provider 32 && (nat_lt v.awards most_awards && nat_le amount most_earned)
