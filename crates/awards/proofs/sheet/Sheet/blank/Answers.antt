use Rattle.std.proofs.Common.{◌≡◌, ℕ, Bool, false, cond, get_or, replicate, arith}
use Rattle.std.proofs.lemmas.List.{get_or-replicate, get_or_past, length-replicate}
use Rattle.book.specs.Grid.{in_range}
use Rattle.awards.specs.declared.sheet.account.Account.{Account}
use Rattle.awards.specs.Accounts.{account_of}
use Rattle.awards.proofs.sheet.Sheet.blank.Goals as goal

-- one of n blank accounts of k quarters, and the empty one past them
abbrev at : (n k p : ℕ) → Account
at n k = account_of (replicate n (record { earned = 0; exempt = replicate k false }))

nothing_at : (n k p t : ℕ) (b : Bool) → ((at n k p).earned ≡ 0) × (cond b (get_or (at n k p).exempt t false) false ≡ false)
nothing_at n k p t b = grind (arith, get_or-replicate, get_or_past, length-replicate)

pub invariant_of-result : goal.invariant_of-result
invariant_of-result c = record { few = omega arith; bounded = λ p. omega (arith, (nothing_at 32 100 p 0 false).0) }

pub returns : goal.returns
returns c = λ i. record { earned = λ p. (nothing_at 32 100 p 0 false).0 i; exempt = λ p t. (nothing_at 32 100 p t (in_range p t)).1 i; awards = 0 }
