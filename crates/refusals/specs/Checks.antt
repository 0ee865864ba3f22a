-- What is wrong with the provider, the span and the passage of a call.
use Rattle.std.specs.Prelude.{ℕ, cond, ◌&&◌, Some, None, Option, ◌==◌, nat_le, nat_lt}
use Rattle.refusals.specs.declared.refusal.Refusal.{Refusal}
use Rattle.refusals.specs.declared.refusal.Refusal.TheVariants.{NoSuchProvider, NoSuchSpan, SameProvider}

abbrev pub no_provider : ℕ → Option Refusal
no_provider p = cond (nat_lt p 32) None (Some NoSuchProvider)

abbrev pub no_span : ℕ → ℕ → Option Refusal
no_span first last = cond (nat_le first last && nat_lt last 100) None (Some NoSuchSpan)

abbrev pub one_provider : ℕ → ℕ → Option Refusal
one_provider giver taker = cond (giver == taker) (Some SameProvider) None
