-- Prices, and what an award earns by them.
use Rattle.std.proofs.Common.{◌≡◌, ℕ, zero, suc, ◌+◌, ◌<◌, ◌≤◌, true, false, ltb, List, [], ◌∷◌, length, get_or, refl, ap, ◌∙◌, zero-add, arith}
use Rattle.std.proofs.lemmas.Bool.{ltb-false, lt-ltb, le-ltb, or_parts, or_left, or_right, or_from}
use Rattle.book.specs.Grid.{total}
use Rattle.awards.specs.Accounts.{most_cents}
use Rattle.awards.specs.Awards.{overpriced, earns_in, award_earns}

-- one price that is too large
pub large_at : (prices : List ℕ) (i : ℕ) → most_cents < get_or prices i 0 → overpriced prices ≡ true
large_at [] i h = absurd (omega arith)
large_at (p ∷ ps) zero h = or_left (ltb most_cents p) (overpriced ps) (lt-ltb most_cents p h)
large_at (p ∷ ps) (suc i) h = or_right (ltb most_cents p) (overpriced ps) (large_at ps i h)

-- none that is too large
pub none_large : (prices : List ℕ) → ((k : ℕ) → k < length prices → get_or prices k 0 ≤ most_cents) → overpriced prices ≡ false
none_large [] h = refl
none_large (p ∷ ps) h = or_from (ltb most_cents p) (overpriced ps) (le-ltb most_cents p (h 0 (omega arith))) (none_large ps (λ k l. h (suc k) (omega arith)))

pub price_bound : (prices : List ℕ) → overpriced prices ≡ false → (d : ℕ) → get_or prices d 0 ≤ most_cents
price_bound [] e d = omega arith
price_bound (p ∷ ps) e zero = ltb-false most_cents p (or_parts (ltb most_cents p) (overpriced ps) e).0
price_bound (p ∷ ps) e (suc d) = price_bound ps (or_parts (ltb most_cents p) (overpriced ps) e).1 d

-- what an award earns with one direction and with two
module _ (tenths : ℕ → ℕ) (prices : List ℕ) (directions quarters : ℕ) where
  pub earns_one : directions ≡ 1 → award_earns tenths prices directions quarters ≡ earns_in tenths prices quarters 0
  unfolding award_earns total
  earns_one e = ap (total (earns_in tenths prices quarters)) e ∙ zero-add (earns_in tenths prices quarters 0)

  pub earns_two : directions ≡ 2 → award_earns tenths prices directions quarters ≡ earns_in tenths prices quarters 0 + earns_in tenths prices quarters 1
  unfolding award_earns total
  earns_two e = ap (total (earns_in tenths prices quarters)) e ∙ ap (λ n. n + earns_in tenths prices quarters 1) (zero-add (earns_in tenths prices quarters 0))
