-- A day that is opened holds nothing, has no request, and nothing was awarded or earned on it.
use Rattle.std.proofs.Common.{◌≡◌, ℕ, ◌<◌, true, List, [], None, refl, arith}
use Rattle.std.proofs.lemmas.Bool.Decides.{nat_tests}
use Rattle.std.proofs.lemmas.List.{nil_from_length}
use Rattle.quantity.specs.Measure.{Measure}
use Rattle.book.specs.Grid.{Grid, amounts, taken}
use Rattle.book.proofs.Counts.{nothing_zero, taken_put}
use Rattle.requests.specs.declared.request.Request.{Request}
use Rattle.day.specs.Opening.{day_length, opening_refusal}
use Rattle.laws.specs.Sums.{sum_from}
use Rattle.laws.proofs.Stands.{Words, Volume, AllFounded}

module _ {Q R : Type 0} (m : Measure Q R) where
  -- where no holding of the range is taken, each is zero
  pub nothing_there : (held : Grid Q) → taken m held ≡ 0 → (p t : ℕ) → p < 32 → t < 100 → amounts m held p t ≡ m.none
  unfolding amounts
  nothing_there held e p t hp ht = grind (arith, nothing_zero m, taken_put m held p t hp ht m.nothing, m.alike_same (held p t) m.nothing, m.nothing_none)

  module _ (number quarters : ℕ) (held bids : Grid Q) (rs : List (Request R)) (e : opening_refusal m number quarters held bids rs ≡ None) where
    no_requests : rs ≡ []
    no_requests = grind (arith, nat_tests, nil_from_length rs)

    pub open_founded : (words : Words Q) → AllFounded m words rs
    open_founded words k = rw no_requests tt

    pub open_length : day_length quarters ≡ true
    open_length = grind (arith, nat_tests)

    pub open_volume : (awards : ℕ → ℕ → m.Amount) (words : Words Q) → ((p t : ℕ) → awards p t ≡ m.none) → Volume m awards words (amounts m held) rs
    unfolding sum_from
    open_volume awards words quiet p t hp ht =
        let none : taken m held ≡ 0 = grind (arith, nat_tests) in
        rw (no_requests, nothing_there held none p t hp ht, quiet p t) refl
