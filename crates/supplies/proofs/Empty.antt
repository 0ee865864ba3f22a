-- Days over books that hold nothing and a list without requests.
use Rattle.std.proofs.Common.{◌≡◌, Result, Ok, Err, IfOk, [], sym, ap, ◌∙◌, arith}
use Rattle.std.proofs.lemmas.Bool.Decides.{nat_tests}
use Rattle.quantity.specs.Measure.{Measure}
use Rattle.book.specs.Grid.{Grid, amounts, taken}
use Rattle.book.proofs.Counts.{taken_none}
use Rattle.day_calls.specs.declared.desk.Stage.TheVariants.{Unopened}
use Rattle.day_calls.specs.Days.{DayState}
use Rattle.bureau.specs.Fresh.{Fresh}

module _ {Q R : Type 0} (m : Measure Q R) where
  none_taken : (held : Grid Q) → amounts m held ≡ (λ _ _. m.none) → taken m held ≡ 0
  unfolding amounts
  none_taken held e = taken_none m held (λ p t. m.same_alike (held p t) m.nothing (ap (λ g. g p t) e ∙ sym m.nothing_none))

  fresh : (s : DayState Q R) → s.stage ≡ Unopened → amounts m s.held ≡ (λ _ _. m.none) → amounts m s.bids ≡ (λ _ _. m.none) → s.requests ≡ [] → Fresh m s
  fresh s stage held bids requests = record {
    unopened = stage;
    empty = rw (none_taken s.held held, none_taken s.bids bids, requests) (grind (arith, nat_tests));
  }

  -- So is what was made where memory was had.
  pub fresh_made : {D E : Type 0} (r : Result D E) (state : D → DayState Q R) → IfOk r (λ d. (state d).stage ≡ Unopened) → IfOk r (λ d. amounts m (state d).held ≡ (λ _ _. m.none)) → IfOk r (λ d. amounts m (state d).bids ≡ (λ _ _. m.none)) → IfOk r (λ d. (state d).requests ≡ []) → IfOk r (λ d. Fresh m (state d))
  fresh_made (Ok d) state stage held bids requests = fresh (state d) stage held bids requests
  fresh_made (Err _) state stage held bids requests = stage
