-- What a gate passes on is what it confirms: the volumes stay in balance, request by request.
use Rattle.std.proofs.Common.{◌≡◌, ℕ, zero, suc, ◌+◌, List, [], ◌∷◌, Some, refl, arith}
use Rattle.std.specs.List.{slice_get}
use Rattle.std.proofs.lemmas.Grind.{common_steps}
use Rattle.quantity.specs.Measure.{Measure}
use Rattle.book.specs.Grid.{Grid, amounts}
use Rattle.book.specs.Admissions.{Admission}
use Rattle.span_moves.specs.Moves.{moved}
use Rattle.span_moves.proofs.Shares.{move_passes}
use Rattle.requests.specs.declared.request.Request.{Request}
use Rattle.gates.specs.declared.gate.Gate.{Gate}
use Rattle.gates.specs.Gates.{settled, passed_on, after_moves, gated}
use Rattle.laws.specs.Sums.{sum_from}
use Rattle.laws.specs.Volumes.{from_giver, to_taker}
use Rattle.laws.specs.Laws.{Founded}
use Rattle.laws.proofs.Sums.{neutral_right, past, swap4, cancels_right}
use Rattle.laws.proofs.Stands.{Words, counted, passed, Volume, AllFounded, founded_from}

module _ {Q R : Type 0} (m : Measure Q R) where
  -- one request and the rest: h is what is held before, n after the one, l after all
  both : {h n l s s' v v' ss ss' vs vs' : m.Amount} → m.plus (m.plus n s') v ≡ m.plus (m.plus h s) v' → m.plus (m.plus l ss') vs ≡ m.plus (m.plus n ss) vs' → m.plus (m.plus l (m.plus s' ss')) (m.plus v vs) ≡ m.plus (m.plus h (m.plus s ss)) (m.plus v' vs')
  both one rest = grind (arith, past, swap4, m.groups)

  module _ (places : ℕ) (admission : ℕ → ℕ → Q → Admission) (gate : Gate) where
    module _ (p t : ℕ) (words : Words Q) where
      -- one request: what its move takes from the giver and brings the taker is what the last word says
      step :
          (held : Grid Q) (k : ℕ) (r : Request R) → Founded m (words k) (Some r) →
          m.plus (m.plus (amounts m (passed_on m places admission held r) p t) (counted m (from_giver m p t) words k (settled m places admission gate held r))) (counted m (to_taker m p t) words k r)
          ≡ m.plus (m.plus (amounts m held p t) (counted m (from_giver m p t) words k r)) (counted m (to_taker m p t) words k (settled m places admission gate held r))
      unfolding moved
      step held k r f = grind (arith, move_passes m held places admission, neutral_right m, m.commutes)

      gate_sums :
          (k : ℕ) (held : Grid Q) (rs : List (Request R)) → ((j i : ℕ) → j ≡ k + i → Founded m (words j) (slice_get rs i)) →
          m.plus (m.plus (amounts m (after_moves m places admission held rs) p t) (sum_from m (counted m (from_giver m p t) words) k (gated m places admission gate held rs))) (sum_from m (counted m (to_taker m p t) words) k rs)
          ≡ m.plus (m.plus (amounts m held p t) (sum_from m (counted m (from_giver m p t) words) k rs)) (sum_from m (counted m (to_taker m p t) words) k (gated m places admission gate held rs))
      unfolding sum_from after_moves gated
      gate_sums k held [] founded = refl
      gate_sums k held (r ∷ rs) founded = both (step held k r (founded k 0 (omega arith))) (gate_sums (suc k) (passed_on m places admission held r) rs (λ j i e. founded j (suc i) (omega arith)))

    -- the volumes after a gate
    pub gate_volume :
        (awards : ℕ → ℕ → m.Amount) (words : Words Q) (held : Grid Q) (rs : List (Request R)) → AllFounded m words rs →
        Volume m awards words (amounts m held) rs → Volume m awards words (amounts m (after_moves m places admission held rs)) (gated m places admission gate held rs)
    gate_volume awards words held rs founded volume p t hp ht =
        let sums = gate_sums p t words 0 held rs (founded_from m words rs founded) in
        cancels_right m _ _ (passed m (to_taker m p t) words rs) (grind (arith, volume p t hp ht, past m, m.groups, m.commutes))

    -- every request is still as it was announced last
    pub gate_founded : (words : Words Q) (held : Grid Q) (rs : List (Request R)) → AllFounded m words rs → AllFounded m words (gated m places admission gate held rs)
    unfolding gated
    gate_founded words held [] founded k = founded k
    gate_founded words held (r ∷ rs) founded zero = grind (arith, common_steps, founded 0)
    gate_founded words held (r ∷ rs) founded (suc k) = gate_founded (λ j. words (suc j)) (passed_on m places admission held r) rs (λ j. founded (suc j)) k
