-- A request that was heard says what was announced; that it is heard passes no volume.
use Rattle.std.proofs.Common.{◌≡◌, ℕ, ◌<◌, true, false, cond, eqb, List, [], ◌∷◌, ◌++◌, length, set, Some, Option, sym, arith}
use Rattle.std.proofs.lemmas.Grind.{common_steps}
use Rattle.std.proofs.lemmas.Option.{gets}
use Rattle.std.proofs.lemmas.Bool.Decides.{nat_tests}
use Rattle.std.specs.List.{slice_get}
use Rattle.quantity.specs.Measure.{Measure}
use Rattle.book.specs.Grid.{Grid}
use Rattle.requests.specs.declared.request.Side.{Side}
use Rattle.requests.specs.declared.request.Side.TheVariants.{Giver, Taker}
use Rattle.requests.specs.declared.request.Request.{Request}
use Rattle.requests.specs.declared.announcement.Announcement.{Announcement}
use Rattle.requests.specs.Requests.{balance, spoken}
use Rattle.requests.proofs.Places.{passages_equal}
use Rattle.gates.specs.Gates.{passing}
use Rattle.laws.specs.Volumes.{is_confirmed, from_giver, to_taker}
use Rattle.laws.specs.Laws.{agreed, Matches}
use Rattle.laws.proofs.Sums.{sum_changed, sum_added}
use Rattle.laws.proofs.Stands.{Words, counted, passed, Volume, AllFounded}

module _ {Q R : Type 0} (m : Measure Q R) where
  -- where both sides agree, the giver announced the amount that was announced last
  taker_says : (giving : Option R) (q : Q) → agreed (balance m giving (Some (m.row q))) ≡ true → m.amount q ≡ m.amount (passing m giving)
  taker_says giving q e = grind (arith, m.row_told q, m.alike_same)

  module _ (a : Announcement Q) (giver_there : a.passage.giver < 32) (taker_there : a.passage.taker < 32) where
    pub heard : (side : Side) (r : Request R) → a.passage.giver ≡ r.passage.giver → a.passage.taker ≡ r.passage.taker → a.passage.first ≡ r.passage.first → a.passage.last ≡ r.passage.last → Matches m a (spoken m side (m.row a.quantity) r)
    heard Giver r g t f l = record { passage = passages_equal a.passage r.passage (grind (arith, nat_tests)); giver_there = giver_there; taker_there = taker_there; quantity = λ e. sym (m.row_told a.quantity) }
    heard Taker r g t f l = record { passage = passages_equal a.passage r.passage (grind (arith, nat_tests)); giver_there = giver_there; taker_there = taker_there; quantity = taker_says r.giving a.quantity }

  -- one word more, at a place
  module _ (a : Announcement Q) (words new : Words Q) (place : ℕ) (says : (j : ℕ) → new j ≡ cond (eqb place j) (Some a) (words j)) where
    counted_else : (f : Option (Announcement Q) → m.Amount) (j : ℕ) (r : Request R) → (j ≡ place → ⊥) → counted m f new j r ≡ counted m f words j r
    counted_else f j r n = grind (arith, nat_tests, says j)

    -- the request at the place is heard
    module _ (xs : List (Request R)) (old y : Request R) (there : slice_get xs place ≡ Some old) (was : is_confirmed old.status ≡ false) (is : is_confirmed y.status ≡ false) where
      same_joined : (f : Option (Announcement Q) → m.Amount) → passed m f new (set xs place y) ≡ passed m f words xs
      same_joined f = sum_changed m (counted m f words) (counted m f new) place (counted_else f) place 0 (omega arith) xs old y there (grind arith)

      pub joined_volume : (awards : ℕ → ℕ → m.Amount) (grid : Grid m.Amount) → Volume m awards words grid xs → Volume m awards new grid (set xs place y)
      joined_volume awards grid v p t hp ht = rw (same_joined (from_giver m p t), same_joined (to_taker m p t)) (v p t hp ht)

      pub joined_founded : Matches m a y → AllFounded m words xs → AllFounded m new (set xs place y)
      joined_founded match founded j = grind (arith, nat_tests, common_steps, gets, says j, founded j)

    -- a request is added, at the next place
    module _ (xs : List (Request R)) (y : Request R) (next : place ≡ length xs) (is : is_confirmed y.status ≡ false) where
      same_added : (f : Option (Announcement Q) → m.Amount) → passed m f new (xs ++ (y ∷ [])) ≡ passed m f words xs
      same_added f = sum_added m (counted m f words) (counted m f new) place (counted_else f) 0 xs (omega arith) y (grind arith)

      pub added_volume : (awards : ℕ → ℕ → m.Amount) (grid : Grid m.Amount) → Volume m awards words grid xs → Volume m awards new grid (xs ++ (y ∷ []))
      added_volume awards grid v p t hp ht = rw (same_added (from_giver m p t), same_added (to_taker m p t)) (v p t hp ht)

      pub added_founded : Matches m a y → AllFounded m words xs → AllFounded m new (xs ++ (y ∷ []))
      added_founded match founded j = grind (arith, nat_tests, common_steps, gets, says j, founded j)
