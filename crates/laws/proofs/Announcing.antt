-- What a taken announcement makes of the last words and of the requests: one request is heard, and no volume passes.
use Rattle.std.proofs.Common.{◌≡◌, ℕ, ◌<◌, Bool, true, cond, eqb, List, length, Some, None, Option, unwrap_or, refl, arith}
use Rattle.std.proofs.lemmas.Grind.{common_steps}
use Rattle.std.proofs.lemmas.Option.{gets}
use Rattle.std.specs.List.{position}
use Rattle.std.proofs.lemmas.Bool.Decides.{nat_tests}
use Rattle.quantity.specs.Measure.{Measure}
use Rattle.refusals.specs.declared.refusal.Refusal.{Refusal}
use Rattle.refusals.proofs.Firsts.{front_clear, front_passes}
use Rattle.requests.specs.declared.request.Request.{Request}
use Rattle.requests.specs.declared.finding.Joining.{Joining}
use Rattle.requests.specs.declared.finding.Joining.TheVariants.{Unresolved, NotBalanced}
use Rattle.requests.specs.Requests.{same_passage, matching, spoken}
use Rattle.requests.specs.Announcing.{unspoken, has_place, refusal_of, list_of, announcement_refusal, announcement_place, announcement_list}
use Rattle.requests.proofs.Places.{place_holds}
use Rattle.day.specs.declared.stages.Day.{Day}
use Rattle.requests.specs.declared.announcement.Announcement.{Announcement}
use Rattle.day.specs.Announcing.{outline_refusal, announce_refusal, announced_list}
use Rattle.laws.specs.Laws.{Matches}
use Rattle.laws.proofs.Sums.{sum_changed, sum_added}
use Rattle.laws.proofs.Stands.{Words, counted, passed, AllFounded}

-- an announcement, by the list and the last words before it
module _ {Q R : Type 0} (m : Measure Q R) (joining : Joining) (a : Announcement Q) (xs : List (Request R)) (room : ℕ) (words new : Words Q) where
  abbrev test : Request R → Bool
  test = matching joining a.passage

  abbrev change : Request R → Request R
  change = spoken m a.side (m.row a.quantity)

  -- one word more, at a place
  abbrev Says : ℕ → Type 0
  Says place = (j : ℕ) → new j ≡ cond (eqb place j) (Some a) (words j)

  -- what follows for a list: its requests are founded by the new words, and what passed is what passed before
  abbrev pub Goes : List (Request R) → Type 0
  Goes ys = AllFounded m new ys × ((f : Option (Announcement Q) → m.Amount) → passed m f new ys ≡ passed m f words xs)

  -- a request that was heard says what was announced: where both sides agree, the giver announced the amount that was announced last
  heard : a.passage.giver < 32 → a.passage.taker < 32 → (r : Request R) → same_passage r.passage a.passage ≡ true → Matches m a (change r)
  heard g t r e = grind (arith, nat_tests, m.row_told, m.alike_same)

  goes_by : a.passage.giver < 32 → a.passage.taker < 32 → AllFounded m words xs → (j : Joining) (o : Option ℕ) → position test xs ≡ o → refusal_of j xs room o ≡ None → Says (unwrap_or o (length xs)) → Goes (list_of j xs room change (change (unspoken a.passage)) o)
  goes_by g t founded j (Some k) e f says =
      let w = place_holds test xs k e in
      let says_so = heard g t w.0 (grind arith) in
      rw w.1 (
        λ j. grind (arith, nat_tests, common_steps, gets, says j, founded j),
        λ f. sum_changed m (counted m f words) (counted m f new) k (λ j r n. grind (arith, nat_tests, says j)) k 0 (omega arith) xs w.0 (change w.0) w.1 (grind (arith, nat_tests, common_steps)),
      )
  goes_by g t founded Unresolved None e f says =
      let here : has_place xs room ≡ true = grind arith in
      let says_so = heard g t (unspoken a.passage) (grind (arith, nat_tests)) in
      rw here (
        λ j. grind (arith, nat_tests, common_steps, gets, says j, founded j),
        λ f. sum_added m (counted m f words) (counted m f new) (length xs) (λ j r n. grind (arith, nat_tests, says j)) 0 xs (omega arith) (change (unspoken a.passage)) (grind (arith, nat_tests, common_steps)),
      )
  goes_by g t founded NotBalanced None e f says = cc

  pub goes : (day : Day) → announce_refusal m day joining a xs room ≡ None → Says (announcement_place joining xs a.passage) → AllFounded m words xs → Goes (announced_list m day joining a xs room)
  unfolding announce_refusal announced_list announcement_refusal announcement_place announcement_list
  goes day e says founded =
      let clear : outline_refusal m day joining a ≡ None = grind (arith, front_clear) in
      let there : (a.passage.giver < 32) × (a.passage.taker < 32) = grind (arith, nat_tests) in
      rw clear (goes_by there.0 there.1 founded joining (position test xs) refl (grind (arith, front_passes)) says)

-- a refused one leaves the list
pub stays : {Q R : Type 0} (m : Measure Q R) (joining : Joining) (a : Announcement Q) (xs : List (Request R)) (room : ℕ) (day : Day) (r : Refusal) → announce_refusal m day joining a xs room ≡ Some r → announced_list m day joining a xs room ≡ xs
unfolding announce_refusal announced_list announcement_refusal announcement_list
stays m joining a xs room day r e = grind (arith, nat_tests, common_steps, front_passes)
