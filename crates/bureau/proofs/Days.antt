-- Days by their handles: one that is changed, and one that is added.
use Rattle.std.proofs.Common.{◌≡◌, ℕ, ◌+◌, ◌<◌, ◌≤◌, Bool, true, false, nat_lt, cond, List, [], ◌∷◌, ◌++◌, map, length, get_or, set, refl, arith, length-set}
use mathlib.Core.Path.{fun_ext}
use lib.ListN.{length-map}
use Rattle.std.proofs.lemmas.Bool.{lt-ltb}
use Rattle.std.proofs.lemmas.Bool.Decides.{nat_tests}
use Rattle.std.proofs.lemmas.List.{map-set, map-append}
use Rattle.std.proofs.lemmas.Grind.{common_steps}
use Rattle.quantity.specs.Measure.{Measure}
use Rattle.day.specs.declared.opening.NewDay.{NewDay}
use Rattle.day_calls.specs.Calls.{LentDayCall}
use Rattle.day_calls.specs.declared.calls.DayCall.TheVariants.{Open as OpenDay}
use Rattle.day_calls.specs.Answers.{Outcome}
use Rattle.day_calls.specs.Days.{DayState}
use Rattle.laws.specs.Laws.{Performed, put_day}
use Rattle.bureau.specs.Fresh.{Fresh}
use Rattle.bureau.specs.Bureaus.{absent_day, bureau_of, is_opened, OpenedDay, Called}

module _ {D S : Type 0} (f : D → S) (none : S) (ds : List D) where
  -- the day at a handle that there is
  pub day_at : (d : ℕ) (x : D) → d < length ds → x ≡ get_or ds d x → get_or (map f ds) d none ≡ f x
  day_at d x h e = grind (arith, common_steps)

  -- one desk is changed
  pub day_changed : (d : ℕ) (w : D) → d < length ds → (λ k. get_or (map f (set ds d w)) k none) ≡ put_day (λ k. get_or (map f ds) k none) d (f w)
  unfolding put_day
  day_changed d w h = fun_ext (λ k. rw (map-set f ds d w) (let l = length-map ds f in grind (arith, nat_tests, common_steps)))

  -- one desk is added at the end, or none
  pub day_added : (kept : Bool) (w : D) → (λ k. get_or (map f (cond kept (ds ++ (w ∷ [])) ds)) k none) ≡ cond kept (put_day (λ k. get_or (map f ds) k none) (length ds) (f w)) (λ k. get_or (map f ds) k none)
  unfolding put_day
  day_added true w = fun_ext (λ k. rw (map-append f ds (w ∷ [])) (let l = length-map ds f in grind (arith, nat_tests, common_steps)))
  day_added false w = refl

  count_added : (kept : Bool) (w : D) → length (cond kept (ds ++ (w ∷ [])) ds) ≡ cond kept (length ds + 1) (length ds)
  count_added kept w = grind (arith, common_steps)

-- no day past the last handle
pub none_past : {D Q R : Type 0} (m : Measure Q R) (f : D → DayState Q R) (ds : List D) (k : ℕ) → length ds ≤ k → get_or (map f ds) k (absent_day m) ≡ absent_day m
none_past m f ds k h = let l = length-map ds f in grind (arith, common_steps)

module _ {D Q R : Type 0} {m : Measure Q R} {tenths : Q → ℕ → ℕ} {directions : ℕ} (state : D → DayState Q R) (desks : List D) where
  -- a call is made of the desk at a handle
  pub called : (day : ℕ) {was now : D} {call : LentDayCall Q} {answer : Outcome Q} → day < length desks → was ≡ get_or desks day was → Performed m tenths directions (state was) call answer (state now) → Called m tenths directions (nat_lt day (length desks)) (bureau_of m state desks) day call answer (bureau_of m state (set desks day now))
  called day {was} {now} {call} {answer} here at p =
      rw (lt-ltb day (length desks) here)
      (record {
        then = state now;
        performed = rw (day_at state (absent_day m) desks day was here at) p;
        days_are = day_changed state (absent_day m) desks day now here;
        count_stays = length-set desks day now;
      })

  -- a fresh desk is opened and kept, or refused and not kept
  pub opened : (kept : Bool) {supplied now : D} (after : List D) {new : NewDay} {answer : Outcome Q} → Fresh m (state supplied) → Performed m tenths directions (state supplied) (OpenDay new) answer (state now) → is_opened answer ≡ kept → after ≡ cond kept (desks ++ (now ∷ [])) desks → OpenedDay m tenths directions (bureau_of m state desks) new answer (bureau_of m state after)
  opened kept {supplied} {now} after fresh p answered items = record {
    supplied = state supplied;
    opened = state now;
    fresh = fresh;
    performed = p;
    days_are = rw (items, answered) (day_added state (absent_day m) desks kept now);
    count_is = rw (items, answered) (count_added state (absent_day m) desks kept now);
  }
