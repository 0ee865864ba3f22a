-- The theorem: a call that is performed as defined keeps the law of every bureau of which its day is part.
use Rattle.std.proofs.Common.{◌≡◌, ℕ, eqb, List, [], ◌∷◌, sym, refl, arith}
use Rattle.std.proofs.lemmas.Bool.{cond_both, eqb-true, eqb-false}
use Rattle.std.proofs.lemmas.Bool.Decides.{nat_tests}
use Rattle.quantity.specs.Measure.{Measure}
use Rattle.book.specs.Grid.{amounts}
use Rattle.day_calls.specs.Calls.{LentDayCall}
use Rattle.day_calls.specs.declared.desk.Stage.TheVariants.{Unopened}
use Rattle.day_calls.specs.Answers.{Outcome}
use Rattle.day_calls.specs.Days.{DayState}
use Rattle.laws.specs.Volumes.{Event}
use Rattle.laws.specs.Laws.{Entry, of_day, put_day, DayLaw, Performed, Laws, Kept}
use Rattle.laws.proofs.Stands.{stands, nothing_yet}
use Rattle.laws.proofs.Together.{law_stands}
use Rattle.laws.proofs.Keeping.{keeps}

-- the days with another one in the place of d, there and elsewhere
module _ {D : Type 0} (days : ℕ → D) (d : ℕ) (s : D) where
  pub put_here : (k : ℕ) → k ≡ d → put_day days d s k ≡ s
  unfolding put_day
  put_here k q = grind (arith, nat_tests)

  pub put_else : (k : ℕ) → (k ≡ d → ⊥) → put_day days d s k ≡ days k
  unfolding put_day
  put_else k n = grind (arith, nat_tests)

module _ {Q R : Type 0} (m : Measure Q R) (tenths : Q → ℕ → ℕ) (directions : ℕ) where
  -- the law of the day itself
  pub day_kept : (before after : DayState Q R) (call : LentDayCall Q) (answer : Outcome Q) → Performed m tenths directions before call answer after → (h : List (Event Q)) → DayLaw m tenths directions h before → DayLaw m tenths directions (record { call = call; answer = answer } ∷ h) after
  day_kept before after call answer p h law =
      law_stands m tenths directions _ after (rw (p.stage_is, p.held_is, p.requests_is, p.sheet_is) (keeps m tenths directions before h answer call before.stage (stands m tenths directions h before law) p.answer_is))

  -- the law of all days, where one event is of day d and the other days stay
  pub by_day : (d : ℕ) (e : Event Q) (days after : ℕ → DayState Q R) (h : List (Entry Q)) → Laws m tenths directions h days → ((k : ℕ) → (k ≡ d → ⊥) → after k ≡ days k) → DayLaw m tenths directions (e ∷ of_day d h) (after d) → Laws m tenths directions (record { day = d; event = e } ∷ h) after
  unfolding of_day
  by_day d e days after h laws others here k =
      cond_both (eqb d k) (e ∷ of_day k h) (of_day k h) (λ l. DayLaw m tenths directions l (after k)) (λ p. rw (eqb-true d k p) at here) (λ n. rw (others k (λ q. eqb-false d k n (sym q))) (laws k))

  pub kept : Kept m tenths directions
  kept before after call answer p d days h is laws =
      by_day d (record { call = call; answer = answer }) days (put_day days d after) h laws (put_else days d after)
      (rw (put_here days d after d refl) (day_kept before after call answer p (of_day d h) (rw is at (laws d))))

  -- before the first call: days that are not opened
  pub begins : (days : ℕ → DayState Q R) → ((d : ℕ) → (days d).stage ≡ Unopened) → Laws m tenths directions [] days
  unfolding of_day
  begins days unopened d = law_stands m tenths directions [] (days d) (rw (unopened d) (nothing_yet m tenths directions (amounts m (days d).held) (days d).requests (days d).sheet))
