-- One more call of a run.
use Rattle.std.proofs.Common.{◌≡◌, ℕ, ◌+◌, ◌<◌, ◌≤◌, List, [], ◌∷◌, ◌++◌, length, get_or, take, set, sym, refl, ap, ◌∙◌, subst, arith}
use Rattle.std.proofs.lemmas.List.{take_more, take_more_set, length-take-le}
use Rattle.quantity.specs.Measure.{Measure}
use Rattle.day_calls.specs.Days.{DayState}
use Rattle.laws.specs.Laws.{Entry, Laws}
use Rattle.laws.proofs.Theorem.{begins}
use Rattle.bureau.specs.Calls.{LentCall}
use Rattle.bureau.specs.declared.calls.Reply.{Reply}
use Rattle.bureau.specs.Bureaus.{absent_day, BureauState, bureau_of, empty_bureau, Stepped}
use Rattle.bureau.specs.Runs.{Made, paired, history_of, Ran}
use Rattle.bureau.proofs.Days.{none_past}
use Rattle.bureau.proofs.Lawful.{stepped_keeps}

paired_more : {Q : Type 0} (cs : List (LentCall Q)) (rs : List (Reply Q)) (c : LentCall Q) (r : Reply Q) (made : List (Made Q)) → length cs ≡ length rs → paired (cs ++ (c ∷ [])) (rs ++ (r ∷ [])) made ≡ record { call = c; reply = r } ∷ paired cs rs made
paired_more [] [] c r made e = refl
paired_more [] (y ∷ ys) c r made e = absurd (omega arith)
paired_more (x ∷ xs) [] c r made e = absurd (omega arith)
paired_more (x ∷ xs) (y ∷ ys) c r made e = paired_more xs ys c r (record { call = x; reply = y } ∷ made) (omega arith)

-- the pairs of the first i calls, with one more
pub pairs_more : {Q : Type 0} (calls : List (LentCall Q)) (replies : List (Reply Q)) (i : ℕ) (c : LentCall Q) (r : Reply Q) → i < length calls → i < length replies → c ≡ get_or calls i c → paired (take (i + 1) calls) (take (i + 1) (set replies i r)) [] ≡ record { call = c; reply = r } ∷ paired (take i calls) (take i replies) []
pairs_more calls replies i c r h k e =
    (λ j. paired (take_more calls i c h j) (take_more_set replies i r k j) [])
    ∙ (ap (λ x. paired (take i calls ++ (x ∷ [])) (take i replies ++ (r ∷ [])) []) (sym e)
    ∙ paired_more (take i calls) (take i replies) c r [] (length-take-le i calls (omega arith) ∙ sym (length-take-le i replies (omega arith))))

module _ {Q R : Type 0} (m : Measure Q R) (tenths : Q → ℕ → ℕ) (directions : ℕ) where
  -- the law after a run is that of its whole history
  pub ran_law : (earlier : List (Entry Q)) (start now : BureauState Q R) (made : List (Made Q)) → Laws m tenths directions earlier start.days → Ran m tenths directions earlier start made now → Laws m tenths directions (history_of made ++ earlier) now.days
  ran_law earlier start now [] laws p = subst (λ (b : BureauState Q R). Laws m tenths directions earlier b.days) (sym p) laws
  ran_law earlier start now (x ∷ xs) laws p = p.3

  pub ran_more : (earlier : List (Entry Q)) (start was now : BureauState Q R) (made : List (Made Q)) (call : LentCall Q) (reply : Reply Q) → Laws m tenths directions earlier start.days → ((k : ℕ) → was.count ≤ k → was.days k ≡ absent_day m) → Ran m tenths directions earlier start made was → Stepped m tenths directions was call reply now → Ran m tenths directions earlier start (record { call = call; reply = reply } ∷ made) now
  ran_more earlier start was now made call reply laws absent p s = (was, p, s, stepped_keeps m tenths directions was now call reply absent s (history_of made ++ earlier) (ran_law earlier start was made laws p))

  -- the same of desks, by the calls and the replies
  pub desks_more : {D : Type 0} (state : D → DayState Q R) (earlier : List (Entry Q)) (start : BureauState Q R) (was now : List D) (calls : List (LentCall Q)) (replies : List (Reply Q)) (i : ℕ) (call : LentCall Q) (reply : Reply Q) → i < length calls → i < length replies → call ≡ get_or calls i call → Laws m tenths directions earlier start.days → Ran m tenths directions earlier start (paired (take i calls) (take i replies) []) (bureau_of m state was) → Stepped m tenths directions (bureau_of m state was) call reply (bureau_of m state now) → Ran m tenths directions earlier start (paired (take (i + 1) calls) (take (i + 1) (set replies i reply)) []) (bureau_of m state now)
  desks_more state earlier start was now calls replies i call reply a b at laws p s =
      subst (λ all. Ran m tenths directions earlier start all (bureau_of m state now)) (sym (pairs_more calls replies i call reply a b at))
      (ran_more earlier start (bureau_of m state was) (bureau_of m state now) (paired (take i calls) (take i replies) []) call reply laws (none_past m state was) p s)

  -- from a bureau without days nothing is presupposed
  pub ran_new : (start now : BureauState Q R) (made : List (Made Q)) → start ≡ empty_bureau m → ((h : List (Entry Q)) → Laws m tenths directions h start.days → Ran m tenths directions h start made now) → Ran m tenths directions [] (empty_bureau m) made now
  ran_new start now made e run = rw (← e) (run [] (begins m tenths directions start.days (λ d. ap (λ (b : BureauState Q R). (b.days d).stage) e)))
