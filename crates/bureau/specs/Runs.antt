-- A run: calls that are made one after the other, each with its reply.
use Rattle.std.specs.Prelude.{◌≡◌, ℕ, List, [], ◌∷◌, ◌++◌}
use Rattle.quantity.specs.Measure.{Measure}
use Rattle.laws.specs.Laws.{Entry, Laws}
use Rattle.bureau.specs.Calls.{LentCall}
use Rattle.bureau.specs.declared.calls.Reply.{Reply}
use Rattle.bureau.specs.Bureaus.{BureauState, entry_of, Stepped}

-- a call with its reply
pub record Made (Q : Type 0) : Type 0 where
  pub call : LentCall Q
  pub reply : Reply Q

-- the calls paired with their replies, the newest first, before what was made already
abbrev pub paired : {Q : Type 0} → List (LentCall Q) → List (Reply Q) → List (Made Q) → List (Made Q)
paired [] rs made = made
paired (c ∷ cs) [] made = made
paired (c ∷ cs) (r ∷ rs) made = paired cs rs (record { call = c; reply = r } ∷ made)

-- the history of what was made
abbrev pub history_of : {Q : Type 0} → List (Made Q) → List (Entry Q)
history_of [] = []
history_of (x ∷ xs) = entry_of x.call x.reply ∷ history_of xs

module _ {Q R : Type 0} (m : Measure Q R) (tenths : Q → ℕ → ℕ) (directions : ℕ) where
  -- every call, made of the state that those before it left, answered and changed what is defined;
  -- and the law held after it, of the whole history up to it, which goes on from an earlier one
  abbrev pub Ran : List (Entry Q) → BureauState Q R → List (Made Q) → BureauState Q R → Type 0
  Ran earlier start [] now = now ≡ start
  Ran earlier start (x ∷ xs) now =
      (was : BureauState Q R) × Ran earlier start xs was × Stepped m tenths directions was x.call x.reply now × Laws m tenths directions (history_of (x ∷ xs) ++ earlier) now.days
