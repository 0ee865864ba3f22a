-- What a call of a script answers and changes, over the holdings, places and admission of a book.
use Rattle.std.specs.Prelude.{ℕ, ◌-◌, List, [], ◌∷◌, Some, None, Option, Ok, Err, Result}
use Rattle.quantity.specs.Measure.{Measure}
use Rattle.book.specs.Grid.{Grid, amounts, taken}
use Rattle.book.specs.Numbers.{refusal_number}
use Rattle.book.specs.Calls.{held_at, raise_refusal, lower_refusal, raised, lowered}
use Rattle.book.specs.Admissions.{Admission}
use Rattle.book.specs.declared.answers.BookRefusal.{BookRefusal}
use Rattle.refusals.specs.declared.refusal.Refusal.{Refusal}
use Rattle.refusals.specs.Numbers.{answer_number}
use Rattle.span_moves.specs.Moves.{move_refusal, move_after}
use Rattle.script.specs.declared.calls.Call.{Call}
use Rattle.script.specs.declared.calls.Call.TheVariants.{Raise, Lower, Move, Holding, Free}
use Rattle.script.specs.declared.calls.Answer.{Answer}
use Rattle.script.specs.declared.calls.Answer.TheVariants.{Raised, Lowered, Moved, Held, FreePlaces}
use Rattle.script.specs.declared.calls.NotDone.{NotDone}
use Rattle.script.specs.declared.calls.NotDone.TheVariants.{Book, Span}

-- an answer as a number with its values, and the quantity that it tells, if any
pub record Said (Q : Type 0) : Type 0 where
  pub numbers : List ℕ
  pub quantity : Option Q

-- the number of an answer: 0 and the kind for a call that was taken, else that of the refusal
abbrev pub said : {Q : Type 0} → Result (Answer Q) NotDone → Said Q
said (Ok Raised) = record { numbers = 0 ∷ (1 ∷ []); quantity = None }
said (Ok Lowered) = record { numbers = 0 ∷ (2 ∷ []); quantity = None }
said (Ok (Held q)) = record { numbers = 0 ∷ (3 ∷ []); quantity = Some q }
said (Ok (FreePlaces n)) = record { numbers = 0 ∷ (4 ∷ (n ∷ [])); quantity = None }
said (Ok Moved) = record { numbers = 0 ∷ (5 ∷ []); quantity = None }
said (Err (Span refusal)) = record { numbers = answer_number (Some refusal); quantity = None }
said (Err (Book refusal)) = record { numbers = refusal_number refusal; quantity = None }

-- a call of this kind that is refused, or taken
abbrev pub done : {Q : Type 0} → ℕ → Option BookRefusal → Said Q
done kind None = record { numbers = 0 ∷ (kind ∷ []); quantity = None }
done kind (Some refusal) = record { numbers = refusal_number refusal; quantity = None }

-- a move that is refused, or taken
abbrev pub done_move : {Q : Type 0} → Option Refusal → Said Q
done_move None = record { numbers = 0 ∷ (5 ∷ []); quantity = None }
done_move (Some refusal) = record { numbers = answer_number (Some refusal); quantity = None }

module _ {Q R : Type 0} (m : Measure Q R) (held : Grid Q) (places : ℕ) (admission : ℕ → ℕ → Q → Admission) where
  abbrev pub answered : Call Q → Said Q
  answered (Raise change) = done 1 (raise_refusal m held places admission change.provider change.quarter change.quantity)
  answered (Lower change) = done 2 (lower_refusal m held places change.provider change.quarter change.quantity)
  answered (Move passage q) = done_move (move_refusal m held places admission passage.giver passage.taker passage.first passage.last q)
  answered (Holding p t) = record { numbers = 0 ∷ (3 ∷ []); quantity = Some (held_at m held p t) }
  answered Free = record { numbers = 0 ∷ (4 ∷ ((places - taken m held) ∷ [])); quantity = None }

  abbrev pub after : Call Q → Grid m.Amount
  after (Raise change) = raised m held places admission change.provider change.quarter change.quantity
  after (Lower change) = lowered m held places change.provider change.quarter change.quantity
  after (Move passage q) = move_after m held places admission passage.giver passage.taker passage.first passage.last q
  after (Holding p t) = amounts m held
  after Free = amounts m held
