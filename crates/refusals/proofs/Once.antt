-- Refusals of one number with its values are one.
use Rattle.std.proofs.Common.{◌≡◌, ℕ, List, [], ◌∷◌, get_or, drop, Some, None, Option, sym, refl, ap, ◌∙◌}
use Rattle.book.proofs.Told.{cause_of, cause_again}
use Rattle.refusals.specs.Numbers.{refusal_number, answer_number}
use Rattle.refusals.specs.declared.refusal.Refusal.{Refusal}
use Rattle.refusals.specs.declared.refusal.Refusal.TheVariants.{NoSuchDayLength, NoSuchDayNumber, NotEmpty, NoSuchProvider, NoSuchSpan, SameProvider, ZeroQuantity, WrongPriceCount, PriceTooLarge, MinuteBeforeLast, TooLate, TooEarly, TooManyAwards, NoRequestToChange, NoPlaceInList, NoRemainder, SumDoesNotFit, NotAdmitted, NoFreePlace}

-- every answer with these values, in the order of the numbers
answers : ℕ → ℕ → List ℕ → List (Option Refusal)
answers p t cause =
    None
    ∷ (Some NoSuchDayLength
    ∷ (Some NoSuchDayNumber
    ∷ (Some NotEmpty
    ∷ (Some NoSuchProvider
    ∷ (Some NoSuchSpan
    ∷ (Some SameProvider
    ∷ (Some ZeroQuantity
    ∷ (Some WrongPriceCount
    ∷ (Some PriceTooLarge
    ∷ (Some MinuteBeforeLast
    ∷ (Some TooLate
    ∷ (Some TooEarly
    ∷ (Some TooManyAwards
    ∷ (Some NoRequestToChange
    ∷ (Some NoPlaceInList
    ∷ (Some (NoRemainder p t) ∷ (Some (SumDoesNotFit p t) ∷ (Some (NotAdmitted p t (cause_of cause)) ∷ (Some NoFreePlace ∷ [])))))))))))))))))))

-- the answer that a number with its values tells
answer_of : List ℕ → Option Refusal
answer_of xs = get_or (answers (get_or xs 1 0) (get_or xs 2 0) (drop 3 xs)) (get_or xs 0 0) None

answer_again : (o : Option Refusal) → answer_of (answer_number o) ≡ o
unfolding answer_of answers
answer_again None = refl
answer_again (Some NoSuchDayLength) = refl
answer_again (Some NoSuchDayNumber) = refl
answer_again (Some NotEmpty) = refl
answer_again (Some NoSuchProvider) = refl
answer_again (Some NoSuchSpan) = refl
answer_again (Some SameProvider) = refl
answer_again (Some ZeroQuantity) = refl
answer_again (Some WrongPriceCount) = refl
answer_again (Some PriceTooLarge) = refl
answer_again (Some MinuteBeforeLast) = refl
answer_again (Some TooLate) = refl
answer_again (Some TooEarly) = refl
answer_again (Some TooManyAwards) = refl
answer_again (Some NoRequestToChange) = refl
answer_again (Some NoPlaceInList) = refl
answer_again (Some (NoRemainder p t)) = refl
answer_again (Some (SumDoesNotFit p t)) = refl
answer_again (Some (NotAdmitted p t cause)) = ap (λ c. Some (NotAdmitted p t c)) (cause_again cause)
answer_again (Some NoFreePlace) = refl

pub answer_once : (o p : Option Refusal) → answer_number o ≡ answer_number p → o ≡ p
answer_once o p e = sym (answer_again o) ∙ (ap answer_of e ∙ answer_again p)

pub refusal_once : (r s : Refusal) → refusal_number r ≡ refusal_number s → r ≡ s
refusal_once r s e = let h = answer_once (Some r) (Some s) e in cc
