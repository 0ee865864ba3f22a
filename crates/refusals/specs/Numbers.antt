-- The number of each refusal, followed by its values.
use Rattle.std.specs.Prelude.{ℕ, List, [], ◌∷◌, Some, None, Option}
use Rattle.book.specs.Numbers.{cause_number}
use Rattle.refusals.specs.declared.refusal.Refusal.{Refusal}
use Rattle.refusals.specs.declared.refusal.Refusal.TheVariants.{NoSuchDayLength, NoSuchDayNumber, NotEmpty, NoSuchProvider, NoSuchSpan, SameProvider, ZeroQuantity, WrongPriceCount, PriceTooLarge, MinuteBeforeLast, TooLate, TooEarly, TooManyAwards, NoRequestToChange, NoPlaceInList, NoRemainder, SumDoesNotFit, NotAdmitted, NoFreePlace}

-- the number alone
abbrev pub number : Refusal → ℕ
number NoSuchDayLength = 1
number NoSuchDayNumber = 2
number NotEmpty = 3
number NoSuchProvider = 4
number NoSuchSpan = 5
number SameProvider = 6
number ZeroQuantity = 7
number WrongPriceCount = 8
number PriceTooLarge = 9
number MinuteBeforeLast = 10
number TooLate = 11
number TooEarly = 12
number TooManyAwards = 13
number NoRequestToChange = 14
number NoPlaceInList = 15
number (NoRemainder p t) = 16
number (SumDoesNotFit p t) = 17
number (NotAdmitted p t cause) = 18
number NoFreePlace = 19

-- the provider and the quarter, and the layer's cause
abbrev pub values : Refusal → List ℕ
values NoSuchDayLength = []
values NoSuchDayNumber = []
values NotEmpty = []
values NoSuchProvider = []
values NoSuchSpan = []
values SameProvider = []
values ZeroQuantity = []
values WrongPriceCount = []
values PriceTooLarge = []
values MinuteBeforeLast = []
values TooLate = []
values TooEarly = []
values TooManyAwards = []
values NoRequestToChange = []
values NoPlaceInList = []
values (NoRemainder p t) = p ∷ (t ∷ [])
values (SumDoesNotFit p t) = p ∷ (t ∷ [])
values (NotAdmitted p t cause) = p ∷ (t ∷ cause_number cause)
values NoFreePlace = []

abbrev pub refusal_number : Refusal → List ℕ
refusal_number r = number r ∷ values r

-- 0 where nothing is refused
abbrev pub answer_number : Option Refusal → List ℕ
answer_number None = 0 ∷ []
answer_number (Some r) = refusal_number r
