-- The words of each refusal: its number, where it arose, and the layer's cause.
use Rattle.std.specs.Prelude.{ℕ, List, [], ◌++◌, codes, decimal}
use Rattle.book.specs.Texts.{cause_text}
use Rattle.refusals.specs.Numbers.{number}
use Rattle.refusals.specs.declared.refusal.Refusal.{Refusal}
use Rattle.refusals.specs.declared.refusal.Refusal.TheVariants.{NoSuchDayLength, NoSuchDayNumber, NotEmpty, NoSuchProvider, NoSuchSpan, SameProvider, ZeroQuantity, WrongPriceCount, PriceTooLarge, MinuteBeforeLast, TooLate, TooEarly, TooManyAwards, NoRequestToChange, NoPlaceInList, NoRemainder, SumDoesNotFit, NotAdmitted, NoFreePlace}

-- a provider and a quarter, before the rest
abbrev pub place_text : ℕ → ℕ → List ℕ → List ℕ
place_text p t rest = codes " provider " ++ (decimal p ++ (codes " quarter " ++ (decimal t ++ rest)))

-- what follows the number
abbrev pub details : Refusal → List ℕ
details NoSuchDayLength = []
details NoSuchDayNumber = []
details NotEmpty = []
details NoSuchProvider = []
details NoSuchSpan = []
details SameProvider = []
details ZeroQuantity = []
details WrongPriceCount = []
details PriceTooLarge = []
details MinuteBeforeLast = []
details TooLate = []
details TooEarly = []
details TooManyAwards = []
details NoRequestToChange = []
details NoPlaceInList = []
details (NoRemainder p t) = place_text p t []
details (SumDoesNotFit p t) = place_text p t []
details (NotAdmitted p t cause) = place_text p t (codes " " ++ cause_text cause)
details NoFreePlace = []

abbrev pub refusal_text : Refusal → List ℕ
refusal_text r = decimal (number r) ++ details r
