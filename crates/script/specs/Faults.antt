-- What is wrong with a line: its words, and the fault of a quantity.
use Rattle.std.specs.Prelude.{ℕ, List, codes}
use Rattle.quantity.specs.declared.reading.QuantityFault.{QuantityFault}
use Rattle.quantity.specs.declared.reading.QuantityFault.TheVariants.{WrongDirections as OtherDirections, NotANumber as NoNumber, TooLarge}
use Rattle.script.specs.declared.malformed.Malformed.{Malformed}
use Rattle.script.specs.declared.malformed.Malformed.TheVariants.{ServiceFirst, ServiceAgain, BooksOpen, UnknownService, UnknownBooks, NotOnOff, UnknownDirection, UnknownWord, WordMissing, WordTooMany, NotANumber, NumberTooLarge, PlacesTooMany, LimitTooLarge, QuantityTooLarge, WrongDirections}

abbrev pub malformed_text : Malformed → List ℕ
malformed_text ServiceFirst = codes "the service comes first: service fcr or service afrr"
malformed_text ServiceAgain = codes "the service is chosen already"
malformed_text BooksOpen = codes "books and limits are chosen before the first call"
malformed_text UnknownService = codes "the service is fcr or afrr"
malformed_text UnknownBooks = codes "books are full, or sparse with a number of places"
malformed_text NotOnOff = codes "limits are on or off"
malformed_text UnknownDirection = codes "a direction is up or down"
malformed_text UnknownWord = codes "the first word is no call"
malformed_text WordMissing = codes "a word is missing"
malformed_text WordTooMany = codes "there is a word too many"
malformed_text NotANumber = codes "a number is written in digits alone"
malformed_text NumberTooLarge = codes "providers and quarters are written 0 to 255"
malformed_text PlacesTooMany = codes "a sparse book has at most 65535 places"
malformed_text LimitTooLarge = codes "a limit is at most 4294967295 tenths"
malformed_text QuantityTooLarge = codes "no quantity has more than 10000 tenths in a direction"
malformed_text WrongDirections = codes "a quantity is written 100 in fcr and 40/20 (up/down) in afrr"

-- a fault of a quantity as that of its line
abbrev pub quantity_fault : QuantityFault → Malformed
quantity_fault OtherDirections = WrongDirections
quantity_fault NoNumber = NotANumber
quantity_fault TooLarge = QuantityTooLarge
