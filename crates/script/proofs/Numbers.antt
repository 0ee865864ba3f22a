-- A word that is a number is parsed as that number.
use Rattle.std.proofs.Common.{◌≡◌, ℕ, List, [], ◌∷◌, Ok, Err, Result, IfOk, OnOk}
use Rattle.std.specs.Str.Parse.{AllDigits, IsNumeral, digits_value, ParsesUnsigned}
use Rattle.std.proofs.lemmas.Str.Parse.{IsNumeralModel, tells_digits, numerals_by_value, parse_digits}
use Rattle.script.specs.Lines.{NumberWords}
use Rattle.script.specs.Words.{TakesWords}

decimals : IsNumeralModel (AllDigits 10) (digits_value 10)
decimals = numerals_by_value _ tells_digits

pub parsed_number : (k : ℕ) (word : List ℕ) (n : ℕ) → ParsesUnsigned {E = ℕ} k 10 word (Ok n) → IsNumeral 10 word → n ≡ digits_value 10 word
parsed_number k word n told is =
    let r : Result ℕ ℕ = Ok n in
    (parse_digits decimals k word r told is.1).1

-- the same of a number that is returned, with its word taken off a text
pub number_words : {F : Type 0} (k : ℕ) (text word rest : List ℕ) (r : Result ℕ F) (Told : ℕ → Type 0) → ((n : ℕ) → Told n → ParsesUnsigned {E = ℕ} k 10 word (Ok n)) → IfOk r Told → OnOk r (IsNumeral 10 word) → TakesWords text (word ∷ []) rest → IfOk r (NumberWords (λ words. TakesWords text words rest))
number_words k text word rest (Ok n) Told parsed told is taken = (word, (is, parsed_number k word n (parsed n told) is), taken)
number_words k text word rest (Err fault) Told parsed told is taken = told
