use Rattle.std.proofs.Common.{rules, tests, sym, ◌∙◌, ◌≡◌, ◌↔◌, ◌<◌, IsTrue, ℕ, Bool, true, List, length}
use Rattle.std.specs.Char.{is_ascii_digit}
use Rattle.std.specs.List.{list_all}
use Rattle.std.specs.Str.Parse.{IsNumeral, digits_value}
use Rattle.std.proofs.lemmas.Iterator.Adapters.{YieldsList-from_bytes}
use Rattle.std.proofs.lemmas.Iterator.Search.{all_from_yields_List}
use Rattle.std.proofs.lemmas.Str.Parse.{IsNumeralModel, numerals_by_value}
use Rattle.quantity.proofs.reading.is_number.Goals as goal

digits : IsNumeralModel (λ ds. list_all is_ascii_digit ds ≡ true) (digits_value 10)
digits = numerals_by_value _ (search rules)

-- a word of a byte or more is a number just where each byte is a digit
numeral : (r : Bool) (word : List ℕ) → r ≡ list_all is_ascii_digit word → 0 < length word → IsTrue r ↔ IsNumeral 10 word
numeral r word e long = (λ t. (long, digits.to word (sym e ∙ t)), λ n. e ∙ digits.from word n.1)

pub returns-then-not-is_empty : goal.returns-then-not-is_empty
returns-then-not-is_empty c =
    let word = c.args.word.now in
    numeral _ word (all_from_yields_List is_ascii_digit _ _ c.all.result c.all.ensures.ran (YieldsList-from_bytes word cc) (λ x b q k. search (rules, tests))) (search rules)
