-- The words of a line, and what they take off the front of a text.
use Rattle.std.specs.Prelude.{◌≡◌, ℕ, ◌<◌, List, [], ◌∷◌, ◌++◌, length, ◌==◌}
use Rattle.std.specs.Char.{is_whitespace, is_not_whitespace}
use Rattle.std.specs.List.{before_first}
use Rattle.std.specs.Str.Iter.{split_whitespace_rest}
use Rattle.std.specs.declared.str.SplitWhitespace.{SplitWhitespace}
use Rattle.std.specs.Str.{NoCharPasses, EmptyOrStartsWithPassing}

-- a text is white space, a word, and the rest, which is empty or begins with white space
pub record StartsWithWord (text word rest : List ℕ) : Type 0 where
  pub gap : List ℕ
  pub parts : text ≡ gap ++ (word ++ rest)
  pub nonempty : 0 < length word
  pub gap_is_blank : NoCharPasses is_not_whitespace gap
  pub word_has_no_space : NoCharPasses is_whitespace word
  pub rest_starts_blank : (more : List ℕ) × EmptyOrStartsWithPassing is_whitespace rest more

-- a text is these words with white space between and around them
abbrev pub HasWords : List ℕ → List (List ℕ) → Type 0
HasWords text [] = NoCharPasses is_not_whitespace text
HasWords text (word ∷ words) = (rest : List ℕ) × StartsWithWord text word rest × HasWords rest words

-- the words of a text are these, and then those of the rest
pub record TakesWords (text : List ℕ) (words : List (List ℕ)) (rest : List ℕ) : Type 0 where
  pub before : (more : List (List ℕ)) → HasWords rest more → HasWords text (words ++ more)

-- the same of an iterator over words, before and after
abbrev pub Takes : SplitWhitespace → SplitWhitespace → List (List ℕ) → Type 0
Takes old new words = TakesWords (split_whitespace_rest old) words (split_whitespace_rest new)

-- the text before the first #
abbrev pub before_comment : List ℕ → List ℕ
before_comment line = before_first (λ b. b == 35) line
