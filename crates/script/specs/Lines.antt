-- Which words of a line tell a call or a setting. Each P below is to hold of some words that do.
use Rattle.std.specs.Prelude.{◌≡◌, ℕ, List, [], ◌∷◌, ◌++◌, codes, Ok, Result, ◌⊎◌}
use Rattle.quantity.specs.Directions.{text as direction_text}
use Rattle.quantity.specs.Written.{Writes}
use Rattle.quantity.specs.declared.reading.QuantityFault.{QuantityFault}
use Rattle.refusals.specs.declared.passage.Passage.{Passage}
use Rattle.script.specs.declared.calls.HoldingChange.{HoldingChange}
use Rattle.script.specs.declared.calls.Call.{Call}
use Rattle.script.specs.declared.calls.Call.TheVariants.{Raise, Lower, Move, Holding, Free}
use Rattle.script.specs.declared.settings.Bottom.TheVariants.{Full, Sparse}
use Rattle.script.specs.declared.settings.Setting.{Setting}
use Rattle.script.specs.declared.settings.Setting.TheVariants.{Service, Books, Limits, Limit}
use Rattle.script.specs.declared.settings.Line.{Line}
use Rattle.script.specs.declared.settings.Line.TheVariants.{Blank, Setting as OfSetting, Call as OfCall}
use Rattle.script.specs.Texts.{service_text, switch_text}
use Rattle.script.specs.Words.{StartsWithWord, HasWords, before_comment}

abbrev pub Words : Type 0
Words = List (List ℕ)

-- the first word of a call, and of a setting
abbrev pub call_word : {Q : Type 0} → Call Q → List ℕ
call_word (Raise change) = codes "raise"
call_word (Lower change) = codes "lower"
call_word (Move passage quantity) = codes "move"
call_word (Holding p t) = codes "holding"
call_word Free = codes "free"

abbrev pub setting_word : Setting → List ℕ
setting_word (Service service) = codes "service"
setting_word (Books bottom) = codes "books"
setting_word (Limits switch) = codes "limits"
setting_word (Limit p d t) = codes "limit"

module _ (P : Words → Type 0) where
  -- a number alone
  abbrev pub NumberWords : ℕ → Type 0
  NumberWords n = (word : List ℕ) × Writes word n × P (word ∷ [])

  -- a passage: giver, taker, first and last quarter
  abbrev pub PassageWords : Passage → Type 0
  PassageWords passage = (giver : List ℕ) × (taker : List ℕ) × (first : List ℕ) × (last : List ℕ)
      × Writes giver passage.giver × Writes taker passage.taker × Writes first passage.first × Writes last passage.last
      × P (giver ∷ taker ∷ first ∷ last ∷ [])

  -- a setting, after its first word
  abbrev pub SettingWords : Setting → Type 0
  SettingWords (Service service) = P (service_text service ∷ [])
  SettingWords (Books Full) = P (codes "full" ∷ [])
  SettingWords (Books (Sparse n)) = (places : List ℕ) × Writes places n × P (codes "sparse" ∷ places ∷ [])
  SettingWords (Limits switch) = P (switch_text switch ∷ [])
  SettingWords (Limit p d t) = (provider : List ℕ) × (tenths : List ℕ) × Writes provider p × Writes tenths t × P (provider ∷ direction_text d ∷ tenths ∷ [])

-- Reads says what a word may be read as where a quantity stands
module _ {Q : Type 0} (Reads : List ℕ → Result Q QuantityFault → Type 0) (P : Words → Type 0) where
  -- a change: provider, quarter and quantity
  abbrev pub ChangeWords : HoldingChange Q → Type 0
  ChangeWords change = (provider : List ℕ) × (quarter : List ℕ) × (quantity : List ℕ)
      × Writes provider change.provider × Writes quarter change.quarter × Reads quantity (Ok change.quantity)
      × P (provider ∷ quarter ∷ quantity ∷ [])

  -- a call, after its first word
  abbrev pub CallWords : Call Q → Type 0
  CallWords (Raise change) = ChangeWords change
  CallWords (Lower change) = ChangeWords change
  CallWords (Move passage quantity) = (word : List ℕ) × Reads word (Ok quantity) × PassageWords (λ words. P (words ++ (word ∷ []))) passage
  CallWords (Holding p t) = (provider : List ℕ) × (quarter : List ℕ) × Writes provider p × Writes quarter t × P (provider ∷ quarter ∷ [])
  CallWords Free = P []

-- the words of a line up to its comment tell this call
abbrev pub TellsCall : {Q : Type 0} → (List ℕ → Result Q QuantityFault → Type 0) → List ℕ → Call Q → Type 0
TellsCall Reads line call = CallWords Reads (λ words. HasWords (before_comment line) (call_word call ∷ words)) call

abbrev pub IsCallWord : List ℕ → Type 0
IsCallWord word = (word ≡ codes "raise") ⊎ ((word ≡ codes "lower") ⊎ ((word ≡ codes "move") ⊎ ((word ≡ codes "holding") ⊎ (word ≡ codes "free"))))

-- what a line is: of a call only the first word is read
abbrev pub TellsLine : List ℕ → Line → Type 0
TellsLine line Blank = HasWords (before_comment line) []
TellsLine line (OfSetting setting) = SettingWords (λ words. HasWords (before_comment line) (setting_word setting ∷ words)) setting
TellsLine line OfCall = (word : List ℕ) × (rest : List ℕ) × IsCallWord word × StartsWithWord (before_comment line) word rest
