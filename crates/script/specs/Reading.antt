-- Which service or switch a word tells: the one whose word it is, and no other word tells one.
use Rattle.std.specs.Prelude.{◌≡◌, ℕ, List, Ok, Err, Result, ◌≢◌}
use Rattle.script.specs.declared.malformed.Malformed.{Malformed}
use Rattle.script.specs.declared.malformed.Malformed.TheVariants.{UnknownService, NotOnOff}
use Rattle.script.specs.declared.settings.Service.{Service}
use Rattle.script.specs.declared.settings.Switch.{Switch}
use Rattle.script.specs.Texts.{service_text, switch_text}

-- a word that tells the value whose word it is, and otherwise is told as this fault
abbrev pub Reads : {V : Type 0} → (V → List ℕ) → Malformed → List ℕ → Result V Malformed → Type 0
Reads text unknown word (Ok value) = word ≡ text value
Reads {V = V} text unknown word (Err fault) = (fault ≡ unknown) × ((value : V) → word ≢ text value)

abbrev pub ReadsService : List ℕ → Result Service Malformed → Type 0
ReadsService = Reads service_text UnknownService

abbrev pub ReadsSwitch : List ℕ → Result Switch Malformed → Type 0
ReadsSwitch = Reads switch_text NotOnOff
