-- Words that are taken off a text one after another.
use Rattle.std.proofs.Common.{◌≡◌, ℕ, List, [], ◌∷◌, ◌++◌, Ok, Err, Result, IfOk, append-nil, append_assoc, sym, subst}
use Rattle.quantity.specs.declared.reading.QuantityFault.{QuantityFault}
use Rattle.script.specs.declared.calls.Call.{Call}
use Rattle.script.specs.declared.calls.Call.TheVariants.{Raise, Lower, Move, Holding, Free}
use Rattle.script.specs.declared.settings.Bottom.TheVariants.{Full, Sparse}
use Rattle.script.specs.declared.settings.Setting.{Setting}
use Rattle.script.specs.declared.settings.Setting.TheVariants.{Service, Books, Limits, Limit}
use Rattle.script.specs.declared.settings.Line.TheVariants.{Setting as OfSetting}
use Rattle.script.specs.Lines.{Words, CallWords, SettingWords, call_word, setting_word, TellsCall, TellsLine}
use Rattle.script.specs.Words.{HasWords, TakesWords, before_comment}

-- words, and then more words
pub taken_then : {text first next later rest : _} → TakesWords text first next → TakesWords next later rest → TakesWords text (first ++ later) rest
taken_then {text} {first} {later = later} one two = record { before = λ more has. subst (HasWords text) (sym (append_assoc first later more)) (one.before (later ++ more) (two.before more has)) }

-- words, and then nothing but white space
pub has_taken : {text words rest : _} → TakesWords text words rest → HasWords rest [] → HasWords text words
has_taken {text} {words} taken none = subst (HasWords text) (append-nil words) (taken.before [] none)

module _ {P R : Words → Type 0} (more : (words : Words) → P words → R words) where
  pub call_words : {Q : Type 0} (Reads : List ℕ → Result Q QuantityFault → Type 0) (call : Call Q) → CallWords Reads P call → CallWords Reads R call
  call_words Reads (Raise change) w = (w.0, w.1, w.2, w.3, w.4, w.5, more _ w.6)
  call_words Reads (Lower change) w = (w.0, w.1, w.2, w.3, w.4, w.5, more _ w.6)
  call_words Reads (Move passage quantity) w = (w.0, w.1, (w.2.0, w.2.1, w.2.2, w.2.3, w.2.4, w.2.5, w.2.6, w.2.7, more _ w.2.8))
  call_words Reads (Holding p t) w = (w.0, w.1, w.2, w.3, more _ w.4)
  call_words Reads Free w = more _ w

  pub setting_words : (setting : Setting) → SettingWords P setting → SettingWords R setting
  setting_words (Service service) w = more _ w
  setting_words (Books Full) w = more _ w
  setting_words (Books (Sparse n)) w = (w.0, w.1, more _ w.2)
  setting_words (Limits switch) w = more _ w
  setting_words (Limit p d t) w = (w.0, w.1, w.2, w.3, more _ w.4)

-- a call after its first word
pub call_after_word : {Q F : Type 0} (Reads : List ℕ → Result Q QuantityFault → Type 0) (text word next rest : List ℕ) (r : Result (Call Q) F) → IfOk r (λ call. (call_word call ≡ word) × CallWords Reads (λ taken. TakesWords next taken rest) call) → TakesWords text (word ∷ []) next → IfOk r (λ call. CallWords Reads (λ taken. TakesWords text (call_word call ∷ taken) rest) call)
call_after_word Reads text word next rest (Ok call) told first =
    call_words (λ words later. subst (λ w. TakesWords text (w ∷ words) rest) (sym told.0) (taken_then first later)) Reads call told.1
call_after_word Reads text word next rest (Err fault) told first = told

-- a whole line whose text was taken word by word
pub call_taken : {Q : Type 0} (Reads : List ℕ → Result Q QuantityFault → Type 0) (line text rest : List ℕ) (call : Call Q) → text ≡ before_comment line → CallWords Reads (λ taken. TakesWords text (call_word call ∷ taken) rest) call → HasWords rest [] → TellsCall Reads line call
call_taken Reads line text rest call is told none =
    call_words (λ words taken. subst (λ t. HasWords t (call_word call ∷ words)) is (has_taken {text = text} {words = call_word call ∷ words} taken none)) Reads call told

pub setting_taken : (line text word next rest : List ℕ) (setting : Setting) → text ≡ before_comment line → TakesWords text (word ∷ []) next → (setting_word setting ≡ word) × SettingWords (λ taken. TakesWords next taken rest) setting → HasWords rest [] → TellsLine line (OfSetting setting)
setting_taken line text word next rest setting is first told none =
    setting_words (λ words later. subst (λ t. HasWords t (setting_word setting ∷ words)) is (has_taken (subst (λ w. TakesWords text (w ∷ words) rest) (sym told.0) (taken_then first later)) none)) setting told.1
