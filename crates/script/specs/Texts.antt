-- The words of settings, and of what a call answers.
use Rattle.std.specs.Prelude.{ℕ, List, ◌++◌, codes, decimal, Some, Option}
use Rattle.std.specs.Fmt.{◌++?◌}
use Rattle.book.specs.Texts.{refusal_text as book_text}
use Rattle.refusals.specs.Texts.{refusal_text as span_text}
use Rattle.script.specs.declared.settings.Service.{Service}
use Rattle.script.specs.declared.settings.Service.TheVariants.{Fcr, Afrr}
use Rattle.script.specs.declared.settings.Bottom.{Bottom}
use Rattle.script.specs.declared.settings.Bottom.TheVariants.{Full, Sparse}
use Rattle.script.specs.declared.settings.Switch.{Switch}
use Rattle.script.specs.declared.settings.Switch.TheVariants.{On, Off}
use Rattle.script.specs.declared.settings.Setting.{Setting}
use Rattle.script.specs.declared.settings.Setting.TheVariants.{Service as OfService, Books, Limits, Limit}
use Rattle.script.specs.declared.calls.Answer.{Answer}
use Rattle.script.specs.declared.calls.Answer.TheVariants.{Raised, Lowered, Moved, Held, FreePlaces}
use Rattle.script.specs.declared.calls.NotDone.{NotDone}
use Rattle.script.specs.declared.calls.NotDone.TheVariants.{Book, Span}

abbrev pub service_text : Service → List ℕ
service_text Fcr = codes "fcr"
service_text Afrr = codes "afrr"

abbrev pub bottom_text : Bottom → List ℕ
bottom_text Full = codes "full"
bottom_text (Sparse places) = codes "sparse " ++ decimal places

abbrev pub switch_text : Switch → List ℕ
switch_text On = codes "on"
switch_text Off = codes "off"

-- what is answered once a setting is taken
abbrev pub setting_text : Setting → List ℕ
setting_text (OfService service) = codes "service " ++ service_text service
setting_text (Books bottom) = codes "books " ++ bottom_text bottom
setting_text (Limits switch) = codes "limits " ++ switch_text switch
setting_text (Limit p d tenths) = codes "limit set"

-- an answer, by the words of the quantity that it tells
abbrev pub answer_text : {Q : Type 0} → (Q → Option (List ℕ)) → Answer Q → Option (List ℕ)
answer_text quantity Raised = Some (codes "raised")
answer_text quantity Lowered = Some (codes "lowered")
answer_text quantity Moved = Some (codes "moved")
answer_text quantity (Held q) = Some (codes "holding ") ++? quantity q
answer_text quantity (FreePlaces n) = Some (codes "free " ++ decimal n)

abbrev pub not_done_text : NotDone → List ℕ
not_done_text (Book refusal) = book_text refusal
not_done_text (Span refusal) = span_text refusal
