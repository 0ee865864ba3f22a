-- Worked figures over volumes of FCR.
use Rattle.std.specs.Prelude.{◌≡◌, ℕ, cond, ◌&&◌, List, [], ◌∷◌, map, ℤ, negsuc, Some, None, ◌==◌, nat_le}
use Rattle.quantity.specs.declared.fcr.Volume.{Volume}
use Rattle.quantity.specs.Fcr.{no_volume, volume_told, volume_tenths}
use Rattle.quantity.specs.FcrLaws.{volume_measure}
use Rattle.book.specs.Grid.{Grid}
use Rattle.book.specs.Calls.{everything}
use Rattle.refusals.specs.declared.refusal.Refusal.TheVariants.{NoRemainder, TooLate}
use Rattle.requests.specs.declared.request.Side.TheVariants.{Giver}
use Rattle.requests.specs.declared.request.Status.{Status}
use Rattle.requests.specs.declared.request.Status.TheVariants.{WaitingForCounterpart, BalanceOk, Confirmed, Rejected}
use Rattle.requests.specs.declared.request.Request.{Request}
use Rattle.requests.specs.declared.finding.Joining.TheVariants.{Unresolved, NotBalanced}
use Rattle.awards.specs.Blocks.{first_of_block, last_of_block, count_of_block}
use Rattle.awards.specs.Awards.{award_earns}
use Rattle.gates.specs.declared.gate.Gate.TheVariants.{First}
use Rattle.gates.specs.Gates.{after_moves, gated}
use Rattle.requests.specs.declared.announcement.Announcement.{Announcement}
use Rattle.day.specs.Announcing.{announce_refusal}
use Rattle.day.specs.Opening.{opened_day}

-- provider 0 has 100 tenths in the quarters 0 to 2
abbrev pub held : Grid Volume
held p t = cond (p == 0 && nat_le t 2) (volume_told 100) no_volume

-- a balanced request from provider 0 to provider 1
abbrev pub balanced : ℕ → ℕ → ℕ → Request ℕ
balanced first last tenths = record { passage = record { giver = 0; taker = 1; first = first; last = last }; giving = Some tenths; taking = Some tenths; status = BalanceOk }

abbrev pub statuses : List (Request ℕ) → List Status
statuses rs = map (λ (r : Request ℕ). r.status) rs

-- what the first gate makes of two requests, and the tenths that it leaves provider 0 in the quarters 0 to 2
abbrev pub decided : List (Request ℕ) → List Status
decided rs = statuses (gated volume_measure 3200 everything First held rs)

abbrev pub left : List (Request ℕ) → List ℕ
left rs = map (λ t. (after_moves volume_measure 3200 everything held rs 0 t).tenths) (0 ∷ (1 ∷ (2 ∷ [])))

-- the giver of 60 tenths announces at a minute
abbrev pub said : ℤ → Announcement Volume
said minute = record { side = Giver; passage = record { giver = 0; taker = 1; first = 0; last = 1 }; quantity = volume_told 60; minute = minute }

abbrev pub waiting : List (Request ℕ)
waiting = record { passage = record { giver = 0; taker = 1; first = 0; last = 1 }; giving = None; taking = Some 60; status = WaitingForCounterpart } ∷ []

pub record Figures : Type 0 where
  -- an award of 100 tenths up for one block of 16 quarters at 1,250 cents earns 2,000,000 fortieths of a cent
  pub earning : award_earns (volume_tenths (volume_told 100)) (1250 ∷ []) 1 (count_of_block 96 1) ≡ 2000000
  -- in a day of 92 quarters block 1 is the quarters 12 to 27
  pub block : (first_of_block 92 1 ≡ 12) × (last_of_block 92 1 ≡ 27)
  -- 60 over the quarters 0 to 1 before 50 over 1 to 2: the first passes, the second lacks volume in quarter 1
  pub in_order : (decided (balanced 0 1 60 ∷ (balanced 1 2 50 ∷ [])) ≡ Confirmed ∷ (Rejected (Some (NoRemainder 0 1)) ∷ [])) × (left (balanced 0 1 60 ∷ (balanced 1 2 50 ∷ [])) ≡ 40 ∷ (40 ∷ (100 ∷ [])))
  -- with the places exchanged the 50 pass and the 60 lack volume in quarter 1
  pub exchanged : (decided (balanced 1 2 50 ∷ (balanced 0 1 60 ∷ [])) ≡ Confirmed ∷ (Rejected (Some (NoRemainder 0 1)) ∷ [])) × (left (balanced 1 2 50 ∷ (balanced 0 1 60 ∷ [])) ≡ 100 ∷ (50 ∷ (50 ∷ [])))
  -- in the first stage an announcement at minute -631 is taken, at -630 it is too late
  pub announcing : (announce_refusal volume_measure (opened_day 1 96) Unresolved (said (negsuc 630)) [] 4096 ≡ None) × (announce_refusal volume_measure (opened_day 1 96) Unresolved (said (negsuc 629)) [] 4096 ≡ Some TooLate)
  -- in the second stage one at minute -601 may pass, at -600 it is too late
  pub reconciling : (announce_refusal volume_measure (opened_day 1 96) NotBalanced (said (negsuc 600)) waiting 4096 ≡ None) × (announce_refusal volume_measure (opened_day 1 96) NotBalanced (said (negsuc 599)) waiting 4096 ≡ Some TooLate)
