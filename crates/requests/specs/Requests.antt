-- What requests say, and which of them an announcement joins.
use Rattle.std.specs.Prelude.{Bool, true, false, cond, ◌&&◌, Some, None, Option, ◌==◌}
use Rattle.quantity.specs.Measure.{Measure}
use Rattle.requests.specs.declared.request.Side.{Side}
use Rattle.requests.specs.declared.request.Side.TheVariants.{Giver, Taker}
use Rattle.requests.specs.declared.request.Status.{Status}
use Rattle.requests.specs.declared.request.Status.TheVariants.{WaitingForCounterpart, BalanceOk, BalanceError, Confirmed, Rejected, Waiting, Accepted, Declined, Lapsed}
use Rattle.refusals.specs.declared.passage.Passage.{Passage}
use Rattle.requests.specs.declared.request.Request.{Request}
use Rattle.requests.specs.declared.finding.Joining.{Joining}
use Rattle.requests.specs.declared.finding.Joining.TheVariants.{Unresolved, NotBalanced}

-- whether an announcement may join a request of this status
abbrev pub joins : Joining → Status → Bool
joins j WaitingForCounterpart = true
joins Unresolved BalanceOk = true
joins NotBalanced BalanceOk = false
joins j BalanceError = true
joins j Confirmed = false
joins j (Rejected cause) = false
joins j Waiting = false
joins j Accepted = false
joins j Declined = false
joins j Lapsed = false

-- whether giver, taker and span are the same
abbrev pub same_passage : Passage → Passage → Bool
same_passage p q = p.giver == q.giver && (p.taker == q.taker && (p.first == q.first && p.last == q.last))

-- whether a request is of this passage and may be joined
abbrev pub matching : {R : Type 0} → Joining → Passage → Request R → Bool
matching j p r = same_passage r.passage p && joins j r.status

-- whether there is one of which a test holds
abbrev pub holds_of : {E : Type 0} → (E → Bool) → Option E → Bool
holds_of test None = false
holds_of test (Some x) = test x

module _ {Q R : Type 0} (m : Measure Q R) where
  -- one side has announced, both have announced equal quantities, or unequal ones
  abbrev pub balance : Option R → Option R → Status
  balance None taking = WaitingForCounterpart
  balance (Some given) None = WaitingForCounterpart
  balance (Some given) (Some taken) = cond (m.alike (m.told given) (m.told taken)) BalanceOk BalanceError

  -- a request after a side has announced a quantity of this row
  abbrev pub spoken : Side → R → Request R → Request R
  spoken Giver row r = record { passage = r.passage; giving = Some row; taking = r.taking; status = balance (Some row) r.taking }
  spoken Taker row r = record { passage = r.passage; giving = r.giving; taking = Some row; status = balance r.giving (Some row) }
