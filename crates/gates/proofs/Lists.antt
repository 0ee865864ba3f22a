-- The gate's list, request by request.
use Rattle.std.proofs.Common.{◌≡◌, ℕ, zero, suc, ◌+◌, ◌<◌, ◌≤◌, List, [], ◌∷◌, ◌++◌, length, take, drop, set, Some, Option, sym, refl, ap, ◌∙◌, add-one, arith}
use Rattle.std.proofs.lemmas.Option.{none-some, same_Some}
use Rattle.quantity.specs.Measure.{Measure}
use Rattle.book.specs.Grid.{Grid, amounts}
use Rattle.book.specs.Admissions.{Admission}
use Rattle.refusals.specs.declared.refusal.Refusal.{Refusal}
use Rattle.requests.specs.declared.request.Status.{Status}
use Rattle.requests.specs.declared.request.Request.{Request}
use Rattle.requests.specs.Announcing.{changed_of, changed_at}
use Rattle.std.specs.List.{slice_get}
use Rattle.gates.specs.declared.gate.Gate.{Gate}
use Rattle.gates.specs.Gates.{AlikeOver, judged, cause, settled, passed_on, passed_at, after_moves, gated, Decided, Judged}

-- a list is its front, the element at a place, and the rest
pub split_at : {E : Type 0} (xs : List E) (i : ℕ) (x : E) → slice_get xs i ≡ Some x → (take (suc i) xs ≡ take i xs ++ (x ∷ [])) × (drop i xs ≡ x ∷ drop (suc i) xs)
split_at [] i x e = absurd (none-some x e)
split_at (y ∷ ys) zero x e = let f = same_Some y x e in (ap (λ z. z ∷ []) f, ap (λ z. z ∷ ys) f)
split_at (y ∷ ys) (suc i) x e = let w = split_at ys i x e in (ap (λ zs. y ∷ zs) w.0, w.1)

-- the element behind a front of known length
pub nth_behind : {E : Type 0} (front rest : List E) (n : ℕ) → length front ≡ n → slice_get (front ++ rest) n ≡ slice_get rest 0
nth_behind [] rest n e = ap (slice_get rest) (sym e)
nth_behind (x ∷ xs) rest n e = ap (slice_get (x ∷ (xs ++ rest))) (sym e) ∙ nth_behind xs rest (length xs) refl

pub nth_drop : {E : Type 0} (xs : List E) (i : ℕ) → slice_get (drop i xs) 0 ≡ slice_get xs i
nth_drop [] zero = refl
nth_drop [] (suc i) = refl
nth_drop (x ∷ xs) zero = refl
nth_drop (x ∷ xs) (suc i) = nth_drop xs i

module _ {Q R : Type 0} (m : Measure Q R) (places : ℕ) (admission : ℕ → ℕ → Q → Admission) where
  -- one request more at the end
  pub after_more : (held : Grid Q) (xs : List (Request R)) (x : Request R) → after_moves m places admission held (xs ++ (x ∷ [])) ≡ passed_on m places admission (after_moves m places admission held xs) x
  unfolding after_moves
  after_more held [] x = refl
  after_more held (y ∷ ys) x = after_more (passed_on m places admission held y) ys x

  pub after_suc : (held : Grid Q) (xs : List (Request R)) (i : ℕ) (x : Request R) → slice_get xs i ≡ Some x → after_moves m places admission held (take (suc i) xs) ≡ passed_on m places admission (after_moves m places admission held (take i xs)) x
  after_suc held xs i x e = ap (after_moves m places admission held) (split_at xs i x e).0 ∙ after_more held (take i xs) x

  pub gated_more : (gate : Gate) (held : Grid Q) (xs : List (Request R)) (x : Request R) → gated m places admission gate held (xs ++ (x ∷ [])) ≡ gated m places admission gate held xs ++ (settled m places admission gate (after_moves m places admission held xs) x ∷ [])
  unfolding after_moves gated
  gated_more gate held [] x = refl
  gated_more gate held (y ∷ ys) x = ap (λ zs. settled m places admission gate held y ∷ zs) (gated_more gate (passed_on m places admission held y) ys x)

  pub gated_length : (gate : Gate) (held : Grid Q) (xs : List (Request R)) → length (gated m places admission gate held xs) ≡ length xs
  unfolding gated
  gated_length gate held [] = refl
  gated_length gate held (y ∷ ys) = ap suc (gated_length gate (passed_on m places admission held y) ys)

  -- the list while the gate is at place i: those before are settled, the others as they were
  abbrev pub midway : Gate → Grid Q → ℕ → List (Request R) → List (Request R)
  midway gate held i [] = []
  midway gate held zero (r ∷ rs) = r ∷ rs
  midway gate held (suc i) (r ∷ rs) = settled m places admission gate held r ∷ midway gate (passed_on m places admission held r) i rs

  pub midway_start : (gate : Gate) (held : Grid Q) (xs : List (Request R)) → midway gate held 0 xs ≡ xs
  midway_start gate held [] = refl
  midway_start gate held (r ∷ rs) = refl

  pub moved_start : (held : Grid Q) → after_moves m places admission held [] ≡ held
  unfolding after_moves
  moved_start held = refl

  pub midway_end : (gate : Gate) (held : Grid Q) (xs : List (Request R)) (i : ℕ) → length xs ≤ i → midway gate held i xs ≡ gated m places admission gate held xs
  unfolding gated
  midway_end gate held [] i h = refl
  midway_end gate held (r ∷ rs) zero h = absurd (omega arith)
  midway_end gate held (r ∷ rs) (suc i) h = grind (arith, midway_end gate (passed_on m places admission held r) rs i)

  -- the request at place i is still the one that was there
  pub midway_nth : (gate : Gate) (held : Grid Q) (xs : List (Request R)) (i : ℕ) → i ≤ length xs → slice_get (midway gate held i xs) i ≡ slice_get xs i
  midway_nth gate held [] i h = refl
  midway_nth gate held (r ∷ rs) zero h = refl
  midway_nth gate held (r ∷ rs) (suc i) h = midway_nth gate (passed_on m places admission held r) rs i (omega arith)

  -- one turn of the gate settles the request at place i over what the moves before it left
  next_settled : (gate : Gate) (held : Grid Q) (xs : List (Request R)) (i : ℕ) → changed_at (settled m places admission gate (after_moves m places admission held (take i xs))) (midway gate held i xs) i ≡ midway gate held (suc i) xs
  unfolding after_moves
  next_settled gate held [] i = refl
  next_settled gate held (r ∷ rs) zero = grind (arith, midway_start gate (passed_on m places admission held r) rs)
  next_settled gate held (r ∷ rs) (suc i) = grind (arith, next_settled gate (passed_on m places admission held r) rs i)

  next_moved : (gate : Gate) (held : Grid Q) (xs : List (Request R)) (i : ℕ) → passed_at m places admission (after_moves m places admission held (take i xs)) (slice_get (midway gate held i xs) i) ≡ after_moves m places admission held (take (suc i) xs)
  unfolding after_moves
  next_moved gate held [] zero = refl
  next_moved gate held [] (suc i) = refl
  next_moved gate held (r ∷ rs) zero = refl
  next_moved gate held (r ∷ rs) (suc i) = next_moved gate (passed_on m places admission held r) rs i

  pub settled_next : (gate : Gate) (held : Grid Q) (xs : List (Request R)) (i : ℕ) → changed_at (settled m places admission gate (after_moves m places admission held (take i xs))) (midway gate held i xs) i ≡ midway gate held (i + 1) xs
  settled_next gate held xs i = rw add-one (next_settled gate held xs i)

  pub moved_next : (gate : Gate) (held : Grid Q) (xs : List (Request R)) (i : ℕ) → passed_at m places admission (after_moves m places admission held (take i xs)) (slice_get (midway gate held i xs) i) ≡ after_moves m places admission held (take (i + 1) xs)
  moved_next gate held xs i = rw add-one (next_moved gate held xs i)

  pub midway_more : (gate : Gate) (held : Grid Q) (xs : List (Request R)) (i : ℕ) (x : Request R) → i ≤ length xs → slice_get xs i ≡ Some x → set (midway gate held i xs) i (settled m places admission gate (after_moves m places admission held (take i xs)) x) ≡ midway gate held (suc i) xs
  midway_more gate held xs i x h e =
      let left = after_moves m places admission held (take i xs) in
      sym (ap (changed_of (settled m places admission gate left) (midway gate held i xs) i) (midway_nth gate held xs i h ∙ e)) ∙ next_settled gate held xs i

  -- the same over any holdings of the amounts that the moves before it left
  module _ (gate : Gate) (held now next : Grid Q) (xs cur new : List (Request R)) (i : ℕ) where
    pub turn :
        i < length xs →
        cur ≡ midway gate held i xs →
        amounts m now ≡ amounts m (after_moves m places admission held (take i xs)) →
        AlikeOver m now (λ other. new ≡ changed_at (settled m places admission gate other) cur i) →
        AlikeOver m now (λ other. amounts m next ≡ amounts m (passed_at m places admission other (slice_get cur i))) →
        (new ≡ midway gate held (i + 1) xs) × (amounts m next ≡ amounts m (after_moves m places admission held (take (i + 1) xs)))
    turn h c a f g =
        let left = after_moves m places admission held (take i xs) in (
          f left (sym a) ∙ (ap (λ zs. changed_at (settled m places admission gate left) zs i) c ∙ settled_next gate held xs i),
          g left (sym a) ∙ (ap (λ zs. amounts m (passed_at m places admission left (slice_get zs i))) c ∙ ap (amounts m) (moved_next gate held xs i)),
        )

  -- every request is decided as its own move says
  decided : (gate : Gate) (why : Option Refusal) (old : Status) → Decided m places admission gate why old (judged gate why old)
  decided gate why old = grind arith

  pub gate_judges : (gate : Gate) (held : Grid Q) (xs : List (Request R)) → Judged m places admission gate held xs (gated m places admission gate held xs)
  unfolding after_moves gated
  gate_judges gate held [] i r e = grind arith
  gate_judges gate held (x ∷ xs) zero r e = (judged gate (cause m places admission held r) r.status, grind arith, decided gate (cause m places admission held r) r.status)
  gate_judges gate held (x ∷ xs) (suc i) r e = gate_judges gate (passed_on m places admission held x) xs i r e
