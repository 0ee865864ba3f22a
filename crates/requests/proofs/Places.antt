-- The first place of which a test holds, looked for place by place, and passages that are the same.
use Rattle.std.proofs.Common.{◌≡◌, ℕ, zero, suc, ◌+◌, ◌≤◌, Bool, true, false, List, [], ◌∷◌, length, take, get_or, Some, None, sym, refl, ap, ◌∙◌, add-one, arith}
use Rattle.std.specs.List.{slice_get, position}
use Rattle.std.proofs.lemmas.List.{take_all}
use Rattle.std.proofs.lemmas.List.Quantifiers.{position-Some}
use Rattle.std.proofs.lemmas.Option.{slice_get-get_or}
use Rattle.std.proofs.lemmas.Bool.Decides.{nat_tests}
use Rattle.refusals.specs.declared.passage.Passage.{Passage}
use Rattle.requests.specs.Requests.{same_passage, holds_of}

module _ {E : Type 0} (test : E → Bool) where
  -- at the first place of which the test holds there is an element of which it holds
  pub place_holds : (xs : List E) (k : ℕ) → position test xs ≡ Some k → (x : E) × (slice_get xs k ≡ Some x) × (test x ≡ true)
  place_holds [] k e = grind arith
  place_holds (x ∷ xs) k e =
      let w = position-Some test (x ∷ xs) k x e in
      (get_or (x ∷ xs) k x, slice_get-get_or (x ∷ xs) k x w.0, w.1)

module _ {E : Type 0} (test : E → Bool) where
  -- looked for place by place: the test holds at place i, and at none before it
  pub place_hit : (xs : List E) (i : ℕ) → holds_of test (slice_get xs i) ≡ true → position test (take i xs) ≡ None → position test xs ≡ Some i
  place_hit [] i t h = absurd (grind arith)
  place_hit (y ∷ ys) zero t h = grind (arith, nat_tests)
  place_hit (y ∷ ys) (suc i) t h = grind (arith, nat_tests, place_hit ys i t)

  -- or it does not
  miss_suc : (xs : List E) (i : ℕ) → holds_of test (slice_get xs i) ≡ false → position test (take i xs) ≡ None → position test (take (suc i) xs) ≡ None
  miss_suc [] i t h = refl
  miss_suc (y ∷ ys) zero t h = grind (arith, nat_tests)
  miss_suc (y ∷ ys) (suc i) t h = grind (arith, nat_tests, miss_suc ys i t)

  pub place_miss : (xs : List E) (i : ℕ) → holds_of test (slice_get xs i) ≡ false → position test (take i xs) ≡ None → position test (take (i + 1) xs) ≡ None
  place_miss xs i t h = rw add-one (miss_suc xs i t h)

  pub place_start : position test [] ≡ None
  place_start = refl

  -- where every place was looked at, there is none
  pub place_end : (xs : List E) (i : ℕ) → length xs ≤ i → position test (take i xs) ≡ None → position test xs ≡ None
  place_end xs i l h = sym (ap (position test) (take_all i xs l)) ∙ h

-- passages whose test holds are one
pub passages_equal : (p q : Passage) → same_passage p q ≡ true → p ≡ q
passages_equal p q e = grind (arith, nat_tests)
