-- What a list in lent memory holds, and what any list becomes.
use Rattle.std.specs.Prelude.{◌≡◌, ℕ, cond, List, [], ◌∷◌, ◌++◌, length, take, drop, Some, None, Option, nat_lt}
use Rattle.record_list.specs.declared.list.RecordList.{RecordList}

-- the entries: the first `used` slots
abbrev pub contents : {E : Type 0} → RecordList E → List E
contents l = take l.used l.slots.now

-- the slots after them
abbrev pub unused : {E : Type 0} → RecordList E → List E
unused l = drop l.used l.slots.now

-- how many entries there is room for
abbrev pub places : {E : Type 0} → RecordList E → ℕ
places l = length l.slots.now

-- where a new entry goes: after the others, if there is room
abbrev pub next_place : {E : Type 0} → List E → ℕ → Option ℕ
next_place xs n = cond (nat_lt (length xs) n) (Some (length xs)) None

-- the entries with one more, if there is room
abbrev pub pushed : {E : Type 0} → List E → ℕ → E → List E
pushed xs n e = cond (nat_lt (length xs) n) (xs ++ (e ∷ [])) xs

-- a list holds xs now, in as many places as before
pub record ListBecomes {L E : Type 0} (contents : L → List E) (places : L → ℕ) (old new : L) (xs : List E) : Type 0 where
  pub contents_are : contents new ≡ xs
  pub places_stay : places new ≡ places old
