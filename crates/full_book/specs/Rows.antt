-- What a row for each provider and quarter tells.
use Rattle.std.specs.Prelude.{ℕ, ◌+◌, ◌*◌, Bool, cond, ◌&&◌, List, ◌++◌, map, length, take, drop, nat_le, slice_index_or}
use Rattle.quantity.specs.Measure.{Measure}
use Rattle.book.specs.Grid.{Grid, in_range}

-- there is a row for each of the 32 providers and 100 quarters
abbrev pub enough : {R : Type 0} → List R → Bool
enough rows = nat_le 3200 (length rows)

-- the holdings that the rows tell: zero everywhere where there are too few
unfoldable pub rows_held : {Q R : Type 0} → Measure Q R → List R → Grid Q
rows_held m rows = λ p t. cond (in_range p t && enough rows) (m.told (slice_index_or rows (p * 100 + t) (m.row m.nothing))) m.nothing

-- a place for each holding, or none where there are too few rows
abbrev pub rows_places : {R : Type 0} → List R → ℕ
rows_places rows = cond (enough rows) 3200 0

-- the first 3,200 rows tell zero, where there are as many; the others are as they were
unfoldable pub blanked : {Q R : Type 0} → Measure Q R → List R → List R
blanked m rows = cond (enough rows) (map (λ _. m.row m.nothing) (take 3200 rows) ++ drop 3200 rows) rows
