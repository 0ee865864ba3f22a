use Rattle.std.proofs.Common.{◌≡◌, ◌*◌, ◌≤◌}
use Rattle.book.specs.Grid.{total, filled}
use Rattle.book.proofs.counting.count_holdings.Given as goal

abbrev pub invariant-loop-provider : goal.invariant-loop-provider
invariant-loop-provider g l = record {
  value : l.count ≡ total (λ p. total (filled g.B.Q.Quantity.measure (g.B.Book.holdings l.book) p) 100) l.provider;
  bound : l.count ≤ 100 * l.provider;
}
