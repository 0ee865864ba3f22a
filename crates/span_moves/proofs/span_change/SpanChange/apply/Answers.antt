use Rattle.std.proofs.Common.{◌≡◌, ◌+◌, ◌-◌, sym, refl, arith}
use Rattle.book.specs.Grid.{amounts}
use Rattle.span_moves.specs.Spans.{left}
use Rattle.span_moves.specs.Ready.{changed_one}
use Rattle.span_moves.proofs.Spanned.{spanned-none}
use Rattle.span_moves.proofs.Steps.{Stepped, next_quarter}
use Rattle.span_moves.proofs.span_change.SpanChange.apply.Given as given
use Rattle.span_moves.proofs.span_change.SpanChange.apply.Goals as goal
use Rattle.span_moves.proofs.span_change.SpanChange.apply.Goals.{After-apply}

-- this quarter is changed too
stepped : (g : given.Over) (c : After-apply g) → Stepped g.Q.Quantity.measure (g.B.Book.holdings c.args.book.now) (g.B.Book.places c.args.book.now) c.args.self.change c.args.self.provider.number c.args.self.span.first c.args.self.quantity (c.loop-quarter.quarter + 1) (g.B.Book.holdings c.apply.new.book)
stepped g c =
    let m = g.Q.Quantity.measure in
    let held = g.B.Book.holdings c.loop-quarter.book in
    let inv = c.loop-quarter.invariant in
    let change = c.args.self.change in
    let p = c.args.self.provider.number in
    let q = c.args.self.quantity in
    let t = c.loop-quarter.quarter in
    let is : amounts m (g.B.Book.holdings c.apply.new.book) ≡ changed_one m held (g.B.Book.places c.args.book.now) (g.B.Book.admission c.args.book.now) change p t q = rw (← inv.rest.places_stay, ← inv.rest.admission_stays, ← c.at.ensures.provider, ← c.at.ensures.quarter) c.apply.ensures.after in
    next_quarter m (g.B.Book.holdings c.args.book.now) (g.B.Book.places c.args.book.now) (g.B.Book.admission c.args.book.now) change p c.args.self.span.first c.args.self.span.last q c.args.self.provider.there c.args.self.span.within c.requires t (omega arith) (omega arith) held (record { so_far = inv.so_far; left_is = inv.left_is; bound = inv.bound }) (g.B.Book.holdings c.apply.new.book) is

pub loop-quarter-init : goal.loop-quarter-init
unfolding left
loop-quarter-init g c = record {
  so_far = sym (spanned-none g.Q.Quantity.measure (g.B.Book.holdings c.args.book.now) c.args.self.change c.args.self.provider.number c.args.self.quantity c.args.self.span.first);
  left_is = rw (let w : c.args.self.span.first - c.args.self.span.first ≡ 0 = omega arith in w) refl;
  bound = c.requires.bound;
  rest = record { places_stay = refl; admission_stays = refl; layer_stays = refl };
}

pub loop-quarter-preserved : goal.loop-quarter-preserved
loop-quarter-preserved g c =
    let s = stepped g (goal.at.loop-quarter-preserved g c).After-apply in
    record {
      so_far = s.so_far;
      left_is = s.left_is;
      bound = s.bound;
      rest = record { places_stay = cc; admission_stays = cc; layer_stays = cc };
    }

pub returns-2-clause-after : goal.returns-2-clause-after
returns-2-clause-after g c = rw (let w : c.args.self.span.last ≡ c.loop-quarter.quarter = omega arith in w) (stepped g (goal.at.returns-2-clause-after g c).After-apply).so_far

pub returns-2-clause-left : goal.returns-2-clause-left
returns-2-clause-left g c = rw (let w : c.args.self.span.last ≡ c.loop-quarter.quarter = omega arith in w) (stepped g (goal.at.returns-2-clause-left g c).After-apply).left_is

pub returns-2-clause-bound : goal.returns-2-clause-bound
returns-2-clause-bound g c = (stepped g (goal.at.returns-2-clause-bound g c).After-apply).bound
