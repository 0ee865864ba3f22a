use Rattle.std.specs.Str.Iter.{split_whitespace_rest}
use Rattle.script.proofs.Taking.{taken_then, call_after_word}
use Rattle.script.proofs.reading.read_words.Goals as goal

pub returns-in_ok-read_change-in-raise : goal.returns-in_ok-read_change-in-raise
returns-in_ok-read_change-in-raise g c =
    let w = c.in_ok-read_change-in-raise.ensures in
    let first = rw c.in-raise.is at c.in_ok-next_word.ensures in
    (w.0, w.1, w.2, w.3, w.4, w.5, taken_then first w.6)

pub returns-in_ok-read_change-in-lower : goal.returns-in_ok-read_change-in-lower
returns-in_ok-read_change-in-lower g c =
    let w = c.in_ok-read_change-in-lower.ensures in
    let first = rw c.in-lower.is at c.in_ok-next_word.ensures in
    (w.0, w.1, w.2, w.3, w.4, w.5, taken_then first w.6)

pub returns-in-move : goal.returns-in-move
returns-in-move g c =
    let first = rw c.in-move.is at c.in_ok-next_word.ensures in
    call_after_word g.Q.FromStr.from_str_gives (split_whitespace_rest c.args.words.now) _ (split_whitespace_rest c.next_word.new.words) (split_whitespace_rest c.read_move.new.words) c.read_move.result c.read_move.ensures first

pub returns-in-holding : goal.returns-in-holding
returns-in-holding g c =
    let first = rw c.in-holding.is at c.in_ok-next_word.ensures in
    call_after_word g.Q.FromStr.from_str_gives (split_whitespace_rest c.args.words.now) _ (split_whitespace_rest c.next_word.new.words) (split_whitespace_rest c.read_holding.new.words) c.read_holding.result c.read_holding.ensures first
