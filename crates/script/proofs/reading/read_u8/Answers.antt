use Rattle.std.specs.Str.Iter.{split_whitespace_rest}
use Rattle.script.proofs.Numbers.{number_words}
use Rattle.script.proofs.reading.read_u8.Goals as goal

pub returns : goal.returns
returns c = number_words 8 (split_whitespace_rest c.args.words.now) _ (split_whitespace_rest c.next_word.new.words) c.number.result _ (λ n told. told.0) c.number.ensures.value c.number.ensures.digits c.in_ok-next_word.ensures
