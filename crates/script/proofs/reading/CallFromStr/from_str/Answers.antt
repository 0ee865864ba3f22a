use Rattle.std.proofs.Common.{◌∙◌}
use Rattle.std.specs.Str.Iter.{split_whitespace_rest}
use Rattle.script.proofs.Taking.{call_taken}
use Rattle.script.proofs.reading.CallFromStr.from_str.Goals as goal

pub returns : goal.returns
returns g c = call_taken g.Q.FromStr.from_str_gives c.args.line.now (split_whitespace_rest c.split_whitespace-words.result) (split_whitespace_rest c.read_words.new.words) c.in_ok-call.call (c.split_whitespace-words.ensures.rest ∙ c.without_comment.ensures) c.in_ok-call.ensures c.in_ok-no_more.ensures
