use Rattle.std.proofs.Common.{rules, ◌∙◌, [], ◌∷◌}
use Rattle.std.specs.Str.Iter.{split_whitespace_rest}
use Rattle.script.specs.Words.{TakesWords}
use Rattle.script.proofs.Taking.{setting_taken}
use Rattle.script.proofs.reading.LineFromStr.from_str.Goals as goal

pub returns-in_ok-no_more-in-Some : goal.returns-in_ok-no_more-in-Some
returns-in_ok-no_more-in-Some c =
    let first : TakesWords (split_whitespace_rest c.split_whitespace-words.result) (c.in-Some.first.now ∷ []) (split_whitespace_rest c.next.new.self) = search rules in
    setting_taken c.args.line.now (split_whitespace_rest c.split_whitespace-words.result) _ (split_whitespace_rest c.next.new.self) (split_whitespace_rest c.read_setting.new.words) c.in_ok-setting-in-Some.setting (c.split_whitespace-words.ensures.rest ∙ c.without_comment.ensures) first c.in_ok-setting-in-Some.ensures c.in_ok-no_more-in-Some.ensures
