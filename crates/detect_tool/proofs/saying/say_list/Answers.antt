use Rattle.std.proofs.Common.{◌≡◌, ◌<◌, length, rules}
use Rattle.detect_tool.proofs.Telling.{said_line}
use Rattle.detect_tool.proofs.Detected.{says_lines, says_none_found}
use Rattle.detect_tool.proofs.saying.say_list.Goals as goal

pub returns-then-is_empty-clause-says : goal.returns-then-is_empty-clause-says
returns-then-is_empty-clause-says g c = λ list r.
    let none : length c.args.found.now ≡ 0 = search rules in
    says_none_found c.args.found.now list r c.say.result none (said_line _ c.say.result c.say.ensures.says c.say.ensures.cuts c.say.ensures.done)

pub returns-clause-says : goal.returns-clause-says
returns-clause-says g c = λ list r.
    let some : 0 < length c.args.found.now = search rules in
    says_lines c.args.found.now list r c.say_all.result some (c.say_all.ensures.says list r)
