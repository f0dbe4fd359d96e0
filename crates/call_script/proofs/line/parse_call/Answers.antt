use Rattle.std.proofs.Common.{◌≡◌, ◌≤◌, [], ◌∷◌, length, arith}
use Rattle.call_script.specs.Lines.{words}
use Rattle.call_script.proofs.Parting.{total, total-words}
use Rattle.call_script.proofs.line.parse_call.Goals as goal

pub parse_with_one-requires : goal.parse_with_one-requires
parse_with_one-requires c =
    let all : total (words c.args.line.now) ≤ length c.args.line.now = total-words c.args.line.now in
    let parts : words c.args.line.now ≡ c.in-Two.verb.now ∷ c.in-Two.word.now ∷ [] = c.in-Two.ensures in
    let bound = rw parts at all in omega arith

pub parse_with_two-requires : goal.parse_with_two-requires
parse_with_two-requires c =
    let all : total (words c.args.line.now) ≤ length c.args.line.now = total-words c.args.line.now in
    let parts : words c.args.line.now ≡ c.in-Three.verb.now ∷ c.in-Three.first.now ∷ c.in-Three.second.now ∷ [] = c.in-Three.ensures in
    let bound = rw parts at all in omega arith
