use Rattle.std.proofs.Common.{◌≡◌, List, ℕ, length, subst}
use Rattle.std.proofs.lemmas.List.{take_rest}
use Rattle.doubled_ids.specs.Doubled.{doubled_of}
use Rattle.volume_rank.proofs.collecting.doubled_at.Goals as goal

pub returns : goal.returns
returns c = subst (λ (bytes : List ℕ). c.count_doubled.result ≡ length (doubled_of c.args.g.now bytes)) (take_rest c.args.file.now c.args.at) c.count_doubled.ensures
