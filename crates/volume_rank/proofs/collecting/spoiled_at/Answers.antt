use Rattle.std.proofs.Common.{◌≡◌, List, ℕ, subst}
use Rattle.std.proofs.lemmas.List.{take_rest}
use Rattle.image_model.specs.Kinds.{spoiled_blocks}
use Rattle.volume_rank.proofs.collecting.spoiled_at.Goals as goal

pub returns : goal.returns
returns c = subst (λ (bytes : List ℕ). c.spoiled_blocks.result ≡ spoiled_blocks c.args.g.now bytes) (take_rest c.args.file.now c.args.at) c.spoiled_blocks.ensures
