use Rattle.std.proofs.Common.{◌-◌, List, ℕ, length, take, drop, subst, arith}
use Rattle.std.proofs.lemmas.List.{take_rest}
use Rattle.geometry.proofs.Bounds.{few_pages}
use Rattle.volume_rank.specs.Ranges.{IsRange}
use Rattle.volume_rank.proofs.Tops.{range_is}
use Rattle.volume_rank.proofs.collecting.range_at.Goals as goal

pub tally_files-heads-requires-clause-marks : goal.tally_files-heads-requires-clause-marks
tally_files-heads-requires-clause-marks c = omega (arith, few_pages c.args.g.now, c.requires.check)

pub returns-clause-range : goal.returns-clause-range
returns-clause-range c = λ h is.
    let g = c.args.g.now in
    let file = c.args.file.now in
    let image = take (length file - c.args.at) (drop c.args.at file) in
    let tally = c.tally_files-heads.ensures in
    subst (λ (bytes : List ℕ). IsRange g bytes c.top_range.result) (take_rest file c.args.at)
    (range_is g image c.tally_files-heads.new.whole c.tally_files-heads.result c.top_range.result tally.whole tally.heads c.top_range.ensures h is)
