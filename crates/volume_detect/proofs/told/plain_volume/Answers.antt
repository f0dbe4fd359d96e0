use Rattle.std.proofs.Common.{ℕ, ◌/◌, min, subst}
use Rattle.volume_detect.specs.Rows.{is_equal, LongestRow}
use Rattle.volume_detect.proofs.Tellings.{plain_tells}
use Rattle.volume_detect.proofs.told.plain_volume.Goals as goal

pub returns : goal.returns
returns c =
    let words = c.args.words.now in
    let blocks = c.longest_row-blocks.result in
    let most = subst (λ (m : ℕ). LongestRow (is_equal words c.args.first c.args.step c.plain_magic.result) m blocks) c.min-most.ensures c.longest_row-blocks.ensures in
    let longest = subst (λ (x : ℕ). LongestRow (is_equal words c.args.first c.args.step x) (min c.args.room (65535 / (c.args.block / c.args.page))) blocks) c.plain_magic.ensures most in
    plain_tells words c.args.first c.args.step c.args.page c.args.block c.args.room blocks c.volume_of.result longest c.volume_of.ensures.made c.volume_of.ensures.refused
