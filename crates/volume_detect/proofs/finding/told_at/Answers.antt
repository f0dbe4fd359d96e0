use Rattle.std.proofs.Common.{arith}
use Rattle.volume_detect.proofs.Sizes.{page_most}
use Rattle.volume_detect.proofs.finding.told_at.Goals as goal

pub plain_volume-requires-clause-block : goal.plain_volume-requires-clause-block
plain_volume-requires-clause-block c = let page = c.requires.page in let most = page_most page.0 page.1 in omega (arith, page.2, most, c.requires.block)
