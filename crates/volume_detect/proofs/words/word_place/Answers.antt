use Rattle.std.proofs.Common.{◌%◌, arith}
use Rattle.volume_detect.proofs.Sizes.{page_most}
use Rattle.volume_detect.proofs.words.word_place.Goals as goal

pub overflow_add-result : goal.overflow_add-result
overflow_add-result c = let most = page_most (c.args.i % 6) (omega arith) in omega (arith, c.power.ensures.value, most)

pub returns-clause-inside : goal.returns-clause-inside
returns-clause-inside c = let most = page_most (c.args.i % 6) (omega arith) in omega (arith, c.power.ensures.value, most)
