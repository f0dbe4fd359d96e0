use Rattle.std.proofs.Common.{arith}
use Rattle.file_calls.proofs.WriteParts.{part_inside, part_behind}
use Rattle.file_calls.proofs.writing.write_part.Goals as goal

pub returns-then-at-size : goal.returns-then-at-size
returns-then-at-size g c = λ f size. part_inside c.args.id c.args.known c.args.at c.args.bytes.now f (let low = c.if-at-size.true in omega (arith, low, size)) (λ e inside. c.overwrite_part.ensures c.args.known e inside)

pub returns-else-at-size : goal.returns-else-at-size
returns-else-at-size g c = λ f size. part_behind c.args.id c.args.known c.args.at c.args.size c.args.bytes.now f c.if-at-size.false size (c.append_part.ensures f size)
