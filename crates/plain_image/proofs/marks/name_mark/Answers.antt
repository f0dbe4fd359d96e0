use Rattle.std.proofs.Common.{◌+◌, ◌*◌, ◌%◌, ◌∙◌, ℕ, List, ap, arith}
use Rattle.std.specs.List.{fold}
use Rattle.std.proofs.lemmas.List.{take_all}
use Rattle.plain_image.specs.Marked.{name_mark}
use Rattle.plain_image.proofs.marks.name_mark.Goals as goal

pub returns-clause-value : goal.returns-clause-value
unfolding name_mark
returns-clause-value c =
    c.loop-byte.invariant.is ∙ ap (λ (xs : List ℕ). fold (λ (h b : ℕ). (31 * h + b) % 0x4000) 0 xs) (take_all c.loop-byte.byte-index c.args.name.now (omega (arith, c.loop-byte-test.false)))
