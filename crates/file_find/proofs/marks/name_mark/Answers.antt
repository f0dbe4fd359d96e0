use Rattle.std.proofs.Common.{◌+◌, ◌*◌, ◌%◌, ◌∙◌, ℕ, List, ap, arith}
use Rattle.std.specs.List.{fold}
use Rattle.std.proofs.lemmas.List.{take_all}
use Rattle.file_find.specs.Marks.{name_hash}
use Rattle.file_find.proofs.marks.name_mark.Goals as goal

pub returns : goal.returns
unfolding name_hash
returns c =
    ap (λ (h : ℕ). 3 + h) (c.loop-byte.invariant.is ∙ ap (λ (xs : List ℕ). fold (λ (h b : ℕ). (31 * h + b) % 253) 0 xs) (take_all c.loop-byte.byte-index c.args.name.now (omega (arith, c.loop-byte-test.false))))
