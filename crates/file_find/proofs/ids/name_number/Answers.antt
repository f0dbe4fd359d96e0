use Rattle.std.proofs.Common.{◌+◌, ◌*◌, ◌%◌, ◌∙◌, ℕ, List, ap, arith}
use Rattle.std.specs.List.{fold}
use Rattle.std.proofs.lemmas.List.{take_all}
use Rattle.file_find.specs.Ids.{name_number}
use Rattle.file_find.proofs.ids.name_number.Goals as goal

pub returns : goal.returns
unfolding name_number
returns c =
    ap (λ (h : ℕ). 0x8000 + h) (c.loop-byte.invariant.is ∙ ap (λ (xs : List ℕ). fold (λ (h b : ℕ). (101 * h + b) % 0x8000) 0 xs) (take_all c.loop-byte.byte-index c.args.name.now (omega (arith, c.loop-byte-test.false))))
