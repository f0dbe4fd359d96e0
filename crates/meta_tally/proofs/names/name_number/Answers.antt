use Rattle.std.proofs.Common.{◌+◌, ◌*◌, ◌%◌, ◌∙◌, ℕ, List, ap, arith}
use Rattle.std.specs.List.{fold}
use Rattle.std.proofs.lemmas.List.{take_all}
use Rattle.meta_tally.specs.Names.{name_number}
use Rattle.meta_tally.proofs.names.name_number.Goals as goal

pub returns-clause-value : goal.returns-clause-value
unfolding name_number
returns-clause-value c =
    c.loop-byte.invariant.is ∙ ap (λ (xs : List ℕ). fold (λ (h b : ℕ). (31 * h + b) % 0x80000) 0 xs) (take_all c.loop-byte.byte-index c.args.name.now (omega (arith, c.loop-byte-test.false)))
