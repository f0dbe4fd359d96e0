use Rattle.std.proofs.Common.{ℕ, ◌+◌, ◌%◌, length, ap, arith}
use Rattle.nor_core.proofs.Draws.{number_after-none, drawn_next}
use Rattle.nor_memory.proofs.cut.picked_passed.Goals as goal

pub returns-in_default-clause-part : goal.returns-in_default-clause-part
returns-in_default-clause-part c = record {
  nothing = λ is. absurd (omega arith);
  all = λ is. absurd (omega arith);
  between = λ above. ap (λ (n : ℕ). n % (length c.args.piece.now + 1)) (drawn_next _ _ _ _ (number_after-none c.args.pick) c.draw.ensures.number _ c.draw.ensures.drawn);
}
