use Rattle.std.proofs.Common.{arith, sym, ◌∙◌}
use Rattle.flash_trace.proofs.Putting.{right_bits}
use Rattle.flash_trace.proofs.changes.has_got.Goals as goal

pub returns : goal.returns
returns c =
    let r = right_bits c.args.image.now c.args.at _ c.args.asked.now c.args.got.now _ (omega arith) c.requires.same c.requires.inside c.in_ok-left.ensures.range in
    let d = c.is_same.ensures in
    (λ yes'. r.0 (sym c.as_slice.ensures.value ∙ d.0 yes'), λ is. d.1 (c.as_slice.ensures.value ∙ r.1 is))
