use Rattle.std.proofs.Common.{◌≡◌, ◌+◌, ℕ, subst, arith}
use Rattle.image_model.specs.Live.{live_at}
use Rattle.image_model.specs.Tables.{has_of}
use Rattle.plain_image.specs.Marked.{AreMarked}
use Rattle.plain_image.proofs.Marked.{marked_none}
use Rattle.plain_image.proofs.marks.name_marks.Goals as goal

pub loop-id-init : goal.loop-id-init
loop-id-init c = marked_none (has_of c.args.g.now (live_at c.args.g.now c.args.image.now)) c.in_ok-marks.marks.items c.in_ok-marks.ensures

pub returns : goal.returns
returns c =
    let at : c.loop-id.id ≡ c.args.n + 1 = omega arith in
    subst (λ (id : ℕ). AreMarked (has_of c.args.g.now (live_at c.args.g.now c.args.image.now)) id c.loop-id.marks.items) at c.loop-id.invariant
