use Rattle.std.proofs.Common.{◌≡◌, ◌++◌, ◌+◌, ℕ, arith}
use Rattle.std.proofs.lemmas.Grind.{common_steps}
use Rattle.std.specs.Option.{option_to_list}
use Rattle.image_model.specs.Live.{live_at}
use Rattle.image_model.specs.Tables.{has_of, damage}
use Rattle.plain_image.proofs.Ranges.{filter_map_push}
use Rattle.plain_image.proofs.damaged.damages.Goals as goal
use Rattle.plain_image.proofs.damaged.damages.Goals.{in-Some+in_ok-push, in_default}

pub loop-id-preserved : goal.loop-id-preserved
loop-id-preserved c =
    let more : c.match-branch-2.damages.items ≡ c.loop-id.damages.items ++ option_to_list c.in_ok-cause.field-0 =
    elim c.match-branch-2.branch [ in-Some+in_ok-push w ↦ grind (arith, common_steps) | in_default w ↦ grind (arith, common_steps) ] in
    filter_map_push (λ (j : ℕ). damage (has_of c.args.g.now (live_at c.args.g.now c.args.image.now)) c.args.n j (has_of c.args.g.now (live_at c.args.g.now c.args.image.now) j))
    c.loop-id.damages.items c.match-branch-2.damages.items c.in_ok-cause.field-0 _ c.loop-id.id (c.args.n + 1) c.loop-id-test.true c.loop-id.invariant c.in_ok-cause.ensures more
