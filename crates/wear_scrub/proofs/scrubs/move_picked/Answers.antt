use Rattle.std.proofs.Common.{◌≡◌, refl, rules, arith, Err}
use Rattle.flash_view.proofs.Stepped.{looked, after_look, passes, ends_as}
use Rattle.block_gc.specs.Moved.{moving_block}
use Rattle.wear_scrub.specs.declared.scrubs.Scrub.TheVariants.{NoRoom, Rested, Moved}
use Rattle.wear_scrub.specs.Scrubs.{IsPick}
use Rattle.wear_scrub.proofs.Steps.{rests, move_begins, was_moved}
use Rattle.wear_scrub.proofs.scrubs.move_picked.Goals as goal

pub returns-in-Err : goal.returns-in-Err
returns-in-Err g c = let seen = c.in-Err.ensures in looked seen.looks (λ e. seen.cause) tt (λ tells need. (rests _ _ need.1, refl))

pub returns-in-Ok-NoRoom : goal.returns-in-Ok-NoRoom
returns-in-Ok-NoRoom g c =
    let seen = c.in-Ok-NoRoom.ensures in
    looked seen.looks (λ e. absurd (cc)) tt (λ tells need.
    let pick : IsPick c.args.v.now.geometry (g.N.NorState.bytes c.args.v.now.nor.now) c.args.limit (NoRoom c.in-Ok-NoRoom.free) = rw c.in-Ok-NoRoom.field-0-is at (seen.told tells need.1) in
    (rests _ _ need.1, (pick, refl, let same = seen.looks.reads.writes in omega (arith, same))))

pub returns-in-Ok-Rested : goal.returns-in-Ok-Rested
returns-in-Ok-Rested g c =
    let seen = c.in-Ok-Rested.ensures in
    looked seen.looks (λ e. absurd (cc)) tt (λ tells need.
    let pick : IsPick c.args.v.now.geometry (g.N.NorState.bytes c.args.v.now.nor.now) c.args.limit Rested = rw c.in-Ok-Rested.field-0-is at (seen.told tells need.1) in
    (rests _ _ need.1, (pick, refl, let same = seen.looks.reads.writes in omega (arith, same))))

pub returns-in_err-move_block-in-Ok-Moved : goal.returns-in_err-move_block-in-Ok-Moved
returns-in_err-move_block-in-Ok-Moved g c =
    let seen = c.in-Ok-Moved.ensures in
    let block = c.in-Ok-Moved.block in
    let age = c.in-Ok-Moved.age in
    let view = c.args.v.now in
    let failed = c.in_err-move_block-in-Ok-Moved in
    let is : c.from_residual.result ≡ Err failed.field-0.0 = search rules in
    passes (after_look {whole = moving_block block (g.N.NorState.device_writes c.args.v.now.nor.now) _} seen.looks failed.ensures (λ tells can. record { needs = can; cut = λ d cut. cut; done = λ d met done. rw seen.looks.reads.writes at done })) is
    (λ tells need.
    let pick : IsPick view.geometry (g.N.NorState.bytes view.nor.now) c.args.limit (Moved block age) = rw c.in-Ok-Moved.field-0-is at (seen.told tells need.1) in
    move_begins _ _ c.args.limit block age need.0 need.1 pick)

pub returns-in_ok-move_block-in-Ok-Moved : goal.returns-in_ok-move_block-in-Ok-Moved
returns-in_ok-move_block-in-Ok-Moved g c =
    let seen = c.in-Ok-Moved.ensures in
    let block = c.in-Ok-Moved.block in
    let age = c.in-Ok-Moved.age in
    let view = c.args.v.now in
    let pick : g.N.NorState.tells view.nor.now → _ → IsPick view.geometry (g.N.NorState.bytes view.nor.now) c.args.limit (Moved block age) = λ tells tidy. rw c.in-Ok-Moved.field-0-is at (seen.told tells tidy) in
    ends_as (after_look {whole = moving_block block (g.N.NorState.device_writes c.args.v.now.nor.now) _} seen.looks c.in_ok-move_block-in-Ok-Moved.ensures (λ tells can. record { needs = can; cut = λ d cut. cut; done = λ d met done. rw seen.looks.reads.writes at done }))
    (λ tells need. move_begins _ _ c.args.limit block age need.0 need.1 (pick tells need.1))
    (λ tells need done. was_moved _ _ c.args.limit block age need.0 need.1 (pick tells need.1) c.in_ok-move_block-in-Ok-Moved.field-0 _ done)
