use Rattle.std.proofs.Common.{arith}
use Rattle.flash_view.proofs.Looking.{looks_then}
use Rattle.flash_view.proofs.Stepped.{looked, look_faults, after_look, fault_passes, done_as, view_image}
use Rattle.room_laws.proofs.Sorted.{neat_tells_free}
use Rattle.block_gc.specs.Moves.{moving}
use Rattle.block_gc.proofs.PartedPages.{part_stays, plain_by, held_by, none_beside, page_passes, place_found, page_moves}
use Rattle.block_gc.proofs.parting.part_page.Goals as goal

pub returns-in_err-c-clause-step : goal.returns-in_err-c-clause-step
returns-in_err-c-clause-step g c =
    let seen = c.in_err-c.ensures.looks in
    look_faults seen.only seen.cause c.from_residual.ensures.0 c.from_residual.ensures.1 (λ tells can. part_stays _ _ can.0)

pub returns-then-c-eq0-clause-step : goal.returns-then-c-eq0-clause-step
returns-then-c-eq0-clause-step g c =
    let seen = c.in_ok-c.ensures.looks in
    looked seen.only (λ e. absurd (cc)) tt (λ tells can.
    let counts = rw c.block_of-block.ensures.block at (seen.told tells) in
    (part_stays _ _ can.0, page_passes _ _ _ can.0 can.1 (c.requires.index tells) (plain_by _ _ _ _ counts c.if-c-eq0.true)))

pub returns-in_err-to-clause-step : goal.returns-in_err-to-clause-step
returns-in_err-to-clause-step g c =
    let first = c.in_ok-c.ensures.looks in
    let seen = c.in_err-to.ensures.looks in
    look_faults (looks_then first.only seen.only) (let rose = seen.cause in let more = first.only.same.faults in omega arith) c.from_residual-in_err-to.ensures.0 c.from_residual-in_err-to.ensures.1 (λ tells can. part_stays _ _ can.0)

pub returns-in_default-clause-step : goal.returns-in_default-clause-step
returns-in_default-clause-step g c =
    let first = c.in_ok-c.ensures.looks in
    let seen = c.in_ok-to.ensures.looks in
    looked (looks_then first.only seen.only) (λ e. absurd (cc)) c.no_place.ensures (λ tells can.
    let counts = rw c.block_of-block.ensures.block at (first.told tells) in
    let none = rw (c.in_default.is, first.only.same.geometry, first.only.reads.bytes) at (seen.told (first.only.reads.told tells)) in
    (part_stays _ _ can.0, absurd (place_found _ _ _ can.0 can.1 (c.requires.index tells) (held_by _ _ _ _ counts c.if-c-eq0.false) (none (neat_tells_free _ _ can.0)))))

pub returns-in_err-move_index-clause-step : goal.returns-in_err-move_index-clause-step
returns-in_err-move_index-clause-step g c =
    let first = c.in_ok-c.ensures.looks in
    let seen = c.in_ok-to.ensures.looks in
    fault_passes (after_look {last = moving c.args.page c.in-Some.to} (looks_then first.only seen.only) c.in_err-move_index.ensures.step (λ tells can.
    let counts = rw c.block_of-block.ensures.block at (first.told tells) in
    let found = rw (c.in-Some.is, first.only.same.geometry, first.only.reads.bytes) at (seen.told (first.only.reads.told tells)) in
    page_moves _ _ _ can.0 can.1 (c.requires.index tells) (held_by _ _ _ _ counts c.if-c-eq0.false) (view_image c.args.v.now (g.met.N.Nor.sized _) tells) _ (found (neat_tells_free _ _ can.0))))
    c.from_residual-in_err-move_index.ensures.0 c.from_residual-in_err-move_index.ensures.1

pub returns-clause-step : goal.returns-clause-step
returns-clause-step g c =
    let first = c.in_ok-c.ensures.looks in
    let seen = c.in_ok-to.ensures.looks in
    done_as (after_look {last = moving c.args.page c.in-Some.to} (looks_then first.only seen.only) c.in_ok-move_index.ensures.step (λ tells can.
    let counts = rw c.block_of-block.ensures.block at (first.told tells) in
    let found = rw (c.in-Some.is, first.only.same.geometry, first.only.reads.bytes) at (seen.told (first.only.reads.told tells)) in
    page_moves _ _ _ can.0 can.1 (c.requires.index tells) (held_by _ _ _ _ counts c.if-c-eq0.false) (view_image c.args.v.now (g.met.N.Nor.sized _) tells) _ (found (neat_tells_free _ _ can.0))))

pub returns-in_err-move_index-clause-idle : goal.returns-in_err-move_index-clause-idle
returns-in_err-move_index-clause-idle g c = λ tells tidy.
    let counts = rw c.block_of-block.ensures.block at (c.in_ok-c.ensures.looks.told tells) in
    absurd (none_beside _ _ _ tidy (record { index = c.requires.index tells; held = held_by _ _ _ _ counts c.if-c-eq0.false }))

pub returns-clause-idle : goal.returns-clause-idle
returns-clause-idle g c = λ tells tidy.
    let counts = rw c.block_of-block.ensures.block at (c.in_ok-c.ensures.looks.told tells) in
    absurd (none_beside _ _ _ tidy (record { index = c.requires.index tells; held = held_by _ _ _ _ counts c.if-c-eq0.false }))
