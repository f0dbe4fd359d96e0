use Rattle.std.proofs.Common.{sym, ◌∙◌}
use Rattle.vol_copy.specs.Stages.{Rests}
use Rattle.vol_copy.specs.Turns.{IsFirst, StopsFirst}
use Rattle.vol_copy.proofs.Exits.{passed}
use Rattle.vol_copy.proofs.Starting.{room_cuts, room_fails, room_there, room_lacks}
use Rattle.vol_copy.proofs.beginning.check_room.Goals as goal

pub returns-in_err-info-clause-cuts : goal.returns-in_err-info-clause-cuts
returns-in_err-info-clause-cuts g c = room_cuts c.args.to.now c.info_on.new.to c.info_on.result c.info_on.ensures.went

pub returns-in_err-info-clause-stops : goal.returns-in_err-info-clause-stops
returns-in_err-info-clause-stops g c =
    passed (StopsFirst (Rests IsFirst) c.args.to.now c.info_on.new.to) c.from_residual.result _ c.from_residual.ensures.1
    (room_fails c.args.to.now c.info_on.new.to c.info_on.result c.info_on.ensures.went _ c.in_err-info.was)

pub returns-then-has_room-clause-cuts : goal.returns-then-has_room-clause-cuts
returns-then-has_room-clause-cuts g c = room_cuts c.args.to.now c.info_on.new.to c.info_on.result c.info_on.ensures.went

pub returns-then-has_room-clause-done : goal.returns-then-has_room-clause-done
returns-then-has_room-clause-done g c =
    room_there c.args.to.now c.info_on.new.to c.info_on.result c.info_on.ensures.went c.in_ok-info.info c.in_ok-info.was (sym c.has_room.ensures ∙ c.if-has_room.true)

pub returns-clause-cuts : goal.returns-clause-cuts
returns-clause-cuts g c = room_cuts c.args.to.now c.info_on.new.to c.info_on.result c.info_on.ensures.went

pub returns-clause-stops : goal.returns-clause-stops
returns-clause-stops g c =
    rw (c.from.ensures, c.from-2.ensures)
    (room_lacks c.args.to.now c.info_on.new.to c.info_on.result c.info_on.ensures.went c.in_ok-info.info c.in_ok-info.was (sym c.has_room.ensures ∙ c.if-has_room.false))
