use Rattle.std.proofs.Common.{Option, Some, sym, subst}
use Rattle.flash_trace.specs.declared.ways.Way.{Way}
use Rattle.flash_trace.specs.Stands.{StandsTight}
use Rattle.flash_trace.proofs.Testing.{ok_told, some_by}
use Rattle.flash_trace.proofs.stands.stands_in_corner.Goals as goal

pub returns-in-Some : goal.returns-in-Some
returns-in-Some c =
    let case = c.args.case.now in
    let plain = c.args.ways.now.plain in
    ok_told _ (StandsTight case c.args.picture.now c.args.place.now plain (Some c.in-Some.tight)) _
    (λ stands. (some_by _ _ _ c.part.ensures c.is_empty.ensures c.if-is_empty.false, subst (λ (o : Option Way). StandsTight case c.args.picture.now c.args.place.now plain o) (sym c.in-Some.is) stands))
    (λ w. subst (λ (o : Option Way). StandsTight case c.args.picture.now c.args.place.now plain o) c.in-Some.is w.1)
    c.stands_tight.ensures
