use Rattle.std.proofs.Common.{◌↔◌, ◌≡◌, [], Bool, IsTrue, IfOk, refl, sym, subst}
use Rattle.flash_trace.specs.declared.case.Case.{Case}
use Rattle.flash_trace.specs.declared.picture.Picture.{Picture}
use Rattle.flash_trace.specs.declared.spot.Place.{Place}
use Rattle.flash_trace.specs.declared.ways.Ways.{Ways}
use Rattle.flash_trace.specs.declared.ways.Ahead.{Ahead}
use Rattle.flash_trace.specs.declared.ways.Ahead.TheVariants.{End, Bad, Call}
use Rattle.flash_trace.specs.Places.{part_of}
use Rattle.flash_trace.specs.Stands.{MayLeave, StandsAhead}
use Rattle.flash_trace.proofs.stands.may_stand.Goals as goal

-- where no call is ahead
end_told : (b : Bool) (case : Case) (p : Picture) (place : Place) (a : Ahead) → ((ways : Ways) → a ≡ Call ways → ⊥) → IsTrue b ↔ ((part_of place ≡ []) × MayLeave place p []) → IsTrue b ↔ StandsAhead case p place a
end_told b case p place End other is = is
end_told b case p place (Bad number) other is = is
end_told b case p place (Call ways) other is = absurd (other ways refl)

pub returns-in-Call : goal.returns-in-Call
returns-in-Call c = subst (λ (a : Ahead). IfOk c.stands_in.result (λ b. IsTrue b ↔ StandsAhead c.args.case.now c.args.picture.now c.args.place.now a)) (sym c.in-Call.is) c.stands_in.ensures

pub returns-in_default : goal.returns-in_default
returns-in_default c = end_told _ c.args.case.now c.args.picture.now c.args.place.now c.args.place.now.ahead c.in_default.not-Call c.stands_at_end.ensures
