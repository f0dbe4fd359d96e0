use Rattle.plain_table.specs.Moments.{moment_of}
use Rattle.flash_trace.proofs.Testing.{among_at}
use Rattle.flash_trace.proofs.stands.may_leave.Goals as goal

pub returns : goal.returns
returns c = among_at _ (moment_of c.args.place.now.moment) _ _ _ _ c.as_slice-2.ensures.value c.as_slice.ensures.value c.may_leave.ensures
