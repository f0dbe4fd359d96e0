use Rattle.flash_view.proofs.Looking.{looks_none}
use Rattle.flash_view.proofs.Stepped.{looked}
use Rattle.file_write.proofs.AppendEnds.{stays}
use Rattle.file_write.proofs.LastPage.{size_fits, room_is}
use Rattle.file_write.proofs.append.append_found.Goals as goal

pub returns-in_default-clause-step : goal.returns-in_default-clause-step
returns-in_default-clause-step g c = λ f.
    looked (looks_none c.args.v.now) (λ e. absurd (cc)) c.missing.ensures
    (λ tells can. (stays _ _ _ _ _ _ _ can, absurd (c.end_of.ensures.all can.can.some (room_is _ _ _ _ _ _ _ can) (size_fits _ _ _ _ _ _ _ can) c.in_default.is)))
