use Rattle.std.proofs.Common.{◌++◌, ◌∙◌, ℕ, List, ap}
use Rattle.flash_trace.specs.Judging.{standing_of}
use Rattle.flash_trace.proofs.Verdicts.{said_event, other_event}
use Rattle.flash_trace.proofs.going.go_on.Goals as goal

pub returns-in_ok-place-in-Say-clause-stands : goal.returns-in_ok-place-in-Say-clause-stands
returns-in_ok-place-in-Say-clause-stands c =
    said_event c.args.case.now.g.now.phys c.args.event.now (standing_of c.args.going) c.in-Say.piece c.in_ok-place-in-Say.place.said.items c.in-Say.is
    (c.in_ok-place-in-Say.ensures.said ∙ ap (λ (l : List ℕ). c.args.going.place.said.items ++ l) c.as_slice.ensures)

pub returns-in_ok-picture-in_default : goal.returns-in_ok-picture-in_default
returns-in_ok-picture-in_default c = record {
  going = record { picture = c.in_ok-picture-in_default.ensures.picture; place = c.requires.going.place };
  stands = other_event c.args.case.now.g.now.phys c.args.event.now (standing_of c.args.going) c.in_ok-picture-in_default.picture.image.items c.in_default.not-Say c.in_ok-picture-in_default.ensures.image;
}
