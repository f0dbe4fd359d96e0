use Rattle.std.proofs.Common.{arith, sym, ap, ◌∙◌}
use Rattle.folder_plan.specs.Refusals.{accepted}
use Rattle.folder_plan.proofs.Naming.{long_refused, front_is}
use Rattle.folder_plan.proofs.names.name_of.Goals as goal

pub returns-then-length-ge-FRONT-clause-name : goal.returns-then-length-ge-FRONT-clause-name
returns-then-length-ge-FRONT-clause-name g c = sym (long_refused _ (omega (arith, c.in_ok-length.ensures.length, c.if-length-ge-FRONT.true)))

pub returns-clause-name : goal.returns-clause-name
returns-clause-name g c =
    c.accept.ensures ∙ ap accepted (front_is c.in_ok-length.length c.name.new.into _ c.in_ok-length.ensures.length c.if-length-ge-FRONT.false c.in_ok-length.ensures.front)
