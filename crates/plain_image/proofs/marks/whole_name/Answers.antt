use Rattle.std.proofs.Common.{◌∙◌, sym}
use Rattle.image_model.specs.Live.{live_at}
use Rattle.plain_image.proofs.Marked.{name_some, name_dead}
use Rattle.plain_image.proofs.marks.whole_name.Goals as goal

pub returns-in-Some-own : goal.returns-in-Some-own
returns-in-Some-own c =
    c.name_of.ensures ∙ name_some c.args.g.now (live_at c.args.g.now c.args.image.now) c.args.id c.in-Some.q c.args.files.now c.in-Some-own.head.now c.requires.files c.requires.id (sym c.header_of.ensures ∙ c.in-Some.is)
    c.in-Some-own.ensures.value

pub returns-in-None : goal.returns-in-None
returns-in-None c =
    name_dead c.args.g.now (live_at c.args.g.now c.args.image.now) c.args.id c.in-Some.q c.args.files.now c.requires.files c.requires.id (sym c.header_of.ensures ∙ c.in-Some.is) c.in-None.ensures.value
