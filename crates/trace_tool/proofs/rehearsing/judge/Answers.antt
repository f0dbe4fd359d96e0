use Rattle.std.proofs.Common.{rules}
use Rattle.tool_parts.specs.Lent.{lengths_of}
use Rattle.trace_tool.proofs.Judged.{traced}
use Rattle.trace_tool.proofs.rehearsing.judge.Goals as goal

pub returns-in-Ok : goal.returns-in-Ok
returns-in-Ok c =
    traced c.args.g.now (lengths_of c.args.bufs.now) c.args.copies.image.items c.args.copies.script.items c.in-Some.done.recorder c.in-Some.done.status c.in-Ok.verdict c.ending_of.result _ _ _ _ _
    c.in-Some.ensures c.as_slice.ensures.value c.requires.size c.requires.small c.requires.short c.in-Ok.ensures.verdict c.first.ensures c.as_slice-script.ensures.value c.events.ensures c.min-slots.ensures
    c.ending_of.ensures
