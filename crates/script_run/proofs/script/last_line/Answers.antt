use Rattle.std.proofs.Common.{◌≡◌, ◌+◌, ◌<◌, length, arith, sym, subst, Some, None}
use Rattle.std.proofs.lemmas.Grind.{common_steps}
use Rattle.std.specs.Prelude.{slice_range}
use Rattle.volume.specs.Holds.{memory}
use Rattle.call_script.specs.Lines.{NoBreak}
use Rattle.script_run.proofs.Turning.{no_last, last_done}
use Rattle.script_run.proofs.Working.{works_end, works_last}
use Rattle.tool_parts.specs.declared.ending.Ending.TheVariants.{Done}
use Rattle.script_run.proofs.script.last_line.Goals as goal

pub returns-then-is_empty-clause-turned : goal.returns-then-is_empty-clause-turned
returns-then-is_empty-clause-turned g c = λ m stands.
    let none : length (slice_range c.args.lines.now.buf.now c.args.lines.now.start c.args.lines.now.end) ≡ 0 = grind (arith, common_steps) in
    no_last c.args.volume.now.nor.now (memory c.args.volume.now) m (slice_range c.args.lines.now.buf.now c.args.lines.now.start c.args.lines.now.end) c.args.lines.now.taken c.args.lines.now.handed stands none (omega arith)

pub returns-in-None-clause-turned : goal.returns-in-None-clause-turned
returns-in-None-clause-turned g c = λ m stands.
    let some : 0 < length c.piece-line.result.now = grind (arith, common_steps) in
    let number : c.saturating_add-number.result ≡ c.args.lines.now.handed + 1 = omega arith in
    let plain : NoBreak c.piece-line.result.now = subst NoBreak (sym c.piece-line.ensures) c.requires.no_break in
    rw (sym c.piece-line.ensures) (last_done None c.args.volume.now.nor.now c.answer.new.volume.nor.now (memory c.args.volume.now) (memory c.answer.new.volume) m c.piece-line.result.now c.args.lines.now.taken c.args.lines.now.handed c.saturating_add-number.result plain some (omega arith) number (c.in-None.ensures.did m stands))

pub returns-in-Some-clause-turned : goal.returns-in-Some-clause-turned
returns-in-Some-clause-turned g c = λ m stands.
    let some : 0 < length c.piece-line.result.now = grind (arith, common_steps) in
    let number : c.saturating_add-number.result ≡ c.args.lines.now.handed + 1 = omega arith in
    let plain : NoBreak c.piece-line.result.now = subst NoBreak (sym c.piece-line.ensures) c.requires.no_break in
    rw (sym c.piece-line.ensures) (last_done (Some c.in-Some.ending) c.args.volume.now.nor.now c.answer.new.volume.nor.now (memory c.args.volume.now) (memory c.answer.new.volume) m c.piece-line.result.now c.args.lines.now.taken c.args.lines.now.handed c.saturating_add-number.result plain some (omega arith) number (c.in-Some.ensures.did m stands))

pub returns-then-is_empty-clause-works : goal.returns-then-is_empty-clause-works
returns-then-is_empty-clause-works g c = works_end Done c.args.volume.now.nor.now (memory c.args.volume.now) (λ here. here)

pub returns-in-None-clause-works : goal.returns-in-None-clause-works
returns-in-None-clause-works g c = works_last None c.in-None.ensures.works

pub returns-in-Some-clause-works : goal.returns-in-Some-clause-works
returns-in-Some-clause-works g c = works_last (Some c.in-Some.ending) c.in-Some.ensures.works
