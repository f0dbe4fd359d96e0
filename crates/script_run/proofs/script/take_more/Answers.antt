use Rattle.std.proofs.Common.{◌≡◌, ◌+◌, ◌<◌, ◌≤◌, length, arith, refl, rules, Some}
use Rattle.std.proofs.lemmas.Grind.{common_steps}
use Rattle.std.specs.Prelude.{slice_range}
use Rattle.volume.specs.Holds.{memory}
use Rattle.script_run.proofs.Turning.{took_more, too_long_line, source_failed, too_long, last_as}
use Rattle.script_run.proofs.Working.{works_none, works_end}
use Rattle.tool_parts.specs.declared.ending.Ending.TheVariants.{BadLine, SourceFault, TooLong}
use Rattle.script_run.proofs.script.take_more.Goals as goal

pub returns-then-lines-gt-LINE-clause-turned : goal.returns-then-lines-gt-LINE-clause-turned
returns-then-lines-gt-LINE-clause-turned g c = λ tells m stands.
    let long : 4096 < length (slice_range c.args.lines.now.buf.now c.args.lines.now.start c.args.lines.now.end) = grind (arith, common_steps) in
    too_long_line c.args.volume.now.nor.now (memory c.args.volume.now) m (slice_range c.args.lines.now.buf.now c.args.lines.now.start c.args.lines.now.end) (g.S.Source.left c.args.script.now) c.args.lines.now.taken c.args.lines.now.handed _ stands c.requires.no_break long (omega arith) (omega arith)

pub returns-in-Err-clause-turned : goal.returns-in-Err-clause-turned
returns-in-Err-clause-turned g c = λ tells m stands.
    let few : length (slice_range c.args.lines.now.buf.now c.args.lines.now.start c.args.lines.now.end) ≤ 4096 = grind (arith, common_steps) in
    source_failed c.args.volume.now.nor.now (memory c.args.volume.now) m (slice_range c.args.lines.now.buf.now c.args.lines.now.start c.args.lines.now.end) (g.S.Source.left c.args.script.now) (slice_range c.args.lines.now.buf.now c.args.lines.now.start c.args.lines.now.end) (g.S.Source.left c.gives_more.new.script) c.args.lines.now.taken c.args.lines.now.taken c.args.lines.now.handed stands c.requires.no_break few refl c.in-Err.ensures.err

pub returns-in-Ok-true-clause-turned : goal.returns-in-Ok-true-clause-turned
returns-in-Ok-true-clause-turned g c = λ tells m stands.
    let few : length (slice_range c.args.lines.now.buf.now c.args.lines.now.start c.args.lines.now.end) ≤ 4096 = grind (arith, common_steps) in
    too_long c.args.volume.now.nor.now (memory c.args.volume.now) m (slice_range c.args.lines.now.buf.now c.args.lines.now.start c.args.lines.now.end) (g.S.Source.left c.args.script.now) (g.S.Source.left c.gives_more.new.script) c.args.lines.now.taken c.args.lines.now.handed stands c.requires.no_break few (omega arith) (c.in-Ok-true.ensures.more tells c.in-Ok-true.field-0-test)

pub returns-in-Err-fill-clause-turned : goal.returns-in-Err-fill-clause-turned
returns-in-Err-fill-clause-turned g c = λ tells m stands.
    let few : length (slice_range c.args.lines.now.buf.now c.args.lines.now.start c.args.lines.now.end) ≤ 4096 = grind (arith, common_steps) in
    rw c.fill.ensures.handed (source_failed c.args.volume.now.nor.now (memory c.args.volume.now) m (slice_range c.args.lines.now.buf.now c.args.lines.now.start c.args.lines.now.end) (g.S.Source.left c.args.script.now) (slice_range c.fill.new.self.buf.now c.fill.new.self.start c.fill.new.self.end) (g.S.Source.left c.fill.new.source) c.args.lines.now.taken c.fill.new.self.taken c.args.lines.now.handed stands c.requires.no_break few c.in-Err-fill.ensures.err.0 c.in-Err-fill.ensures.err.1)

pub returns-in-Ok-clause-turned : goal.returns-in-Ok-clause-turned
returns-in-Ok-clause-turned g c = λ tells m stands.
    let count : c.fill.new.self.taken + length (slice_range c.args.lines.now.buf.now c.args.lines.now.start c.args.lines.now.end) ≡ c.args.lines.now.taken + length (slice_range c.fill.new.self.buf.now c.fill.new.self.start c.fill.new.self.end) = grind (arith, common_steps) in
    rw c.fill.ensures.handed (took_more c.args.volume.now.nor.now (memory c.args.volume.now) m (slice_range c.args.lines.now.buf.now c.args.lines.now.start c.args.lines.now.end) (g.S.Source.left c.args.script.now) (slice_range c.fill.new.self.buf.now c.fill.new.self.start c.fill.new.self.end) (g.S.Source.left c.fill.new.source) c.args.lines.now.taken c.fill.new.self.taken c.args.lines.now.handed stands (c.fill.ensures.rest tells) count)

pub returns-in-Ok-eq0-clause-turned : goal.returns-in-Ok-eq0-clause-turned
returns-in-Ok-eq0-clause-turned g c = λ tells m stands.
    let none : c.in-Ok-eq0.field-0 ≡ 0 = search rules in
    let taken : c.fill.new.self.taken ≡ c.args.lines.now.taken = omega (arith, c.in-Ok-eq0.ensures.more.0, none) in
    last_as (Some c.last_line-in-Ok-eq0.result) c.args.volume.now.nor.now c.last_line-in-Ok-eq0.new.volume.nor.now (memory c.args.volume.now) (memory c.last_line-in-Ok-eq0.new.volume) m
    (slice_range c.args.lines.now.buf.now c.args.lines.now.start c.args.lines.now.end) (slice_range c.fill.new.self.buf.now c.fill.new.self.start c.fill.new.self.end)
    (g.S.Source.left c.args.script.now) (g.S.Source.left c.fill.new.source) c.args.lines.now.taken c.fill.new.self.taken c.args.lines.now.handed c.fill.new.self.handed
    (c.in-Ok-eq0.ensures.finished_same none) (c.in-Ok-eq0.ensures.finished tells none) (c.in-Ok-eq0.ensures.finished_new tells none) taken c.fill.ensures.handed (c.last_line-in-Ok-eq0.ensures.turned m stands)

pub returns-then-lines-gt-LINE-clause-works : goal.returns-then-lines-gt-LINE-clause-works
returns-then-lines-gt-LINE-clause-works g c = works_end (BadLine _) c.args.volume.now.nor.now (memory c.args.volume.now) (λ here. here)

pub returns-in-Err-clause-works : goal.returns-in-Err-clause-works
returns-in-Err-clause-works g c = works_end SourceFault c.args.volume.now.nor.now (memory c.args.volume.now) (λ here. here)

pub returns-in-Ok-true-clause-works : goal.returns-in-Ok-true-clause-works
returns-in-Ok-true-clause-works g c = works_end TooLong c.args.volume.now.nor.now (memory c.args.volume.now) (λ here. here)

pub returns-in-Err-fill-clause-works : goal.returns-in-Err-fill-clause-works
returns-in-Err-fill-clause-works g c = works_end SourceFault c.args.volume.now.nor.now (memory c.args.volume.now) (λ here. here)

pub returns-in-Ok-clause-works : goal.returns-in-Ok-clause-works
returns-in-Ok-clause-works g c = works_none c.args.volume.now.nor.now (memory c.args.volume.now)
