use Rattle.std.proofs.Common.{◌≡◌, ℕ, ◌++◌, ◌∷◌, List, arith, sym, subst, ◌∙◌, ap}
use Rattle.std.specs.Prelude.{slice_range}
use Rattle.volume.specs.Holds.{memory}
use Rattle.call_script.specs.Lines.{NoBreak}
use Rattle.script_run.proofs.Turning.{line_done}
use Rattle.script_run.proofs.script.turn.Goals as goal

pub returns-in-Some-clause-turned : goal.returns-in-Some-clause-turned
returns-in-Some-clause-turned g c = λ tells m stands.
    let line_is : c.piece.result.now ≡ slice_range c.args.lines.now.buf.now c.args.lines.now.start c.in-Some.to = c.piece.ensures ∙ ap (λ (b : List ℕ). slice_range b c.args.lines.now.start c.in-Some.to) c.take_line.ensures.buf in
    let plain : NoBreak c.piece.result.now = subst NoBreak (sym line_is) c.in-Some.ensures.line.0 in
    let parts : slice_range c.args.lines.now.buf.now c.args.lines.now.start c.args.lines.now.end ≡ c.piece.result.now ++ (10 ∷ slice_range c.take_line.new.self.buf.now c.take_line.new.self.start c.take_line.new.self.end) =
    c.in-Some.ensures.line.1 ∙ ap (λ (l : List ℕ). l ++ (10 ∷ slice_range c.take_line.new.self.buf.now c.take_line.new.self.start c.take_line.new.self.end)) (sym line_is) in
    rw c.take_line.ensures.taken (line_done c.answer.result c.args.volume.now.nor.now c.answer.new.volume.nor.now (memory c.args.volume.now) (memory c.answer.new.volume) m (slice_range c.args.lines.now.buf.now c.args.lines.now.start c.args.lines.now.end) c.piece.result.now (slice_range c.take_line.new.self.buf.now c.take_line.new.self.start c.take_line.new.self.end) (g.S.Source.left c.args.script.now) c.args.lines.now.taken c.args.lines.now.handed c.take_line.new.self.handed plain parts c.in-Some.ensures.handed (omega arith) (c.answer.ensures.did m stands))
