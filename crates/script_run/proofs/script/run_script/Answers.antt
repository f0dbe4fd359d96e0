use Rattle.std.proofs.Common.{◌≡◌, ◌++◌, [], List, ℕ, refl, sym, ap}
use Rattle.std.specs.Prelude.{slice_range}
use Rattle.script_run.proofs.Arriving.{run_ends}
use Rattle.script_run.proofs.script.run_script.Goals as goal

pub returns-clause-ends : goal.returns-clause-ends
returns-clause-ends g c = λ m tells stands.
    let fresh : slice_range c.new-lines.result.buf.now c.new-lines.result.start c.new-lines.result.end ≡ [] = rw c.new-lines.ensures.start (rw c.new-lines.ensures.end refl) in
    let script : g.S.Source.left c.args.script.now ≡ slice_range c.new-lines.result.buf.now c.new-lines.result.start c.new-lines.result.end ++ g.S.Source.left c.args.script.now = sym (ap (λ (l : List ℕ). l ++ g.S.Source.left c.args.script.now) fresh) in
    run_ends c.run_lines.result m _ _ (g.S.Source.left c.args.script.now) script fresh c.new-lines.ensures.taken c.new-lines.ensures.handed (c.run_lines.ensures.turned tells m stands)
