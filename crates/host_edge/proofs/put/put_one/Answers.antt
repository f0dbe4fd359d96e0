use Rattle.std.proofs.Common.{rules, ◌≡◌, ◌+◌, ℕ, ap, inr}
use Rattle.folder_core.specs.Files.{size_before}
use Rattle.host_edge.proofs.Entries.{on_any}
use Rattle.host_edge.proofs.put.put_one.Goals.{then-first, else-first}
use Rattle.host_edge.proofs.put.put_one.Goals as goal

pub returns-clause-half : goal.returns-clause-half
returns-clause-half g c =
    let before : c.if-first.before ≡ size_before c.args.first c.args.file.now.size = elim c.if-first.branch [ then-first w ↦ search rules | else-first w ↦ search rules ] in
    let count = c.write_some-written.result.count in
    on_any c.write_some-written.result.answer (inr (count, c.write_some-written.ensures.within, ap (λ (n : ℕ). n + count) before))
