use Rattle.std.proofs.Common.{◌≡◌, ◌≤◌, length, take, ◌∙◌, sym, ap, arith, rules}
use Rattle.nor_memory.proofs.Ranges.{written_back}
use Rattle.trace_tool.proofs.Taking.{script_kept}
use Rattle.trace_tool.proofs.copying.copy_script.Goals as goal

pub returns-clause-copied : goal.returns-clause-copied
returns-clause-copied g c =
    let len_is : c.in-Ok.text.len ≡ length c.in-Ok.text.items = search rules in
    let same : length c.take_script.new.text ≡ length c.in-Ok.text.items = c.take_script.auto.text ∙ ap length c.deref_mut.ensures.value in
    let back = written_back c.in-Ok.text.items c.take_script.new.text c.in-Ok.text.len len_is same in
    let few : c.in-Ok-take_script.end ≤ 16384 = omega (arith, c.if-end-gt-MOST_SCRIPT.false) in
    let size : length c.take_script.new.text ≡ 16385 = same ∙ (sym len_is ∙ c.in-Ok.ensures.len) in
    script_kept g.S.Source c.args.script.now c.take_script.new.text c.truncate.new.self.items c.in-Ok-take_script.end size few
    (c.truncate.ensures.items ∙ ap (take c.in-Ok-take_script.end) back) c.in-Ok-take_script.ensures.finished
