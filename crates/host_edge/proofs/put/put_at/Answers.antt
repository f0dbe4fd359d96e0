use Rattle.std.proofs.Common.{◌∙◌, ap, inl, inr, ⊎_elim}
use Rattle.std.proofs.Math.Seq.{map-set_same}
use Rattle.std.proofs.lemmas.Result.{on_ok_weaker, on_err_weaker}
use Rattle.host_edge.specs.declared.host_file.HostFile.{HostFile}
use Rattle.host_edge.specs.Host.{host_entry}
use Rattle.host_edge.proofs.Entries.{entries_after}
use Rattle.host_edge.proofs.put.put_at.Goals as goal

pub returns-clause-done : goal.returns-clause-done
returns-clause-done g c = on_ok_weaker c.put_one.result (λ size. entries_after c.args.files.now.items c.args.i c.index_mut.result.now c.put_one.new.file c.args.first _ c.requires c.index_mut.ensures.value c.put_one.ensures.name size) c.put_one.ensures.done

pub returns-clause-half : goal.returns-clause-half
returns-clause-half g c = on_err_weaker c.put_one.result (⊎_elim
    (λ same. inl (map-set_same host_entry c.args.files.now.items c.args.i c.put_one.new.file c.index_mut.result.now (ap (λ (f : HostFile). host_entry f) (same ∙ c.index_mut.ensures.value))))
    (λ some. inr (some.0, some.1, entries_after c.args.files.now.items c.args.i c.index_mut.result.now c.put_one.new.file c.args.first some.0 c.requires c.index_mut.ensures.value c.put_one.ensures.name some.2)))
    c.put_one.ensures.half
