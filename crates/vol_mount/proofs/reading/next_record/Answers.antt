use Rattle.std.proofs.Common.{Some, sym, ◌∙◌, ap}
use Rattle.std.specs.Option.{option_map}
use Rattle.std.proofs.lemmas.Result.{IfOk-weaker}
use Rattle.table_model.specs.Files.{stat_of}
use Rattle.file_find.specs.Listing.{NextFile}
use Rattle.vol_mount.proofs.Listed.{file_of_head}
use Rattle.vol_mount.proofs.reading.next_record.Goals as goal

pub returns-in-Some-clause-told : goal.returns-in-Some-clause-told
returns-in-Some-clause-told g c = λ tells.
    let view = c.args.v.now in
    let image = g.N.NorState.bytes view.nor.now in
    let looks = c.in_ok-id.ensures.looks in
    let next : NextFile view.geometry image c.args.after (Some (c.in-Some.id, c.in-Some.header)) = rw c.in-Some.is at (c.in_ok-id.ensures.told tells) in
    let told = (rw (looks.same.geometry, looks.reads.bytes) at c.stat_at.ensures.told) (looks.reads.told tells) next.file (file_of_head view.geometry image c.in-Some.id c.in-Some.header next.file next.has) in
    IfOk-weaker c.stat_at.result _ _ (λ stat is. is ∙ sym (ap (option_map stat_of) next.above)) told
