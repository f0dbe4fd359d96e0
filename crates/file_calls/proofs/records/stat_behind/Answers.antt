use Rattle.std.proofs.Common.{◌≡◌, ◌+◌, sym, ◌∙◌, arith, Some, inl, inr}
use Rattle.image_model.specs.Places.{IsImage, page_of}
use Rattle.image_model.specs.Live.{live_at, own}
use Rattle.image_model.specs.Files.{index_page}
use Rattle.file_calls.proofs.Recording.{has_at, of_after, told_at}
use Rattle.file_calls.proofs.records.stat_behind.Goals as goal

pub returns-clause-told : goal.returns-clause-told
returns-clause-told g c = λ tells tidy.
    let view = c.args.v.now in
    let image = g.N.NorState.bytes view.nor.now in
    let size = g.met.N.Nor.sized view.nor.now tells in
    let whole : IsImage view.geometry image = record { len = omega (arith, size, view.volume) } in
    let looked = c.in_ok-page.ensures in
    let fetched = c.in_ok-fetch.ensures in
    let at : index_page view.geometry (own (live_at view.geometry image) (c.args.after + 1)) 0 ≡ Some c.in-Some.page = sym (rw c.in-Some.is at (looked.told tells tidy)) in
    let bytes : c.fetched.result.now ≡ page_of view.geometry image c.in-Some.page = (rw (fetched.looks.same.geometry, looked.looks.same.geometry) at c.fetched.ensures.bytes) ∙ (rw (looked.looks.same.geometry, looked.looks.reads.bytes) at (fetched.told (looked.looks.reads.told tells))) in
    let told = c.stat_in.ensures ∙ rw (bytes, fetched.looks.same.geometry, looked.looks.same.geometry) (told_at view.geometry image whole tidy (c.args.after + 1) c.in-Some.page at) in
    inr (told ∙ of_after view.geometry image whole tidy c.args.after (has_at view.geometry image whole tidy (c.args.after + 1) c.in-Some.page at))
