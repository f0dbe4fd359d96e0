use Rattle.std.proofs.Common.{◌≡◌, sym, ◌∙◌}
use Rattle.image_model.specs.Headers.{size_of}
use Rattle.image_model.specs.Places.{page_of}
use Rattle.page_layout.specs.Layout.{header_at}
use Rattle.flash_view.proofs.Looking.{looks_then}
use Rattle.page_renew.proofs.HeaderRenewed.{is_home}
use Rattle.page_renew.proofs.finding.find_home.Goals as goal

pub returns-then-not-is_header_of-clause-told : goal.returns-then-not-is_header_of-clause-told
returns-then-not-is_header_of-clause-told g c = λ tells tidy.
    let view = c.args.v.now in
    let image = g.N.NorState.bytes view.nor.now in
    let first = c.in_ok-header.ensures in
    let looks = first.looks in
    let hold = c.in_ok-hold.ensures.looks in
    let both = looks_then looks hold in
    let head : c.head_and_size-size.result.0 ≡ header_at (page_of view.geometry image c.in-Some.header) = rw (c.head_and_size-size.ensures.head, c.held.ensures.bytes (hold.reads.told (looks.reads.told tells)), hold.same.geometry, looks.same.geometry, hold.reads.bytes, looks.reads.bytes) in
    absurd (is_home view.geometry image c.args.id c.in-Some.header c.head_and_size-size.result.0 c.is_header_of.result (sym c.in-Some.is ∙ first.told tells tidy) head c.is_header_of.ensures.word (rw both.same.geometry at c.is_header_of.ensures.all) c.if-not-is_header_of.true)

pub returns-clause-told : goal.returns-clause-told
returns-clause-told g c = λ tells tidy.
    let view = c.args.v.now in
    let image = g.N.NorState.bytes view.nor.now in
    let first = c.in_ok-header.ensures in
    let looks = first.looks in
    let hold = c.in_ok-hold.ensures.looks in
    let size : c.head_and_size-size.result.1 ≡ size_of (page_of view.geometry image c.in-Some.header) = rw (c.head_and_size-size.ensures.size, c.held.ensures.bytes (hold.reads.told (looks.reads.told tells)), hold.same.geometry, looks.same.geometry, hold.reads.bytes, looks.reads.bytes) in
    (sym (sym c.in-Some.is ∙ first.told tells tidy), size)
