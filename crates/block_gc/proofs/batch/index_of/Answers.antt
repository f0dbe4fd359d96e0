use Rattle.std.proofs.Common.{sym, ◌∙◌, inl, inr}
use Rattle.flash_view.proofs.Looking.{looks_then}
use Rattle.block_gc.proofs.DataOwners.{one_found, in_range, inside_or, found_for}
use Rattle.block_gc.proofs.batch.index_of.Goals.{then-id-eq0-via-then-id-eq0, then-id-eq0-via-else-id-eq0+then-id-gt32766, then-id-eq0-via-else-id-eq0+else-id-gt32766+then-not-is_entry_page}
use Rattle.block_gc.proofs.batch.index_of.Goals as goal

pub returns-in_default-clause-told : goal.returns-in_default-clause-told
returns-in_default-clause-told g c = λ tells tidy is_data.
    let looks = c.in_ok-head.ensures.looks in
    let found = rw (looks.same.geometry, looks.reads.bytes, c.from.ensures) at (c.in_ok-index.ensures.told (looks.reads.told tells) (rw (looks.same.geometry, looks.reads.bytes) tidy)) in
    one_found c.args.v.now.geometry (g.N.NorState.bytes c.args.v.now.nor.now) c.args.page (record { len = rw (g.met.N.Nor.sized c.args.v.now.nor.now tells) c.args.v.now.volume }) tidy is_data
    c.in_ok-head.head (c.in_ok-head.ensures.told tells) c.object.result c.object.ensures c.index_span-span.result (rw c.in_ok-head.ensures.looks.same.geometry at c.index_span-span.ensures)
    (sym c.in_default.is ∙ found)

pub returns-then-id-eq0-clause-told : goal.returns-then-id-eq0-clause-told
returns-then-id-eq0-clause-told g c = λ tells tidy is_data.
    let looks = c.in_ok-head.ensures.looks in
    let found = rw (looks.same.geometry, looks.reads.bytes, c.from.ensures) at (c.in_ok-index.ensures.told (looks.reads.told tells) (rw (looks.same.geometry, looks.reads.bytes) tidy)) in
    let both = looks_then c.in_ok-head.ensures.looks c.in_ok-index.ensures.looks in
    let three = looks_then both c.in_ok-header.ensures.looks in
    elim c.then-id-eq0.branch [
      | then-id-eq0-via-then-id-eq0 w ↦ in_range c.args.v.now.geometry (g.N.NorState.bytes c.args.v.now.nor.now) c.args.page (record { len = rw (g.met.N.Nor.sized c.args.v.now.nor.now tells) c.args.v.now.volume }) tidy is_data
          c.in_ok-head.head (c.in_ok-head.ensures.told tells) c.object.result c.object.ensures c.index_span-span.result (rw c.in_ok-head.ensures.looks.same.geometry at c.index_span-span.ensures) c.in-Some.index (sym c.in-Some.is ∙ found)
          c.in_ok-header.field-0 (rw (both.same.geometry, both.reads.bytes) at (c.in_ok-header.ensures.told (both.reads.told tells))) c.file_id-id.result c.file_id-id.ensures.id c.file_id-id.ensures.word (inl w.if-id-eq0.true)
      | then-id-eq0-via-else-id-eq0+then-id-gt32766 w ↦ in_range c.args.v.now.geometry (g.N.NorState.bytes c.args.v.now.nor.now) c.args.page (record { len = rw (g.met.N.Nor.sized c.args.v.now.nor.now tells) c.args.v.now.volume }) tidy is_data
          c.in_ok-head.head (c.in_ok-head.ensures.told tells) c.object.result c.object.ensures c.index_span-span.result (rw c.in_ok-head.ensures.looks.same.geometry at c.index_span-span.ensures) c.in-Some.index (sym c.in-Some.is ∙ found)
          c.in_ok-header.field-0 (rw (both.same.geometry, both.reads.bytes) at (c.in_ok-header.ensures.told (both.reads.told tells))) c.file_id-id.result c.file_id-id.ensures.id c.file_id-id.ensures.word (inr w.if-id-gt32766.true)
      | then-id-eq0-via-else-id-eq0+else-id-gt32766+then-not-is_entry_page w ↦ inside_or c.args.v.now.geometry (g.N.NorState.bytes c.args.v.now.nor.now) c.args.page (record { len = rw (g.met.N.Nor.sized c.args.v.now.nor.now tells) c.args.v.now.volume }) tidy is_data
          c.in_ok-head.head (c.in_ok-head.ensures.told tells) c.object.result c.object.ensures c.index_span-span.result (rw c.in_ok-head.ensures.looks.same.geometry at c.index_span-span.ensures) c.in-Some.index (sym c.in-Some.is ∙ found)
          c.in_ok-header.field-0 (rw (both.same.geometry, both.reads.bytes) at (c.in_ok-header.ensures.told (both.reads.told tells))) c.file_id-id.result c.file_id-id.ensures.id
          w.is_entry_page.result (rw three.same.geometry at w.is_entry_page.ensures.is) w.if-not-is_entry_page.true
    ]

pub returns-clause-told : goal.returns-clause-told
returns-clause-told g c = λ tells tidy is_data.
    let looks = c.in_ok-head.ensures.looks in
    let found = rw (looks.same.geometry, looks.reads.bytes, c.from.ensures) at (c.in_ok-index.ensures.told (looks.reads.told tells) (rw (looks.same.geometry, looks.reads.bytes) tidy)) in
    let both = looks_then c.in_ok-head.ensures.looks c.in_ok-index.ensures.looks in
    found_for c.args.v.now.geometry (g.N.NorState.bytes c.args.v.now.nor.now) c.args.page (record { len = rw (g.met.N.Nor.sized c.args.v.now.nor.now tells) c.args.v.now.volume }) tidy is_data
    c.in_ok-head.head (c.in_ok-head.ensures.told tells) c.object.result c.object.ensures c.index_span-span.result (rw c.in_ok-head.ensures.looks.same.geometry at c.index_span-span.ensures) c.in-Some.index (sym c.in-Some.is ∙ found)
    c.in_ok-header.field-0 (rw (both.same.geometry, both.reads.bytes) at (c.in_ok-header.ensures.told (both.reads.told tells))) c.file_id-id.result c.file_id-id.ensures.id
