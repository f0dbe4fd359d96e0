use Rattle.std.proofs.Common.{◌≡◌, ◌+◌, ◌-◌, ◌<◌, ◌^◌, ◌∙◌, arith, refl}
use Rattle.table_model.specs.Room.{index_pages, data_pages, index_count, data_count}
use Rattle.image_model.specs.Places.{IsImage}
use Rattle.image_model.specs.Tables.{table_of}
use Rattle.file_calls.proofs.Resizing.{few_index, resized_room}
use Rattle.file_calls.proofs.room.has_room_for.Goals as goal

pub overflow_add-live : goal.overflow_add-live
overflow_add-live g c =
    let few : index_pages c.args.v.now.geometry c.args.to < 2 ^ 27 = few_index c.args.v.now.geometry c.args.to c.ranges.to.fits in
    rw c.index_pages.ensures (omega (arith, few, c.requires.index))

pub returns : goal.returns
returns g c = λ tells tidy sums f new is.
    let view = c.args.v.now in
    let image = g.N.NorState.bytes view.nor.now in
    let live = c.args.live.now in
    let size = g.met.N.Nor.sized view.nor.now tells in
    let whole : IsImage view.geometry image = record { len = omega (arith, size, view.volume) } in
    let tallies = c.tidy_counts.ensures view.geometry image whole tidy in
    let index : live.index_pages ≡ index_count view.geometry (table_of view.geometry image) = sums.index ∙ tallies.0 in
    let pages : live.data_pages ≡ data_count view.geometry (table_of view.geometry image) = sums.pages ∙ tallies.1 in
    let asked : c.saturating_sub.result ≡ live.index_pages + index_pages view.geometry c.args.to - index_pages view.geometry c.args.from = rw (c.saturating_sub.ensures, c.index_pages.ensures, c.index_pages-2.ensures) refl in
    let needed : c.saturating_sub-2.result ≡ live.data_pages + data_pages view.geometry c.args.to - data_pages view.geometry c.args.from = rw (c.saturating_sub-2.ensures, c.data_pages.ensures.pages, c.data_pages-2.ensures.pages) refl in
    rw (c.leaves_two.ensures, asked, needed) (resized_room view.geometry image c.args.from c.args.to f new tidy is live.index_pages live.data_pages index pages)
