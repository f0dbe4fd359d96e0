-- The bytes so far, and those of the spans to come.
use Rattle.std.proofs.Common.{◌≡◌, ◌-◌, ◌++◌}
use Rattle.std.specs.List.{range_with_len, flat_map}
use Rattle.table_model.specs.Room.{data_pages}
use Rattle.image_model.specs.Live.{live_at as the_live_at, own as the_own}
use Rattle.image_model.specs.Files.{span_bytes}
use Rattle.image_model.specs.Headers.{size_of}
use Rattle.plain_image.proofs.files.bytes_of.Given as goal

abbrev pub invariant-loop-span : goal.invariant-loop-span
invariant-loop-span l =
    let spans = span_bytes l.g (the_own (the_live_at l.g l.image) l.id) l.head in
    l.bytes.items ++ flat_map spans (range_with_len l.span (l.span-end - l.span)) ≡ flat_map spans (range_with_len 0 (data_pages l.g (size_of l.head)))
