-- The record of a whole file, by its header page.
use Rattle.std.proofs.Common.{◌≡◌, ℕ, List, length, refl, sym, ◌∙◌, ap}
use Rattle.std.specs.Prelude.{Some, Ok}
use Rattle.geometry.specs.declared.geometry.Geometry.{Geometry}
use Rattle.table_model.specs.Table.{File}
use Rattle.table_model.specs.Files.{stat_of}
use Rattle.image_model.specs.Places.{page_of, IsImage}
use Rattle.image_model.specs.Headers.{size_of}
use Rattle.image_model.specs.Live.{live_at, own}
use Rattle.image_laws.proofs.Judge.{found_parts}
use Rattle.image_laws.proofs.Reindexed.{judged-parts}
use Rattle.file_read.specs.Whole.{IsFileAt}
use Rattle.file_read.specs.Stats.{stat_in}
use Rattle.file_read.proofs.Names.{own_page}
use Rattle.file_read.proofs.Pieces.{file_at, first_at, size_told}

pub told_stat : (g : Geometry) (image : List ℕ) (id header : ℕ) (f : File) → IsImage g image → IsFileAt g image id header f → stat_in g (page_of g image header) id ≡ Some (stat_of f)
told_stat g image id header f whole file =
    let w = found_parts g (own (live_at g image) id) id header (Ok f) file.is in
    let page : page_of g image header ≡ w.0 = own_page g image id header w.0 w.2 in
    let fields = judged-parts g (own (live_at g image) id) id w.0 f w.3 in
    let size : size_of (page_of g image header) ≡ length f.bytes = size_told g image id f header (size_of (page_of g image header)) whole (file_at g image id header f file) (first_at g image id header f file) refl in
    let size' : size_of w.0 ≡ length f.bytes = rw page at size in
    let name = ap (λ (x : File). x.name) fields.2 in
    let kind = ap (λ (x : File). x.kind) fields.2 in
    let meta = ap (λ (x : File). x.meta) fields.2 in
    let the_id = ap (λ (x : File). x.id) fields.2 in
    rw (page, fields.1) (cc (name, kind, meta, the_id, size'))
