-- Room for an index page.
use Rattle.std.proofs.Common.{◌≡◌, ℕ, ◌+◌, List, sym, ◌∙◌, ap, arith, true, false}
use Rattle.std.proofs.lemmas.Bool.{le-leb, leb-true, false_from_ne_true}
use Rattle.geometry.specs.declared.geometry.Geometry.{Geometry}
use Rattle.geometry.specs.Numbers.{ceil, entries}
use Rattle.table_model.specs.Table.{File}
use Rattle.table_model.specs.Room.{index_count, data_count, has_room}
use Rattle.image_model.specs.Places.{IsImage}
use Rattle.image_model.specs.Tables.{table_of}
use Rattle.image_model.specs.Tidy.{IsTidy, HasReserve}
use Rattle.image_laws.proofs.Serving.{ceil-mono}
use Rattle.room_laws.specs.Stopping.{HasRoomFor}
use Rattle.room_laws.proofs.Tallies.{entries_pos}
use Rattle.room_laws.proofs.Stops.{reserve_can_clean, stopped_has_pages}
use Rattle.run_model.specs.Runs.{has_index_room, LacksPage}

-- a table that has room has it for an index page
pub room_for_index : (g : Geometry) (files : List File) → has_room g files ≡ true → has_index_room g files ≡ true
unfolding has_room has_index_room
room_for_index g files room =
    let less = ceil-mono (data_count g files) (data_count g files + 1) (entries g) (entries_pos g) (omega arith) in
    let most = leb-true (ceil (index_count g files + 1) (entries g) + ceil (data_count g files + 1) (entries g) + 2) g.blocks room in
    le-leb (ceil (index_count g files + 1) (entries g) + ceil (data_count g files) (entries g) + 2) g.blocks (omega (arith, less, most))

-- where an image with two free blocks lacks a page, its table has no room for one
pub lacks_room : (g : Geometry) (image : List ℕ) → IsImage g image → IsTidy g image → HasReserve g image → LacksPage g image → has_index_room g (table_of g image) ≡ false
unfolding has_index_room
lacks_room g image is tidy reserve lacks = false_from_ne_true _ (λ room.
    let same = ap (λ (k : ℕ). ceil k (entries g)) (let none : data_count g (table_of g image) + 0 ≡ data_count g (table_of g image) = omega arith in none) in
    let most = leb-true (ceil (index_count g (table_of g image) + 1) (entries g) + ceil (data_count g (table_of g image)) (entries g) + 2) g.blocks room in
    let enough : HasRoomFor g image 1 0 = omega (arith, same, most) in
    let no : true ≡ false = sym (stopped_has_pages g image 1 0 (reserve_can_clean g image is tidy reserve) enough lacks.stuck) ∙ lacks.none_had in
    absurd (cc))
