-- The printed text.
use Rattle.std.specs.Prelude.{ℕ, List, [], ◌∷◌, ◌++◌, length, Bool, true, false, not, nat_lt, ◌==◌, ◌&&◌, ◌||◌, Option, Some, None, if◌then◌else◌, codes}
use Rattle.std.specs.Prelude.{decimal, nat_le, ◌*◌}
use Rattle.std.specs.Fmt.{signed_decimal}
use Rattle.std.specs.List.{flat_map, range_with_len}
use Rattle.geometry.specs.declared.geometry.Geometry.{Geometry}
use Rattle.table_model.specs.Table.{File}
use Rattle.table_model.specs.Room.{index_count, data_count, has_room}
use Rattle.image_model.specs.declared.damage.Damage.{Damage}
use Rattle.image_model.specs.declared.damage.Damage.TheVariants.{BadName, Missing, SameName}
use Rattle.image_model.specs.Places.{has_magic, erase_count}
use Rattle.image_model.specs.Tables.{table_of, damaged_of}
use Rattle.image_model.specs.Tidy.{free_blocks}
use Rattle.image_model.specs.Killed.{killed_of}
use Rattle.image_model.specs.Kinds.{is_mixed, mixed_blocks, spoiled_blocks}
use Rattle.image_model.specs.Shared.{shared_blocks, shared_index, open_entries, fits_over}
use Rattle.image_model.specs.Collect.{index_in, data_in, deleted_in, free_in, is_worth, is_fitting, score, chosen_block}
use Rattle.call_script.specs.Texts.{printed, hex_text}

-- a yes or no, written out
abbrev pub yes_no : Bool → List ℕ
yes_no true = codes "yes"
yes_no false = codes "no"

-- a word, a space and a number
abbrev pub counted : List ℕ → ℕ → List ℕ
counted label n = label ++ decimal n

-- an image is tidy: no block lacks its magic or is mixed, no entry is killed, and nothing is damaged
unfoldable pub is_tidy : Geometry → List ℕ → Bool
is_tidy g image = (spoiled_blocks g image == 0) && (mixed_blocks g image == 0) && (killed_of g image == 0) && (length (damaged_of g image) == 0)

-- the lines `spoiled S`, `mixed M`, `tidy YN`, `killed K` and `free F`
unfoldable pub counts_text : Geometry → List ℕ → List ℕ
counts_text g image =
    (counted (codes "spoiled ") (spoiled_blocks g image) ++ 10 ∷ [])
    ++ (counted (codes "mixed ") (mixed_blocks g image) ++ 10 ∷ [])
    ++ (codes "tidy " ++ yes_no (is_tidy g image) ++ 10 ∷ [])
    ++ (counted (codes "killed ") (killed_of g image) ++ 10 ∷ [])
    ++ (counted (codes "free ") (free_blocks g image) ++ 10 ∷ [])

-- the line `room LI LD YN`: the index pages and data pages of a table, and whether it has room
unfoldable pub room_line : Geometry → List File → List ℕ
room_line g table = codes "room " ++ decimal (index_count g table) ++ 32 ∷ decimal (data_count g table) ++ 32 ∷ yes_no (has_room g table) ++ 10 ∷ []

-- the line `shared S index IM free FI fits YN`
unfoldable pub shared_line : Geometry → List ℕ → List ℕ
shared_line g image =
    codes "shared " ++ decimal (shared_blocks g image) ++ codes " index " ++ decimal (shared_index g image) ++ codes " free " ++ decimal (open_entries g image)
    ++ codes " fits " ++ yes_no (fits_over g image) ++ 10 ∷ []

-- bytes as pairs of hexadecimal digits, after a space, where there are any
abbrev pub meta_text : List ℕ → List ℕ
meta_text [] = []
meta_text (b ∷ bs) = 32 ∷ hex_text (b ∷ bs)

-- the line `file ID TYPE SIZE NAME`, then the meta bytes where there are any
unfoldable pub file_line : File → List ℕ
file_line f = codes "file " ++ decimal f.id ++ 32 ∷ decimal f.kind ++ 32 ∷ decimal (length f.bytes) ++ 32 ∷ printed f.name ++ meta_text f.meta ++ 10 ∷ []

-- why an id is damaged: the missing data span, the name, or the id of the file that counts under the same name
abbrev pub cause_text : Damage → List ℕ
cause_text (Missing span) = codes " span " ++ decimal span
cause_text BadName = codes " name"
cause_text (SameName id) = codes " same " ++ decimal id

-- the line of a damaged id
unfoldable pub damage_line : ℕ → Damage → List ℕ
damage_line id cause = codes "damaged " ++ decimal id ++ cause_text cause ++ 10 ∷ []

-- a block that lacks its magic or is mixed
abbrev pub is_unfit : Geometry → List ℕ → ℕ → Bool
is_unfit g image block = not (has_magic g image block) || is_mixed g image block

-- whether a block is worth cleaning, whether it fits, and its score; `-` for each where it lacks its magic or is mixed
unfoldable pub worth_text : Geometry → List ℕ → ℕ → List ℕ
worth_text g image block =
    if is_unfit g image block then codes " worth - fits - score -"
    else codes " worth " ++ yes_no (is_worth g image block) ++ codes " fits " ++ yes_no (is_fitting g image block) ++ codes " score "
    ++ signed_decimal (score g image block)

-- what a block holds: its live index pages and data pages, its deleted and free entries, and its erase count
unfoldable pub held_text : Geometry → List ℕ → ℕ → List ℕ
held_text g image block =
    codes " index " ++ decimal (index_in g image block) ++ codes " data " ++ decimal (data_in g image block) ++ codes " deleted "
    ++ decimal (deleted_in g image block)
    ++ codes " free " ++ decimal (free_in g image block) ++ codes " count " ++ decimal (erase_count g image block)

-- the line of a block
unfoldable pub block_line : Geometry → List ℕ → ℕ → List ℕ
block_line g image block =
    codes "block " ++ decimal block ++ codes " magic " ++ yes_no (has_magic g image block) ++ held_text g image block ++ worth_text g image block ++ 10 ∷ []

-- a block's number, where there is one
abbrev pub block_text : Option ℕ → List ℕ
block_text None = codes "none"
block_text (Some block) = decimal block

-- the line `chosen B` or `chosen none`; `chosen -` where a block lacks its magic or is mixed
unfoldable pub chosen_line : Geometry → List ℕ → List ℕ
chosen_line g image =
    codes "chosen "
    ++ (if nat_lt 0 (spoiled_blocks g image) || nat_lt 0 (mixed_blocks g image) then codes "-" else block_text (chosen_block g image))
    ++ 10 ∷ []

-- what the definitions say of an image
unfoldable pub report_of : Geometry → List ℕ → List ℕ
report_of g image =
    counts_text g image ++ room_line g (table_of g image) ++ shared_line g image ++ flat_map file_line (table_of g image)
    ++ flat_map (λ d. damage_line d.0 d.1) (damaged_of g image) ++ flat_map (block_line g image) (range_with_len 0 g.blocks) ++ chosen_line g image

-- what is printed of the bytes of a chip, where they hold the volume
unfoldable pub explained_of : Geometry → List ℕ → Option (List ℕ)
explained_of g image = if nat_le (g.blocks * g.block) (length image) then Some (report_of g image) else None

-- the line that tells why a volume of these numbers is refused
abbrev pub refused_line : ℕ → List ℕ
refused_line code = codes "! geometry " ++ decimal code ++ 10 ∷ []
