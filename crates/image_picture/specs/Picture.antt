-- What a chip looks like.
use Rattle.std.specs.Prelude.{ℕ, ◌+◌, ◌-◌, ◌*◌, List, ◌++◌, codes, decimal}
use Rattle.std.specs.List.{range_with_len, flat_map}
use Rattle.geometry.specs.declared.geometry.Geometry.{Geometry}
use Rattle.geometry.specs.Numbers.{per_block, slots}
use Rattle.image_model.specs.Places.{slot_of, has_magic}
use Rattle.image_picture.specs.declared.style.Style.{Style}
use Rattle.image_picture.specs.declared.style.Style.TheVariants.{Text, Svg}
use Rattle.image_picture.specs.Signs.{sign_at}
use Rattle.image_picture.specs.Pieces.{label, opening, closing, page_piece, row_top}

-- what stands above the blocks
unfoldable pub top_of : Style → Geometry → List ℕ
top_of Text g = codes "block erase   pages\n"
top_of Svg g =
    codes "<svg xmlns='http://www.w3.org/2000/svg' viewBox='0 0 " ++ decimal (12 * per_block g + 400) ++ codes " " ++ decimal (row_top g.blocks + 60)
    ++ codes "' font-family='monospace' font-size='10' xml:space='preserve'>\n"
    ++ codes "<style>.lookup{fill:#777}.free{fill:#fff;stroke:#ccc}.deleted{fill:#ccc}.neither{fill:#000}"
    ++ codes ".header{stroke:#000;stroke-width:2}.index{stroke:#000}</style>\n<text y='9'>block erase   pages</text>\n"

-- what stands below them
unfoldable pub legend_of : Style → Geometry → List ℕ
legend_of Text g = codes "L lookup  . free  x deleted  H object index header  i further index  d data  ? neither  ! no magic\n"
legend_of Svg g =
    codes "<text y='" ++ decimal (row_top g.blocks + 16) ++ codes "'>grey: lookup, pale: deleted, white: free, black: neither, ! no magic</text>\n"
    ++ codes "<text y='" ++ decimal (row_top g.blocks + 30) ++ codes "'>a colour: a file; thick border: header, thin: further index</text>\n</svg>\n"

-- what is written for a page of an image
abbrev pub piece_at : Style → Geometry → List ℕ → ℕ → List ℕ
piece_at style g image p = page_piece style g p (sign_at g image p)

-- the label of a block: the erase count is the last slot of its lookup pages (SPIFFS erase count)
abbrev pub label_at : Geometry → List ℕ → ℕ → List ℕ
label_at g image block = label block (slot_of g image block (slots g - 1)) (has_magic g image block)

-- the pages of a block, each as it is written
abbrev pub pages_of : Style → Geometry → List ℕ → ℕ → List ℕ
pages_of style g image block = flat_map (piece_at style g image) (range_with_len (block * per_block g) (per_block g))

-- the row of a block
abbrev pub row_of : Style → Geometry → List ℕ → ℕ → List ℕ
row_of style g image block = opening style block (label_at g image block) ++ pages_of style g image block ++ closing style

-- the picture of an image: a row for each block, in order
abbrev pub picture_of : Style → Geometry → List ℕ → List ℕ
picture_of style g image = top_of style g ++ flat_map (row_of style g image) (range_with_len 0 g.blocks) ++ legend_of style g
