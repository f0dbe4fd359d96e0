-- Ids without a header page, noted as bits.
use Rattle.std.specs.Prelude.{◌≡◌, ◌≢◌, ℕ, ◌+◌, ◌*◌, ◌%◌, ◌<◌, ◌≤◌, List, drop, not, ◌==◌, Option, Some, None, if◌then◌else◌, find}
use Rattle.std.specs.List.{range_with_len}
use Rattle.geometry.specs.declared.geometry.Geometry.{Geometry}
use Rattle.page_layout.specs.declared.header.PageHeader.{PageHeader}
use Rattle.geometry.specs.Numbers.{per_block, usable}
use Rattle.page_layout.specs.Ids.{bit_of}
use Rattle.image_model.specs.Live.{live_at}
use Rattle.flash_view.specs.Found.{has_header, headed}

-- the bits among the bytes for work: behind the pages and the notes on pages
abbrev pub bits_at : Geometry → List ℕ → List ℕ
bits_at g work = drop (4 * g.page + 4 * per_block g) work

-- the least id from 1 to the number of entry pages that has no header page
unfoldable pub unused_id : Geometry → List ℕ → Option ℕ
unused_id g image = find (λ id. not (has_header g image id)) (range_with_len 1 (usable g))

-- the id of a live index page, where it is a header page
abbrev pub head_id : PageHeader → Option ℕ
head_id head = if head.span == 0 then Some (head.id % 0x8000) else None

-- the bits with the id of a page noted, if it is a header page and the id isn't above the most
pub record Notes (most : ℕ) (found : Option ℕ) (old new : List ℕ) : Type 0 where
  pub noted : (id : ℕ) → found ≡ Some id → id ≤ most → bit_of new id ≡ 1
  pub others : (k : ℕ) → found ≢ Some k → bit_of new k ≡ bit_of old k

-- the ids that are noted are those of the header pages below one
pub record Noted (g : Geometry) (image bits : List ℕ) (end : ℕ) : Type 0 where
  pub some : (id : ℕ) → id ≤ usable g → bit_of bits id ≡ 1 → (q : ℕ) × (q < end) × (headed (live_at g image q) ≡ Some id)
  pub all : (q id : ℕ) → q < end → headed (live_at g image q) ≡ Some id → id ≤ usable g → bit_of bits id ≡ 1
