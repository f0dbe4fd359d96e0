-- What the header pages tell of a name that is to be given.
use Rattle.std.specs.Prelude.{◌≡◌, ℕ, ◌+◌, ◌*◌, ◌<◌, ◌≤◌, List, Bool, true, false, None, is_some, IfSome, slice_index}
use Rattle.geometry.specs.declared.geometry.Geometry.{Geometry}
use Rattle.geometry.specs.Numbers.{per_block, lookups, entries}
use Rattle.nor_core.specs.Flash.{word_at}
use Rattle.page_layout.specs.Layout.{is_between}
use Rattle.image_model.specs.Places.{block_of, entry_of, slot_of, has_magic}
use Rattle.image_model.specs.Live.{live_at}
use Rattle.flash_view.specs.Found.{first_named, headed, named_at}
use Rattle.free_search.specs.Ids.{unused_id, Noted}
use Rattle.free_search.specs.declared.naming.Naming.{Naming}
use Rattle.free_search.specs.declared.naming.Naming.TheVariants.{Taken, Free}

-- an id that is told free lies from 1 to the most
abbrev pub IsNamingWithin : (most : ℕ) → Naming → Type 0
IsNamingWithin most Taken = Unit
IsNamingWithin most (Free found) = IfSome found (λ id. (1 ≤ id) × (id ≤ most))

-- a header page has the name, or none has it, and this is the least id without a header page
abbrev pub NamingOf : Geometry → List ℕ → (name : List ℕ) → Naming → Type 0
NamingOf g image name Taken = is_some (first_named g image name) ≡ true
NamingOf g image name (Free found) = (first_named g image name ≡ None) × (found ≡ unused_id g image)

-- the header pages below one were looked at: their ids are noted, and none of them has the name
pub record Scanned (g : Geometry) (image bits name : List ℕ) (end : ℕ) : Type 0 where
  pub noted : Noted g image bits end
  pub unnamed : (q : ℕ) → q < end → named_at (live_at g image q) name ≡ None

-- a header page has the name, or those below one were looked at
abbrev pub ScannedTo : Geometry → (image bits name : List ℕ) (end : ℕ) → Bool → Type 0
ScannedTo g image bits name end true = is_some (first_named g image name) ≡ true
ScannedTo g image bits name end false = Scanned g image bits name end

-- a page's entry is one of index pages, and its block has its magic
pub record IsIndexEntry (g : Geometry) (image : List ℕ) (page entry : ℕ) : Type 0 where
  pub number : entry ≡ entry_of g image page
  pub between : is_between 0x8000 0xFFFE entry ≡ true
  pub magic : has_magic g image (block_of g page) ≡ true

-- the first entry page of a block
abbrev pub first_entry : Geometry → ℕ → ℕ
first_entry g block = block * per_block g + lookups g

-- so many slots are those of a block from its entry `start` on
pub record AreSlots (g : Geometry) (image bytes : List ℕ) (block start count : ℕ) : Type 0 where
  pub magic : has_magic g image block ≡ true
  pub small : (k : ℕ) → slice_index bytes k < 256
  pub slots : (i : ℕ) → i < count → word_at bytes (2 * i) ≡ slot_of g image block (start + i)

-- a block has no header page, or has its magic
abbrev pub LacksIndex : Geometry → List ℕ → (block : ℕ) → Bool → Type 0
LacksIndex g image block true = (i : ℕ) → i < entries g → headed (live_at g image (first_entry g block + i)) ≡ None
LacksIndex g image block false = has_magic g image block ≡ true
