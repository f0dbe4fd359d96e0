-- Entries that are found by their numbers, and live pages that are found by their entries.
use Rattle.std.specs.Prelude.{◌≡◌, ℕ, ◌+◌, ◌*◌, ◌<◌, ◌≤◌, List, true, false, Option, Some, None}
use Rattle.geometry.specs.declared.geometry.Geometry.{Geometry}
use Rattle.page_layout.specs.declared.header.PageHeader.{PageHeader}
use Rattle.page_layout.specs.Layout.{header_at, is_between}
use Rattle.geometry.specs.Numbers.{entries, page_count, per_block, lookups}
use Rattle.image_model.specs.Places.{page_of, slot_of, entry_of, is_entry_page}
use Rattle.image_model.specs.Live.{is_live}

-- entry i of a block is a number of two bytes, and doesn't lie between two others
pub record IsPassedSlot (g : Geometry) (image : List ℕ) (block low high i : ℕ) : Type 0 where
  pub word : slot_of g image block i < 0x10000
  pub none : is_between low high (slot_of g image block i) ≡ false

-- entry i of a block has the number n of two bytes, which lies between two others, and none from `from` on before it does
pub record IsNextSlot (g : Geometry) (image : List ℕ) (block from low high i n : ℕ) : Type 0 where
  pub word : n < 0x10000
  pub number : n ≡ slot_of g image block i
  pub between : is_between low high n ≡ true
  pub passed : (k : ℕ) → from ≤ k → k < i → IsPassedSlot g image block low high k

-- the first entry of a block from `from` on, and before `to`, whose number lies between two others, or none
abbrev pub FirstSlot : Geometry → List ℕ → (block from to low high : ℕ) → Option (ℕ × ℕ) → Type 0
FirstSlot g image block from to low high None = (k : ℕ) → from ≤ k → k < to → IsPassedSlot g image block low high k
FirstSlot g image block from to low high (Some (i, n)) = IsNextSlot g image block from low high i n

-- the same of all entries of the block
abbrev pub NextSlot : Geometry → List ℕ → (block from low high : ℕ) → Option (ℕ × ℕ) → Type 0
NextSlot g image block from low high found = FirstSlot g image block from (entries g) low high found

-- a page has an entry of two bytes, or none, and isn't live with an entry between two numbers
pub record IsPassed (g : Geometry) (image : List ℕ) (low high p : ℕ) : Type 0 where
  pub word : is_entry_page g p ≡ true → entry_of g image p < 0x10000
  pub none : is_live g image p ≡ true → is_between low high (entry_of g image p) ≡ false

-- no entry of a block from `from` on is that of a live page with an entry between two numbers
abbrev pub ArePassed : Geometry → List ℕ → (block from low high : ℕ) → Type 0
ArePassed g image block from low high = (i : ℕ) → from ≤ i → i < entries g → IsPassed g image low high (block * per_block g + lookups g + i)

-- the first entry of a block from `from` on whose number lies between two others, or none where no page there is live with such an entry
abbrev pub NextPlace : Geometry → List ℕ → (block from low high : ℕ) → Option (ℕ × ℕ) → Type 0
NextPlace g image block from low high None = ArePassed g image block from low high
NextPlace g image block from low high (Some (i, n)) = IsNextSlot g image block from low high i n

-- page p is live with this header and an entry between two numbers, and no page from `from` on before it is
pub record IsNextLive (g : Geometry) (image : List ℕ) (from low high p : ℕ) (head : PageHeader) : Type 0 where
  pub live : is_live g image p ≡ true
  pub header : head ≡ header_at (page_of g image p)
  pub between : is_between low high (entry_of g image p) ≡ true
  pub passed : (q : ℕ) → from ≤ q → q < p → IsPassed g image low high q

-- the first live page from `from` on whose entry lies between two numbers, with its header, or none to the volume's end
abbrev pub NextLive : Geometry → List ℕ → (from low high : ℕ) → Option (ℕ × PageHeader) → Type 0
NextLive g image from low high None = (q : ℕ) → from ≤ q → q < page_count g → IsPassed g image low high q
NextLive g image from low high (Some (p, head)) = IsNextLive g image from low high p head
