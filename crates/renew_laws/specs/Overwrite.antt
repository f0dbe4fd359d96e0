-- Bytes of a file are overwritten, in a copy of one of its data pages.
use Rattle.std.specs.Prelude.{◌≡◌, ◌≢◌, ℕ, ◌+◌, ◌*◌, ◌<◌, ◌≤◌, List, [], ◌++◌, length, take, drop, Some, Ok, slice_index}
use Rattle.geometry.specs.declared.geometry.Geometry.{Geometry}
use Rattle.geometry.specs.Numbers.{body}
use Rattle.table_model.specs.Table.{File}
use Rattle.table_model.specs.Files.{written}
use Rattle.table_model.specs.Room.{data_pages}
use Rattle.image_model.specs.Live.{Live}
use Rattle.image_model.specs.Headers.{size_of}
use Rattle.image_model.specs.Files.{data_page, judged}
use Rattle.image_laws.specs.Reindex.{now_data, now_bytes}

-- the file bytes of a data page with bytes in their place from `from` on, and 0xFF behind the first `used` ones
pub record IsPatched (g : Geometry) (old new : List ℕ) (from used : ℕ) (bytes : List ℕ) : Type 0 where
  pub inside : (k : ℕ) → k < length bytes → slice_index new (5 + from + k) ≡ slice_index bytes k
  pub before : (k : ℕ) → k < from → k < used → slice_index new (5 + k) ≡ slice_index old (5 + k)
  pub after : (k : ℕ) → from + length bytes ≤ k → k < used → slice_index new (5 + k) ≡ slice_index old (5 + k)
  pub erased : (k : ℕ) → used ≤ k → k < body g → slice_index new (5 + k) ≡ 0xFF

-- With a patched page in the place of that of span s, the bytes are those of the file written at that place.
abbrev pub PatchedIsWritten : Geometry → Type 0
PatchedIsWritten g = (pages : Live) (id s : ℕ) (head new z y bytes : List ℕ) (f : File) → judged g pages id head ≡ Ok f →
    ((q : ℕ) (x : List ℕ) → pages q ≡ Some x → length x ≡ g.page) →
    s < data_pages g (size_of head) → data_page g pages head s ≡ Some z → now_data g pages head new s ≡ Some y → length y ≡ g.page →
    ((t : ℕ) → t < data_pages g (size_of head) → t ≢ s → now_data g pages head new t ≡ data_page g pages head t) →
    (from used : ℕ) → from + length bytes ≤ body g → s * body g + from + length bytes ≤ size_of head →
    ((k : ℕ) → k < body g → s * body g + k < size_of head → k < used) → IsPatched g z y from used bytes →
    now_bytes g pages head new ≡ take (s * body g + from) f.bytes ++ bytes ++ drop (s * body g + from + length bytes) f.bytes

-- Where no bytes are written the file is as it was.
abbrev pub NothingWritten : Type 0
NothingWritten = (at : ℕ) (f : File) → written at [] f ≡ f
