-- A data page is replaced by a copy: an index page that names the copy takes the place of the one that names the page, and then the page is killed.
use Rattle.std.specs.Prelude.{◌≡◌, ◌≢◌, ℕ, ◌+◌, ◌*◌, ◌%◌, ◌<◌, ◌≤◌, List, length, Bool, true, false, ◌==◌, Some, slice_index, slice_range}
use Rattle.geometry.specs.declared.geometry.Geometry.{Geometry}
use Rattle.geometry.specs.Numbers.{body}
use Rattle.table_model.specs.Table.{File, put_file}
use Rattle.table_model.specs.Files.{written}
use Rattle.table_model.specs.Room.{data_pages}
use Rattle.image_model.specs.Live.{live_at, own}
use Rattle.image_model.specs.Headers.{obj_id, names_index, span_of, size_of, name_of}
use Rattle.image_model.specs.Files.{index_page, entry_number, data_page, index_span}
use Rattle.image_model.specs.Places.{is_entry_page}
use Rattle.image_model.specs.Tables.{table_of}
use Rattle.image_model.specs.Tidy.{IsTidy}
use Rattle.image_laws.specs.LiveSteps.{KillDone}
use Rattle.image_laws.specs.Reindex.{slot_word, now_data}
use Rattle.image_laws.specs.SoundSteps.{IsOfKind}
use Rattle.renew_laws.specs.Idles.{Idles}
use Rattle.renew_laws.specs.Overwrite.{IsPatched}
use Rattle.renew_laws.specs.Primed.{Primed}
use Rattle.renew_laws.specs.Recopy.{RecopiesTo}
use Rattle.renew_laws.specs.Replace.{Replaced}

-- Index page y, finished, is a copy of index page x in which the entry of data span s alone is another: it names page `to`.
pub record IsRelinked (g : Geometry) (id s to : ℕ) (x y head head' : List ℕ) : Type 0 where
  pub index : names_index y ≡ true
  pub of : obj_id y % 0x8000 ≡ id
  pub span : span_of y ≡ span_of x
  pub entry : slot_word g y s ≡ to
  pub others : (t : ℕ) → t < data_pages g (size_of head) → t ≢ s → index_span g t ≡ span_of x → slot_word g y t ≡ slot_word g x t
  -- the header page afterwards
  pub renewed : span_of x ≡ 0 → head' ≡ y
  pub stays : span_of x ≢ 0 → head' ≡ head
  pub size : size_of head' ≡ size_of head
  pub name : name_of head' ≡ name_of head
  pub kind : slice_index head' 12 ≡ slice_index head 12
  pub meta : slice_range head' 45 (45 + g.meta) ≡ slice_range head 45 (45 + g.meta)

-- What it begins on: page q, the data page of span s, is named by index page w; a copy of it with bytes in their place from `from` on was put beside at `to`,
-- and y is to be put at p.
pub record Relinks (g : Geometry) (a b : List ℕ) (id h s w q to p from used : ℕ) (head head' x y old copy bytes : List ℕ) (f : File)
    (beside : ℕ → Bool) : Type 0 where
  pub primed : Primed g id h head f beside a b
  pub alone : (r : ℕ) → beside r ≡ true → r ≡ to
  pub below : s < data_pages g (size_of head)
  pub first : index_page g (own (live_at g b) id) (index_span g s) ≡ Some w
  pub was : own (live_at g b) id w ≡ Some x
  pub names : entry_number g (own (live_at g b) id) head s ≡ Some q
  pub there : own (live_at g b) id q ≡ Some old
  pub beside_is : own (live_at g b) id to ≡ Some copy
  pub data_kind : names_index copy ≡ false
  pub span : span_of copy ≡ s
  pub apart : q ≢ to
  pub inner : from + length bytes ≤ body g
  pub fits : s * body g + from + length bytes ≤ size_of head
  pub enough : (k : ℕ) → k < body g → s * body g + k < size_of head → k < used
  pub patched : IsPatched g old copy from used bytes
  pub inside : is_entry_page g p ≡ true
  pub kind : IsOfKind g (live_at g b) p y
  pub copied : IsRelinked g id s to x y head head'

-- Then the index page is renewed, with the file that has the bytes written there.
abbrev pub RelinkRecopies : Geometry → Type 0
RelinkRecopies g = (a b : List ℕ) (id h s w q to p from used : ℕ) (head head' x y old copy bytes : List ℕ) (f : File) (beside : ℕ → Bool) →
    Relinks g a b id h s w q to p from used head head' x y old copy bytes f beside →
    RecopiesTo g b p w id h x y head head' f (written (s * body g + from) bytes f)

-- The copy stands in the place of the page of span s, and the other spans have theirs.
abbrev pub RelinkReads : Geometry → Type 0
RelinkReads g = (a b : List ℕ) (id h s w q to p from used : ℕ) (head head' x y old copy bytes : List ℕ) (f : File) (beside : ℕ → Bool) →
    Relinks g a b id h s w q to p from used head head' x y old copy bytes f beside →
    (now_data g (own (live_at g b) id) head y s ≡ Some copy) × (span_of x ≡ index_span g s)
    × ((t : ℕ) → t < data_pages g (size_of head) → t ≢ s → now_data g (own (live_at g b) id) head y t ≡ data_page g (own (live_at g b) id) head t)

-- Done, the file is in the table; the old data page alone is not needed, and once it is killed the image is tidy.
abbrev pub RelinkEnds : Geometry → Type 0
RelinkEnds g = (a b c : List ℕ) (id h s w q to p from used : ℕ) (head head' x y old copy bytes : List ℕ) (f : File) (beside : ℕ → Bool) →
    Relinks g a b id h s w q to p from used head head' x y old copy bytes f beside → Replaced g p w y b c →
    Idles g (λ r. r == q) c × (live_at g c q ≡ Some old) × (table_of g c ≡ put_file (written (s * body g + from) bytes f) (table_of g a))
    × ((d : List ℕ) → KillDone g q c d → IsTidy g d × (table_of g d ≡ put_file (written (s * body g + from) bytes f) (table_of g a)))
