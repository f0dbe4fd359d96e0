-- An index page is renewed in an image: its copy, which may name other data pages, is put, and it is killed.
use Rattle.std.specs.Prelude.{◌≡◌, ℕ, ◌+◌, ◌*◌, ◌%◌, ◌<◌, ◌⊎◌, List, [], Bool, ◌==◌, ◌&&◌, ◌||◌, is_some, true, false, Some, Ok, slice_index, slice_set}
use Rattle.geometry.specs.declared.geometry.Geometry.{Geometry}
use Rattle.image_model.specs.Live.{live_at, Live, own}
use Rattle.image_model.specs.Headers.{obj_id, span_of, names_index, size_of}
use Rattle.table_model.specs.Table.{File, put_file}
use Rattle.image_model.specs.Files.{index_page, data_of, judged, index_span}
use Rattle.image_model.specs.Tables.{has_of, damaged_of, table_of}
use Rattle.image_model.specs.Places.{is_entry_page, IsImage}
use Rattle.image_laws.specs.Programs.{ClearsBit}
use Rattle.image_laws.specs.NewFile.{IsFreePage}
use Rattle.image_model.specs.Sound.{HasMagics, Keeps}
use Rattle.image_laws.specs.SoundSteps.{IsOfKind}
use Rattle.image_laws.specs.TidySteps.{Agree, IsTidyBut}
use Rattle.image_laws.specs.Creating.{CutOf}
use Rattle.image_laws.specs.Put.{IsReadyPage}
use Rattle.image_laws.specs.LiveSteps.{Finished, PutCut, Kills, KillCut, PutLeaves, PutDone}
use Rattle.image_laws.specs.Reindex.{Reindexes, slot_word}
use Rattle.image_laws.specs.Spares.{Spares, leftover}
use Rattle.table_model.specs.Room.{data_pages}
use Rattle.renew_laws.specs.Replace.{ReplaceCut, Replaced}
use Rattle.renew_laws.specs.Idles.{Idles}

-- What it begins on: page p, finished, is to take the place of o, the one index page of its span.
pub record RecopiesTo (g : Geometry) (a : List ℕ) (p o id h : ℕ) (old page head head' : List ℕ) (f0 f : File) : Type 0 where
  pub undamaged : damaged_of g a ≡ []
  pub inside : is_entry_page g p ≡ true
  pub kind : IsOfKind g (live_at g a) p page
  pub pages : Reindexes g (own (live_at g a) id) id o h old page head head' f0 f

-- Each cut is before, or with the file as the copy has it; sound, undamaged, and leaves all free blocks but one.
abbrev pub RecopyCuts : Geometry → Type 0
RecopyCuts g = (a c : List ℕ) (p o id h : ℕ) (old page head head' : List ℕ) (f0 f : File) → RecopiesTo g a p o id h old page head head' f0 f → HasMagics g a →
    ReplaceCut g p o page a c → CutOf g a f c × (damaged_of g c ≡ [])

-- the spare pages that the new index page names, and the data pages that it names no longer
pub record Renamed (g : Geometry) (pages : Live) (head old new : List ℕ) (copies olds : ℕ → Bool) : Type 0 where
  pub named : (r : ℕ) → copies r ≡ true → (t : ℕ) × (t < data_pages g (size_of head)) × (index_span g t ≡ span_of old) × (slot_word g new t ≡ r)
      × (is_some (data_of (pages r) t) ≡ true)
  pub left : (t : ℕ) → t < data_pages g (size_of head) → index_span g t ≡ span_of old →
      (slot_word g new t ≡ slot_word g old t) ⊎ (olds (slot_word g old t) ≡ true)

-- Done, the file is put into the table, and of the old data pages those are spare that serve no more.
abbrev pub RecopySpares : Geometry → Type 0
RecopySpares g = (a b : List ℕ) (p o id h : ℕ) (old page head head' : List ℕ) (f0 f : File) (copies olds : ℕ → Bool) →
    RecopiesTo g a p o id h old page head head' f0 f → Replaced g p o page a b →
    IsTidyBut g a copies → Renamed g (own (live_at g a) id) head old page copies olds →
    Idles g (λ r. olds r && leftover g (own (live_at g b) id) head' r) b × (table_of g b ≡ put_file f (table_of g a))

-- A data page, finished, that no entry names is put beside, of an id whose file is whole.
pub record PutsDataTo (g : Geometry) (a : List ℕ) (p id h : ℕ) (page head : List ℕ) (f0 : File) : Type 0 where
  pub kind : IsOfKind g (live_at g a) p page
  pub data_kind : names_index page ≡ false
  pub of : obj_id page % 0x8000 ≡ id
  pub at : index_page g (own (live_at g a) id) 0 ≡ Some h
  pub header : own (live_at g a) id h ≡ Some head
  pub file : judged g (own (live_at g a) id) id head ≡ Ok f0

-- Each cut keeps the image.
abbrev pub PutDataCuts : Geometry → Type 0
PutDataCuts g = (a c : List ℕ) (p id h : ℕ) (page head : List ℕ) (f0 : File) → PutsDataTo g a p id h page head f0 → HasMagics g a →
    PutLeaves g p page a c → Keeps g a c

-- Done, it keeps it too, and the page is one more spare page.
abbrev pub PutDataDone : Geometry → Type 0
PutDataDone g = (a b : List ℕ) (p id h : ℕ) (page head : List ℕ) (f0 : File) → PutsDataTo g a p id h page head f0 → PutDone g p page a b →
    (HasMagics g a → Keeps g a b) × ((before : ℕ → Bool) → IsTidyBut g a before → IsTidyBut g b (λ r. before r || (r == p)))

-- A file put as it is leaves the table.
abbrev pub PutSame : Geometry → Type 0
PutSame g = (a : List ℕ) (id h : ℕ) (f : File) → damaged_of g a ≡ [] → has_of g (live_at g a) id ≡ Some (h, Ok f) → put_file f (table_of g a) ≡ table_of g a

-- ---- the same of each of the programs

-- what it begins on: p is the new page, o the old one
pub record Recopies (g : Geometry) (a : List ℕ) (p o id h : ℕ) (old page head head' : List ℕ) (fin kill : ℕ) (f0 f : File) : Type 0 where
  pub image : IsImage g a
  pub undamaged : damaged_of g a ≡ []
  pub free : IsFreePage g a p
  pub ready : IsReadyPage g page fin
  pub kind : IsOfKind g (live_at g a) p (slice_set page 4 fin)
  pub pages : Reindexes g (own (live_at g a) id) id o h old (slice_set page 4 fin) head head' f0 f
  pub clears : ClearsBit 7 (slice_index a (o * g.page + 4)) kill

-- Cut off in any of its six programs: before, or with the file as the copy has it; sound, undamaged, all free blocks but one.
abbrev pub RecopyIsSound : Geometry → Type 0
RecopyIsSound g = (a0 a1 a2 a3 a4 a5 a6 c : List ℕ) (p o id h : ℕ) (old page head head' : List ℕ) (fin kill : ℕ) (f0 f : File) →
    Recopies g a0 p o id h old page head head' fin kill f0 f → HasMagics g a0 →
    Finished g p page fin a0 a1 a2 a3 a4 → Kills g o kill a4 a5 a6 → PutCut g p page fin a0 a1 a2 a3 c ⊎ KillCut g o kill a4 a5 c →
    CutOf g a0 f c × (damaged_of g c ≡ [])

-- A data page that no entry names is put, of an id whose file is whole.
pub record PutsData (g : Geometry) (a : List ℕ) (p id h : ℕ) (page head : List ℕ) (fin : ℕ) (f0 : File) : Type 0 where
  pub image : IsImage g a
  pub free : IsFreePage g a p
  pub ready : IsReadyPage g page fin
  pub kind : IsOfKind g (live_at g a) p (slice_set page 4 fin)
  pub data_kind : names_index (slice_set page 4 fin) ≡ false
  pub of : obj_id (slice_set page 4 fin) % 0x8000 ≡ id
  pub at : index_page g (own (live_at g a) id) 0 ≡ Some h
  pub header : own (live_at g a) id h ≡ Some head
  pub file : judged g (own (live_at g a) id) id head ≡ Ok f0

-- Cut off in any of its four programs, and done, it keeps the image.
abbrev pub PutDataKeeps : Geometry → Type 0
PutDataKeeps g = (a0 a1 a2 a3 a4 : List ℕ) (p id h : ℕ) (page head : List ℕ) (fin : ℕ) (f0 : File) → PutsData g a0 p id h page head fin f0 → HasMagics g a0 →
    Finished g p page fin a0 a1 a2 a3 a4 → ((c : List ℕ) → PutCut g p page fin a0 a1 a2 a3 c → Keeps g a0 c × Agree g a0 c p) × Keeps g a0 a4

-- Done, it is one more spare page.
abbrev pub PutDataSpares : Geometry → Type 0
PutDataSpares g = (a0 a1 a2 a3 a4 : List ℕ) (p id h : ℕ) (page head : List ℕ) (fin : ℕ) (f0 : File) (before : ℕ → Bool) →
    PutsData g a0 p id h page head fin f0 → IsTidyBut g a0 before →
    Finished g p page fin a0 a1 a2 a3 a4 → IsTidyBut g a4 (λ r. before r || (r == p))

-- Done, the file is put into the table, and of the old data pages those are spare that serve no more.
abbrev pub RecopyTidies : Geometry → Type 0
RecopyTidies g = (a0 a1 a2 a3 a4 a5 a6 : List ℕ) (p o id h : ℕ) (old page head head' : List ℕ) (fin kill : ℕ) (f0 f : File) (copies olds : ℕ → Bool) →
    Recopies g a0 p o id h old page head head' fin kill f0 f →
    Finished g p page fin a0 a1 a2 a3 a4 → Kills g o kill a4 a5 a6 → IsTidyBut g a0 copies →
    Renamed g (own (live_at g a0) id) head old (slice_set page 4 fin) copies olds →
    Spares g (λ r. olds r && leftover g (own (live_at g a6) id) head' r) a6 × (table_of g a6 ≡ put_file f (table_of g a0))
