-- A data page of a file is replaced by a copy with bytes in their place: what that asks of an image, and what its programs leave.
use Rattle.std.specs.Prelude.{◌≡◌, ◌≢◌, ℕ, ◌+◌, ◌*◌, ◌/◌, ◌%◌, ◌<◌, ◌≤◌, List, length, true, false, ◌==◌, Some, None, slice_index}
use Rattle.geometry.specs.declared.geometry.Geometry.{Geometry}
use Rattle.geometry.specs.Numbers.{body}
use Rattle.table_model.specs.Table.{File, put_file}
use Rattle.table_model.specs.Files.{written}
use Rattle.table_model.specs.Room.{data_pages}
use Rattle.image_model.specs.Collect.{are_had}
use Rattle.image_model.specs.Headers.{names_index, span_of, size_of}
use Rattle.image_model.specs.Live.{live_at, own}
use Rattle.image_model.specs.Files.{index_page, entry_number, index_span}
use Rattle.image_model.specs.Kinds.{is_data_block}
use Rattle.image_model.specs.Places.{block_of}
use Rattle.image_model.specs.Sound.{IsSound}
use Rattle.image_model.specs.Tables.{table_of}
use Rattle.image_model.specs.Tidy.{IsTidy, HasReserve}
use Rattle.image_laws.specs.LiveSteps.{KillDone}
use Rattle.image_laws.specs.NewFile.{IsFreePage}
use Rattle.renew_laws.specs.Idles.{Idles}
use Rattle.renew_laws.specs.Overwrite.{IsPatched}
use Rattle.renew_laws.specs.Primed.{Primed}
use Rattle.renew_laws.specs.Reserve.{CanTake}
use Rattle.renew_laws.specs.Tails.{IsTailReady, KeepsTails}
use Rattle.trim_laws.specs.Wear.{SameWear}
use Rattle.flash_view.specs.DataPages.{data_number_of}
use Rattle.flash_view.specs.Steps.{Step}
use Rattle.page_renew.specs.PageSteps.{StepCut, StepDone}
use Rattle.free_search.specs.Free.{IsFreeFor}
use Rattle.flash_view.specs.declared.kinds.Kind.TheVariants.{Data}
use Rattle.file_write.specs.declared.relinking.Patch.{Patch}
use Rattle.file_write.specs.declared.relinking.Spot.{Spot}
use Rattle.file_write.specs.Overwrites.{CanOverwrite, Overwritten}

-- the table with the bytes written
abbrev pub patched_files : Geometry → Patch → List ℕ → File → List ℕ → List File
patched_files g patch bytes f was = put_file (written (patch.span * body g + patch.from) bytes f) (table_of g was)

-- a file of that size ends inside the data page of that span
abbrev pub EndsIn : Geometry → (size span : ℕ) → Type 0
EndsIn g size span = (size / body g ≡ span) × (size % body g ≢ 0)

-- In a tidy image a file has the span, the bytes end in its page and not behind the size, all bytes below the size count as used,
-- and an index page and a data page are to be had.
pub record CanPatch (g : Geometry) (image : List ℕ) (patch : Patch) (bytes : List ℕ) (f : File) : Type 0 where
  pub h : ℕ
  pub head : List ℕ
  pub prime : Primed g patch.id h head f (λ r. false) image image
  pub below : patch.span < data_pages g (size_of head)
  pub inner : patch.from + length bytes ≤ body g
  pub fits : patch.span * body g + patch.from + length bytes ≤ size_of head
  pub enough : (k : ℕ) → k < body g → patch.span * body g + k < size_of head → k < patch.used
  pub least : EndsIn g (size_of head) patch.span → patch.used ≤ size_of head % body g
  pub had : are_had g image 1 1 ≡ true

-- The page and the index page that names it were found.
pub record CanPatchAt (g : Geometry) (image : List ℕ) (patch : Patch) (spot : Spot) (bytes : List ℕ) (f : File) : Type 0 where
  pub can : CanPatch g image patch bytes f
  pub number : data_number_of g image patch.id patch.span ≡ Some spot.page
  pub index : index_page g (own (live_at g image) patch.id) (index_span g patch.span) ≡ Some spot.index

-- Page `to` is free for the copy.
pub record CanCopy (g : Geometry) (image : List ℕ) (patch : Patch) (spot : Spot) (to : ℕ) (bytes : List ℕ) (f : File) : Type 0 where
  pub at : CanPatchAt g image patch spot bytes f
  pub found : IsFreeFor g image Data 2 None to

-- The copy stands beside the old page, which the file still has.
pub record HasCopy (g : Geometry) (was : List ℕ) (patch : Patch) (spot : Spot) (to : ℕ) (bytes : List ℕ) (f : File) (image : List ℕ) : Type 0 where
  pub at : CanPatchAt g was patch spot bytes f
  pub old : List ℕ
  pub copy : List ℕ
  pub x : List ℕ
  pub prime : Primed g patch.id at.can.h at.can.head f (λ r. r == to) was image
  pub places : (j : ℕ) → index_page g (own (live_at g image) patch.id) j ≡ index_page g (own (live_at g was) patch.id) j
  pub index_is : own (live_at g image) patch.id spot.index ≡ Some x
  pub names : entry_number g (own (live_at g image) patch.id) at.can.head patch.span ≡ Some spot.page
  pub there : own (live_at g image) patch.id spot.page ≡ Some old
  pub old_kind : names_index old ≡ false
  pub copy_is : own (live_at g image) patch.id to ≡ Some copy
  pub copy_kind : names_index copy ≡ false
  pub copy_span : span_of copy ≡ patch.span
  pub apart : spot.page ≢ to
  pub patched : IsPatched g old copy patch.from patch.used bytes
  pub had : are_had g image 1 0 ≡ true
  pub reserve : HasReserve g was → HasReserve g image
  pub wear : SameWear g was image
  pub tails : KeepsTails g was image
  pub flags : slice_index image (spot.page * g.page + 4) < 256

-- Page p is free for the index page that names it.
pub record CanName (g : Geometry) (was : List ℕ) (patch : Patch) (spot : Spot) (to p : ℕ) (bytes : List ℕ) (f : File) (image : List ℕ) : Type 0 where
  pub has : HasCopy g was patch spot to bytes f image
  pub free : IsFreePage g image p
  pub kind : is_data_block g image (block_of g p) ≡ false
  pub room : CanTake g image p

-- The file has the copy, and the old page alone isn't needed.
pub record HasOld (g : Geometry) (was : List ℕ) (patch : Patch) (spot : Spot) (bytes : List ℕ) (f : File) (image : List ℕ) : Type 0 where
  pub can : CanPatch g was patch bytes f
  pub old : List ℕ
  pub live : live_at g image spot.page ≡ Some old
  pub kind : names_index old ≡ false
  pub idles : Idles g (λ r. r == spot.page) image
  pub table : table_of g image ≡ patched_files g patch bytes f was
  pub ends : (d : List ℕ) → KillDone g spot.page image d → IsTidy g d × (table_of g d ≡ patched_files g patch bytes f was)
  pub sound : IsSound g image was
  pub reserve : HasReserve g was → HasReserve g image
  pub wear : SameWear g was image
  pub flags : slice_index image (spot.page * g.page + 4) < 256
  pub ready : EndsIn g (size_of can.head) patch.span → IsTailReady g image patch.id
  pub kept : IsTailReady g was patch.id → IsTailReady g image patch.id

-- Done, the file has the bytes; its tail is ready where it ends in that page, and where it was ready.
pub record HasPatch (g : Geometry) (was : List ℕ) (patch : Patch) (bytes : List ℕ) (f : File) (image : List ℕ) : Type 0 where
  pub can : CanPatch g was patch bytes f
  pub step : StepDone g (patched_files g patch bytes f was) was image
  pub ready : EndsIn g (size_of can.head) patch.span → IsTailReady g image patch.id
  pub kept : IsTailReady g was patch.id → IsTailReady g image patch.id

-- ---- the steps: a copy is put at a page, or where one is found; the index page is renewed, at a page or where one is found; the old page is killed;
-- and all of it

abbrev pub copying_to : Patch → Spot → (to : ℕ) → List ℕ → File → Step (Unit {0})
copying_to patch spot to bytes f = record {
  needs = λ g was. CanCopy g was patch spot to bytes f;
  cut = λ g was image. StepCut g (patched_files g patch bytes f was) was image;
  done = λ g was now ok. HasCopy g was patch spot to bytes f now;
}

abbrev pub copying_at : Patch → Spot → (to : ℕ) → List ℕ → File → Step ℕ
copying_at patch spot to bytes f = record {
  needs = λ g was. CanCopy g was patch spot to bytes f;
  cut = λ g was image. StepCut g (patched_files g patch bytes f was) was image;
  done = λ g was now p. HasCopy g was patch spot p bytes f now;
}

abbrev pub copying : Patch → Spot → List ℕ → File → Step ℕ
copying patch spot bytes f = record {
  needs = λ g was. CanPatchAt g was patch spot bytes f;
  cut = λ g was image. StepCut g (patched_files g patch bytes f was) was image;
  done = λ g was now to. HasCopy g was patch spot to bytes f now;
}

abbrev pub renaming_to : (was : List ℕ) → Patch → Spot → (to p : ℕ) → List ℕ → File → Step (Unit {0})
renaming_to was patch spot to p bytes f = record {
  needs = λ g image. CanName g was patch spot to p bytes f image;
  cut = λ g image cut. StepCut g (patched_files g patch bytes f was) was cut;
  done = λ g image now ok. HasOld g was patch spot bytes f now;
}

abbrev pub renaming : (was : List ℕ) → Patch → Spot → (to : ℕ) → List ℕ → File → Step (Unit {0})
renaming was patch spot to bytes f = record {
  needs = λ g image. HasCopy g was patch spot to bytes f image;
  cut = λ g image cut. StepCut g (patched_files g patch bytes f was) was cut;
  done = λ g image now ok. HasOld g was patch spot bytes f now;
}

abbrev pub dropping : (was : List ℕ) → Patch → Spot → List ℕ → File → Step (Unit {0})
dropping was patch spot bytes f = record {
  needs = λ g image. HasOld g was patch spot bytes f image;
  cut = λ g image cut. StepCut g (patched_files g patch bytes f was) was cut;
  done = λ g image now ok. HasPatch g was patch bytes f now;
}

abbrev pub ending : (was : List ℕ) → Patch → Spot → (to : ℕ) → List ℕ → File → Step (Unit {0})
ending was patch spot to bytes f = record {
  needs = λ g image. HasCopy g was patch spot to bytes f image;
  cut = λ g image cut. StepCut g (patched_files g patch bytes f was) was cut;
  done = λ g image now ok. HasPatch g was patch bytes f now;
}

abbrev pub replacing_at : Patch → Spot → List ℕ → File → Step (Unit {0})
replacing_at patch spot bytes f = record {
  needs = λ g was. CanPatchAt g was patch spot bytes f;
  cut = λ g was image. StepCut g (patched_files g patch bytes f was) was image;
  done = λ g was now ok. HasPatch g was patch bytes f now;
}

abbrev pub replacing : Patch → List ℕ → File → Step (Unit {0})
replacing patch bytes f = record {
  needs = λ g was. CanPatch g was patch bytes f;
  cut = λ g was image. StepCut g (patched_files g patch bytes f was) was image;
  done = λ g was now ok. HasPatch g was patch bytes f now;
}

-- ---- the file is found

-- The header page of a file tells this size.
pub record IsFileAt (g : Geometry) (image : List ℕ) (id size : ℕ) (f : File) : Type 0 where
  pub h : ℕ
  pub head : List ℕ
  pub prime : Primed g id h head f (λ r. false) image image
  pub told : size ≡ size_of head
  pub long : length f.bytes ≡ size_of head
  pub few : data_pages g (size_of head) ≤ 0xFFFF

-- Bytes of it can be overwritten.
pub record CanOverwriteIn (g : Geometry) (image : List ℕ) (id size at : ℕ) (bytes : List ℕ) (f : File) : Type 0 where
  pub can : CanOverwrite g image id at bytes f
  pub home : IsFileAt g image id size f

abbrev pub overwriting_in : (id size at : ℕ) → List ℕ → File → Step (Unit {0})
overwriting_in id size at bytes f = record {
  needs = λ g was. CanOverwriteIn g was id size at bytes f;
  cut = λ g was image. StepCut g (put_file (written at bytes f) (table_of g was)) was image;
  done = λ g was now ok. Overwritten g id at bytes f was now;
}
