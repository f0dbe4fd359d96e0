-- The works of the check, and what each needs and leaves.
use Rattle.std.specs.Prelude.{◌≡◌, ℕ, ◌+◌, List, [], Bool, true, false, Some, None, is_some, Result}
use Rattle.geometry.specs.declared.geometry.Geometry.{Geometry}
use Rattle.nor_core.specs.declared.device.Failed.{Failed}
use Rattle.nor_core.specs.declared.state.NorState.{Ghosts as NorOf}
use Rattle.nor_core.specs.Device.{OnlyReads}
use Rattle.page_layout.specs.declared.header.PageHeader.{PageHeader}
use Rattle.image_model.specs.Live.{live_at, own}
use Rattle.image_model.specs.Files.{index_page}
use Rattle.image_model.specs.Killed.{is_dead_entry}
use Rattle.image_model.specs.Shared.{SameUses}
use Rattle.image_model.specs.Sound.{HasMagics, KeepsAll}
use Rattle.image_model.specs.Tables.{damaged_of}
use Rattle.image_model.specs.Tidy.{IsTidy}
use Rattle.flash_view.specs.declared.view.View.{View}
use Rattle.file_find.specs.Marks.{IsMarked, cause_at}
use Rattle.flash_view.specs.Steps.{Step, Stepped, failed}
use Rattle.vol_check.specs.declared.checking.Culled.{Culled}
use Rattle.vol_check.specs.declared.report.Report.{Report}
use Rattle.vol_check.specs.Owned.{OwnIf}
use Rattle.vol_check.specs.Stage.{IsClean, CleansEntry, CleansEntries}
use Rattle.vol_check.specs.Culls.{MayCull, Culls, is_doubled, HasNoDoubles, IsSettled, is_unwanted, IsServed, CullsDoubled, CullsHead, CullsRest, PassesDoubled}
use Rattle.vol_check.specs.Culls.{PassesDamaged, PassesRest, CullsPages}
use Rattle.vol_check.specs.Noted.{Notes, IsIndexPage}
use Rattle.vol_check.specs.Needed.{TellsUnwanted}
use Rattle.vol_check.specs.MadeFresh.{HasAllMagics, MadeFresh}
use Rattle.vol_check.specs.Checks.{Checked}

-- A work of the check, on an image of which at most one block lacks its magic: what else it needs of that image, what it leaves done,
-- and where there is nothing to do.
pub record Work (T : Type 0) : Type 1 where
  pub needs : Geometry → List ℕ → Type 0
  pub done : Geometry → List ℕ → List ℕ → T → Type 0
  pub idle : Geometry → List ℕ → Type 0

-- A cut in a work keeps the image, and each page is used as before.
pub record StageCut (g : Geometry) (was image : List ℕ) : Type 0 where
  pub keeps : KeepsAll g was image
  pub uses : SameUses g was image

-- as a step, with what a cut in it leaves
abbrev pub step_of : {T : Type 0} → Work T → Step T
step_of work = record { needs = λ g was. HasMagics g was × work.needs g was; cut = StageCut; done = work.done }

-- A call did that work, and only read where there was nothing to do.
pub record Worked {N T : Type 0} {nor : NorOf N} (old new : View N nor) (result : Result T Failed) (work : Work T) : Type 0 where
  pub step : Stepped failed old new result (step_of work)
  pub idle : nor.tells old.nor.now → HasMagics old.geometry (nor.bytes old.nor.now) → work.needs old.geometry (nor.bytes old.nor.now) →
      work.idle old.geometry (nor.bytes old.nor.now) → OnlyReads nor old.nor.now new.nor.now

-- page p is the header page of the id, no page is doubled, and the marks are right
pub record IsHead (g : Geometry) (image : List ℕ) (id p : ℕ) (marks : List ℕ) : Type 0 where
  pub first : index_page g (own (live_at g image) id) 0 ≡ Some p
  pub single : HasNoDoubles g image
  pub marked : IsMarked g image marks

-- after its turn, with the marks right again
pub record TurnsHead (g : Geometry) (id p : ℕ) (marks : List ℕ) (killed : Bool) (was now : List ℕ) : Type 0 where
  pub culls : CullsHead g id p killed was now
  pub marked : IsMarked g now marks

-- after a turn of the first pass, with the header page noted if one stands there
pub record TurnsDoubled (g : Geometry) (p : ℕ) (bits : List ℕ) (killed : Bool) (was now : List ℕ) : Type 0 where
  pub culls : CullsDoubled g p killed was now
  pub noted : Notes g now (p + 1) bits

-- ---- a block without its magic, and entries that are dead

abbrev pub making_fresh : Work Bool
making_fresh = record { needs = λ g was. Unit {0}; done = λ g was now erased. MadeFresh g erased was now; idle = λ g was. HasAllMagics g was }

-- every block has its magic, and the image is as it is told to be
pub record MayClean (own : Bool) (g : Geometry) (image : List ℕ) : Type 0 where
  pub magics : HasAllMagics g image
  pub owned : OwnIf own g image

abbrev pub cleaning_entry : (own : Bool) → ℕ → Work Bool
cleaning_entry own p =
    record { needs = MayClean own; done = λ g was now killed. CleansEntry g p killed was now; idle = λ g was. is_dead_entry g was p ≡ false }

abbrev pub cleaning_entries : (own : Bool) → Work ℕ
cleaning_entries own = record { needs = MayClean own; done = λ g was now killed. CleansEntries g killed was now; idle = λ g was. IsClean g was }

-- ---- live pages that aren't wanted

abbrev pub culling : ℕ → Work (Unit {0})
culling p = record { needs = λ g was. MayCull g was p; done = λ g was now ok. Culls g p true was now; idle = λ g was. ⊥ }

abbrev pub culling_doubled : ℕ → PageHeader → List ℕ → List ℕ → Work Bool
culling_doubled p head bits later = record {
  needs = λ g was. Notes g was p bits × IsIndexPage g was p head;
  done = λ g was now killed. TurnsDoubled g p later killed was now;
  idle = λ g was. is_doubled g was p ≡ false;
}

abbrev pub culling_doubles : Work ℕ
culling_doubles = record { needs = λ g was. Unit {0}; done = λ g was now killed. PassesDoubled g killed was now; idle = λ g was. HasNoDoubles g was }

abbrev pub culling_head : ℕ → ℕ → List ℕ → List ℕ → Work Bool
culling_head id p marks later = record {
  needs = λ g was. IsHead g was id p marks;
  done = λ g was now killed. TurnsHead g id p later killed was now;
  idle = λ g was. cause_at g was id ≡ None;
}

abbrev pub culling_damaged : Work ℕ
culling_damaged =
    record { needs = λ g was. HasNoDoubles g was; done = λ g was now killed. PassesDamaged g killed was now; idle = λ g was. damaged_of g was ≡ [] }

abbrev pub culling_unmarked : ℕ → ℕ → Work Bool
culling_unmarked p mark = record {
  needs = λ g was. IsSettled g was × TellsUnwanted g was p mark × (is_some (live_at g was p) ≡ true);
  done = λ g was now killed. CullsRest g p killed was now;
  idle = λ g was. is_unwanted g was p ≡ false;
}

abbrev pub culling_rest : Work ℕ
culling_rest = record { needs = λ g was. IsSettled g was; done = λ g was now killed. PassesRest g killed was now; idle = λ g was. IsServed g was }

abbrev pub culling_pages : Work Culled
culling_pages = record { needs = λ g was. Unit {0}; done = λ g was now culled. CullsPages g culled.pages culled.damaged was now; idle = λ g was. IsTidy g was }

-- ---- the whole check

abbrev pub checking : (own : Bool) → Work Report
checking own = record { needs = λ g was. OwnIf own g was; done = λ g was now report. Checked g was now report; idle = λ g was. IsTidy g was }
