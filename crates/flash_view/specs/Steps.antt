-- What a call over a view that may change the device needs, and what it leaves.
use Rattle.std.specs.Prelude.{◌≡◌, ◌≢◌, ℕ, List, true, false, Result, MatchResult, IsErrOf, IfErr, OnOk}
use Rattle.geometry.specs.declared.geometry.Geometry.{Geometry}
use Rattle.nor_core.specs.declared.device.Failed.{Failed}
use Rattle.nor_core.specs.Count.{Rose}
use Rattle.nor_core.specs.Device.{Changes, OnlyReads}
use Rattle.nor_core.specs.declared.state.NorState.{Ghosts as NorOf}
use Rattle.table_model.specs.declared.error.FsErr.{FsErr}
use Rattle.table_model.specs.declared.error.FsErr.TheVariants.{DeviceFault as FsFault, Damaged as FsDamaged}
use Rattle.flash_view.specs.declared.kinds.StepErr.{StepErr}
use Rattle.flash_view.specs.declared.kinds.StepErr.TheVariants.{DeviceFault, Damaged}
use Rattle.flash_view.specs.declared.view.View.{View}
use Rattle.trim_laws.specs.Upkeep.{Upkeep}
use Rattle.trim_laws.specs.Wear.{Worn}
use Rattle.flash_view.specs.Same.{IsSameView}

-- The errors of a call: the one that tells a fault of the device, and what each of them means.
pub record Errors (E : Type 0) : Type 1 where
  pub fault : E
  pub means : E → Type 0
  pub told : means fault

-- a fault of the device is the one error
abbrev pub failed : Errors Failed
failed = record { fault = record {}; means = λ why. Unit {0}; told = tt }

-- where a page is damaged, what was wanted there and what was found differ
abbrev pub is_apart : StepErr → Type 0
is_apart DeviceFault = Unit {0}
is_apart (Damaged d) = d.wanted ≢ d.found

-- the answer of a call whose step failed so
abbrev pub as_fs_err : StepErr → FsErr
as_fs_err DeviceFault = FsFault
as_fs_err (Damaged differ) = FsDamaged differ

abbrev pub stopped : Errors StepErr
stopped = record { fault = DeviceFault; means = is_apart; told = tt }

-- A step over images: what it needs of the image that it begins on, what a cut in it may leave of that image, and what it leaves done.
pub record Step (T : Type 0) : Type 1 where
  pub needs : Geometry → List ℕ → Type 0
  pub cut : Geometry → List ℕ → List ℕ → Type 0
  pub done : Geometry → List ℕ → List ℕ → T → Type 0

-- The view stays the same but for its device, and the device is as it was but for reads where nothing was programmed or erased.
pub record Framed {N : Type 0} {nor : NorOf N} (old new : View N nor) : Type 0 where
  pub same : IsSameView old new
  pub wrote : old.wrote ≡ true → new.wrote ≡ true
  pub untouched : old.wrote ≡ false → new.wrote ≡ false → OnlyReads nor old.nor.now new.nor.now

-- A call took that step: whatever is cut off in it is a cut of the step. It is done, or gives a fault of the device alone, where the image has
-- what it needs; where it gives a fault, one was counted. On every image its error means what it says.
pub record Stepped {N T E : Type 0} {nor : NorOf N} (errors : Errors E) (old new : View N nor) (result : Result T E) (step : Step T) : Type 0 where
  pub framed : Framed old new
  pub cause : IsErrOf result errors.fault → Rose (nor.faults old.nor.now) (nor.faults new.nor.now)
  pub means : IfErr result errors.means
  pub cuts : Changes nor old.nor.now new.nor.now (λ was image. step.needs old.geometry was → step.cut old.geometry was image)
  pub ends : nor.tells old.nor.now → step.needs old.geometry (nor.bytes old.nor.now) →
      MatchResult result (step.done old.geometry (nor.bytes old.nor.now) (nor.bytes new.nor.now)) (λ why. why ≡ errors.fault)
  -- where no header page named a page behind the last one of its file, none does, at a cut and after the call; and no erase count changes but
  -- by making blocks fresh, each with the next count
  pub upkeep : Changes nor old.nor.now new.nor.now (λ was image. step.needs old.geometry was → Upkeep old.geometry was image)
  pub worn : nor.tells old.nor.now → step.needs old.geometry (nor.bytes old.nor.now) →
      OnOk result (Worn old.geometry (nor.bytes old.nor.now) (nor.bytes new.nor.now))
  -- where the table of block counts stood, it stands once the step is done
  pub stands : nor.tells old.nor.now → step.needs old.geometry (nor.bytes old.nor.now) → old.counted ≡ true → OnOk result (new.counted ≡ true)

-- A step begins another on image a where it needs no more, and its cuts are cuts of the other,
pub record Begins {S T : Type 0} (g : Geometry) (a : List ℕ) (first : Step S) (whole : Step T) : Type 0 where
  pub needs : first.needs g a
  pub cut : (c : List ℕ) → first.cut g a c → whole.cut g a c

-- and ends it from image b on where its cuts are cuts of the other too, and what it leaves done is the other done.
pub record Finishes {T : Type 0} (g : Geometry) (a b : List ℕ) (last whole : Step T) : Type 0 where
  pub needs : last.needs g b
  pub cut : (c : List ℕ) → last.cut g b c → whole.cut g a c
  pub done : (c : List ℕ) (x : T) → last.done g b c x → whole.done g a c x

-- a step of programs and erases, on an image that meets U, of which all that R leaves keeps up header pages and erase counts, and so does what is
-- left done: what a cut leaves by R, and what they leave done,
abbrev pub acting : (Geometry → List ℕ → Type 0) → (Geometry → List ℕ → List ℕ → Type 0) → (Geometry → List ℕ → List ℕ → Type 0) → Step (Unit {0})
acting U R D = record {
  needs = λ g was. U g was × ((image : List ℕ) → R g was image → Upkeep g was image) × ((image : List ℕ) → D g was image → Worn g was image);
  cut = R;
  done = λ g was now ok. D g was now;
}

-- where that is one image
abbrev pub making : (Geometry → List ℕ → Type 0) → (Geometry → List ℕ → List ℕ → Type 0) → (Geometry → List ℕ → List ℕ) → Step (Unit {0})
making U R make = acting U R (λ g was now. now ≡ make g was)

-- on any image
abbrev pub any_image : Geometry → List ℕ → Type 0
any_image g was = Unit {0}

-- the same view, but for its bytes for work
pub record IsRebuilt {N : Type 0} {nor : NorOf N} (old new : View N nor) : Type 0 where
  pub geometry : new.geometry ≡ old.geometry
  pub device : new.nor.now ≡ old.nor.now
  pub nor_name : new.nor.ghost_name ≡ old.nor.ghost_name
  pub work_name : new.work.ghost_name ≡ old.work.ghost_name
  pub cache : new.cache.now ≡ old.cache.now
  pub cache_name : new.cache.ghost_name ≡ old.cache.ghost_name
  pub rows : new.rows.now ≡ old.rows.now
  pub rows_name : new.rows.ghost_name ≡ old.rows.ghost_name
  pub wrote : new.wrote ≡ old.wrote
  pub counted : new.counted ≡ old.counted
