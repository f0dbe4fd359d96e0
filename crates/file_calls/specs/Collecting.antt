-- Steps that collect garbage in a call.
use Rattle.std.specs.Prelude.{◌≢◌, ℕ, List, Bool, true, false}
use Rattle.geometry.specs.declared.geometry.Geometry.{Geometry}
use Rattle.table_model.specs.declared.error.FsErr.{FsErr}
use Rattle.table_model.specs.declared.error.FsErr.TheVariants.{Tight, DeviceFault, Damaged}
use Rattle.image_model.specs.Tidy.{IsTidy, HasReserve}
use Rattle.image_model.specs.Sound.{Keeps}
use Rattle.room_laws.specs.Stopping.{HasRoomFor}
use Rattle.room_laws.specs.Recovery.{Recovers}
use Rattle.block_gc.specs.RoomMade.{SweptWhile, Never, MadeRoom, IsTight, IsCompact, IsStuck}
use Rattle.flash_view.specs.Steps.{Step, Errors}

-- Why a step of a call is not done: the device failed, there is too little room, or a page reads otherwise than it was written, which two
-- tags that differ tell.
abbrev pub MayStop : FsErr → Type 0
MayStop DeviceFault = Unit {0}
MayStop Tight = Unit {0}
MayStop (Damaged d) = d.wanted ≢ d.found
MayStop why = ⊥

abbrev pub refusing : Errors FsErr
refusing = record { fault = DeviceFault; means = MayStop; told = tt }

-- A cut in a collection keeps the image, and where two blocks were free it recovers.
pub record RoomCut (g : Geometry) (was image : List ℕ) : Type 0 where
  pub keeps : Keeps g was image
  pub mends : HasReserve g was → Recovers g image

-- Pages can be had for a call: the image is tidy with its reserve, and has room for them.
pub record CanTakePages (g : Geometry) (index pages : ℕ) (image : List ℕ) : Type 0 where
  pub tidy : IsTidy g image
  pub reserve : HasReserve g image
  pub room : HasRoomFor g image index pages

-- an index page can be had
abbrev pub CanTakePage : Geometry → List ℕ → Type 0
CanTakePage g image = CanTakePages g 1 0 image

-- An index page is had for a cut, or there is none: then two blocks are free as before, which needs that the table had no room for it.
abbrev pub PageOrNone : Geometry → Bool → (was now : List ℕ) → Type 0
PageOrNone g true was now = MadeRoom g 1 0 was now
PageOrNone g false was now = IsTight g 1 0 was now × (HasRoomFor g was 1 0 → ⊥)

-- The image is tidy with its reserve.
pub record IsSettled (g : Geometry) (image : List ℕ) : Type 0 where
  pub tidy : IsTidy g image
  pub reserve : HasReserve g image

-- Collection is stuck, which needs that fewer than two blocks were free.
pub record IsStuckAt (g : Geometry) (was now : List ℕ) : Type 0 where
  pub stuck : IsStuck g was now
  pub short : HasReserve g was → ⊥

-- all is packed, or collection is stuck
abbrev pub PackedOrStuck : Geometry → Bool → (was now : List ℕ) → Type 0
PackedOrStuck g true was now = IsStuckAt g was now
PackedOrStuck g false was now = IsCompact g was now

-- ---- the steps: an index page is had and two blocks are free, whether one is had where two blocks are free, and all is packed or collection is stuck

abbrev pub taking_pages : (index pages : ℕ) → Step (Unit {0})
taking_pages index pages = record { needs = λ g was. CanTakePages g index pages was; cut = RoomCut; done = λ g was now ok. MadeRoom g index pages was now }

abbrev pub taking_page : Step (Unit {0})
taking_page = taking_pages 1 0

abbrev pub seeking_page : Step Bool
seeking_page = record { needs = IsSettled; cut = RoomCut; done = λ g was now had. PageOrNone g had was now }

abbrev pub packing : (before after : ℕ) → Step Bool
packing before after =
    record { needs = IsTidy; cut = RoomCut; done = λ g was now stuck. PackedOrStuck g stuck was now × SweptWhile g Never was now before after }
