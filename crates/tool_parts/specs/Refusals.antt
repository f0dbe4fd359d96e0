-- How a command ends by the images that it finds and leaves.
use Rattle.std.specs.Prelude.{ℕ, List, [], length, nat_lt, not, Option, Some, None, if◌then◌else◌, unwrap_or}
use Rattle.geometry.specs.declared.geometry.Geometry.{Geometry}
use Rattle.image_model.specs.Tables.{damaged_of}
use Rattle.image_model.specs.Tidy.{free_blocks}
use Rattle.image_model.specs.Kinds.{spoiled_blocks}
use Rattle.image_model.specs.Shared.{shared_blocks, fits_over}
use Rattle.tool_parts.specs.declared.ending.Ending.{Ending}
use Rattle.tool_parts.specs.declared.ending.Ending.TheVariants.{Done, NotAFs, Mixed, Damaged, Tight}

-- why mounting doesn't take an image: two or more blocks lack their magic
unfoldable pub mount_refusal : Geometry → List ℕ → Option Ending
mount_refusal g image = if nat_lt 1 (spoiled_blocks g image) then Some (NotAFs (spoiled_blocks g image)) else None

-- why mounting or the check doesn't take one: two or more blocks lack their magic, or it doesn't fit over: some blocks are shared, and their
-- index pages find no places
unfoldable pub check_refusal : Geometry → List ℕ → Option Ending
check_refusal g image =
    if nat_lt 1 (spoiled_blocks g image) then Some (NotAFs (spoiled_blocks g image))
    else if not (fits_over g image) then Some (Mixed (shared_blocks g image))
    else None

-- why an image that the check left isn't worked on: fewer than two blocks are free
unfoldable pub tight_refusal : Geometry → List ℕ → Option Ending
tight_refusal g image = if nat_lt (free_blocks g image) 2 then Some (Tight (free_blocks g image)) else None

-- the first of two endings, if there is one
abbrev pub or_ending : Option Ending → Option Ending → Option Ending
or_ending (Some ending) later = Some ending
or_ending None later = later

-- why no call is done on an image, of which mounting and the check left another
abbrev pub begin_refusal : Geometry → (was now : List ℕ) → Option Ending
begin_refusal g was now = or_ending (check_refusal g was) (tight_refusal g now)

-- how a list ends that said so many damaged ids
abbrev pub said_ending : (damaged : ℕ) → Ending
said_ending damaged = if nat_lt 0 damaged then Damaged damaged else Done

-- how a check ends that said so many damaged files and free blocks
abbrev pub report_ending : (damaged free : ℕ) → Ending
report_ending damaged free =
    if nat_lt 0 damaged then Damaged damaged
    else if nat_lt free 2 then Tight free
    else Done

-- how a list of an image ends
abbrev pub list_ending : Geometry → List ℕ → Ending
list_ending g image = unwrap_or (mount_refusal g image) (said_ending (length (damaged_of g image)))

-- how a check ends that found one image and left another
abbrev pub check_ending : Geometry → (was now : List ℕ) → Ending
check_ending g was now = unwrap_or (check_refusal g was) (report_ending (length (damaged_of g was)) (free_blocks g now))

-- a list, as a text that is said, but where there is such a refusal
abbrev pub unless_refused : {X : Type 0} → Option Ending → List X → List X
unless_refused (Some ending) xs = []
unless_refused None xs = xs
