-- Endings that a step may have are endings that a command may have.
use Rattle.std.proofs.Common.{◌≡◌, ◌≢◌, ℕ, Bool, true, false, if◌then◌else◌, sym, ◌∙◌, ap, refl, ⊎_elim, subst, Some, Result, Ok, Err}
use Rattle.std.specs.Prelude.{nat_lt, IfErr}
use Rattle.std.proofs.lemmas.Bool.{cases_Bool}
use Rattle.geometry.specs.declared.geometry.Geometry.{Geometry}
use Rattle.nor_core.specs.declared.state.NorState.{Ghosts as NorOf}
use Rattle.folder_core.specs.declared.state.FolderState.{Ghosts as FolderOf}
use Rattle.table_model.specs.declared.error.FsErr.{FsErr}
use Rattle.table_model.specs.declared.error.FsErr.TheVariants.{DeviceFault, Damaged as TheDamaged, Failed, NotFound, Tight as TooTight}
use Rattle.table_model.specs.declared.error.Differ.{Differ as Differs}
use Rattle.table_model.specs.Reply.{Fine, Refuses}
use Rattle.vol_mount.specs.declared.lent.MountErr.{MountErr}
use Rattle.vol_mount.specs.declared.lent.MountErr.TheVariants.{NotAFs as MountNotAFs, DeviceFault as MountFault}
use Rattle.volume.specs.declared.volume.Volume.{Volume}
use Rattle.volume.specs.declared.map_calls.MapErr.{MapErr}
use Rattle.volume.specs.declared.map_calls.MapErr.TheVariants.{Call, NoMap, NotMapped, MapBusy}
use Rattle.volume.specs.Replies.{told}
use Rattle.volume.specs.Settles.{SettledOr}
use Rattle.volume.specs.Stages.{takes_calls}
use Rattle.volume.proofs.RunSettling.{unmounts_open}
use Rattle.folder_plan.specs.declared.refusing.Refusal.{Refusal}
use Rattle.folder_plan.specs.declared.refusing.Refusal.TheVariants.{BadNames, Full as NoRoom}
use Rattle.tool_parts.specs.declared.ending.Ending.{Ending}
use Rattle.tool_parts.specs.declared.ending.Ending.TheVariants.{Done, NotAFs, Mixed, BoardFault, Damaged, Tight, Differ}
use Rattle.tool_parts.specs.Among.{MayEndCheck, MayEndWork}
use Rattle.tool_parts.specs.Mounting.{mount_ends}
use Rattle.tool_parts.specs.Refusals.{said_ending, report_ending}
use Rattle.tool_core.specs.Among.{MayEndList, MayEndExtract, MayEndReport, MayEndMake, MayEndMap}
use Rattle.tool_core.specs.Filling.{unsettled_as}
use Rattle.tool_core.specs.Making.{refused_by, StopsMake}
use Rattle.tool_core.specs.Mapping.{unmapped_as, collected_as}

-- ---- a volume that isn't mounted, or isn't checked

pub mount_in_list : (why : MountErr) → MayEndList (mount_ends why)
mount_in_list (MountNotAFs spoiled) = tt {0}
mount_in_list MountFault = tt {0}

pub mount_in_extract : (why : MountErr) → MayEndExtract (mount_ends why)
mount_in_extract (MountNotAFs spoiled) = tt {0}
mount_in_extract MountFault = tt {0}

pub check_in_report : (ending : Ending) → MayEndCheck ending → MayEndReport ending
check_in_report (NotAFs spoiled) may = may
check_in_report (Mixed blocks) may = may
check_in_report BoardFault may = may
check_in_report (Differ differ) may = may
check_in_report _ may = absurd may

pub check_in_make : (ending : Ending) → MayEndCheck ending → MayEndMake ending
check_in_make (NotAFs spoiled) may = may
check_in_make (Mixed blocks) may = may
check_in_make BoardFault may = may
check_in_make (Differ differ) may = may
check_in_make _ may = absurd may

pub check_in_map : (id : ℕ) (ending : Ending) → MayEndCheck ending → MayEndMap id ending
check_in_map id (NotAFs spoiled) may = may
check_in_map id (Mixed blocks) may = may
check_in_map id BoardFault may = may
check_in_map id (Differ differ) may = may
check_in_map id _ may = absurd may

-- ---- a list or a report that was said

said_listed : (b : Bool) (damaged : ℕ) → MayEndList (if b then Damaged damaged else Done)
said_listed true damaged = tt {0}
said_listed false damaged = tt {0}

pub said_in_list : (damaged : ℕ) → MayEndList (said_ending damaged)
said_in_list damaged = said_listed (nat_lt 0 damaged) damaged

said_extracted : (b : Bool) (damaged : ℕ) → MayEndExtract (if b then Damaged damaged else Done)
said_extracted true damaged = tt {0}
said_extracted false damaged = tt {0}

pub said_in_extract : (damaged : ℕ) → MayEndExtract (said_ending damaged)
said_in_extract damaged = said_extracted (nat_lt 0 damaged) damaged

said_reported : (b c : Bool) (damaged free : ℕ) → MayEndReport (if b then Damaged damaged else if c then Tight free else Done)
said_reported true c damaged free = tt {0}
said_reported false true damaged free = tt {0}
said_reported false false damaged free = tt {0}

pub said_in_report : (damaged free : ℕ) → MayEndReport (report_ending damaged free)
said_in_report damaged free = said_reported (nat_lt 0 damaged) (nat_lt free 2) damaged free

-- ---- a call that failed

pub unsettled_among : (why : FsErr) → ((d : Differs) → why ≡ TheDamaged d → d.wanted ≢ d.found) → MayEndWork (unsettled_as why)
unsettled_among DeviceFault apart = tt {0}
unsettled_among (TheDamaged d) apart = apart d refl
unsettled_among _ apart = tt {0}

unsettled_in_map : (id : ℕ) (why : FsErr) → ((d : Differs) → why ≡ TheDamaged d → d.wanted ≢ d.found) → MayEndMap id (unsettled_as why)
unsettled_in_map id DeviceFault apart = tt {0}
unsettled_in_map id (TheDamaged d) apart = apart d refl
unsettled_in_map id _ apart = tt {0}

pub unmapped_among : (id : ℕ) (why : MapErr) → ((d : Differs) → Some why ≡ Some (Call (TheDamaged d)) → d.wanted ≢ d.found) → MayEndMap id (unmapped_as id why)
unmapped_among id (Call NotFound) apart = refl
unmapped_among id (Call why) apart = unsettled_in_map id why (λ d is. apart d (ap (λ (w : FsErr). Some (Call w)) is))
unmapped_among id _ apart = tt {0}

-- garbage collection that isn't stuck
pub collected_among : (id : ℕ) (result : Result (Unit {0}) FsErr) → ((d : Differs) → told (λ done. Fine) result ≡ Refuses (TheDamaged d) → d.wanted ≢ d.found) → IfErr (collected_as result) (MayEndMap id)
collected_among id (Ok done) apart = tt {0}
collected_among id (Err TooTight) apart = tt {0}
collected_among id (Err DeviceFault) apart = tt {0}
collected_among id (Err (TheDamaged d)) apart = apart d refl
collected_among id (Err _) apart = tt {0}

module _ {N : Type 0} {nor : NorOf N} {old new : Volume N nor} {last : Result (Unit {0}) FsErr} (takes : takes_calls old ≡ true → SettledOr old new last) (closed : takes_calls old ≡ false → (last ≡ Err Failed) × (new ≡ old)) where
  -- of a page that reads otherwise as the written bytes are put onto the chip, two tags are told that differ
  pub settled_apart : (d : Differs) → last ≡ Err (TheDamaged d) → d.wanted ≢ d.found
  settled_apart d is = ⊎_elim
      (λ yes. (unmounts_open last yes (takes yes)).differs d is)
      (λ no. let both = sym (closed no).0 ∙ is in absurd (cc))
      (cases_Bool (takes_calls old))

-- ---- a make

-- a folder of which no image can be made
pub stops_among : {X : Type 0} (folder : FolderOf X) (g : Geometry) (before after : X) (ending : Ending) → StopsMake folder g before after ending → MayEndMake ending
stops_among folder g before after ending stops = ⊎_elim
    (λ fault. subst (λ (e : Ending). MayEndMake e) (sym fault.0) (tt {0}))
    (λ refused. subst (λ (e : Ending). MayEndMake e) (sym refused.2) (refused_among refused.0))
    stops
  where
    refused_among : (why : Refusal) → MayEndMake (refused_by why)
    refused_among (BadNames at) = tt {0}
    refused_among (NoRoom index pages) = tt {0}

-- a volume that can't be formatted
pub broken_make : (ending : Ending) → ending ≡ BoardFault → MayEndMake ending
broken_make ending is = subst (λ (e : Ending). MayEndMake e) (sym is) (tt {0})

pub broken_work : (ending : Ending) → ending ≡ BoardFault → MayEndWork ending
broken_work ending is = subst (λ (e : Ending). MayEndWork e) (sym is) (tt {0})

-- the work on a volume that was
pub work_in_make : (ending : Ending) → MayEndWork ending → MayEndMake ending
work_in_make Done may = may
work_in_make (NotAFs spoiled) may = may
work_in_make (Mixed blocks) may = may
work_in_make BoardFault may = may
work_in_make (Tight free) may = may
work_in_make (Differ differ) may = may
work_in_make _ may = absurd may
