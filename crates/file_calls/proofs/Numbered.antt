-- Refusals that need no byte of the device.
use Rattle.std.proofs.Common.{◌≡◌, ℕ, ◌⊎◌, ⊎_elim, List, length, Bool, true, false, ◌==◌, refl, sym, ◌∙◌, ap, if◌then◌else◌}
use Rattle.std.specs.Prelude.{Option, Some, None, Ok, Err}
use Rattle.geometry.specs.declared.geometry.Geometry.{Geometry}
use Rattle.table_model.specs.declared.error.FsErr.{FsErr}
use Rattle.table_model.specs.declared.error.FsErr.TheVariants.{BadName, NameTooLong, BadFlags, OutOfDescriptors, NotReadable, NotWritable}
use Rattle.table_model.specs.Table.{Open}
use Rattle.table_model.specs.Names.{name_refusal}
use Rattle.table_model.specs.Descriptors.{is_bad_flags, may_read, may_write, open_at, lowest_closed}
use Rattle.table_model.specs.Reply.{Answer, Refuses}
use Rattle.table_model.specs.Ask.{Ask, Creates, Opens, Removes, Renames, Stats, SetsMeta, SetsMetaOpen}
use Rattle.fd_table.specs.declared.slot.FdSlot.{FdSlot}
use Rattle.fd_table.specs.Slots.{descriptors}
use Rattle.file_calls.specs.Replies.{is_of_name, is_of_slots, names_fault}
use Rattle.file_calls.specs.Slots.{first_of, fault_unless, read_fault, write_fault, full_fault, opening_fault, meta_fault, slots_fault, IsNumbered}
use Rattle.file_calls.specs.Opens.{TakesSlot}

-- ---- what is shown

-- a call whose arguments and descriptors are accepted, and that is refused for none of them
pub numbered_fine : (g : Geometry) (slots : List FdSlot) (ask : Ask) (reply : Answer) (wrote : Bool) → slots_fault g (descriptors slots) ask ≡ None → ((why : FsErr) → is_of_slots why ≡ true → reply ≡ Refuses why → ⊥) → IsNumbered g slots ask reply wrote
numbered_fine g slots ask reply wrote fine other = record {
  refused = λ why is. absurd (let no : None ≡ Some why = sym fine ∙ is in cc);
  only = λ why of is. absurd (other why of is);
}

-- one that is refused for them
pub numbered_refused : (g : Geometry) (slots : List FdSlot) (ask : Ask) (why : FsErr) (wrote : Bool) → slots_fault g (descriptors slots) ask ≡ Some why → wrote ≡ false → IsNumbered g slots ask (Refuses why) wrote
numbered_refused g slots ask why wrote fault none = record {
  refused = λ w is. (let same : why ≡ w = (let e : Some why ≡ Some w = sym fault ∙ is in cc) in ap (λ (x : FsErr). Refuses x) same, none);
  only = λ w of is. (let same : why ≡ w = (let e : Refuses why ≡ Refuses w = is in cc) in fault ∙ ap (λ (x : FsErr). Some x) same);
}

-- ---- names

pub name_of_slots : (why : FsErr) → is_of_name why ≡ true → is_of_slots why ≡ true
name_of_slots BadName e = refl
name_of_slots NameTooLong e = refl
name_of_slots _ e = absurd (let no : false ≡ true = e in cc)

-- names come first
pub names_barred : (g : Geometry) (slots : List (Option Open)) (ask : Ask) (why : FsErr) → names_fault ask ≡ Some why → slots_fault g slots ask ≡ Some why
names_barred g slots (Creates name) why e = e
names_barred g slots (Opens name flags) why e = ap (λ (o : Option FsErr). first_of o (opening_fault flags slots)) e
names_barred g slots (Removes name) why e = e
names_barred g slots (Renames old_name new_name) why e = e
names_barred g slots (Stats name) why e = e
names_barred g slots (SetsMeta name meta) why e = ap (λ (o : Option FsErr). first_of o (meta_fault g meta)) e
names_barred g slots _ why e = absurd (let no : None ≡ Some why = e in cc)

-- ---- descriptors

pub read_fine : {o : Option Open} (d : Open) → o ≡ Some d → may_read d.flags ≡ true → read_fault o ≡ None
read_fine d at may = ap read_fault at ∙ ap (λ (b : Bool). fault_unless b NotReadable) may

pub read_barred : {o : Option Open} (d : Open) → o ≡ Some d → may_read d.flags ≡ false → read_fault o ≡ Some NotReadable
read_barred d at never = ap read_fault at ∙ ap (λ (b : Bool). fault_unless b NotReadable) never

pub write_fine : {o : Option Open} (d : Open) → o ≡ Some d → may_write d.flags ≡ true → write_fault o ≡ None
write_fine d at may = ap write_fault at ∙ ap (λ (b : Bool). fault_unless b NotWritable) may

pub write_barred : {o : Option Open} (d : Open) → o ≡ Some d → may_write d.flags ≡ false → write_fault o ≡ Some NotWritable
write_barred d at never = ap write_fault at ∙ ap (λ (b : Bool). fault_unless b NotWritable) never

module _ (g : Geometry) (slots : List (Option Open)) (name : List ℕ) (fine : name_refusal name ≡ None) where
  -- ---- openings

  module _ (flags : ℕ) where
    opens_by : slots_fault g slots (Opens name flags) ≡ opening_fault flags slots
    opens_by = ap (λ (o : Option FsErr). first_of o (opening_fault flags slots)) fine

    flags_by : (b : Bool) → is_bad_flags flags ≡ b → opening_fault flags slots ≡ (if b then Some BadFlags else full_fault (lowest_closed slots))
    flags_by b e = ap (λ (c : Bool). if c then Some BadFlags else full_fault (lowest_closed slots)) e

    pub opens_fine : {fd : ℕ} → TakesSlot flags slots (Ok fd) → slots_fault g slots (Opens name flags) ≡ None
    opens_fine taken = opens_by ∙ flags_by false taken.0 ∙ ap full_fault taken.1

    pub opens_barred : (why : FsErr) → TakesSlot flags slots (Err why) → (is_of_slots why ≡ true) × (slots_fault g slots (Opens name flags) ≡ Some why)
    opens_barred why told = ⊎_elim
        (λ (bad : (why ≡ BadFlags) × (is_bad_flags flags ≡ true)). (ap is_of_slots bad.0, opens_by ∙ flags_by true bad.1 ∙ ap (λ (x : FsErr). Some x) (sym bad.0)))
        (λ (all : (why ≡ OutOfDescriptors) × (is_bad_flags flags ≡ false) × (lowest_closed slots ≡ None)). (ap is_of_slots all.0, opens_by ∙ flags_by false all.1 ∙ ap full_fault all.2 ∙ ap (λ (x : FsErr). Some x) (sym all.0)))
        told

  -- ---- meta bytes by name

  pub metas_are : (meta : List ℕ) (b : Bool) → (length meta == g.meta) ≡ b → slots_fault g slots (SetsMeta name meta) ≡ fault_unless b BadFlags
  metas_are meta b like = ap (λ (o : Option FsErr). first_of o (meta_fault g meta)) fine ∙ ap (λ (c : Bool). fault_unless c BadFlags) like

-- .. and by descriptor
pub fmetas_are : (g : Geometry) (slots : List (Option Open)) (fd : ℕ) (meta : List ℕ) (b : Bool) → (length meta == g.meta) ≡ b → slots_fault g slots (SetsMetaOpen fd meta) ≡ first_of (fault_unless b BadFlags) (write_fault (open_at slots fd))
fmetas_are g slots fd meta b like = ap (λ (c : Bool). first_of (fault_unless c BadFlags) (write_fault (open_at slots fd))) like
