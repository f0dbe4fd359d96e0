-- The file that a remove takes out, and what it leaves.
use Rattle.std.proofs.Common.{◌≡◌, ℕ, ◌+◌, ◌≤◌, ◌==◌, List, [], ◌∷◌, Bool, true, refl, sym, ◌∙◌, ap, subst, arith}
use Rattle.std.specs.Prelude.{Option, Some, None, is_some, map, Result}
use Rattle.std.specs.Option.{option_map}
use Rattle.geometry.specs.declared.geometry.Geometry.{Geometry}
use Rattle.nor_core.specs.declared.state.NorState.{Ghosts as NorOf}
use Rattle.table_model.specs.declared.error.FsErr.{FsErr}
use Rattle.table_model.specs.declared.error.FsErr.TheVariants.{NotFound}
use Rattle.table_model.specs.Table.{File, Open, State, file_named, file_of, has_id, drop_file}
use Rattle.table_model.specs.Names.{name_refusal}
use Rattle.table_model.specs.Files.{without}
use Rattle.table_model.specs.Descriptors.{without_file}
use Rattle.table_model.specs.Outcome.{Outcome, refused, gives}
use Rattle.fd_table.specs.declared.slot.FdSlot.{FdSlot}
use Rattle.fd_table.specs.Slots.{descriptors}
use Rattle.table_model.specs.Calls.{answer_remove}
use Rattle.table_model.specs.Reply.{Fine}
use Rattle.table_model.specs.Ask.{Removes}
use Rattle.table_model.specs.Flat.{answer}
use Rattle.table_model.specs.Steps.{done_steps}
use Rattle.image_model.specs.Places.{IsImage}
use Rattle.image_model.specs.Tables.{table_of}
use Rattle.image_model.specs.Tidy.{IsTidy}
use Rattle.flash_view.specs.Found.{first_named}
use Rattle.flash_view.specs.declared.view.View.{View}
use Rattle.flash_view.specs.Steps.{Errors, Stepped}
use Rattle.header_laws.proofs.Listed.{any-found}
use Rattle.header_laws.proofs.HeadNames.{named}
use Rattle.header_laws.proofs.Telling.{found-by_id}
use Rattle.file_drop.specs.Removals.{CanRemove, removing}
use Rattle.image_model.specs.Tidy.{has_spare}
use Rattle.file_calls.specs.States.{IsImageOf}
use Rattle.file_calls.specs.Cleans.{Taken}
use Rattle.file_calls.specs.Removes.{id_named, IsMissing}
use Rattle.room_laws.proofs.Staying.{reserve_mends}
use Rattle.file_calls.proofs.CleansBy.{remove_leaves, untaken}
use Rattle.file_calls.proofs.Going.{room_stays, IsOneStep, one_step, one_does, before_or_after, IsStep}

-- ---- the file of a name

-- the id of the file of a name is that of the first header page with it
pub named_some : (g : Geometry) (image name : List ℕ) (id : ℕ) → IsImage g image → IsTidy g image → first_named g image name ≡ Some id → id_named name (table_of g image) ≡ Some id
named_some g image name id whole tidy first = sym (named g image whole tidy name) ∙ first

missing_by : (name : List ℕ) (files : List File) (o : Option File) → file_named name files ≡ o → option_map (λ f. f.id) o ≡ None → file_named name files ≡ None
missing_by name files None at e = at
missing_by name files (Some f) at e = absurd (cc)

pub named_none : (g : Geometry) (image name : List ℕ) → IsImage g image → IsTidy g image → first_named g image name ≡ None → file_named name (table_of g image) ≡ None
named_none g image name whole tidy first = missing_by name (table_of g image) (file_named name (table_of g image)) refl (sym (named g image whole tidy name) ∙ first)

-- it is in the table under its id
pub has_by : (id : ℕ) (files : List File) (f : File) → file_of id files ≡ Some f → has_id id files ≡ true
unfolding has_id file_of
has_by id files f at = any-found (λ (x : File). x.id == id) files ∙ ap is_some at

there_by : (g : Geometry) (image name : List ℕ) (id : ℕ) (o : Option File) → file_named name (table_of g image) ≡ o → option_map (λ f. f.id) o ≡ Some id → has_id id (table_of g image) ≡ true
there_by g image name id None at e = absurd (cc)
there_by g image name id (Some f) at e =
    let same : f.id ≡ id = cc in
    has_by id (table_of g image) f (subst (λ (n : ℕ). file_of n (table_of g image) ≡ Some f) same ((found-by_id g image f).0 name at))

pub can_remove : (g : Geometry) (image name : List ℕ) (id : ℕ) → IsTidy g image → id_named name (table_of g image) ≡ Some id → CanRemove g image id
can_remove g image name id tidy is = record { tidy = tidy; there = there_by g image name id (file_named name (table_of g image)) refl is }

-- ---- the flat table

flat_removes : (g : Geometry) (spare : Bool) (s : State) (name : List ℕ) (f : File) → name_refusal name ≡ None → file_named name s.table ≡ Some f → answer g spare s (Removes name) ≡ gives Fine (without f s)
unfolding answer answer_remove
flat_removes g spare s name f fine at = rw (fine, at) refl

flat_missing : (g : Geometry) (spare : Bool) (s : State) (name : List ℕ) → name_refusal name ≡ None → file_named name s.table ≡ None → answer g spare s (Removes name) ≡ refused NotFound s
unfolding answer answer_remove
flat_missing g spare s name fine at = rw (fine, at) refl

remove_one : (g : Geometry) (s : State) (name : List ℕ) (files : List File) → done_steps g s (Removes name) files ≡ files ∷ []
unfolding done_steps
remove_one g s name files = refl

-- the file of the name is taken out
one_by : (g : Geometry) (spare : Bool) (s : State) (name : List ℕ) (id : ℕ) (o : Option File) → name_refusal name ≡ None → file_named name s.table ≡ o → option_map (λ f. f.id) o ≡ Some id → IsOneStep g spare s (Removes name) Fine (drop_file id s.table)
unfolding without
one_by g spare s name id None fine at e = absurd (cc)
one_by g spare s name id (Some f) fine at e =
    let same : f.id ≡ id = cc in
    subst (λ (n : ℕ). IsOneStep g spare s (Removes name) Fine (drop_file n s.table)) same
    (one_step g spare s (without f s) (Removes name) Fine refl (flat_removes g spare s name f fine at) (remove_one g s name (without f s).table))

-- the descriptors on it are closed
slots_by : (g : Geometry) (spare : Bool) (s : State) (name : List ℕ) (id : ℕ) (slots : List (Option Open)) (o : Option File) → name_refusal name ≡ None → file_named name s.table ≡ o → option_map (λ f. f.id) o ≡ Some id → slots ≡ s.slots →
    map (without_file id) slots ≡ (answer g spare s (Removes name)).next.slots
unfolding without
slots_by g spare s name id slots None fine at e same = absurd (cc)
slots_by g spare s name id slots (Some f) fine at e same =
    let is : f.id ≡ id = cc in
    sym (ap (λ (o : Outcome). o.next.slots) (flat_removes g spare s name f fine at) ∙ rw (is, same) refl)

one : (g : Geometry) (image : List ℕ) (s : State) (name : List ℕ) (id : ℕ) → name_refusal name ≡ None → s.table ≡ table_of g image → id_named name (table_of g image) ≡ Some id → IsOneStep g (has_spare g image) s (Removes name) Fine (drop_file id (table_of g image))
one g image s name id fine same is = subst (λ (table : List File). IsOneStep g (has_spare g image) s (Removes name) Fine (drop_file id table)) same
    (one_by g (has_spare g image) s name id (file_named name s.table) fine refl (ap (id_named name) same ∙ is))

-- ---- over a device

module _ {D : Type 0} {nor : NorOf D} {g : Geometry} {old : D} {slots : List FdSlot} (name : List ℕ) (fine : name_refusal name ≡ None) where
  -- not removed
  pub remove_refuses : {why : FsErr} (s : State) → IsImageOf nor g old slots s → IsMissing name (table_of g (nor.bytes old)) why → answer g (has_spare g (nor.bytes old)) s (Removes name) ≡ refused why s
  remove_refuses {why} s here missing = rw missing.0 (flat_missing g (has_spare g (nor.bytes old)) s name fine (ap (file_named name) here.table ∙ missing.1))

  -- the step
  pub remove_step : (id : ℕ) → (nor.tells old → IsTidy g (nor.bytes old) → id_named name (table_of g (nor.bytes old)) ≡ Some id) → IsStep nor g slots (Removes name) Fine (map (without_file id) (descriptors slots)) old (removing id)
  remove_step id found = record {
    can = λ s here. can_remove g (nor.bytes old) name id here.tidy (found here.tells here.tidy);
    cut = λ s here image cut.
        before_or_after g (nor.bytes old) image s (Removes name) Fine (drop_file id (table_of g (nor.bytes old))) (one g (nor.bytes old) s name id fine here.table (found here.tells here.tidy)) here.table cut.sound
        (λ reserve. reserve_mends g image (let free = cut.free in omega (arith, reserve, free))) cut.table;
    done = λ s here now done.
        let o = one g (nor.bytes old) s name id fine here.table (found here.tells here.tidy) in
        record { answer_is = o.answer_is; tidy = done.tidy; table = o.table_is ∙ sym done.table; slots = slots_by g (has_spare g (nor.bytes old)) s name id (descriptors slots) (file_named name s.table) fine refl (ap (id_named name) here.table ∙ found here.tells here.tidy) here.slots; reserve = λ reserve. let free = done.free in omega (arith, reserve, free) };
    doable = λ s here. one_does g (nor.bytes old) s (Removes name) Fine (drop_file id (table_of g (nor.bytes old))) refl (one g (nor.bytes old) s name id fine here.table (found here.tells here.tidy));
  }

-- no page is taken for it
pub removal_taken : {N E : Type 0} {nor : NorOf N} {errors : Errors E} {old new : View N nor} {r : Result (Unit {0}) E} {id rest : ℕ} → Stepped errors old new r (removing id) → nor.device_writes new.nor.now ≤ nor.device_writes old.nor.now + rest → Taken errors 0 0 rest old new r (removing id)
removal_taken {old = old} call few = untaken call (λ tells can. room_stays old.geometry _ can.tidy) (λ h was image cut. remove_leaves cut) few
