-- Calls of a copy one after the other.
use Rattle.std.proofs.Common.{◌≡◌, List, ℕ, true, ◌∙◌, ap, subst}
use Rattle.geometry.specs.declared.geometry.Geometry.{Geometry}
use Rattle.nor_core.specs.declared.state.NorState.{Ghosts as NorOf}
use Rattle.nor_core.specs.Device.{OnlyReads}
use Rattle.nor_core.proofs.Cuts.{go_on, wider, unchanged}
use Rattle.table_model.specs.Table.{File, Open}
use Rattle.image_model.specs.Tidy.{IsTidy}
use Rattle.image_model.specs.Tables.{table_of}
use Rattle.call_model.specs.Safe.{HoldsImage}
use Rattle.call_model.proofs.Safety.{holds_safe, holds_itself, safe_as}
use Rattle.header_laws.proofs.Telling.{each-by_id}
use Rattle.header_laws.proofs.Naming.{each_by_name}
use Rattle.table_model.specs.Table.{State}
use Rattle.table_model.specs.Window.{settled_at}
use Rattle.vol_mount.specs.declared.reader.Reader.{Reader}
use Rattle.vol_mount.specs.Readers.{IsSameReader}
use Rattle.volume.specs.declared.volume.Volume.{Volume}
use Rattle.volume_run.specs.Resting.{IsAtRest}
use Rattle.copy_model.specs.Tasks.{Task}
use Rattle.copy_model.specs.Under.{IsTable, IsUnder}
use Rattle.vol_copy.specs.Ends.{TellsFiles}
use Rattle.vol_copy.specs.Stages.{Rests, Works, LacksRoom, CutsUnder, Leads, With}

-- the table of any image is one
pub image_table : (g : Geometry) (image : List ℕ) → IsTable (table_of g image)
image_table g image = record { by_id = each-by_id g image; by_name = each_by_name g image }

module _ {M : Type 0} {nor : NorOf M} where
  -- so is that of a volume at rest
  pub rest_table : {g : Geometry} {v : Volume M nor} {s : State} → IsAtRest g v s → IsTable s.table
  unfolding settled_at
  rest_table {g} {v} {s} rest = subst IsTable rest.stands.stands.image.table (image_table g (nor.bytes v.nor.now))

  -- a target at rest at some state
  pub record RestsSome (t : Task) (v : Volume M nor) : Type 0 where
    pub state : State
    pub at : IsAtRest t.g v state

  -- stages at which it is
  pub rests_some : {holds : Task → List File → Type 0} (t : Task) (v : Volume M nor) → Rests holds t v → RestsSome t v
  rests_some t v has = record { state = _; at = has.at }

  pub works_some : {fd flags : ℕ} {holds : Task → Open → List File → Type 0} (t : Task) (v : Volume M nor) → Works fd flags holds t v → RestsSome t v
  works_some t v has = record { state = _; at = has.at }

  pub lacks_some : {index pages : ℕ} (t : Task) (v : Volume M nor) → LacksRoom index pages t v → RestsSome t v
  lacks_some t v has = record { state = has.state; at = has.at }

  pub rest_tidy : {g : Geometry} {v : Volume M nor} {s : State} → IsAtRest g v s → IsTidy g (nor.bytes v.nor.now)
  rest_tidy rest = rest.stands.stands.image.tidy

  -- a cut in the first calls, or in those that come after them
  pub cuts_then : (A B : Task → Volume M nor → Type 0) (old mid new : Volume M nor) → ((t : Task) → B t mid → RestsSome t mid) → CutsUnder A old mid → Leads A B old mid → CutsUnder B mid new → CutsUnder A old new
  cuts_then A B old mid new rests first leads second = go_on first second (λ tells image here later. λ t has.
      let b : B t mid = leads t has in
      let at = (rests t b).at in
      let after = later t b in
      let holds : HoldsImage t.g (nor.bytes old.nor.now) (nor.bytes mid.nor.now) = record { sound = (here t has).0.sound; reserve = λ two. at.stands.reserve } in
      (holds_safe t.g (nor.bytes old.nor.now) (nor.bytes mid.nor.now) image holds (rest_tidy at) after.0, after.1))

  -- no call
  pub cuts_none : (A : Task → Volume M nor → Type 0) (v : Volume M nor) → ((t : Task) → A t v → RestsSome t v) → ((t : Task) → A t v → t.known ≡ true → IsUnder t.alike t.source t.first (table_of t.g (nor.bytes v.nor.now))) → CutsUnder A v v
  cuts_none A v rests under = unchanged v.nor.now _ (λ tells. λ t has.
      (safe_as t.g (nor.bytes v.nor.now) (nor.bytes v.nor.now) (holds_itself t.g (nor.bytes v.nor.now)) (rest_tidy (rests t has).at), under t has))

  -- what holds of fewer targets
  pub cuts_of : (A B : Task → Volume M nor → Type 0) (old new : Volume M nor) → ((t : Task) → A t old → B t old) → CutsUnder B old new → CutsUnder A old new
  cuts_of A B old new weaker cuts = wider cuts (λ tells image here. λ t has. here t (weaker t has))

-- a source that is only read tells what it told
pub tells_on : {N : Type 0} {nor : NorOf N} {old new : Reader N nor} {source : List File} → OnlyReads nor old.nor.now new.nor.now → IsSameReader old new → TellsFiles nor old source → TellsFiles nor new source
tells_on {N} {nor} {old} {new} {source} reads same tells = (reads.told tells.0, ap (λ (g : Geometry). table_of g (nor.bytes new.nor.now)) same.geometry ∙ ap (table_of old.geometry) reads.bytes ∙ tells.1)

module _ {N M : Type 0} {nor_from : NorOf N} {nor : NorOf M} where
  -- beside a source that the first calls only read
  pub with_then : (A B : Task → Volume M nor → Type 0) (from from_mid : Reader N nor_from) (old mid : Volume M nor) → OnlyReads nor_from from.nor.now from_mid.nor.now → IsSameReader from from_mid →
      Leads (With nor_from from A) B old mid → Leads (With nor_from from A) (With nor_from from_mid B) old mid
  with_then A B from from_mid old mid reads same leads = λ t has. (λ known. tells_on reads same (has.0 known), leads t has)

  pub cuts_with : (A B : Task → Volume M nor → Type 0) (from from_mid : Reader N nor_from) (old mid new : Volume M nor) → OnlyReads nor_from from.nor.now from_mid.nor.now → IsSameReader from from_mid →
      ((t : Task) → B t mid → RestsSome t mid) → CutsUnder (With nor_from from A) old mid → Leads (With nor_from from A) B old mid → CutsUnder (With nor_from from_mid B) mid new → CutsUnder (With nor_from from A) old new
  cuts_with A B from from_mid old mid new reads same rests first leads second =
      cuts_then (With nor_from from A) (With nor_from from_mid B) old mid new (λ t has. rests t has.1) first (with_then A B from from_mid old mid reads same leads) second
