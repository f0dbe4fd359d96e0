-- A file that is made, empty, where a page is had for it.
use Rattle.std.proofs.Common.{◌≡◌, ℕ, ⊎_elim, inl, inr, List, Bool, true, false, refl, sym, ◌∙◌, ap, subst}
use Rattle.std.specs.Prelude.{Option, None}
use Rattle.geometry.specs.declared.geometry.Geometry.{Geometry}
use Rattle.nor_core.specs.declared.state.NorState.{Ghosts as NorOf}
use Rattle.table_model.specs.declared.error.FsErr.{FsErr}
use Rattle.table_model.specs.declared.error.FsErr.TheVariants.{ConflictingName}
use Rattle.table_model.specs.Table.{File, Open, State, has_name, least_id, put_file}
use Rattle.table_model.specs.Room.{has_room}
use Rattle.table_model.specs.Names.{name_refusal}
use Rattle.table_model.specs.Files.{new_file, created}
use Rattle.table_model.specs.Outcome.{Outcome, refused, gives}
use Rattle.table_model.specs.Calls.{answer_create}
use Rattle.table_model.specs.Reply.{Answer, Fine}
use Rattle.table_model.specs.Ask.{Ask, Creates}
use Rattle.table_model.specs.Flat.{answer}
use Rattle.table_model.specs.Steps.{is_refusal, done_steps}
use Rattle.image_model.specs.Tables.{table_of}
use Rattle.image_model.specs.Tidy.{IsTidy, has_spare}
use Rattle.header_laws.proofs.HeadPages.{has-ids}
use Rattle.header_laws.proofs.LeastIds.{least-unused, create-room}
use Rattle.file_write.specs.Creates.{creating}
use Rattle.fd_table.specs.declared.slot.FdSlot.{FdSlot}
use Rattle.fd_table.specs.Slots.{descriptors}
use Rattle.file_calls.specs.States.{IsImageOf}
use Rattle.file_calls.specs.Refusals.{has_room_beside, page_lack, IsNotNew}
use Rattle.file_calls.proofs.Going.{IsStep}
use Rattle.file_calls.proofs.Paged.{TakesPage, with_room, page_refuses, page_step}

-- a create leaves one index page more
pub created_room : (g : Geometry) (name : List ℕ) (files : List File) → has_room g (created g name files) ≡ has_room_beside g files 1
unfolding has_room_beside
created_room g name files = create-room g name files

-- what the flat table has after a call that makes a file of a name
abbrev pub MakesFile : (g : Geometry) (spare : Bool) (s : State) (name : List ℕ) (ask : Ask) (reply : Answer) (out : Outcome) → Type 0
MakesFile g spare s name ask reply out = TakesPage g spare s 1 ask reply out (created g name s.table)

-- ---- over a device

module _ {D : Type 0} {nor : NorOf D} {g : Geometry} {old : D} {slots : List FdSlot} (name : List ℕ) (ask : Ask) (reply : Answer) (other : is_refusal reply ≡ false) (out : State → Outcome)
    (file : (s : State) → IsImageOf nor g old slots s → MakesFile g (has_spare g (nor.bytes old)) s name ask reply (out s)) where
  pub new_page : (s : State) → IsImageOf nor g old slots s → TakesPage g (has_spare g (nor.bytes old)) s 1 ask reply (out s) (created g name (table_of g (nor.bytes old)))
  new_page s here = subst (λ (t : List File). TakesPage g (has_spare g (nor.bytes old)) s 1 ask reply (out s) (created g name t)) here.table (file s here)

  -- the new file goes into the table that an image has after a page was had
  with_new : (mid : List ℕ) (id : ℕ) → table_of g mid ≡ table_of g (nor.bytes old) → id ≡ least_id (table_of g (nor.bytes old)) → put_file (new_file g id name) (table_of g mid) ≡ created g name (table_of g (nor.bytes old))
  with_new mid id same least = rw (same, least) refl

  -- the step
  pub new_step : (after : List (Option Open)) (id : ℕ) → (nor.tells old → IsTidy g (nor.bytes old) → (page_lack g (nor.bytes old) 1 ≡ None) × (id ≡ least_id (table_of g (nor.bytes old)))) →
      (nor.tells old → IsTidy g (nor.bytes old) → has_name name (table_of g (nor.bytes old)) ≡ false) → ((s : State) → IsImageOf nor g old slots s → after ≡ (out s).next.slots) → IsStep nor g slots ask reply after old (with_room (creating id name))
  new_step after id prepared new moved = page_step 1 ask reply other out (created g name (table_of g (nor.bytes old))) new_page after (creating id name) (λ tells tidy. (prepared tells tidy).0)
      (λ s here mid made. record {
        tidy = made.tidy;
        reserve = made.ready.reserve;
        new_id = rw ((prepared here.tells here.tidy).1, sym made.table) (has-ids g mid made.tidy.undamaged (least_id (table_of g mid)) ∙ (least-unused (table_of g mid)).unused);
        new_name = ap (has_name name) made.table ∙ new here.tells here.tidy;
        had = made.ready.had;
      })
      (λ s here mid same image cut. record {
        sound = cut.sound;
        reserve = λ reserve. cut.reserve;
        wear = cut.wear;
        table = ⊎_elim (λ before. inl before) (λ after. inr (after ∙ with_new mid id same (prepared here.tells here.tidy).1)) cut.table;
      })
      (λ s here mid same now done. record { tidy = done.tidy; table = done.table ∙ with_new mid id same (prepared here.tells here.tidy).1; reserve = λ reserve. done.reserve })
      moved

-- ---- a create

pub flat_conflicts : (g : Geometry) (spare : Bool) (s : State) (name : List ℕ) → name_refusal name ≡ None → has_name name s.table ≡ true → answer g spare s (Creates name) ≡ refused ConflictingName s
unfolding answer answer_create
flat_conflicts g spare s name fine there = rw (fine, there) refl

-- what it makes
abbrev pub created_as : Geometry → List ℕ → State → Outcome
created_as g name s = gives Fine (record s { table = created g name s.table })

pub creates_file : (g : Geometry) (spare : Bool) (s : State) (name : List ℕ) → name_refusal name ≡ None → has_name name s.table ≡ false → MakesFile g spare s name (Creates name) Fine (created_as g name s)
unfolding answer answer_create done_steps
creates_file g spare s name fine new = record { is = rw (fine, new) refl; reply_is = refl; table_is = refl; room_is = created_room g name s.table; step = refl }

-- its step
-- one that is refused, for its name or for its page
pub create_refused : {D : Type 0} {nor : NorOf D} {g : Geometry} {old : D} {slots : List FdSlot} (name : List ℕ) → name_refusal name ≡ None → (why : FsErr) (s : State) → IsImageOf nor g old slots s →
    IsNotNew g (nor.bytes old) name why → answer g (has_spare g (nor.bytes old)) s (Creates name) ≡ refused why s
create_refused {D} {nor} {g} {old} name fine why s here stands = ⊎_elim
    (λ taken. rw taken.0 (flat_conflicts g _ s name fine (ap (has_name name) here.table ∙ taken.1)))
    (λ lack. page_refuses 1 (Creates name) Fine refl (created_as g name) (created g name (table_of g (nor.bytes old)))
    (new_page name (Creates name) Fine refl (created_as g name) (λ t at. creates_file g _ t name fine (ap (has_name name) at.table ∙ lack.0))) s here lack.1)
    stands

pub created_step : {D : Type 0} {nor : NorOf D} {old : D} {slots : List FdSlot} (g : Geometry) (name : List ℕ) → name_refusal name ≡ None → (id : ℕ) → (nor.tells old → IsTidy g (nor.bytes old) → has_name name (table_of g (nor.bytes old)) ≡ false) →
    (nor.tells old → IsTidy g (nor.bytes old) → (page_lack g (nor.bytes old) 1 ≡ None) × (id ≡ least_id (table_of g (nor.bytes old)))) → IsStep nor g slots (Creates name) Fine (descriptors slots) old (with_room (creating id name))
created_step {D} {nor} {old} {slots} g name fine id new prepared =
    new_step name (Creates name) Fine refl (created_as g name) (λ s here. creates_file g (has_spare g (nor.bytes old)) s name fine (ap (has_name name) here.table ∙ new here.tells here.tidy)) (descriptors slots) id prepared new (λ s here. here.slots)
