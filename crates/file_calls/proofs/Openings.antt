-- What the flat table answers to openings.
use Rattle.std.proofs.Common.{◌≡◌, ℕ, ⊎_elim, List, Bool, true, false, not, ◌==◌, ◌&&◌, refl, sym, ◌∙◌, ap, if◌then◌else◌}
use Rattle.std.specs.Prelude.{Option, Some, None, is_some, Ok, Err}
use Rattle.std.specs.Option.{option_map}
use Rattle.std.proofs.lemmas.Bool.{ne_eqb}
use Rattle.geometry.specs.declared.geometry.Geometry.{Geometry}
use Rattle.nor_core.specs.declared.state.NorState.{Ghosts as NorOf}
use Rattle.table_model.specs.declared.error.FsErr.{FsErr}
use Rattle.table_model.specs.declared.error.FsErr.TheVariants.{BadFlags, OutOfDescriptors, NotFound, FileExists, DeviceFault}
use Rattle.table_model.specs.Table.{File, Open, State, same_text, has_name, file_named, file_of, least_id}
use Rattle.table_model.specs.Names.{name_refusal}
use Rattle.table_model.specs.Descriptors.{is_bad_flags, makes, is_exclusive, lowest_closed, put_at, new_open}
use Rattle.table_model.specs.Files.{created, cut_to}
use Rattle.table_model.specs.Opening.{answer_open, open_lowest, open_as, opens, takes_bytes}
use Rattle.table_model.specs.Outcome.{Outcome, refused, gives, unless, with_page}
use Rattle.table_model.specs.Reply.{Tells as Number}
use Rattle.table_model.specs.Ask.{Opens}
use Rattle.table_model.specs.Flat.{answer}
use Rattle.table_model.specs.Steps.{done_steps}
use Rattle.image_model.specs.Tables.{table_of}
use Rattle.image_model.specs.Tidy.{IsTidy, has_spare}
use Rattle.header_laws.proofs.Listed.{any-found}
use Rattle.file_write.specs.Creates.{creating}
use Rattle.fd_table.specs.declared.slot.FdSlot.{FdSlot}
use Rattle.fd_table.specs.Slots.{descriptors}
use Rattle.file_calls.specs.Removes.{id_named}
use Rattle.file_calls.specs.Opens.{TakesSlot, FindsOpened}
use Rattle.file_calls.specs.Refusals.{page_lack}
use Rattle.file_calls.specs.States.{IsImageOf}
use Rattle.file_calls.specs.Moves.{with_slots}
use Rattle.file_calls.proofs.Going.{IsStep}
use Rattle.file_calls.proofs.Paged.{with_room, page_refuses}
use Rattle.call_model.proofs.Tables.{file_of-id}
use Rattle.file_calls.proofs.Restates.{named_there}
use Rattle.file_calls.proofs.NewFiles.{MakesFile, created_room, new_page, new_step}

choose_true : (b : Bool) (x y : Outcome) → b ≡ true → (if b then x else y) ≡ x
choose_true true x y e = refl
choose_true false x y e = absurd (let no : false ≡ true = e in cc)

choose_false : (b : Bool) (x y : Outcome) → b ≡ false → (if b then x else y) ≡ y
choose_false false x y e = refl
choose_false true x y e = absurd (let no : true ≡ false = e in cc)

module _ (g : Geometry) (spare : Bool) (s : State) (name : List ℕ) (flags : ℕ) (fine : name_refusal name ≡ None) where
  after_name : answer g spare s (Opens name flags) ≡ (if is_bad_flags flags then refused BadFlags s else open_lowest g spare s name flags (lowest_closed s.slots))
  unfolding answer answer_open
  after_name = ap (λ (o : _). unless o s (if is_bad_flags flags then refused BadFlags s else open_lowest g spare s name flags (lowest_closed s.slots))) fine

  pub flat_bad_flags : is_bad_flags flags ≡ true → answer g spare s (Opens name flags) ≡ refused BadFlags s
  flat_bad_flags bad = after_name ∙ choose_true (is_bad_flags flags) (refused BadFlags s) (open_lowest g spare s name flags (lowest_closed s.slots)) bad

  after_flags : is_bad_flags flags ≡ false → answer g spare s (Opens name flags) ≡ open_lowest g spare s name flags (lowest_closed s.slots)
  after_flags good = after_name ∙ choose_false (is_bad_flags flags) (refused BadFlags s) (open_lowest g spare s name flags (lowest_closed s.slots)) good

  pub flat_all_open : is_bad_flags flags ≡ false → lowest_closed s.slots ≡ None → answer g spare s (Opens name flags) ≡ refused OutOfDescriptors s
  flat_all_open good none = after_flags good ∙ ap (open_lowest g spare s name flags) none

  module _ (fd : ℕ) (good : is_bad_flags flags ≡ false) (lowest : lowest_closed s.slots ≡ Some fd) where
    after_slot : answer g spare s (Opens name flags) ≡ open_as g spare s name flags fd (file_named name s.table)
    after_slot = after_flags good ∙ ap (open_lowest g spare s name flags) lowest

    pub flat_exists : (f : File) → file_named name s.table ≡ Some f → (makes flags && is_exclusive flags) ≡ true → answer g spare s (Opens name flags) ≡ refused FileExists s
    flat_exists f there new = after_slot ∙ ap (open_as g spare s name flags fd) there ∙ choose_true (makes flags && is_exclusive flags) (refused FileExists s) _ new

    pub flat_no_file : file_named name s.table ≡ None → makes flags ≡ false → answer g spare s (Opens name flags) ≡ refused NotFound s
    flat_no_file none makes_none = after_slot ∙ ap (open_as g spare s name flags fd) none ∙ rw makes_none refl

    -- a file that is there, which needn't be new
    after_file : (f : File) → file_named name s.table ≡ Some f → (makes flags && is_exclusive flags) ≡ false → answer g spare s (Opens name flags) ≡ (if takes_bytes flags f then with_page g spare s (opens fd flags f.id (cut_to 0 f s)) else opens fd flags f.id s)
    after_file f there old = after_slot ∙ ap (open_as g spare s name flags fd) there ∙ choose_false (makes flags && is_exclusive flags) (refused FileExists s) _ old

    pub flat_opens : (f : File) → file_named name s.table ≡ Some f → (makes flags && is_exclusive flags) ≡ false → takes_bytes flags f ≡ false → answer g spare s (Opens name flags) ≡ opens fd flags f.id s
    flat_opens f there old stays = after_file f there old ∙ choose_false (takes_bytes flags f) (with_page g spare s (opens fd flags f.id (cut_to 0 f s))) (opens fd flags f.id s) stays

    pub flat_empties : (f : File) → file_named name s.table ≡ Some f → (makes flags && is_exclusive flags) ≡ false → takes_bytes flags f ≡ true → answer g spare s (Opens name flags) ≡ with_page g spare s (opens fd flags f.id (cut_to 0 f s))
    flat_empties f there old takes = after_file f there old ∙ choose_true (takes_bytes flags f) (with_page g spare s (opens fd flags f.id (cut_to 0 f s))) (opens fd flags f.id s) takes

    pub opens_file : file_named name s.table ≡ None → makes flags ≡ true → MakesFile g spare s name (Opens name flags) (Number fd) (opens fd flags (least_id s.table) (record s { table = created g name s.table }))
    unfolding done_steps
    opens_file none makes_one = record {
      is = after_slot ∙ ap (open_as g spare s name flags fd) none ∙ rw makes_one refl;
      reply_is = refl;
      table_is = refl;
      room_is = created_room g name s.table;
      step = rw none refl;
    }

-- ---- the flags of an opening

pub is_set : (n : ℕ) → (n ≡ 0 → ⊥) → not (n == 0) ≡ true
is_set n other = rw (ne_eqb n 0 other) refl

pub is_clear : (n : ℕ) → n ≡ 0 → not (n == 0) ≡ false
is_clear n zero = rw zero refl

pub none_by : (o : Option ℕ) → ((x : ℕ) → o ≡ Some x → ⊥) → o ≡ None
none_by None other = refl
none_by (Some x) other = absurd (other x refl)

-- ---- over a device

file_by : (name : List ℕ) (files : List File) (id : ℕ) (o : Option File) → file_named name files ≡ o → option_map (λ f. f.id) o ≡ Some id → (f : File) × (file_named name files ≡ Some f)
file_by name files id None at e = absurd (cc)
file_by name files id (Some f) at e = (f, at)

-- the file of a name that has an id
pub file_there : (name : List ℕ) (files : List File) (id : ℕ) → id_named name files ≡ Some id → (f : File) × (file_named name files ≡ Some f)
file_there name files id at = file_by name files id (file_named name files) refl at

-- what an opening makes
abbrev pub opened_as : Geometry → (name : List ℕ) (flags fd : ℕ) → State → Outcome
opened_as g name flags fd s = opens fd flags (least_id s.table) (record s { table = created g name s.table })

module _ {D : Type 0} {nor : NorOf D} {g : Geometry} {old : D} {slots : List FdSlot} (name : List ℕ) (flags : ℕ) (fine : name_refusal name ≡ None) where
  -- no descriptor
  pub slot_refuses : {why : FsErr} (s : State) → IsImageOf nor g old slots s → TakesSlot flags (descriptors slots) (Err why) → answer g (has_spare g (nor.bytes old)) s (Opens name flags) ≡ refused why s
  slot_refuses {why} s here told = ⊎_elim
      (λ (bad : (why ≡ BadFlags) × (is_bad_flags flags ≡ true)). rw bad.0 (flat_bad_flags g (has_spare g (nor.bytes old)) s name flags fine bad.1))
      (λ (all : (why ≡ OutOfDescriptors) × (is_bad_flags flags ≡ false) × (lowest_closed (descriptors slots) ≡ None)). rw all.0 (flat_all_open g (has_spare g (nor.bytes old)) s name flags fine all.1 (ap lowest_closed (sym here.slots) ∙ all.2)))
      told

  module _ (fd : ℕ) (taken : TakesSlot flags (descriptors slots) (Ok fd)) where
    pub lowest : (s : State) → IsImageOf nor g old slots s → lowest_closed s.slots ≡ Some fd
    lowest s here = ap lowest_closed (sym here.slots) ∙ taken.1

    -- no file
    pub file_refuses : {why : FsErr} (s : State) → IsImageOf nor g old slots s → (why ≡ DeviceFault → ⊥) → FindsOpened name flags (table_of g (nor.bytes old)) (Err why) → answer g (has_spare g (nor.bytes old)) s (Opens name flags) ≡ refused why s
    file_refuses {why} s here no_fault told = ⊎_elim
        (λ (there : (why ≡ FileExists) × ((f : File) × (file_named name (table_of g (nor.bytes old)) ≡ Some f)) × ((makes flags && is_exclusive flags) ≡ true)).
        rw there.0 (flat_exists g (has_spare g (nor.bytes old)) s name flags fine fd taken.0 (lowest s here) there.1.0 (ap (file_named name) here.table ∙ there.1.1) there.2))
        (λ (none : (why ≡ NotFound) × (file_named name (table_of g (nor.bytes old)) ≡ None) × (makes flags ≡ false)).
        rw none.0 (flat_no_file g (has_spare g (nor.bytes old)) s name flags fine fd taken.0 (lowest s here) (ap (file_named name) here.table ∙ none.1) none.2))
        (told no_fault)

    -- a file that is there, of which no bytes are taken
    pub opens_there : (id : ℕ) (s : State) → IsImageOf nor g old slots s → FindsOpened name flags (table_of g (nor.bytes old)) (Ok (Some id)) → ((f : File) → file_of id (table_of g (nor.bytes old)) ≡ Some f → takes_bytes flags f ≡ false) →
        answer g (has_spare g (nor.bytes old)) s (Opens name flags) ≡ gives (Number fd) (with_slots (put_at (descriptors slots) fd (Some (new_open id flags))) s)
    opens_there id s here told stays =
        let w = named_there g (nor.bytes old) name id told.0 in
        let is : w.0.id ≡ id = file_of-id id (table_of g (nor.bytes old)) w.0 w.2 in
        flat_opens g (has_spare g (nor.bytes old)) s name flags fine fd taken.0 (lowest s here) w.0 (ap (file_named name) here.table ∙ w.1) told.1 (stays w.0 w.2)
        ∙ rw is (ap (λ (l : List (Option Open)). gives (Number fd) (with_slots (put_at l fd (Some (new_open id flags))) s)) (sym here.slots))

    -- one that is made
    pub opens_new : (s : State) → IsImageOf nor g old slots s → FindsOpened name flags (table_of g (nor.bytes old)) (Ok None) → MakesFile g (has_spare g (nor.bytes old)) s name (Opens name flags) (Number fd) (opened_as g name flags fd s)
    opens_new s here told = opens_file g (has_spare g (nor.bytes old)) s name flags fine fd taken.0 (lowest s here) (ap (file_named name) here.table ∙ told.0) told.1

    pub opened_step : (id : ℕ) → (nor.tells old → IsTidy g (nor.bytes old) → FindsOpened name flags (table_of g (nor.bytes old)) (Ok None)) →
        (nor.tells old → IsTidy g (nor.bytes old) → (page_lack g (nor.bytes old) 1 ≡ None) × (id ≡ least_id (table_of g (nor.bytes old)))) →
        IsStep nor g slots (Opens name flags) (Number fd) (put_at (descriptors slots) fd (Some (new_open id flags))) old (with_room (creating id name))
    unfolding has_name file_named
    opened_step id found prepared = new_step name (Opens name flags) (Number fd) refl (opened_as g name flags fd) (λ s here. opens_new s here (found here.tells here.tidy)) (put_at (descriptors slots) fd (Some (new_open id flags))) id prepared
        (λ tells tidy. any-found (λ (f : File). same_text f.name name) (table_of g (nor.bytes old)) ∙ ap is_some (found tells tidy).0)
        (λ s here. let least : id ≡ least_id s.table = (prepared here.tells here.tidy).1 ∙ ap least_id (sym here.table) in rw (least, here.slots) refl)

    pub opened_refuses : {why : FsErr} (s : State) → (nor.tells old → IsTidy g (nor.bytes old) → FindsOpened name flags (table_of g (nor.bytes old)) (Ok None)) → IsImageOf nor g old slots s → page_lack g (nor.bytes old) 1 ≡ Some why →
        answer g (has_spare g (nor.bytes old)) s (Opens name flags) ≡ refused why s
    opened_refuses s found here lack = page_refuses 1 (Opens name flags) (Number fd) refl (opened_as g name flags fd) (created g name (table_of g (nor.bytes old)))
        (new_page name (Opens name flags) (Number fd) refl (opened_as g name flags fd) (λ t at. opens_new t at (found at.tells at.tidy))) s here lack
