-- A file that gets another name or other meta bytes.
use Rattle.std.proofs.Common.{◌≡◌, ◌≢◌, ℕ, ◌==◌, List, [], ◌∷◌, length, Bool, true, false, ⊎_elim, inl, inr, refl, sym, ◌∙◌, ap, subst, arith}
use Rattle.std.specs.Prelude.{Option, Some, None, All, unwrap_or}
use Rattle.std.specs.List.{list_any}
use Rattle.std.specs.Option.{option_map}
use Rattle.std.proofs.lemmas.Bool.{ne_eqb, eq-eqb, or_parts}
use Rattle.std.proofs.lemmas.List.Elements.{All-nil, All-cons}
use Rattle.geometry.specs.declared.geometry.Geometry.{Geometry}
use Rattle.nor_core.specs.declared.state.NorState.{Ghosts as NorOf}
use Rattle.table_model.specs.declared.error.FsErr.{FsErr}
use Rattle.table_model.specs.declared.error.FsErr.TheVariants.{BadFlags, BadDescriptor, NotFound, NotWritable, ConflictingName, Tight, DeviceFault}
use Rattle.table_model.specs.Table.{File, Open, State, same_text, has_name, file_named, file_of, put_file}
use Rattle.table_model.specs.Names.{name_refusal, names_refusal}
use Rattle.table_model.specs.Room.{index_pages, data_pages, index_count, data_count, has_room}
use Rattle.table_model.specs.Descriptors.{open_at, may_write}
use Rattle.table_model.specs.Files.{with_file}
use Rattle.table_model.specs.Outcome.{Outcome, refused, gives, with_page}
use Rattle.table_model.specs.Calls.{answer_rename, answer_meta, answer_fmeta}
use Rattle.table_model.specs.Reply.{Fine, Refuses}
use Rattle.table_model.specs.Ask.{Ask, Renames, SetsMeta, SetsMetaOpen}
use Rattle.table_model.specs.Flat.{answer}
use Rattle.table_model.specs.Steps.{done_steps}
use Rattle.image_model.specs.Tables.{table_of, damaged_of}
use Rattle.image_model.specs.Tidy.{IsTidy, has_spare}
use Rattle.image_laws.proofs.Records.{bytes_equal}
use Rattle.renew_laws.proofs.RecopyCuts.{unused-name}
use Rattle.header_laws.proofs.Telling.{found-by_id}
use Rattle.fd_table.specs.declared.slot.FdSlot.{FdSlot}
use Rattle.fd_table.specs.Slots.{descriptors, opened}
use Rattle.page_renew.specs.declared.edits.Edit.{Edit}
use Rattle.page_renew.specs.declared.edits.Edit.TheVariants.{Name, Meta}
use Rattle.page_renew.specs.Restated.{restates, restated, restating}
use Rattle.file_calls.specs.Cleans.{index_taken, rest_taken}
use Rattle.file_calls.specs.Replies.{is_change, may_answer, may_meet, MeetsPage}
use Rattle.file_calls.specs.States.{IsImageOf}
use Rattle.file_calls.specs.Restatings.{is_restating, restated_as, IsRestating}
use Rattle.file_calls.specs.Removes.{id_named}
use Rattle.file_calls.specs.Refusals.{has_room_beside, page_lack}
use Rattle.file_calls.proofs.Resizing.{has_at, resized_index, resized_data}
use Rattle.file_calls.proofs.Numbered.{write_fine, metas_are, fmetas_are}
use Rattle.file_calls.proofs.Going.{IsStep, is_flat}
use Rattle.file_calls.proofs.Descriptors.{open_in, file_at}
use Rattle.file_calls.proofs.Paged.{TakesPage, page_refuses, with_room, page_step}

-- ---- the room of a table in which a file is restated

-- the table has as many pages after it
restated_room : (g : Geometry) (a : List ℕ) (id : ℕ) (f e : File) → damaged_of g a ≡ [] → file_of id (table_of g a) ≡ Some f → e.id ≡ f.id → length e.bytes ≡ length f.bytes → has_room g (put_file e (table_of g a)) ≡ has_room_beside g (table_of g a) 0
unfolding has_room has_room_beside
restated_room g a id f e undamaged at same long =
    let i = resized_index g a id f e undamaged at same in
    let d = resized_data g a id f e undamaged at same in
    let index : index_count g (put_file e (table_of g a)) ≡ index_count g (table_of g a) = omega (arith, i, ap (index_pages g) long) in
    let pages : data_count g (put_file e (table_of g a)) ≡ data_count g (table_of g a) = omega (arith, d, ap (data_pages g) long) in
    rw (index, pages) refl

-- ---- the file that is restated

-- the file of an id, or any
abbrev pub the_file : ℕ → List File → File
the_file id files = unwrap_or (file_of id files) (record { id = id; name = []; kind = 0; meta = []; bytes = [] })

-- it is there
pub the_file_is : (id : ℕ) (files : List File) (f : File) → file_of id files ≡ Some f → the_file id files ≡ f
the_file_is id files f at = rw at refl

there_by : (g : Geometry) (image name : List ℕ) (id : ℕ) (o : Option File) → file_named name (table_of g image) ≡ o → option_map (λ f. f.id) o ≡ Some id → (f : File) × (file_named name (table_of g image) ≡ Some f) × (file_of id (table_of g image) ≡ Some f)
there_by g image name id None at e = absurd (cc)
there_by g image name id (Some f) at e =
    let same : f.id ≡ id = cc in
    (f, at, subst (λ (n : ℕ). file_of n (table_of g image) ≡ Some f) same ((found-by_id g image f).0 name at))

-- the file of a name is that of its id
pub named_there : (g : Geometry) (image name : List ℕ) (id : ℕ) → id_named name (table_of g image) ≡ Some id → (f : File) × (file_named name (table_of g image) ≡ Some f) × (file_of id (table_of g image) ≡ Some f)
named_there g image name id found = there_by g image name id (file_named name (table_of g image)) refl found

-- ---- the flat table

module _ (g : Geometry) (spare : Bool) (s : State) where
  -- a rename
  pub rename_missing : (old_name new_name : List ℕ) → names_refusal old_name new_name ≡ None → file_named old_name s.table ≡ None → answer g spare s (Renames old_name new_name) ≡ refused NotFound s
  unfolding answer answer_rename
  rename_missing old_name new_name fine none = rw (fine, none) refl

  pub rename_conflicts : (old_name new_name : List ℕ) (f : File) → names_refusal old_name new_name ≡ None → file_named old_name s.table ≡ Some f → has_name new_name s.table ≡ true → answer g spare s (Renames old_name new_name) ≡ refused ConflictingName s
  unfolding answer answer_rename
  rename_conflicts old_name new_name f fine at there = rw (fine, at) (rw there refl)

  pub renames : (old_name new_name : List ℕ) (f : File) → names_refusal old_name new_name ≡ None → file_named old_name s.table ≡ Some f → has_name new_name s.table ≡ false →
      answer g spare s (Renames old_name new_name) ≡ with_page g spare s (gives Fine (with_file (record f { name = new_name }) s))
  unfolding answer answer_rename
  renames old_name new_name f fine at free = rw (fine, at) (rw free refl)

  -- meta bytes by name
  pub meta_unlike : (name meta : List ℕ) → name_refusal name ≡ None → (length meta == g.meta) ≡ false → answer g spare s (SetsMeta name meta) ≡ refused BadFlags s
  unfolding answer answer_meta
  meta_unlike name meta fine other = rw (fine, other) refl

  pub meta_missing : (name meta : List ℕ) → name_refusal name ≡ None → (length meta == g.meta) ≡ true → file_named name s.table ≡ None → answer g spare s (SetsMeta name meta) ≡ refused NotFound s
  unfolding answer answer_meta
  meta_missing name meta fine like none = rw (fine, like, none) refl

  pub sets_meta : (name meta : List ℕ) (f : File) → name_refusal name ≡ None → (length meta == g.meta) ≡ true → file_named name s.table ≡ Some f → answer g spare s (SetsMeta name meta) ≡ with_page g spare s (gives Fine (with_file (record f { meta = meta }) s))
  unfolding answer answer_meta
  sets_meta name meta f fine like at = rw (fine, like, at) refl

  -- and by descriptor
  pub fmeta_unlike : (fd : ℕ) (meta : List ℕ) → (length meta == g.meta) ≡ false → answer g spare s (SetsMetaOpen fd meta) ≡ refused BadFlags s
  unfolding answer answer_fmeta
  fmeta_unlike fd meta other = rw other refl

  pub fmeta_closed : (fd : ℕ) (meta : List ℕ) → (length meta == g.meta) ≡ true → open_at s.slots fd ≡ None → answer g spare s (SetsMetaOpen fd meta) ≡ refused BadDescriptor s
  unfolding answer answer_fmeta
  fmeta_closed fd meta like none = rw (like, none) refl

  pub fmeta_unwritable : (fd : ℕ) (meta : List ℕ) (d : Open) (f : File) → (length meta == g.meta) ≡ true → open_at s.slots fd ≡ Some d → file_of d.id s.table ≡ Some f → may_write d.flags ≡ false → answer g spare s (SetsMetaOpen fd meta) ≡ refused NotWritable s
  unfolding answer answer_fmeta
  fmeta_unwritable fd meta d f like at there never = rw (like, at) (rw there (rw never refl))

  pub sets_meta_open : (fd : ℕ) (meta : List ℕ) (d : Open) (f : File) → (length meta == g.meta) ≡ true → open_at s.slots fd ≡ Some d → file_of d.id s.table ≡ Some f → may_write d.flags ≡ true →
      answer g spare s (SetsMetaOpen fd meta) ≡ with_page g spare s (gives Fine (with_file (record f { meta = meta }) s))
  unfolding answer answer_fmeta
  sets_meta_open fd meta d f like at there may = rw (like, at) (rw there (rw may refl))

-- ---- over a device

same_id : (edit : Edit) (f : File) → (restated edit f).id ≡ f.id
same_id (Name name) f = refl
same_id (Meta meta) f = refl
same_id _ f = refl

same_bytes : (edit : Edit) (f : File) → (restated edit f).bytes ≡ f.bytes
same_bytes (Name name) f = refl
same_bytes (Meta meta) f = refl
same_bytes _ f = refl

-- what is so of each of the three calls
pub record IsSort (ask : Ask) : Type 0 where
  pub flat : is_flat ask ≡ true
  pub change : is_change ask ≡ true
  pub done : may_answer ask Fine ≡ true
  pub fault : may_answer ask (Refuses DeviceFault) ≡ true
  pub tight : may_answer ask (Refuses Tight) ≡ true
  pub taken : index_taken ask ≡ 1
  pub rest : (g : Geometry) → rest_taken g ask ≡ 6
  pub meets : (why : FsErr) → MeetsPage why → may_meet ask why ≡ true

pub sort_is : (ask : Ask) → is_restating ask ≡ true → IsSort ask
sort_is (Renames old_name new_name) e = record { flat = refl; change = refl; done = refl; fault = refl; tight = refl; taken = refl; rest = λ g. refl; meets = λ why may. (may old_name new_name 0 0 0).3 }
sort_is (SetsMeta name meta) e = record { flat = refl; change = refl; done = refl; fault = refl; tight = refl; taken = refl; rest = λ g. refl; meets = λ why may. (may name meta 0 0 0).4 }
sort_is (SetsMetaOpen fd meta) e = record { flat = refl; change = refl; done = refl; fault = refl; tight = refl; taken = refl; rest = λ g. refl; meets = λ why may. (may [] meta 0 fd 0).5 }
sort_is _ e = absurd (let no : false ≡ true = e in cc)

one_step_of : (g : Geometry) (s : State) (ask : Ask) (files : List File) → is_restating ask ≡ true → done_steps g s ask files ≡ files ∷ []
unfolding done_steps
one_step_of g s (Renames old_name new_name) files e = refl
one_step_of g s (SetsMeta name meta) files e = refl
one_step_of g s (SetsMetaOpen fd meta) files e = refl
one_step_of g s _ files e = absurd (let no : false ≡ true = e in cc)

-- a call that is refused as the flat table refuses it
pub refuses_so : {out : Outcome} {s : State} {why : FsErr} (is : FsErr) → why ≡ is → out ≡ refused is s → out ≡ refused why s
refuses_so is same refused_by = rw same refused_by

module _ {D : Type 0} {nor : NorOf D} {g : Geometry} {old : D} {slots : List FdSlot} (ask : Ask) (edit : Edit) (id : ℕ) (call : IsRestating nor g slots ask edit id old) where
  abbrev pub f : File
  f = the_file id (table_of g (nor.bytes old))

  at : (s : State) → IsImageOf nor g old slots s → file_of id (table_of g (nor.bytes old)) ≡ Some f
  at s here = let w = call.there s here in w.1 ∙ ap (λ (x : File). Some x) (sym (the_file_is id (table_of g (nor.bytes old)) w.0 w.1))

  page : (s : State) → IsImageOf nor g old slots s → TakesPage g (has_spare g (nor.bytes old)) s 0 ask Fine (restated_as edit f s) (put_file (restated edit f) (table_of g (nor.bytes old)))
  page s here = record {
    is = call.is s here f (at s here);
    reply_is = refl;
    table_is = ap (put_file (restated edit f)) here.table;
    room_is = restated_room g (nor.bytes old) id f (restated edit f) here.tidy.undamaged (at s here) (same_id edit f) (ap length (same_bytes edit f)) ∙ ap (λ (t : List File). has_room_beside g t 0) (sym here.table);
    step = one_step_of g s ask (with_file (restated edit f) s).table call.sort;
  }

  -- no page is had
  pub restate_refuses : {why : FsErr} (s : State) → IsImageOf nor g old slots s → page_lack g (nor.bytes old) 0 ≡ Some why → answer g (has_spare g (nor.bytes old)) s ask ≡ refused why s
  restate_refuses s here lack = page_refuses 0 ask Fine refl (restated_as edit f) (put_file (restated edit f) (table_of g (nor.bytes old))) page s here lack

  -- the step
  pub restated_step : (nor.tells old → IsTidy g (nor.bytes old) → page_lack g (nor.bytes old) 0 ≡ None) → IsStep nor g slots ask Fine (descriptors slots) old (with_room (restating id edit f))
  restated_step ready = page_step 0 ask Fine refl (restated_as edit f) (put_file (restated edit f) (table_of g (nor.bytes old))) page (descriptors slots) (restating id edit f) ready
      (λ s here mid made. record {
        tidy = made.tidy;
        had = made.ready.had;
        there = ap (file_of id) made.table ∙ at s here;
        kind = call.kind;
        unused = subst (λ (files : List File). All (λ (x : File). x.id ≢ id → x.name ≢ (restated edit f).name) files) (sym made.table) (call.unused s here f (at s here));
      })
      (λ s here mid same image cut. record {
        sound = cut.sound;
        reserve = cut.reserve;
        wear = cut.wear;
        table = ⊎_elim (λ before. inl before) (λ after. inr (after ∙ ap (put_file (restated edit f)) same)) cut.table;
      })
      (λ s here mid same now done. record { tidy = done.tidy; table = done.table ∙ ap (put_file (restated edit f)) same; reserve = done.reserve })
      (λ s here. here.slots)

-- ---- the three calls

pub unlike : (n m : ℕ) → (n ≡ m → ⊥) → (n == m) ≡ false
unlike n m other = ne_eqb n m other

pub alike : (n m : ℕ) → n ≡ m → (n == m) ≡ true
alike n m same = eq-eqb n m same

-- no other file has a name that no file has
free_name : (name : List ℕ) (id : ℕ) (files : List File) → has_name name files ≡ false → All (λ (x : File). x.id ≢ id → x.name ≢ name) files
unfolding has_name
free_name name id [] free = All-nil (λ (x : File). x.id ≢ id → x.name ≢ name)
free_name name id (x ∷ files) free =
    let w = or_parts (same_text x.name name) (list_any (λ (y : File). same_text y.name name) files) free in
    All-cons (λ (y : File). y.id ≢ id → y.name ≢ name) x files (λ other same. let no : true ≡ false = sym (ap (λ (l : List ℕ). same_text l name) same ∙ bytes_equal name) ∙ w.0 in cc) (free_name name id files w.1)

-- no other file has the name of a file
names_stay : (g : Geometry) (a : List ℕ) (id : ℕ) (f : File) → damaged_of g a ≡ [] → file_of id (table_of g a) ≡ Some f → All (λ (x : File). x.id ≢ id → x.name ≢ f.name) (table_of g a)
names_stay g a id f undamaged at = let h = has_at g a id f at in unused-name g a id h.0 f undamaged h.1

-- what a call that restates a file answers, by the file after it
as_restated : (g : Geometry) (spare : Bool) (s : State) (edit : Edit) (f after : File) → restated edit f ≡ after → with_page g spare s (gives Fine (with_file after s)) ≡ with_page g spare s (restated_as edit f s)
as_restated g spare s edit f after so = ap (λ (y : File). with_page g spare s (gives Fine (with_file y s))) (sym so)

stays_named : (g : Geometry) (a : List ℕ) (edit : Edit) (meta : List ℕ) → ((f : File) → restated edit f ≡ record f { meta = meta }) → (id : ℕ) (f : File) → damaged_of g a ≡ [] → file_of id (table_of g a) ≡ Some f → All (λ (x : File). x.id ≢ id → x.name ≢ (restated edit f).name) (table_of g a)
stays_named g a edit meta so id f undamaged there = subst (λ (l : List ℕ). All (λ (x : File). x.id ≢ id → x.name ≢ l) (table_of g a)) (sym (ap (λ (x : File). x.name) (so f))) (names_stay g a id f undamaged there)

module _ {D : Type 0} {nor : NorOf D} {g : Geometry} {old : D} {slots : List FdSlot} (edit : Edit) (kind : restates edit ≡ true) where
  -- a rename
  pub rename_is : (old_name new_name : List ℕ) (id : ℕ) → ((f : File) → restated edit f ≡ record f { name = new_name }) → names_refusal old_name new_name ≡ None → (nor.tells old → IsTidy g (nor.bytes old) → id_named old_name (table_of g (nor.bytes old)) ≡ Some id) →
      (nor.tells old → IsTidy g (nor.bytes old) → has_name new_name (table_of g (nor.bytes old)) ≡ false) → IsRestating nor g slots (Renames old_name new_name) edit id old
  rename_is old_name new_name id so fine found free = record {
    sort = refl;
    fine = fine;
    kind = kind;
    there = λ s here. let w = named_there g (nor.bytes old) old_name id (found here.tells here.tidy) in (w.0, w.2);
    unused = λ s here f there. subst (λ (l : List ℕ). All (λ (x : File). x.id ≢ id → x.name ≢ l) (table_of g (nor.bytes old))) (sym (ap (λ (x : File). x.name) (so f))) (free_name new_name id (table_of g (nor.bytes old)) (free here.tells here.tidy));
    is = λ s here f there.
        let w = named_there g (nor.bytes old) old_name id (found here.tells here.tidy) in
        let same : w.0 ≡ f = (let e : Some w.0 ≡ Some f = sym w.2 ∙ there in cc) in
        subst (λ (x : File). answer g (has_spare g (nor.bytes old)) s (Renames old_name new_name) ≡ with_page g (has_spare g (nor.bytes old)) s (restated_as edit x s)) same
        (renames g (has_spare g (nor.bytes old)) s old_name new_name w.0 fine (ap (file_named old_name) here.table ∙ w.1) (ap (has_name new_name) here.table ∙ free here.tells here.tidy)
        ∙ as_restated g (has_spare g (nor.bytes old)) s edit w.0 (record w.0 { name = new_name }) (so w.0));
  }

  module _ (meta : List ℕ) (so : (f : File) → restated edit f ≡ record f { meta = meta }) (like : length meta ≡ g.meta) where
    -- meta bytes by name
    pub meta_is : (name : List ℕ) (id : ℕ) → name_refusal name ≡ None → (nor.tells old → IsTidy g (nor.bytes old) → id_named name (table_of g (nor.bytes old)) ≡ Some id) → IsRestating nor g slots (SetsMeta name meta) edit id old
    meta_is name id fine found = record {
      sort = refl;
      fine = metas_are g (descriptors slots) name fine meta true (alike (length meta) g.meta like);
      kind = kind;
      there = λ s here. let w = named_there g (nor.bytes old) name id (found here.tells here.tidy) in (w.0, w.2);
      unused = λ s here f there. stays_named g (nor.bytes old) edit meta so id f here.tidy.undamaged there;
      is = λ s here f there.
          let w = named_there g (nor.bytes old) name id (found here.tells here.tidy) in
          let same : w.0 ≡ f = (let e : Some w.0 ≡ Some f = sym w.2 ∙ there in cc) in
          subst (λ (x : File). answer g (has_spare g (nor.bytes old)) s (SetsMeta name meta) ≡ with_page g (has_spare g (nor.bytes old)) s (restated_as edit x s)) same
          (sets_meta g (has_spare g (nor.bytes old)) s name meta w.0 fine (alike (length meta) g.meta like) (ap (file_named name) here.table ∙ w.1)
          ∙ as_restated g (has_spare g (nor.bytes old)) s edit w.0 (record w.0 { meta = meta }) (so w.0));
    }

    -- and by descriptor
    pub fmeta_is : (fd : ℕ) (slot : FdSlot) → open_at (descriptors slots) fd ≡ Some (opened slot) → may_write slot.flags ≡ true → IsRestating nor g slots (SetsMetaOpen fd meta) edit slot.id old
    fmeta_is fd slot held may = record {
      sort = refl;
      fine = fmetas_are g (descriptors slots) fd meta true (alike (length meta) g.meta like) ∙ write_fine (opened slot) held may;
      kind = kind;
      there = λ s here. let w = file_at fd slot held s here in (w.file, w.listed);
      unused = λ s here f there. stays_named g (nor.bytes old) edit meta so slot.id f here.tidy.undamaged there;
      is = λ s here f there.
          sets_meta_open g (has_spare g (nor.bytes old)) s fd meta (opened slot) f (alike (length meta) g.meta like) (open_in slots s fd (Some (opened slot)) here.slots held) (ap (file_of slot.id) here.table ∙ there) may
          ∙ as_restated g (has_spare g (nor.bytes old)) s edit f (record f { meta = meta }) (so f);
    }
