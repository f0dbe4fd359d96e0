-- The working file gets the record's meta bytes.
use Rattle.std.proofs.Common.{◌≡◌, ℕ, List, length, Bool, true, false, not, ◌==◌, ◌||◌, Result, Ok, Err, refl, sym, ◌∙◌, ap, subst}
use Rattle.std.specs.Prelude.{OnOk, IfErr}
use Rattle.std.specs.List.{All}
use Rattle.std.proofs.lemmas.Bool.{eqb-true}
use Rattle.std.proofs.lemmas.List.Elements.{All-weaker}
use Rattle.std.proofs.lemmas.List.Sums.{AllPass-from_list_all}
use Rattle.image_model.specs.Tidy.{is_erased}
use Rattle.geometry.specs.declared.geometry.Geometry.{Geometry}
use Rattle.nor_core.specs.declared.state.NorState.{Ghosts as NorOf}
use Rattle.table_model.specs.declared.reply.Stat.{Stat}
use Rattle.table_model.specs.Table.{File, State, put_file}
use Rattle.table_model.specs.Room.{has_room}
use Rattle.table_model.specs.Outcome.{Outcome}
use Rattle.table_model.specs.Ask.{SetsMeta}
use Rattle.table_model.specs.Reply.{Fine}
use Rattle.table_model.specs.Flat.{answer}
use Rattle.table_model.specs.Window.{settled_at}
use Rattle.image_model.specs.Tables.{table_of}
use Rattle.call_model.specs.Closed.{with_files}
use Rattle.volume.specs.declared.volume.Volume.{Volume}
use Rattle.volume_run.specs.Resting.{IsAtRest}
use Rattle.copy_model.specs.declared.err.CopyErr.{CopyErr}
use Rattle.copy_model.specs.Copying.{working, begun, marked}
use Rattle.copy_model.specs.Answers.{or_full}
use Rattle.copy_model.specs.Tasks.{Task}
use Rattle.copy_model.specs.Under.{IsTable, IsUnder}
use Rattle.copy_model.specs.Parts.{IsWhole, IsMarked}
use Rattle.copy_model.proofs.Answering.{marks}
use Rattle.copy_model.proofs.Rooming.{room-behind, last-has_room}
use Rattle.copy_model.proofs.Shapes.{sets_meta-closed}
use Rattle.copy_model.proofs.Passing.{next_fit, begun_under, unmarked, blank_marked, marked_under}
use Rattle.vol_copy.specs.Stages.{Rests, CutsUnder, Leads, OnlyFaults}
use Rattle.vol_copy.specs.Went.{Went, done_as}
use Rattle.vol_copy.proofs.Composing.{rest_table, cuts_none, cuts_of}
use Rattle.vol_copy.proofs.Calling.{goes, closed_cuts, closed_leads}
use Rattle.vol_copy.proofs.Places.{done_stop, done_whole, on_ok, if_err}

-- bytes that are all 0xFF
all_ones : (bytes : List ℕ) → is_erased bytes ≡ true → All (λ (b : ℕ). b ≡ 255) bytes
all_ones bytes is = All-weaker (λ (b : ℕ). (b == 255) ≡ true) (λ (b : ℕ). b ≡ 255) (λ b same. eqb-true b 255 same) bytes (AllPass-from_list_all (λ (b : ℕ). b == 255) bytes is)

skipped_erased : (meta : List ℕ) (many : ℕ) → (length meta == many) ≡ true → (not (length meta == many) || is_erased meta) ≡ true → is_erased meta ≡ true
skipped_erased meta many same is = ap (λ (b : Bool). not b || is_erased meta) (sym same) ∙ is

whole_under : (stat : Stat) (t : Task) (files : List File) → IsWhole stat t files → IsTable files → IsUnder t.alike t.source t.first files
whole_under stat t files is table = subst (IsUnder t.alike t.source t.first) (sym is.files_are) (begun_under stat t is.before is.is (length is.is.next.f.bytes) (subst IsTable is.files_are table))

-- whether both volumes have as many is told by the record
as_told : (stat : Stat) (t : Task) (files : List File) (is : IsWhole stat t files) → (length stat.meta == t.g.meta) ≡ t.alike
as_told stat t files is = ap (λ (s : Stat). length s.meta == t.g.meta) is.is.next.stat_is ∙ (next_fit stat t is.before is.is.next).as_many

module _ {M : Type 0} {nor : NorOf M} (stat : Stat) (v : Volume M nor) where
  rest_under : (t : Task) (has : Rests (IsWhole stat) t v) → t.known ≡ true → IsUnder t.alike t.source t.first (table_of t.g (nor.bytes v.nor.now))
  unfolding settled_at
  rest_under t has known = subst (IsUnder t.alike t.source t.first) (sym has.at.stands.stands.image.table) (whole_under stat t has.files (has.known known) (rest_table has.at))

  -- nothing is done
  pub mark_none : CutsUnder (Rests (IsWhole stat)) v v
  mark_none = cuts_none (Rests (IsWhole stat)) v (λ t has. record { state = with_files t.slots has.files; at = has.at }) (λ t has. rest_under t has)

  pub mark_other : (length stat.meta == v.geometry.meta) ≡ false → Leads (Rests (IsWhole stat)) (Rests (IsMarked stat)) v v
  mark_other other = λ t has. record {
    files = has.files;
    some = has.some;
    at = has.at;
    known = λ known.
        let is = has.known known in
        unmarked stat t has.files is (sym (as_told stat t has.files is) ∙ ap (λ (g : Geometry). length stat.meta == g.meta) (sym has.at.geometry) ∙ other);
  }

  pub mark_blank : (length stat.meta == v.geometry.meta) ≡ true → All (λ (b : ℕ). b ≡ 255) stat.meta → Leads (Rests (IsWhole stat)) (Rests (IsMarked stat)) v v
  mark_blank same all = λ t has. record {
    files = has.files;
    some = has.some;
    at = has.at;
    known = λ known.
        let is = has.known known in
        blank_marked stat t has.files is (sym (as_told stat t has.files is) ∙ ap (λ (g : Geometry). length stat.meta == g.meta) (sym has.at.geometry) ∙ same) all;
  }

  -- nothing is to be done
  pub mark_skips : (meta : List ℕ) → meta ≡ stat.meta → (skips : Bool) → skips ≡ (not (length meta == v.geometry.meta) || is_erased meta) → skips ≡ true → Leads (Rests (IsWhole stat)) (Rests (IsMarked stat)) v v
  mark_skips meta named skips is skip = skipped (length stat.meta == v.geometry.meta) refl
    where
      skipped : (b : Bool) → (length stat.meta == v.geometry.meta) ≡ b → Leads (Rests (IsWhole stat)) (Rests (IsMarked stat)) v v
      skipped false other = mark_other other
      skipped true same = mark_blank same (all_ones stat.meta (skipped_erased stat.meta v.geometry.meta same (ap (λ (m : List ℕ). not (length m == v.geometry.meta) || is_erased m) (sym named) ∙ sym is ∙ skip)))

-- meta bytes that are to be set are as many as the target's files have
mark_as_many : (meta : List ℕ) (many : ℕ) (skips : Bool) → skips ≡ (not (length meta == many) || is_erased meta) → skips ≡ false → (length meta == many) ≡ true
mark_as_many meta many skips is stay = go (length meta == many) refl
  where
    go : (b : Bool) → (length meta == many) ≡ b → (length meta == many) ≡ true
    go true same = same
    go false other = absurd (let yes : true ≡ false = ap (λ (b : Bool). not b || is_erased meta) (sym other) ∙ sym is ∙ stay in cc)

-- ---- they are set

module _ (stat : Stat) (t : Task) (files : List File) (is : IsWhole stat t files) (same : (length stat.meta == t.g.meta) ≡ true) where
  alike_is : t.alike ≡ true
  alike_is = sym (as_told stat t files is) ∙ same

  meta_is : stat.meta ≡ is.is.next.f.meta
  meta_is = ap (λ (s : Stat). s.meta) is.is.next.stat_is

  marked_done : answer t.g true (with_files t.slots files) (SetsMeta working stat.meta) ≡ record { answer = Fine; next = with_files t.slots (put_file (marked t.g t.alike is.is.next.f is.before) is.before) }
  marked_done =
      let f = is.is.next.f in
      let fit = next_fit stat t is.before is.is.next in
      let long : length f.meta ≡ t.g.meta = eqb-true (length f.meta) t.g.meta (fit.as_many ∙ alike_is) in
      let room : has_room t.g (put_file (marked t.g t.alike f is.before) is.before) ≡ true = (room-behind t.g t.alike f is.before fit.apart (last-has_room t.g f is.before is.full)).marked_room in
      let here : answer t.g true (with_files t.slots files) (SetsMeta working stat.meta) ≡ answer t.g true (with_files t.slots (begun t.g f is.before (length f.bytes))) (SetsMeta working f.meta) =
      ap (λ (l : List File). answer t.g true (with_files t.slots l) (SetsMeta working stat.meta)) is.files_are ∙ ap (λ (m : List ℕ). answer t.g true (with_files t.slots (begun t.g f is.before (length f.bytes))) (SetsMeta working m)) meta_is in
      here ∙ marks t.g t.slots f is.before is.is.next.amid.done.none long
      ∙ ap (λ (b : Bool). or_full t.g (with_files t.slots (begun t.g f is.before (length f.bytes))) (record { answer = Fine; next = with_files t.slots (put_file (marked t.g b f is.before) is.before) })) (sym alike_is)
      ∙ rw room refl

  has_marked : (more : List File) → more ≡ put_file (marked t.g t.alike is.is.next.f is.before) is.before → IsMarked stat t more
  has_marked more at = record { before = is.before; is = is.is; files_are = at; full = is.full }

  marked_next : (answer t.g true (with_files t.slots files) (SetsMeta working stat.meta)).next ≡ with_files t.slots (put_file (marked t.g t.alike is.is.next.f is.before) is.before)
  marked_next = ap (λ (o : Outcome). o.next) marked_done

module _ {M : Type 0} {nor : NorOf M} (stat : Stat) (old new : Volume M nor) (result : Result (Unit {0}) CopyErr) (went : Went done_as (SetsMeta working stat.meta) old new result) (same : (length stat.meta == old.geometry.meta) ≡ true) where
  same_at : (t : Task) (s : State) → IsAtRest t.g old s → (length stat.meta == t.g.meta) ≡ true
  same_at t s at = ap (λ (g : Geometry). length stat.meta == g.meta) (sym at.geometry) ∙ same

  IsSettable : Task → List File → Type 0
  IsSettable t files = IsWhole stat t files × ((length stat.meta == t.g.meta) ≡ true)

  as_settable : (t : Task) → Rests (IsWhole stat) t old → Rests IsSettable t old
  unfolding IsSettable
  as_settable t has = record { files = has.files; some = has.some; at = has.at; known = λ known. (has.known known, same_at t (with_files t.slots has.files) has.at) }

  pub mark_cuts : CutsUnder (Rests (IsWhole stat)) old new
  unfolding IsSettable
  mark_cuts = cuts_of (Rests (IsWhole stat)) (Rests IsSettable) old new as_settable (closed_cuts (SetsMeta working stat.meta) old new went.0 went.1 refl refl IsSettable (λ t files k table. whole_under stat t files k.0 table)
      (λ t files k table after.
      let next : (answer t.g true (with_files t.slots files) (SetsMeta working stat.meta)).next.table ≡ put_file (marked t.g t.alike k.0.is.next.f k.0.before) k.0.before = ap (λ (s : State). s.table) (marked_next stat t files k.0 k.1) in
      marked_under stat t (answer t.g true (with_files t.slots files) (SetsMeta working stat.meta)).next.table (has_marked stat t files k.0 k.1 (answer t.g true (with_files t.slots files) (SetsMeta working stat.meta)).next.table next) after))

  pub mark_leads : result ≡ Ok tt → Leads (Rests (IsWhole stat)) (Rests (IsMarked stat)) old new
  unfolding IsSettable
  mark_leads ok = λ t has. closed_leads (SetsMeta working stat.meta) old new went.0 went.1 refl refl IsSettable (IsMarked stat) (λ g slots files. sets_meta-closed g slots files working stat.meta) (done_whole went.0 (sym went.2 ∙ ok))
      (λ t files more k table after reply next. has_marked stat t files k.0 k.1 more (ap (λ (s : State). s.table) (sym next ∙ marked_next stat t files k.0 k.1))) t (as_settable t has)

  pub mark_stops : (why : CopyErr) → result ≡ Err why → OnlyFaults (Rests (IsWhole stat)) old why
  mark_stops why is = λ t has known. done_stop why went.0 (sym went.2 ∙ is) (λ whole.
      (goes (SetsMeta working stat.meta) old new went.0 went.1 refl refl t.g (with_files t.slots has.files) has.at whole).0
      ∙ ap (λ (o : Outcome). o.answer) (marked_done stat t has.files (has.known known) (same_at t (with_files t.slots has.files) has.at)))

-- by a name that the code gives them
module _ {M : Type 0} {nor : NorOf M} (stat : Stat) (old new : Volume M nor) (result : Result (Unit {0}) CopyErr) (meta : List ℕ) (named : meta ≡ stat.meta) (went : Went done_as (SetsMeta working meta) old new result) (skips : Bool)
    (is : skips ≡ (not (length meta == old.geometry.meta) || is_erased meta)) (stay : skips ≡ false) where
  set_as : Went done_as (SetsMeta working stat.meta) old new result
  set_as = subst (λ (m : List ℕ). Went done_as (SetsMeta working m) old new result) named went

  as_many : (length stat.meta == old.geometry.meta) ≡ true
  as_many = ap (λ (m : List ℕ). length m == old.geometry.meta) (sym named) ∙ mark_as_many meta old.geometry.meta skips is stay

  pub set_cuts : CutsUnder (Rests (IsWhole stat)) old new
  set_cuts = mark_cuts stat old new result set_as as_many

  pub set_done : OnOk result (Leads (Rests (IsWhole stat)) (Rests (IsMarked stat)) old new)
  set_done = on_ok result (λ ok. mark_leads stat old new result set_as as_many ok)

  pub set_stops : IfErr result (OnlyFaults (Rests (IsWhole stat)) old)
  set_stops = if_err result (λ why err. mark_stops stat old new result set_as as_many why err)
