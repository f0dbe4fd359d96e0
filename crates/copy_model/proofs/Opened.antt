-- The working file of a record is opened, and its bytes written, or there is no room.
use Rattle.std.proofs.Common.{◌≡◌, ◌⊎◌, ℕ, ◌+◌, ◌-◌, ◌<◌, ◌≤◌, ◌%◌, List, ◌∷◌, length, true, false, refl, sym, ◌∙◌, ap, subst, ⊎_elim, inl, inr, arith}
use Rattle.std.specs.Prelude.{min}
use Rattle.std.proofs.lemmas.Bool.{cases_Bool}
use Rattle.std.proofs.lemmas.Option.{same_Some}
use Rattle.geometry.specs.declared.geometry.Geometry.{Geometry}
use Rattle.geometry.specs.Numbers.{body}
use Rattle.table_model.specs.declared.error.FsErr.TheVariants.{Full}
use Rattle.table_model.specs.declared.reply.Stat.{Stat}
use Rattle.table_model.specs.Table.{File, Open, State, least_id}
use Rattle.table_model.specs.Descriptors.{open_at}
use Rattle.table_model.specs.Room.{has_room, index_pages}
use Rattle.table_model.specs.Outcome.{Outcome, refused, gives}
use Rattle.table_model.specs.Ask.{Opens, Writes, Closes}
use Rattle.table_model.specs.Reply.{Fine, Tells, Refuses}
use Rattle.table_model.specs.Flat.{answer}
use Rattle.table_model.specs.Steps.{steps}
use Rattle.table_model.specs.Window.{IsAmong}
use Rattle.call_model.specs.Closed.{with_files}
use Rattle.call_model.proofs.Closed.{first_open}
use Rattle.copy_model.specs.Copying.{working, begun}
use Rattle.copy_model.specs.Filling.{with_first, filler, filling}
use Rattle.copy_model.specs.Answers.{or_full, IsPiece}
use Rattle.copy_model.specs.Under.{IsTable, IsUnder}
use Rattle.copy_model.specs.Tasks.{Task}
use Rattle.copy_model.specs.Parts.{IsMissing, IsFilling, IsLacking}
use Rattle.copy_model.proofs.Answering.{opens-working, puts-piece, closes-first, gives-up, removes-none, fine_working}
use Rattle.copy_model.proofs.Stepping.{one-page}
use Rattle.copy_model.proofs.Counting.{first-counts, next-counts}
use Rattle.copy_model.proofs.Passing.{next_under, next_part, begun_under, filling_begins, begins_full, filling_goes, filling_full_at}

-- two states with the first descriptor open
pub same_first : (slots : ℕ) (d e : Open) (files more : List File) → 0 < slots → with_first slots d files ≡ with_first slots e more → (d ≡ e) × (files ≡ more)
same_first slots d e files more some same =
    let n = min 65535 slots in
    (same_Some d e (sym (first_open n d (omega (arith, some))) ∙ ap (λ (s : State). open_at s.slots 1) same ∙ first_open n e (omega (arith, some))), ap (λ (s : State). s.table) same)

-- an outcome that isn't refused for want of room is that of the table with room
fits : (g : Geometry) (s : State) (done : Outcome) (n : ℕ) → (or_full g s done).answer ≡ Tells n → (has_room g done.next.table ≡ true) × (or_full g s done ≡ done)
fits g s done n is = ⊎_elim
    (λ (room : has_room g done.next.table ≡ true). (room, rw room refl))
    (λ (full : has_room g done.next.table ≡ false). absurd (let e : Refuses Full ≡ Tells n = rw full at is in cc))
    (cases_Bool (has_room g done.next.table))

-- one that is refused so
lacks : (g : Geometry) (s : State) (n : ℕ) (next : State) → (or_full g s (gives (Tells n) next)).answer ≡ Refuses Full → (has_room g next.table ≡ false) × (or_full g s (gives (Tells n) next) ≡ refused Full s)
lacks g s n next is = ⊎_elim
    (λ (room : has_room g next.table ≡ true). absurd (let e : Tells n ≡ Refuses Full = rw room at is in cc))
    (λ (full : has_room g next.table ≡ false). (full, rw full refl))
    (cases_Bool (has_room g next.table))

-- and it is one of the two
either : (g : Geometry) (s : State) (n : ℕ) (next : State) → ((or_full g s (gives (Tells n) next)).answer ≡ Tells n) ⊎ ((or_full g s (gives (Tells n) next)).answer ≡ Refuses Full)
either g s n next = ⊎_elim
    (λ (room : has_room g next.table ≡ true). inl (rw room refl))
    (λ (full : has_room g next.table ≡ false). inr (rw full refl))
    (cases_Bool (has_room g next.table))

-- ---- it is made

module _ (stat : Stat) (t : Task) (files : List File) (is : IsMissing stat t files) (some : 0 < t.slots) where
  open_answer : answer t.g true (with_files t.slots files) (Opens working 52) ≡ or_full t.g (with_files t.slots files) (gives (Tells 1) (filling t.g t.slots is.next.f files 0))
  open_answer = opens-working t.g t.slots is.next.f files some is.next.amid.done.none

  pub open_replies : ((answer t.g true (with_files t.slots files) (Opens working 52)).answer ≡ Tells 1) ⊎ ((answer t.g true (with_files t.slots files) (Opens working 52)).answer ≡ Refuses Full)
  open_replies = subst (λ (o : Outcome). (o.answer ≡ Tells 1) ⊎ (o.answer ≡ Refuses Full)) (sym open_answer) (either t.g (with_files t.slots files) 1 (filling t.g t.slots is.next.f files 0))

  pub open_begins : (fd id offset : ℕ) (more : List File) → (answer t.g true (with_files t.slots files) (Opens working 52)).answer ≡ Tells fd → (answer t.g true (with_files t.slots files) (Opens working 52)).next ≡ with_first t.slots (record { id = id; flags = 52; offset = offset }) more →
      IsFilling stat 0 t (record { id = id; flags = 52; offset = offset }) more
  open_begins fd id offset more told next =
      let w = fits t.g (with_files t.slots files) (gives (Tells 1) (filling t.g t.slots is.next.f files 0)) fd (ap (λ (o : Outcome). o.answer) (sym open_answer) ∙ told) in
      let same : filling t.g t.slots is.next.f files 0 ≡ with_first t.slots (record { id = id; flags = 52; offset = offset }) more = ap (λ (o : Outcome). o.next) (sym w.1 ∙ sym open_answer) ∙ next in
      let parts = same_first t.slots (filler (least_id files) 0) (record { id = id; flags = 52; offset = offset }) (begun t.g is.next.f files 0) more some same in
      subst (λ (l : List File). IsFilling stat 0 t (record { id = id; flags = 52; offset = offset }) l) parts.1 (subst (λ (d : Open). IsFilling stat 0 t d (begun t.g is.next.f files 0)) parts.0 (filling_begins stat t files is w.0))

  pub open_left : IsTable (answer t.g true (with_files t.slots files) (Opens working 52)).next.table → IsUnder t.alike t.source t.first (answer t.g true (with_files t.slots files) (Opens working 52)).next.table
  open_left = subst (λ (o : Outcome). IsTable o.next.table → IsUnder t.alike t.source t.first o.next.table) (sym open_answer) (⊎_elim
      (λ (room : has_room t.g (begun t.g is.next.f files 0) ≡ true). subst (λ (o : Outcome). IsTable o.next.table → IsUnder t.alike t.source t.first o.next.table) (sym (whole room)) (λ table. begun_under stat t files is 0 table))
      (λ (full : has_room t.g (begun t.g is.next.f files 0) ≡ false). subst (λ (o : Outcome). IsTable o.next.table → IsUnder t.alike t.source t.first o.next.table) (sym (short full)) (λ table. next_under stat t files is.next))
      (cases_Bool (has_room t.g (begun t.g is.next.f files 0))))
    where
      whole : has_room t.g (begun t.g is.next.f files 0) ≡ true → or_full t.g (with_files t.slots files) (gives (Tells 1) (filling t.g t.slots is.next.f files 0)) ≡ gives (Tells 1) (filling t.g t.slots is.next.f files 0)
      whole room = rw room refl

      short : has_room t.g (begun t.g is.next.f files 0) ≡ false → or_full t.g (with_files t.slots files) (gives (Tells 1) (filling t.g t.slots is.next.f files 0)) ≡ refused Full (with_files t.slots files)
      short full = rw full refl

  pub open_lacks : (answer t.g true (with_files t.slots files) (Opens working 52)).answer ≡ Refuses Full → IsLacking 1 0 t (answer t.g true (with_files t.slots files) (Opens working 52)).next
  open_lacks told =
      let w = lacks t.g (with_files t.slots files) 1 (filling t.g t.slots is.next.f files 0) (ap (λ (o : Outcome). o.answer) (sym open_answer) ∙ told) in
      let next : (answer t.g true (with_files t.slots files) (Opens working 52)).next ≡ with_files t.slots files = ap (λ (o : Outcome). o.next) (open_answer ∙ w.1) in
      let none = is.next.amid.done.none in
      let gone = removes-none t.g t.slots working files fine_working none in
      let counts = first-counts t.g is.next.f files in
      subst (IsLacking 1 0 t) (sym next) (record {
        table = begun t.g is.next.f files 0;
        stops = begins_full stat t files is w.0;
        index_are = sym counts.index_are;
        pages_are = omega (arith, counts.data_are);
        under = next_under stat t files is.next;
        left = files;
        next = ap (λ (o : Outcome). o.next) gone;
        reply = inr (ap (λ (o : Outcome). o.answer) gone);
        part = next_part stat t files is.next;
      })

-- ---- its next bytes are written

module _ (stat : Stat) (at : ℕ) (t : Task) (d : Open) (files : List File) (is : IsFilling stat at t d files) (some : 0 < t.slots) (bytes : List ℕ) (few : 0 < length bytes) (page : at % body t.g ≡ 0) (most : length bytes ≤ body t.g)
    (within : at + length bytes ≤ stat.size) (whole : (length bytes ≡ body t.g) ⊎ (at + length bytes ≡ stat.size)) (piece : IsPiece is.is.next.f at bytes) (pos : 0 < body t.g) where
  state_is : with_first t.slots d files ≡ filling t.g t.slots is.is.next.f is.before at
  state_is = ap (λ (e : Open). with_first t.slots e files) is.d_is ∙ ap (λ (l : List File). with_first t.slots (filler (least_id is.before) at) l) is.files_are

  write_answer : answer t.g true (with_first t.slots d files) (Writes 1 bytes) ≡ or_full t.g (filling t.g t.slots is.is.next.f is.before at) (gives (Tells (length bytes)) (filling t.g t.slots is.is.next.f is.before (at + length bytes)))
  write_answer = ap (λ (s : State). answer t.g true s (Writes 1 bytes)) state_is ∙ puts-piece t.g t.slots is.is.next.f is.before at bytes some few piece

  pub write_replies : ((answer t.g true (with_first t.slots d files) (Writes 1 bytes)).answer ≡ Tells (length bytes)) ⊎ ((answer t.g true (with_first t.slots d files) (Writes 1 bytes)).answer ≡ Refuses Full)
  write_replies = subst (λ (o : Outcome). (o.answer ≡ Tells (length bytes)) ⊎ (o.answer ≡ Refuses Full)) (sym write_answer)
      (either t.g (filling t.g t.slots is.is.next.f is.before at) (length bytes) (filling t.g t.slots is.is.next.f is.before (at + length bytes)))

  pub write_goes : (n id offset : ℕ) (more : List File) → (answer t.g true (with_first t.slots d files) (Writes 1 bytes)).answer ≡ Tells n → (answer t.g true (with_first t.slots d files) (Writes 1 bytes)).next ≡ with_first t.slots (record { id = id; flags = 52; offset = offset }) more →
      IsFilling stat (at + length bytes) t (record { id = id; flags = 52; offset = offset }) more
  write_goes n id offset more told next =
      let w = fits t.g (filling t.g t.slots is.is.next.f is.before at) (gives (Tells (length bytes)) (filling t.g t.slots is.is.next.f is.before (at + length bytes))) n (ap (λ (o : Outcome). o.answer) (sym write_answer) ∙ told) in
      let same : filling t.g t.slots is.is.next.f is.before (at + length bytes) ≡ with_first t.slots (record { id = id; flags = 52; offset = offset }) more = ap (λ (o : Outcome). o.next) (sym w.1 ∙ sym write_answer) ∙ next in
      let parts = same_first t.slots (filler (least_id is.before) (at + length bytes)) (record { id = id; flags = 52; offset = offset }) (begun t.g is.is.next.f is.before (at + length bytes)) more some same in
      subst (λ (l : List File). IsFilling stat (at + length bytes) t (record { id = id; flags = 52; offset = offset }) l) parts.1
      (subst (λ (e : Open). IsFilling stat (at + length bytes) t e (begun t.g is.is.next.f is.before (at + length bytes))) parts.0 (filling_goes stat at t d files is (length bytes) few page most within whole pos w.0))

  pub write_lacks : IsTable files → (answer t.g true (with_first t.slots d files) (Writes 1 bytes)).answer ≡ Refuses Full → IsLacking (index_pages t.g (at + length bytes) - index_pages t.g at) 1 t (answer t.g true (with_first t.slots d files) (Writes 1 bytes)).next
  write_lacks table told =
      let f = is.is.next.f in
      let before = is.before in
      let size : stat.size ≡ length f.bytes = ap (λ (s : Stat). s.size) is.is.next.stat_is in
      let w = lacks t.g (filling t.g t.slots f before at) (length bytes) (filling t.g t.slots f before (at + length bytes)) (ap (λ (o : Outcome). o.answer) (sym write_answer) ∙ told) in
      let next : (answer t.g true (with_first t.slots d files) (Writes 1 bytes)).next ≡ filling t.g t.slots f before at = ap (λ (o : Outcome). o.next) (write_answer ∙ w.1) in
      let gone = gives-up t.g t.slots f before at some is.is.next.amid.done.none in
      let counts = next-counts t.g f before at (length bytes) page few most (omega (arith, size, within)) in
      subst (IsLacking (index_pages t.g (at + length bytes) - index_pages t.g at) 1 t) (sym next) (record {
        table = begun t.g f before (at + length bytes);
        stops = filling_full_at stat at t d files is (length bytes) few page most within whole pos w.0;
        index_are = sym counts.index_are;
        pages_are = sym counts.data_are;
        under = begun_under stat t before is.is at (subst IsTable is.files_are table);
        left = before;
        next = ap (λ (o : Outcome). o.next) gone;
        reply = inl (ap (λ (o : Outcome). o.answer) gone);
        part = next_part stat t before is.is.next;
      })

  -- a cut leaves it as it was, or with them
  pub write_cut : (table : List File) → IsTable table → IsAmong table (files ∷ steps t.g true (with_first t.slots d files) (Writes 1 bytes)) → IsUnder t.alike t.source t.first table
  write_cut table is_table among =
      let f = is.is.next.f in
      let here : IsAmong table (begun t.g f is.before at ∷ steps t.g true (filling t.g t.slots f is.before at) (Writes 1 bytes)) = subst (λ (s : State). IsAmong table (s.table ∷ steps t.g true s (Writes 1 bytes))) state_is among in
      ⊎_elim
      (λ (same : table ≡ begun t.g f is.before at). subst (IsUnder t.alike t.source t.first) (sym same) (begun_under stat t is.before is.is at (subst IsTable same is_table)))
      (λ (more : table ≡ begun t.g f is.before (at + length bytes)). subst (IsUnder t.alike t.source t.first) (sym more) (begun_under stat t is.before is.is (at + length bytes) (subst IsTable more is_table)))
      (one-page t.g t.slots f is.before at bytes table some few piece page most here)

-- ---- and it is closed

module _ (stat : Stat) (t : Task) (d : Open) (files : List File) (some : 0 < t.slots) where
  pub close_done : answer t.g true (with_first t.slots d files) (Closes 1) ≡ gives Fine (with_files t.slots files)
  close_done = closes-first t.g t.slots d files some

  pub filling_under : (at : ℕ) → IsFilling stat at t d files → IsTable files → IsUnder t.alike t.source t.first files
  filling_under at is table = subst (IsUnder t.alike t.source t.first) (sym is.files_are) (begun_under stat t is.before is.is at (subst IsTable is.files_are table))
