-- What the flat table answers to calls through a descriptor.
use Rattle.std.proofs.Common.{◌≡◌, ℕ, ◌+◌, List, length, Bool, true, false, ◌||◌, refl, sym, ◌∙◌, ap, subst, arith}
use Rattle.std.specs.Option.{option_map}
use Rattle.std.specs.Prelude.{ℤ, pos, ◌+ℤ◌, Option, Some, None, Result, Ok, Err}
use Rattle.nor_core.specs.declared.state.NorState.{Ghosts as NorOf}
use Rattle.nor_core.specs.Count.{Rose}
use Rattle.nor_core.specs.Device.{OnlyReads}
use Rattle.nor_core.proofs.Cuts.{reads_none}
use Rattle.table_model.specs.declared.error.FsErr.{FsErr}
use Rattle.table_model.specs.declared.error.FsErr.TheVariants.{BadDescriptor, NotReadable, SeekBounds, DeviceFault, Damaged}
use Rattle.image_model.specs.declared.damage.Damage.{Damage}
use Rattle.image_model.specs.Places.{IsImage}
use Rattle.image_model.specs.Live.{live_at, own}
use Rattle.image_model.specs.Files.{is_index}
use Rattle.image_model.specs.Tables.{table_of}
use Rattle.image_model.specs.Tidy.{IsTidy, has_spare}
use Rattle.image_laws.proofs.Judge.{index_passes, found_from}
use Rattle.image_laws.proofs.Finish.{own-parts}
use Rattle.header_laws.proofs.Telling.{files-have_heads}
use Rattle.std.specs.Prelude.{IsErrOf, map}
use Rattle.flash_view.specs.declared.kinds.StepErr.{StepErr}
use Rattle.flash_view.specs.declared.kinds.StepErr.TheVariants.{DeviceFault as StepFault, Damaged as StepDamaged}
use Rattle.flash_view.specs.Steps.{as_fs_err}
use Rattle.file_read.specs.Missing.{IsMissing, HoldsOrFault}
use Rattle.file_read.specs.Whole.{IsFileOf}
use Rattle.fd_table.specs.declared.slot.FdSlot.{FdSlot}
use Rattle.fd_table.specs.Slots.{descriptors, held, opened}
use Rattle.file_calls.specs.declared.told.Told.TheVariants.{Done, Number as AsNumber}
use Rattle.file_calls.specs.Replies.{may_answer, may_meet, is_change, reads_file, base_at}
use Rattle.file_calls.specs.Slots.{closed_fault, slots_fault}
use Rattle.file_calls.specs.States.{IsImageOf}
use Rattle.file_calls.specs.Goes.{Goes}
use Rattle.file_calls.specs.Moves.{with_slots, Moves}
use Rattle.file_calls.specs.Recorded.{MayMiss}
use Rattle.table_model.specs.Steps.{done_steps}
use Rattle.call_model.proofs.Tables.{file_of-id}
use Rattle.file_drop.specs.Removals.{removing}
use Rattle.file_calls.proofs.Removing.{has_by}
use Rattle.file_calls.proofs.Numbered.{numbered_fine, numbered_refused}
use Rattle.file_calls.proofs.Going.{same_slots, no_refusal, goes_refused, goes_barred, goes_missed, IsOneStep, one_step, one_does, before_or_after, IsStep, is_flat}
use Rattle.room_laws.proofs.Staying.{reserve_mends}
use Rattle.geometry.specs.declared.geometry.Geometry.{Geometry}
use Rattle.table_model.specs.declared.call.Whence.{Whence}
use Rattle.table_model.specs.declared.call.Whence.TheVariants.{Set, Cur, End}
use Rattle.table_model.specs.declared.reply.Stat.{Stat}
use Rattle.table_model.specs.Table.{File, Open, State, file_of, drop_file}
use Rattle.table_model.specs.Descriptors.{open_at, put_at, may_read, at_offset, without_file}
use Rattle.table_model.specs.Files.{stat_of, bytes_at, with_open, closed, without, seek_base, place_within, seek_place}
use Rattle.table_model.specs.Calls.{answer_read, answer_seek, answer_tell, answer_flush, answer_close, answer_fremove, answer_fstat, move_to}
use Rattle.table_model.specs.Outcome.{Outcome, refused, gives}
use Rattle.table_model.specs.Reply.{Fine, Tells as Number, Gives, Shows, Refuses}
use Rattle.table_model.specs.Ask.{Ask, Reads, Seeks, Tells, Flushes, Closes, RemovesOpen, StatsOpen}
use Rattle.table_model.specs.Flat.{answer}

module _ (g : Geometry) (spare : Bool) (s : State) (fd : ℕ) where
  -- ---- a closed number

  pub tell_closed : open_at s.slots fd ≡ None → answer g spare s (Tells fd) ≡ refused BadDescriptor s
  unfolding answer answer_tell
  tell_closed none = rw none refl

  pub flush_closed : open_at s.slots fd ≡ None → answer g spare s (Flushes fd) ≡ refused BadDescriptor s
  unfolding answer answer_flush
  flush_closed none = rw none refl

  pub close_closed : open_at s.slots fd ≡ None → answer g spare s (Closes fd) ≡ refused BadDescriptor s
  unfolding answer answer_close
  close_closed none = rw none refl

  pub fstat_closed : open_at s.slots fd ≡ None → answer g spare s (StatsOpen fd) ≡ refused BadDescriptor s
  unfolding answer answer_fstat
  fstat_closed none = rw none refl

  pub seek_closed : (offset : ℤ) (from : Whence) → open_at s.slots fd ≡ None → answer g spare s (Seeks fd offset from) ≡ refused BadDescriptor s
  unfolding answer answer_seek
  seek_closed offset from none = rw none refl

  pub read_closed : (count : ℕ) → open_at s.slots fd ≡ None → answer g spare s (Reads fd count) ≡ refused BadDescriptor s
  unfolding answer answer_read
  read_closed count none = rw none refl

  module _ (d : Open) (opened : open_at s.slots fd ≡ Some d) where
    -- ---- an open one

    pub flat_tell : answer g spare s (Tells fd) ≡ gives (Number d.offset) s
    unfolding answer answer_tell
    flat_tell = rw opened refl

    pub flat_flush : answer g spare s (Flushes fd) ≡ gives Fine s
    unfolding answer answer_flush
    flat_flush = rw opened refl

    pub flat_close : answer g spare s (Closes fd) ≡ gives Fine (closed fd s)
    unfolding answer answer_close
    flat_close = rw opened refl

    module _ (f : File) (there : file_of d.id s.table ≡ Some f) where
      -- ---- on its file

      pub flat_fstat : answer g spare s (StatsOpen fd) ≡ gives (Shows (stat_of f)) s
      unfolding answer answer_fstat
      flat_fstat = rw (opened, there) refl

      pub flat_seek : (offset : ℤ) (from : Whence) → answer g spare s (Seeks fd offset from) ≡ move_to fd d (seek_place offset from d f) s
      unfolding answer answer_seek
      flat_seek offset from = rw (opened, there) refl

      pub flat_unreadable : (count : ℕ) → may_read d.flags ≡ false → answer g spare s (Reads fd count) ≡ refused NotReadable s
      unfolding answer answer_read
      flat_unreadable count never = rw (opened, there, never) refl

      pub flat_read : (count : ℕ) → may_read d.flags ≡ true → answer g spare s (Reads fd count) ≡ gives (Gives (bytes_at count d.offset f)) (with_open fd (at_offset (d.offset + length (bytes_at count d.offset f)) d) s)
      unfolding answer answer_read
      flat_read count may = rw (opened, there, may) refl

-- ---- over slots

-- the descriptor of a number, in a state with these
pub open_in : (slots : List FdSlot) (s : State) (fd : ℕ) (found : Option Open) → descriptors slots ≡ s.slots → open_at (descriptors slots) fd ≡ found → open_at s.slots fd ≡ found
open_in slots s fd found same at = ap (λ (l : List (Option Open)). open_at l fd) (sym same) ∙ at

-- a call that asks nothing of the device, through a number that is closed
pub closed_moves : (ask : Ask) (slots : List FdSlot) (fd : ℕ) → open_at (descriptors slots) fd ≡ None → ((g : Geometry) (spare : Bool) (s : State) → open_at s.slots fd ≡ None → answer g spare s ask ≡ refused BadDescriptor s) → may_answer ask (Refuses BadDescriptor) ≡ true →
    ((g : Geometry) → slots_fault g (descriptors slots) ask ≡ Some BadDescriptor) → Moves ask slots slots (Err BadDescriptor)
closed_moves ask slots fd none is may barred = record {
  answers = λ g spare s same. is g spare s (open_in slots s fd None same none) ∙ ap (λ (n : State). gives (Refuses BadDescriptor) n) (sym (same_slots s (descriptors slots) same));
  still = λ refusal. refl;
  among = may;
  calm = refl;
  numbered = λ g. numbered_refused g slots ask BadDescriptor false (barred g) refl;
}

pub tell_moves : (slots : List FdSlot) (fd : ℕ) (slot : FdSlot) → open_at (descriptors slots) fd ≡ Some (opened slot) → Moves (Tells fd) slots slots (Ok (AsNumber slot.offset))
tell_moves slots fd slot at = record {
  answers = λ g spare s same. flat_tell g spare s fd (opened slot) (open_in slots s fd (Some (opened slot)) same at) ∙ ap (λ (n : State). gives (Number slot.offset) n) (sym (same_slots s (descriptors slots) same));
  still = λ refusal. refl;
  among = refl;
  calm = refl;
  numbered = λ g. numbered_fine g slots (Tells fd) (Number slot.offset) false (ap closed_fault at) (λ why of e. no_refusal (Number slot.offset) why refl e);
}

pub flush_moves : (slots : List FdSlot) (fd : ℕ) (slot : FdSlot) → open_at (descriptors slots) fd ≡ Some (opened slot) → Moves (Flushes fd) slots slots (Ok Done)
flush_moves slots fd slot at = record {
  answers = λ g spare s same. flat_flush g spare s fd (opened slot) (open_in slots s fd (Some (opened slot)) same at) ∙ ap (λ (n : State). gives Fine n) (sym (same_slots s (descriptors slots) same));
  still = λ refusal. refl;
  among = refl;
  calm = refl;
  numbered = λ g. numbered_fine g slots (Flushes fd) Fine false (ap closed_fault at) (λ why of e. no_refusal Fine why refl e);
}

pub close_moves : (slots after : List FdSlot) (fd : ℕ) (slot : FdSlot) → open_at (descriptors slots) fd ≡ Some (opened slot) → descriptors after ≡ put_at (descriptors slots) fd None → Moves (Closes fd) slots after (Ok Done)
close_moves slots after fd slot at put = record {
  answers = λ g spare s same. flat_close g spare s fd (opened slot) (open_in slots s fd (Some (opened slot)) same at) ∙ ap (λ (l : List (Option Open)). gives Fine (with_slots l s)) (sym (put ∙ ap (λ (l : List (Option Open)). put_at l fd None) same));
  still = λ refusal. absurd (let no : false ≡ true = refusal in cc);
  among = refl;
  calm = refl;
  numbered = λ g. numbered_fine g slots (Closes fd) Fine false (ap closed_fault at) (λ why of e. no_refusal Fine why refl e);
}

-- ---- over a device

-- a file of the table has its pages
pub whole_file : (g : Geometry) (a : List ℕ) (id : ℕ) (f : File) → IsImage g a → IsTidy g a → file_of id (table_of g a) ≡ Some f → IsFileOf g a id f
whole_file g a id f is tidy at =
    let h = files-have_heads g a is tidy id f at in
    let page = some_index (own (live_at g a) id h.p) 0 (index_passes g (own (live_at g a) id) 0 h.p h.at) in
    let same : Some page.0 ≡ Some h.page = sym (own-parts (live_at g a) id h.p page.0 page.1).0 ∙ h.live in
    let own_page : own (live_at g a) id h.p ≡ Some h.page = page.1 ∙ same in
    record { page = h.p; is = found_from g (own (live_at g a) id) id h.p h.page h.at own_page ∙ ap (λ (r : Result File Damage). Some (h.p, r)) h.tells.whole }
  where
    some_index : (o : Option (List ℕ)) (span : ℕ) → is_index o span ≡ true → (x : List ℕ) × (o ≡ Some x)
    some_index None span e = absurd (let no : false ≡ true = e in cc)
    some_index (Some x) span e = (x, refl)

-- the file of an open descriptor, as the image has it
pub record HasFile (g : Geometry) (image : List ℕ) (s : State) (d : Open) : Type 0 where
  pub file : File
  pub there : file_of d.id s.table ≡ Some file
  pub listed : file_of d.id (table_of g image) ≡ Some file

module _ {D : Type 0} {nor : NorOf D} {g : Geometry} {old : D} {slots : List FdSlot} (fd : ℕ) (slot : FdSlot) where
  pub file_at : open_at (descriptors slots) fd ≡ Some (opened slot) → (s : State) → IsImageOf nor g old slots s → HasFile g (nor.bytes old) s (opened slot)
  file_at at s here =
      let w = here.opened fd (opened slot) (open_in slots s fd (Some (opened slot)) here.slots at) in
      record { file = w.file; there = w.there; listed = ap (file_of slot.id) (sym here.table) ∙ w.there }

  -- the record of its file can't be missing
  pub never_missing : open_at (descriptors slots) fd ≡ Some (opened slot) → (s : State) → IsImageOf nor g old slots s → file_of slot.id (table_of g (nor.bytes old)) ≡ None → ⊥
  never_missing at s here none = let w = file_at at s here in let no : Some w.file ≡ None = sym w.listed ∙ none in cc

-- A closed number.
pub goes_closed : {D : Type 0} {nor : NorOf D} {g : Geometry} {d : D} {slots : List FdSlot} (ask : Ask) (fd : ℕ) (wrote : Bool) → wrote ≡ false → is_flat ask ≡ true → may_answer ask (Refuses BadDescriptor) ≡ true → slots_fault g (descriptors slots) ask ≡ Some BadDescriptor → open_at (descriptors slots) fd ≡ None →
    ((s : State) → open_at s.slots fd ≡ None → answer g (has_spare g (nor.bytes d)) s ask ≡ refused BadDescriptor s) → Goes nor g ask d d slots slots wrote (Refuses BadDescriptor)
goes_closed {D} {nor} {g} {d} {slots} ask fd wrote none flat may barred closed is =
    goes_barred ask BadDescriptor wrote none (reads_none d) flat may refl barred (λ s here. is s (open_in slots s fd None here.slots closed))

-- A look for a page of the file that failed.
pub goes_unread : {D : Type 0} {nor : NorOf D} {g : Geometry} {old new : D} {slots : List FdSlot} (ask : Ask) (why : FsErr) (wrote : Bool) → wrote ≡ false → OnlyReads nor old new → is_flat ask ≡ true → slots_fault g (descriptors slots) ask ≡ None → may_meet ask DeviceFault ≡ true → (is_change ask || reads_file ask) ≡ true → MayMiss why →
    (why ≡ DeviceFault → Rose (nor.faults old) (nor.faults new)) → ((s : State) → IsImageOf nor g old slots s → (why ≡ DeviceFault → ⊥) → ⊥) → Goes nor g ask old new slots slots wrote (Refuses why)
goes_unread ask DeviceFault wrote none reads flat fine met reader missed cause never = goes_refused {T = Unit {0}} ask DeviceFault wrote none reads flat fine met (λ e. cause refl) (λ s here no_fault. absurd (no_fault refl))
goes_unread ask (Damaged d) wrote none reads flat fine met reader missed cause never = goes_missed ask d wrote none reads flat fine reader missed (λ s here. never s here (λ e. cc))
goes_unread ask _ wrote none reads flat fine met reader missed cause never = absurd missed

-- the record that was found is that of the file
pub stat_is : (stat : Stat) (f : File) (found : Option File) → Some stat ≡ option_map stat_of found → found ≡ Some f → stat ≡ stat_of f
stat_is stat f found told at = let e : Some stat ≡ Some (stat_of f) = told ∙ ap (option_map stat_of) at in cc

-- ---- seeks and reads

seek_base_is : (from : Whence) (d : Open) (f : File) → seek_base from d f ≡ base_at from d.offset (length f.bytes)
seek_base_is Set d f = refl
seek_base_is Cur d f = refl
seek_base_is End d f = refl

-- where a seek leads, by what was read of the file
place_is : (offset : ℤ) (from : Whence) (d : Open) (f : File) (stat : Stat) (base : ℕ) (found : Option ℕ) → stat ≡ stat_of f → base ≡ base_at from d.offset stat.size → found ≡ place_within stat.size (pos base +ℤ offset) → seek_place offset from d f ≡ found
place_is offset from d f stat base found of_file is place =
    let size : stat.size ≡ length f.bytes = ap (λ (x : Stat). x.size) of_file in
    let same : base ≡ seek_base from d f = is ∙ ap (base_at from d.offset) size ∙ sym (seek_base_is from d f) in
    sym (place ∙ rw (same, size) refl)

-- a slot with another offset
pub held_at : (slot : FdSlot) (at : ℕ) → slot.used ≡ true → held (record slot { offset = at }) ≡ Some (at_offset at (opened slot))
held_at slot at used = rw used refl

module _ {D : Type 0} {nor : NorOf D} {g : Geometry} {old : D} {slots : List FdSlot} (fd : ℕ) (slot : FdSlot) (at : open_at (descriptors slots) fd ≡ Some (opened slot)) where
  module _ (offset : ℤ) (from : Whence) (stat : Stat) (base : ℕ) (told : nor.tells old → IsTidy g (nor.bytes old) → Some stat ≡ option_map stat_of (file_of slot.id (table_of g (nor.bytes old)))) (is : base ≡ base_at from slot.offset stat.size) where
    seeks_by : (found : Option ℕ) → found ≡ place_within stat.size (pos base +ℤ offset) → (s : State) → IsImageOf nor g old slots s → answer g (has_spare g (nor.bytes old)) s (Seeks fd offset from) ≡ move_to fd (opened slot) found s
    seeks_by found place s here =
        let w = file_at fd slot at s here in
        let of_file = stat_is stat w.file _ (told here.tells here.tidy) w.listed in
        flat_seek g (has_spare g (nor.bytes old)) s fd (opened slot) (open_in slots s fd (Some (opened slot)) here.slots at) w.file w.there offset from
        ∙ ap (λ (o : Option ℕ). move_to fd (opened slot) o s) (place_is offset from (opened slot) w.file stat base found of_file is place)

    pub seek_stays : None ≡ place_within stat.size (pos base +ℤ offset) → (s : State) → IsImageOf nor g old slots s → answer g (has_spare g (nor.bytes old)) s (Seeks fd offset from) ≡ refused SeekBounds s
    seek_stays place s here = seeks_by None place s here

    pub seek_moves : (to : ℕ) → Some to ≡ place_within stat.size (pos base +ℤ offset) → (s : State) → IsImageOf nor g old slots s →
        answer g (has_spare g (nor.bytes old)) s (Seeks fd offset from) ≡ gives (Number to) (with_slots (put_at (descriptors slots) fd (Some (at_offset to (opened slot)))) s)
    seek_moves to place s here = seeks_by (Some to) place s here ∙ ap (λ (l : List (Option Open)). gives (Number to) (with_slots (put_at l fd (Some (at_offset to (opened slot)))) s)) (sym here.slots)

  pub read_refused : (count : ℕ) → may_read slot.flags ≡ false → (s : State) → IsImageOf nor g old slots s → answer g (has_spare g (nor.bytes old)) s (Reads fd count) ≡ refused NotReadable s
  read_refused count never s here =
      let w = file_at fd slot at s here in
      flat_unreadable g (has_spare g (nor.bytes old)) s fd (opened slot) (open_in slots s fd (Some (opened slot)) here.slots at) w.file w.there count never

  pub read_gives : (count n : ℕ) (bytes : List ℕ) → may_read slot.flags ≡ true → ((f : File) → IsFileOf g (nor.bytes old) slot.id f → (bytes ≡ bytes_at count slot.offset f) × (n ≡ length (bytes_at count slot.offset f))) → ((s : State) → IsImageOf nor g old slots s → IsImage g (nor.bytes old)) →
      (s : State) → IsImageOf nor g old slots s → answer g (has_spare g (nor.bytes old)) s (Reads fd count) ≡ gives (Gives bytes) (with_slots (put_at (descriptors slots) fd (Some (at_offset (slot.offset + n) (opened slot)))) s)
  read_gives count n bytes may told whole s here =
      let w = file_at fd slot at s here in
      let t = told w.file (whole_file g (nor.bytes old) slot.id w.file (whole s here) here.tidy w.listed) in
      flat_read g (has_spare g (nor.bytes old)) s fd (opened slot) (open_in slots s fd (Some (opened slot)) here.slots at) w.file w.there count may
      ∙ rw (t.0, t.1, here.slots) refl

-- A read that failed: the device, or a page isn't there.
pub unread_by : {D : Type 0} {nor : NorOf D} {g : Geometry} {old new : D} {slots : List FdSlot} {T : Type 0} (id : ℕ) (ask : Ask) (why : StepErr) (wrote : Bool) → wrote ≡ false → OnlyReads nor old new → is_flat ask ≡ true → slots_fault g (descriptors slots) ask ≡ None → may_meet ask DeviceFault ≡ true → (is_change ask || reads_file ask) ≡ true → IsMissing id why →
    (IsErrOf {T = T} (Err why) StepFault → Rose (nor.faults old) (nor.faults new)) → ((s : State) → IsImageOf nor g old slots s → HoldsOrFault {T = T} (Err why) (λ x. Unit {0})) → Goes nor g ask old new slots slots wrote (Refuses (as_fs_err why))
unread_by id ask StepFault wrote none reads flat fine met reader missing cause told = goes_unread ask DeviceFault wrote none reads flat fine met reader tt (λ e. cause refl) (λ s here no_fault. no_fault refl)
unread_by id ask (StepDamaged d) wrote none reads flat fine met reader missing cause told = goes_unread ask (Damaged d) wrote none reads flat fine met reader missing.apart (λ e. absurd (cc)) (λ s here no_fault. told s here)

-- ---- a removal by descriptor

module _ (g : Geometry) (spare : Bool) (s : State) (fd : ℕ) where
  pub fremove_closed : open_at s.slots fd ≡ None → answer g spare s (RemovesOpen fd) ≡ refused BadDescriptor s
  unfolding answer answer_fremove
  fremove_closed none = rw none refl

  flat_fremove : (d : Open) (f : File) → open_at s.slots fd ≡ Some d → file_of d.id s.table ≡ Some f → answer g spare s (RemovesOpen fd) ≡ gives Fine (without f s)
  unfolding answer answer_fremove
  flat_fremove d f at there = rw (at, there) refl

  -- the file is taken out, and the descriptors on it are closed
  fremove_one : (d : Open) (f : File) → open_at s.slots fd ≡ Some d → file_of d.id s.table ≡ Some f → IsOneStep g spare s (RemovesOpen fd) Fine (drop_file d.id s.table) × ((answer g spare s (RemovesOpen fd)).next.slots ≡ map (without_file d.id) s.slots)
  unfolding without done_steps
  fremove_one d f at there =
      let same : f.id ≡ d.id = file_of-id d.id s.table f there in
      let is = flat_fremove d f at there in (
        subst (λ (n : ℕ). IsOneStep g spare s (RemovesOpen fd) Fine (drop_file n s.table)) same (one_step g spare s (without f s) (RemovesOpen fd) Fine refl is refl),
        ap (λ (o : Outcome). o.next.slots) is ∙ rw same refl,
      )

module _ {D : Type 0} {nor : NorOf D} {g : Geometry} {old : D} {slots : List FdSlot} (fd : ℕ) (slot : FdSlot) (at : open_at (descriptors slots) fd ≡ Some (opened slot)) where
  removed_by : (s : State) → IsImageOf nor g old slots s → IsOneStep g (has_spare g (nor.bytes old)) s (RemovesOpen fd) Fine (drop_file slot.id (table_of g (nor.bytes old))) × ((answer g (has_spare g (nor.bytes old)) s (RemovesOpen fd)).next.slots ≡ map (without_file slot.id) (descriptors slots))
  removed_by s here =
      let w = file_at fd slot at s here in
      let o = fremove_one g (has_spare g (nor.bytes old)) s fd (opened slot) w.file (open_in slots s fd (Some (opened slot)) here.slots at) w.there in (
        subst (λ (files : List File). IsOneStep g (has_spare g (nor.bytes old)) s (RemovesOpen fd) Fine (drop_file slot.id files)) here.table o.0,
        o.1 ∙ ap (map (without_file slot.id)) (sym here.slots),
      )

  pub fremove_step : IsStep nor g slots (RemovesOpen fd) Fine (map (without_file slot.id) (descriptors slots)) old (removing slot.id)
  fremove_step = record {
    can = λ s here. let w = file_at fd slot at s here in record { tidy = here.tidy; there = has_by slot.id (table_of g (nor.bytes old)) w.file w.listed };
    cut = λ s here image cut. let o = removed_by s here in
        before_or_after g (nor.bytes old) image s (RemovesOpen fd) Fine (drop_file slot.id (table_of g (nor.bytes old))) o.0 here.table cut.sound (λ reserve. reserve_mends g image (let free = cut.free in omega (arith, reserve, free))) cut.table;
    done = λ s here now done. let o = removed_by s here in record { answer_is = o.0.answer_is; tidy = done.tidy; table = o.0.table_is ∙ sym done.table; slots = sym o.1; reserve = λ reserve. let free = done.free in omega (arith, reserve, free) };
    doable = λ s here. one_does g (nor.bytes old) s (RemovesOpen fd) Fine (drop_file slot.id (table_of g (nor.bytes old))) refl (removed_by s here).0;
  }
