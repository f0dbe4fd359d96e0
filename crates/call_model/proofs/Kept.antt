-- What holds after each call, by the changes that calls make to a state.
use Rattle.std.proofs.Common.{◌≡◌, ℕ, ℤ, ◌+◌, ◌≤◌, List, length, drop, replicate, Bool, true, false, not, Option, Some, None, ◌==◌, inl, inr, ⊎_elim, refl, arith, length-take, length-drop}
use Rattle.std.specs.Prelude.{pos, negsuc, ◌+ℤ◌, nat_lt, nat_le, ◌&&◌}
use Rattle.std.proofs.lemmas.Bool.{cases_Bool, cond_both, leb-true, ltb-false}
use Rattle.std.proofs.lemmas.Option.{none-some, same_Some}
use Rattle.geometry.specs.declared.geometry.Geometry.{Geometry}
use Rattle.table_model.specs.declared.error.FsErr.{FsErr}
use Rattle.table_model.specs.declared.call.Whence.{Whence}
use Rattle.table_model.specs.Table.{File, Open, State, file_of, file_named, has_name, least_id}
use Rattle.table_model.specs.Room.{has_room}
use Rattle.table_model.specs.Descriptors.{open_at, lowest_closed, new_open, at_offset, may_read, may_write, makes, is_exclusive, is_bad_flags}
use Rattle.table_model.specs.Files.{created, with_file, with_open, closed, cut_to, without, bytes_at, seek_place, place_within, seek_base}
use Rattle.table_model.specs.Outcome.{Outcome, unless, on_found, on_descriptor, on_its_file, on_open_file, page_refusal, with_page}
use Rattle.table_model.specs.Calls.{answer_create, answer_read, answer_write, answer_seek, answer_tell, answer_truncate, answer_flush, answer_close, answer_remove, answer_fremove, answer_rename, answer_stat, answer_fstat, answer_next, answer_meta, answer_fmeta, write_into, move_to}
use Rattle.table_model.specs.Opening.{answer_open, open_lowest, open_as, open_there, takes_bytes}
use Rattle.table_model.specs.Names.{name_refusal, names_refusal}
use Rattle.table_model.specs.Ask.{Ask, Creates, Opens, Reads, Writes, Fills, Seeks, Tells, Truncates, Flushes, Closes, Removes, RemovesOpen, Renames, Stats, StatsOpen, NextAbove, Informs, Collects, SetsMeta, SetsMetaOpen}
use Rattle.table_model.specs.Flat.{answer}

-- What is to be shown of a property of states at one of them, so that it holds after each call: at the state itself, and after each
-- change that a call may make of it. Where a call needs a page the table after it has room.
pub record Kept (g : Geometry) (s : State) (P : State → Type 0) : Type 0 where
  pub still : P s
  pub made : (name : List ℕ) → has_room g (created g name s.table) ≡ true → P (record s { table = created g name s.table })
  pub made_open : (name : List ℕ) (flags fd : ℕ) → has_room g (created g name s.table) ≡ true → P (with_open fd (new_open (least_id s.table) flags) (record s { table = created g name s.table }))
  pub opened : (name : List ℕ) (f : File) (flags fd : ℕ) → file_named name s.table ≡ Some f → P (with_open fd (new_open f.id flags) s)
  pub emptied : (name : List ℕ) (f : File) (flags fd : ℕ) → file_named name s.table ≡ Some f → has_room g (cut_to 0 f s).table ≡ true → P (with_open fd (new_open f.id flags) (cut_to 0 f s))
  pub moved : (fd : ℕ) (d : Open) (f : File) (at : ℕ) → open_at s.slots fd ≡ Some d → file_of d.id s.table ≡ Some f → (d.offset ≤ length f.bytes → at ≤ length f.bytes) → P (with_open fd (at_offset at d) s)
  pub wrote : (fd : ℕ) (d : Open) (f : File) (bytes : List ℕ) → open_at s.slots fd ≡ Some d → file_of d.id s.table ≡ Some f → has_room g (write_into fd d f bytes s).table ≡ true → P (write_into fd d f bytes s)
  pub cut : (d : Open) (f : File) (size : ℕ) → file_of d.id s.table ≡ Some f → size ≤ length f.bytes → has_room g (cut_to size f s).table ≡ true → P (cut_to size f s)
  pub shut : (fd : ℕ) → P (closed fd s)
  pub gone : (f : File) → P (without f s)
  pub renamed : (name : List ℕ) (f : File) (new : List ℕ) → file_named name s.table ≡ Some f → has_name new s.table ≡ false → has_room g (with_file (record f { name = new }) s).table ≡ true → P (with_file (record f { name = new }) s)
  pub marked : (name : List ℕ) (f : File) (meta : List ℕ) → file_named name s.table ≡ Some f → has_room g (with_file (record f { meta = meta }) s).table ≡ true → P (with_file (record f { meta = meta }) s)
  pub marked_open : (d : Open) (f : File) (meta : List ℕ) → file_of d.id s.table ≡ Some f → has_room g (with_file (record f { meta = meta }) s).table ≡ true → P (with_file (record f { meta = meta }) s)

module _ (P : State → Type 0) where
  abbrev After : Outcome → Type 0
  After o = P o.next

  unless-kept : (why : Option FsErr) (s : State) (done : Outcome) → P s → (why ≡ None → P done.next) → P (unless why s done).next
  unless-kept None s done still next = next refl
  unless-kept (Some why) s done still next = still

  found-kept : (o : Option File) (s : State) (call : File → Outcome) → P s → ((f : File) → o ≡ Some f → P (call f).next) → P (on_found o s call).next
  found-kept None s call still next = still
  found-kept (Some f) s call still next = next f refl

  open-kept : (o : Option Open) (s : State) (call : Open → Outcome) → P s → ((d : Open) → o ≡ Some d → P (call d).next) → P (on_descriptor o s call).next
  open-kept None s call still next = still
  open-kept (Some d) s call still next = next d refl

  its_file-kept : (d : Open) (o : Option File) (s : State) (call : Open → File → Outcome) → P s → ((f : File) → o ≡ Some f → P (call d f).next) → P (on_its_file d o s call).next
  its_file-kept d None s call still next = still
  its_file-kept d (Some f) s call still next = next f refl

  open_file-kept : (fd : ℕ) (s : State) (call : Open → File → Outcome) → P s → ((d : Open) (f : File) → open_at s.slots fd ≡ Some d → file_of d.id s.table ≡ Some f → P (call d f).next) → P (on_open_file fd s call).next
  open_file-kept fd s call still next = open-kept (open_at s.slots fd) s (λ d. on_its_file d (file_of d.id s.table) s call) still
      (λ d at. its_file-kept d (file_of d.id s.table) s call still (λ f there. next d f at there))

  page-kept : (g : Geometry) (spare : Bool) (s : State) (done : Outcome) → P s → (has_room g done.next.table ≡ true → P done.next) → P (with_page g spare s done).next
  unfolding page_refusal
  page-kept g spare s done still next =
      ⊎_elim
      (λ (no : spare ≡ false). rw no still)
      (λ (yes : spare ≡ true). rw yes (⊎_elim
      (λ (room : has_room g done.next.table ≡ true). rw room (next room))
      (λ (full : has_room g done.next.table ≡ false). rw full still)
      (cases_Bool (has_room g done.next.table))))
      (⊎_elim (λ yes. inr yes) (λ no. inl no) (cases_Bool spare))

-- ---- numbers

-- a read doesn't go past the end
read-inside : (count at : ℕ) (f : File) → at ≤ length f.bytes → at + length (bytes_at count at f) ≤ length f.bytes
read-inside count at f inside = let n = length-take count (drop at f.bytes) in let m = length-drop at f.bytes in omega (arith, n, m, inside)

-- a place is inside
place-inside : (size at : ℕ) (i : ℤ) → place_within size i ≡ Some at → at ≤ size
place-inside size at (negsuc n) h = absurd (none-some at h)
place-inside size at (pos n) h = ⊎_elim
    (λ (yes : nat_le n size ≡ true). let is : n ≡ at = same_Some n at (rw yes at h) in rw (← is) (leb-true n size yes))
    (λ (no : nat_le n size ≡ false). absurd (none-some at (rw no at h)))
    (cases_Bool (nat_le n size))

-- ---- each call

module _ (g : Geometry) (spare : Bool) (s : State) (P : State → Type 0) (k : Kept g s P) where
  create-kept : (name : List ℕ) → P (answer_create g spare s name).next
  unfolding answer_create
  create-kept name = unless-kept P (name_refusal name) s _ k.still (λ fine. cond_both (has_name name s.table) _ _ (After P) (λ there. k.still) (λ new. page-kept P g spare s _ k.still (λ room. k.made name room)))

  open_there-kept : (name : List ℕ) (f : File) (flags fd : ℕ) → file_named name s.table ≡ Some f → P (open_there g spare s f flags fd).next
  open_there-kept name f flags fd there = cond_both (makes flags && is_exclusive flags) _ _ (After P) (λ yes. k.still)
      (λ no. cond_both (takes_bytes flags f) _ _ (After P) (λ takes. page-kept P g spare s _ k.still (λ room. k.emptied name f flags fd there room)) (λ keeps. k.opened name f flags fd there))

  open_as-kept : (name : List ℕ) (flags fd : ℕ) (o : Option File) → file_named name s.table ≡ o → P (open_as g spare s name flags fd o).next
  open_as-kept name flags fd None there = cond_both (not (makes flags)) _ _ (After P) (λ yes. k.still) (λ no. page-kept P g spare s _ k.still (λ room. k.made_open name flags fd room))
  open_as-kept name flags fd (Some f) there = open_there-kept name f flags fd there

  open_lowest-kept : (name : List ℕ) (flags : ℕ) (o : Option ℕ) → P (open_lowest g spare s name flags o).next
  open_lowest-kept name flags None = k.still
  open_lowest-kept name flags (Some fd) = open_as-kept name flags fd (file_named name s.table) refl

  open-call-kept : (name : List ℕ) (flags : ℕ) → P (answer_open g spare s name flags).next
  unfolding answer_open
  open-call-kept name flags = unless-kept P (name_refusal name) s _ k.still (λ fine. cond_both (is_bad_flags flags) _ _ (After P) (λ bad. k.still) (λ good. open_lowest-kept name flags (lowest_closed s.slots)))

  read-kept : (fd count : ℕ) → P (answer_read s fd count).next
  unfolding answer_read
  read-kept fd count = open_file-kept P fd s _ k.still (λ d f at there. cond_both (not (may_read d.flags)) _ _ (After P) (λ yes. k.still)
      (λ no. k.moved fd d f (d.offset + length (bytes_at count d.offset f)) at there (read-inside count d.offset f)))

  write-kept : (fd : ℕ) (bytes : List ℕ) → P (answer_write g spare s fd bytes).next
  unfolding answer_write
  write-kept fd bytes = open_file-kept P fd s _ k.still (λ d f at there. cond_both (not (may_write d.flags)) _ _ (After P) (λ yes. k.still)
      (λ no. cond_both (length bytes == 0) _ _ (After P) (λ none. k.still) (λ some. page-kept P g spare s _ k.still (λ room. k.wrote fd d f bytes at there room))))

  move-kept : (fd : ℕ) (d : Open) (f : File) (o : Option ℕ) → open_at s.slots fd ≡ Some d → file_of d.id s.table ≡ Some f → ((at : ℕ) → o ≡ Some at → at ≤ length f.bytes) → P (move_to fd d o s).next
  move-kept fd d f None at there inside = k.still
  move-kept fd d f (Some to) at there inside = k.moved fd d f to at there (λ h. inside to refl)

  seek-kept : (fd : ℕ) (offset : ℤ) (from : Whence) → P (answer_seek s fd offset from).next
  unfolding answer_seek
  seek-kept fd offset from = open_file-kept P fd s _ k.still (λ d f at there. move-kept fd d f (seek_place offset from d f) at there (λ to h. place-inside (length f.bytes) to (pos (seek_base from d f) +ℤ offset) h))

  tell-kept : (fd : ℕ) → P (answer_tell s fd).next
  unfolding answer_tell
  tell-kept fd = open-kept P (open_at s.slots fd) s _ k.still (λ d at. k.still)

  truncate-kept : (fd size : ℕ) → P (answer_truncate g spare s fd size).next
  unfolding answer_truncate
  truncate-kept fd size = open_file-kept P fd s _ k.still (λ d f at there. cond_both (not (may_write d.flags)) _ _ (After P) (λ yes. k.still)
      (λ no. cond_both (nat_lt (length f.bytes) size) _ _ (After P) (λ past. k.still) (λ within. cond_both (size == length f.bytes) _ _ (After P) (λ same. k.still)
      (λ less. page-kept P g spare s _ k.still (λ room. k.cut d f size there (ltb-false (length f.bytes) size within) room)))))

  flush-kept : (fd : ℕ) → P (answer_flush s fd).next
  unfolding answer_flush
  flush-kept fd = open-kept P (open_at s.slots fd) s _ k.still (λ d at. k.still)

  close-kept : (fd : ℕ) → P (answer_close s fd).next
  unfolding answer_close
  close-kept fd = open-kept P (open_at s.slots fd) s _ k.still (λ d at. k.shut fd)

  remove-kept : (name : List ℕ) → P (answer_remove s name).next
  unfolding answer_remove
  remove-kept name = unless-kept P (name_refusal name) s _ k.still (λ fine. found-kept P (file_named name s.table) s _ k.still (λ f there. k.gone f))

  fremove-kept : (fd : ℕ) → P (answer_fremove s fd).next
  unfolding answer_fremove
  fremove-kept fd = open_file-kept P fd s _ k.still (λ d f at there. k.gone f)

  rename-kept : (old new : List ℕ) → P (answer_rename g spare s old new).next
  unfolding answer_rename
  rename-kept old new = unless-kept P (names_refusal old new) s _ k.still (λ fine. found-kept P (file_named old s.table) s _ k.still (λ f there.
      cond_both (has_name new s.table) _ _ (After P) (λ taken. k.still) (λ free. page-kept P g spare s _ k.still (λ room. k.renamed old f new there free room))))

  stat-kept : (name : List ℕ) → P (answer_stat s name).next
  unfolding answer_stat
  stat-kept name = unless-kept P (name_refusal name) s _ k.still (λ fine. found-kept P (file_named name s.table) s _ k.still (λ f there. k.still))

  fstat-kept : (fd : ℕ) → P (answer_fstat s fd).next
  unfolding answer_fstat
  fstat-kept fd = open_file-kept P fd s _ k.still (λ d f at there. k.still)

  next-kept : (id : ℕ) → P (answer_next s id).next
  unfolding answer_next
  next-kept id = k.still

  meta-kept : (name meta : List ℕ) → P (answer_meta g spare s name meta).next
  unfolding answer_meta
  meta-kept name meta = unless-kept P (name_refusal name) s _ k.still (λ fine. cond_both (not (length meta == g.meta)) _ _ (After P) (λ bad. k.still)
      (λ good. found-kept P (file_named name s.table) s _ k.still (λ f there. page-kept P g spare s _ k.still (λ room. k.marked name f meta there room))))

  fmeta-kept : (fd : ℕ) (meta : List ℕ) → P (answer_fmeta g spare s fd meta).next
  unfolding answer_fmeta
  fmeta-kept fd meta = cond_both (not (length meta == g.meta)) _ _ (After P) (λ bad. k.still) (λ good. open_file-kept P fd s _ k.still (λ d f at there.
      cond_both (not (may_write d.flags)) _ _ (After P) (λ yes. k.still) (λ no. page-kept P g spare s _ k.still (λ room. k.marked_open d f meta there room))))

  -- so it holds after every call
  pub kept : (ask : Ask) → P (answer g spare s ask).next
  unfolding answer
  kept (Creates name) = create-kept name
  kept (Opens name flags) = open-call-kept name flags
  kept (Reads fd count) = read-kept fd count
  kept (Writes fd bytes) = write-kept fd bytes
  kept (Fills fd count byte) = write-kept fd (replicate count byte)
  kept (Seeks fd offset from) = seek-kept fd offset from
  kept (Tells fd) = tell-kept fd
  kept (Truncates fd size) = truncate-kept fd size
  kept (Flushes fd) = flush-kept fd
  kept (Closes fd) = close-kept fd
  kept (Removes name) = remove-kept name
  kept (RemovesOpen fd) = fremove-kept fd
  kept (Renames old new) = rename-kept old new
  kept (Stats name) = stat-kept name
  kept (StatsOpen fd) = fstat-kept fd
  kept (NextAbove id) = next-kept id
  kept Informs = k.still
  kept Collects = k.still
  kept (SetsMeta name meta) = meta-kept name meta
  kept (SetsMetaOpen fd meta) = fmeta-kept fd meta
