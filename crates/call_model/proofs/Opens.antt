-- Each open descriptor stays on a file of the table, at a place inside it.
use Rattle.std.proofs.Common.{◌≡◌, ℕ, ◌+◌, ◌≤◌, List, ◌++◌, length, take, drop, Bool, true, false, Option, Some, None, ◌==◌, ⊎_elim, sym, ◌∙◌, ap, subst, refl, arith, min, length-take, length-drop, length-append}
use Rattle.std.proofs.lemmas.Bool.{cases_Bool, cases_eq, eqb-false}
use Rattle.std.proofs.lemmas.Option.{none-some, same_Some}
use Rattle.geometry.specs.declared.geometry.Geometry.{Geometry}
use Rattle.table_model.specs.Table.{File, Open, State, file_of, put_file, least_id}
use Rattle.table_model.specs.Descriptors.{open_at, new_open, at_offset, appends, pulled_back, without_file}
use Rattle.table_model.specs.Files.{created, new_file, with_file, with_open, closed, cut_to, without, written, write_place}
use Rattle.table_model.specs.Ask.{Ask}
use Rattle.table_model.specs.Flat.{answer}
use Rattle.call_model.specs.Memory.{IsOpenOn, OpensFiles}
use Rattle.call_model.specs.Tables.{NamesById}
use Rattle.call_model.proofs.Slots.{open-map, open-put}
use Rattle.call_model.proofs.Tables.{file_of-put, file_of-put_other, file_of-drop, file_of-id}
use Rattle.call_model.proofs.Unused.{least-unused, file_of-unused}
use Rattle.call_model.proofs.Kept.{Kept, kept}

-- a descriptor is on a file by the table alone
same_table : (s t : State) (d : Open) → s.table ≡ t.table → IsOpenOn s d → IsOpenOn t d
same_table s t d same on = record { file = on.file; there = rw same at on.there; inside = on.inside }

-- One that is on a file of a table is so after a file is put there, also at an earlier place: it has to be inside the file that was put,
-- where that has its id.
on-put : (s t : State) (f : File) (e d : Open) → t.table ≡ put_file f s.table → IsOpenOn s e → d.id ≡ e.id → d.offset ≤ e.offset →
    ((old : File) → file_of f.id s.table ≡ Some old → e.offset ≤ length old.bytes → f.id ≡ e.id → d.offset ≤ length f.bytes) → IsOpenOn t d
on-put s t f e d table on same back inside = ⊎_elim
    (λ (mine : f.id ≡ e.id). record {
      file = f;
      there = ap (file_of d.id) table ∙ ap (λ (id : ℕ). file_of id (put_file f s.table)) (same ∙ sym mine) ∙ file_of-put f s.table;
      inside = inside on.file (ap (λ (id : ℕ). file_of id s.table) mine ∙ on.there) on.inside mine;
    })
    (λ (apart : f.id ≡ e.id → ⊥). record {
      file = on.file;
      there = ap (file_of d.id) table ∙ ap (λ (id : ℕ). file_of id (put_file f s.table)) same ∙ file_of-put_other e.id f s.table apart ∙ on.there;
      inside = omega (arith, on.inside, back);
    })
    (cases_eq f.id e.id)

-- a file is put that is no shorter than the one of its id
opens-put : (s : State) (f : File) → OpensFiles s → ((old : File) → file_of f.id s.table ≡ Some old → length old.bytes ≤ length f.bytes) → OpensFiles (with_file f s)
opens-put s f opens long fd d at = on-put s (with_file f s) f d d refl (opens fd d at) refl (omega arith) (λ old was inside mine. let h = long old was in omega (arith, h, inside))

-- a number gets a descriptor that is on a file
opens-set : (s : State) (fd : ℕ) (new : Open) → OpensFiles s → IsOpenOn s new → OpensFiles (with_open fd new s)
opens-set s fd new opens on j d at = same_table s (with_open fd new s) d refl (⊎_elim
    (λ (here : Some new ≡ Some d). subst (λ (x : Open). IsOpenOn s x) (same_Some new d here) on)
    (λ (there : open_at s.slots j ≡ Some d). opens j d there)
    (open-put s.slots fd j (Some new) d at))

-- a number is closed
opens-close : (s : State) (fd : ℕ) → OpensFiles s → OpensFiles (closed fd s)
opens-close s fd opens j d at = same_table s (closed fd s) d refl (⊎_elim
    (λ (here : None ≡ Some d). absurd (none-some d here))
    (λ (there : open_at s.slots j ≡ Some d). opens j d there)
    (open-put s.slots fd j None d at))

-- ---- a file that is cut

-- an open descriptor that was pulled back, maybe
record IsPulled (id size : ℕ) (o : Option Open) (d : Open) : Type 0 where
  pub old : Open
  pub was : o ≡ Some old
  pub same : d.id ≡ old.id
  pub back : d.offset ≤ old.offset
  pub inside : d.id ≡ id → d.offset ≤ size

is_pulled : (id size : ℕ) (o : Option Open) (d : Open) → pulled_back id size o ≡ Some d → IsPulled id size o d
is_pulled id size None d h = absurd (none-some d h)
is_pulled id size (Some e) d h = ⊎_elim
    (λ (yes : (e.id == id) ≡ true).
    let is : at_offset (min e.offset size) e ≡ d = same_Some _ d (rw yes at h) in
    let offset : min e.offset size ≡ d.offset = ap (λ (x : Open). x.offset) is in
    record { old = e; was = refl; same = sym (ap (λ (x : Open). x.id) is); back = omega (arith, offset); inside = λ mine. omega (arith, offset) })
    (λ (no : (e.id == id) ≡ false).
    let is : e ≡ d = same_Some e d (rw no at h) in
    record { old = e; was = refl; same = sym (ap (λ (x : Open). x.id) is); back = rw is (omega arith); inside = λ mine. absurd (eqb-false e.id id no (ap (λ (x : Open). x.id) is ∙ mine)) })
    (cases_Bool (e.id == id))

opens-cut : (s : State) (f : File) (size : ℕ) → OpensFiles s → size ≤ length f.bytes → OpensFiles (cut_to size f s)
unfolding cut_to
opens-cut s f size opens within fd d at =
    let w = is_pulled f.id size (open_at s.slots fd) d (sym (open-map (pulled_back f.id size) s.slots fd refl) ∙ at) in
    let n = length-take size f.bytes in
    on-put s (cut_to size f s) (record f { bytes = take size f.bytes }) w.old d refl (opens fd w.old w.was) w.same w.back
    (λ old was inside mine. let h = w.inside (w.same ∙ sym mine) in omega (arith, n, h, within))

cut_file : (s : State) (f : File) (size : ℕ) → file_of f.id (cut_to size f s).table ≡ Some (record f { bytes = take size f.bytes })
unfolding cut_to
cut_file s f size = file_of-put (record f { bytes = take size f.bytes }) s.table

-- ---- a file that is taken out

still_open : (id : ℕ) (o : Option Open) (d : Open) → without_file id o ≡ Some d → (o ≡ Some d) × (id ≡ d.id → ⊥)
still_open id None d h = absurd (none-some d h)
still_open id (Some e) d h = ⊎_elim
    (λ (yes : (e.id == id) ≡ true). absurd (none-some d (rw yes at h)))
    (λ (no : (e.id == id) ≡ false). let is : e ≡ d = same_Some e d (rw no at h) in (ap (λ (x : Open). Some x) is, λ mine. eqb-false e.id id no (ap (λ (x : Open). x.id) is ∙ sym mine)))
    (cases_Bool (e.id == id))

opens-without : (s : State) (f : File) → OpensFiles s → OpensFiles (without f s)
unfolding without
opens-without s f opens fd d at =
    let w = still_open f.id (open_at s.slots fd) d (sym (open-map (without_file f.id) s.slots fd refl) ∙ at) in
    let on = opens fd d w.0 in
    record { file = on.file; there = file_of-drop d.id f.id s.table w.1 ∙ on.there; inside = on.inside }

-- ---- a file that is written

-- a write inside a file reaches its own end at least, and leaves no less than there was
pub written-length : (at : ℕ) (bytes : List ℕ) (f : File) → at ≤ length f.bytes → (length f.bytes ≤ length (written at bytes f).bytes) × (at + length bytes ≤ length (written at bytes f).bytes)
written-length at bytes f inside =
    let a = length-append (take at f.bytes ++ bytes) (drop (at + length bytes) f.bytes) in
    let b = length-append (take at f.bytes) bytes in
    let c = length-take at f.bytes in
    let e = length-drop (at + length bytes) f.bytes in
    (omega (arith, a, b, c, e, inside), omega (arith, a, b, c, e, inside))

-- inside its old end it keeps its length
pub written-same_length : (at : ℕ) (bytes : List ℕ) (f : File) → at + length bytes ≤ length f.bytes → length (written at bytes f).bytes ≡ length f.bytes
written-same_length at bytes f inside =
    let a = length-append (take at f.bytes ++ bytes) (drop (at + length bytes) f.bytes) in
    let b = length-append (take at f.bytes) bytes in
    let c = length-take at f.bytes in
    let e = length-drop (at + length bytes) f.bytes in
    omega (arith, a, b, c, e, inside)

pub place-inside : (d : Open) (f : File) → d.offset ≤ length f.bytes → write_place d f ≤ length f.bytes
place-inside d f inside = ⊎_elim
    (λ (yes : appends d.flags ≡ true). rw yes (omega arith))
    (λ (no : appends d.flags ≡ false). rw no inside)
    (cases_Bool (appends d.flags))

-- ---- every call

-- the file of an open descriptor is the one that the table has
pub inside_file : (s : State) (fd : ℕ) (d : Open) (f : File) → OpensFiles s → open_at s.slots fd ≡ Some d → file_of d.id s.table ≡ Some f → d.offset ≤ length f.bytes
inside_file s fd d f opens at there = let on = opens fd d at in let is : on.file ≡ f = same_Some on.file f (sym on.there ∙ there) in rw (← is) on.inside

module _ (g : Geometry) (s : State) (names : NamesById s.table) (opens : OpensFiles s) where
  -- a file like the one of its id in all but name, kind and meta
  alike : (f x : File) → file_of f.id s.table ≡ Some f → x.id ≡ f.id → x.bytes ≡ f.bytes → OpensFiles (with_file x s)
  alike f x there same bytes = opens-put s x opens (λ old was.
      let is : old ≡ f = same_Some old f (sym was ∙ ap (λ (id : ℕ). file_of id s.table) same ∙ there) in rw (is, bytes) (omega arith))

  -- the file of a descriptor is the one of its own id
  its_own : (d : Open) (f : File) → file_of d.id s.table ≡ Some f → file_of f.id s.table ≡ Some f
  its_own d f there = ap (λ (id : ℕ). file_of id s.table) (file_of-id d.id s.table f there) ∙ there

  made : (name : List ℕ) → OpensFiles (record s { table = created g name s.table })
  made name = opens-put s (new_file g (least_id s.table) name) opens (λ old was. absurd (none-some old (sym (file_of-unused (least_id s.table) s.table (least-unused s.table)) ∙ was)))

  -- what each change leaves
  changes : Kept g s OpensFiles
  changes = record {
    still = opens;
    made = λ name room. made name;
    made_open = λ name flags fd room. opens-set (record s { table = created g name s.table }) fd (new_open (least_id s.table) flags) (made name)
        (record { file = new_file g (least_id s.table) name; there = file_of-put (new_file g (least_id s.table) name) s.table; inside = omega arith });
    opened = λ name f flags fd named. opens-set s fd (new_open f.id flags) opens (record { file = f; there = names name f named; inside = omega arith });
    emptied = λ name f flags fd named room. opens-set (cut_to 0 f s) fd (new_open f.id flags) (opens-cut s f 0 opens (omega arith))
        (record { file = record f { bytes = take 0 f.bytes }; there = cut_file s f 0; inside = omega arith });
    moved = λ fd d f at is there inside. opens-set s fd (at_offset at d) opens (record { file = f; there = there; inside = inside (inside_file s fd d f opens is there) });
    wrote = λ fd d f bytes is there room.
        let at : write_place d f ≤ length f.bytes = place-inside d f (inside_file s fd d f opens is there) in
        let long = written-length (write_place d f) bytes f at in
        let same : d.id ≡ f.id = sym (file_of-id d.id s.table f there) in
        opens-set (with_file (written (write_place d f) bytes f) s) fd (at_offset (write_place d f + length bytes) d)
        (opens-put s (written (write_place d f) bytes f) opens (λ old was. let is : old ≡ f = same_Some old f (sym was ∙ its_own d f there) in rw is long.0))
        (record { file = written (write_place d f) bytes f; there = ap (λ (id : ℕ). file_of id (put_file (written (write_place d f) bytes f) s.table)) same ∙ file_of-put (written (write_place d f) bytes f) s.table; inside = long.1 });
    cut = λ d f size there within room. opens-cut s f size opens within;
    shut = λ fd. opens-close s fd opens;
    gone = λ f. opens-without s f opens;
    renamed = λ name f new named free room. alike f (record f { name = new }) (names name f named) refl refl;
    marked = λ name f meta named room. alike f (record f { meta = meta }) (names name f named) refl refl;
    marked_open = λ d f meta there room. alike f (record f { meta = meta }) (its_own d f there) refl refl;
  }

pub opens_kept : (g : Geometry) (spare : Bool) (s : State) (ask : Ask) → NamesById s.table → OpensFiles s → OpensFiles (answer g spare s ask).next
opens_kept g spare s ask names opens = kept g spare s OpensFiles (changes g s names opens) ask
