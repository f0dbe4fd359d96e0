-- Writes through a descriptor, where nothing waits.
use Rattle.std.proofs.Common.{◌≡◌, ℕ, ◌+◌, ◌<◌, ◌≤◌, ◌==◌, ◌⊎◌, inl, inr, List, [], length, max, Bool, true, false, not, ◌&&◌, refl, sym, ◌∙◌, ap, subst, arith}
use Rattle.std.specs.Prelude.{Option, Some, None, nat_le, if◌then◌else◌}
use Rattle.std.specs.Prelude.{Ok, Err}
use Rattle.std.proofs.lemmas.Bool.{and_parts, ne_eqb, eq-eqb, leb-true, leb-false, not-true}
use Rattle.std.proofs.Math.Nat.{div-mul-le_self}
use Rattle.geometry.specs.declared.geometry.Geometry.{Geometry}
use Rattle.geometry.specs.Numbers.{body}
use Rattle.nor_core.specs.declared.state.NorState.{Ghosts as NorOf}
use Rattle.nor_core.specs.Device.{OnlyReads}
use Rattle.table_model.specs.declared.error.FsErr.{FsErr}
use Rattle.table_model.specs.declared.error.FsErr.TheVariants.{BadDescriptor, NotWritable, SeekBounds, Tight, Full, DeviceFault}
use Rattle.table_model.specs.Table.{File, Open, State, file_of, put_file}
use Rattle.table_model.specs.Descriptors.{open_at, put_at, at_offset, appends, may_write, is_direct}
use Rattle.table_model.specs.Files.{written, write_place}
use Rattle.table_model.specs.Room.{has_room}
use Rattle.table_model.specs.Outcome.{Outcome, refused, gives, unless, page_refusal, with_page}
use Rattle.table_model.specs.Calls.{answer_write, write_into}
use Rattle.table_model.specs.Reply.{Tells as Number}
use Rattle.table_model.specs.Ask.{Writes}
use Rattle.table_model.specs.Flat.{answer}
use Rattle.table_model.specs.Steps.{is_refusal, open_file, file_steps, steps}
use Rattle.table_model.specs.Window.{Moment, settled_at, after, page_end, IsAmong}
use Rattle.image_model.specs.Tables.{table_of}
use Rattle.image_model.specs.Tidy.{IsTidy, free_blocks, HasReserve, has_spare}
use Rattle.write_window.specs.Runs.{Run}
use Rattle.call_model.specs.Memory.{OpensFiles, Waits}
use Rattle.call_model.specs.Calls.{Stands}
use Rattle.call_model.specs.Writing.{IsWrite, Writing}
use Rattle.call_model.proofs.Tables.{file_of-id}
use Rattle.call_model.proofs.Opens.{opens_kept, place-inside, inside_file}
use Rattle.call_model.proofs.Writing.{write-is_done}
use Rattle.call_model.proofs.Parts.{whole-among}
use Rattle.call_model.proofs.Waiting.{begun-moment, wait_begins}
use Rattle.call_model.proofs.Settling.{direct-moment}
use Rattle.call_model.proofs.Empty.{empty-is_done}
use Rattle.flash_view.specs.declared.view.View.{View}
use Rattle.flash_view.specs.Steps.{Step, Stepped, stopped}
use Rattle.flash_view.proofs.Stepped.{ends_as}
use Rattle.fd_table.specs.declared.slot.FdSlot.{FdSlot}
use Rattle.fd_table.specs.Slots.{descriptors, opened}
use Rattle.file_calls.specs.Replies.{MeetsPage, may_meet}
use Rattle.file_calls.specs.States.{IsImageOf}
use Rattle.file_calls.specs.Refusals.{IsResized}
use Rattle.file_calls.specs.Collecting.{refusing}
use Rattle.file_calls.specs.Cleans.{Turned, part_count, NeedsNoTail}
use Rattle.volume.specs.Acts.{ActsQuietly}
use Rattle.file_calls.specs.Writings.{writing}
use Rattle.file_calls.proofs.Numbered.{numbered_fine, write_fine}
use Rattle.file_calls.proofs.Going.{IsStep, IsTurned, is_flat, reads_cuts, reads_upkeep, names_by}
use Rattle.file_calls.proofs.TurnsBy.{turns_none, turned_as}
use Rattle.file_calls.proofs.WriteLoop.{steps_count}
use Rattle.volume.proofs.Acting.{EndsSettled}
use Rattle.file_calls.proofs.Descriptors.{open_in, file_at}
use Rattle.file_calls.proofs.Cutting.{TellsRoom}
use Rattle.volume.proofs.Continuing.{no_bytes}
use Rattle.file_calls.proofs.Resizing.{written_size}

-- ---- the flat table

module _ (g : Geometry) (spare : Bool) (s : State) (fd : ℕ) (bytes : List ℕ) where
  pub write_closed : open_at s.slots fd ≡ None → answer g spare s (Writes fd bytes) ≡ refused BadDescriptor s
  unfolding answer answer_write
  write_closed none = rw none refl

  module _ (d : Open) (f : File) (at : open_at s.slots fd ≡ Some d) (there : file_of d.id s.table ≡ Some f) where
    flat_unwritable : may_write d.flags ≡ false → answer g spare s (Writes fd bytes) ≡ refused NotWritable s
    unfolding answer answer_write
    flat_unwritable never = rw at (rw there (rw never refl))

    flat_writes : may_write d.flags ≡ true → (length bytes == 0) ≡ false → answer g spare s (Writes fd bytes) ≡ with_page g spare s (gives (Number (length bytes)) (write_into fd d f bytes s))
    unfolding answer answer_write
    flat_writes may some = rw at (rw there (rw may (rw some refl)))

-- nothing stands against the pages of a table
pub record HasPages (g : Geometry) (spare : Bool) (files : List File) : Type 0 where
  pub two_free : spare ≡ true
  pub room : has_room g files ≡ true

pages_by : (g : Geometry) (spare room : Bool) (files : List File) → has_room g files ≡ room → page_refusal g spare files ≡ None → HasPages g spare files
unfolding page_refusal
pages_by g true true files is e = record { two_free = refl; room = is }
pages_by g true false files is e = absurd (let no : Some Full ≡ None = rw is at e in cc)
pages_by g false room files is e = absurd (cc)

-- what a call that takes a page may meet a write may meet
pub meets_write : (why : FsErr) (fd : ℕ) (bytes : List ℕ) → MeetsPage why → may_meet (Writes fd bytes) why ≡ true
meets_write Tight fd bytes met = refl
meets_write Full fd bytes met = refl
meets_write DeviceFault fd bytes met = refl
meets_write SeekBounds fd bytes met = absurd (let no : false ≡ true = (met [] [] 0 fd 0).0 in cc)
meets_write _ fd bytes met = absurd (let no : false ≡ true = (met [] [] 0 fd 0).2 in cc)

-- bytes that may not wait
never_waits : (b : Bool) (x y : ℕ) → (not b && nat_le x y) ≡ false → (b ≡ true) ⊎ (y < x)
never_waits true x y e = inl refl
never_waits false x y e = inr (leb-false x y e)

-- the table with a file that was written
abbrev pub written_table : Geometry → List ℕ → (place : ℕ) → List ℕ → File → List File
written_table g image place bytes f = put_file (written place bytes f) (table_of g image)

-- the descriptors, where one has moved to a place
abbrev pub moved_by : List FdSlot → (fd : ℕ) → FdSlot → (to : ℕ) → List (Option Open)
moved_by slots fd slot to = put_at (descriptors slots) fd (Some (at_offset to (opened slot)))

-- the run of a write
abbrev pub run_by : (fd : ℕ) → FdSlot → (place : ℕ) → List ℕ → Run
run_by fd slot place bytes = record { fd = fd; id = slot.id; start = place; bytes = bytes }

-- whether bytes may wait, by the same place
pub waits_at : (g : Geometry) (slot : FdSlot) (bytes : List ℕ) {n place : ℕ} {may : Bool} → n ≡ place → (not (is_direct slot.flags) && nat_le (n + length bytes) (page_end g place)) ≡ may → (not (is_direct slot.flags) && nat_le (place + length bytes) (page_end g place)) ≡ may
waits_at g slot bytes {place = place} {may = may} same is = subst (λ (k : ℕ). (not (is_direct slot.flags) && nat_le (k + length bytes) (page_end g place)) ≡ may) same is

-- ---- over a device

module _ {D : Type 0} {nor : NorOf D} {g : Geometry} {old : D} {slots : List FdSlot} (fd : ℕ) (slot : FdSlot) (at : open_at (descriptors slots) fd ≡ Some (opened slot)) (bytes : List ℕ) where
  pub write_unwritable : may_write slot.flags ≡ false → (s : State) → IsImageOf nor g old slots s → answer g (has_spare g (nor.bytes old)) s (Writes fd bytes) ≡ refused NotWritable s
  write_unwritable never s here = let w = file_at fd slot at s here in flat_unwritable g (has_spare g (nor.bytes old)) s fd bytes (opened slot) w.file (open_in slots s fd (Some (opened slot)) here.slots at) w.there never

  module _ (may : may_write slot.flags ≡ true) where
    -- without a byte nothing changes
    module _ (none : length bytes ≡ 0) where
      pub write_empty : (s : State) → IsImageOf nor g old slots s → answer g (has_spare g (nor.bytes old)) s (Writes fd bytes) ≡ gives (Number 0) s
      unfolding settled_at
      write_empty s here =
          let w = file_at fd slot at s here in
          subst (λ (l : List ℕ). answer g (has_spare g (nor.bytes old)) s (Writes fd l) ≡ gives (Number 0) s) (sym (no_bytes bytes none))
          (empty-is_done g (has_spare g (nor.bytes old)) (settled_at s) fd (opened slot) w.file (open_in slots s fd (Some (opened slot)) here.slots at) w.there may).answer_is

      pub empty_ends : (s : State) → IsImageOf nor g old slots s → EndsSettled g (has_spare g (nor.bytes old)) s (Writes fd bytes)
      unfolding settled_at
      empty_ends s here =
          let w = file_at fd slot at s here in
          let e = empty-is_done g (has_spare g (nor.bytes old)) (settled_at s) fd (opened slot) w.file (open_in slots s fd (Some (opened slot)) here.slots at) w.there may in
          subst (λ (l : List ℕ). EndsSettled g (has_spare g (nor.bytes old)) s (Writes fd l)) (sym (no_bytes bytes none)) (e.settles refl ∙ sym (ap (λ (o : Outcome). settled_at o.next) e.answer_is))

    -- into its file, of that size, at the place where they go
    module _ (size : ℕ) (f : File) (known : (s : State) → IsImageOf nor g old slots s → (file_of slot.id s.table ≡ Some f) × (length f.bytes ≡ size)) (place : ℕ) (from : place ≡ (if appends slot.flags then size else slot.offset)) (some : 0 < length bytes) where
      at_place : (s : State) → IsImageOf nor g old slots s → place ≡ write_place (opened slot) f
      at_place s here = from ∙ ap (λ (n : ℕ). if appends slot.flags then n else slot.offset) (sym (known s here).1)

      inside : (s : State) → IsImageOf nor g old slots s → place ≤ length f.bytes
      inside s here =
          let low = place-inside (opened slot) f (inside_file s fd (opened slot) f here.opened (open_in slots s fd (Some (opened slot)) here.slots at) (known s here).0) in
          omega (arith, low, at_place s here)

      is_room : (to : ℕ) → to ≡ max (place + length bytes) size → (s : State) → IsImageOf nor g old slots s → IsResized (table_of g (nor.bytes old)) size to f (written place bytes f)
      is_room to ends s here =
          let w = known s here in
          let listed = ap (file_of slot.id) (sym here.table) ∙ w.0 in
          let long = written_size place bytes f (inside s here) in
          record {
            there = subst (λ (n : ℕ). file_of n (table_of g (nor.bytes old)) ≡ Some f) (sym (file_of-id slot.id (table_of g (nor.bytes old)) f listed)) listed;
            same = refl;
            was = w.1;
            now = omega (arith, long, ends, w.1);
          }

      -- no page is had
      pub write_refuses : {why : FsErr} (to : ℕ) → to ≡ max (place + length bytes) size → (nor.tells old → IsTidy g (nor.bytes old) → TellsRoom size to (Err why) g (nor.bytes old)) → (s : State) → IsImageOf nor g old slots s → (why ≡ DeviceFault → ⊥) →
          answer g (has_spare g (nor.bytes old)) s (Writes fd bytes) ≡ refused why s
      write_refuses {why} to ends room s here no_fault =
          let spare = has_spare g (nor.bytes old) in
          let lack : page_refusal g spare (written_table g (nor.bytes old) place bytes f) ≡ Some why = room here.tells here.tidy f (written place bytes f) (is_room to ends s here) no_fault in
          let table : put_file (written (write_place (opened slot) f) bytes f) s.table ≡ written_table g (nor.bytes old) place bytes f = ap (λ (n : ℕ). put_file (written n bytes f) s.table) (sym (at_place s here)) ∙ ap (put_file (written place bytes f)) here.table in
          flat_writes g spare s fd bytes (opened slot) f (open_in slots s fd (Some (opened slot)) here.slots at) (known s here).0 may (ne_eqb (length bytes) 0 (λ e. omega (arith, e, some)))
          ∙ ap (λ (o : Option FsErr). unless o s (gives (Number (length bytes)) (write_into fd (opened slot) f bytes s))) (ap (page_refusal g spare) table ∙ lack)

      -- .. or they are had
      module _ (to : ℕ) (ends : to ≡ max (place + length bytes) size) (room : nor.tells old → IsTidy g (nor.bytes old) → TellsRoom size to (Ok tt) g (nor.bytes old)) where
        pub is_write : (s : State) → IsImageOf nor g old slots s → IsWrite g (has_spare g (nor.bytes old)) s fd bytes (opened slot) f
        is_write s here =
            let had = pages_by g (has_spare g (nor.bytes old)) (has_room g (written_table g (nor.bytes old) place bytes f)) (written_table g (nor.bytes old) place bytes f) refl (room here.tells here.tidy f (written place bytes f) (is_room to ends s here)) in
            record {
              descriptor = open_in slots s fd (Some (opened slot)) here.slots at;
              file = (known s here).0;
              writes = may;
              some = some;
              two_free = had.two_free;
              room = ap (λ (n : ℕ). has_room g (put_file (written n bytes f) s.table)) (sym (at_place s here)) ∙ ap (λ (t : List File). has_room g (put_file (written place bytes f) t)) here.table ∙ had.room;
            }

        done : (s : State) → IsImageOf nor g old slots s → Writing g (has_spare g (nor.bytes old)) s fd bytes (opened slot) f
        done s here = write-is_done g (has_spare g (nor.bytes old)) s fd bytes (opened slot) f (is_write s here)

        moved_is : (s : State) → IsImageOf nor g old slots s → moved_by slots fd slot (place + length bytes) ≡ (answer g (has_spare g (nor.bytes old)) s (Writes fd bytes)).next.slots
        moved_is s here = ap (λ (l : List (Option Open)). put_at l fd (Some (at_offset (place + length bytes) (opened slot)))) here.slots
            ∙ ap (λ (n : ℕ). put_at s.slots fd (Some (at_offset (n + length bytes) (opened slot)))) (at_place s here)
            ∙ sym (ap (λ (o : Outcome). o.next.slots) (done s here).answer_is)

        -- its parts are written one after another
        pub write_step : IsStep nor g slots (Writes fd bytes) (Number (length bytes)) (moved_by slots fd slot (place + length bytes)) old (writing slot.id place bytes f)
        write_step = record {
          can = λ s here. let w = is_write s here in record {
            tidy = here.tidy;
            reserve = leb-true 2 (free_blocks g (nor.bytes old)) w.two_free;
            there = ap (file_of slot.id) (sym here.table) ∙ (known s here).0;
            some = some;
            from = inside s here;
            room = ap (λ (t : List File). has_room g (put_file (written place bytes f) t)) (sym here.table) ∙ ap (λ (n : ℕ). has_room g (put_file (written n bytes f) s.table)) (at_place s here) ∙ w.room;
          };
          cut = λ s here image cut. record {
            sound = cut.sound;
            mends = cut.mends;
            table = rw ((done s here).steps_are, ← at_place s here, here.table) cut.table;
          };
          done = λ s here now left. record {
            answer_is = ap (λ (o : Outcome). o.answer) (done s here).answer_is;
            tidy = left.tidy;
            table = ap (λ (o : Outcome). o.next.table) (done s here).answer_is ∙ ap (λ (n : ℕ). put_file (written n bytes f) s.table) (sym (at_place s here)) ∙ ap (put_file (written place bytes f)) here.table ∙ sym left.table;
            slots = moved_is s here;
            reserve = λ reserve. left.reserve;
          };
          doable = λ s here.
              let w = done s here in
              let spare = has_spare g (nor.bytes old) in
              record {
                done = ap (λ (o : Outcome). is_refusal o.answer) w.answer_is;
                publishes = inr (subst (λ (all : List (List File)). IsAmong (answer g spare s (Writes fd bytes)).next.table all) (sym w.steps_are)
                    (subst (λ (table : List File). IsAmong table (file_steps g (write_place (opened slot) f) bytes f s.table)) (sym (ap (λ (o : Outcome). o.next.table) w.answer_is)) (whole-among g (write_place (opened slot) f) bytes f s.table some)));
              };
        }

        -- and each of them cleans in its turns
        pub write_turns : {k : Geometry} → k ≡ g → IsTurned nor g (NeedsNoTail slot.id (length f.bytes) (place + length bytes)) (part_count k (length f.bytes) place (length bytes)) old slots (Writes fd bytes)
        unfolding open_file
        write_turns {k} same = record {
          no_tail = λ s here none.
              let w = is_write s here in
              subst (λ (n : ℕ). NeedsNoTail slot.id (length f.bytes) (n + length bytes) g (nor.bytes old)) (sym (at_place s here)) (rw (w.descriptor, w.file) at none);
          published = λ s here.
              let here_is : part_count k (length f.bytes) place (length bytes) ≡ part_count g (length f.bytes) (write_place (opened slot) f) (length bytes) =
              ap (λ (h : Geometry). part_count h (length f.bytes) place (length bytes)) same ∙ ap (λ (n : ℕ). part_count g (length f.bytes) n (length bytes)) (at_place s here) in
              let all : length (steps g (has_spare g (nor.bytes old)) s (Writes fd bytes)) ≡ part_count g (length f.bytes) (write_place (opened slot) f) (length bytes) =
              ap (λ (l : List (List File)). length l) (done s here).steps_are ∙ steps_count g (write_place (opened slot) f) bytes f s.table in
              subst (λ (n : ℕ). part_count k (length f.bytes) place (length bytes) ≤ n) (here_is ∙ sym all) (omega arith);
        }

        -- what may not wait leaves nothing waiting
        pub direct_ends : (not (is_direct slot.flags) && nat_le (place + length bytes) (page_end g place)) ≡ false → (s : State) → IsImageOf nor g old slots s → EndsSettled g (has_spare g (nor.bytes old)) s (Writes fd bytes)
        unfolding settled_at
        direct_ends apart s here =
            let why : (is_direct slot.flags ≡ true) ⊎ (page_end g place < place + length bytes) = never_waits (is_direct slot.flags) (place + length bytes) (page_end g place) apart in
            direct-moment g (has_spare g (nor.bytes old)) (settled_at s) fd bytes (opened slot) f (is_write s here)
            (subst (λ (n : ℕ). (is_direct slot.flags ≡ true) ⊎ (page_end g n < n + length bytes)) (at_place s here) why) refl
            ∙ sym (ap (λ (o : Outcome). settled_at o.next) (done s here).answer_is)

        -- what may wait does
        module _ (waits : (not (is_direct slot.flags) && nat_le (place + length bytes) (page_end g place)) ≡ true) {new : D} (reads : OnlyReads nor old new) (wrote : Bool) (none : wrote ≡ false) (last : List FdSlot) (put : descriptors last ≡ moved_by slots fd slot (place + length bytes)) where
          waits_stand : (s : State) → IsImageOf nor g old slots s → Stands nor g new (record { slots = descriptors last; run = Some (run_by fd slot place bytes) }) (after g (has_spare g (nor.bytes old)) (settled_at s) (Writes fd bytes))
          unfolding settled_at
          waits_stand s here =
              let spare = has_spare g (nor.bytes old) in
              let w = is_write s here in
              let two = and_parts (not (is_direct slot.flags)) (nat_le (place + length bytes) (page_end g place)) waits in
              let direct = not-true (is_direct slot.flags) two.0 in
              let within = subst (λ (n : ℕ). n + length bytes ≤ page_end g n) (at_place s here) (leb-true (place + length bytes) (page_end g place) two.1) in
              let moment = begun-moment g spare (settled_at s) fd bytes (opened slot) f w direct within refl in
              let run_is = ap (λ (n : ℕ). run_by fd slot n bytes) (at_place s here) in
              record {
                tells = reads.told here.tells;
                image = record {
                  tidy = subst (λ (l : List ℕ). IsTidy g l) (sym reads.bytes) here.tidy;
                  table = ap (table_of g) reads.bytes ∙ sym here.table ∙ sym (ap (λ (n : Moment). n.settled) moment);
                  slots = put ∙ moved_is s here ∙ ap (λ (o : Outcome). o.next.slots) (done s here).answer_is ∙ sym (ap (λ (n : Moment). n.state.slots) moment);
                  run = (
                    subst (λ (r : Run). Waits g (after g spare (settled_at s) (Writes fd bytes)) r) (sym run_is) (wait_begins g spare (settled_at s) fd bytes (opened slot) f w here.opened direct within refl),
                    subst (λ (l : List ℕ). HasReserve g l) (sym reads.bytes) (leb-true 2 (free_blocks g (nor.bytes old)) w.two_free),
                  );
                  opened = subst (λ (n : Moment). OpensFiles n.state) (sym moment) (subst (λ (o : Outcome). OpensFiles o.next) (done s here).answer_is
                      (opens_kept g spare s (Writes fd bytes) (names_by g (nor.bytes old) s here.table) here.opened));
                };
              }

          pub acts_waiting : {kept : Option Run} → kept ≡ Some (run_by fd slot place bytes) → ActsQuietly nor g (Writes fd bytes) old new slots last kept wrote (Number (length bytes))
          acts_waiting kept = subst (λ (r : Option Run). ActsQuietly nor g (Writes fd bytes) old new slots last r wrote (Number (length bytes))) (sym kept) (record {
            quiet = λ why e. absurd (let no : None ≡ Some why = sym (write_fine (opened slot) at may) ∙ e in cc);
            acts = record {
              does = record {
                cuts = reads_cuts (Writes fd bytes) reads;
                upkeep = reads_upkeep reads;
                collects = λ s here is. absurd (let no : true ≡ false = ap is_flat is in cc);
                cornered = λ s here corner tight. absurd (let no : false ≡ true = corner.cuts in cc);
                begun = λ s here w. absurd (let no : true ≡ false = sym w ∙ none in cc);
                untouched = λ w. reads;
                still = λ refusal. absurd (let no : false ≡ true = refusal in cc);
                keeps = λ keeps. absurd (let no : false ≡ true = keeps in cc);
                cause = λ e. absurd (cc);
                differs = λ d e. absurd (cc);
                undamaged = λ s here d e. cc;
                among = eq-eqb (length bytes) (length bytes) refl;
                brief = λ given e. absurd (cc);
                numbered = numbered_fine g slots (Writes fd bytes) (Number (length bytes)) wrote (write_fine (opened slot) at may) (λ why of e. cc);
                looks = λ look. none;
                cleans = λ s here write. absurd (let no : true ≡ false = write in cc);
                turns = λ s here write. turns_none reads;
              };
              answers = λ s here no_fault whole. record {
                reply_is = sym (ap (λ (o : Outcome). o.answer) (done s here).answer_is);
                stands = waits_stand s here;
                reserve = λ reserve. subst (λ (l : List ℕ). HasReserve g l) (sym reads.bytes) reserve;
                reads = λ refusal. reads;
              };
              empty = λ refusal. absurd (let no : false ≡ true = refusal in cc);
              waits = λ some. none;
            };
          })

-- ---- how the parts end

module _ {N : Type 0} {nor : NorOf N} {old new : View N nor} {step : Step (Unit {0})} where
  pub ends_whole : Stepped refusing old new (Ok tt) step → Stepped stopped old new (Ok tt) step
  ends_whole call = ends_as call (λ tells need. record { needs = need; cut = λ c cut. cut }) (λ tells need done. done)

  pub turned_whole : {ready : Geometry → List ℕ → Type 0} {parts : ℕ} → Turned refusing ready parts old new (Ok tt) step → Turned stopped ready parts old new (Ok tt) step
  turned_whole call = turned_as call (ends_whole call.steps) (λ tells need. need) (λ tells need n few. few) (λ e. e)

-- ---- where bytes wait

-- those that end in the data page in which they begin are no more than one holds
pub few_bytes : (g : Geometry) (at n : ℕ) → at + n ≤ page_end g at → n ≤ body g
few_bytes g at n within = let back = div-mul-le_self at (body g) in omega (arith, back, within)
