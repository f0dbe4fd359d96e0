-- One part of a write: pages are had for it, the tail is made ready where bytes are added behind it, and the page step is taken.
use Rattle.std.proofs.Common.{◌≡◌, ℕ, ◌+◌, ◌-◌, ◌*◌, ◌/◌, ◌%◌, ◌⊎◌, ◌==◌, ◌<◌, ◌≤◌, ◌&&◌, nat_le, ⊎_elim, inl, inr, List, length, Bool, true, false, refl, sym, ◌∙◌, ap, subst, arith, replicate}
use Rattle.std.specs.Prelude.{◌↔◌, Some, is_some, Result, Ok, Err, if◌then◌else◌}
use Rattle.std.proofs.Math.Nat.{div-add-mod, mul-mod_right, mul-le-mul_right}
use Rattle.std.proofs.lemmas.Bool.{cases_lt, cases_eq, eq-eqb, ne_eqb, lt-ltb, le-ltb}
use Rattle.std.proofs.lemmas.List.{length-replicate}
use Rattle.nor_core.specs.declared.state.NorState.{Ghosts as NorOf}
use Rattle.table_model.specs.declared.error.FsErr.{FsErr}
use Rattle.geometry.specs.declared.geometry.Geometry.{Geometry}
use Rattle.geometry.specs.Numbers.{body, head_slots, span_slots, usable}
use Rattle.table_model.specs.Table.{File, file_of, has_id, put_file}
use Rattle.table_model.specs.Files.{written}
use Rattle.table_model.specs.Room.{data_pages}
use Rattle.image_model.specs.Collect.{are_had}
use Rattle.image_model.specs.Tables.{table_of}
use Rattle.image_model.specs.Within.{sizes}
use Rattle.image_laws.proofs.Serving.{ceil-mono}
use Rattle.image_model.specs.Tidy.{IsTidy, HasReserve}
use Rattle.image_laws.proofs.Sounding.{sound-on}
use Rattle.renew_laws.specs.Tails.{IsTailReady}
use Rattle.room_laws.specs.Stopping.{HasRoomFor}
use Rattle.room_laws.proofs.Staying.{reserve_mends}
use Rattle.header_laws.proofs.Listed.{any-found}
use Rattle.page_renew.specs.PageSteps.{StepCut}
use Rattle.block_gc.specs.RoomMade.{MadeRoom}
use Rattle.file_write.specs.Appends.{index_needed, pages_most, append_room, appending}
use Rattle.file_write.proofs.Sizes.{next_pages, some_pages, pages_few as few_by_bytes}
use Rattle.file_write.specs.Overwrites.{overwriting}
use Rattle.file_write.specs.Readyings.{readying}
use Rattle.flash_view.specs.declared.view.View.{View}
use Rattle.flash_view.specs.Steps.{Step, Errors, Stepped, stopped, Begins, Finishes}
use Rattle.flash_view.proofs.Stepped.{ends_as, weaker}
use Rattle.file_calls.specs.Collecting.{RoomCut, CanTakePages, refusing, taking_pages}
use Rattle.file_calls.specs.Cuts.{JobCut}
use Rattle.file_calls.specs.Cleans.{Taken, IsFew, Turned, turn_most, NeedsNoTail}
use Rattle.file_calls.specs.Writings.{CanWritePart, CanHaveTail, HasTail, CanNeedTail, writing_part, having_tail, needing_tail}
use Rattle.file_calls.proofs.CleansBy.{step_leaves, taken_passes, taken_then}
use Rattle.file_calls.proofs.TurnsBy.{few_once, turned_once, turned_passes, turned_never, turned_so, turned_then}
use Rattle.file_calls.proofs.Going.{tidy_sound}
use Rattle.file_calls.proofs.Resizing.{written_size}
use Rattle.file_calls.proofs.PartRoom.{room_beside, room_behind, few_pages}

-- a page step that was done, as a call tells it
pub step_does : {N T : Type 0} {nor : NorOf N} {old new : View N nor} {step : Step T} {x : T} → Stepped stopped old new (Ok x) step → Stepped refusing old new (Ok x) step
step_does call = ends_as call (λ tells need. record { needs = need; cut = λ c cut. cut }) (λ tells need done. done)

-- ---- cuts in the steps of a job

-- in a collection before the others
pub room_cut : (g : Geometry) (after : List File) (was image : List ℕ) → RoomCut g was image → JobCut g after was image
room_cut g after was image cut = record { sound = cut.keeps.sound; table = inl cut.keeps.table; mends = cut.mends }

-- in a page step, after others that left the table as it was
pub step_cut : (g : Geometry) (after : List File) (was mid image : List ℕ) → IsTidy g mid → table_of g mid ≡ table_of g was → HasReserve g mid → StepCut g after mid image → JobCut g after was image
step_cut g after was mid image tidy table reserve cut = record {
  sound = sound-on g was mid image (tidy_sound g mid was tidy) cut.sound;
  table = ⊎_elim (λ (before : table_of g image ≡ table_of g mid). inl (before ∙ table)) (λ (new : table_of g image ≡ after). inr new) cut.table;
  mends = λ spare. reserve_mends g image (cut.reserve reserve);
}

-- in a step that leaves the table as it was
pub still_cut : (g : Geometry) (after : List File) (was image : List ℕ) → JobCut g (table_of g was) was image → JobCut g after was image
still_cut g after was image cut = record { sound = cut.sound; table = ⊎_elim (λ (before : table_of g image ≡ table_of g was). inl before) (λ (same : table_of g image ≡ table_of g was). inl same) cut.table; mends = cut.mends }

-- and where it went on from another image
pub later_cut : (g : Geometry) (after : List File) (was mid image : List ℕ) → IsTidy g mid → table_of g mid ≡ table_of g was → HasReserve g mid → JobCut g after mid image → JobCut g after was image
later_cut g after was mid image tidy table reserve cut = record {
  sound = sound-on g was mid image (tidy_sound g mid was tidy) cut.sound;
  table = ⊎_elim (λ (before : table_of g image ≡ table_of g mid). inl (before ∙ table)) (λ (new : table_of g image ≡ after). inr new) cut.table;
  mends = λ spare. cut.mends reserve;
}

-- ---- bytes inside a file

module _ (g : Geometry) (a : List ℕ) (id : ℕ) (known : Bool) (at : ℕ) (bytes : List ℕ) (f : File) (can : CanWritePart g a id known at bytes f) where
  room_inside : HasRoomFor g a 1 1
  room_inside = room_beside g a id f (written at bytes f) can.can.tidy.undamaged can.can.there refl can.can.room
      (let long = written_size at bytes f can.can.from in let from = can.can.from in omega (arith, long, from))

  two_pages : CanTakePages g 1 1 a
  two_pages = record { tidy = can.can.tidy; reserve = can.can.reserve; room = room_inside }

  pub overwrite_begins : Begins g a (taking_pages 1 1) (writing_part id known at bytes f)
  overwrite_begins = record { needs = two_pages; cut = λ c cut. room_cut g (put_file (written at bytes f) (table_of g a)) a c cut }

  pub overwrite_ends : at + length bytes ≤ length f.bytes → (mid : List ℕ) → MadeRoom g 1 1 a mid → Finishes g a mid (overwriting id at bytes f) (writing_part id known at bytes f)
  overwrite_ends inside mid made = record {
    needs = record { tidy = made.tidy; there = rw made.table can.can.there; some = can.can.some; one_page = ⊎_elim (λ (i : (at + length bytes ≤ length f.bytes) × (at % body g + length bytes ≤ body g)). i.1) (λ (e : (at ≡ length f.bytes) × (length bytes ≤ append_room g at)). let some = can.can.some in absurd (omega (arith, e.0, inside, some))) can.inside; inside = inside; had = made.ready.had };
    cut = λ c cut. step_cut g (put_file (written at bytes f) (table_of g a)) a mid c made.tidy made.table made.ready.reserve (rw made.table at cut);
    done = λ c ok done. record {
      tidy = done.step.tidy;
      table = rw made.table at done.step.table;
      reserve = done.step.reserve made.ready.reserve;
      ready = λ past. absurd (omega (arith, past, inside));
      kept = λ ready. done.kept (made.tails id ready);
    };
  }

-- ---- the tail is made ready

module _ (g : Geometry) (a : List ℕ) (id : ℕ) (can : CanHaveTail g a id) where
  pub tail_stays : JobCut g (table_of g a) a a
  tail_stays = record { sound = tidy_sound g a a can.can.tidy; table = inl refl; mends = λ reserve. reserve_mends g a reserve }

  pub tail_is_ready : IsTailReady g a id → HasTail g id a a
  tail_is_ready ready = record { done = record { tidy = can.can.tidy; table = refl; reserve = can.can.reserve }; ready = ready }

  pub tail_begins : Begins g a (taking_pages 1 1) (having_tail id)
  tail_begins = record { needs = can.can; cut = λ c cut. room_cut g (table_of g a) a c cut }

  pub tail_ends : (mid : List ℕ) → MadeRoom g 1 1 a mid → Finishes g a mid (readying id) (having_tail id)
  tail_ends mid made = record {
    needs = record { tidy = made.tidy; there = rw made.table can.there; had = made.ready.had };
    cut = λ c cut. step_cut g (table_of g a) a mid c made.tidy made.table made.ready.reserve (rw made.table at cut);
    done = λ c ok done. record { done = record { tidy = done.step.tidy; table = rw made.table at done.step.table; reserve = done.step.reserve made.ready.reserve }; ready = done.ready };
  }

-- nothing is to be made ready where it is known to be
pub known_ready : (g : Geometry) (a : List ℕ) (id : ℕ) (known : Bool) → CanNeedTail g a id known → known ≡ true → HasTail g id a a
known_ready g a id known can is = tail_is_ready g a id can.can (can.ready is)

-- no tail that is ready is told as another
pub not_ready : {P A : Type 0} (b : Bool) → (b ≡ true) ↔ P → P → b ≡ false → A
not_ready b told ready is = let bad : true ≡ false = sym (told.1 ready) ∙ is in absurd (cc)

-- so a tail that is told as not ready takes the one turn
pub tail_once : {P : Type 0} (b : Bool) → (b ≡ true) ↔ P → b ≡ false → IsFew P 0 1
tail_once b told is = record { most = omega arith; few = λ ready. not_ready b told ready is }

-- ---- bytes behind the end of a file

-- the data pages of a file and those of bytes behind it are those of the longer one, or one more
pages_join : (g : Geometry) (m n : ℕ) → data_pages g m + data_pages g n ≤ data_pages g (m + n) + 1
pages_join g m n =
    let big = (sizes g).page in
    let whole : body g * (m / body g) + m % body g ≡ m = div-add-mod m (body g) in
    let more = next_pages g (body g * (m / body g)) (m % body g + n) (mul-mod_right (body g) (m / body g)) in
    let first = next_pages g (body g * (m / body g)) (m % body g) (mul-mod_right (body g) (m / body g)) in
    let one = few_by_bytes g (m % body g) 1 (let low : m % body g < body g = omega (arith, big) in omega (arith, low)) in
    let long : body g * (m / body g) + (m % body g + n) ≡ m + n = omega (arith, whole) in
    let all : data_pages g (m + n) ≡ body g * (m / body g) / body g + data_pages g (m % body g + n) = ap (λ (k : ℕ). data_pages g k) (sym long) ∙ more in
    let own : data_pages g m ≡ body g * (m / body g) / body g + data_pages g (m % body g) = ap (λ (k : ℕ). data_pages g k) (sym whole) ∙ first in
    let mono = ceil-mono n (m % body g + n) (body g) (omega (arith, big)) (omega arith) in
    omega (arith, all, own, one, mono)

-- one page step adds sixteen data pages at most
room_pages : (g : Geometry) (size n : ℕ) → n ≤ append_room g size → data_pages g n ≤ 16
room_pages g size n fits = few_by_bytes g n 16 (⊎_elim
    (λ (none : size % body g ≡ 0).
    let room : n ≤ pages_most g (size / body g) * body g = rw (eq-eqb (size % body g) 0 none) at fits in
    let most : pages_most g (size / body g) ≤ 16 = ⊎_elim (λ (near : size / body g < head_slots g). rw (lt-ltb (size / body g) (head_slots g) near) (omega arith)) (λ (far : head_slots g ≤ size / body g). rw (le-ltb (size / body g) (head_slots g) far) (omega arith)) (cases_lt (size / body g) (head_slots g)) in
    let wide : pages_most g (size / body g) * body g ≤ 16 * body g = mul-le-mul_right (body g) most in
    omega (arith, room, wide))
    (λ (used : size % body g ≡ 0 → ⊥). let room : n ≤ body g - size % body g = rw (ne_eqb (size % body g) 0 used) at fits in omega (arith, room))
    (cases_eq (size % body g) 0))

has_by : (id : ℕ) (files : List File) (f : File) → file_of id files ≡ Some f → has_id id files ≡ true
unfolding has_id file_of
has_by id files f there = any-found (λ (x : File). x.id == id) files ∙ ap is_some there

-- the tail is had first, and then they are one part of a write to a file whose tail is known to be ready
module _ (g : Geometry) (a : List ℕ) (id : ℕ) (known : Bool) (at : ℕ) (bytes : List ℕ) (f : File) (can : CanWritePart g a id known at bytes f) where
  pub append_begins : Begins g a (needing_tail id known) (writing_part id known at bytes f)
  append_begins = record {
    needs = record { can = record { can = two_pages g a id known at bytes f can; there = has_by id (table_of g a) f can.can.there }; ready = can.ready };
    cut = λ c cut. still_cut g (put_file (written at bytes f) (table_of g a)) a c cut;
  }

  pub append_goes : (mid : List ℕ) → HasTail g id a mid → Finishes g a mid (writing_part id true at bytes f) (writing_part id known at bytes f)
  append_goes mid tail = record {
    needs = record {
      can = record { tidy = tail.done.tidy; reserve = tail.done.reserve; there = rw tail.done.table can.can.there; some = can.can.some; from = can.can.from; room = rw tail.done.table can.can.room };
      inside = can.inside;
      ready = λ is. tail.ready;
    };
    cut = λ c cut. later_cut g (put_file (written at bytes f) (table_of g a)) a mid c tail.done.tidy tail.done.table tail.done.reserve (rw tail.done.table at cut);
    done = λ c ok done. record {
      tidy = done.tidy;
      table = rw tail.done.table at done.table;
      reserve = done.reserve;
      ready = λ past. done.kept tail.ready;
      kept = λ ready. done.kept tail.ready;
    };
  }

  -- that is a turn more where it isn't ready
  pub append_few : at ≡ length f.bytes → (m n pages : ℕ) → IsFew (IsTailReady g a id) 0 m → IsFew (Unit {0}) pages n → IsFew (NeedsNoTail id (length f.bytes) (at + length bytes) g a) pages (n + m)
  append_few end m n pages first last =
      let one = last.few tt in
      record {
        most = let tail = first.most in omega (arith, one, tail);
        few = λ no_tail. ⊎_elim
            (λ (inside : at + length bytes ≤ length f.bytes). let some = can.can.some in absurd (omega (arith, inside, some, end)))
            (λ (ready : IsTailReady g a id). let none = first.few ready in omega (arith, one, none))
            no_tail;
      }

-- pages are had for it, and then the page step is taken
module _ (g : Geometry) (a : List ℕ) (id at : ℕ) (bytes : List ℕ) (f : File) (can : CanWritePart g a id true at bytes f) (end : at ≡ length f.bytes) where
  behind : length (written at bytes f).bytes ≡ length f.bytes + length bytes
  behind = let long = written_size at bytes f can.can.from in omega (arith, long, end)

  -- one page step adds them
  fits_room : length bytes ≤ append_room g at
  fits_room = ⊎_elim
      (λ (i : (at + length bytes ≤ length f.bytes) × (at % body g + length bytes ≤ body g)). let some = can.can.some in absurd (omega (arith, i.0, some, end)))
      (λ (e : (at ≡ length f.bytes) × (length bytes ≤ append_room g at)). e.1)
      can.inside

  room_for : HasRoomFor g a (index_needed g at) (data_pages g (length bytes))
  room_for = rw end (room_behind g a id f (written at bytes f) can.can.tidy.undamaged can.can.there refl can.can.room (let long = behind in let some = can.can.some in omega (arith, long, some))
      (data_pages g (length bytes)) (let more = pages_join g (length f.bytes) (length bytes) in subst (λ (n : ℕ). data_pages g (length f.bytes) + data_pages g (length bytes) ≤ data_pages g n + 1) (sym behind) more))

  few_after : data_pages g (length f.bytes + length bytes) ≤ usable g
  few_after = subst (λ (n : ℕ). data_pages g n ≤ usable g) behind (few_pages g (table_of g a) (written at bytes f) can.can.room)

  module _ (count pages : ℕ) (is : count ≡ index_needed g at) (pages_is : pages ≡ data_pages g (length bytes)) where
    pub pages_begin : Begins g a (taking_pages count pages) (writing_part id true at bytes f)
    pages_begin = record {
      needs = record { tidy = can.can.tidy; reserve = can.can.reserve; room = rw (is, pages_is) room_for };
      cut = λ c cut. room_cut g (put_file (written at bytes f) (table_of g a)) a c cut;
    }

    pub pages_end : (mid : List ℕ) → MadeRoom g count pages a mid → Finishes g a mid (appending id bytes f) (writing_part id true at bytes f)
    pages_end mid made = record {
      needs = record {
        tidy = made.tidy;
        there = rw made.table can.can.there;
        ready = made.tails id (can.ready refl);
        some = can.can.some;
        fits = rw end at fits_room;
        few = few_after;
        had = subst (λ (n : ℕ). are_had g mid (index_needed g (length f.bytes)) n ≡ true) pages_is (subst (λ (n : ℕ). are_had g mid n pages ≡ true) (is ∙ ap (index_needed g) end) made.ready.had);
      };
      cut = λ c cut. step_cut g (put_file (written at bytes f) (table_of g a)) a mid c made.tidy made.table made.ready.reserve (rw (made.table, sym end) at cut);
      done = λ c ok done. record {
        tidy = done.step.tidy;
        table = done.step.table ∙ rw (made.table, sym end) refl;
        reserve = done.step.reserve made.ready.reserve;
        ready = λ past. done.ready;
        kept = λ ready. done.ready;
      };
    }

-- an append needs two index pages at most
few_index : (two : Bool) → (if two then 2 else 1) ≤ 2
few_index true = omega arith
few_index false = omega arith

needed_few : (g : Geometry) (n : ℕ) → index_needed g n ≤ 2
needed_few g n = few_index ((n % body g == 0) && nat_le (head_slots g) (n / body g) && ((n / body g - head_slots g) % span_slots g == 0))

pages_few : (g : Geometry) (at count : ℕ) → count ≡ index_needed g at → count ≤ 2
pages_few g at count is = let few = needed_few g at in omega (arith, few, is)

-- the pages of an append are its parts, sixteen or fewer
paged_few : (g : Geometry) (was : List ℕ) (id at : ℕ) (bytes : List ℕ) (f : File) (pages : ℕ) → pages ≡ data_pages g (length bytes) → length bytes ≤ append_room g at → CanWritePart g was id true at bytes f →
    (1 ≤ pages) × (pages ≤ 16) × IsFew (Unit {0}) (data_pages g (length bytes)) pages
paged_few g was id at bytes f pages is room can =
    let some = some_pages g (length bytes) can.can.some in
    let most = room_pages g at (length bytes) room in
    (omega (arith, some, is), omega (arith, most, is), few_once (omega (arith, is)))

-- over a view
module _ {N : Type 0} {nor : NorOf N} {old new : View N nor} {r : Result (Unit {0}) FsErr} (id at : ℕ) (bytes : List ℕ) (f : File) (end : at ≡ length f.bytes) (count pages : ℕ) (is : count ≡ index_needed old.geometry at) (pages_is : pages ≡ data_pages old.geometry (length bytes)) (room : length bytes ≤ append_room old.geometry at) where
  -- no pages were had
  pub paged_not : {e : FsErr} → Taken refusing count pages 0 old new (Err e) (taking_pages count pages) → r ≡ Err e → Turned refusing (λ g was. Unit {0}) (data_pages old.geometry (length bytes)) old new r (writing_part id true at bytes f)
  paged_not call same = turned_once pages (pages_few old.geometry at count is) (omega arith) (omega arith) (λ tells can. paged_few old.geometry (nor.bytes old.nor.now) id at bytes f pages pages_is room can) (taken_passes call same (λ tells can. pages_begin old.geometry (nor.bytes old.nor.now) id at bytes f can end count pages is pages_is))

  -- .. or they were, and then the page step was taken
  pub paged_then : {mid : View N nor} {x : Unit {0}} → nor.device_writes new.nor.now ≤ nor.device_writes mid.nor.now + turn_most pages → Taken refusing count pages 0 old mid (Ok x) (taking_pages count pages) → Stepped refusing mid new r (appending id bytes f) → Turned refusing (λ g was. Unit {0}) (data_pages old.geometry (length bytes)) old new r (writing_part id true at bytes f)
  paged_then {mid} few call next = turned_once pages (pages_few old.geometry at count is) (omega arith) (omega arith) (λ tells can. paged_few old.geometry (nor.bytes old.nor.now) id at bytes f pages pages_is room can)
      (taken_then (λ g was image cut. step_leaves cut) few call next
      (λ tells can. pages_begin old.geometry (nor.bytes old.nor.now) id at bytes f can end count pages is pages_is)
      (λ tells can made. pages_end old.geometry (nor.bytes old.nor.now) id at bytes f can end count pages is pages_is (nor.bytes mid.nor.now) made))

module _ {N : Type 0} {nor : NorOf N} {old new : View N nor} {r : Result (Unit {0}) FsErr} (id : ℕ) (known : Bool) (at : ℕ) (bytes : List ℕ) (f : File) where
  -- the tail was not had
  pub append_not : {e : FsErr} → Turned refusing (λ g was. IsTailReady g was id) 0 old new (Err e) (needing_tail id known) → r ≡ Err e → Turned refusing (NeedsNoTail id (length f.bytes) (at + length bytes)) (data_pages old.geometry (length bytes)) old new r (writing_part id known at bytes f)
  append_not call same = turned_passes call same (λ tells can. append_begins old.geometry (nor.bytes old.nor.now) id known at bytes f can)
      (λ tells can n few. let one = few.most in let some = some_pages old.geometry (length bytes) can.can.some in record { most = omega (arith, one); few = λ no_tail. omega (arith, one, some) })

  -- .. or it was, and then they were written
  pub append_then : {mid : View N nor} {x : Unit {0}} → at ≡ length f.bytes → Turned refusing (λ g was. IsTailReady g was id) 0 old mid (Ok x) (needing_tail id known) → Turned refusing (λ g was. Unit {0}) (data_pages mid.geometry (length bytes)) mid new r (writing_part id true at bytes f) →
      Turned refusing (NeedsNoTail id (length f.bytes) (at + length bytes)) (data_pages old.geometry (length bytes)) old new r (writing_part id known at bytes f)
  append_then {mid} end call next = turned_then call (turned_so (ap (λ (k : Geometry). data_pages k (length bytes)) call.steps.framed.same.geometry) next)
      (λ tells can. append_begins old.geometry (nor.bytes old.nor.now) id known at bytes f can)
      (λ tells can tail. append_goes old.geometry (nor.bytes old.nor.now) id known at bytes f can (nor.bytes mid.nor.now) tail)
      (λ tells can tail m n first last. append_few old.geometry (nor.bytes old.nor.now) id known at bytes f can end m n (data_pages old.geometry (length bytes)) first last)

-- ---- a part of a write

-- a step that nothing allows begins no other
pub no_step : {N : Type 0} {nor : NorOf N} {E : Type 0} {errors : Errors E} {old new : View N nor} {r : Result (Unit {0}) E} {last whole : Step (Unit {0})} → Stepped errors old new r last →
    (nor.tells old.nor.now → whole.needs old.geometry (nor.bytes old.nor.now) → ⊥) → Stepped errors old new r whole
no_step call never = weaker call (λ tells need. absurd (never tells need))

-- bytes that begin inside a file end there where they are one part of a write
pub part_inside : {N : Type 0} {nor : NorOf N} {old new : View N nor} {r : Result (Unit {0}) FsErr} (id : ℕ) (known : Bool) (at : ℕ) (bytes : List ℕ) (f : File) → at < length f.bytes →
    ((e : File) → at + length bytes ≤ length e.bytes → Taken refusing 1 1 12 old new r (writing_part id known at bytes e)) → Turned refusing (NeedsNoTail id (length f.bytes) (at + length bytes)) (data_pages old.geometry (length bytes)) old new r (writing_part id known at bytes f)
part_inside {old = old} id known at bytes f low call = ⊎_elim
    (λ (past : length f.bytes < at + length bytes).
    let some : File = record f { bytes = replicate (at + length bytes) 0 } in
    let never : (g : Geometry) (was : List ℕ) → CanWritePart g was id known at bytes f → ⊥ = λ g was can. ⊎_elim (λ (inside : (at + length bytes ≤ length f.bytes) × (at % body g + length bytes ≤ body g)). omega (arith, inside.0, past)) (λ (end : (at ≡ length f.bytes) × (length bytes ≤ append_room g at)). omega (arith, end.0, low)) can.inside in
    turned_never (no_step (call some (let e = length-replicate {A = ℕ} (at + length bytes) 0 in omega (arith, e))).steps (λ tells can. never _ _ can)) (λ tells can. never _ _ can))
    (λ (inside : at + length bytes ≤ length f.bytes). turned_once 1 (omega arith) (omega arith) (omega arith) (λ tells can. (omega arith, omega arith, few_once (some_pages old.geometry (length bytes) can.can.some))) (call f inside))
    (cases_lt (length f.bytes) (at + length bytes))

-- and others begin at its end
pub part_behind : {N : Type 0} {nor : NorOf N} {old new : View N nor} {r : Result (Unit {0}) FsErr} (id : ℕ) (known : Bool) (at size : ℕ) (bytes : List ℕ) (f : File) → size ≤ at → size ≡ length f.bytes →
    Turned refusing (NeedsNoTail id (length f.bytes) (size + length bytes)) (data_pages old.geometry (length bytes)) old new r (writing_part id known size bytes f) → Turned refusing (NeedsNoTail id (length f.bytes) (at + length bytes)) (data_pages old.geometry (length bytes)) old new r (writing_part id known at bytes f)
part_behind {nor = nor} {old = old} {new = new} {r = r} id known at size bytes f high is call = ⊎_elim
    (λ (past : size < at).
    let never : (g : Geometry) (was : List ℕ) → CanWritePart g was id known at bytes f → ⊥ = λ g was can. let from = can.can.from in omega (arith, from, past, is) in
    turned_never (no_step call.steps (λ tells can. never _ _ can)) (λ tells can. never _ _ can))
    (λ (within : at ≤ size). let same : size ≡ at = omega (arith, high, within) in subst (λ (n : ℕ). Turned {nor = nor} refusing (NeedsNoTail id (length f.bytes) (n + length bytes)) (data_pages old.geometry (length bytes)) old new r (writing_part id known n bytes f)) same call)
    (cases_lt size at)
