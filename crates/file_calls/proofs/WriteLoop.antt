-- A write, one part after another.
use Rattle.std.proofs.Common.{◌≡◌, ℕ, zero, suc, ◌+◌, ◌-◌, ◌*◌, ◌/◌, ◌%◌, ◌<◌, ◌≤◌, ◌⊎◌, ◌^◌, ◌==◌, ◌||◌, ⊎_elim, inl, inr, List, ◌∷◌, ◌++◌, length, take, drop, replicate, Bool, true, false, refl, sym, ◌∙◌, ap, subst, arith}
use Rattle.std.specs.Prelude.{Some, None, Result, Ok, Err, filter, slice_range}
use Rattle.std.specs.List.{range_with_len}
use Rattle.std.specs.Option.{option_map}
use Rattle.std.proofs.Math.Nat.{div-add-mod}
use Rattle.std.proofs.lemmas.Bool.{cases_Bool, cases_lt, cases_eq, eq-eqb, ne_eqb}
use Rattle.std.proofs.lemmas.List.{length-replicate, length-map, length-take-le, take-append-drop, append-nil, length-drop}
use Rattle.nor_core.specs.declared.state.NorState.{Ghosts as NorOf}
use Rattle.geometry.specs.declared.geometry.Geometry.{Geometry}
use Rattle.geometry.specs.Numbers.{body, ceil}
use Rattle.table_model.specs.declared.error.FsErr.{FsErr}
use Rattle.table_model.specs.declared.error.FsErr.TheVariants.{DeviceFault, Damaged}
use Rattle.table_model.specs.declared.reply.Stat.{Stat}
use Rattle.table_model.specs.Table.{File, file_of, put_file}
use Rattle.table_model.specs.Files.{written, stat_of}
use Rattle.table_model.specs.Room.{has_room, data_pages}
use Rattle.image_model.specs.Within.{sizes}
use Rattle.renew_laws.proofs.Appended.{pages_of}
use Rattle.table_model.specs.Steps.{part_ends, file_steps, written_up_to}
use Rattle.table_model.specs.Window.{IsAmong}
use Rattle.file_write.specs.Appends.{append_room}
use Rattle.image_model.specs.Tables.{table_of}
use Rattle.image_model.specs.Tidy.{IsTidy, HasReserve}
use Rattle.image_laws.proofs.Sounding.{sound-on}
use Rattle.room_laws.proofs.Staying.{reserve_mends}
use Rattle.call_model.specs.Parts.{IsPartEnd}
use Rattle.call_model.proofs.Parts.{end_passes, steps-among, whole-table, written_next, put_twice}
use Rattle.call_model.proofs.Tables.{file_of-put, file_of-id}
use Rattle.flash_view.specs.declared.view.View.{View}
use Rattle.flash_view.specs.Same.{OnlyLooks}
use Rattle.flash_view.specs.Steps.{Step, Finishes}
use Rattle.flash_view.proofs.Stepped.{stepped_then}
use Rattle.file_calls.specs.Collecting.{MayStop, refusing}
use Rattle.file_calls.specs.Cleans.{IsFew, Turned, part_count, NeedsNoTail}
use Rattle.file_calls.specs.Recorded.{MayMiss, TellsRecord}
use Rattle.file_calls.specs.Cuts.{JobCut}
use Rattle.renew_laws.specs.Tails.{IsTailReady}
use Rattle.file_calls.specs.Writings.{CanWrite, CanWritePart, WriteDone, WriteCut, writing_part}
use Rattle.file_calls.proofs.Going.{is_first, tidy_sound}
use Rattle.file_calls.proofs.Resizing.{put_again, written_size}
use Rattle.file_calls.proofs.PartEnds.{page_ends}
use Rattle.file_calls.proofs.PartRoom.{less_room, few_bytes}
use Rattle.file_calls.proofs.TurnsBy.{few_more, turned_never, turned_so, turned_then}

-- ---- what is written so far

-- Of a write the bytes before a place are written. The tail is ready where that is behind the old end, and where it was ready.
pub record WrittenTo (g : Geometry) (id at e : ℕ) (bytes : List ℕ) (f : File) (was now : List ℕ) : Type 0 where
  pub tidy : IsTidy g now
  pub reserve : HasReserve g now
  pub table : table_of g now ≡ written_up_to at bytes f (table_of g was) e
  pub among : IsAmong (table_of g now) (table_of g was ∷ file_steps g at bytes f (table_of g was))
  pub ready : length f.bytes < e → IsTailReady g now id
  pub kept : IsTailReady g was id → IsTailReady g now id

abbrev pub writing_to : (id at e : ℕ) → List ℕ → File → Step (Unit {0})
writing_to id at e bytes f = record {
  needs = λ g was. CanWrite g was id at bytes f;
  cut = λ g was image. WriteCut g at bytes f was image;
  done = λ g was now ok. WrittenTo g id at e bytes f was now;
}

-- a step behind the first table
step_among : (t u : List File) (us : List (List File)) → IsAmong t us → IsAmong t (u ∷ us)
unfolding IsAmong
step_among t u us among = inr among

-- nothing is written at first
written_none : (at : ℕ) (bytes : List ℕ) (f : File) → written at (take (at - at) bytes) f ≡ f
written_none at bytes f =
    let none : at - at ≡ 0 = omega arith in
    let here : at + 0 ≡ at = omega arith in
    rw (none, here) (ap (λ (l : List ℕ). record f { bytes = l }) (ap (λ (l : List ℕ). l ++ drop at f.bytes) (append-nil (take at f.bytes)) ∙ take-append-drop at f.bytes))

module _ (g : Geometry) (a : List ℕ) (id at : ℕ) (bytes : List ℕ) (f : File) (can : CanWrite g a id at bytes f) where
  pub write_stays : WriteCut g at bytes f a a
  write_stays = record { sound = tidy_sound g a a can.tidy; table = is_first (table_of g a) (table_of g a) (file_steps g at bytes f (table_of g a)) refl; mends = λ reserve. reserve_mends g a reserve }

  pub write_starts : WrittenTo g id at at bytes f a a
  write_starts = record {
    tidy = can.tidy;
    reserve = can.reserve;
    table = sym (ap (λ (x : File). put_file x (table_of g a)) (written_none at bytes f) ∙ put_again g a id f can.tidy.undamaged can.there);
    among = is_first (table_of g a) (table_of g a) (file_steps g at bytes f (table_of g a)) refl;
    ready = λ past. absurd (let from = can.from in omega (arith, past, from));
    kept = λ ready. ready;
  }

  pub write_ends : (e : ℕ) → e ≡ at + length bytes → (now : List ℕ) → WrittenTo g id at e bytes f a now → WriteDone g id at bytes f a now
  write_ends e is now done = record {
    tidy = done.tidy;
    table = done.table ∙ ap (written_up_to at bytes f (table_of g a)) is ∙ whole-table at bytes f (table_of g a);
    reserve = done.reserve;
    ready = λ past. done.ready (omega (arith, is, past));
    kept = λ ready. done.kept ready;
  }

  -- so few bytes that a number of 32 bits tells where they end
  pub write_few : at + length bytes < 2 ^ 32
  write_few = let few = few_bytes g (table_of g a) (written at bytes f) can.room in let long = written_size at bytes f can.from in omega (arith, few, long)

-- the file with the bytes before a place
abbrev so_far : (at e : ℕ) → List ℕ → File → File
so_far at e bytes f = written at (take (e - at) bytes) f

long_so_far : (at e : ℕ) (bytes : List ℕ) (f : File) → at ≤ length f.bytes → at ≤ e → e ≤ at + length bytes → length (so_far at e bytes f).bytes ≡ e + (length f.bytes - e)
long_so_far at e bytes f from low high =
    let long = written_size at (take (e - at) bytes) f from in
    let part = length-take-le (e - at) bytes (omega (arith, low, high)) in
    omega (arith, long, part, low)

-- A part of a write: from one place to another, with these bytes.
pub record IsPart (page room size at len from to : ℕ) : Type 0 where
  pub low : at ≤ from
  pub some : from < to
  pub within : to ≤ at + len
  pub one_page : from < size → from % page + (to - from) ≤ page
  pub fits : size ≤ from → to - from ≤ room
  pub old : from < size → to ≤ size
  pub is_end : IsPartEnd page size at len to

pub is_part : (page room size at len from to end : ℕ) → at ≤ from → end ≡ at + len → from < to → to ≤ end → (from < size → from % page + (to - from) ≤ page) → (size ≤ from → to - from ≤ room) → (from < size → to ≤ size) → ((start count : ℕ) → start ≤ from → end ≡ start + count → IsPartEnd page size start count to) → IsPart page room size at len from to
is_part page room size at len from to end low end_is some within one_page fits old is_end = record { low = low; some = some; within = omega (arith, end_is, within); one_page = one_page; fits = fits; old = old; is_end = is_end at len low end_is }

-- ---- how many parts there are

-- the ends of parts before a place
abbrev pub ends_to : (page size at len e : ℕ) → List ℕ
ends_to page size at len e = filter (λ x. (x % page == 0) || (x == size) || (x == at + len)) (range_with_len (at + 1) (e - at))

-- those that pass of the first numbers are among those of more
chosen_less : (p : ℕ → Bool) (a n m : ℕ) → n ≤ m → length (filter p (range_with_len a n)) ≤ length (filter p (range_with_len a m))
chosen_less p a zero m less = omega arith
chosen_less p a (suc n) zero less = absurd (omega (arith, less))
chosen_less p a (suc n) (suc m) less =
    let rest = chosen_less p (a + 1) n m (omega (arith, less)) in
    ⊎_elim
    (λ (yes : p a ≡ true). rw yes (omega (arith, rest)))
    (λ (no : p a ≡ false). rw no rest)
    (cases_Bool (p a))

-- and they are fewer where one of the others passes
chosen_more : (p : ℕ → Bool) (a n m e : ℕ) → a + n ≤ e → e < a + m → p e ≡ true → length (filter p (range_with_len a n)) + 1 ≤ length (filter p (range_with_len a m))
chosen_more p a n zero e low high passes = absurd (omega (arith, low, high))
chosen_more p a zero (suc m) e low high passes = ⊎_elim
    (λ (here : a ≡ e). let now : p a ≡ true = rw here passes in rw now (omega arith))
    (λ (there : a ≡ e → ⊥).
    let rest = chosen_more p (a + 1) zero m e (omega (arith, there, low)) (omega (arith, high)) passes in
    ⊎_elim
    (λ (yes : p a ≡ true). rw yes (omega arith))
    (λ (no : p a ≡ false). rw no rest)
    (cases_Bool (p a)))
    (cases_eq a e)
chosen_more p a (suc n) (suc m) e low high passes =
    let rest = chosen_more p (a + 1) n m e (omega (arith, low)) (omega (arith, high)) passes in
    ⊎_elim
    (λ (yes : p a ≡ true). rw yes (omega (arith, rest)))
    (λ (no : p a ≡ false). rw no rest)
    (cases_Bool (p a))

one_more : (page size at len from to : ℕ) → at ≤ from → from < to → ((to % page == 0) || (to == size) || (to == at + len)) ≡ true → length (ends_to page size at len from) + 1 ≤ length (ends_to page size at len to)
one_more page size at len from to low some passes =
    chosen_more (λ x. (x % page == 0) || (x == size) || (x == at + len)) (at + 1) (from - at) (to - at) to (omega (arith, low, some)) (omega (arith, low, some)) passes

-- each end of a page is one
page_passes : (page size at len to : ℕ) → to % page ≡ 0 → ((to % page == 0) || (to == size) || (to == at + len)) ≡ true
page_passes page size at len to ends = rw (eq-eqb (to % page) 0 ends) refl

ends_pages : (page size at len from k : ℕ) → 0 < page → at ≤ from → from % page ≡ 0 → length (ends_to page size at len from) + k ≤ length (ends_to page size at len (from + k * page))
ends_pages page size at len from zero big low whole =
    let here : from ≡ from + 0 * page = omega arith in
    let same : length (ends_to page size at len from) ≡ length (ends_to page size at len (from + 0 * page)) = ap (λ (e : ℕ). length (ends_to page size at len e)) here in
    omega (arith, same)
ends_pages page size at len from (suc k) big low whole =
    let whole_step : (from + (page - 0)) % page ≡ 0 = subst (λ (n : ℕ). (from + (page - n)) % page ≡ 0) whole (page_ends page from big) in
    let same_step : from + page ≡ from + (page - 0) = omega arith in
    let next : (from + page) % page ≡ 0 = ap (λ (n : ℕ). n % page) same_step ∙ whole_step in
    let one = one_more page size at len from (from + page) low (omega (arith, big)) (page_passes page size at len (from + page) next) in
    let rest = ends_pages page size at len (from + page) k big (omega (arith, low)) next in
    let there : from + page + k * page ≡ from + suc k * page = omega arith in
    let same : length (ends_to page size at len (from + page + k * page)) ≡ length (ends_to page size at len (from + suc k * page)) = ap (λ (e : ℕ). length (ends_to page size at len e)) there in
    omega (arith, one, rest, same)

-- a part that begins a page, or is no longer than one, has as many ends as data pages
ends_all : (page size at len from to : ℕ) → 0 < page → at ≤ from → from < to → ((to % page == 0) || (to == size) || (to == at + len)) ≡ true → (from % page ≡ 0) ⊎ (to - from ≤ page) →
    length (ends_to page size at len from) + ceil (to - from) page ≤ length (ends_to page size at len to)
ends_all page size at len from to big low some passes (inr short) =
    let one : ceil (to - from) page ≡ 1 = ap (λ (n : ℕ). ceil n page) (let none : to - from ≡ page * 0 + (to - from) = omega arith in none) ∙ pages_of 0 (to - from) page (omega (arith, some)) short in
    let more = one_more page size at len from to low some passes in
    omega (arith, one, more)
ends_all page size at len from to big low some passes (inl whole) =
    let k = (to - from - 1) / page in
    let r = (to - from - 1) % page + 1 in
    let split : page * k + (to - from - 1) % page ≡ to - from - 1 = div-add-mod (to - from - 1) page in
    let less : (to - from - 1) % page < page = omega (arith, big) in
    let turned : k * page ≡ page * k = omega arith in
    let count : ceil (to - from) page ≡ k + 1 = ap (λ (n : ℕ). ceil n page) (let long : to - from ≡ page * k + r = omega (arith, split, some) in long) ∙ pages_of k r page (omega arith) (omega (arith, less)) in
    let so_far = ends_pages page size at len from k big low whole in
    let last = one_more page size at len (from + k * page) to (omega (arith, low)) (omega (arith, split, turned, some)) passes in
    omega (arith, count, so_far, last)

ends_more : (g : Geometry) (size at len from to : ℕ) → IsPart (body g) (append_room g from) size at len from to → length (ends_to (body g) size at len from) + data_pages g (to - from) ≤ length (ends_to (body g) size at len to)
ends_more g size at len from to part =
    ends_all (body g) size at len from to (omega (arith, (sizes g).page)) part.low part.some (end_passes (body g) size at len to part.is_end.ends) (⊎_elim
    (λ (inner : from < size). let one = part.one_page inner in inr (omega (arith, one)))
    (λ (end : size ≤ from). ⊎_elim
    (λ (whole : from % body g ≡ 0). inl whole)
    (λ (used : from % body g ≡ 0 → ⊥). let room : to - from ≤ body g - from % body g = rw (ne_eqb (from % body g) 0 used) at (part.fits end) in inr (omega (arith, room)))
    (cases_eq (from % body g) 0))
    (cases_lt from size))

-- those before a place are among all
pub few_part : (g : Geometry) (a : List ℕ) (id page size at len to n : ℕ) → to ≤ at + len → IsFew (NeedsNoTail id size to g a) (length (ends_to page size at len to)) n → IsFew (NeedsNoTail id size (at + len) g a) (length (part_ends page size at len)) n
few_part g a id page size at len to n within few =
    let parts = chosen_less (λ x. (x % page == 0) || (x == size) || (x == at + len)) (at + 1) (to - at) len (omega (arith, within)) in
    few_more (NeedsNoTail id size to g a) (NeedsNoTail id size (at + len) g a) (length (ends_to page size at len to)) (length (part_ends page size at len))
    (λ no_tail. ⊎_elim (λ (inside : at + len ≤ size). inl (omega (arith, inside, within))) (λ (ready : IsTailReady g a id). inr ready) no_tail) parts n few

-- a write publishes a step for each
pub steps_count : (g : Geometry) (at : ℕ) (bytes : List ℕ) (f : File) (files : List File) → length (file_steps g at bytes f files) ≡ part_count g (length f.bytes) at (length bytes)
unfolding file_steps
steps_count g at bytes f files = length-map (part_ends (body g) (length f.bytes) at (length bytes)) (written_up_to at bytes f files)

module _ (g : Geometry) (a mid : List ℕ) (id at from to : ℕ) (known : Bool) (bytes : List ℕ) (f : File) (can : CanWrite g a id at bytes f) (part : IsPart (body g) (append_room g from) (length f.bytes) at (length bytes) from to) (done : WrittenTo g id at from bytes f a mid)
    (sure : known ≡ true → length f.bytes < from) where
  abbrev bytes_of : List ℕ
  bytes_of = slice_range bytes (from - at) (to - at)

  count : length bytes_of ≡ to - from
  count = let low = part.low in let some = part.some in let within = part.within in
      let rest = length-drop (from - at) bytes in
      let all = length-take-le ((to - at) - (from - at)) (drop (from - at) bytes) (omega (arith, rest, low, some, within)) in omega (arith, all, low, some)

  long_before : length (so_far at from bytes f).bytes ≡ from + (length f.bytes - from)
  long_before = let some = part.some in let within = part.within in long_so_far at from bytes f can.from part.low (omega (arith, some, within))

  -- the bytes after it
  joined : written from bytes_of (so_far at from bytes f) ≡ so_far at to bytes f
  joined =
      let low = part.low in let some = part.some in
      let same : (to - at) - (from - at) ≡ to - from = omega (arith, low, some) in
      rw same (written_next at from to bytes f can.from part.low (omega (arith, some)) part.within)

  after_is : put_file (written from bytes_of (so_far at from bytes f)) (table_of g mid) ≡ written_up_to at bytes f (table_of g a) to
  after_is = ap (λ (t : List File). put_file (written from bytes_of (so_far at from bytes f)) t) done.table
      ∙ put_twice (written from bytes_of (so_far at from bytes f)) (so_far at from bytes f) (table_of g a) refl
      ∙ ap (λ (x : File). put_file x (table_of g a)) joined

  room_after : has_room g (written_up_to at bytes f (table_of g a) to) ≡ true
  room_after = less_room g a id f (written at bytes f) can.tidy.undamaged can.there refl can.room (so_far at to bytes f) refl
      (let low = part.low in let some = part.some in let within = part.within in
      let here = long_so_far at to bytes f can.from (omega (arith, low, some)) part.within in
      let whole = written_size at bytes f can.from in
      omega (arith, here, whole, within))

  there_now : file_of id (table_of g mid) ≡ Some (so_far at from bytes f)
  there_now =
      let is : f.id ≡ id = file_of-id id (table_of g a) f can.there in
      ap (λ (t : List File). file_of id t) done.table ∙ subst (λ (n : ℕ). file_of n (written_up_to at bytes f (table_of g a) from) ≡ Some (so_far at from bytes f)) is (file_of-put (so_far at from bytes f) (table_of g a))

  can_part : CanWritePart g mid id known from bytes_of (so_far at from bytes f)
  can_part =
      let n = count in
      let long = long_before in
      let old = part.old in
      let page = part.one_page in
      let fits = part.fits in
      record {
        can = record { tidy = done.tidy; reserve = done.reserve; there = there_now; some = let some = part.some in omega (arith, n, some); from = omega (arith, long); room = ap (has_room g) after_is ∙ room_after };
        inside = ⊎_elim
            (λ (inner : from < length f.bytes). let within = old inner in let some = part.some in let one = page inner in inl (omega (arith, n, long, within, some), omega (arith, n, one)))
            (λ (end : length f.bytes ≤ from). let all = fits end in inr (omega (arith, long, end), omega (arith, n, all)))
            (cases_lt from (length f.bytes));
        ready = λ is. done.ready (sure is);
      }

  after_among : IsAmong (written_up_to at bytes f (table_of g a) to) (table_of g a ∷ file_steps g at bytes f (table_of g a))
  after_among = step_among (written_up_to at bytes f (table_of g a) to) (table_of g a) (file_steps g at bytes f (table_of g a)) (steps-among g at bytes f (table_of g a) to part.is_end)

  part_cut : (c : List ℕ) → JobCut g (put_file (written from bytes_of (so_far at from bytes f)) (table_of g mid)) mid c → WriteCut g at bytes f a c
  part_cut c cut = record {
    sound = sound-on g a mid c (tidy_sound g mid a done.tidy) cut.sound;
    table = ⊎_elim
        (λ (before : table_of g c ≡ table_of g mid). subst (λ (t : List File). IsAmong t (table_of g a ∷ file_steps g at bytes f (table_of g a))) (sym before) done.among)
        (λ (new : table_of g c ≡ put_file (written from bytes_of (so_far at from bytes f)) (table_of g mid)). subst (λ (t : List File). IsAmong t (table_of g a ∷ file_steps g at bytes f (table_of g a))) (sym (new ∙ after_is)) after_among)
        cut.table;
    mends = λ reserve. cut.mends done.reserve;
  }

  pub part_goes : Finishes g a mid (writing_part id known from bytes_of (so_far at from bytes f)) (writing_to id at to bytes f)
  part_goes = record {
    needs = can_part;
    cut = part_cut;
    done = λ c ok now. record {
      tidy = now.tidy;
      reserve = now.reserve;
      table = now.table ∙ after_is;
      among = subst (λ (t : List File). IsAmong t (table_of g a ∷ file_steps g at bytes f (table_of g a))) (sym (now.table ∙ after_is)) after_among;
      ready = λ past.
          let n = count in
          let long = long_before in
          let some = part.some in
          ⊎_elim
          (λ (inner : from < length f.bytes). let within = part.old inner in absurd (omega (arith, within, past)))
          (λ (end : length f.bytes ≤ from). now.ready (omega (arith, n, long, end, some)))
          (cases_lt from (length f.bytes));
      kept = λ ready. now.kept (done.kept ready);
    };
  }

  -- the turns that it takes are those of one part more
  pub part_few : (m n : ℕ) → IsFew (NeedsNoTail id (length f.bytes) from g a) (length (ends_to (body g) (length f.bytes) at (length bytes) from)) m →
      IsFew (NeedsNoTail id (length (so_far at from bytes f).bytes) (from + length bytes_of) g mid) (data_pages g (length bytes_of)) n → IsFew (NeedsNoTail id (length f.bytes) to g a) (length (ends_to (body g) (length f.bytes) at (length bytes) to)) (n + m)
  part_few m n first last =
      let pages : data_pages g (length bytes_of) ≡ data_pages g (to - from) = ap (data_pages g) count in
      let all = ends_more g (length f.bytes) at (length bytes) from to part in
      let more : length (ends_to (body g) (length f.bytes) at (length bytes) from) + data_pages g (length bytes_of) ≤ length (ends_to (body g) (length f.bytes) at (length bytes) to) = omega (arith, all, pages) in
      let some = part.some in
      let low = first.most in
      let high = last.most in
      let count_is = count in
      let long = long_before in
      ⊎_elim
      (λ (past : length f.bytes < from).
      let one = last.few (inr (done.ready past)) in
      record {
        most = omega (arith, more, low, one);
        few = λ no_tail. ⊎_elim
            (λ (inside : to ≤ length f.bytes). absurd (omega (arith, inside, past, some)))
            (λ (ready : IsTailReady g a id). let none = first.few (inr ready) in omega (arith, more, none, one))
            no_tail;
      })
      (λ (inner : from ≤ length f.bytes).
      let none = first.few (inl inner) in
      record {
        most = omega (arith, more, none, high);
        few = λ no_tail. ⊎_elim
            (λ (inside : to ≤ length f.bytes). let one = last.few (inl (omega (arith, inside, count_is, long, some))) in omega (arith, more, none, one))
            (λ (ready : IsTailReady g a id). let one = last.few (inr (done.kept ready)) in omega (arith, more, none, one))
            no_tail;
      })
      (cases_lt (length f.bytes) from)

-- ---- over a device

module _ {N : Type 0} {nor : NorOf N} {old mid new : View N nor} {r : Result (Unit {0}) FsErr} (id at from to size most : ℕ) (known : Bool) (bytes : List ℕ) (f : File) where
  -- a part that nothing allows, since no such write is allowed
  no_turn : (nor.tells old.nor.now → CanWrite old.geometry (nor.bytes old.nor.now) id at bytes f → ⊥) → Turned refusing (NeedsNoTail id (length f.bytes) from) (length (ends_to (body old.geometry) (length f.bytes) at (length bytes) from)) old mid (Ok tt) (writing_to id at from bytes f) →
      ((e : File) → most ≡ length e.bytes → Turned refusing (NeedsNoTail id (length e.bytes) (from + length (slice_range bytes (from - at) (to - at)))) (data_pages mid.geometry (length (slice_range bytes (from - at) (to - at)))) mid new r (writing_part id known from (slice_range bytes (from - at) (to - at)) e)) → Turned refusing (NeedsNoTail id (length f.bytes) to) (length (ends_to (body old.geometry) (length f.bytes) at (length bytes) to)) old new r (writing_to id at to bytes f)
  no_turn never first next =
      let some : File = record f { bytes = replicate most 0 } in
      turned_never (stepped_then first.steps (next some (sym (length-replicate {A = ℕ} most 0))).steps (λ tells can. record { needs = can; cut = λ c cut. cut }) (λ tells can done. absurd (never tells can))) never

  -- a part more of a write
  pub write_turn : IsPart (body mid.geometry) (append_room mid.geometry from) size at (length bytes) from to → most ≡ from + (size - from) → (nor.tells old.nor.now → CanWrite old.geometry (nor.bytes old.nor.now) id at bytes f → size ≡ length f.bytes) → (known ≡ true → size < from) →
      Turned refusing (NeedsNoTail id (length f.bytes) from) (length (ends_to (body old.geometry) (length f.bytes) at (length bytes) from)) old mid (Ok tt) (writing_to id at from bytes f) →
      ((e : File) → most ≡ length e.bytes → Turned refusing (NeedsNoTail id (length e.bytes) (from + length (slice_range bytes (from - at) (to - at)))) (data_pages mid.geometry (length (slice_range bytes (from - at) (to - at)))) mid new r (writing_part id known from (slice_range bytes (from - at) (to - at)) e)) →
      Turned refusing (NeedsNoTail id (length f.bytes) to) (length (ends_to (body old.geometry) (length f.bytes) at (length bytes) to)) old new r (writing_to id at to bytes f)
  write_turn part most_is told sure first next = ⊎_elim
      (λ (same : size ≡ length f.bytes). ⊎_elim
      (λ (past : length f.bytes < at). no_turn (λ tells can. let inside = can.from in omega (arith, inside, past)) first next)
      (λ (inside : at ≤ length f.bytes).
      let here : IsPart (body old.geometry) (append_room old.geometry from) (length f.bytes) at (length bytes) from to = rw (first.steps.framed.same.geometry, same) at part in
      let long = long_so_far at from bytes f inside part.low (let some = part.some in let within = part.within in omega (arith, some, within)) in
      let behind : known ≡ true → length f.bytes < from = λ is. let past = sure is in omega (arith, past, same) in
      turned_then first (turned_so (ap (λ (k : Geometry). data_pages k (length (slice_range bytes (from - at) (to - at)))) first.steps.framed.same.geometry) (next (so_far at from bytes f) (omega (arith, most_is, long, same)))) (λ tells can. record { needs = can; cut = λ c cut. cut })
      (λ tells can done. part_goes old.geometry (nor.bytes old.nor.now) (nor.bytes mid.nor.now) id at from to known bytes f can here done behind)
      (λ tells can done m n before after. part_few old.geometry (nor.bytes old.nor.now) (nor.bytes mid.nor.now) id at from to known bytes f can here done behind m n before after))
      (cases_lt (length f.bytes) at))
      (λ (other : size ≡ length f.bytes → ⊥). no_turn (λ tells can. other (told tells can)) first next)
      (cases_eq size (length f.bytes))

-- ---- the file's record

-- the size that is told is that of the file
pub told_size : (id : ℕ) (files : List File) (stat : Stat) (f : File) → TellsRecord id files (Ok stat) → file_of id files ≡ Some f → stat.size ≡ length f.bytes
told_size id files stat f told there = let is : Some stat ≡ Some (stat_of f) = told ∙ ap (option_map stat_of) there in let same : stat ≡ stat_of f = cc in ap (λ (s : Stat). s.size) same

-- also where it was told before other looks
pub sized_after : {N : Type 0} {nor : NorOf N} {old mid : View N nor} (id at : ℕ) (bytes : List ℕ) (stat : Stat) (f : File) → OnlyLooks old mid →
    (nor.tells old.nor.now → IsTidy old.geometry (nor.bytes old.nor.now) → TellsRecord id (table_of old.geometry (nor.bytes old.nor.now)) (Ok stat)) →
    nor.tells mid.nor.now → CanWrite mid.geometry (nor.bytes mid.nor.now) id at bytes f → stat.size ≡ length f.bytes
sized_after {nor = nor} {old = old} id at bytes stat f looks told tells can =
    let was : CanWrite old.geometry (nor.bytes old.nor.now) id at bytes f = rw (looks.same.geometry, looks.reads.bytes) at can in
    told_size id (table_of old.geometry (nor.bytes old.nor.now)) stat f (told (looks.reads.told_before tells) was.tidy) was.there

-- where it can't be told the device failed
pub missed_stops : (why : FsErr) → MayMiss why → MayStop why
missed_stops DeviceFault missed = tt
missed_stops (Damaged d) missed = missed
missed_stops _ missed = absurd missed

pub missed_fault : (id : ℕ) (files : List File) (why : FsErr) (f : File) → MayMiss why → TellsRecord id files (Err why) → file_of id files ≡ Some f → why ≡ DeviceFault
missed_fault id files DeviceFault f missed told there = refl
missed_fault id files (Damaged d) f missed told there = absurd (let none : None ≡ Some f = sym (told (λ e. let no : Damaged d ≡ DeviceFault = e in cc)) ∙ there in cc)
missed_fault id files _ f missed told there = absurd missed
