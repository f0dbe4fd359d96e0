-- One record after the other gets its copy.
use Rattle.std.proofs.Common.{◌≡◌, ◌≢◌, ℕ, ◌+◌, ◌<◌, ◌≤◌, ◌*◌, ◌/◌, ◌%◌, List, [], ◌∷◌, ◌++◌, length, take, Bool, true, false, not, cond, Option, Some, None, refl, sym, ◌∙◌, ap, subst, ⊎_elim, ◌⊎◌, inl, inr, arith}
use Rattle.std.specs.Prelude.{nat_lt, replicate}
use Rattle.std.specs.Option.{option_or}
use Rattle.std.specs.List.{All}
use Rattle.std.proofs.Math.Nat.{zero-mod, div-add-mod}
use Rattle.std.proofs.lemmas.Nat.{mod-mul-add}
use Rattle.std.proofs.lemmas.List.{take_all}
use Rattle.std.proofs.lemmas.List.Elements.{All-head, All-tail}
use Rattle.std.proofs.lemmas.Bool.{eqb-true}
use Rattle.std.proofs.lemmas.Option.{same_Some}
use Rattle.geometry.specs.Numbers.{body}
use Rattle.table_model.specs.declared.reply.Stat.{Stat}
use Rattle.table_model.specs.Table.{File, Open, least_id, file_of, file_named, file_above, put_file}
use Rattle.table_model.specs.Files.{stat_of}
use Rattle.table_model.specs.Room.{has_room}
use Rattle.call_model.proofs.Unused.{least-unused, file_of-unused}
use Rattle.image_laws.proofs.Records.{bytes_equal}
use Rattle.copy_model.specs.Copying.{working, is_copy, is_copied, keeps, front_of, begun, marked, cleared, placed, without_name, copied, copy_steps, kept_count}
use Rattle.copy_model.specs.Filling.{filler}
use Rattle.copy_model.specs.Stops.{first_full}
use Rattle.copy_model.specs.Rooms.{filling_full}
use Rattle.copy_model.specs.Under.{IsTable, HasNow, IsUnder, IsCopied, IsPart}
use Rattle.copy_model.specs.Tasks.{Task, begins_with, stops_at}
use Rattle.copy_model.specs.Walks.{up_to, behind}
use Rattle.copy_model.specs.Parts.{IsFit, AreFit, IsAmid, IsUpTo, IsCounted, IsNext, IsMissing, IsFilling, IsWhole, IsMarked, IsPassed}
use Rattle.copy_model.proofs.Names.{found-all, named-is, put-others, put-over}
use Rattle.copy_model.proofs.Stages.{under-none, under-begun, without-others, without-own, under-cleared, copied-kept, copied-placed}
use Rattle.copy_model.proofs.Answering.{marked-id, marked-name, marked-unused}
use Rattle.copy_model.proofs.Staging.{whole-copy}
use Rattle.copy_model.proofs.Rooming.{full-here, full-later, full-ends, less-room, room-behind, last-has_room, steps-kept, steps-full}
use Rattle.copy_model.proofs.Walking.{next_is, none_next, none_passed, new_name, kept-more, long-more}

-- ---- lists and names

named-none : (name : List ℕ) → file_named name [] ≡ None
unfolding file_named
named-none name = refl

regroup : (front : List File) (f : File) (rest : List File) → front ++ f ∷ rest ≡ (front ++ f ∷ []) ++ rest
regroup [] f rest = refl
regroup (x ∷ xs) f rest = ap (λ (l : List File). x ∷ l) (regroup xs f rest)

found_above : (P : File → Type 0) (after : ℕ) (files : List File) (f : File) → All P files → file_above after files ≡ Some f → P f
unfolding file_above
found_above P after files f all is = found-all P (λ (x : File). nat_lt after x.id) files f all is

-- ---- at first

pub begins : (t : Task) → AreFit t → IsTable t.first → IsTable (begins_with t) → has_room t.g t.first ≡ true → IsUpTo 0 t (begins_with t)
unfolding without_name
begins t fit table less room =
    let w = none_passed t.source fit.ascends in
    record {
      fit = fit;
      source_is = sym w.0 ∙ ap (λ (l : List File). l ++ behind 0 t.source) (sym w.1);
      done = subst (λ (front : List File). IsCopied t.alike front t.first (begins_with t)) (sym w.1) (record {
        each = λ name other. subst (λ (o : Option File). HasNow t.alike o (file_named name t.first) (file_named name (begins_with t))) (sym (named-none name)) (without-others working t.first table less name (λ same. other (sym same)));
        none = without-own working t.first table less;
      });
      room = less-room t.g (file_named working t.first) t.first room;
      stops = ap (λ (l : List File). first_full t.g (copy_steps t.g t.alike l (begins_with t))) (sym w.0);
      ends = ap (λ (l : List File). copied t.g t.alike l (begins_with t)) (sym w.0);
    }

none_counted : (alike : Bool) (first : List File) → kept_count alike [] first ≡ 0
unfolding kept_count
none_counted alike first = refl

pub counts_none : (t : Task) → AreFit t → IsCounted 0 0 0 t
counts_none t fit =
    let w = none_passed t.source fit.ascends in
    record { kept_is = sym (ap (λ (l : List File). kept_count t.alike l t.first) w.1 ∙ none_counted t.alike t.first); all = sym (ap (λ (l : List File). length l) w.1) }

-- ---- the next record

module _ (stat : Stat) (t : Task) (files : List File) (next : IsNext stat t files) where
  ahead : (behind next.after t.source ≡ next.f ∷ behind next.f.id t.source) × (up_to next.f.id t.source ≡ up_to next.after t.source ++ next.f ∷ []) × (next.after < next.f.id)
  ahead = next_is next.after 0 t.source next.f next.amid.fit.ascends next.found

  pub next_fit : IsFit t next.f
  next_fit = found_above (IsFit t) next.after t.source next.f next.amid.fit.all next.found

  pub next_here : file_of next.f.id t.source ≡ Some next.f
  next_here = found_above (λ (x : File). file_of x.id t.source ≡ Some x) next.after t.source next.f next.amid.fit.table.by_id next.found

  next_new : file_named next.f.name (up_to next.after t.source) ≡ None
  next_new = new_name next.after 0 t.source next.f next.amid.fit.table next.amid.fit.ascends next.found

  next_source : t.source ≡ up_to next.after t.source ++ next.f ∷ behind next.f.id t.source
  next_source = next.amid.source_is ∙ ap (λ (l : List File). up_to next.after t.source ++ l) ahead.0

  passed_source : t.source ≡ up_to next.f.id t.source ++ behind next.f.id t.source
  passed_source = next_source ∙ regroup (up_to next.after t.source) next.f (behind next.f.id t.source) ∙ ap (λ (l : List File). l ++ behind next.f.id t.source) (sym ahead.1)

  as_source : (now : List File) → IsUnder t.alike (up_to next.after t.source ++ next.f ∷ behind next.f.id t.source) t.first now → IsUnder t.alike t.source t.first now
  as_source now under = subst (λ (l : List File). IsUnder t.alike l t.first now) (sym next_source) under

  -- its name has at first what it has now
  name_first : HasNow t.alike (file_named next.f.name (up_to next.after t.source)) (file_named next.f.name t.first) (file_named next.f.name files)
  name_first = next.amid.done.each next.f.name next_fit.apart

  pub keeps_first : keeps t.alike next.f t.first ≡ keeps t.alike next.f files
  keeps_first = ap (is_copied t.alike next.f) (sym (subst (λ (o : Option File). HasNow t.alike o (file_named next.f.name t.first) (file_named next.f.name files)) next_new name_first))

  pub next_part : IsPart t.alike t.source t.first files
  next_part = record { front = up_to next.after t.source; rest = behind next.after t.source; source_is = next.amid.source_is; copied = next.amid.done }

  pub next_under : IsUnder t.alike t.source t.first files
  next_under = as_source files (under-none t.alike (up_to next.after t.source) (next.f ∷ behind next.f.id t.source) t.first files next.amid.done)

  -- it is there
  kept_ends : keeps t.alike next.f files ≡ true → copied t.g t.alike (next.f ∷ behind next.f.id t.source) files ≡ copied t.g t.alike (behind next.f.id t.source) files
  unfolding copied
  kept_ends copy = rw (copy, copied) refl

  pub kept_passes : keeps t.alike next.f files ≡ true → IsPassed stat false t files
  kept_passes copy = record {
    f = next.f;
    here = next_here;
    stat_is = next.stat_is;
    amid = record {
      fit = next.amid.fit;
      source_is = passed_source;
      done = subst (λ (front : List File). IsCopied t.alike front t.first files) (sym ahead.1) (copied-kept t.alike (up_to next.after t.source) (behind next.f.id t.source) t.first files next.f next.amid.done next_new next_fit.apart copy);
      room = next.amid.room;
      stops = next.amid.stops ∙ ap (λ (l : List File). first_full t.g (copy_steps t.g t.alike l files)) ahead.0 ∙ ap (first_full t.g) (steps-kept t.g t.alike next.f (behind next.f.id t.source) files copy);
      ends = next.amid.ends ∙ ap (λ (l : List File). copied t.g t.alike l files) ahead.0 ∙ kept_ends copy;
    };
    kept = keeps_first ∙ copy;
  }

-- ---- a record without a copy

module _ (stat : Stat) (t : Task) (files : List File) (is : IsMissing stat t files) where
  f_of : File
  f_of = is.next.f

  rest_of : List File
  rest_of = behind is.next.f.id t.source

  -- the first table without room, if it is one of its steps, or of those behind it
  pub stops_by : stops_at t ≡ option_or (filling_full t.g is.next.f files 0) (first_full t.g (copy_steps t.g t.alike (behind is.next.f.id t.source) (placed t.g t.alike is.next.f files)))
  stops_by = is.next.amid.stops ∙ ap (λ (l : List File). first_full t.g (copy_steps t.g t.alike l files)) (ahead stat t files is.next).0
      ∙ steps-full t.g t.alike is.next.f (behind is.next.f.id t.source) files (next_fit stat t files is.next).apart is.missing

  pub stops_full : (table : List File) → filling_full t.g is.next.f files 0 ≡ Some table → stops_at t ≡ Some table
  stops_full table full = stops_by ∙ ap (λ (o : Option (List File)). option_or o (first_full t.g (copy_steps t.g t.alike (behind is.next.f.id t.source) (placed t.g t.alike is.next.f files)))) full

  pub stops_later : filling_full t.g is.next.f files 0 ≡ None → stops_at t ≡ first_full t.g (copy_steps t.g t.alike (behind is.next.f.id t.source) (placed t.g t.alike is.next.f files))
  stops_later none = stops_by ∙ ap (λ (o : Option (List File)). option_or o (first_full t.g (copy_steps t.g t.alike (behind is.next.f.id t.source) (placed t.g t.alike is.next.f files)))) none

  -- a working file with any bytes of its own
  pub working_under : (w : File) → w.name ≡ working → w.id ≡ least_id files → IsTable (put_file w files) → IsUnder t.alike t.source t.first (put_file w files)
  working_under w named id put = as_source stat t files is.next (put_file w files)
      (under-begun t.alike (up_to is.next.after t.source) (is.next.f ∷ behind is.next.f.id t.source) t.first files is.next.amid.done w named is.next.table put
      (ap (λ (n : ℕ). file_of n files) id ∙ file_of-unused (least_id files) files (least-unused files)))

  pub begun_under : (at : ℕ) → IsTable (begun t.g is.next.f files at) → IsUnder t.alike t.source t.first (begun t.g is.next.f files at)
  begun_under at put = working_under (front_of t.g files (take at is.next.f.bytes)) refl refl put

  -- it begins
  pub filling_begins : has_room t.g (begun t.g is.next.f files 0) ≡ true → IsFilling stat 0 t (filler (least_id files) 0) (begun t.g is.next.f files 0)
  filling_begins room = record {
    before = files;
    is = is;
    d_is = refl;
    files_are = refl;
    ends = inl (zero-mod (body t.g));
    within = omega arith;
    full = refl;
    room = room;
  }

  pub begins_full : has_room t.g (begun t.g is.next.f files 0) ≡ false → stops_at t ≡ Some (begun t.g is.next.f files 0)
  begins_full full = stops_full (begun t.g is.next.f files 0) (full-here t.g is.next.f files 0 (inl (zero-mod (body t.g))) (omega arith) full)

-- ---- page by page

module _ (stat : Stat) (at : ℕ) (t : Task) (d : Open) (files : List File) (is : IsFilling stat at t d files) (len : ℕ) (some : 0 < len) (page : at % body t.g ≡ 0) (few : len ≤ body t.g) (within : at + len ≤ stat.size) (whole : (len ≡ body t.g) ⊎ (at + len ≡ stat.size)) where
  size_is : stat.size ≡ length is.is.next.f.bytes
  size_is = ap (λ (s : Stat). s.size) is.is.next.stat_is

  later : filling_full t.g is.is.next.f is.before at ≡ filling_full t.g is.is.next.f is.before (at + len)
  later = full-later t.g is.is.next.f is.before at len page some few (omega (arith, size_is, within)) (⊎_elim (λ (all : len ≡ body t.g). inl all) (λ (last : at + len ≡ stat.size). inr (last ∙ size_is)) whole) is.room

  step_ends : (0 < body t.g) → ((at + len) % body t.g ≡ 0) ⊎ (at + len ≡ stat.size)
  step_ends pos = ⊎_elim (λ (all : len ≡ body t.g). inl (ap (λ (n : ℕ). (at + n) % body t.g) all ∙ next_page at (body t.g) pos page)) (λ (last : at + len ≡ stat.size). inr last) whole
    where
      next_page : (a n : ℕ) → 0 < n → a % n ≡ 0 → (a + n) % n ≡ 0
      next_page a n some from =
          let whole : n * (a / n) + a % n ≡ a = div-add-mod a n in
          let here : (a / n + 1) * n + 0 ≡ a + n = omega (arith, whole, from) in
          ap (λ (m : ℕ). m % n) (sym here) ∙ mod-mul-add (a / n + 1) n 0 some

  pub filling_goes : 0 < body t.g → has_room t.g (begun t.g is.is.next.f is.before (at + len)) ≡ true → IsFilling stat (at + len) t (filler (least_id is.before) (at + len)) (begun t.g is.is.next.f is.before (at + len))
  filling_goes pos room = record {
    before = is.before;
    is = is.is;
    d_is = refl;
    files_are = refl;
    ends = step_ends pos;
    within = within;
    full = is.full ∙ later;
    room = room;
  }

  pub filling_full_at : 0 < body t.g → has_room t.g (begun t.g is.is.next.f is.before (at + len)) ≡ false → stops_at t ≡ Some (begun t.g is.is.next.f is.before (at + len))
  filling_full_at pos full = stops_full stat t is.before is.is (begun t.g is.is.next.f is.before (at + len))
      (is.full ∙ later ∙ full-here t.g is.is.next.f is.before (at + len) (⊎_elim (λ (p : (at + len) % body t.g ≡ 0). inl p) (λ (last : at + len ≡ stat.size). inr (last ∙ size_is)) (step_ends pos)) (omega (arith, size_is, within)) full)

-- all of it is there
pub filling_done : (stat : Stat) (t : Task) (d : Open) (files : List File) → IsFilling stat stat.size t d files → IsWhole stat t files
filling_done stat t d files is =
    let size : stat.size ≡ length is.is.next.f.bytes = ap (λ (s : Stat). s.size) is.is.next.stat_is in
    record {
      before = is.before;
      is = is.is;
      files_are = is.files_are ∙ ap (begun t.g is.is.next.f is.before) size;
      full = is.full ∙ ap (filling_full t.g is.is.next.f is.before) size ∙ full-ends t.g is.is.next.f is.before (subst (λ (n : ℕ). has_room t.g (begun t.g is.is.next.f is.before n) ≡ true) size is.room);
    }

-- ---- its meta bytes

blank : (xs : List ℕ) (n : ℕ) → All (λ (b : ℕ). b ≡ 255) xs → length xs ≡ n → xs ≡ replicate n 255
blank [] n all long = rw (← long) refl
blank (x ∷ xs) n all long =
    let here : x ≡ 255 = All-head (λ (b : ℕ). b ≡ 255) x xs all in
    let more : xs ≡ replicate (length xs) 255 = blank xs (length xs) (All-tail (λ (b : ℕ). b ≡ 255) x xs all) refl in
    rw (← long) (rw here (ap (λ (l : List ℕ). 255 ∷ l) more))

module _ (stat : Stat) (t : Task) (files : List File) (is : IsWhole stat t files) where
  all_bytes : take (length is.is.next.f.bytes) is.is.next.f.bytes ≡ is.is.next.f.bytes
  all_bytes = take_all (length is.is.next.f.bytes) is.is.next.f.bytes (omega arith)

  -- where they aren't set
  pub unmarked : t.alike ≡ false → IsMarked stat t files
  unmarked other = record {
    before = is.before;
    is = is.is;
    files_are = is.files_are ∙ ap (λ (l : List ℕ). put_file (front_of t.g is.before l) is.before) all_bytes ∙ rw other refl;
    full = is.full;
  }

  pub blank_marked : t.alike ≡ true → All (λ (b : ℕ). b ≡ 255) stat.meta → IsMarked stat t files
  blank_marked alike all =
      let fit = next_fit stat t is.before is.is.next in
      let meta : is.is.next.f.meta ≡ replicate t.g.meta 255 = blank is.is.next.f.meta t.g.meta (subst (λ (s : Stat). All (λ (b : ℕ). b ≡ 255) s.meta) is.is.next.stat_is all) (eqb-true (length is.is.next.f.meta) t.g.meta (fit.as_many ∙ alike)) in
      record {
        before = is.before;
        is = is.is;
        files_are = is.files_are ∙ ap (λ (l : List ℕ). put_file (front_of t.g is.before l) is.before) all_bytes ∙ rw (alike, meta) refl;
        full = is.full;
      }

-- a working file that has its meta bytes
module _ (stat : Stat) (t : Task) (files : List File) (is : IsMarked stat t files) where
  w_of : File
  w_of = marked t.g t.alike is.is.next.f is.before

  renamed_of : File
  renamed_of = record (marked t.g t.alike is.is.next.f is.before) { name = is.is.next.f.name }

  pub marked_under : IsTable files → IsUnder t.alike t.source t.first files
  marked_under put = subst (IsUnder t.alike t.source t.first) (sym is.files_are)
      (working_under stat t is.before is.is (marked t.g t.alike is.is.next.f is.before) (marked-name t.g t.alike is.is.next.f is.before) (marked-id t.g t.alike is.is.next.f is.before) (subst IsTable is.files_are put))

-- then the file of its name is gone
module _ (stat : Stat) (t : Task) (before : List File) (is : IsMissing stat t before) (put : IsTable (put_file (marked t.g t.alike is.next.f before) before)) (less : IsTable (cleared t.g t.alike is.next.f before)) where
  beside : (name : List ℕ) → name ≢ working → file_named name (put_file (marked t.g t.alike is.next.f before) before) ≡ file_named name before
  beside name other = put-others (marked t.g t.alike is.next.f before) before is.next.table put (file_of-unused (marked t.g t.alike is.next.f before).id before (marked-unused t.g t.alike is.next.f before)) name
      (λ same. other (sym same ∙ marked-name t.g t.alike is.next.f before))

  pub cleared_none : file_named is.next.f.name (cleared t.g t.alike is.next.f before) ≡ None
  cleared_none = without-own is.next.f.name (put_file (marked t.g t.alike is.next.f before) before) put less

  cleared_beside : (name : List ℕ) → name ≢ working → is.next.f.name ≢ name → file_named name (cleared t.g t.alike is.next.f before) ≡ file_named name before
  cleared_beside name other apart = without-others is.next.f.name (put_file (marked t.g t.alike is.next.f before) before) put less name apart ∙ beside name other

  -- the working file is still there
  marked_stays : file_named working (cleared t.g t.alike is.next.f before) ≡ Some (marked t.g t.alike is.next.f before)
  marked_stays =
      let w = marked t.g t.alike is.next.f before in
      without-others is.next.f.name (put_file w before) put less working (next_fit stat t before is.next).apart
      ∙ subst (λ (n : List ℕ). file_named n (put_file w before) ≡ Some w) (marked-name t.g t.alike is.next.f before) (put-over w before put)

  pub cleared_under : IsUnder t.alike t.source t.first (cleared t.g t.alike is.next.f before)
  cleared_under = as_source stat t before is.next (cleared t.g t.alike is.next.f before)
      (under-cleared t.alike (up_to is.next.after t.source) (behind is.next.f.id t.source) t.first before is.next.f is.next.amid.done (next_new stat t before is.next) (next_fit stat t before is.next).apart
      (cleared t.g t.alike is.next.f before) cleared_beside cleared_none (ap (is_copied t.alike is.next.f) marked_stays ∙ whole-copy t.g t.alike is.next.f before))

  marked_there : file_of (marked t.g t.alike is.next.f before).id (cleared t.g t.alike is.next.f before) ≡ Some (marked t.g t.alike is.next.f before)
  marked_there = (named-is (cleared t.g t.alike is.next.f before) working (marked t.g t.alike is.next.f before) less marked_stays).0

  marked_copy : is_copy t.alike is.next.f (record (marked t.g t.alike is.next.f before) { name = is.next.f.name }) ≡ true
  marked_copy = copy_of t.alike refl
    where
      copy_of : (b : Bool) → t.alike ≡ b → is_copy t.alike is.next.f (record (marked t.g t.alike is.next.f before) { name = is.next.f.name }) ≡ true
      copy_of true same = rw same (rw (bytes_equal is.next.f.bytes, bytes_equal is.next.f.meta) refl)
      copy_of false same = rw same (rw (bytes_equal is.next.f.bytes) refl)

  placed_ends : copied t.g t.alike (is.next.f ∷ behind is.next.f.id t.source) before ≡ copied t.g t.alike (behind is.next.f.id t.source) (placed t.g t.alike is.next.f before)
  unfolding copied
  placed_ends = rw (is.missing, copied) refl

  pub placed_passes : filling_full t.g is.next.f before 0 ≡ None → IsTable (placed t.g t.alike is.next.f before) → IsPassed stat true t (placed t.g t.alike is.next.f before)
  unfolding placed
  placed_passes full table =
      let n = is.next in
      let fit = next_fit stat t before n in
      let ready = ahead stat t before n in
      let room = room-behind t.g t.alike n.f before fit.apart (last-has_room t.g n.f before full) in
      record {
        f = n.f;
        here = next_here stat t before n;
        stat_is = n.stat_is;
        amid = record {
          fit = n.amid.fit;
          source_is = passed_source stat t before n;
          done = subst (λ (front : List File). IsCopied t.alike front t.first (placed t.g t.alike n.f before)) (sym ready.1)
              (copied-placed t.alike (up_to n.after t.source) (behind n.f.id t.source) t.first before n.f n.amid.done (next_new stat t before n) fit.apart
              (marked t.g t.alike n.f before) (record (marked t.g t.alike n.f before) { name = n.f.name }) (cleared t.g t.alike n.f before) less table marked_there (marked-name t.g t.alike n.f before) refl refl marked_copy cleared_beside);
          room = room.placed_room;
          stops = stops_later stat t before is full;
          ends = n.amid.ends ∙ ap (λ (l : List File). copied t.g t.alike l before) ready.0 ∙ placed_ends;
        };
        kept = keeps_first stat t before n ∙ is.missing;
      }

-- ---- up to the next id

module _ (stat : Stat) (is_new : Bool) (t : Task) (files : List File) (is : IsPassed stat is_new t files) where
  pub passed_up : IsUpTo stat.id t files
  passed_up = subst (λ (id : ℕ). IsUpTo id t files) (sym (ap (λ (s : Stat). s.id) is.stat_is)) is.amid

  -- so many are copied and kept then
  pub passed_counts : (after done kept : ℕ) (f : File) → file_above after t.source ≡ Some f → stat ≡ stat_of f → IsCounted after done kept t → IsCounted stat.id (done + cond is_new 1 0) (kept + cond is_new 0 1) t
  passed_counts after done kept f found told counted =
      let fit = is.amid.fit in
      let ids : is.f.id ≡ f.id = ap (λ (s : Stat). s.id) (sym is.stat_is ∙ told) in
      let here : file_of f.id t.source ≡ Some f = found_above (λ (x : File). file_of x.id t.source ≡ Some x) after t.source f fit.table.by_id found in
      let same : is.f ≡ f = same_Some is.f f (sym is.here ∙ ap (λ (id : ℕ). file_of id t.source) ids ∙ here) in
      let w = next_is after 0 t.source f fit.ascends found in
      let passes : up_to stat.id t.source ≡ up_to after t.source ++ f ∷ [] = ap (λ (id : ℕ). up_to id t.source) (ap (λ (s : Stat). s.id) told) ∙ w.1 in
      let keeps_is : keeps t.alike f t.first ≡ not is_new = ap (λ (x : File). keeps t.alike x t.first) (sym same) ∙ is.kept in
      let many : kept_count t.alike (up_to stat.id t.source) t.first ≡ kept_count t.alike (up_to after t.source) t.first + cond (not is_new) 1 0 =
      ap (λ (l : List File). kept_count t.alike l t.first) passes ∙ kept-more t.alike (up_to after t.source) f t.first ∙ ap (λ (b : Bool). kept_count t.alike (up_to after t.source) t.first + cond b 1 0) keeps_is in
      let long : length (up_to stat.id t.source) ≡ length (up_to after t.source) + 1 = ap (λ (l : List File). length l) passes ∙ long-more (up_to after t.source) f in
      count_on is_new counted.kept_is counted.all many long
    where
      count_on : (b : Bool) → kept ≡ kept_count t.alike (up_to after t.source) t.first → done + kept ≡ length (up_to after t.source) →
          kept_count t.alike (up_to stat.id t.source) t.first ≡ kept_count t.alike (up_to after t.source) t.first + cond (not b) 1 0 → length (up_to stat.id t.source) ≡ length (up_to after t.source) + 1 →
          IsCounted stat.id (done + cond b 1 0) (kept + cond b 0 1) t
      count_on true k a many long = record { kept_is = omega (arith, k, many); all = omega (arith, a, long) }
      count_on false k a many long = record { kept_is = omega (arith, k, many); all = omega (arith, a, long) }

-- ---- at the end

pub all_passed : (after : ℕ) (t : Task) (files : List File) → file_above after t.source ≡ None → IsUpTo after t files → IsAmid t t.source [] files
all_passed after t files none is =
    let w = none_next after t.source none in
    subst (λ (front : List File). IsAmid t front [] files) w.1 (subst (λ (rest : List File). IsAmid t (up_to after t.source) rest files) w.0 is)
