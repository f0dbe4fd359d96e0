-- What the flat table answers to the calls of a copy.
use Rattle.std.proofs.Common.{◌≡◌, ◌≢◌, ℕ, zero, suc, ◌+◌, ◌-◌, ◌<◌, ◌≤◌, List, [], ◌∷◌, ◌++◌, length, take, drop, map, Bool, true, false, ◌==◌, Option, Some, None, refl, sym, ◌∙◌, ap, subst, arith, ⊎_elim, cond, length-take, length-drop}
use Rattle.std.specs.Prelude.{min, replicate}
use Rattle.std.proofs.lemmas.Bool.{cases_Bool, eq-eqb, ne_eqb, false≢true}
use Rattle.std.proofs.lemmas.Option.{none-some}
use Rattle.std.proofs.lemmas.List.{take_all, drop_all, append-nil}
use Rattle.geometry.specs.declared.geometry.Geometry.{Geometry}
use Rattle.table_model.specs.declared.error.FsErr.{FsErr}
use Rattle.table_model.specs.Table.{File, Open, State, has_id, has_name, same_text, file_named, file_of, least_id, put_file}
use Rattle.table_model.specs.Names.{name_refusal, names_refusal, is_bad_name, is_long_name}
use Rattle.table_model.specs.Room.{has_room}
use Rattle.table_model.specs.Descriptors.{open_at, put_at, without_file}
use Rattle.table_model.specs.Files.{written, bytes_at, without}
use Rattle.table_model.specs.Opening.{answer_open}
use Rattle.table_model.specs.Calls.{answer_read, answer_write, answer_close, answer_remove, answer_rename, answer_stat, answer_meta}
use Rattle.table_model.specs.Outcome.{Outcome, gives, with_page, page_refusal}
use Rattle.table_model.specs.Ask.{Removes, Renames, SetsMeta}
use Rattle.table_model.specs.Reply.{Fine, Tells}
use Rattle.table_model.specs.Flat.{answer}
use Rattle.call_model.specs.Closed.{with_files}
use Rattle.call_model.proofs.Closed.{first_closed, first_open, opened_twice, closed_again}
use Rattle.call_model.proofs.Parts.{put_twice, take-two}
use Rattle.call_model.proofs.Tables.{file_of-put}
use Rattle.call_model.proofs.Unused.{least-unused}
use Rattle.copy_model.specs.Copying.{working, front_of, begun, marked, without_found, without_name, cleared, placed}
use Rattle.copy_model.specs.Filling.{filler, looker, filling}
use Rattle.copy_model.specs.Answers.{or_full, IsPiece, OpensWorking, PutsPiece, ClosesFirst, GivesUp, Marks, Places, Clears, RemovesFile, RemovesNone, StatsFile, StatsNone, Informed, OpensFile, OpensNone, ReadsOn}
use Rattle.copy_model.proofs.Putting.{unlike, named-put, named-put_own, named-has_id, named-drop, drop-put}

-- where two blocks are free, room alone decides
page_or_full : (g : Geometry) (s : State) (done : Outcome) → with_page g true s done ≡ or_full g s done
unfolding page_refusal
page_or_full g s done = ⊎_elim
    (λ (room : has_room g done.next.table ≡ true). rw room refl)
    (λ (full : has_room g done.next.table ≡ false). rw full refl)
    (cases_Bool (has_room g done.next.table))

-- ---- the working file is filled

pub opens-working : (g : Geometry) → OpensWorking g
unfolding answer answer_open name_refusal
opens-working g slots f files some none =
    rw (first_closed (min 65535 slots) (omega (arith, some)), none) (page_or_full g (with_files slots files) (gives (Tells 1) (filling g slots f files 0)))

-- the file with the first bytes of a record is that of the least unused id
begun-file : (g : Geometry) (f : File) (files : List File) (at : ℕ) → file_of (least_id files) (begun g f files at) ≡ Some (front_of g files (take at f.bytes))
begun-file g f files at = file_of-put (front_of g files (take at f.bytes)) files

begun-named : (g : Geometry) (files : List File) (bytes : List ℕ) → file_named working files ≡ None → file_named working (put_file (front_of g files bytes) files) ≡ Some (front_of g files bytes)
begun-named g files bytes none = named-put_own (front_of g files bytes) files (least-unused files) none

-- a piece ends inside its record
pub piece-ends : (f : File) (at : ℕ) (bytes : List ℕ) → 0 < length bytes → IsPiece f at bytes → at + length bytes ≤ length f.bytes
piece-ends f at bytes some is =
    let long : length bytes ≡ min (length bytes) (length f.bytes - at) = ap length is ∙ simp (length-take, length-drop) in
    omega (arith, long, some)

-- what is written behind the first bytes
written-piece : (g : Geometry) (f : File) (files : List File) (at : ℕ) (bytes : List ℕ) → 0 < length bytes → IsPiece f at bytes →
    written at bytes (front_of g files (take at f.bytes)) ≡ front_of g files (take (at + length bytes) f.bytes)
written-piece g f files at bytes some is =
    let ends = piece-ends f at bytes some is in
    let long : length (take at f.bytes) ≡ at = length-take at f.bytes ∙ omega (arith, ends) in
    let front : take at (take at f.bytes) ≡ take at f.bytes = take_all at (take at f.bytes) (omega (arith, long)) in
    let back : drop (at + length bytes) (take at f.bytes) ≡ [] = drop_all (at + length bytes) (take at f.bytes) (omega (arith, long)) in
    let many : at + length bytes - at ≡ length bytes = omega arith in
    let all : take at f.bytes ++ bytes ≡ take (at + length bytes) f.bytes =
    ap (λ (l : List ℕ). take at f.bytes ++ l) (is ∙ ap (λ (n : ℕ). take n (drop at f.bytes)) (sym many)) ∙ take-two at (at + length bytes) f.bytes (omega arith) in
    ap (λ (l : List ℕ). front_of g files l) (ap (λ (l : List ℕ). l ++ bytes ++ drop (at + length bytes) (take at f.bytes)) front ∙ ap (λ (l : List ℕ). take at f.bytes ++ bytes ++ l) back ∙ append-nil (take at f.bytes ++ bytes) ∙ all)

pub put-piece : (g : Geometry) (f : File) (files : List File) (at : ℕ) (bytes : List ℕ) → 0 < length bytes → IsPiece f at bytes →
    put_file (written at bytes (front_of g files (take at f.bytes))) (begun g f files at) ≡ begun g f files (at + length bytes)
put-piece g f files at bytes some is =
    put_twice (written at bytes (front_of g files (take at f.bytes))) (front_of g files (take at f.bytes)) files refl
    ∙ ap (λ (w : File). put_file w files) (written-piece g f files at bytes some is)

pub puts-piece : (g : Geometry) → PutsPiece g
unfolding answer answer_write
puts-piece g slots f files at bytes some more is =
    let n = min 65535 slots in
    let first : open_at (filling g slots f files at).slots 1 ≡ Some (filler (least_id files) at) = first_open n (filler (least_id files) at) (omega (arith, some)) in
    let some_bytes : (length bytes == 0) ≡ false = ne_eqb (length bytes) 0 (λ e. omega (arith, e, more)) in
    rw (first, begun-file g f files at, some_bytes, put-piece g f files at bytes more is, opened_twice n (filler (least_id files) at) (filler (least_id files) (at + length bytes))) (
    page_or_full g (filling g slots f files at) (gives (Tells (length bytes)) (filling g slots f files (at + length bytes))))

pub closes-first : (g : Geometry) → ClosesFirst g
unfolding answer answer_close
closes-first g slots d files some = let n = min 65535 slots in rw (first_open n d (omega (arith, some)), closed_again n d) refl

-- ---- a file is removed

no_open : (id n : ℕ) → map (without_file id) (replicate n None) ≡ replicate n None
no_open id zero = refl
no_open id (suc n) = ap (λ (l : List (Option Open)). None ∷ l) (no_open id n)

-- a descriptor on it is closed
shut : (id n : ℕ) (d : Open) → d.id ≡ id → map (without_file id) (put_at (replicate n None) 1 (Some d)) ≡ replicate n None
unfolding put_at
shut id zero d is = refl
shut id (suc n) d is = rw (eq-eqb d.id id is) (ap (λ (l : List (Option Open)). None ∷ l) (no_open id n))

pub gives-up : (g : Geometry) → GivesUp g
unfolding answer answer_remove name_refusal without
gives-up g slots f files at some none =
    rw (begun-named g files (take at f.bytes) none, drop-put (front_of g files (take at f.bytes)) files (least-unused files), shut (least_id files) (min 65535 slots) (filler (least_id files) at) refl) refl

pub removes-none : (g : Geometry) → RemovesNone g
unfolding answer answer_remove
removes-none g slots name files fine none = rw (fine, none) refl

pub removes-file : (g : Geometry) → RemovesFile g
unfolding answer answer_remove without
removes-file g slots name files x fine there = rw (fine, there, no_open x.id (min 65535 slots)) refl

pub clears : (g : Geometry) → Clears g
unfolding without_name
clears g slots name files fine = go (file_named name files) refl
  where
    go : (o : Option File) → file_named name files ≡ o → (answer g true (with_files slots files) (Removes name)).next ≡ with_files slots (without_found (file_named name files) files)
    go None is = ap (λ (o : Outcome). o.next) (removes-none g slots name files fine is) ∙ ap (λ (o : Option File). with_files slots (without_found o files)) (sym is)
    go (Some f) is = ap (λ (o : Outcome). o.next) (removes-file g slots name files f fine is) ∙ ap (λ (o : Option File). with_files slots (without_found o files)) (sym is)

-- ---- meta bytes are set

sets-meta : (g : Geometry) (slots : ℕ) (name meta : List ℕ) (files : List File) (x : File) → name_refusal name ≡ None → length meta ≡ g.meta → file_named name files ≡ Some x →
    answer g true (with_files slots files) (SetsMeta name meta) ≡ or_full g (with_files slots files) (gives Fine (with_files slots (put_file (record x { meta = meta }) files)))
unfolding answer answer_meta
sets-meta g slots name meta files x fine long there =
    rw (fine, eq-eqb (length meta) g.meta long, there) (page_or_full g (with_files slots files) (gives Fine (with_files slots (put_file (record x { meta = meta }) files))))

pub fine_working : name_refusal working ≡ None
unfolding name_refusal
fine_working = refl

pub marks : (g : Geometry) → Marks g
marks g slots f files none long =
    let whole : take (length f.bytes) f.bytes ≡ f.bytes = take_all (length f.bytes) f.bytes (omega arith) in
    let w = front_of g files (take (length f.bytes) f.bytes) in
    let table : put_file (record w { meta = f.meta }) (begun g f files (length f.bytes)) ≡ put_file (marked g true f files) files =
    put_twice (record w { meta = f.meta }) w files refl ∙ ap (λ (l : List ℕ). put_file (record (front_of g files l) { meta = f.meta }) files) whole in
    sets-meta g slots working f.meta (begun g f files (length f.bytes)) w fine_working long (begun-named g files (take (length f.bytes) f.bytes) none)
    ∙ ap (λ (t : List File). or_full g (with_files slots (begun g f files (length f.bytes))) (gives Fine (with_files slots t))) table

-- ---- a file is renamed

refused_not : (e : FsErr) (o : Option FsErr) (b : Bool) → cond b (Some e) o ≡ None → (b ≡ false) × (o ≡ None)
refused_not e o true h = absurd (none-some e (sym h))
refused_not e o false h = (refl, h)

-- two names that aren't refused
names_fine : (old_name new_name : List ℕ) → name_refusal old_name ≡ None → name_refusal new_name ≡ None → names_refusal old_name new_name ≡ None
unfolding name_refusal names_refusal
names_fine old_name new_name fine too =
    let x = refused_not _ _ (is_bad_name old_name) fine in
    let y = refused_not _ _ (is_bad_name new_name) too in
    let x2 = refused_not _ _ (is_long_name old_name) x.1 in
    let y2 = refused_not _ _ (is_long_name new_name) y.1 in
    rw (x.0, y.0, x2.0, y2.0) refl

-- no file has a name that none is found by
missing : (name : List ℕ) (files : List File) → file_named name files ≡ None → has_name name files ≡ false
unfolding file_named has_name
missing name [] none = refl
missing name (x ∷ xs) none = ⊎_elim
    (λ (yes : same_text x.name name ≡ true). absurd (none-some x (sym (rw yes at none))))
    (λ (no : same_text x.name name ≡ false). rw no (missing name xs (rw no at none)))
    (cases_Bool (same_text x.name name))

renames : (g : Geometry) (slots : ℕ) (old_name new_name : List ℕ) (files : List File) (x : File) → name_refusal old_name ≡ None → name_refusal new_name ≡ None → file_named old_name files ≡ Some x → file_named new_name files ≡ None →
    answer g true (with_files slots files) (Renames old_name new_name) ≡ or_full g (with_files slots files) (gives Fine (with_files slots (put_file (record x { name = new_name }) files)))
unfolding answer answer_rename
renames g slots old_name new_name files x fine too there none =
    rw (names_fine old_name new_name fine too, there, missing new_name files none) (page_or_full g (with_files slots files) (gives Fine (with_files slots (put_file (record x { name = new_name }) files))))

-- a file of another name than the working one was there before the working file
pub other-there : (w : File) (files : List File) (name : List ℕ) (x : File) → has_id w.id files ≡ false → w.name ≢ name → file_named name (put_file w files) ≡ Some x → w.id ≢ x.id
other-there w files name x unused other there same =
    let has : has_id x.id files ≡ true = named-has_id name files x (sym (named-put name w files unused (unlike w.name name other)) ∙ there) in
    false≢true (sym unused ∙ ap (λ (id : ℕ). has_id id files) same ∙ has)

-- the working file stands still once the file of another name is gone
pub working-stays : (w : File) (files : List File) (name : List ℕ) → has_id w.id files ≡ false → w.name ≡ working → name ≢ working → file_named working files ≡ None → file_named working (without_name name (put_file w files)) ≡ Some w
unfolding without_name
working-stays w files name unused named other none = go (file_named name (put_file w files)) refl
  where
    own : file_named working (put_file w files) ≡ Some w
    own = subst (λ (n : List ℕ). file_named n (put_file w files) ≡ Some w) named (named-put_own w files unused (subst (λ (n : List ℕ). file_named n files ≡ None) (sym named) none))

    go : (o : Option File) → file_named name (put_file w files) ≡ o → file_named working (without_found (file_named name (put_file w files)) (put_file w files)) ≡ Some w
    go None is = ap (λ (o : Option File). file_named working (without_found o (put_file w files))) is ∙ own
    go (Some x) is =
        ap (λ (o : Option File). file_named working (without_found o (put_file w files))) is
        ∙ named-drop working x.id (put_file w files) w own (other-there w files name x unused (λ same. other (sym same ∙ named)) is)

pub marked-id : (g : Geometry) (alike : Bool) (f : File) (files : List File) → (marked g alike f files).id ≡ least_id files
marked-id g true f files = refl
marked-id g false f files = refl

pub marked-name : (g : Geometry) (alike : Bool) (f : File) (files : List File) → (marked g alike f files).name ≡ working
marked-name g true f files = refl
marked-name g false f files = refl

pub marked-unused : (g : Geometry) (alike : Bool) (f : File) (files : List File) → has_id (marked g alike f files).id files ≡ false
marked-unused g alike f files = ap (λ (id : ℕ). has_id id files) (marked-id g alike f files) ∙ least-unused files

pub places : (g : Geometry) → Places g
unfolding placed
places g slots alike f files other fine none gone =
    renames g slots working f.name (cleared g alike f files) (marked g alike f files) fine_working fine
    (working-stays (marked g alike f files) files f.name (marked-unused g alike f files) (marked-name g alike f files) other none) gone

-- ---- files are looked at

pub stats-file : (g : Geometry) → StatsFile g
unfolding answer answer_stat
stats-file g s name x fine there = rw (fine, there) refl

pub stats-none : (g : Geometry) → StatsNone g
unfolding answer answer_stat
stats-none g s name fine none = rw (fine, none) refl

pub informed : (g : Geometry) → Informed g
unfolding answer
informed g s = refl

pub opens-file : (g : Geometry) → OpensFile g
unfolding answer answer_open
opens-file g slots name files x some fine there = rw (fine, first_closed (min 65535 slots) (omega (arith, some)), there) refl

pub opens-none : (g : Geometry) → OpensNone g
unfolding answer answer_open
opens-none g slots name files some fine none = rw (fine, first_closed (min 65535 slots) (omega (arith, some)), none) refl

pub reads-on : (g : Geometry) → ReadsOn g
unfolding answer answer_read
reads-on g slots x files at count some there =
    let n = min 65535 slots in
    rw (first_open n (looker x.id at) (omega (arith, some)), there, opened_twice n (looker x.id at) (looker x.id (at + length (bytes_at count at x)))) refl
