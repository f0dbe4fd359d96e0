-- Pieces of a file and files of a table, put into a folder one after the other.
use Rattle.std.proofs.Common.{◌≡◌, ℕ, ◌+◌, ◌<◌, ◌==◌, ◌≤◌, ◌⊎◌, ⊎_elim, inl, inr, Bool, true, false, List, [], ◌∷◌, ◌++◌, length, get_or, set, take, drop, refl, sym, ◌∙◌, ap, subst, arith, append_assoc, append-nil, length-append}
use Rattle.std.proofs.Math.Seq.{take-add, take-append_seam}
use Rattle.std.proofs.lemmas.Bool.{ne_eqb, cases_lt}
use Rattle.std.proofs.lemmas.List.{get_or-map, length-map, map-append, take-take, take-append-drop, take_all, length-take}
use Rattle.folder_core.specs.Files.{Entry, FolderFile, entry_of, entries_of, IsFirst, NoneNamed}
use Rattle.folder_core.specs.declared.state.FolderState.{Ghosts as FolderOf}
use Rattle.folder_core.specs.Puts.{Kept, Puts, HalfPuts}
use Rattle.image_tool.specs.Pieces.{PutsOne, PutsSome}
use Rattle.image_tool.specs.Putting.{put_named, put_all, put_files, put_entries, PutsFiles, PartlyPuts, FolderGoes}
use Rattle.image_tool.proofs.Placing.{FirstAt, NoneAt, set_put, push_put, put_twice, first_put, put_there, put_more}

abbrev no_entry : Entry
no_entry = record { name = []; size = 0 }

abbrev no_file : FolderFile
no_file = record { name = []; bytes = [] }

abbrev entry_name : Entry → List ℕ
entry_name e = e.name

abbrev file_name : FolderFile → List ℕ
file_name f = f.name

-- ---- the first of a name, and its entry

entry_at : {name : List ℕ} {i : ℕ} {entries : List Entry} → IsFirst name i entries → FirstAt entry_name no_entry name i entries
entry_at f = record { inside = f.inside; here = f.here; before = f.before }

entry_is : (files : List FolderFile) (k : ℕ) → k < length files → get_or (entries_of files) k no_entry ≡ entry_of (get_or files k no_file)
entry_is files k inside = get_or-map entry_of files k no_file no_entry inside

file_at : {name : List ℕ} {i : ℕ} (files : List FolderFile) → IsFirst name i (entries_of files) → FirstAt file_name no_file name i files
file_at {name} {i} files f =
    let inside : i < length files = omega (arith, f.inside, length-map files entry_of) in
    record {
      inside = inside;
      here = ap entry_name (sym (entry_is files i inside)) ∙ f.here;
      before = λ k below same. f.before k below (ap entry_name (entry_is files k (omega (arith, below, inside))) ∙ same);
    }

no_file_at : {name : List ℕ} (files : List FolderFile) → NoneNamed name (entries_of files) → NoneAt file_name no_file name files
no_file_at files none = λ k inside same. none k (omega (arith, inside, length-map files entry_of)) (ap entry_name (entry_is files k inside) ∙ same)

-- ---- bytes up to a place

up_to : (bytes : List ℕ) (at count : ℕ) → take (at + length (take count (drop at bytes))) bytes ≡ take at bytes ++ take count (drop at bytes)
up_to bytes at count = take-add at (length (take count (drop at bytes))) bytes ∙ ap (λ (l : List ℕ). take at bytes ++ l) (
    ap (λ (l : List ℕ). take (length (take count (drop at bytes))) l) (sym (take-append-drop count (drop at bytes))) ∙ take-append_seam (take count (drop at bytes)) (drop count (drop at bytes)))

-- a front of a front is a front
taken : (n count : ℕ) (xs : List ℕ) → (m : ℕ) × (take n (take count xs) ≡ take m xs)
taken n count xs = ⊎_elim
    (λ (below : n < count). (n, take-take n count xs (omega (arith, below))))
    (λ (above : count ≤ n). (count, take_all n (take count xs) (omega (arith, above, length-take count xs))))
    (cases_lt n count)

-- ---- a further piece

more_entry : (name : List ℕ) (size count i : ℕ) (was now new : List Entry) → now ≡ put_named entry_name (record { name = name; size = size }) was → FirstAt entry_name no_entry name i now →
    new ≡ set now i (record { name = name; size = (get_or now i no_entry).size + count }) → new ≡ put_named entry_name (record { name = name; size = size + count }) was
more_entry name size count i was now new now_is f new_is =
    let e : get_or now i no_entry ≡ record { name = name; size = size } = ap (λ (l : List Entry). get_or l i no_entry) now_is ∙ first_put entry_name no_entry (record { name = name; size = size }) i was (subst (λ (l : List Entry). FirstAt entry_name no_entry name i l) now_is f) in
    new_is ∙ ap (λ (x : Entry). set now i (record { name = name; size = x.size + count })) e ∙ set_put entry_name no_entry (record { name = name; size = size + count }) i now f
    ∙ ap (λ (l : List Entry). put_named entry_name (record { name = name; size = size + count }) l) now_is
    ∙ put_twice entry_name no_entry (record { name = name; size = size + count }) (record { name = name; size = size }) was refl

more_file : (name bytes piece : List ℕ) (i : ℕ) (was now new : List FolderFile) → now ≡ put_named file_name (record { name = name; bytes = bytes }) was → FirstAt file_name no_file name i now →
    new ≡ set now i (record { name = name; bytes = (get_or now i no_file).bytes ++ piece }) → new ≡ put_named file_name (record { name = name; bytes = bytes ++ piece }) was
more_file name bytes piece i was now new now_is f new_is =
    let e : get_or now i no_file ≡ record { name = name; bytes = bytes } = ap (λ (l : List FolderFile). get_or l i no_file) now_is ∙ first_put file_name no_file (record { name = name; bytes = bytes }) i was (subst (λ (l : List FolderFile). FirstAt file_name no_file name i l) now_is f) in
    new_is ∙ ap (λ (x : FolderFile). set now i (record { name = name; bytes = x.bytes ++ piece })) e ∙ set_put file_name no_file (record { name = name; bytes = bytes ++ piece }) i now f
    ∙ ap (λ (l : List FolderFile). put_named file_name (record { name = name; bytes = bytes ++ piece }) l) now_is
    ∙ put_twice file_name no_file (record { name = name; bytes = bytes ++ piece }) (record { name = name; bytes = bytes }) was refl

-- ---- the bytes of one file

-- those bytes of a file were put that stand before a place
abbrev pub PutsTo : {D : Type 0} → FolderOf D → (name bytes : List ℕ) → (at : ℕ) → (old new : D) → Type 0
PutsTo folder name bytes at old new = ((at ≡ 0) × Kept folder old new) ⊎ ((0 < at) × PutsOne folder name (take at bytes) old new)

module _ {D : Type 0} {folder : FolderOf D} where
  pub goes_none : (d : D) → FolderGoes folder d d
  goes_none d = record { told = λ tells. tells; told_before = λ tells. tells; faults = omega arith }

  pub kept_none : (d : D) → Kept folder d d
  kept_none d = record { told = λ tells. tells; told_before = λ tells. tells; entries = refl; files = refl; faults = omega arith }

  pub goes_kept : {old new : D} → Kept folder old new → FolderGoes folder old new
  goes_kept kept = record { told = kept.told; told_before = kept.told_before; faults = kept.faults }

  pub goes_puts : {first : Bool} {name piece : List ℕ} {old new : D} → Puts folder first name piece old new → FolderGoes folder old new
  goes_puts puts = record { told = puts.told; told_before = puts.told_before; faults = puts.faults }

  pub goes_half : {first : Bool} {name piece : List ℕ} {old new : D} → HalfPuts folder first name piece old new → FolderGoes folder old new
  goes_half half = ⊎_elim (λ kept. goes_kept kept) (λ some. goes_puts some.1) half

  pub goes_then : {old mid new : D} → FolderGoes folder old mid → FolderGoes folder mid new → FolderGoes folder old new
  goes_then first second = record {
    told = λ tells. second.told (first.told tells);
    told_before = λ tells. first.told_before (second.told_before tells);
    faults = omega (arith, first.faults, second.faults);
  }

  -- a first piece
  one_first : {name piece : List ℕ} {old new : D} → Puts folder true name piece old new → PutsOne folder name piece old new
  one_first {name} {piece} {old} {new} puts = record {
    entries = ⊎_elim
        (λ at. at.1.new_is ∙ ap (λ (n : ℕ). set (folder.entries old) at.0 (record { name = name; size = n })) (omega arith) ∙ set_put entry_name no_entry (record { name = name; size = length piece }) at.0 (folder.entries old) (entry_at at.1.is_first))
        (λ last. last.new_is ∙ push_put entry_name no_entry (record { name = name; size = length piece }) (folder.entries old) last.none)
        puts.entries;
    files = λ tells. ⊎_elim
        (λ at. at.1.new_is ∙ set_put file_name no_file (record { name = name; bytes = piece }) at.0 (folder.files old) (file_at (folder.files old) at.1.is_first))
        (λ last. last.new_is ∙ push_put file_name no_file (record { name = name; bytes = piece }) (folder.files old) (no_file_at (folder.files old) last.none))
        (puts.files tells);
  }

  -- a further piece
  one_more : {name bytes piece : List ℕ} {old mid new : D} → (folder.tells old → folder.tells mid) → PutsOne folder name bytes old mid → Puts folder false name piece mid new → PutsOne folder name (bytes ++ piece) old new
  one_more {name} {bytes} {piece} {old} {mid} {new} told one puts = record {
    entries = ⊎_elim
        (λ at. more_entry name (length bytes) (length piece) at.0 (folder.entries old) (folder.entries mid) (folder.entries new) one.entries (entry_at at.1.is_first) at.1.new_is
        ∙ ap (λ (n : ℕ). put_named entry_name (record { name = name; size = n }) (folder.entries old)) (sym (length-append bytes piece)))
        (λ last. absurd (put_there entry_name no_entry (record { name = name; size = length bytes }) (folder.entries old) (subst (λ (l : List Entry). NoneAt entry_name no_entry name l) one.entries last.none)))
        puts.entries;
    files = λ tells. ⊎_elim
        (λ at. more_file name bytes piece at.0 (folder.files old) (folder.files mid) (folder.files new) (one.files tells) (file_at (folder.files mid) at.1.is_first) at.1.new_is)
        (λ last. absurd (put_there file_name no_file (record { name = name; bytes = bytes }) (folder.files old) (subst (λ (l : List FolderFile). NoneAt file_name no_file name l) (one.files tells) (no_file_at (folder.files mid) last.none))))
        (puts.files (told tells));
  }

  -- over a folder that is as it was
  one_kept : {name bytes : List ℕ} {old mid new : D} → Kept folder old mid → PutsOne folder name bytes mid new → PutsOne folder name bytes old new
  one_kept {name} {bytes} kept one = record {
    entries = one.entries ∙ ap (λ (l : List Entry). put_named entry_name (record { name = name; size = length bytes }) l) kept.entries;
    files = λ tells. one.files (kept.told tells) ∙ ap (λ (l : List FolderFile). put_named file_name (record { name = name; bytes = bytes }) l) kept.files;
  }

  -- a folder that is as it was afterwards
  one_still : {name bytes : List ℕ} {old mid new : D} → PutsOne folder name bytes old mid → Kept folder mid new → PutsOne folder name bytes old new
  one_still one kept = record { entries = kept.entries ∙ one.entries; files = λ tells. kept.files ∙ one.files tells }

  kept_then : {old mid new : D} → Kept folder old mid → Kept folder mid new → Kept folder old new
  kept_then first second = record {
    told = λ tells. second.told (first.told tells);
    told_before = λ tells. first.told_before (second.told_before tells);
    entries = second.entries ∙ first.entries;
    files = second.files ∙ first.files;
    faults = omega (arith, first.faults, second.faults);
  }

  -- the bytes from a place on, put behind those before it
  pub to_next : {name : List ℕ} (bytes : List ℕ) (at count : ℕ) {old mid new : D} → FolderGoes folder old mid → PutsTo folder name bytes at old mid → Puts folder (at == 0) name (take count (drop at bytes)) mid new →
      PutsOne folder name (take (at + length (take count (drop at bytes))) bytes) old new
  to_next {name} bytes at count {old} {mid} {new} goes was puts = ⊎_elim
      (λ begun.
      let first : Puts folder true name (take count (drop 0 bytes)) mid new = rw (begun.0) at puts in
      rw (begun.0) (rw (up_to bytes 0 count) (one_kept begun.1 (one_first first))))
      (λ further.
      let more : Puts folder false name (take count (drop at bytes)) mid new = rw (ne_eqb at 0 (λ is. absurd (omega (arith, is, further.0)))) at puts in
      rw (up_to bytes at count) (one_more goes.told further.1 more))
      was

  pub to_half : {name : List ℕ} (bytes : List ℕ) (at count : ℕ) {old mid new : D} → FolderGoes folder old mid → PutsTo folder name bytes at old mid → HalfPuts folder (at == 0) name (take count (drop at bytes)) mid new → PutsSome folder name bytes old new
  to_half {name} bytes at count {old} {mid} {new} goes was half = ⊎_elim
      (λ kept. ⊎_elim (λ begun. inl (kept_then begun.1 kept)) (λ further. inr (at, one_still further.1 kept)) was)
      (λ some.
      let cut = taken some.0 count (drop at bytes) in
      inr (at + length (take cut.0 (drop at bytes)), to_next bytes at cut.0 goes was (rw (cut.1) at some.1)))
      half

  -- ---- files one after the other

  pub files_none : {old new : D} → Kept folder old new → PutsFiles folder [] old new
  unfolding put_all
  files_none kept = record { entries = kept.entries; files = λ tells. kept.files }

  pub files_one : (f : FolderFile) {old new : D} → PutsOne folder f.name f.bytes old new → PutsFiles folder (f ∷ []) old new
  unfolding put_all
  files_one f one = record { entries = one.entries; files = one.files }

  pub files_then : (front more : List FolderFile) {old mid new : D} → FolderGoes folder old mid → PutsFiles folder front old mid → PutsFiles folder more mid new → PutsFiles folder (front ++ more) old new
  files_then front more {old} {mid} {new} goes first second = record {
    entries = second.entries ∙ ap (λ (l : List Entry). put_entries more l) first.entries ∙ sym (put_more entry_name no_entry (entries_of front) (entries_of more) (folder.entries old)) ∙ ap (λ (l : List Entry). put_all entry_name l (folder.entries old)) (sym (map-append entry_of front more));
    files = λ tells. second.files (goes.told tells) ∙ ap (λ (l : List FolderFile). put_files more l) (first.files tells) ∙ sym (put_more file_name no_file front more (folder.files old));
  }

  pub partly_none : (those : List FolderFile) {old new : D} → Kept folder old new → PartlyPuts folder those old new
  partly_none those kept = record { front = []; rest = those; those_are = refl; puts = inl (files_none kept) }

  pub partly_all : (those : List FolderFile) {old new : D} → PutsFiles folder those old new → PartlyPuts folder those old new
  partly_all those puts = record { front = those; rest = []; those_are = sym (append-nil those); puts = inl puts }

  pub partly_one : (f : FolderFile) {old new : D} → PutsSome folder f.name f.bytes old new → PartlyPuts folder (f ∷ []) old new
  partly_one f some = ⊎_elim
      (λ kept. partly_none (f ∷ []) kept)
      (λ put. record { front = []; rest = f ∷ []; those_are = refl; puts = inr (record { next = f; others = []; rest_is = refl; place = put.0; puts = files_one (record { name = f.name; bytes = take put.0 f.bytes }) put.1 }) })
      some

  pub partly_more : (front more tail those : List FolderFile) {old mid new : D} → those ≡ front ++ (more ++ tail) → FolderGoes folder old mid → PutsFiles folder front old mid → PartlyPuts folder more mid new → PartlyPuts folder those old new
  partly_more front more tail those {old} {mid} {new} those_are goes first p = record {
    front = front ++ p.front;
    rest = p.rest ++ tail;
    those_are = those_are ∙ ap (λ (l : List FolderFile). front ++ (l ++ tail)) p.those_are ∙ ap (λ (l : List FolderFile). front ++ l) (append_assoc p.front p.rest tail) ∙ sym (append_assoc front p.front (p.rest ++ tail));
    puts = ⊎_elim
        (λ whole. inl (files_then front p.front goes first whole))
        (λ part. inr (record {
          next = part.next;
          others = part.others ++ tail;
          rest_is = ap (λ (l : List FolderFile). l ++ tail) part.rest_is;
          place = part.place;
          puts = subst (λ (l : List FolderFile). PutsFiles folder l old new) (sym (append_assoc front p.front (record { name = part.next.name; bytes = take part.place part.next.bytes } ∷ []))) (files_then front (p.front ++ record { name = part.next.name; bytes = take part.place part.next.bytes } ∷ []) goes first part.puts);
        }))
        p.puts;
  }
