-- Tables in which files are found by id and name, after a file is put, taken out, or gets the name of one that was taken out.
use Rattle.std.proofs.Common.{◌≡◌, ◌≢◌, ℕ, List, [], ◌∷◌, Bool, true, false, ◌==◌, Option, Some, None, refl, sym, ◌∙◌, ap, subst, ⊎_elim}
use Rattle.std.specs.Prelude.{nat_lt, find}
use Rattle.std.specs.List.{list_any, All}
use Rattle.std.proofs.lemmas.Bool.{cases_Bool, or_parts, ne_eqb, eqb-false}
use Rattle.std.proofs.lemmas.List.Elements.{All-nil, All-cons, All-head, All-tail, All-weaker}
use Rattle.std.proofs.lemmas.Option.{none-some, same_Some}
use Rattle.table_model.specs.Table.{File, has_id, same_text, file_of, file_named, put_file, drop_file}
use Rattle.image_laws.proofs.Records.{bytes_equal}
use Rattle.call_model.proofs.Tables.{file_of-put, file_of-put_other, file_of-drop}
use Rattle.call_model.proofs.Unused.{file_of-unused}
use Rattle.copy_model.specs.Copying.{without_found, without_name}
use Rattle.copy_model.specs.Under.{IsTable}
use Rattle.copy_model.proofs.Putting.{apart, unlike, named-put, named-put_own, named-drop}
use Rattle.copy_model.proofs.Names.{named-is, drop-own}

-- what holds of the files and of one more
pub all-put : (P : File → Type 0) (w : File) (files : List File) → P w → All P files → All P (put_file w files)
all-put P w [] here all = All-cons P w [] here all
all-put P w (x ∷ xs) here all = ⊎_elim
    (λ (less : nat_lt w.id x.id ≡ true). rw less (All-cons P w (x ∷ xs) here all))
    (λ (more : nat_lt w.id x.id ≡ false). rw more (⊎_elim
    (λ (same : (w.id == x.id) ≡ true). rw same (All-cons P w xs here (All-tail P x xs all)))
    (λ (other : (w.id == x.id) ≡ false). rw other (All-cons P x (put_file w xs) (All-head P x xs all) (all-put P w xs here (All-tail P x xs all))))
    (cases_Bool (w.id == x.id))))
    (cases_Bool (nat_lt w.id x.id))

-- what is left once an id is taken out: a fact that holds of files of other ids
pub all-drop : (P Q : File → Type 0) (id : ℕ) (files : List File) → ((f : File) → f.id ≢ id → P f → Q f) → All P files → All Q (drop_file id files)
all-drop P Q id [] more all = All-nil Q
all-drop P Q id (x ∷ xs) more all =
    let rest = all-drop P Q id xs more (All-tail P x xs all) in
    ⊎_elim
    (λ (gone : (x.id == id) ≡ true). rw gone rest)
    (λ (stays : (x.id == id) ≡ false). rw stays (All-cons Q x (drop_file id xs) (more x (eqb-false x.id id stays) (All-head P x xs all)) rest))
    (cases_Bool (x.id == id))

-- a file of an unused id, by ids
put-ids : (w : File) (files : List File) → has_id w.id files ≡ false → All (λ f. file_of f.id files ≡ Some f) files → All (λ f. file_of f.id (put_file w files) ≡ Some f) (put_file w files)
put-ids w files unused all =
    all-put (λ (f : File). file_of f.id (put_file w files) ≡ Some f) w files (file_of-put w files)
    (All-weaker (λ (f : File). file_of f.id files ≡ Some f) (λ (f : File). file_of f.id (put_file w files) ≡ Some f)
    (λ f at. file_of-put_other f.id w files (λ same. none-some f (sym (file_of-unused w.id files unused) ∙ ap (λ (id : ℕ). file_of id files) same ∙ at)) ∙ at)
    files all)

-- a file of an unused id and an unused name
pub table-put : (w : File) (files : List File) → IsTable files → has_id w.id files ≡ false → file_named w.name files ≡ None → IsTable (put_file w files)
table-put w files table unused none = record {
  by_id = put-ids w files unused table.by_id;
  by_name = all-put (λ (f : File). file_named f.name (put_file w files) ≡ Some f) w files (named-put_own w files unused none)
      (All-weaker (λ (f : File). file_named f.name files ≡ Some f) (λ (f : File). file_named f.name (put_file w files) ≡ Some f)
      (λ f at. named-put f.name w files unused (unlike w.name f.name (λ same. none-some f (sym none ∙ ap (λ (n : List ℕ). file_named n files) same ∙ at))) ∙ at)
      files table.by_name);
}

drop-ids : (id : ℕ) (files : List File) → All (λ f. file_of f.id files ≡ Some f) files → All (λ f. file_of f.id (drop_file id files) ≡ Some f) (drop_file id files)
drop-ids id files all =
    all-drop (λ (f : File). file_of f.id files ≡ Some f) (λ (f : File). file_of f.id (drop_file id files) ≡ Some f) id files
    (λ f other at. file_of-drop f.id id files (λ same. other (sym same)) ∙ at) all

-- without a file
pub table-drop : (id : ℕ) (files : List File) → IsTable files → IsTable (drop_file id files)
table-drop id files table = record {
  by_id = drop-ids id files table.by_id;
  by_name = all-drop (λ (f : File). file_named f.name files ≡ Some f) (λ (f : File). file_named f.name (drop_file id files) ≡ Some f) id files
      (λ f other at. named-drop f.name id files f at other) table.by_name;
}

table-less : (o : Option File) (files : List File) → IsTable files → IsTable (without_found o files)
table-less None files table = table
table-less (Some x) files table = table-drop x.id files table

pub table-without : (name : List ℕ) (files : List File) → IsTable files → IsTable (without_name name files)
unfolding without_name
table-without name files table = table-less (file_named name files) files table

-- the one that is put is found, where no other passes that is left
find-put_drop : (t : File → Bool) (w : File) (id : ℕ) (files : List File) → w.id ≢ id → has_id w.id files ≡ false → t w ≡ true → find t (drop_file id files) ≡ None → find t (drop_file id (put_file w files)) ≡ Some w
unfolding has_id
find-put_drop t w id [] other unused passes none = rw (ne_eqb w.id id other) (rw passes refl)
find-put_drop t w id (x ∷ xs) other unused passes none =
    let parts = or_parts (x.id == w.id) (list_any (λ (y : File). y.id == w.id) xs) unused in
    ⊎_elim
    (λ (less : nat_lt w.id x.id ≡ true). rw less (rw (ne_eqb w.id id other) (rw passes refl)))
    (λ (more : nat_lt w.id x.id ≡ false). rw more (rw (apart w x parts.0) (⊎_elim
    (λ (gone : (x.id == id) ≡ true). rw gone (find-put_drop t w id xs other parts.1 passes (rw gone at none)))
    (λ (left : (x.id == id) ≡ false).
    let none_left = rw left at none in
    rw left (⊎_elim
    (λ (yes : t x ≡ true). absurd (none-some x (sym (rw yes at none_left))))
    (λ (no : t x ≡ false). rw no (find-put_drop t w id xs other parts.1 passes (rw no at none_left)))
    (cases_Bool (t x))))
    (cases_Bool (x.id == id)))))
    (cases_Bool (nat_lt w.id x.id))

named-put_drop : (w : File) (id : ℕ) (files : List File) → w.id ≢ id → has_id w.id files ≡ false → file_named w.name (drop_file id files) ≡ None → file_named w.name (drop_file id (put_file w files)) ≡ Some w
unfolding file_named
named-put_drop w id files other unused none = find-put_drop (λ (x : File). same_text x.name w.name) w id files other unused (bytes_equal w.name) none

-- a file of an unused id in the place of the one that had its name
pub table-instead : (w old : File) (files : List File) → IsTable files → has_id w.id files ≡ false → w.id ≢ old.id → file_named w.name files ≡ Some old → IsTable (drop_file old.id (put_file w files))
table-instead w old files table unused other there =
    let was = named-is files w.name old table there in
    let none : file_named w.name (drop_file old.id files) ≡ None = subst (λ (n : List ℕ). file_named n (drop_file old.id files) ≡ None) was.1 (drop-own old files table (table-drop old.id files table) was.0) in
    record {
      by_id = drop-ids old.id (put_file w files) (put-ids w files unused table.by_id);
      by_name = all-drop (λ (f : File). f.id ≢ old.id → file_named f.name (drop_file old.id (put_file w files)) ≡ Some f) (λ (f : File). file_named f.name (drop_file old.id (put_file w files)) ≡ Some f) old.id (put_file w files)
          (λ f away at. at away)
          (all-put (λ (f : File). f.id ≢ old.id → file_named f.name (drop_file old.id (put_file w files)) ≡ Some f) w files (λ away. named-put_drop w old.id files other unused none)
          (All-weaker (λ (f : File). file_named f.name files ≡ Some f) (λ (f : File). f.id ≢ old.id → file_named f.name (drop_file old.id (put_file w files)) ≡ Some f)
          (λ f at away. named-drop f.name old.id (put_file w files) f
          (named-put f.name w files unused (unlike w.name f.name (λ same. away (ap (λ (x : File). x.id) (same_Some f old (sym at ∙ ap (λ (n : List ℕ). file_named n files) (sym same) ∙ there))))) ∙ at) away)
          files table.by_name));
    }
