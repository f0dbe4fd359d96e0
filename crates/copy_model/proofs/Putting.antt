-- Files that are put into a table under an id that no file has, and taken out again: for any list of files.
use Rattle.std.proofs.Common.{◌≡◌, ◌≢◌, ℕ, List, [], ◌∷◌, Bool, true, false, ◌==◌, Some, None, refl, sym, ◌∙◌, ap, arith, ⊎_elim}
use Rattle.std.specs.Prelude.{nat_lt, find}
use Rattle.std.specs.List.{list_any}
use Rattle.std.proofs.lemmas.Bool.{cases_Bool, or_parts, eq-eqb, ne_eqb, eqb-false, le-ltb}
use Rattle.std.proofs.lemmas.Option.{none-some, same_Some}
use Rattle.table_model.specs.Table.{File, has_id, same_text, file_named, put_file, drop_file}
use Rattle.image_laws.proofs.Records.{bytes_same, bytes_equal}

-- two names that differ
pub unlike : (a b : List ℕ) → a ≢ b → same_text a b ≡ false
unlike a b other = ⊎_elim (λ (yes : same_text a b ≡ true). absurd (other (bytes_same a b yes))) (λ (no : same_text a b ≡ false). no) (cases_Bool (same_text a b))

-- the file that is put has an id of its own
pub apart : (w x : File) → (x.id == w.id) ≡ false → (w.id == x.id) ≡ false
apart w x other = ne_eqb w.id x.id (λ same. eqb-false x.id w.id other (sym same))

-- the first that passes is the same, where the one that is put doesn't
pub find-put : (t : File → Bool) (w : File) (files : List File) → has_id w.id files ≡ false → t w ≡ false → find t (put_file w files) ≡ find t files
unfolding has_id
find-put t w [] unused fails = rw fails refl
find-put t w (x ∷ xs) unused fails =
    let parts = or_parts (x.id == w.id) (list_any (λ (y : File). y.id == w.id) xs) unused in
    ⊎_elim
    (λ (less : nat_lt w.id x.id ≡ true). rw less (rw fails refl))
    (λ (more : nat_lt w.id x.id ≡ false). rw more (rw (apart w x parts.0) (⊎_elim
    (λ (yes : t x ≡ true). rw yes refl)
    (λ (no : t x ≡ false). rw no (find-put t w xs parts.1 fails))
    (cases_Bool (t x)))))
    (cases_Bool (nat_lt w.id x.id))

-- and it is that one, where no other passes
pub find-put_own : (t : File → Bool) (w : File) (files : List File) → has_id w.id files ≡ false → t w ≡ true → find t files ≡ None → find t (put_file w files) ≡ Some w
unfolding has_id
find-put_own t w [] unused passes none = rw passes refl
find-put_own t w (x ∷ xs) unused passes none =
    let parts = or_parts (x.id == w.id) (list_any (λ (y : File). y.id == w.id) xs) unused in
    ⊎_elim
    (λ (less : nat_lt w.id x.id ≡ true). rw less (rw passes refl))
    (λ (more : nat_lt w.id x.id ≡ false). rw more (rw (apart w x parts.0) (⊎_elim
    (λ (yes : t x ≡ true). absurd (none-some x (sym (rw yes at none))))
    (λ (no : t x ≡ false). rw no (find-put_own t w xs parts.1 passes (rw no at none)))
    (cases_Bool (t x)))))
    (cases_Bool (nat_lt w.id x.id))

-- one that is found has its id there
pub find-has_id : (t : File → Bool) (files : List File) (x : File) → find t files ≡ Some x → has_id x.id files ≡ true
unfolding has_id
find-has_id t [] x is = absurd (none-some x is)
find-has_id t (y ∷ ys) x is = ⊎_elim
    (λ (yes : t y ≡ true). let same : y ≡ x = same_Some y x (rw yes at is) in rw (eq-eqb y.id x.id (ap (λ (f : File). f.id) same)) refl)
    (λ (no : t y ≡ false). let rest = find-has_id t ys x (rw no at is) in ⊎_elim
    (λ (here : (y.id == x.id) ≡ true). rw here refl)
    (λ (there : (y.id == x.id) ≡ false). rw there rest)
    (cases_Bool (y.id == x.id)))
    (cases_Bool (t y))

-- and it is found still once one of another id is taken out
pub find-drop : (t : File → Bool) (id : ℕ) (files : List File) (x : File) → find t files ≡ Some x → x.id ≢ id → find t (drop_file id files) ≡ Some x
find-drop t id [] x is other = absurd (none-some x is)
find-drop t id (y ∷ ys) x is other = ⊎_elim
    (λ (yes : t y ≡ true).
    let same : y ≡ x = same_Some y x (rw yes at is) in
    rw (ne_eqb y.id id (λ e. other (ap (λ (f : File). f.id) (sym same) ∙ e))) (rw yes (ap (λ (f : File). Some f) same)))
    (λ (no : t y ≡ false).
    let rest = find-drop t id ys x (rw no at is) other in
    ⊎_elim
    (λ (gone : (y.id == id) ≡ true). rw gone rest)
    (λ (stays : (y.id == id) ≡ false). rw stays (rw no rest))
    (cases_Bool (y.id == id)))
    (cases_Bool (t y))

-- nothing is taken out where no file has the id
pub drop-unused : (id : ℕ) (files : List File) → has_id id files ≡ false → drop_file id files ≡ files
unfolding has_id
drop-unused id [] unused = refl
drop-unused id (x ∷ xs) unused =
    let parts = or_parts (x.id == id) (list_any (λ (y : File). y.id == id) xs) unused in
    rw parts.0 (ap (λ (l : List File). x ∷ l) (drop-unused id xs parts.1))

-- what is put and taken out again leaves what was there
pub drop-put : (w : File) (files : List File) → has_id w.id files ≡ false → drop_file w.id (put_file w files) ≡ files
unfolding has_id
drop-put w [] unused = rw (eq-eqb w.id w.id refl) refl
drop-put w (x ∷ xs) unused =
    let parts = or_parts (x.id == w.id) (list_any (λ (y : File). y.id == w.id) xs) unused in
    ⊎_elim
    (λ (less : nat_lt w.id x.id ≡ true). rw less (rw (eq-eqb w.id w.id refl) (drop-unused w.id (x ∷ xs) unused)))
    (λ (more : nat_lt w.id x.id ≡ false). rw more (rw (apart w x parts.0) (rw parts.0 (ap (λ (l : List File). x ∷ l) (drop-put w xs parts.1)))))
    (cases_Bool (nat_lt w.id x.id))

-- ---- by name

pub named-put : (name : List ℕ) (w : File) (files : List File) → has_id w.id files ≡ false → same_text w.name name ≡ false → file_named name (put_file w files) ≡ file_named name files
unfolding file_named
named-put name w files unused other = find-put (λ (x : File). same_text x.name name) w files unused other

pub named-put_own : (w : File) (files : List File) → has_id w.id files ≡ false → file_named w.name files ≡ None → file_named w.name (put_file w files) ≡ Some w
unfolding file_named
named-put_own w files unused none = find-put_own (λ (x : File). same_text x.name w.name) w files unused (bytes_equal w.name) none

pub named-has_id : (name : List ℕ) (files : List File) (x : File) → file_named name files ≡ Some x → has_id x.id files ≡ true
unfolding file_named
named-has_id name files x is = find-has_id (λ (y : File). same_text y.name name) files x is

pub named-drop : (name : List ℕ) (id : ℕ) (files : List File) (x : File) → file_named name files ≡ Some x → x.id ≢ id → file_named name (drop_file id files) ≡ Some x
unfolding file_named
named-drop name id files x is other = find-drop (λ (y : File). same_text y.name name) id files x is other

-- a file put over that of its id, once another one is gone, might have been put before that one went
pub over-drop : (w w2 : File) (id : ℕ) (files : List File) → w2.id ≡ w.id → w.id ≢ id → put_file w2 (drop_file id (put_file w files)) ≡ drop_file id (put_file w2 files)
over-drop w w2 id files same other = go files
  where
    stays : (w.id == id) ≡ false
    stays = ne_eqb w.id id other

    stays2 : (w2.id == id) ≡ false
    stays2 = ne_eqb w2.id id (λ e. other (sym same ∙ e))

    -- where it is the first one
    first : (rest : List File) → put_file w2 (drop_file id (w ∷ rest)) ≡ drop_file id (w2 ∷ rest)
    first rest = rw (stays, stays2) (rw (le-ltb w2.id w.id (omega (arith, same)), eq-eqb w2.id w.id same) refl)

    go : (files : List File) → put_file w2 (drop_file id (put_file w files)) ≡ drop_file id (put_file w2 files)
    go [] = first []
    go (x ∷ xs) = ⊎_elim
        (λ (less : nat_lt w.id x.id ≡ true). let less2 : nat_lt w2.id x.id ≡ true = rw same less in rw (less, less2) (first (x ∷ xs)))
        (λ (more : nat_lt w.id x.id ≡ false).
        let more2 : nat_lt w2.id x.id ≡ false = rw same more in
        ⊎_elim
        (λ (here : (w.id == x.id) ≡ true). let here2 : (w2.id == x.id) ≡ true = rw same here in rw (more, here, more2, here2) (first xs))
        (λ (away : (w.id == x.id) ≡ false).
        let rest = go xs in
        let away2 : (w2.id == x.id) ≡ false = rw same away in
        rw (more, away, more2, away2) (⊎_elim
        (λ (gone : (x.id == id) ≡ true). rw gone rest)
        (λ (left : (x.id == id) ≡ false). rw left (rw (more2, away2) (ap (λ (l : List File). x ∷ l) rest)))
        (cases_Bool (x.id == id))))
        (cases_Bool (w.id == x.id)))
        (cases_Bool (nat_lt w.id x.id))
