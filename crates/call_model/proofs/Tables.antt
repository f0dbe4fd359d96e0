-- The file of an id, after a file is put into a table or taken out of it: for any list of files.
use Rattle.std.proofs.Common.{◌≡◌, ℕ, List, [], ◌∷◌, true, false, Option, Some, ◌==◌, ⊎_elim, sym, ◌∙◌, ap, refl}
use Rattle.std.specs.Prelude.{nat_lt, if◌then◌else◌}
use Rattle.std.proofs.lemmas.Bool.{cases_Bool, eq-eqb, ne_eqb, eqb-true, eqb-false}
use Rattle.std.proofs.lemmas.Option.{none-some, same_Some}
use Rattle.table_model.specs.Table.{File, file_of, put_file, drop_file}

-- a file that was put there is the one of its id
pub file_of-put : (f : File) (files : List File) → file_of f.id (put_file f files) ≡ Some f
unfolding file_of
file_of-put f [] = rw (eq-eqb f.id f.id refl) refl
file_of-put f (x ∷ files) = ⊎_elim
    (λ (less : nat_lt f.id x.id ≡ true). rw less (rw (eq-eqb f.id f.id refl) refl))
    (λ (more : nat_lt f.id x.id ≡ false). rw more (⊎_elim
    (λ (same : (f.id == x.id) ≡ true). rw same (rw (eq-eqb f.id f.id refl) refl))
    (λ (other : (f.id == x.id) ≡ false).
    let away : (x.id == f.id) ≡ false = ne_eqb x.id f.id (λ e. eqb-false f.id x.id other (sym e)) in
    rw other (rw away (file_of-put f files)))
    (cases_Bool (f.id == x.id))))
    (cases_Bool (nat_lt f.id x.id))

-- and each other id has the file that it had
pub file_of-put_other : (id : ℕ) (f : File) (files : List File) → (f.id ≡ id → ⊥) → file_of id (put_file f files) ≡ file_of id files
unfolding file_of
file_of-put_other id f [] apart = rw (ne_eqb f.id id apart) refl
file_of-put_other id f (x ∷ files) apart =
    let away : (f.id == id) ≡ false = ne_eqb f.id id apart in
    ⊎_elim
    (λ (less : nat_lt f.id x.id ≡ true). rw less (rw away refl))
    (λ (more : nat_lt f.id x.id ≡ false). rw more (⊎_elim
    (λ (same : (f.id == x.id) ≡ true).
    let here : (x.id == id) ≡ false = ne_eqb x.id id (λ e. apart (eqb-true f.id x.id same ∙ e)) in
    rw same (rw (away, here) refl))
    (λ (other : (f.id == x.id) ≡ false). rw other (ap (λ (o : Option File). if x.id == id then Some x else o) (file_of-put_other id f files apart)))
    (cases_Bool (f.id == x.id))))
    (cases_Bool (nat_lt f.id x.id))

-- so has it where a file of another id is taken out
pub file_of-drop : (id other : ℕ) (files : List File) → (other ≡ id → ⊥) → file_of id (drop_file other files) ≡ file_of id files
unfolding file_of
file_of-drop id other [] apart = refl
file_of-drop id other (x ∷ files) apart = ⊎_elim
    (λ (same : (x.id == other) ≡ true).
    let here : (x.id == id) ≡ false = ne_eqb x.id id (λ e. apart (sym (eqb-true x.id other same) ∙ e)) in
    rw (same, here) (file_of-drop id other files apart))
    (λ (stays : (x.id == other) ≡ false). rw stays (ap (λ (o : Option File). if x.id == id then Some x else o) (file_of-drop id other files apart)))
    (cases_Bool (x.id == other))

-- the file of an id has that id
pub file_of-id : (id : ℕ) (files : List File) (f : File) → file_of id files ≡ Some f → f.id ≡ id
unfolding file_of
file_of-id id [] f h = absurd (none-some f h)
file_of-id id (x ∷ files) f h = ⊎_elim
    (λ (yes : (x.id == id) ≡ true). let is : x ≡ f = same_Some x f (rw yes at h) in sym (ap (λ (y : File). y.id) is) ∙ eqb-true x.id id yes)
    (λ (no : (x.id == id) ≡ false). file_of-id id files f (rw no at h))
    (cases_Bool (x.id == id))
