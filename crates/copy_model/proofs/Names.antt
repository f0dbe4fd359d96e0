-- Files of a table by their names, told by their ids.
use Rattle.std.proofs.Common.{◌≡◌, ◌≢◌, ℕ, List, [], ◌∷◌, Bool, true, false, ◌==◌, Option, Some, None, refl, sym, ◌∙◌, ap, ⊎_elim}
use Rattle.std.specs.Prelude.{find}
use Rattle.std.specs.List.{All}
use Rattle.std.proofs.lemmas.List.Elements.{All-head, All-tail}
use Rattle.std.proofs.lemmas.Bool.{cases_Bool}
use Rattle.std.proofs.lemmas.Option.{none-some, same_Some}
use Rattle.table_model.specs.Table.{File, same_text, file_of, file_named, put_file, drop_file}
use Rattle.call_model.proofs.Tables.{file_of-put, file_of-put_other, file_of-drop}
use Rattle.call_model.proofs.Unused.{found-passes}
use Rattle.image_laws.proofs.Records.{bytes_same}
use Rattle.copy_model.specs.Under.{IsTable}

-- what holds of all holds of the one that is found
pub found-all : {X : Type 0} (P : X → Type 0) (t : X → Bool) (xs : List X) (x : X) → All P xs → find t xs ≡ Some x → P x
found-all P t [] x all is = absurd (none-some x is)
found-all P t (y ∷ ys) x all is = ⊎_elim
    (λ (yes : t y ≡ true). let same : y ≡ x = same_Some y x (rw yes at is) in rw (← same) (All-head P y ys all))
    (λ (no : t y ≡ false). found-all P t ys x (All-tail P y ys all) (rw no at is))
    (cases_Bool (t y))

-- the file of a name is that of its id, and has the name
pub named-is : (files : List File) (name : List ℕ) (f : File) → IsTable files → file_named name files ≡ Some f → (file_of f.id files ≡ Some f) × (f.name ≡ name)
unfolding file_named
named-is files name f table is = (found-all (λ (x : File). file_of x.id files ≡ Some x) (λ (x : File). same_text x.name name) files f table.by_id is, bytes_same f.name name (found-passes (λ (x : File). same_text x.name name) files f is))

-- and the file of an id is that of its name
pub id-named : (files : List File) (id : ℕ) (f : File) → IsTable files → file_of id files ≡ Some f → file_named f.name files ≡ Some f
unfolding file_of
id-named files id f table is = found-all (λ (x : File). file_named x.name files ≡ Some x) (λ (x : File). x.id == id) files f table.by_name is

-- two tables have the same file of a name, where each one's file of that name is the other's of its id
pub names-agree : (name : List ℕ) (files more : List File) → IsTable files → IsTable more →
    ((f : File) → f.name ≡ name → file_of f.id files ≡ Some f → file_of f.id more ≡ Some f) → ((f : File) → f.name ≡ name → file_of f.id more ≡ Some f → file_of f.id files ≡ Some f) →
    file_named name more ≡ file_named name files
names-agree name files more table other there back = go (file_named name files) (file_named name more) refl refl
  where
    go : (o p : Option File) → file_named name files ≡ o → file_named name more ≡ p → p ≡ o
    go None None a b = refl
    go (Some f) p a b = let w = named-is files name f table a in sym b ∙ ap (λ (n : List ℕ). file_named n more) (sym w.1) ∙ id-named more f.id f other (there f w.1 w.0)
    go None (Some f) a b = let w = named-is more name f other b in absurd (none-some f (sym a ∙ ap (λ (n : List ℕ). file_named n files) (sym w.1) ∙ id-named files f.id f table (back f w.1 w.0)))

-- no file has the id that was taken out
pub dropped-none : (id : ℕ) (files : List File) → file_of id (drop_file id files) ≡ None
unfolding file_of
dropped-none id [] = refl
dropped-none id (x ∷ xs) = ⊎_elim
    (λ (same : (x.id == id) ≡ true). rw same (dropped-none id xs))
    (λ (other : (x.id == id) ≡ false). rw (other, other) (dropped-none id xs))
    (cases_Bool (x.id == id))

-- ---- a file of an unused id is put

module _ (w : File) (files : List File) (table : IsTable files) (put : IsTable (put_file w files)) (unused : file_of w.id files ≡ None) where
  -- other names have what they had
  pub put-others : (name : List ℕ) → w.name ≢ name → file_named name (put_file w files) ≡ file_named name files
  put-others name other = names-agree name files (put_file w files) table put
      (λ f named there. file_of-put_other f.id w files (λ same. none-some f (sym unused ∙ ap (λ (id : ℕ). file_of id files) same ∙ there)) ∙ there)
      (λ f named there. sym (file_of-put_other f.id w files (λ same. other (ap (λ (x : File). x.name) (same_Some w f (sym (file_of-put w files) ∙ ap (λ (id : ℕ). file_of id (put_file w files)) same ∙ there)) ∙ named))) ∙ there)

  -- its own name has it
  pub put-own : file_named w.name (put_file w files) ≡ Some w
  put-own = id-named (put_file w files) w.id w put (file_of-put w files)

-- ---- a file is taken out

module _ (old : File) (files : List File) (table : IsTable files) (dropped : IsTable (drop_file old.id files)) (there : file_of old.id files ≡ Some old) where
  pub drop-others : (name : List ℕ) → old.name ≢ name → file_named name (drop_file old.id files) ≡ file_named name files
  drop-others name other = names-agree name files (drop_file old.id files) table dropped
      (λ f named at. file_of-drop f.id old.id files (λ same. other (ap (λ (x : File). x.name) (same_Some old f (sym there ∙ ap (λ (id : ℕ). file_of id files) same ∙ at)) ∙ named)) ∙ at)
      (λ f named at. sym (file_of-drop f.id old.id files (λ same. none-some f (sym (dropped-none old.id files) ∙ ap (λ (id : ℕ). file_of id (drop_file old.id files)) same ∙ at))) ∙ at)

  -- its name has none
  pub drop-own : file_named old.name (drop_file old.id files) ≡ None
  drop-own = go (file_named old.name (drop_file old.id files)) refl
    where
      go : (o : Option File) → file_named old.name (drop_file old.id files) ≡ o → o ≡ None
      go None is = refl
      go (Some f) is =
          let w = named-is (drop_file old.id files) old.name f dropped is in
          let apart : old.id ≡ f.id → ⊥ = λ same. none-some f (sym (dropped-none old.id files) ∙ ap (λ (id : ℕ). file_of id (drop_file old.id files)) same ∙ w.0) in
          let at : file_of f.id files ≡ Some f = sym (file_of-drop f.id old.id files apart) ∙ w.0 in
          absurd (apart (ap (λ (x : File). x.id) (same_Some old f (sym (id-named files old.id old table there) ∙ ap (λ (n : List ℕ). file_named n files) (sym w.1) ∙ id-named files f.id f table at))))

-- ---- a file is given another name

module _ (old new : File) (files : List File) (table : IsTable files) (put : IsTable (put_file new files)) (there : file_of old.id files ≡ Some old) (same_id : new.id ≡ old.id) where
  pub over-others : (name : List ℕ) → old.name ≢ name → new.name ≢ name → file_named name (put_file new files) ≡ file_named name files
  over-others name other another = names-agree name files (put_file new files) table put
      (λ f named at. file_of-put_other f.id new files (λ same. other (ap (λ (x : File). x.name) (same_Some old f (sym there ∙ ap (λ (id : ℕ). file_of id files) (sym same_id ∙ same) ∙ at)) ∙ named)) ∙ at)
      (λ f named at. sym (file_of-put_other f.id new files (λ same. another (ap (λ (x : File). x.name) (same_Some new f (sym (file_of-put new files) ∙ ap (λ (id : ℕ). file_of id (put_file new files)) same ∙ at)) ∙ named))) ∙ at)

  -- its old name has none
  pub over-old : old.name ≢ new.name → file_named old.name (put_file new files) ≡ None
  over-old apart_names = go (file_named old.name (put_file new files)) refl
    where
      go : (o : Option File) → file_named old.name (put_file new files) ≡ o → o ≡ None
      go None is = refl
      go (Some f) is =
          let w = named-is (put_file new files) old.name f put is in
          let apart : new.id ≡ f.id → ⊥ = λ same. apart_names (sym w.1 ∙ ap (λ (x : File). x.name) (same_Some f new (sym w.0 ∙ ap (λ (id : ℕ). file_of id (put_file new files)) (sym same) ∙ file_of-put new files))) in
          let at : file_of f.id files ≡ Some f = sym (file_of-put_other f.id new files apart) ∙ w.0 in
          absurd (apart (same_id ∙ ap (λ (x : File). x.id) (same_Some old f (sym (id-named files old.id old table there) ∙ ap (λ (n : List ℕ). file_named n files) (sym w.1) ∙ id-named files f.id f table at))))

-- a file that was put is that of its name
pub put-over : (w : File) (files : List File) → IsTable (put_file w files) → file_named w.name (put_file w files) ≡ Some w
put-over w files put = id-named (put_file w files) w.id w put (file_of-put w files)
