-- What copying one record makes of each name.
use Rattle.std.proofs.Common.{◌≡◌, ◌≢◌, ℕ, List, [], ◌∷◌, ◌++◌, Bool, true, false, Option, Some, None, refl, sym, ◌∙◌, ap, subst, ⊎_elim, inl, inr}
use Rattle.std.specs.Prelude.{find}
use Rattle.std.proofs.lemmas.Bool.{cases_Bool}
use Rattle.std.proofs.lemmas.Option.{none-some}
use Rattle.table_model.specs.Table.{File, same_text, file_of, file_named, put_file, drop_file}
use Rattle.std.specs.Cmp.Lexicographic.{other_text}
use Rattle.image_laws.proofs.Records.{bytes_same, bytes_equal}
use Rattle.copy_model.specs.Copying.{working, is_copy, is_copied, keeps, without_found, without_name}
use Rattle.copy_model.specs.Under.{IsTable, HasCopy, MayHave, HasNow, IsUnder, IsCopied, IsPart}
use Rattle.copy_model.proofs.Names.{named-is, put-others, drop-others, drop-own, over-others, over-old, put-over}

-- ---- lists of records

found-left : {X : Type 0} (t : X → Bool) (xs ys : List X) (x : X) → find t xs ≡ Some x → find t (xs ++ ys) ≡ Some x
found-left t [] ys x is = absurd (none-some x is)
found-left t (y ∷ xs) ys x is = ⊎_elim
    (λ (yes : t y ≡ true). rw yes (rw yes at is))
    (λ (no : t y ≡ false). rw no (found-left t xs ys x (rw no at is)))
    (cases_Bool (t y))

found-right : {X : Type 0} (t : X → Bool) (xs ys : List X) → find t xs ≡ None → find t (xs ++ ys) ≡ find t ys
found-right t [] ys none = refl
found-right t (y ∷ xs) ys none = ⊎_elim
    (λ (yes : t y ≡ true). absurd (none-some y (sym (rw yes at none))))
    (λ (no : t y ≡ false). rw no (found-right t xs ys (rw no at none)))
    (cases_Bool (t y))

pub named-left : (name : List ℕ) (front rest : List File) (f : File) → file_named name front ≡ Some f → file_named name (front ++ rest) ≡ Some f
unfolding file_named
named-left name front rest f is = found-left (λ (x : File). same_text x.name name) front rest f is

named-right : (name : List ℕ) (front rest : List File) → file_named name front ≡ None → file_named name (front ++ rest) ≡ file_named name rest
unfolding file_named
named-right name front rest none = found-right (λ (x : File). same_text x.name name) front rest none

named-head : (f : File) (rest : List File) → file_named f.name (f ∷ rest) ≡ Some f
unfolding file_named
named-head f rest = rw (bytes_equal f.name) refl

named-later : (name : List ℕ) (f : File) (rest : List File) → same_text f.name name ≡ false → file_named name (f ∷ rest) ≡ file_named name rest
unfolding file_named
named-later name f rest other = rw other refl

-- ---- a name that is as the records before left it

as_left : (alike : Bool) (o p first now under here : Option File) → HasNow alike o first here → now ≡ here → (whole : Option File) → ((f : File) → o ≡ Some f → whole ≡ Some f) → MayHave alike whole first now under
as_left alike None p first now under here has same None left = same ∙ has
as_left alike None p first now under here has same (Some f) left = inr (inl (same ∙ has))
as_left alike (Some f) p first now under here has same whole left = subst (λ (w : Option File). MayHave alike w first now under) (sym (left f refl)) (inr (inr (subst (HasCopy alike f) (sym same) has)))

module _ (alike : Bool) (front rest first files : List File) (done : IsCopied alike front first files) where
  pub under-left : (now : List File) (name : List ℕ) → name ≢ working → file_named name now ≡ file_named name files → MayHave alike (file_named name (front ++ rest)) (file_named name first) (file_named name now) (file_named working now)
  under-left now name other same = as_left alike (file_named name front) None (file_named name first) (file_named name now) (file_named working now) (file_named name files) (done.each name other) same (file_named name (front ++ rest)) (λ f is. named-left name front rest f is)

  -- nothing is done yet
  pub under-none : IsUnder alike (front ++ rest) first files
  under-none = λ name other. under-left files name other refl

  -- a front of the next record stands under the working name
  pub under-begun : (w : File) → w.name ≡ working → IsTable files → IsTable (put_file w files) → file_of w.id files ≡ None → IsUnder alike (front ++ rest) first (put_file w files)
  under-begun w named table put unused = λ name other. under-left (put_file w files) name other (put-others w files table put unused name (λ same. other (sym same ∙ named)))

pub part-under : (alike : Bool) (source first files : List File) → IsPart alike source first files → IsUnder alike source first files
part-under alike source first files part = subst (λ (records : List File). IsUnder alike records first files) (sym part.source_is) (under-none alike part.front part.rest first files part.copied)

-- ---- the file that had the record's name is gone

without-none : (name : List ℕ) (files : List File) → file_named name files ≡ None → without_name name files ≡ files
unfolding without_name
without-none name files none = ap (λ (o : Option File). without_found o files) none

without-some : (name : List ℕ) (files : List File) (old : File) → file_named name files ≡ Some old → without_name name files ≡ drop_file old.id files
unfolding without_name
without-some name files old is = ap (λ (o : Option File). without_found o files) is

pub without-others : (x : List ℕ) (files : List File) → IsTable files → IsTable (without_name x files) → (name : List ℕ) → x ≢ name → file_named name (without_name x files) ≡ file_named name files
without-others x files table less name other = go (file_named x files) refl
  where
    go : (o : Option File) → file_named x files ≡ o → file_named name (without_name x files) ≡ file_named name files
    go None is = ap (file_named name) (without-none x files is)
    go (Some old) is =
        let w = named-is files x old table is in
        ap (file_named name) (without-some x files old is) ∙ drop-others old files table (subst IsTable (without-some x files old is) less) w.0 name (λ same. other (sym w.1 ∙ same))

pub without-own : (x : List ℕ) (files : List File) → IsTable files → IsTable (without_name x files) → file_named x (without_name x files) ≡ None
without-own x files table less = go (file_named x files) refl
  where
    go : (o : Option File) → file_named x files ≡ o → file_named x (without_name x files) ≡ None
    go None is = ap (file_named x) (without-none x files is) ∙ is
    go (Some old) is =
        let w = named-is files x old table is in
        ap (file_named x) (without-some x files old is) ∙ subst (λ (n : List ℕ). file_named n (drop_file old.id files) ≡ None) w.1 (drop-own old files table (subst IsTable (without-some x files old is) less) w.0)

-- ---- the next record

module _ (alike : Bool) (front rest first files : List File) (f : File) (done : IsCopied alike front first files) (new : file_named f.name front ≡ None) (fine : f.name ≢ working) where
  whole : file_named f.name (front ++ f ∷ rest) ≡ Some f
  whole = named-right f.name front (f ∷ rest) new ∙ named-head f rest

  -- its name has nothing, and the working name has the copy
  pub under-cleared : (now : List File) → ((name : List ℕ) → name ≢ working → f.name ≢ name → file_named name now ≡ file_named name files) → file_named f.name now ≡ None → is_copied alike f (file_named working now) ≡ true →
      IsUnder alike (front ++ f ∷ rest) first now
  under-cleared now others none whole_copy = λ name other. ⊎_elim
      (λ (same : same_text f.name name ≡ true).
      let is : f.name ≡ name = bytes_same f.name name same in
      subst (λ (n : List ℕ). MayHave alike (file_named n (front ++ f ∷ rest)) (file_named n first) (file_named n now) (file_named working now)) is (subst (λ (o : Option File). MayHave alike o (file_named f.name first) (file_named f.name now) (file_named working now)) (sym whole) (inl (none, whole_copy))))
      (λ (differ : same_text f.name name ≡ false).
      under-left alike front (f ∷ rest) first files done now name other (others name other (λ same. other_text f.name name (sym differ) same)))
      (cases_Bool (same_text f.name name))

  -- the records up to it, by name
  name_done : (name : List ℕ) → f.name ≢ name → (o : Option File) → file_named name front ≡ o → file_named name (front ++ f ∷ []) ≡ o
  unfolding file_named
  name_done name other None is = named-right name front (f ∷ []) is ∙ named-later name f [] (unlike name other)
    where
      unlike : (name : List ℕ) → f.name ≢ name → same_text f.name name ≡ false
      unlike name other = ⊎_elim (λ (same : same_text f.name name ≡ true). absurd (other (bytes_same f.name name same))) (λ (no : same_text f.name name ≡ false). no) (cases_Bool (same_text f.name name))
  name_done name other (Some x) is = named-left name front (f ∷ []) x is

  -- once its name has a copy, the records up to it are done
  copied-more : (now : List File) → ((name : List ℕ) → name ≢ working → f.name ≢ name → file_named name now ≡ file_named name files) → is_copied alike f (file_named f.name now) ≡ true → file_named working now ≡ None → IsCopied alike (front ++ f ∷ []) first now
  copied-more now others copy none = record {
    each = λ name other. ⊎_elim
        (λ (same : same_text f.name name ≡ true).
        let is : f.name ≡ name = bytes_same f.name name same in
        subst (λ (n : List ℕ). HasNow alike (file_named n (front ++ f ∷ [])) (file_named n first) (file_named n now)) is (subst (λ (o : Option File). HasNow alike o (file_named f.name first) (file_named f.name now)) (sym (named-right f.name front (f ∷ []) new ∙ named-head f [])) copy))
        (λ (differ : same_text f.name name ≡ false).
        let apart : f.name ≢ name = other_text f.name name (sym differ) in
        subst (λ (o : Option File). HasNow alike o (file_named name first) (file_named name now)) (sym (name_done name apart (file_named name front) refl)) (subst (λ (o : Option File). HasNow alike (file_named name front) (file_named name first) o) (sym (others name other apart)) (done.each name other)))
        (cases_Bool (same_text f.name name));
    none = none;
  }

  pub copied-kept : keeps alike f files ≡ true → IsCopied alike (front ++ f ∷ []) first files
  copied-kept copy = copied-more files (λ name other apart. refl) copy done.none

  pub copied-placed : (w w2 : File) (t : List File) → IsTable t → IsTable (put_file w2 t) → file_of w.id t ≡ Some w → w.name ≡ working → w2.id ≡ w.id → w2.name ≡ f.name → is_copy alike f w2 ≡ true →
      ((name : List ℕ) → name ≢ working → f.name ≢ name → file_named name t ≡ file_named name files) → IsCopied alike (front ++ f ∷ []) first (put_file w2 t)
  copied-placed w w2 t table put there named same_id renamed copy others =
      let own : file_named f.name (put_file w2 t) ≡ Some w2 = subst (λ (n : List ℕ). file_named n (put_file w2 t) ≡ Some w2) renamed (put-over w2 t put) in
      copied-more (put_file w2 t)
      (λ name other apart. over-others w w2 t table put there same_id name (λ same. other (sym same ∙ named)) (λ same. apart (sym renamed ∙ same)) ∙ others name other apart)
      (ap (is_copied alike f) own ∙ copy)
      (subst (λ (n : List ℕ). file_named n (put_file w2 t) ≡ None) named (over-old w w2 t table put there same_id (λ same. fine (sym renamed ∙ sym same ∙ named))))
