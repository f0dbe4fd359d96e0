-- Paths by which a host goes down.
use Rattle.std.proofs.Common.{◌≡◌, ℕ, List, [], ◌∷◌, ◌++◌, Bool, true, false, cond, eqb, refl, sym, ap, ◌∙◌, arith, append_assoc, ⊎_elim}
use Rattle.std.proofs.lemmas.List.{append-nil}
use Rattle.std.specs.Prelude.{not, ◌&&◌}
use Rattle.std.specs.List.{onto_first, list_all, list_any}
use Rattle.std.proofs.lemmas.Bool.{false≢true, cases_Bool}
use Rattle.std.proofs.lemmas.Grind.{common_steps}
use Rattle.tree_paths.specs.Tree.{is_dots, is_part, parts, is_tree_path, step, walk, arrive, IsInside}
use Rattle.tree_paths.proofs.Tests.{both, neither, not_true}

-- a part by which a host goes down is behind the place
pub step_down : (here : List (List ℕ)) (part : List ℕ) → is_part part ≡ true → step here part ≡ here ++ part ∷ []
step_down here part h =
    let no : is_dots part ≡ false = not_true (is_dots part) (both (not (is_dots part)) (not (list_any (λ b. eqb b 0) part)) h).0 in
    rw no refl

-- several of them are
pub walk_down : (here ps : List (List ℕ)) → list_all is_part ps ≡ true → walk here ps ≡ here ++ ps
walk_down here [] h = sym (append-nil here)
walk_down here (p ∷ ps) h =
    ap (λ (l : List (List ℕ)). walk l ps) (step_down here p (both (is_part p) (list_all is_part ps) h).0)
    ∙ walk_down (here ++ p ∷ []) ps (both (is_part p) (list_all is_part ps) h).1
    ∙ append_assoc here (p ∷ []) ps

-- a path by whose parts a host goes down leads from each place to what is below it
pub arrives_below : (here : List (List ℕ)) (path : List ℕ) → is_tree_path path ≡ true → arrive here path ≡ here ++ parts path
arrives_below here [] h = absurd (false≢true h)
arrives_below here (b ∷ path) h = ⊎_elim
    (λ (yes : eqb b 47 ≡ true). absurd (false≢true (rw yes at h)))
    (λ (no : eqb b 47 ≡ false). rw no (walk_down here (onto_first b (parts path)) (rw no at h)))
    (cases_Bool (eqb b 47))

-- a path has a first part
pub some_part : (path : List ℕ) → (part : List ℕ) × (rest : List (List ℕ)) × (parts path ≡ part ∷ rest)
some_part [] = ([], [], refl)
some_part (b ∷ path) = elim (eqb b 47) as (λ v. (part : List ℕ) × (rest : List (List ℕ)) × (cond v ([] ∷ parts path) (onto_first b (parts path)) ≡ part ∷ rest)) [ true ↦ ([], parts path, refl) | false ↦ (b ∷ (some_part path).0, (some_part path).1, ap (onto_first b) (some_part path).2) ]

-- without a zero byte
abbrev pub is_whole : List ℕ → Bool
is_whole part = not (list_any (λ b. eqb b 0) part)

whole_parts : (ps : List (List ℕ)) → list_all is_part ps ≡ true → list_all is_whole ps ≡ true
whole_parts [] h = refl
whole_parts (p ∷ ps) h =
    let here : is_whole p ≡ true = (both (not (is_dots p)) (is_whole p) (both (is_part p) (list_all is_part ps) h).0).1 in
    let there : list_all is_whole ps ≡ true = whole_parts ps (both (is_part p) (list_all is_part ps) h).1 in
    rw (here, there) refl

onto_whole : (b : ℕ) (ps : List (List ℕ)) → list_all is_whole (onto_first b ps) ≡ true → (eqb b 0 ≡ false) × (list_all is_whole ps ≡ true)
onto_whole b [] h =
    let none = neither (eqb b 0) false (not_true _ (both (is_whole (b ∷ [])) true h).0) in
    (none.0, refl)
onto_whole b (p ∷ ps) h =
    let halves = both (is_whole (b ∷ p)) (list_all is_whole ps) h in
    let none = neither (eqb b 0) (list_any (λ x. eqb x 0) p) (not_true _ halves.0) in
    (none.0, rw (none.1, halves.1) refl)

whole_path : (path : List ℕ) → list_all is_whole (parts path) ≡ true → list_any (λ b. eqb b 0) path ≡ false
whole_path [] h = refl
whole_path (b ∷ path) h = ⊎_elim
    (λ (yes : eqb b 47 ≡ true).
    let some : eqb b 0 ≡ false = grind (arith, common_steps) in
    rw (some, whole_path path (rw yes at h)) refl)
    (λ (no : eqb b 47 ≡ false).
    let onto = onto_whole b (parts path) (rw no at h) in
    rw (onto.0, whole_path path onto.1) refl)
    (cases_Bool (eqb b 47))

pub inside : (path : List ℕ) → is_tree_path path ≡ true → IsInside path
inside path h = record {
  below = λ here. arrives_below here path h;
  some = some_part path;
  whole = whole_path path (whole_parts (parts path) h);
}
