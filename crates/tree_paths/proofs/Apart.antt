-- No path is a folder on another.
use Rattle.std.proofs.Common.{◌≡◌, ℕ, ◌+◌, ◌<◌, ◌≤◌, List, [], ◌∷◌, ◌++◌, length, take, drop, Bool, true, false, cond, eqb, refl, sym, ap, ◌∙◌, arith, ⊎_elim, length-append, subst}
use Rattle.std.specs.Prelude.{not, ◌&&◌, ◌||◌, ◌==◌, codes}
use Rattle.std.specs.List.{list_all, list_any}
use Rattle.std.proofs.lemmas.Bool.{false≢true, cases_Bool}
use Rattle.std.proofs.lemmas.Grind.{common_steps}
use Rattle.tree_paths.specs.Tree.{AreApart, AreApartFrom, ArePairwiseApart}
use Rattle.tree_paths.specs.Naming.{aside, aside_path, spelled, tree_path, tree_paths, tree_paths_after, is_over, clash}
use Rattle.tree_paths.proofs.Tests.{both, neither, not_true, and_false, or_true}
use Rattle.tree_paths.proofs.Spelled.{is_fine, spelled_fine}
use Rattle.tree_paths.proofs.Found.{IsPlaced, placed}

-- a name that goes on with a slash behind another
over_is : (name rest : List ℕ) → is_over name (name ++ 47 ∷ rest) ≡ true
over_is [] rest = refl
over_is (b ∷ bs) rest = let same : eqb b b ≡ true = grind (arith, common_steps) in rw same (over_is bs rest)

abbrev is_no_slash : ℕ → Bool
is_no_slash b = not (b == 47)

-- bytes without a slash have none in their front
no_slash_in : (front rest p more : List ℕ) → list_all is_no_slash front ≡ true → length p < length front → front ++ rest ≡ p ++ 47 ∷ more → ⊥
no_slash_in [] rest p more none short same = omega arith
no_slash_in (b ∷ bs) rest [] more none short same =
    let first : b ≡ 47 = cc in
    let no : eqb b 47 ≡ false = not_true (eqb b 47) (both (is_no_slash b) (list_all is_no_slash bs) none).0 in
    let yes : eqb b 47 ≡ true = grind (arith, common_steps) in
    false≢true (sym no ∙ yes)
no_slash_in (b ∷ bs) rest (x ∷ p) more none short same =
    let tail : bs ++ rest ≡ p ++ 47 ∷ more = cc in
    no_slash_in bs rest p more (both (is_no_slash b) (list_all is_no_slash bs) none).1 (omega arith) tail

-- a slash isn't fine
slash_found : (front rest : List ℕ) → list_all is_fine (front ++ 47 ∷ rest) ≡ false
slash_found [] rest = refl
slash_found (b ∷ bs) rest = ap (λ (v : Bool). is_fine b && v) (slash_found bs rest) ∙ and_false (is_fine b)

-- behind a path in the tree there is none that is aside
in_then_aside : (p name rest : List ℕ) → length p ≤ 30 → aside_path name ≡ p ++ 47 ∷ rest → ⊥
in_then_aside p name rest short same = no_slash_in (codes "names-that-do-not-fit-into-a-tree") (47 ∷ spelled name) p rest refl (omega arith) same

-- nor the other way round
aside_then_in : (p name rest : List ℕ) → length p ≤ 30 → p ≡ aside_path name ++ 47 ∷ rest → ⊥
aside_then_in p name rest short same =
    let long : length p ≡ length (aside_path name ++ 47 ∷ rest) = ap (λ (l : List ℕ). length l) same in
    let sum : length (aside_path name ++ 47 ∷ rest) ≡ length (aside_path name) + length (47 ∷ rest) = length-append (aside_path name) (47 ∷ rest) in
    let front : length (aside_path name) ≡ 34 + length (spelled name) = length-append aside (spelled name) in
    omega (arith, long, sum, front, short)

-- what is aside lies in one folder
aside_then_aside : (name other rest : List ℕ) → aside_path other ≡ aside_path name ++ 47 ∷ rest → ⊥
aside_then_aside name other rest same =
    let behind : spelled other ≡ spelled name ++ 47 ∷ rest = ap (λ (l : List ℕ). drop 34 l) same in
    false≢true (sym (slash_found (spelled name) rest) ∙ ap (λ (l : List ℕ). list_all is_fine l) (sym behind) ∙ spelled_fine other)

-- both in the tree
in_then_in : (name other rest : List ℕ) → name ≡ 47 ∷ drop 1 name → other ≡ 47 ∷ drop 1 other → is_over name other ≡ false → drop 1 other ≡ drop 1 name ++ 47 ∷ rest → ⊥
in_then_in name other rest name_is other_is none same =
    let behind : other ≡ name ++ 47 ∷ rest = other_is ∙ ap (λ (l : List ℕ). 47 ∷ l) same ∙ ap (λ (l : List ℕ). l ++ 47 ∷ rest) (sym name_is) in
    false≢true (sym none ∙ ap (λ (l : List ℕ). is_over name l) behind ∙ over_is name rest)

-- the path of a name is no folder on the other's, if neither is aside where the names say so
not_over : (name other : List ℕ) (is_aside other_aside : Bool) → (is_aside ≡ false → other_aside ≡ false → is_over name other ≡ false) → (rest : List ℕ) → tree_path other other_aside ≡ tree_path name is_aside ++ 47 ∷ rest → ⊥
not_over name other is_aside other_aside none rest same = ⊎_elim
    (λ (p : IsPlaced name is_aside). ⊎_elim
    (λ (q : IsPlaced other other_aside). in_then_in name other rest p.slashed_is.name_is q.slashed_is.name_is (none p.here q.here) (sym q.path_is ∙ same ∙ ap (λ (l : List ℕ). l ++ 47 ∷ rest) p.path_is))
    (λ (e : tree_path other other_aside ≡ aside_path other). in_then_aside (drop 1 name) other rest p.slashed_is.short (sym e ∙ same ∙ ap (λ (l : List ℕ). l ++ 47 ∷ rest) p.path_is))
    (placed other other_aside))
    (λ (d : tree_path name is_aside ≡ aside_path name). ⊎_elim
    (λ (q : IsPlaced other other_aside). aside_then_in (drop 1 other) name rest q.slashed_is.short (sym q.path_is ∙ same ∙ ap (λ (l : List ℕ). l ++ 47 ∷ rest) d))
    (λ (e : tree_path other other_aside ≡ aside_path other). aside_then_aside name other rest (sym e ∙ same ∙ ap (λ (l : List ℕ). l ++ 47 ∷ rest) d))
    (placed other other_aside))
    (placed name is_aside)

-- a name is among the earlier ones: whatever clashes with it clashes with one of them
abbrev IsAmong : List ℕ → List (List ℕ) → Type 0
IsAmong name earlier = (other : List ℕ) → clash other name ≡ true → list_any (λ o. clash other o) earlier ≡ true

-- a path that is put later is apart from an earlier one
apart_one : (name other : List ℕ) (is_aside : Bool) (earlier : List (List ℕ)) → IsAmong name earlier → AreApart (tree_path name is_aside) (tree_path other (list_any (λ o. clash other o) earlier))
apart_one name other is_aside earlier among =
    let fine : list_any (λ o. clash other o) earlier ≡ false → clash other name ≡ false = λ none. ⊎_elim
    (λ (yes : clash other name ≡ true). absurd (false≢true (sym none ∙ among other yes)))
    (λ (no : clash other name ≡ false). no)
    (cases_Bool (clash other name)) in
    record {
      under = λ rest same. not_over other name (list_any (λ o. clash other o) earlier) is_aside (λ none mine. (neither (is_over other name) (is_over name other) (fine none)).0) rest same;
      over = λ rest same. not_over name other is_aside (list_any (λ o. clash other o) earlier) (λ mine none. (neither (is_over other name) (is_over name other) (fine none)).1) rest same;
    }

apart_from : (name : List ℕ) (is_aside : Bool) (earlier names : List (List ℕ)) → IsAmong name earlier → AreApartFrom (tree_path name is_aside) (tree_paths_after earlier names)
apart_from name is_aside earlier [] among = tt
apart_from name is_aside earlier (other ∷ names) among = (
  apart_one name other is_aside earlier among,
  apart_from name is_aside (other ∷ earlier) names (λ third yes. ap (λ (v : Bool). clash third other || v) (among third yes) ∙ or_true (clash third other)),
)

pairs_apart : (earlier names : List (List ℕ)) → ArePairwiseApart (tree_paths_after earlier names)
pairs_apart earlier [] = tt
pairs_apart earlier (name ∷ names) = (
  apart_from name (list_any (λ o. clash name o) earlier) (name ∷ earlier) names (λ other yes. rw yes refl),
  pairs_apart (name ∷ earlier) names,
)

pub all_apart : (names : List (List ℕ)) → ArePairwiseApart (tree_paths names)
all_apart names = pairs_apart [] names
