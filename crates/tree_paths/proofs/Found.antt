-- Names and their paths.
use Rattle.std.proofs.Common.{◌≡◌, ℕ, ◌<◌, ◌≤◌, List, [], ◌∷◌, ◌++◌, length, take, drop, min, Bool, true, false, cond, eqb, leb, refl, sym, ap, ◌∙◌, arith, ⊎_elim, ◌⊎◌, inl, inr, length-take, subst, Result, Ok, Err, ◌-◌, get_or}
use Rattle.std.specs.Prelude.{not, ◌&&◌, nat_eq, string_bytes, IfOk, String}
use Rattle.std.specs.Cmp.Lexicographic.{pointwise}
use Rattle.std.specs.Str.{is_utf8, IsUtf8}
use Rattle.std.proofs.lemmas.Str.{IsUtf8-from_is_utf8, is_utf8-from_IsUtf8}
use Rattle.std.proofs.lemmas.List.{take_all}
use Rattle.std.proofs.lemmas.Bool.{false≢true, cases_Bool}
use Rattle.std.proofs.lemmas.Grind.{common_steps}
use Rattle.call_script.specs.Printing.{IsText}
use Rattle.tree_paths.specs.Tree.{is_tree_path, IsInside}
use Rattle.tree_paths.specs.Naming.{aside, is_plain, aside_path, tree_path, tree_name}
use Rattle.tree_paths.proofs.Tests.{both, and_false}
use Rattle.tree_paths.proofs.Downward.{inside}
use Rattle.tree_paths.proofs.Spelled.{aside_down, spelled_read}

-- what is known of a name that is a slash and a path
pub record IsSlashed (name : List ℕ) : Type 0 where
  pub name_is : name ≡ 47 ∷ drop 1 name
  pub short : length (drop 1 name) ≤ 30
  pub down : is_tree_path (drop 1 name) ≡ true
  pub text : is_utf8 (drop 1 name) ≡ true

pub slashed : (name : List ℕ) → is_plain name ≡ true → IsSlashed name
slashed [] h = absurd (false≢true h)
slashed (b ∷ path) h =
    let first = both (eqb b 47) (leb (length path) 30 && (is_tree_path path && is_utf8 path)) h in
    let second = both (leb (length path) 30) (is_tree_path path && is_utf8 path) first.1 in
    let third = both (is_tree_path path) (is_utf8 path) second.1 in
    let slash : b ≡ 47 = grind (arith, common_steps) in
    let few : length path ≤ 30 = grind (arith, common_steps) in
    record {
      name_is = ap (λ (k : ℕ). k ∷ path) slash;
      short = few;
      down = third.0;
      text = third.1;
    }

-- a path is in the tree or aside
pub record IsPlaced (name : List ℕ) (is_aside : Bool) : Type 0 where
  pub slashed_is : IsSlashed name
  pub here : is_aside ≡ false
  pub path_is : tree_path name is_aside ≡ drop 1 name

pub placed : (name : List ℕ) (is_aside : Bool) → IsPlaced name is_aside ⊎ (tree_path name is_aside ≡ aside_path name)
placed name true = ⊎_elim
    (λ (plain : is_plain name ≡ true). inr (rw plain refl))
    (λ (other : is_plain name ≡ false). inr (rw other refl))
    (cases_Bool (is_plain name))
placed name false = ⊎_elim
    (λ (plain : is_plain name ≡ true). inl (record { slashed_is = slashed name plain; here = refl; path_is = rw plain refl }))
    (λ (other : is_plain name ≡ false). inr (rw other refl))
    (cases_Bool (is_plain name))

pub path_down : (name : List ℕ) (is_aside : Bool) → is_tree_path (tree_path name is_aside) ≡ true
path_down name is_aside = ⊎_elim
    (λ (p : IsPlaced name is_aside). ap (λ (l : List ℕ). is_tree_path l) p.path_is ∙ p.slashed_is.down)
    (λ (e : tree_path name is_aside ≡ aside_path name). ap (λ (l : List ℕ). is_tree_path l) e ∙ aside_down name)
    (placed name is_aside)

pub path_inside : (name : List ℕ) (is_aside : Bool) → IsInside (tree_path name is_aside)
path_inside name is_aside = inside (tree_path name is_aside) (path_down name is_aside)

pointwise_length : (a b : List ℕ) → pointwise nat_eq a b ≡ true → length a ≡ length b
pointwise_length [] [] h = refl
pointwise_length [] (y ∷ ys) h = absurd (false≢true h)
pointwise_length (x ∷ xs) [] h = absurd (false≢true h)
pointwise_length (x ∷ xs) (y ∷ ys) h =
    let rest : length xs ≡ length ys = pointwise_length xs ys (both (eqb x y) (pointwise nat_eq xs ys) h).1 in
    omega arith

-- a short path is none that is aside
pub short_name : (path : List ℕ) → length path ≤ 30 → tree_name path ≡ 47 ∷ path
short_name path short = ⊎_elim
    (λ (yes : pointwise nat_eq (take (length aside) path) aside ≡ true).
    let same : length (take 34 path) ≡ 34 = pointwise_length (take 34 path) aside yes in
    absurd (omega (arith, same, short, length-take 34 path)))
    (λ (no : pointwise nat_eq (take (length aside) path) aside ≡ false). rw no refl)
    (cases_Bool (pointwise nat_eq (take (length aside) path) aside))

pub path_back : (path : List ℕ) → is_tree_path path ≡ true → is_utf8 path ≡ true → length path ≤ 30 → tree_path (47 ∷ path) false ≡ path
path_back path down text short =
    let few : leb (length path) 30 ≡ true = grind (arith, common_steps) in
    rw (few, down, text) refl

aside_name : (name : List ℕ) → IsText name → tree_name (aside_path name) ≡ name
aside_name [] h = absurd (omega (arith, h.0))
aside_name (b ∷ bs) h = spelled_read b bs h.1

-- a name is found again
pub name_back : (name : List ℕ) (is_aside : Bool) → IsText name → tree_name (tree_path name is_aside) ≡ name
name_back name is_aside text = ⊎_elim
    (λ (p : IsPlaced name is_aside). ap (λ (l : List ℕ). tree_name l) p.path_is ∙ short_name (drop 1 name) p.slashed_is.short ∙ sym p.slashed_is.name_is)
    (λ (e : tree_path name is_aside ≡ aside_path name). ap (λ (l : List ℕ). tree_name l) e ∙ aside_name name text)
    (placed name is_aside)

-- so names of one path are one
pub name_one : (name other : List ℕ) (is_aside other_aside : Bool) → IsText name → IsText other → tree_path name is_aside ≡ tree_path other other_aside → name ≡ other
name_one name other is_aside other_aside text other_text same =
    sym (name_back name is_aside text) ∙ ap (λ (l : List ℕ). tree_name l) same ∙ name_back other other_aside other_text

-- what is put into the tree, or aside, stays inside
pub inside_if : {Z E : Type 0} (name path : List ℕ) (is_aside : Bool) (result : Result (String Z) E) → path ≡ tree_path name is_aside → IfOk result (λ p. string_bytes p ≡ path) → IfOk result (λ p. IsInside (string_bytes p))
inside_if name path is_aside (Ok p) same is = subst (λ (l : List ℕ). IsInside l) (sym (is ∙ same)) (path_inside name is_aside)
inside_if name path is_aside (Err e) same is = tt

-- a name that is plain and isn't put aside
pub plain_here : (name path : List ℕ) (is_aside : Bool) → is_plain name ≡ true → name ≡ 47 ∷ path → is_aside ≡ false → path ≡ tree_path name is_aside
plain_here name path is_aside plain name_is here = rw (plain, here) (sym (ap (λ (l : List ℕ). drop 1 l) name_is))

-- one that is none, or is
pub plain_aside : (name : List ℕ) (is_aside : Bool) → (is_plain name ≡ false) ⊎ (is_aside ≡ true) → aside_path name ≡ tree_path name is_aside
plain_aside name is_aside other = ⊎_elim
    (λ (h : is_plain name ≡ false). rw h refl)
    (λ (h : is_aside ≡ true). rw h (rw (and_false (is_plain name)) refl))
    other

rest_is : (b : ℕ) (bs : List ℕ) → take (length (b ∷ bs) - 1) (drop 1 (b ∷ bs)) ≡ bs
rest_is b bs = take_all (length (b ∷ bs) - 1) bs (omega arith)

-- the tests of a name that is a slash and a path
pub plain_by : (name path : List ℕ) → path ≡ take (length name - 1) (drop 1 name) → 0 < length name → get_or name 0 0 ≡ 47 → length path ≤ 30 → is_tree_path path ≡ true → is_utf8 path ≡ true → (is_plain name ≡ true) × (name ≡ 47 ∷ path)
plain_by [] path is some slash few down text = absurd (omega (arith, some))
plain_by (b ∷ bs) path is some slash few down text =
    let same : path ≡ bs = is ∙ rest_is b bs in
    let first : eqb b 47 ≡ true = grind (arith, common_steps) in
    let short : leb (length bs) 30 ≡ true = subst (λ (l : List ℕ). leb (length l) 30 ≡ true) same (grind (arith, common_steps)) in
    (rw (first, short, subst (λ (l : List ℕ). is_tree_path l ≡ true) same down, subst (λ (l : List ℕ). is_utf8 l ≡ true) same text) refl, ap (λ (k : ℕ). k ∷ bs) slash ∙ ap (λ (l : List ℕ). 47 ∷ l) (sym same))

-- bytes that are no text
pub plain_not : (name : List ℕ) → 0 < length name → ¬ (IsUtf8 (take (length name - 1) (drop 1 name))) → is_plain name ≡ false
plain_not [] some none = absurd (omega (arith, some))
plain_not (b ∷ bs) some none =
    let bad : is_utf8 bs ≡ false = ⊎_elim
    (λ (yes : is_utf8 bs ≡ true). absurd (none (subst (λ (l : List ℕ). IsUtf8 l) (sym (rest_is b bs)) (IsUtf8-from_is_utf8 bs yes))))
    (λ (no : is_utf8 bs ≡ false). no)
    (cases_Bool (is_utf8 bs)) in
    rw bad (ap (λ (v : Bool). eqb b 47 && (leb (length bs) 30 && v)) (and_false (is_tree_path bs)) ∙ ap (λ (v : Bool). eqb b 47 && v) (and_false (leb (length bs) 30)) ∙ and_false (eqb b 47))
