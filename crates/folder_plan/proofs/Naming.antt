-- Names of a folder's files.
use Rattle.std.proofs.Common.{◌≡◌, ℕ, suc, ◌+◌, ◌-◌, ◌<◌, ◌≤◌, List, [], length, take, min, Bool, true, false, ◌||◌, Some, None, refl, sym, ◌∙◌, ap, arith, ⊎_elim}
use Rattle.std.specs.Prelude.{if◌then◌else◌}
use Rattle.std.specs.Cmp.Lexicographic.{same_text as text_same}
use Rattle.std.proofs.lemmas.Bool.{cases_Bool, lt-ltb}
use Rattle.std.proofs.lemmas.Option.{none-some, same_Some}
use Rattle.std.proofs.lemmas.List.{take_all, length-take, get_or-take}
use Rattle.std.proofs.lemmas.List.Folds.{list_any_more, list_any_at}
use Rattle.table_model.specs.Table.{same_text}
use Rattle.table_model.specs.Names.{is_bad_name, name_refusal}
use Rattle.folder_core.specs.Files.{Entry, name_at}
use Rattle.folder_plan.specs.Refusals.{is_refused, accepted, is_name_of, is_bad, first_bad_from}

abbrev no_entry : Entry
no_entry = record { name = []; size = 0 }

-- a name of more than 31 bytes is refused
pub long_refused : (name : List ℕ) → 31 < length name → accepted name ≡ None
unfolding name_refusal
long_refused name long = ⊎_elim
    (λ (bad : is_bad_name name ≡ true). rw bad refl)
    (λ (fine : is_bad_name name ≡ false). rw (fine, lt-ltb 31 (length name) long) refl)
    (cases_Bool (is_bad_name name))

-- what is read of a name of up to 31 bytes is that name
pub front_is : (n : ℕ) (into name : List ℕ) → n ≡ length name → n < 32 → take (min n 32) into ≡ take 32 name → take n into ≡ name
front_is n into name is short front =
    let least : min n 32 ≡ n = omega arith in
    (rw least at front) ∙ take_all 32 name (omega (arith, is, short))

by_truth : (b : Bool) (name other : List ℕ) → (if b then None else Some name) ≡ Some other → (b ≡ false) × (other ≡ name)
by_truth true name other is = absurd (none-some other is)
by_truth false name other is = (refl, sym (same_Some name other is))

pub accepted_is : (name other : List ℕ) → accepted name ≡ Some other → (is_refused name ≡ false) × (other ≡ name)
accepted_is name other is = by_truth (is_refused name) name other is

by_none : (b : Bool) (name : List ℕ) → (if b then None else Some name) ≡ None → b ≡ true
by_none true name is = refl
by_none false name is = absurd (none-some name (sym is))

pub refused_is : (name : List ℕ) → accepted name ≡ None → is_refused name ≡ true
refused_is name is = by_none (is_refused name) name is

-- a name that is refused is none that isn't
pub unlike : (name other : List ℕ) → accepted name ≡ None → accepted other ≡ Some other → false ≡ same_text name other
unlike name other none some = ⊎_elim
    (λ (same : same_text name other ≡ true).
    let is : name ≡ other = text_same name other (sym same) in
    absurd (none-some other (sym none ∙ ap accepted is ∙ some)))
    (λ (not_same : same_text name other ≡ false). sym not_same)
    (cases_Bool (same_text name other))

-- one entry more
pub name_more : (name : List ℕ) (entries : List Entry) (k : ℕ) → k < length entries → is_name_of name (take (k + 1) entries) ≡ (is_name_of name (take k entries) || same_text (name_at entries k) name)
unfolding is_name_of
name_more name entries k inside = list_any_more (λ (e : Entry). same_text e.name name) entries k no_entry inside

pub name_none : (name : List ℕ) (entries : List Entry) → is_name_of name (take 0 entries) ≡ false
unfolding is_name_of
name_none name entries = refl

-- one of them has the name
pub name_there : (name : List ℕ) (entries : List Entry) (k i : ℕ) → k < i → i ≤ length entries → same_text (name_at entries k) name ≡ true → is_name_of name (take i entries) ≡ true
unfolding is_name_of
name_there name entries k i below most same =
    let inside : k < length (take i entries) = omega (arith, below, most, length-take i entries) in
    list_any_at (λ (e : Entry). same_text e.name name) (take i entries) k no_entry inside (rw (get_or-take i entries k no_entry below) same)

-- the first bad name is this one, or one behind it
pub first_here : (entries : List Entry) (i : ℕ) → i < length entries → is_bad entries i ≡ true → first_bad_from entries i (length entries - i) ≡ Some i
unfolding first_bad_from
first_here entries i inside bad =
    let n : length entries - i ≡ suc (length entries - (i + 1)) = omega arith in
    rw (n, bad) refl

pub first_on : (entries : List Entry) (i : ℕ) → i < length entries → is_bad entries i ≡ false → first_bad_from entries i (length entries - i) ≡ first_bad_from entries (i + 1) (length entries - (i + 1))
unfolding first_bad_from
first_on entries i inside fine =
    let n : length entries - i ≡ suc (length entries - (i + 1)) = omega arith in
    rw (n, fine) refl

pub first_none : (entries : List Entry) (i : ℕ) → length entries ≤ i → first_bad_from entries i (length entries - i) ≡ None
unfolding first_bad_from
first_none entries i most =
    let n : length entries - i ≡ 0 = omega arith in
    rw n refl

-- another entry, which hasn't the name
pub name_fails : (name : List ℕ) (entries : List Entry) (k : ℕ) → k < length entries → is_name_of name (take k entries) ≡ false → same_text (name_at entries k) name ≡ false → is_name_of name (take (k + 1) entries) ≡ false
name_fails name entries k inside none other = name_more name entries k inside ∙ ap (λ (x : Bool). x || same_text (name_at entries k) name) none ∙ other
