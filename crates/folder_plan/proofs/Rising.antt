-- Names that come one behind the other: none is that of an earlier one.
use Rattle.std.proofs.Common.{◌≡◌, ℕ, zero, suc, ◌+◌, ◌<◌, ◌≤◌, List, length, take, true, false, Some, refl, sym, ◌∙◌, ap, subst, arith, ⊎_elim, inl, inr}
use Rattle.std.specs.Ordering.{ordering_reverse, is_lt}
use Rattle.std.specs.Cmp.Lexicographic.{nat_list_cmp_total, same_text as text_same}
use Rattle.std.proofs.lemmas.Bool.{cases_Bool, cases_lt, true≢false}
use Rattle.table_model.specs.Table.{same_text}
use Rattle.folder_core.specs.Files.{Entry, name_at}
use Rattle.folder_plan.specs.Refusals.{accepted, is_name_of, is_bad}
use Rattle.folder_plan.specs.Rising.{IsBefore, AreUpTo}
use Rattle.folder_plan.proofs.Naming.{accepted_is, name_none, name_fails}

-- no name comes before itself
before_none : (name : List ℕ) → IsBefore name name → ⊥
before_none name less = true≢false (ap is_lt (sym less ∙ nat_list_cmp_total.antisymm name name ∙ ap ordering_reverse less))

-- one that comes before another is another
before_other : (name other : List ℕ) → IsBefore name other → same_text name other ≡ false
before_other name other less = ⊎_elim
    (λ (same : same_text name other ≡ true).
    absurd (before_none name (subst (λ (l : List ℕ). IsBefore name l) (sym (text_same name other (sym same))) less)))
    (λ (is_other : same_text name other ≡ false). is_other)
    (cases_Bool (same_text name other))

-- the first names come before one that comes behind the last of them
all_before : (top name : List ℕ) (i : ℕ) (entries : List Entry) → AreUpTo top i entries → IsBefore top name → (k : ℕ) → k < i → IsBefore (name_at entries k) name
all_before top name i entries up behind k below = ⊎_elim
    (λ (less : IsBefore (name_at entries k) top). nat_list_cmp_total.trans (name_at entries k) top name less behind)
    (λ (same : name_at entries k ≡ top). subst (λ (l : List ℕ). IsBefore l name) (sym same) behind)
    (up k below)

-- none of them has that name
none_named : (name : List ℕ) (entries : List Entry) (i : ℕ) → i ≤ length entries → ((k : ℕ) → k < i → IsBefore (name_at entries k) name) → is_name_of name (take i entries) ≡ false
none_named name entries zero most before = name_none name entries
none_named name entries (suc i) most before =
    let next : suc i ≡ i + 1 = omega arith in
    let none = none_named name entries i (omega (arith, most)) (λ k below. before k (omega (arith, below))) in
    rw next (name_fails name entries i (omega (arith, most)) none (before_other (name_at entries i) name (before i (omega arith))))

-- so a name that comes behind the last of them is no bad one
pub behind_fine : (top name : List ℕ) (i : ℕ) (entries : List Entry) → i < length entries → accepted (name_at entries i) ≡ Some name → AreUpTo top i entries → IsBefore top name → false ≡ is_bad entries i
behind_fine top name i entries inside is up behind =
    let fine = accepted_is (name_at entries i) name is in
    let none = none_named name entries i (omega (arith, inside)) (all_before top name i entries up behind) in
    let here : is_name_of (name_at entries i) (take i entries) ≡ false = subst (λ (l : List ℕ). is_name_of l (take i entries) ≡ false) fine.1 none in
    rw (fine.0, here) refl

-- and is the last one then
pub behind_next : (top name : List ℕ) (i : ℕ) (entries : List Entry) → accepted (name_at entries i) ≡ Some name → AreUpTo top i entries → IsBefore top name → AreUpTo name (i + 1) entries
behind_next top name i entries is up behind k below = ⊎_elim
    (λ (earlier : k < i). inl (all_before top name i entries up behind k earlier))
    (λ (last : i ≤ k).
    let here : k ≡ i = omega (arith, below, last) in
    inr (ap (name_at entries) here ∙ sym (accepted_is (name_at entries i) name is).1))
    (cases_lt k i)
