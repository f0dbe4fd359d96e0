-- Ids that files have, and the least one that none has.
use Rattle.std.proofs.Common.{◌≡◌, ℕ, suc, ◌+◌, ◌-◌, ◌<◌, ◌≤◌, List, [], ◌∷◌, refl, arith, true, false, Bool, Some, None, not, ◌==◌}
use Rattle.std.proofs.lemmas.Grind.{common_steps}
use Rattle.std.specs.Prelude.{find, is_some, unwrap_or}
use Rattle.std.specs.List.{list_any, range_with_len}
use Rattle.table_model.specs.Table.{File, file_of, has_id, file_named, has_name, same_text}

-- one passes exactly where the first that passes is found
any_is_found : {X : Type 0} (test : X → Bool) (xs : List X) → list_any test xs ≡ is_some (find test xs)
any_is_found test [] = refl
any_is_found test (x ∷ xs) = let rest : list_any test xs ≡ is_some (find test xs) = any_is_found test xs in grind (arith, common_steps, rest)

pub id_missing : (id : ℕ) (files : List File) → file_of id files ≡ None → has_id id files ≡ false
unfolding file_of has_id
id_missing id files none = rw (any_is_found (λ f. f.id == id) files, none) refl

pub id_there : (id : ℕ) (files : List File) (f : File) → file_of id files ≡ Some f → has_id id files ≡ true
unfolding file_of has_id
id_there id files f some = rw (any_is_found (λ f. f.id == id) files, some) refl

-- the first number is the answer where its id is missing
pub least_here : (files : List File) (p e : ℕ) → p < e → file_of p files ≡ None →
    unwrap_or (find (λ (j : ℕ). not (has_id j files)) (range_with_len p (e - p))) 0 ≡ p
least_here files p e h none =
    let n : e - p ≡ suc (e - (p + 1)) = omega arith in
    rw (n, id_missing p files none) refl

-- else the answer is behind it
pub least_on : (files : List File) (p e : ℕ) (f : File) → p < e → file_of p files ≡ Some f →
    unwrap_or (find (λ (j : ℕ). not (has_id j files)) (range_with_len p (e - p))) 0 ≡ unwrap_or (find (λ (j : ℕ). not (has_id j files)) (range_with_len (p + 1) (e - (p + 1)))) 0
least_on files p e f h some =
    let n : e - p ≡ suc (e - (p + 1)) = omega arith in
    rw (n, id_there p files f some) refl

-- none is left
pub least_end : (files : List File) (p e : ℕ) → e ≤ p → unwrap_or (find (λ (j : ℕ). not (has_id j files)) (range_with_len p (e - p))) 0 ≡ 0
least_end files p e h =
    let n : e - p ≡ 0 = omega arith in
    rw n refl

pub name_missing : (name : List ℕ) (files : List File) → file_named name files ≡ None → has_name name files ≡ false
unfolding file_named has_name
name_missing name files none = rw (any_is_found (λ f. same_text f.name name) files, none) refl

pub name_there : (name : List ℕ) (files : List File) (f : File) → file_named name files ≡ Some f → has_name name files ≡ true
unfolding file_named has_name
name_there name files f some = rw (any_is_found (λ f. same_text f.name name) files, some) refl
