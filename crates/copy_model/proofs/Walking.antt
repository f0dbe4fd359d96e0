-- The source's records one after the other, in order of ids.
use Rattle.std.proofs.Common.{◌≡◌, ℕ, ◌+◌, ◌<◌, ◌≤◌, List, [], ◌∷◌, ◌++◌, length, Bool, true, false, not, cond, Option, Some, None, refl, sym, ◌∙◌, ap, subst, ⊎_elim, arith, length-append}
use Rattle.std.specs.Prelude.{find, nat_lt, position}
use Rattle.std.specs.List.{prefix_len}
use Rattle.std.proofs.lemmas.Bool.{cases_Bool, ltb-true, ltb-false, lt-ltb, le-ltb}
use Rattle.std.proofs.lemmas.Option.{none-some, same_Some}
use Rattle.table_model.specs.Table.{File, same_text, file_above, file_named}
use Rattle.table_model.proofs.Ascending.{Ascends}
use Rattle.call_model.proofs.Unused.{found-passes}
use Rattle.copy_model.specs.Copying.{keeps, kept_count}
use Rattle.copy_model.specs.Under.{IsTable}
use Rattle.copy_model.specs.Walks.{behind, up_to}
use Rattle.copy_model.proofs.Names.{found-all}
use Rattle.copy_model.proofs.Stages.{named-left}

-- of files of greater ids none is up to one
all_behind : (after low : ℕ) (files : List File) → after ≤ low → Ascends (λ (f : File). f.id) low files → (behind after files ≡ files) × (up_to after files ≡ [])
unfolding Ascends behind up_to
all_behind after low [] le asc = (refl, refl)
all_behind after low (x ∷ xs) le asc =
    let w = all_behind after x.id xs (omega (arith, asc.0, le)) asc.1 in
    let here : nat_lt after x.id ≡ true = lt-ltb after x.id (omega (arith, asc.0, le)) in
    (rw here (ap (λ (l : List File). x ∷ l) w.0), rw here w.1)

-- the files up to an id, and those behind it
pub split_at : (after low : ℕ) (files : List File) → Ascends (λ (f : File). f.id) low files → files ≡ up_to after files ++ behind after files
unfolding Ascends behind up_to
split_at after low [] asc = refl
split_at after low (x ∷ xs) asc = ⊎_elim
    (λ (more : nat_lt after x.id ≡ true).
    let w = all_behind after x.id xs (omega (arith, ltb-true after x.id more)) asc.1 in
    rw more (ap (λ (l : List File). x ∷ l) (sym w.0) ∙ ap (λ (l : List File). l ++ x ∷ behind after xs) (sym w.1)))
    (λ (less : nat_lt after x.id ≡ false). rw less (ap (λ (l : List File). x ∷ l) (split_at after x.id xs asc.1)))
    (cases_Bool (nat_lt after x.id))

-- the first one behind an id is the next
pub next_is : (after low : ℕ) (files : List File) (f : File) → Ascends (λ (x : File). x.id) low files → file_above after files ≡ Some f →
    (behind after files ≡ f ∷ behind f.id files) × (up_to f.id files ≡ up_to after files ++ f ∷ []) × (after < f.id)
unfolding Ascends behind up_to file_above
next_is after low [] f asc is = absurd (none-some f is)
next_is after low (x ∷ xs) f asc is = ⊎_elim
    (λ (more : nat_lt after x.id ≡ true).
    let same : x ≡ f = same_Some x f (rw more at is) in
    let w = all_behind after x.id xs (omega (arith, ltb-true after x.id more)) asc.1 in
    let v = all_behind x.id x.id xs (omega arith) asc.1 in
    let own : nat_lt x.id x.id ≡ false = le-ltb x.id x.id (omega arith) in
    subst (λ (y : File). (behind after (x ∷ xs) ≡ y ∷ behind y.id (x ∷ xs)) × (up_to y.id (x ∷ xs) ≡ up_to after (x ∷ xs) ++ y ∷ []) × (after < y.id)) same
    (rw (more, own) (ap (λ (l : List File). x ∷ l) (w.0 ∙ sym v.0)), rw (own, more) (ap (λ (l : List File). x ∷ l) v.1 ∙ ap (λ (l : List File). l ++ x ∷ []) (sym w.1)), ltb-true after x.id more))
    (λ (less : nat_lt after x.id ≡ false).
    let w = next_is after x.id xs f asc.1 (rw less at is) in
    let own : nat_lt f.id x.id ≡ false = le-ltb f.id x.id (omega (arith, w.2, ltb-false after x.id less)) in
    (rw (less, own) w.0, rw (own, less) (ap (λ (l : List File). x ∷ l) w.1), w.2))
    (cases_Bool (nat_lt after x.id))

-- or there is none
pub none_next : (after : ℕ) (files : List File) → file_above after files ≡ None → (behind after files ≡ []) × (up_to after files ≡ files)
unfolding behind up_to file_above
none_next after [] none = (refl, refl)
none_next after (x ∷ xs) none = ⊎_elim
    (λ (more : nat_lt after x.id ≡ true). absurd (none-some x (sym (rw more at none))))
    (λ (less : nat_lt after x.id ≡ false). let w = none_next after xs (rw less at none) in (rw less w.0, rw less (ap (λ (l : List File). x ∷ l) w.1)))
    (cases_Bool (nat_lt after x.id))

-- at first all are behind
pub none_passed : (files : List File) → Ascends (λ (f : File). f.id) 0 files → (behind 0 files ≡ files) × (up_to 0 files ≡ [])
none_passed files asc = all_behind 0 0 files (omega arith) asc

-- a file that is found among those up to an id is one of these
among_up_to : (t : File → Bool) (after : ℕ) (files : List File) (x : File) → find t (up_to after files) ≡ Some x → x.id ≤ after
unfolding up_to
among_up_to t after [] x is = absurd (none-some x is)
among_up_to t after (y ∷ ys) x is = ⊎_elim
    (λ (more : nat_lt after y.id ≡ true). among_up_to t after ys x (rw more at is))
    (λ (less : nat_lt after y.id ≡ false). ⊎_elim
    (λ (yes : t y ≡ true). let same : y ≡ x = same_Some y x (rw (less, yes) at is) in rw (← same) (omega (arith, ltb-false after y.id less)))
    (λ (no : t y ≡ false). among_up_to t after ys x (rw (less, no) at is))
    (cases_Bool (t y)))
    (cases_Bool (nat_lt after y.id))

-- none of those has the name of the next
pub new_name : (after low : ℕ) (files : List File) (f : File) → IsTable files → Ascends (λ (x : File). x.id) low files → file_above after files ≡ Some f → file_named f.name (up_to after files) ≡ None
unfolding file_above file_named
new_name after low files f table asc is = go (file_named f.name (up_to after files)) refl
  where
    own : file_named f.name files ≡ Some f
    own = found-all (λ (x : File). file_named x.name files ≡ Some x) (λ (x : File). nat_lt after x.id) files f table.by_name is

    go : (o : Option File) → file_named f.name (up_to after files) ≡ o → o ≡ None
    go None none = refl
    go (Some x) some =
        let whole : file_named f.name files ≡ Some x = ap (file_named f.name) (split_at after low files asc) ∙ named-left f.name (up_to after files) (behind after files) x some in
        let same : x ≡ f = same_Some x f (sym whole ∙ own) in
        let less : x.id ≤ after = among_up_to (λ (y : File). same_text y.name f.name) after files x some in
        let more : after < f.id = ltb-true after f.id (found-passes (λ (y : File). nat_lt after y.id) files f is) in
        absurd (omega (arith, less, more, ap (λ (y : File). y.id) same))

-- ---- how many are kept, and how many there are

pub kept-more : (alike : Bool) (front : List File) (f : File) (first : List File) → kept_count alike (front ++ f ∷ []) first ≡ kept_count alike front first + cond (keeps alike f first) 1 0
unfolding kept_count
kept-more alike [] f first = ⊎_elim (λ (yes : keeps alike f first ≡ true). rw yes refl) (λ (no : keeps alike f first ≡ false). rw no refl) (cases_Bool (keeps alike f first))
kept-more alike (x ∷ xs) f first = ⊎_elim
    (λ (yes : keeps alike x first ≡ true). rw yes (omega (arith, kept-more alike xs f first)))
    (λ (no : keeps alike x first ≡ false). rw no (kept-more alike xs f first))
    (cases_Bool (keeps alike x first))

pub long-more : (front : List File) (f : File) → length (front ++ f ∷ []) ≡ length front + 1
long-more [] f = refl
long-more (x ∷ xs) f = omega (arith, long-more xs f)

-- ---- the first record of the working name

prefix_here : (t : File → Bool) (front rest : List File) (f : File) → find t front ≡ None → t f ≡ true → prefix_len (λ x. not (t x)) (front ++ f ∷ rest) ≡ length front
prefix_here t [] rest f none passes = rw passes refl
prefix_here t (x ∷ xs) rest f none passes = ⊎_elim
    (λ (is : t x ≡ true). absurd (none-some x (sym (rw is at none))))
    (λ (other : t x ≡ false). let more = prefix_here t xs rest f (rw other at none) passes in rw other (omega (arith, more)))
    (cases_Bool (t x))

prefix_all : (t : File → Bool) (files : List File) → find t files ≡ None → prefix_len (λ x. not (t x)) files ≡ length files
prefix_all t [] none = refl
prefix_all t (x ∷ xs) none = ⊎_elim
    (λ (is : t x ≡ true). absurd (none-some x (sym (rw is at none))))
    (λ (other : t x ≡ false). let more = prefix_all t xs (rw other at none) in rw other (omega (arith, more)))
    (cases_Bool (t x))

pub place_here : (t : File → Bool) (front rest : List File) (f : File) → find t front ≡ None → t f ≡ true → position t (front ++ f ∷ rest) ≡ Some (length front)
place_here t front rest f none passes =
    let long : length (front ++ f ∷ rest) ≡ length front + (length rest + 1) = simp length-append (omega arith) in
    let inside : nat_lt (length front) (length (front ++ f ∷ rest)) ≡ true = lt-ltb (length front) (length (front ++ f ∷ rest)) (omega (arith, long)) in
    rw (prefix_here t front rest f none passes) (rw inside refl)

pub place_none : (t : File → Bool) (files : List File) → find t files ≡ None → position t files ≡ None
place_none t files none = rw (prefix_all t files none) (rw (le-ltb (length files) (length files) (omega arith)) refl)

pub find_more : (t : File → Bool) (front : List File) (f : File) → find t front ≡ None → t f ≡ false → find t (front ++ f ∷ []) ≡ None
find_more t [] f none fails = rw fails refl
find_more t (x ∷ xs) f none fails = ⊎_elim
    (λ (is : t x ≡ true). absurd (none-some x (sym (rw is at none))))
    (λ (other : t x ≡ false). rw other (find_more t xs f (rw other at none) fails))
    (cases_Bool (t x))
