-- A file whose name has its mark alone counts.
use Rattle.std.proofs.Common.{◌≡◌, ℕ, ◌+◌, ◌&&◌, ◌==◌, ◌<◌, length, get_or, nat_lt, ⊎_elim, inl, inr, ◌⊎◌, Bool, true, false, List, refl, sym, ◌∙◌, ap, arith, Option, Some, None, if◌then◌else◌, replicate}
use Rattle.std.specs.Prelude.{Result, Ok, Err, set}
use Rattle.std.proofs.lemmas.Bool.{cases_eq, cases_Bool, le-ltb, eq-eqb, ne_eqb}
use Rattle.std.proofs.lemmas.List.{get_or-set_same, get_or-set_other, length-replicate}
use Rattle.geometry.specs.declared.geometry.Geometry.{Geometry}
use Rattle.table_model.specs.Table.{File, same_text}
use Rattle.image_model.specs.declared.damage.Damage.{Damage}
use Rattle.image_model.specs.Headers.{name_of}
use Rattle.image_model.specs.Live.{Live, own}
use Rattle.image_model.specs.Tables.{Found, has_of, is_before, counts}
use Rattle.plain_image.specs.Leading.{file_page, AreFiles}
use Rattle.plain_image.specs.Marked.{name_mark, whole_name, mark_after, AreMarked}
use Rattle.plain_image.proofs.Leading.{texts, counting, whole_of}

-- ---- the name of a whole file

no_name : (o : Option (ℕ × Result File Damage)) → file_page o ≡ None → None ≡ whole_name o
no_name None e = refl
no_name (Some (q, Err x)) e = refl
no_name (Some (q, Ok f)) e = absurd (cc)

pub name_none : (g : Geometry) (live : Live) (id : ℕ) (files : List (Option ℕ)) → AreFiles g live 0x8000 files → id < 0x8000 → get_or files id None ≡ None → None ≡ whole_name (has_of g live id)
name_none g live id files are low none = no_name (has_of g live id) (sym (are.each id low) ∙ none)

pub name_some : (g : Geometry) (live : Live) (id q : ℕ) (files : List (Option ℕ)) (head : List ℕ) → AreFiles g live 0x8000 files → id < 0x8000 → get_or files id None ≡ Some q → Some head ≡ own live id q →
    name_of head ≡ whole_name (has_of g live id)
name_some g live id q files head are low some at =
    let w = whole_of g live id q (sym (are.each id low) ∙ some) in
    let same : Some head ≡ Some w.head = at ∙ w.own_is in
    let is : head ≡ w.head = cc in
    rw w.has_is (ap name_of is ∙ w.name_is)

-- a page that isn't live is the header page of no whole file
pub name_dead : (g : Geometry) (live : Live) (id q : ℕ) (files : List (Option ℕ)) → AreFiles g live 0x8000 files → id < 0x8000 → get_or files id None ≡ Some q → None ≡ own live id q → None ≡ whole_name (has_of g live id)
name_dead g live id q files are low some at =
    let w = whole_of g live id q (sym (are.each id low) ∙ some) in
    absurd (let bad : None ≡ Some w.head = at ∙ w.own_is in cc)

-- ---- noting names

pub mark_noted : (old new : List ℕ) (k v : ℕ) → k < length old → new ≡ set old k v → (i : ℕ) → get_or new i 0 ≡ (if k == i then v else get_or old i 0)
mark_noted old new k v h is i =
    ⊎_elim
    (λ (same : k ≡ i). rw (is, eq-eqb k i same, ← same) (get_or-set_same old k v 0 h))
    (λ (differ : k ≡ i → ⊥). rw (is, ne_eqb k i differ) (get_or-set_other old k i v 0 (λ e. differ (sym e))))
    (cases_eq k i)

-- what stands at a mark behind a noted name is the id, or that there are several
after_is : (id was : ℕ) → (mark_after id was ≡ id) ⊎ (mark_after id was ≡ 0xFFFF)
after_is id was = ⊎_elim
    (λ (none : was ≡ 0). inl (rw (eq-eqb was 0 none) refl))
    (λ (some : was ≡ 0 → ⊥). inr (rw (ne_eqb was 0 some) refl))
    (cases_eq was 0)

after_some : (id was : ℕ) → (was ≡ 0 → ⊥) → mark_after id was ≡ 0xFFFF
after_some id was some = rw (ne_eqb was 0 some) refl

pub marked_more : (has : Found) (id : ℕ) (name : List ℕ) (old new : List ℕ) → AreMarked has id old → whole_name (has id) ≡ Some name → length new ≡ 0x4000 →
    ((k : ℕ) → get_or new k 0 ≡ (if name_mark name == k then mark_after id (get_or old k 0) else get_or old k 0)) → AreMarked has (id + 1) new
marked_more has id name old new was is len each = record {
  len = len;
  each = λ j other from below named. ⊎_elim
      (λ (here : name_mark name ≡ name_mark other).
      let now : get_or new (name_mark other) 0 ≡ mark_after id (get_or old (name_mark other) 0) = rw (each (name_mark other), eq-eqb (name_mark name) (name_mark other) here) refl in
      ⊎_elim
      (λ (last : j ≡ id). ⊎_elim (λ x. inl (now ∙ x ∙ sym last)) (λ x. inr (now ∙ x)) (after_is id (get_or old (name_mark other) 0)))
      (λ (before : j ≡ id → ⊥). inr (now ∙ after_some id (get_or old (name_mark other) 0) (λ none. ⊎_elim
      (λ (x : get_or old (name_mark other) 0 ≡ j). omega (arith, x, none, from))
      (λ (x : get_or old (name_mark other) 0 ≡ 0xFFFF). omega (arith, x, none))
      (was.each j other from (omega (arith, before, below)) named))))
      (cases_eq j id))
      (λ (there : name_mark name ≡ name_mark other → ⊥).
      let now : get_or new (name_mark other) 0 ≡ get_or old (name_mark other) 0 = rw (each (name_mark other), ne_eqb (name_mark name) (name_mark other) there) refl in
      let earlier : j < id = ⊎_elim
      (λ (last : j ≡ id). absurd (let same : Some other ≡ Some name = sym named ∙ ap (λ (i : ℕ). whole_name (has i)) last ∙ is in let at : other ≡ name = cc in there (ap name_mark (sym at))))
      (λ (before : j ≡ id → ⊥). omega (arith, before, below))
      (cases_eq j id) in
      ⊎_elim (λ x. inl (now ∙ x)) (λ x. inr (now ∙ x)) (was.each j other from earlier named))
      (cases_eq (name_mark name) (name_mark other));
}

pub marked_same : (has : Found) (id : ℕ) (marks : List ℕ) → AreMarked has id marks → None ≡ whole_name (has id) → AreMarked has (id + 1) marks
marked_same has id marks was none = record {
  len = was.len;
  each = λ j other from below named. ⊎_elim
      (λ (last : j ≡ id). absurd (let bad : None ≡ Some other = none ∙ ap (λ (i : ℕ). whole_name (has i)) (sym last) ∙ named in cc))
      (λ (before : j ≡ id → ⊥). was.each j other from (omega (arith, before, below)) named)
      (cases_eq j id);
}

pub marked_none : (has : Found) (marks : List ℕ) → marks ≡ replicate 0x4000 0 → AreMarked has 1 marks
marked_none has marks is = record { len = ap length is ∙ length-replicate {A = ℕ} 0x4000 0; each = λ j other from below named. absurd (omega arith) }

-- ---- a name that has its mark alone

and_no : (b : Bool) → (b && false) ≡ false
and_no true = refl
and_no false = refl

quiet_at : (o : Option (ℕ × Result File Damage)) (p : ℕ) (name : List ℕ) → ((q : ℕ) → file_page o ≡ Some q → whole_name o ≡ Some name → q ≡ p) → is_before o p name ≡ false
quiet_at None p name same = refl
quiet_at (Some (q, Err e)) p name same = refl
quiet_at (Some (q, Ok f)) p name same = ⊎_elim
    (λ (yes' : same_text f.name name ≡ true). let at : q ≡ p = same q refl (ap Some (texts f.name name yes')) in rw (le-ltb q p (omega (arith, at))) refl)
    (λ (no' : same_text f.name name ≡ false). rw no' (and_no (nat_lt q p)))
    (cases_Bool (same_text f.name name))

pub alone_counts : (g : Geometry) (live : Live) (n id p : ℕ) (files : List (Option ℕ)) (marks name : List ℕ) → AreFiles g live 0x8000 files → AreMarked (has_of g live) (n + 1) marks → id < 0x8000 →
    get_or marks (name_mark name) 0 ≡ id → get_or files id None ≡ Some p → true ≡ counts (has_of g live) n p name
alone_counts g live n id p files marks name are marked low mark page =
    let has : Found = has_of g live in
    let here : file_page (has id) ≡ Some p = sym (are.each id low) ∙ page in
    sym (counting has 0 n name p (λ j from below. quiet_at (has j) p name (λ q at named.
    ⊎_elim
    (λ (x : get_or marks (name_mark name) 0 ≡ j).
    let same : id ≡ j = sym mark ∙ x in
    let both : Some q ≡ Some p = sym at ∙ ap (λ (i : ℕ). file_page (has i)) (sym same) ∙ here in
    let result : q ≡ p = cc in result)
    (λ (x : get_or marks (name_mark name) 0 ≡ 0xFFFF). absurd (omega (arith, x, mark, low)))
    (marked.each j name from below named))))
