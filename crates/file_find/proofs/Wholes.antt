-- Whole files of one name, of which one counts, and the damage of an id that has one.
use Rattle.std.proofs.Common.{◌≡◌, ℕ, zero, suc, ◌+◌, ◌%◌, ◌==◌, ◌&&◌, ◌<◌, ◌≤◌, not, nat_lt, ⊎_elim, Bool, true, false, List, [], ◌∷◌, refl, sym, ◌∙◌, ap, arith, Option, Some, None, if◌then◌else◌}
use Rattle.std.specs.Prelude.{Result, Ok, Err, find}
use Rattle.std.specs.Option.{option_map}
use Rattle.std.specs.List.{range_with_len, list_any}
use Rattle.std.specs.Cmp.Lexicographic.{same_text as text_is}
use Rattle.std.proofs.lemmas.Bool.{cases_lt, cases_eq, cases_Bool, and_parts, lt-ltb, le-ltb, eq-eqb}
use Rattle.std.proofs.lemmas.Option.{none-some, some_pair_parts}
use Rattle.geometry.specs.declared.geometry.Geometry.{Geometry}
use Rattle.table_model.specs.Table.{File, same_text}
use Rattle.image_model.specs.declared.damage.Damage.{Damage}
use Rattle.image_model.specs.declared.damage.Damage.TheVariants.{SameName}
use Rattle.geometry.specs.Numbers.{page_count}
use Rattle.image_model.specs.Headers.{obj_id, name_of, is_finished}
use Rattle.image_model.specs.Places.{page_of}
use Rattle.image_model.specs.Live.{Live, live_at, own}
use Rattle.image_model.specs.Files.{index_page, is_index, judged, judged_by, file_of, first_missing}
use Rattle.image_model.specs.Tables.{Found, has_of, ids, is_before, counts, counted, is_named, holder}
use Rattle.flash_view.specs.Found.{headed, is_name}
use Rattle.file_find.specs.Marks.{cause_at}
use Rattle.flash_view.proofs.Entries.{live_page}
use Rattle.file_find.proofs.Marking.{has_at, has_none}
use Rattle.file_find.proofs.Heads.{header_parts}

-- ---- what a header page tells

pub equal_text : (xs : List ℕ) → same_text xs xs ≡ true
equal_text [] = refl
equal_text (x ∷ xs) = rw (eq-eqb x x refl) (equal_text xs)

pub texts : (xs ys : List ℕ) → same_text xs ys ≡ true → xs ≡ ys
texts xs ys e = text_is xs ys (sym e)

-- the id of a header page is from 1 to 0x7FFF
id_within : (page : List ℕ) (id : ℕ) (index : Bool) → is_finished page ≡ true → (if index then Some (obj_id page % 0x8000) else None) ≡ Some id → (1 ≤ id) × (id ≤ 0x7FFF)
unfolding is_finished
id_within page id false e is = absurd (cc)
id_within page id true e is =
    let a = and_parts _ _ e in let b = and_parts _ _ a.0 in let c = and_parts _ _ b.0 in let d = and_parts _ _ c.0 in
    let some = (and_parts (not (obj_id page % 0x8000 == 0)) (not (obj_id page == 0xFFFF)) d.0).0 in
    let same : obj_id page % 0x8000 ≡ id = cc in
    ⊎_elim
    (λ (zeroed : obj_id page % 0x8000 ≡ 0). let t : (obj_id page % 0x8000 == 0) ≡ true = eq-eqb _ 0 zeroed in let bad : not true ≡ true = rw t at some in absurd (cc))
    (λ (other : obj_id page % 0x8000 ≡ 0 → ⊥). (omega (arith, other, same), omega (arith, same)))
    (cases_eq (obj_id page % 0x8000) 0)

within_live : (g : Geometry) (image : List ℕ) (p id : ℕ) (o : Option (List ℕ)) → live_at g image p ≡ o → headed o ≡ Some id → (1 ≤ id) × (id ≤ 0x7FFF)
within_live g image p id None is e = absurd (cc)
within_live g image p id (Some page) is e = id_within page id (is_index (Some page) 0) (live_page g image p page is).finished e

pub head_within : (g : Geometry) (image : List ℕ) (p id : ℕ) → headed (live_at g image p) ≡ Some id → (1 ≤ id) × (id ≤ 0x7FFF)
head_within g image p id e = within_live g image p id (live_at g image p) refl e

pub named_parts : (marked named : Bool) (o : Option ℕ) (id : ℕ) → (if marked && named then o else None) ≡ Some id → (marked ≡ true) × (named ≡ true) × (o ≡ Some id)
named_parts true true o id e = (refl, refl, e)
named_parts true false o id e = absurd (cc)
named_parts false named o id e = absurd (cc)

pub name_is : (found : Option (List ℕ)) (mine name : List ℕ) → found ≡ Some mine → is_name found name ≡ true → mine ≡ name
name_is None mine name is e = absurd (cc)
name_is (Some found) mine name is e = let same : found ≡ mine = cc in sym same ∙ texts found name e

name_by : (g : Geometry) (pages : Live) (id : ℕ) (head : List ℕ) (name : Option (List ℕ)) (missing : Option ℕ) (f : File) → judged_by g pages id head name missing ≡ Ok f → name ≡ Some f.name
name_by g pages id head None missing f e = absurd (cc)
name_by g pages id head (Some name) (Some span) f e = absurd (cc)
name_by g pages id head (Some name) None f e = let same : file_of g pages id head name ≡ f = cc in ap (λ (x : File). Some x.name) same

pub name_of_file : (g : Geometry) (pages : Live) (id : ℕ) (head : List ℕ) (f : File) → judged g pages id head ≡ Ok f → name_of head ≡ Some f.name
unfolding judged
name_of_file g pages id head f e = name_by g pages id head (name_of head) (first_missing g pages head) f e

-- ---- what an id has, by its header page

pub has_parts : (g : Geometry) (image : List ℕ) (id p : ℕ) (r : Result File Damage) (o : Option ℕ) → index_page g (own (live_at g image) id) 0 ≡ o → has_of g (live_at g image) id ≡ Some (p, r) →
    (index_page g (own (live_at g image) id) 0 ≡ Some p) × (judged g (own (live_at g image) id) id (page_of g image p) ≡ r)
has_parts g image id p r None is e = absurd (none-some (p, r) (sym (has_none g (live_at g image) id is) ∙ e))
has_parts g image id p r (Some q) is e =
    let w = some_pair_parts q p (judged g (own (live_at g image) id) id (page_of g image q)) r (sym (has_at g image id q is) ∙ e) in
    (is ∙ ap (λ (x : ℕ). Some x) w.0, rw w.0 at w.1)

-- an id that has a whole file of this name with this header page
pub record Whole (g : Geometry) (image : List ℕ) (id p : ℕ) (f : File) : Type 0 where
  pub first : index_page g (own (live_at g image) id) 0 ≡ Some p
  pub is : judged g (own (live_at g image) id) id (page_of g image p) ≡ Ok f
  pub head : headed (live_at g image p) ≡ Some id
  pub below : p < page_count g
  pub low : 1 ≤ id
  pub high : id ≤ 0x7FFF

pub whole_of : (g : Geometry) (image : List ℕ) (id p : ℕ) (f : File) → has_of g (live_at g image) id ≡ Some (p, Ok f) → Whole g image id p f
whole_of g image id p f has =
    let w = has_parts g image id p (Ok f) (index_page g (own (live_at g image) id) 0) refl has in
    let head = header_parts g image id p w.0 in
    let within = head_within g image p id head.0 in
    record { first = w.0; is = w.1; head = head.0; below = head.1; low = within.0; high = within.1 }

-- ---- whole files of one name

pub find_one : (t : ℕ → Bool) (a n k : ℕ) → a ≤ k → k < a + n → t k ≡ true → ((i : ℕ) → t i ≡ true → i ≡ k) → find t (range_with_len a n) ≡ Some k
find_one t a zero k low high here same = absurd (omega arith)
find_one t a (suc n) k low high here same =
    ⊎_elim
    (λ (yes' : t a ≡ true). rw yes' (ap (λ (x : ℕ). Some x) (same a yes')))
    (λ (no' : t a ≡ false). ⊎_elim
    (λ (x : a ≡ k). let bad : true ≡ false = sym here ∙ ap t (sym x) ∙ no' in absurd (cc))
    (λ (x : a ≡ k → ⊥). rw no' (find_one t (a + 1) n k (omega (arith, x)) (omega arith) here same))
    (cases_eq a k))
    (cases_Bool (t a))

pub find_nothing : (t : ℕ → Bool) (a n : ℕ) → ((i : ℕ) → t i ≡ true → ⊥) → find t (range_with_len a n) ≡ None
find_nothing t a zero none = refl
find_nothing t a (suc n) none =
    ⊎_elim
    (λ (yes' : t a ≡ true). absurd (none a yes'))
    (λ (no' : t a ≡ false). rw no' (find_nothing t (a + 1) n none))
    (cases_Bool (t a))

pub nothing_found : (t : ℕ → Bool) (a n : ℕ) → find t (range_with_len a n) ≡ None → (q : ℕ) → a ≤ q → q < a + n → t q ≡ false
nothing_found t a zero e q low high = absurd (omega arith)
nothing_found t a (suc n) e q low high =
    ⊎_elim
    (λ (yes' : t a ≡ true). let bad : Some a ≡ None = rw yes' at e in absurd (cc))
    (λ (no' : t a ≡ false). ⊎_elim
    (λ (x : a ≡ q). rw x at no')
    (λ (x : a ≡ q → ⊥). nothing_found t (a + 1) n (rw no' at e) q (omega (arith, x)) (omega arith))
    (cases_eq a q))
    (cases_Bool (t a))

any_at : (t : ℕ → Bool) (a n j : ℕ) → list_any t (range_with_len a n) ≡ false → a ≤ j → j < a + n → t j ≡ false
any_at t a zero j e low high = absurd (omega arith)
any_at t a (suc n) j e low high =
    ⊎_elim
    (λ (yes' : t a ≡ true). let bad : true ≡ false = rw yes' at e in absurd (cc))
    (λ (no' : t a ≡ false). ⊎_elim
    (λ (x : a ≡ j). rw x at no')
    (λ (x : a ≡ j → ⊥). any_at t (a + 1) n j (rw no' at e) (omega (arith, x)) (omega arith))
    (cases_eq a j))
    (cases_Bool (t a))

any_found : (t : ℕ → Bool) (a n : ℕ) → list_any t (range_with_len a n) ≡ true → (i : ℕ) × (t i ≡ true)
any_found t a zero e = absurd (cc)
any_found t a (suc n) e =
    ⊎_elim
    (λ (yes' : t a ≡ true). (a, yes'))
    (λ (no' : t a ≡ false). any_found t (a + 1) n (rw no' at e))
    (cases_Bool (t a))

not_false : (b : Bool) → not b ≡ false → b ≡ true
not_false true e = refl
not_false false e = absurd (cc)

not_true : (b : Bool) → not b ≡ true → b ≡ false
not_true true e = absurd (cc)
not_true false e = refl

-- a file that counts has no whole file of its name before it
pub clash : (has : Found) (n q r j : ℕ) (name : List ℕ) (h : File) → counts has n q name ≡ true → 1 ≤ j → j ≤ n → has j ≡ Some (r, Ok h) → h.name ≡ name → r < q → ⊥
unfolding counts
clash has n q r j name h c low high is named less =
    let none : list_any (λ (id : ℕ). is_before (has id) q name) (ids n) ≡ false = not_true _ c in
    let fails : is_before (has j) q name ≡ false = any_at (λ (id : ℕ). is_before (has id) q name) 1 n j none low (omega arith) in
    let passes : is_before (has j) q name ≡ true = rw is (rw (lt-ltb r q less, named) (equal_text name)) in
    let bad : true ≡ false = sym passes ∙ fails in absurd (cc)

pub record IsBefore (o : Option (ℕ × Result File Damage)) (p : ℕ) (name : List ℕ) : Type 0 where
  pub page : ℕ
  pub file : File
  pub is : o ≡ Some (page, Ok file)
  pub less : page < p
  pub named : file.name ≡ name

before_parts : (o : Option (ℕ × Result File Damage)) (p : ℕ) (name : List ℕ) → is_before o p name ≡ true → IsBefore o p name
before_parts None p name e = absurd (cc)
before_parts (Some (q, Err x)) p name e = absurd (cc)
before_parts (Some (q, Ok f)) p name e =
    let w = and_parts (nat_lt q p) (same_text f.name name) e in
    ⊎_elim
    (λ (less : q < p). record { page = q; file = f; is = refl; less = less; named = texts f.name name w.1 })
    (λ (more : p ≤ q). let bad : true ≡ false = sym w.0 ∙ le-ltb q p more in absurd (cc))
    (cases_lt q p)

-- one that doesn't count has a whole file of its name before it
pub record HasBefore (has : Found) (p : ℕ) (name : List ℕ) : Type 0 where
  pub id : ℕ
  pub before : IsBefore (has id) p name

pub had_before : (has : Found) (n p : ℕ) (name : List ℕ) → counts has n p name ≡ false → HasBefore has p name
unfolding counts
had_before has n p name e =
    let w = any_found (λ (id : ℕ). is_before (has id) p name) 1 n (not_false _ e) in
    record { id = w.0; before = before_parts (has w.0) p name w.1 }

-- the first of them counts
pub record Counts (has : Found) (n end : ℕ) (name : List ℕ) : Type 0 where
  pub id : ℕ
  pub page : ℕ
  pub file : File
  pub is : has id ≡ Some (page, Ok file)
  pub named : file.name ≡ name
  pub counting : counts has n page name ≡ true
  pub below : page < end

pub first_that_counts : (has : Found) (n end bound id p : ℕ) (name : List ℕ) (f : File) → p < bound → p < end → has id ≡ Some (p, Ok f) → f.name ≡ name → Counts has n end name
first_that_counts has n end zero id p name f low below is named = absurd (omega (arith, low))
first_that_counts has n end (suc bound) id p name f low below is named =
    ⊎_elim
    (λ (yes' : counts has n p name ≡ true). record { id = id; page = p; file = f; is = is; named = named; counting = yes'; below = below })
    (λ (no' : counts has n p name ≡ false).
    let w = had_before has n p name no' in
    let b = w.before in
    first_that_counts has n end bound w.id b.page name b.file (omega (arith, b.less, low)) (omega (arith, b.less, below)) b.is b.named)
    (cases_Bool (counts has n p name))

pub record IsHolder (has : Found) (n : ℕ) (o : Option (ℕ × Result File Damage)) (name : List ℕ) : Type 0 where
  pub page : ℕ
  pub file : File
  pub is : o ≡ Some (page, Ok file)
  pub counting : counts has n page name ≡ true
  pub named : file.name ≡ name

named_if : (f : File) (b : Bool) (name : List ℕ) → is_named (if b then Some f else None) name ≡ true → (b ≡ true) × (f.name ≡ name)
named_if f true name e = (refl, texts f.name name e)
named_if f false name e = absurd (cc)

pub holder_parts : (has : Found) (n : ℕ) (o : Option (ℕ × Result File Damage)) (name : List ℕ) → is_named (counted has n o) name ≡ true → IsHolder has n o name
holder_parts has n None name e = absurd (cc)
holder_parts has n (Some (q, Err x)) name e = absurd (cc)
holder_parts has n (Some (q, Ok f)) name e =
    let w = named_if f (counts has n q f.name) name e in
    record { page = q; file = f; is = refl; counting = rw w.1 at w.0; named = w.1 }

-- ---- the damage of an id that has a whole file

cause_if : (counting : Bool) (id : ℕ) (e : Damage) → option_map (λ (d : ℕ × Damage). d.1) (if counting then None else Some (id, e)) ≡ None → counting ≡ true
cause_if true id e none = refl
cause_if false id e none = absurd (none-some e (sym none))

pub cause_counts : (g : Geometry) (image : List ℕ) (id p : ℕ) (f : File) → has_of g (live_at g image) id ≡ Some (p, Ok f) → cause_at g image id ≡ None → counts (has_of g (live_at g image)) 0x7FFF p f.name ≡ true
unfolding cause_at
cause_counts g image id p f has none = cause_if (counts (has_of g (live_at g image)) 0x7FFF p f.name) id (SameName (holder (has_of g (live_at g image)) 0x7FFF f.name)) (rw has at none)

pub counts_cause : (g : Geometry) (image : List ℕ) (id p : ℕ) (f : File) → has_of g (live_at g image) id ≡ Some (p, Ok f) → counts (has_of g (live_at g image)) 0x7FFF p f.name ≡ true → cause_at g image id ≡ None
unfolding cause_at
counts_cause g image id p f has counting = rw has (rw counting refl)

pub doubled_cause : (g : Geometry) (image : List ℕ) (id p : ℕ) (f : File) → has_of g (live_at g image) id ≡ Some (p, Ok f) → counts (has_of g (live_at g image)) 0x7FFF p f.name ≡ false →
    cause_at g image id ≡ Some (SameName (holder (has_of g (live_at g image)) 0x7FFF f.name))
unfolding cause_at
doubled_cause g image id p f has other = rw has (rw other refl)

pub broken_cause : (g : Geometry) (image : List ℕ) (id p : ℕ) (e : Damage) → has_of g (live_at g image) id ≡ Some (p, Err e) → cause_at g image id ≡ Some e
unfolding cause_at
broken_cause g image id p e has = rw has refl
