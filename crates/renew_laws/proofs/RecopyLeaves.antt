-- Tidy images after a data page is put beside, and after an index page is renewed.
use Rattle.std.proofs.Common.{◌≡◌, ◌≢◌, ℕ, ◌%◌, ◌<◌, ◌⊎◌, List, Bool, true, false, not, ◌==◌, ◌&&◌, ◌||◌, Option, Some, None, Ok, ap, refl, sym, ◌∙◌, ⊎_elim, inl, inr}
use Rattle.std.specs.Prelude.{is_some}
use Rattle.std.proofs.lemmas.Bool.{cases_eq, cases_Bool, and_parts, or_parts, or_cases, eq-eqb, eqb-true}
use Rattle.std.proofs.lemmas.Option.{none-some, same_Some}
use Rattle.geometry.specs.declared.geometry.Geometry.{Geometry}
use Rattle.image_model.specs.Live.{live_at, Live, own}
use Rattle.image_model.specs.Headers.{obj_id}
use Rattle.image_model.specs.Places.{entry_of}
use Rattle.image_laws.proofs.TidySteps.{neat-but, neat-end, neat-none}
use Rattle.image_laws.specs.Changes.{Gains}
use Rattle.table_model.specs.Table.{File, put_file}
use Rattle.image_model.specs.Tables.{damaged_of, table_of}
use Rattle.image_model.specs.Files.{index_page, data_of}
use Rattle.image_model.specs.Tidy.{serves, IsNeat}
use Rattle.image_laws.specs.TidySteps.{IsTidyBut, IsNeatBut}
use Rattle.image_laws.specs.Spares.{leftover, Spares}
use Rattle.renew_laws.specs.OneId.{OneIdChanges}
use Rattle.image_laws.specs.LiveSteps.{PutDone, KillDone}
use Rattle.renew_laws.specs.Replace.{Replaced}
use Rattle.renew_laws.specs.Recopy.{RecopiesTo, RecopySpares, Renamed, PutSame}
use Rattle.image_model.specs.Within.{page_number}
use Rattle.image_laws.proofs.Finish.{own-parts, has_of-within, records-put_again}
use Rattle.renew_laws.proofs.OneIdTidy.{one_id-neat, one_id-spares}
use Rattle.renew_laws.proofs.ReindexSteps.{three_other, three_v, head3, judged3, serves_named, serves_copy, serves_still}
use Rattle.renew_laws.proofs.RecopyCuts.{mine4, mine5, mixed5, others5, unused0, bounds}
use Rattle.renew_laws.proofs.LiveServes.{served-but}

no_data_at : (pages : Live) (r q t : ℕ) → r ≡ q → data_of (pages q) t ≡ None → is_some (data_of (pages r) t) ≡ true → ⊥
no_data_at pages r q t e none some =
    let gone : is_some (data_of (pages r) t) ≡ false = ap (λ (k : ℕ). is_some (data_of (pages k) t)) e ∙ ap is_some none in
    let bad : true ≡ false = sym some ∙ gone in absurd (cc)

some_data : (o : Option (List ℕ)) (t : ℕ) → is_some (data_of o t) ≡ true → (x : List ℕ) × (o ≡ Some x)
some_data None t h = cc
some_data (Some x) t h = (x, refl)

module _ (g : Geometry) (a0 a4 a6 : List ℕ) (p o id h : ℕ) (old page head head' : List ℕ) (f0 f : File) (copies olds : ℕ → Bool) (start : RecopiesTo g a0 p o id h old page head head' f0 f)
    (t : IsNeatBut g a0 copies) (done : PutDone g p page a0 a4) (last : KillDone g o a4 a6) (names : Renamed g (own (live_at g a0) id) head old page copies olds) where
  gains : Gains p page (own (live_at g a0) id) (own (live_at g a4) id)
  gains = mine4 g a0 p o id h old page head head' f0 f start a4 done.gains

  loses : Rattle.image_laws.specs.Changes.Loses o (own (live_at g a4) id) (own (live_at g a6) id)
  loses = mine5 g a0 p o id h old page head head' f0 f start a4 done.gains a6 last.loses

  within : p < Rattle.geometry.specs.Numbers.page_count g
  within = page_number g p start.inside

  -- a copy is neither the new index page nor the old one
  copy_apart : (r : ℕ) → copies r ≡ true → (r ≢ p) × (r ≢ o)
  copy_apart r e =
      let w = names.named r e in (
        λ k. no_data_at (own (live_at g a0) id) r p w.0 k (rw gains.before refl) w.4,
        λ k. no_data_at (own (live_at g a0) id) r o w.0 k (rw start.pages.was (rw start.pages.index refl)) w.4,
      )

  old_kept : copies o ≡ false
  old_kept = Rattle.std.proofs.lemmas.Bool.false_from_ne_true _ (λ yes. (copy_apart o yes).1 refl)

  old_serves : serves g (own (live_at g a0) id) head o ≡ true
  old_serves = served-but g a0 copies t id h head start.pages.at start.pages.header o old old_kept start.pages.was

  back : (r : ℕ) → r ≢ p → r ≢ o → own (live_at g a6) id r ≡ own (live_at g a0) id r
  back r x y = three_other g (own (live_at g a0) id) (own (live_at g a4) id) (own (live_at g a6) id) id o p h old page head head' f0 f start.pages within gains loses r y x

  here : own (live_at g a6) id p ≡ Some page
  here = three_v g (own (live_at g a0) id) (own (live_at g a4) id) (own (live_at g a6) id) id o p h old page head head' f0 f start.pages within gains loses

  header : (k : ℕ) × (index_page g (own (live_at g a6) id) 0 ≡ Some k) × (own (live_at g a6) id k ≡ Some head')
  header = head3 g (own (live_at g a0) id) (own (live_at g a4) id) (own (live_at g a6) id) id o p h old page head head' f0 f start.pages within gains loses

  copy_serves : (r : ℕ) → copies r ≡ true → serves g (own (live_at g a6) id) head' r ≡ true
  copy_serves r e =
      let w = names.named r e in
      serves_named g (own (live_at g a0) id) (own (live_at g a4) id) (own (live_at g a6) id) id o p h old page head head' f0 f start.pages within gains loses w.0 r w.1 w.2 w.3 w.4

  new_serves : serves g (own (live_at g a6) id) head' p ≡ true
  new_serves = serves_copy g (own (live_at g a0) id) (own (live_at g a4) id) (own (live_at g a6) id) id o p h old page head head' f0 f start.pages within gains loses old_serves

  spare : ℕ → Bool
  spare r = olds r && leftover g (own (live_at g a6) id) head' r

  spare-from : (r : ℕ) (x : List ℕ) → olds r ≡ true → own (live_at g a6) id r ≡ Some x → ((olds r && leftover g (own (live_at g a6) id) head' r) ≡ true) ⊎ (serves g (own (live_at g a6) id) head' r ≡ true)
  unfolding leftover
  spare-from r x o' e =
      ⊎_elim
      (λ (yes : serves g (own (live_at g a6) id) head' r ≡ true). inr yes)
      (λ (none : serves g (own (live_at g a6) id) head' r ≡ false). inl (rw (o', e) (rw none refl)))
      (cases_Bool (serves g (own (live_at g a6) id) head' r))

  served : (r : ℕ) (x : List ℕ) → own (live_at g a6) id r ≡ Some x → ((olds r && leftover g (own (live_at g a6) id) head' r) ≡ true) ⊎ (serves g (own (live_at g a6) id) head' r ≡ true)
  served r x e =
      ⊎_elim
      (λ (new : r ≡ p). inr (ap (serves g (own (live_at g a6) id) head') new ∙ new_serves))
      (λ (there : r ≡ p → ⊥). ⊎_elim
      (λ (gone : r ≡ o). absurd (none-some x (sym loses.after ∙ ap (own (live_at g a6) id) (sym gone) ∙ e)))
      (λ (left : r ≡ o → ⊥). ⊎_elim
      (λ (copy : copies r ≡ true). inr (copy_serves r copy))
      (λ (other : copies r ≡ false).
      let was : own (live_at g a0) id r ≡ Some x = sym (back r there left) ∙ e in
      ⊎_elim
      (λ (s : serves g (own (live_at g a6) id) head' r ≡ true). inr s)
      (λ (o' : olds r ≡ true). spare-from r x o' e)
      (serves_still g (own (live_at g a0) id) (own (live_at g a4) id) (own (live_at g a6) id) id o p h old page head head' f0 f start.pages within gains loses olds names.left r left
      (served-but g a0 copies t id h head start.pages.at start.pages.header r x other was)))
      (cases_Bool (copies r)))
      (cases_eq r o))
      (cases_eq r p)

  changes : OneIdChanges g id header.0 head' f (λ r. copies r || ((r == p) || (r == o))) (λ r. olds r && leftover g (own (live_at g a6) id) head' r) a0 a6
  changes =
      let limits = bounds g a0 p o id h old page head head' f0 f start in
      let untouched : (r : ℕ) → (copies r || ((r == p) || (r == o))) ≡ false → (r ≢ p) × (r ≢ o) = λ r out.
      let w : (copies r ≡ false) × (((r == p) || (r == o)) ≡ false) = or_parts (copies r) ((r == p) || (r == o)) out in
      let v : ((r == p) ≡ false) × ((r == o) ≡ false) = or_parts (r == p) (r == o) w.1 in
      (λ k. let y : (r == p) ≡ true = eq-eqb r p k in let n = v.0 in absurd (cc), λ k. let y : (r == o) ≡ true = eq-eqb r o k in let n = v.1 in absurd (cc)) in
      record {
        low = limits.0;
        high = limits.1;
        magic = λ k. last.agree.magic k ∙ done.agree.magic k;
        entry = λ r e out. let w = untouched r out in last.agree.entry r e w.1 ∙ done.agree.entry r e w.0;
        bytes = λ r e out. let w = untouched r out in last.agree.page r e w.1 ∙ done.agree.page r e w.0;
        others = others5 g a0 p o id h old page head head' f0 f start a4 done.gains a6 last.loses;
        mixed = mixed5 g a0 p o id h old page head head' f0 f start a4 done.gains a6 last.loses;
        at = header.1;
        header = header.2;
        file = judged3 g (own (live_at g a0) id) (own (live_at g a4) id) (own (live_at g a6) id) id o p h old page head head' f0 f start.pages within gains loses;
        unused = unused0 g a0 p o id h old page head head' f0 f start;
        killed = λ r e yes none. ⊎_elim
            (λ (copy : copies r ≡ true).
            let w = copy_apart r copy in
            let v = names.named r copy in
            let x = some_data (own (live_at g a0) id r) v.0 v.4 in
            absurd (none-some x.0 (sym none ∙ back r w.0 w.1 ∙ x.1)))
            (λ (x : ((r == p) || (r == o)) ≡ true). ⊎_elim
            (λ (y : (r == p) ≡ true). absurd (none-some page (sym none ∙ ap (own (live_at g a6) id) (eqb-true r p y) ∙ here)))
            (λ (y : (r == o) ≡ true). inr (ap (entry_of g a6) (eqb-true r o y) ∙ last.zero))
            (or_cases (r == p) (r == o) x))
            (or_cases (copies r) ((r == p) || (r == o)) yes);
        served = served;
      }

  idle : (r : ℕ) (x : List ℕ) → (olds r && leftover g (own (live_at g a6) id) head' r) ≡ true → live_at g a6 r ≡ Some x → (obj_id x % 0x8000 ≡ id) × (serves g (own (live_at g a6) id) head' r ≡ false)
  unfolding leftover
  idle r x e live =
      let w : (olds r ≡ true) × ((is_some (own (live_at g a6) id r) && not (serves g (own (live_at g a6) id) head' r)) ≡ true) = and_parts (olds r) _ e in
      let v : (is_some (own (live_at g a6) id r) ≡ true) × (not (serves g (own (live_at g a6) id) head' r) ≡ true) = and_parts (is_some (own (live_at g a6) id r)) _ w.1 in
      let y = Rattle.image_laws.proofs.Append.page_there (own (live_at g a6) id r) v.0 in
      let z = own-parts (live_at g a6) id r y.0 y.1 in
      let same : x ≡ y.0 = same_Some x y.0 (sym live ∙ z.0) in (
        ap (λ (k : List ℕ). obj_id k % 0x8000) same ∙ z.1,
        ⊎_elim (λ (s : serves g (own (live_at g a6) id) head' r ≡ true). let bad : false ≡ true = rw s at v.1 in absurd (cc)) (λ (n : serves g (own (live_at g a6) id) head' r ≡ false). n) (cases_Bool (serves g (own (live_at g a6) id) head' r)),
      )

-- a put and a kill of live pages, done
pub recopied : (g : Geometry) (a0 a4 a6 : List ℕ) (p o id h : ℕ) (old page head head' : List ℕ) (f0 f : File) (copies olds : ℕ → Bool) → RecopiesTo g a0 p o id h old page head head' f0 f →
    PutDone g p page a0 a4 → KillDone g o a4 a6 → IsTidyBut g a0 copies → Renamed g (own (live_at g a0) id) head old page copies olds →
    Spares g (λ r. olds r && leftover g (own (live_at g a6) id) head' r) a6 × (table_of g a6 ≡ put_file f (table_of g a0))
recopied g a0 a4 a6 p o id h old page head head' f0 f copies olds start done last t names =
    one_id-spares g a0 a6 id (header g a0 a4 a6 p o id h old page head head' f0 f copies olds start (neat-but t) done last names).0 head' f copies (λ (r : ℕ). copies r || ((r == p) || (r == o)))
    (λ (r : ℕ). olds r && leftover g (own (live_at g a6) id) head' r) t (λ r e. rw e refl)
    (changes g a0 a4 a6 p o id h old page head head' f0 f copies olds start (neat-but t) done last names)
    (idle g a0 a4 a6 p o id h old page head head' f0 f copies olds start (neat-but t) done last names)

pub recopy-spares : (g : Geometry) → RecopySpares g
recopy-spares g a b p o id h old page head head' f0 f copies olds start all t names =
    let w = recopied g a all.middle b p o id h old page head head' f0 f copies olds start all.put all.kill t names in
    (inr w.0, w.1)

-- An index page of a neat image that is renewed as it is leaves it neat.
pub recopied-neat : (g : Geometry) (a0 b : List ℕ) (p o id h : ℕ) (old page head head' : List ℕ) (f0 f : File) → RecopiesTo g a0 p o id h old page head head' f0 f →
    Replaced g p o page a0 b → IsNeat g a0 → Renamed g (own (live_at g a0) id) head old page (λ r. false) (λ r. false) → IsNeat g b × (table_of g b ≡ put_file f (table_of g a0))
recopied-neat g a0 b p o id h old page head head' f0 f start all n names =
    let t : IsNeatBut g a0 (λ (r : ℕ). false) = neat-none (λ (r : ℕ). false) n in
    let w = one_id-neat g a0 b id (header g a0 all.middle b p o id h old page head head' f0 f (λ (r : ℕ). false) (λ (r : ℕ). false) start t all.put all.kill names).0 head' f (λ (r : ℕ). false) (λ (r : ℕ). false || ((r == p) || (r == o)))
    (λ (r : ℕ). false && leftover g (own (live_at g b) id) head' r) t (λ r e. absurd (cc))
    (changes g a0 all.middle b p o id h old page head head' f0 f (λ (r : ℕ). false) (λ (r : ℕ). false) start t all.put all.kill names) in
    (neat-end (λ (r : ℕ). false && leftover g (own (live_at g b) id) head' r) (λ r e. absurd (cc)) w.0, w.1)

pub put-same : (g : Geometry) → PutSame g
unfolding table_of damaged_of
put-same g a id h f undamaged is =
    let b = has_of-within g a id h (Ok f) is in
    sym (records-put_again g a id h f b.0 b.1 undamaged is)
