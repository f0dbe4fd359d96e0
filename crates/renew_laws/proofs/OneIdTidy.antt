-- A tidy image in which the pages of one id change.
use Rattle.std.proofs.Common.{◌≡◌, ◌≢◌, ℕ, ◌%◌, ◌⊎◌, List, [], Bool, true, false, Option, Some, None, Result, Ok, ap, refl, sym, ◌∙◌, ⊎_elim, subst, inl, inr}
use Rattle.std.specs.Prelude.{is_some}
use Rattle.std.proofs.lemmas.Bool.{cases_eq, cases_Bool}
use Rattle.geometry.specs.declared.geometry.Geometry.{Geometry}
use Rattle.image_model.specs.declared.damage.Damage.{Damage}
use Rattle.image_model.specs.Live.{live_at, Live, own}
use Rattle.image_model.specs.Places.{block_of, is_entry_page}
use Rattle.image_model.specs.Headers.{obj_id}
use Rattle.table_model.specs.Table.{File, put_file}
use Rattle.image_model.specs.Files.{index_page, found}
use Rattle.image_model.specs.Tables.{has_of, counted, damages, table_of, damaged_of}
use Rattle.image_model.specs.Tidy.{serves, is_wanted}
use Rattle.image_laws.specs.TidySteps.{IsNeatBut, IsTidyBut}
use Rattle.renew_laws.specs.OneId.{OneIdChanges, OneIdIsTidy}
use Rattle.image_laws.specs.Spares.{Spares, is_in_table}
use Rattle.image_laws.proofs.Frames.{live_at-kept}
use Rattle.image_laws.proofs.MixedBlocks.{mixed-none, unmixed-from}
use Rattle.image_laws.proofs.Records.{counted-kept, counted-new}
use Rattle.image_laws.proofs.Finish.{own-parts, has_of-keyed, records-changed}
use Rattle.image_laws.proofs.Judge.{found_from, judged-keyed}
use Rattle.image_laws.proofs.Undamaged.{undamaged-changed, apart-new, apart-old}
use Rattle.image_laws.proofs.Wants.{wanted_from, wanted_parts}
use Rattle.image_laws.proofs.TidySteps.{neat-but, Entry}

own-of : (live : Live) (p : ℕ) (x : List ℕ) → live p ≡ Some x → own live (obj_id x % 0x8000) p ≡ Some x
unfolding own
own-of live p x e = rw e (rw (Rattle.std.proofs.lemmas.Bool.eq-eqb (obj_id x % 0x8000) (obj_id x % 0x8000) refl) refl)

some-or_none : (o : Option (List ℕ)) → (o ≡ None) ⊎ ((x : List ℕ) × (o ≡ Some x))
some-or_none None = inl refl
some-or_none (Some x) = inr (x, refl)

module _ (g : Geometry) (a b : List ℕ) (id k : ℕ) (head : List ℕ) (f : File) (before touched spare : ℕ → Bool) (t : IsNeatBut g a before) (inside : (r : ℕ) → before r ≡ true → touched r ≡ true) (change : OneIdChanges g id k head f touched spare a b) where
  has_now : has_of g (live_at g b) id ≡ Some (k, Ok f)
  unfolding has_of
  has_now = found_from g (own (live_at g b) id) id k head change.at change.header ∙ ap (λ (r : Result File Damage). Some (k, r)) change.file

  same : (j : ℕ) → j ≢ id → has_of g (live_at g b) j ≡ has_of g (live_at g a) j
  unfolding has_of
  same j there = ap (λ (pages : Live). found g pages j) (change.others j there)

  its : f.id ≡ id
  its = judged-keyed g (own (live_at g b) id) id head f change.file

  undamaged : damages (has_of g (live_at g a)) 0x7FFF ≡ []
  unfolding damaged_of
  undamaged = t.undamaged

  count_kept : (j : ℕ) → j ≢ id → counted (has_of g (live_at g b)) 0x7FFF (has_of g (live_at g b) j) ≡ counted (has_of g (live_at g a)) 0x7FFF (has_of g (live_at g a) j)
  unfolding table_of
  count_kept = counted-kept (has_of g (live_at g a)) (has_of g (live_at g b)) 0x7FFF (has_of-keyed g (live_at g a)) id k f its has_now same
      (apart-new g a id f change.low change.high undamaged change.unused) (apart-old g a id f change.low change.high undamaged change.unused)

  count_new : counted (has_of g (live_at g b)) 0x7FFF (has_of g (live_at g b) id) ≡ Some f
  unfolding table_of
  count_new = counted-new (has_of g (live_at g a)) (has_of g (live_at g b)) 0x7FFF (has_of-keyed g (live_at g a)) id k f its has_now same
      (apart-new g a id f change.low change.high undamaged change.unused) (apart-old g a id f change.low change.high undamaged change.unused)

  mine_wanted : (r : ℕ) (x : List ℕ) → own (live_at g b) id r ≡ Some x → serves g (own (live_at g b) id) head r ≡ true → is_wanted g b r ≡ true
  unfolding is_wanted
  mine_wanted r x e served =
      let w = own-parts (live_at g b) id r x e in
      let counts : is_some (counted (has_of g (live_at g b)) 0x7FFF (has_of g (live_at g b) id)) ≡ true = rw count_new refl in
      wanted_from g (live_at g b) r (record {
        page = x;
        h = k;
        head = head;
        is = w.0;
        in_table = rw w.1 counts;
        at = rw w.1 change.at;
        header = rw w.1 change.header;
        served = rw w.1 served;
      })

  live-same : (r : ℕ) → touched r ≡ false → live_at g b r ≡ live_at g a r
  live-same r out = live_at-kept g a b r (λ e. (change.magic (block_of g r), change.entry r e out, change.bytes r e out))

  -- a page that was wanted
  was_wanted : (r : ℕ) → touched r ≡ false → is_wanted g a r ≡ true → (spare r ≡ true) ⊎ (is_wanted g b r ≡ true)
  unfolding is_wanted
  was_wanted r out e =
      let w = wanted_parts g (live_at g a) r e in
      let now : live_at g b r ≡ Some w.page = live-same r out ∙ w.is in
      ⊎_elim
      (λ (here : obj_id w.page % 0x8000 ≡ id).
      let mine : own (live_at g b) id r ≡ Some w.page = subst (λ (j : ℕ). own (live_at g b) j r ≡ Some w.page) here (own-of (live_at g b) r w.page now) in
      ⊎_elim
      (λ (s : spare r ≡ true). inl s)
      (λ (s : serves g (own (live_at g b) id) head r ≡ true). inr (mine_wanted r w.page mine s))
      (change.served r w.page mine))
      (λ (there : obj_id w.page % 0x8000 ≡ id → ⊥).
      let pages = change.others (obj_id w.page % 0x8000) there in
      inr (wanted_from g (live_at g b) r (record {
        page = w.page;
        h = w.h;
        head = w.head;
        is = now;
        in_table = rw (count_kept (obj_id w.page % 0x8000) there) w.in_table;
        at = rw pages w.at;
        header = rw pages w.header;
        served = rw pages w.served;
      })))
      (cases_eq (obj_id w.page % 0x8000) id)

  entries : (r : ℕ) → is_entry_page g r ≡ true → (spare r ≡ true) ⊎ Entry g b r
  entries r e =
      ⊎_elim
      (λ (yes : touched r ≡ true). ⊎_elim
      (λ (none : own (live_at g b) id r ≡ None). ⊎_elim (λ (s : spare r ≡ true). inl s) (λ (z : Rattle.image_model.specs.Places.entry_of g b r ≡ 0). inr (inl z)) (change.killed r e yes none))
      (λ (some : (x : List ℕ) × (own (live_at g b) id r ≡ Some x)). ⊎_elim
      (λ (s : spare r ≡ true). inl s)
      (λ (s : serves g (own (live_at g b) id) head r ≡ true). inr (inr (inr (mine_wanted r some.0 some.1 s))))
      (change.served r some.0 some.1))
      (some-or_none (own (live_at g b) id r)))
      (λ (no : touched r ≡ false). ⊎_elim
      (λ (b4 : before r ≡ true). let bad : true ≡ false = sym (inside r b4) ∙ no in absurd (cc))
      (λ (was : Entry g a r). ⊎_elim
      (λ (zero : Rattle.image_model.specs.Places.entry_of g a r ≡ 0). inr (inl (change.entry r e no ∙ zero)))
      (λ (more : (Rattle.image_model.specs.Tidy.is_free_entry g a r ≡ true) ⊎ (is_wanted g a r ≡ true)). ⊎_elim
      (λ (free : Rattle.image_model.specs.Tidy.is_free_entry g a r ≡ true). inr (inr (inl (rw (change.entry r e no, change.bytes r e no) free))))
      (λ (wanted : is_wanted g a r ≡ true). ⊎_elim (λ (s : spare r ≡ true). inl s) (λ (w : is_wanted g b r ≡ true). inr (inr (inr w))) (was_wanted r no wanted))
      more)
      was)
      (t.entries r e))
      (cases_Bool (touched r))

  pub one_id-neat : IsNeatBut g b spare × (table_of g b ≡ put_file f (table_of g a))
  unfolding table_of damaged_of
  one_id-neat = (
    record {
      magic = λ c low. change.magic c ∙ t.magic c low;
      entries = entries;
      undamaged = undamaged-changed g a id f change.low change.high undamaged change.unused (live_at g b) k its has_now same;
    },
    records-changed g a (live_at g b) id k f change.low change.high undamaged change.unused its has_now same,
  )

-- in a tidy image
pub one_id-tidy : (g : Geometry) (a b : List ℕ) (id k : ℕ) (head : List ℕ) (f : File) (before touched spare : ℕ → Bool) → IsTidyBut g a before → ((r : ℕ) → before r ≡ true → touched r ≡ true) → OneIdChanges g id k head f touched spare a b →
    IsTidyBut g b spare × (table_of g b ≡ put_file f (table_of g a))
one_id-tidy g a b id k head f before touched spare t inside change =
    let w = one_id-neat g a b id k head f before touched spare (neat-but t) inside change in
    (record { magic = w.0.magic; entries = w.0.entries; undamaged = w.0.undamaged; unmixed = unmixed-from g (live_at g b) (λ c m. mixed-none g (live_at g a) t.unmixed c (change.mixed c m)) }, w.1)

-- what is spare is unwanted where it does not serve
module _ (g : Geometry) (a b : List ℕ) (id k : ℕ) (head : List ℕ) (f : File) (before touched spare : ℕ → Bool) (t : IsTidyBut g a before) (inside : (r : ℕ) → before r ≡ true → touched r ≡ true) (change : OneIdChanges g id k head f touched spare a b)
    (idle : (r : ℕ) (x : List ℕ) → spare r ≡ true → live_at g b r ≡ Some x → (obj_id x % 0x8000 ≡ id) × (serves g (own (live_at g b) id) head r ≡ false)) where
  counts : is_in_table g b id ≡ true
  counts = rw (count_new g a b id k head f before touched spare (neat-but t) inside change) refl

  unserved : (r : ℕ) (x : List ℕ) → spare r ≡ true → live_at g b r ≡ Some x → (is_wanted g b r ≡ false) × (is_in_table g b (obj_id x % 0x8000) ≡ true)
  unfolding is_wanted
  unserved r x s e =
      let w = idle r x s e in
      let at : index_page g (own (live_at g b) (obj_id x % 0x8000)) 0 ≡ Some k = rw w.0 change.at in
      let header : own (live_at g b) (obj_id x % 0x8000) k ≡ Some head = rw w.0 change.header in
      let none : serves g (own (live_at g b) (obj_id x % 0x8000)) head r ≡ false = rw w.0 w.1 in
      let in_table : is_in_table g b (obj_id x % 0x8000) ≡ true = rw w.0 counts in
      (rw e (rw (in_table, at) (rw header none)), in_table)

  pub one_id-spares : Spares g spare b × (table_of g b ≡ put_file f (table_of g a))
  one_id-spares =
      let w = one_id-tidy g a b id k head f before touched spare t inside change in
      (record { tidy = w.0; unwanted = unserved }, w.1)

pub one_id-is_tidy : (g : Geometry) → OneIdIsTidy g
one_id-is_tidy g a b id k head f before touched spare t inside change = one_id-tidy g a b id k head f before touched spare t inside change
