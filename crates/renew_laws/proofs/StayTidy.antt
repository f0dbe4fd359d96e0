-- A live page changes in place, and the same pages serve its file.
use Rattle.std.proofs.Common.{◌≡◌, ◌≢◌, ℕ, ◌*◌, ◌%◌, ◌⊎◌, List, Bool, true, Some, ap, refl, sym, ◌∙◌, ⊎_elim, inl, inr}
use Rattle.std.proofs.Math.Path.{fun_ext}
use Rattle.std.proofs.lemmas.Bool.{cases_eq, and_parts, eqb-true, false≢true}
use Rattle.std.proofs.lemmas.Option.{same_Some}
use Rattle.geometry.specs.declared.geometry.Geometry.{Geometry}
use Rattle.nor_core.specs.Flash.{SameOutside}
use Rattle.image_model.specs.Within.{sizes}
use Rattle.image_model.specs.Live.{live_at, own}
use Rattle.image_model.specs.Places.{entry_of}
use Rattle.image_model.specs.Headers.{obj_id, names_index}
use Rattle.image_model.specs.Files.{index_page}
use Rattle.image_model.specs.Tables.{Found, has_of, records, damages, table_of, damaged_of}
use Rattle.image_model.specs.Tidy.{is_free_entry, is_wanted, serves}
use Rattle.image_laws.specs.TidySteps.{IsTidyBut, Agree}
use Rattle.image_laws.proofs.Frames.{LivePage, live_parts, live-page_other, entry-same_page}
use Rattle.image_laws.proofs.Finish.{own-parts}
use Rattle.image_laws.proofs.Append.{own-other, own-live}
use Rattle.image_laws.proofs.Wants.{wanted_parts, wanted_from}
use Rattle.image_laws.proofs.TidySteps.{Entry, agree_page, entries-but}
use Rattle.image_laws.proofs.Tally.{is_finished-ones}

module _ (g : Geometry) (a b : List ℕ) (p id h : ℕ) (x y head head' : List ℕ) (wide : SameOutside (p * g.page) g.page a b) (was : own (live_at g a) id p ≡ Some x) (now : own (live_at g b) id p ≡ Some y)
    (kind : names_index y ≡ names_index x) (at : index_page g (own (live_at g a) id) 0 ≡ Some h) (header : own (live_at g a) id h ≡ Some head)
    (first : index_page g (own (live_at g b) id) 0 ≡ Some h) (header_now : own (live_at g b) id h ≡ Some head') (has : has_of g (live_at g b) ≡ has_of g (live_at g a))
    (served : (r : ℕ) → serves g (own (live_at g b) id) head' r ≡ serves g (own (live_at g a) id) head r) (spare : ℕ → Bool) (t : IsTidyBut g a spare) where
  live_was : (live_at g a p ≡ Some x) × (obj_id x % 0x8000 ≡ id)
  live_was = own-parts (live_at g a) id p x was

  live_now : (live_at g b p ≡ Some y) × (obj_id y % 0x8000 ≡ id)
  live_now = own-parts (live_at g b) id p y now

  parts : LivePage g a p x
  parts = live_parts g a p x live_was.0

  other : (q : ℕ) → q ≢ p → live_at g b q ≡ live_at g a q
  other q there = live-page_other g (sizes g) a b p parts.entry_page wide q there

  -- the pages of other ids
  others : (j : ℕ) → j ≢ id → own (live_at g b) j ≡ own (live_at g a) j
  others j differ =
      fun_ext (λ (q : ℕ). ⊎_elim
      (λ (k : q ≡ p). rw k (own-other (live_at g b) j p y live_now.0 (λ e. differ (sym e ∙ live_now.1)) ∙ sym (own-other (live_at g a) j p x live_was.0 (λ e. differ (sym e ∙ live_was.1)))))
      (λ (k : q ≡ p → ⊥). own-live (live_at g a) (live_at g b) j q (other q k))
      (cases_eq q p))

  -- a live page is live, under the same id
  still : (r : ℕ) (z : List ℕ) → live_at g a r ≡ Some z → (w : List ℕ) × (live_at g b r ≡ Some w) × (obj_id w % 0x8000 ≡ obj_id z % 0x8000)
  still r z e =
      ⊎_elim
      (λ (k : r ≡ p).
      let same : z ≡ x = same_Some z x (sym e ∙ ap (live_at g a) k ∙ live_was.0) in
      (y, ap (live_at g b) k ∙ live_now.0, live_now.1 ∙ sym live_was.1 ∙ ap (λ (v : List ℕ). obj_id v % 0x8000) (sym same)))
      (λ (k : r ≡ p → ⊥). (z, other r k ∙ e, refl))
      (cases_eq r p)

  wanted : (r : ℕ) → is_wanted g a r ≡ true → is_wanted g b r ≡ true
  unfolding is_wanted
  wanted r e =
      let w = wanted_parts g (live_at g a) r e in
      let v = still r w.page w.is in
      ⊎_elim
      (λ (mine : obj_id w.page % 0x8000 ≡ id).
      let key : obj_id v.0 % 0x8000 ≡ id = v.2 ∙ mine in
      let w_at = w.at in
      let w_header = w.header in
      let w_served = w.served in
      let w_table = w.in_table in
      let place : w.h ≡ h = same_Some w.h h (sym (rw mine at w_at) ∙ at) in
      let same : w.head ≡ head = same_Some w.head head (sym (rw mine at w_header) ∙ ap (own (live_at g a) id) place ∙ header) in
      let serving : serves g (own (live_at g a) id) w.head r ≡ true = rw mine at w_served in
      let serves_now : serves g (own (live_at g b) id) head' r ≡ true = served r ∙ ap (λ (z : List ℕ). serves g (own (live_at g a) id) z r) (sym same) ∙ serving in
      wanted_from g (live_at g b) r (record {
        page = v.0;
        h = h;
        head = head';
        is = v.1;
        in_table = rw (has, v.2) w_table;
        at = rw key first;
        header = rw key header_now;
        served = rw key serves_now;
      }))
      (λ (differ : obj_id w.page % 0x8000 ≡ id → ⊥).
      let pages : own (live_at g b) (obj_id w.page % 0x8000) ≡ own (live_at g a) (obj_id w.page % 0x8000) = others (obj_id w.page % 0x8000) differ in
      wanted_from g (live_at g b) r (record {
        page = v.0;
        h = w.h;
        head = w.head;
        is = v.1;
        in_table = rw (has, v.2) w.in_table;
        at = rw v.2 (rw pages w.at);
        header = rw v.2 (rw pages w.header);
        served = rw v.2 (rw pages w.served);
      }))
      (cases_eq (obj_id w.page % 0x8000) id)

  agree : Agree g a b p
  agree = agree_page g a b p (sizes g) parts.entry_page wide

  here : (spare p ≡ true) ⊎ Entry g b p
  here =
      ⊎_elim
      (λ (s : spare p ≡ true). inl s)
      (λ (old : Entry g a p). inr (⊎_elim
      (λ (zero : entry_of g a p ≡ 0). inl (entry-same_page g (sizes g) a b p parts.entry_page wide p ∙ zero))
      (λ (more : (is_free_entry g a p ≡ true) ⊎ (is_wanted g a p ≡ true)). ⊎_elim
      (λ (free : is_free_entry g a p ≡ true).
      let ones : entry_of g a p ≡ 0xFFFF = eqb-true _ 0xFFFF (and_parts _ _ free).0 in
      absurd (false≢true (sym (is_finished-ones x (sym parts.entry ∙ ones)) ∙ parts.finished)))
      (λ (w : is_wanted g a p ≡ true). inr (inr (wanted p w)))
      more)
      old))
      (t.entries p parts.entry_page)

  back : (q : ℕ) (z : List ℕ) → live_at g b q ≡ Some z → (w : List ℕ) × (live_at g a q ≡ Some w) × (names_index w ≡ names_index z)
  back q z e =
      ⊎_elim
      (λ (k : q ≡ p).
      let new : z ≡ y = same_Some z y (sym e ∙ ap (live_at g b) k ∙ live_now.0) in
      (x, ap (live_at g a) k ∙ live_was.0, sym kind ∙ ap names_index (sym new)))
      (λ (k : q ≡ p → ⊥). (z, sym (other q k) ∙ e, refl))
      (cases_eq q p)

  pub stays-tidy : IsTidyBut g b spare × (table_of g b ≡ table_of g a)
  unfolding table_of damaged_of
  stays-tidy = (
    record {
      magic = λ c low. agree.magic c ∙ t.magic c low;
      entries = entries-but g a b p spare spare agree t (λ q there s. s) (λ q there w. wanted q w) here;
      undamaged = ap (λ (l : Found). damages l 0x7FFF) has ∙ t.undamaged;
      unmixed = λ q r u v e f same. let i = back q u e in let j = back r v f in sym i.2 ∙ t.unmixed q r i.0 j.0 i.1 j.1 same ∙ j.2;
    },
    ap (λ (l : Found). records l 0x7FFF) has,
  )
