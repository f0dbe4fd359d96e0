-- A page of a file's id is put beside, and the file reads as before.
use Rattle.std.proofs.Common.{◌≡◌, ◌≢◌, ℕ, ◌%◌, List, Bool, true, ◌==◌, ◌||◌, Some, None, Result, ap, refl, sym, ◌∙◌, ⊎_elim, inl}
use Rattle.std.proofs.lemmas.Bool.{cases_eq, or_right, eq-eqb}
use Rattle.std.proofs.lemmas.Option.{none-some, same_Some}
use Rattle.geometry.specs.declared.geometry.Geometry.{Geometry}
use Rattle.table_model.specs.Table.{File}
use Rattle.image_model.specs.declared.damage.Damage.{Damage}
use Rattle.image_model.specs.Headers.{obj_id}
use Rattle.image_model.specs.Live.{Live, live_at, own}
use Rattle.image_model.specs.Files.{index_page, judged, found}
use Rattle.image_model.specs.Sound.{HasMagics, Keeps}
use Rattle.image_model.specs.Tables.{Found, has_of, records, damages, table_of, damaged_of}
use Rattle.image_model.specs.Tidy.{is_wanted, serves}
use Rattle.image_laws.specs.Changes.{Gains}
use Rattle.image_laws.specs.SoundSteps.{IsOfKind}
use Rattle.image_laws.specs.TidySteps.{Agree, IsTidyBut}
use Rattle.image_laws.proofs.Judge.{found_from}
use Rattle.image_laws.proofs.Sounding.{sound-by, mixed-gains}
use Rattle.image_laws.proofs.Tables.{own-gains_other, own-gains_page, own-gains_rest}
use Rattle.image_laws.proofs.TidySteps.{entries-but}
use Rattle.image_laws.proofs.Wants.{wanted_parts, wanted_from}
use Rattle.image_laws.proofs.MixedBlocks.{unmixed-from, mixed-none}
use Rattle.renew_laws.proofs.RecopyCuts.{has-all}

-- the pages of the id
module _ (p id : ℕ) (page : List ℕ) (live new : Live) (of : obj_id page % 0x8000 ≡ id) (gains : Gains p page live new) where
  none_own : own live id p ≡ None
  unfolding own
  none_own = rw gains.before refl

  pub gains_own : Gains p page (own live id) (own new id)
  gains_own = record {
    before = none_own;
    after = rw of at (own-gains_page p page live new gains);
    others = λ q there. rw of at (own-gains_rest p page live new gains q there);
  }

module _ (g : Geometry) (a c : List ℕ) (p id h : ℕ) (page head : List ℕ) (of : obj_id page % 0x8000 ≡ id) (kind : IsOfKind g (live_at g a) p page) (gains : Gains p page (live_at g a) (live_at g c)) (agree : Agree g a c p)
    (at : index_page g (own (live_at g a) id) 0 ≡ Some h) (header : own (live_at g a) id h ≡ Some head)
    (at_now : index_page g (own (live_at g c) id) 0 ≡ Some h) (reads : judged g (own (live_at g c) id) id head ≡ judged g (own (live_at g a) id) id head)
    (serving : (r : ℕ) → r ≢ p → serves g (own (live_at g a) id) head r ≡ true → serves g (own (live_at g c) id) head r ≡ true) where
  mine : Gains p page (own (live_at g a) id) (own (live_at g c) id)
  mine = gains_own p id page (live_at g a) (live_at g c) of gains

  pub header_now : own (live_at g c) id h ≡ Some head
  header_now = mine.others h (λ e. none-some head (sym mine.before ∙ ap (own (live_at g a) id) (sym e) ∙ header)) ∙ header

  has : has_of g (live_at g c) ≡ has_of g (live_at g a)
  unfolding has_of
  has = has-all g (live_at g a) (live_at g c) id
      (found_from g (own (live_at g c) id) id h head at_now header_now ∙ ap (λ (r : Result File Damage). Some (h, r)) reads ∙ sym (found_from g (own (live_at g a) id) id h head at header))
      (λ j there. ap (λ (pages : Live). found g pages j) (own-gains_other p page (live_at g a) (live_at g c) gains j (λ e. there (sym e ∙ of))))

  pub beside_keeps : HasMagics g a → Keeps g a c
  unfolding table_of damaged_of
  beside_keeps m = record {
    sound = sound-by g a c m agree.magic (mixed-gains g (live_at g a) (live_at g c) p page gains kind) (ap (λ (x : Found). damages x 0x7FFF) has);
    table = ap (λ (x : Found). records x 0x7FFF) has;
  }

  wants : (r : ℕ) → r ≢ p → is_wanted g a r ≡ true → is_wanted g c r ≡ true
  unfolding is_wanted
  wants r there e =
      let w = wanted_parts g (live_at g a) r e in
      ⊎_elim
      (λ (same : obj_id w.page % 0x8000 ≡ id).
      let w_at = w.at in let w_header = w.header in let w_served = w.served in
      let place : w.h ≡ h = same_Some w.h h (sym (rw same at w_at) ∙ at) in
      let head_is : w.head ≡ head = same_Some w.head head (sym (rw same at w_header) ∙ ap (own (live_at g a) id) place ∙ header) in
      let serves_was : serves g (own (live_at g a) id) w.head r ≡ true = rw same at w_served in
      let serves_now : serves g (own (live_at g c) id) head r ≡ true = serving r there (ap (λ (x : List ℕ). serves g (own (live_at g a) id) x r) (sym head_is) ∙ serves_was) in
      wanted_from g (live_at g c) r (record {
        page = w.page;
        h = h;
        head = head;
        is = gains.others r there ∙ w.is;
        in_table = rw has w.in_table;
        at = rw same at_now;
        header = rw same header_now;
        served = rw same serves_now;
      }))
      (λ (other : obj_id w.page % 0x8000 ≡ id → ⊥).
      let pages : own (live_at g c) (obj_id w.page % 0x8000) ≡ own (live_at g a) (obj_id w.page % 0x8000) = own-gains_other p page (live_at g a) (live_at g c) gains (obj_id w.page % 0x8000) (λ k. other (sym k ∙ of)) in
      wanted_from g (live_at g c) r (record {
        page = w.page;
        h = w.h;
        head = w.head;
        is = gains.others r there ∙ w.is;
        in_table = rw has w.in_table;
        at = rw pages w.at;
        header = rw pages w.header;
        served = rw pages w.served;
      }))
      (cases_eq (obj_id w.page % 0x8000) id)

  pub beside_spares : (before : ℕ → Bool) → IsTidyBut g a before → IsTidyBut g c (λ r. before r || (r == p))
  unfolding damaged_of
  beside_spares before t = record {
    magic = λ d low. agree.magic d ∙ t.magic d low;
    entries = entries-but g a c p before (λ (r : ℕ). before r || (r == p)) agree t (λ q there s. rw s refl) wants (inl (or_right (before p) (p == p) (eq-eqb p p refl)));
    undamaged = ap (λ (x : Found). damages x 0x7FFF) has ∙ t.undamaged;
    unmixed = unmixed-from g (live_at g c) (λ d m. mixed-none g (live_at g a) t.unmixed d (mixed-gains g (live_at g a) (live_at g c) p page gains kind d m));
  }
