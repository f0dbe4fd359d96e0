-- Killing an index page that is not the first of its id and span.
use Rattle.std.proofs.Common.{◌≡◌, ◌≢◌, ℕ, ◌+◌, ◌*◌, ◌%◌, List, slice_index, Bool, true, ◌&&◌, Option, Some, None, ap, refl, sym, ◌∙◌, ⊎_elim, subst}
use Rattle.std.proofs.Math.Path.{fun_ext}
use Rattle.std.specs.Prelude.{is_some, option_and_then}
use Rattle.std.specs.List.{range_with_len, list_any}
use Rattle.std.proofs.lemmas.Bool.{cases_eq, cases_Bool, and_parts, eqb-true}
use Rattle.geometry.specs.declared.geometry.Geometry.{Geometry}
use Rattle.table_model.specs.Room.{index_pages, data_pages}
use Rattle.image_model.specs.Live.{live_at, Live, own}
use Rattle.image_model.specs.Headers.{obj_id, span_of, names_index, size_of}
use Rattle.image_laws.specs.Changes.{Loses}
use Rattle.image_model.specs.Tables.{Found, has_of, table_of, damaged_of, records, damages}
use Rattle.image_model.specs.Files.{is_index, index_page, further, entry_number, data_of, data_page, found}
use Rattle.image_model.specs.Tidy.{is_number, serves, serves_head, is_wanted, is_wanted_as}
use Rattle.image_model.specs.Sound.{Keeps}
use Rattle.image_laws.specs.IndexStage.{DoubledKeeps}
use Rattle.image_laws.proofs.Judge.{judged-same, index_passes}
use Rattle.image_laws.proofs.Frames.{live_parts}
use Rattle.image_laws.proofs.Bits.{one_bit_image}
use Rattle.image_laws.proofs.Kill.{killing-loses, own-loses, own-loses_other, index-loses, entry-loses, bytes-loses, found_at}
use Rattle.image_laws.proofs.Sounding.{sound-by, mixed-from, loses-back, magic-flags, keeps-itself}

pub index-span_is : (page : List ℕ) (j : ℕ) → is_index (Some page) j ≡ true → span_of page ≡ j
index-span_is page j h = eqb-true _ j (and_parts _ _ h).1

module _ (g : Geometry) (p : ℕ) (page : List ℕ) (pages now : Live) (was : pages p ≡ Some page) (change : Loses p pages now) (index : names_index page ≡ true) (later : index_page g pages (span_of page) ≢ Some p) where
  index_not : (j : ℕ) → index_page g pages j ≢ Some p
  index_not j e =
      let passes : is_index (Some page) j ≡ true = rw was at (index_passes g pages j p e) in
      let span : span_of page ≡ j = index-span_is page j passes in
      later (ap (λ (k : ℕ). index_page g pages k) span ∙ e)

  index_same : (j : ℕ) → index_page g now j ≡ index_page g pages j
  index_same j = index-loses g p pages now change j (index_not j)

  entry_same : (head : List ℕ) (span : ℕ) → entry_number g now head span ≡ entry_number g pages head span
  entry_same head span = entry-loses g p pages now change head span (λ high. index_not (further g span))

  data_of_same : (span q : ℕ) → data_of (now q) span ≡ data_of (pages q) span
  data_of_same span q =
      ⊎_elim
      (λ (here : q ≡ p). let none : data_of (Some page) span ≡ None = rw index refl in rw here (rw (change.after, was) (sym none)))
      (λ (there : q ≡ p → ⊥). rw (change.others q there) refl)
      (cases_eq q p)

  data_same : (head : List ℕ) (span : ℕ) → data_page g now head span ≡ data_page g pages head span
  unfolding data_page
  data_same head span =
      rw (entry_same head span)
      (ap (λ (f : ℕ → Option (List ℕ)). option_and_then f (entry_number g pages head span)) (fun_ext (data_of_same span)))

  pub doubled-found : (id : ℕ) → found g now id ≡ found g pages id
  unfolding found
  doubled-found id =
      rw (index_same 0)
      (found_at g p pages now change id (index_page g pages 0) (index_not 0) (λ h head e b. judged-same g pages now id head (λ span below. data_same head span)))

  serves_same : (head : List ℕ) (q : ℕ) → serves g now head q ≡ serves g pages head q
  unfolding serves
  serves_same head q =
      let a : list_any (λ (j : ℕ). is_number (index_page g now j) q) (range_with_len 0 (index_pages g (size_of head))) ≡ list_any (λ (j : ℕ). is_number (index_page g pages j) q) (range_with_len 0 (index_pages g (size_of head))) =
      ap (λ (t : ℕ → Bool). list_any t (range_with_len 0 (index_pages g (size_of head)))) (fun_ext (λ (j : ℕ). ap (λ (o : Option ℕ). is_number o q) (index_same j))) in
      let b : list_any (λ (span : ℕ). is_number (entry_number g now head span) q && is_some (data_of (now q) span)) (range_with_len 0 (data_pages g (size_of head))) ≡
      list_any (λ (span : ℕ). is_number (entry_number g pages head span) q && is_some (data_of (pages q) span)) (range_with_len 0 (data_pages g (size_of head))) =
      ap (λ (t : ℕ → Bool). list_any t (range_with_len 0 (data_pages g (size_of head)))) (fun_ext (λ (span : ℕ). rw (entry_same head span, data_of_same span q) refl)) in
      rw (a, b) refl

  serves_head_same : (o : Option (List ℕ)) (q : ℕ) → serves_head g now o q ≡ serves_head g pages o q
  serves_head_same None q = refl
  serves_head_same (Some head) q = serves_same head q

  pub doubled-serves : (q : ℕ) → serves_head g now (option_and_then now (index_page g now 0)) q ≡ serves_head g pages (option_and_then pages (index_page g pages 0)) q
  doubled-serves q =
      let head : option_and_then now (index_page g now 0) ≡ option_and_then pages (index_page g pages 0) = rw (index_same 0) (bytes-loses g p pages now change (index_page g pages 0) (index_not 0)) in
      rw head (serves_head_same (option_and_then pages (index_page g pages 0)) q)

module _ (g : Geometry) (p : ℕ) (page : List ℕ) (old new : Live) (was : old p ≡ Some page) (change : Loses p old new) (index : names_index page ≡ true)
    (later : index_page g (own old (obj_id page % 0x8000)) (span_of page) ≢ Some p) where
  mine : own old (obj_id page % 0x8000) p ≡ Some page
  unfolding own
  mine = rw was (rw (Rattle.std.proofs.lemmas.Bool.eq-eqb (obj_id page % 0x8000) (obj_id page % 0x8000) refl) refl)

  pub doubled-has : has_of g new ≡ has_of g old
  unfolding has_of
  doubled-has =
      fun_ext (λ (j : ℕ). ⊎_elim
      (λ (here : obj_id page % 0x8000 ≡ j). subst (λ (k : ℕ). found g (own new k) k ≡ found g (own old k) k) here
      (doubled-found g p page (own old (obj_id page % 0x8000)) (own new (obj_id page % 0x8000)) mine (own-loses p page old new was change (obj_id page % 0x8000)) index later (obj_id page % 0x8000)))
      (λ (there : obj_id page % 0x8000 ≡ j → ⊥). ap (λ (pages : Live). found g pages j) (own-loses_other p page old new was change j there))
      (cases_eq (obj_id page % 0x8000) j))

  serves_by : (id q : ℕ) → serves_head g (own new id) (option_and_then (own new id) (index_page g (own new id) 0)) q ≡ serves_head g (own old id) (option_and_then (own old id) (index_page g (own old id) 0)) q
  serves_by id q =
      ⊎_elim
      (λ (here : obj_id page % 0x8000 ≡ id). subst (λ (k : ℕ). serves_head g (own new k) (option_and_then (own new k) (index_page g (own new k) 0)) q ≡ serves_head g (own old k) (option_and_then (own old k) (index_page g (own old k) 0)) q) here
      (doubled-serves g p page (own old (obj_id page % 0x8000)) (own new (obj_id page % 0x8000)) mine (own-loses p page old new was change (obj_id page % 0x8000)) index later q))
      (λ (there : obj_id page % 0x8000 ≡ id → ⊥). ap (λ (pages : Live). serves_head g pages (option_and_then pages (index_page g pages 0)) q) (own-loses_other p page old new was change id there))
      (cases_eq (obj_id page % 0x8000) id)

  as_same : (o : Option (List ℕ)) (q : ℕ) → is_wanted_as g new o q ≡ is_wanted_as g old o q
  as_same None q = refl
  as_same (Some x) q = rw (doubled-has, serves_by (obj_id x % 0x8000) q) refl

  pub doubled-wanted : (q : ℕ) → q ≢ p → is_wanted_as g new (new q) q ≡ is_wanted_as g old (old q) q
  doubled-wanted q there = rw (change.others q there) (as_same (old q) q)

pub doubled-keeps : (g : Geometry) → DoubledKeeps g
unfolding table_of damaged_of is_wanted
doubled-keeps g a b p flags page is h live index later clears torn =
    let entry = (live_parts g a p page live).entry_page in
    ⊎_elim
    (λ (same : b ≡ a). (subst (λ (x : List ℕ). Keeps g a x) (sym same) (keeps-itself g a h), λ q there. ap (λ (x : List ℕ). is_wanted_as g (live_at g x) (live_at g x q) q) same))
    (λ (done : slice_index b (p * g.page + 4) ≡ flags).
    let loses = killing-loses g a b p flags is entry clears.cleared torn done in
    let has = doubled-has g p page (live_at g a) (live_at g b) live loses index later in (
      record {
        sound = sound-by g a b h (magic-flags g a b p flags is entry torn) (λ c m. mixed-from g (live_at g a) (live_at g b) c (loses-back p (live_at g a) (live_at g b) loses) m) (ap (λ (x : Found). damages x 0x7FFF) has);
        table = ap (λ (x : Found). records x 0x7FFF) has;
      },
      doubled-wanted g p page (live_at g a) (live_at g b) live loses index later,
    ))
    (one_bit_image 7 (p * g.page + 4) flags a b clears torn)
