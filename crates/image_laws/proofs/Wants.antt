-- Wanted pages where a page comes or goes.
use Rattle.std.proofs.Common.{◌≡◌, ◌≢◌, ℕ, ◌%◌, ◌<◌, List, true, ◌&&◌, Option, Some, None, Ok, ap, refl, sym, ◌∙◌, arith, ⊎_elim, subst}
use Rattle.std.specs.Prelude.{is_some, option_and_then}
use Rattle.std.specs.List.{list_any, range_with_len}
use Rattle.std.proofs.lemmas.Bool.{cases_eq, eq-eqb, eqb-true, and_parts, or_cases, or_right}
use Rattle.std.proofs.lemmas.Option.{none-some, same_Some}
use Rattle.geometry.specs.declared.geometry.Geometry.{Geometry}
use Rattle.geometry.specs.Numbers.{page_count}
use Rattle.table_model.specs.Room.{data_pages, index_pages}
use Rattle.image_model.specs.Live.{live_at, Live, own}
use Rattle.image_model.specs.Headers.{obj_id, size_of}
use Rattle.image_laws.specs.Changes.{Gains, Loses}
use Rattle.table_model.specs.Table.{File}
use Rattle.image_model.specs.Tables.{has_of, counted, damaged_of, table_of}
use Rattle.image_model.specs.Files.{index_page, entry_number, data_of}
use Rattle.image_model.specs.Tidy.{is_number, serves, serves_head, is_wanted_as}
use Rattle.image_laws.specs.Programs.{LeadsTo, IsIdle}
use Rattle.image_laws.proofs.Records.{counted-kept, counted-new}
use Rattle.image_laws.proofs.Damaged.{any_at, any_from}
use Rattle.image_laws.proofs.Finish.{has_of-keyed}
use Rattle.image_laws.proofs.Judge.{found_parts, judged-keyed}
use Rattle.image_laws.proofs.Tables.{own-gains_other}
use Rattle.image_laws.proofs.Publish.{first, others-same, own-after}
use Rattle.image_laws.proofs.Undamaged.{apart-new, apart-old}
use Rattle.image_laws.proofs.Kill.{own-loses, own-loses_other, has_of-loses, index-loses, entry-loses}
use Rattle.image_laws.proofs.Wanted.{header-below}

pub number-is : (o : Option ℕ) (p : ℕ) → is_number o p ≡ true → o ≡ Some p
number-is None p h = cc
number-is (Some q) p h = ap (λ (x : ℕ). Some x) (eqb-true q p h)

-- what a wanted page is
pub record Wanted (g : Geometry) (live : Live) (p : ℕ) : Type 0 where
  pub page : List ℕ
  pub h : ℕ
  pub head : List ℕ
  pub is : live p ≡ Some page
  pub in_table : is_some (counted (has_of g live) 0x7FFF (has_of g live (obj_id page % 0x8000))) ≡ true
  pub at : index_page g (own live (obj_id page % 0x8000)) 0 ≡ Some h
  pub header : own live (obj_id page % 0x8000) h ≡ Some head
  pub served : serves g (own live (obj_id page % 0x8000)) head p ≡ true

head_parts : (g : Geometry) (pages : Live) (o : Option ℕ) (p : ℕ) → serves_head g pages (option_and_then pages o) p ≡ true → (h : ℕ) × (head : List ℕ) × (o ≡ Some h) × (pages h ≡ Some head) × (serves g pages head p ≡ true)
head_parts g pages None p e = cc
head_parts g pages (Some h) p e =
    let go : (o : Option (List ℕ)) → serves_head g pages o p ≡ true → (head : List ℕ) × (o ≡ Some head) × (serves g pages head p ≡ true) =
    λ o. elim o as (λ (o : Option (List ℕ)). serves_head g pages o p ≡ true → (head : List ℕ) × (o ≡ Some head) × (serves g pages head p ≡ true)) [ None ↦ λ k. cc | Some head ↦ λ k. (head, refl, k) ] in
    let w = go (pages h) e in (h, w.0, refl, w.1, w.2)

page_parts : (g : Geometry) (live : Live) (o : Option (List ℕ)) (p : ℕ) → is_wanted_as g live o p ≡ true → (page : List ℕ) × (o ≡ Some page) ×
    (is_some (counted (has_of g live) 0x7FFF (has_of g live (obj_id page % 0x8000))) ≡ true) ×
    (serves_head g (own live (obj_id page % 0x8000)) (option_and_then (own live (obj_id page % 0x8000)) (index_page g (own live (obj_id page % 0x8000)) 0)) p ≡ true)
page_parts g live None p e = cc
page_parts g live (Some page) p e = let w = and_parts _ _ e in (page, refl, w.0, w.1)

pub wanted_parts : (g : Geometry) (live : Live) (p : ℕ) → is_wanted_as g live (live p) p ≡ true → Wanted g live p
wanted_parts g live p e =
    let w = page_parts g live (live p) p e in
    let v = head_parts g (own live (obj_id w.0 % 0x8000)) (index_page g (own live (obj_id w.0 % 0x8000)) 0) p w.3 in
    record { page = w.0; h = v.0; head = v.1; is = w.1; in_table = w.2; at = v.2; header = v.3; served = v.4 }

pub wanted_from : (g : Geometry) (live : Live) (p : ℕ) → Wanted g live p → is_wanted_as g live (live p) p ≡ true
wanted_from g live p w = rw w.is (rw w.in_table (rw w.at (rw w.header w.served)))

-- ---- a header page more, of a new id

module _ (g : Geometry) (a : List ℕ) (new : Live) (p id : ℕ) (head : List ℕ) (f : File) (within : p < page_count g)
    (change : Gains p head (live_at g a) new) (leads : LeadsTo g a id head f) (none : index_page g (own (live_at g a) id) 0 ≡ None) where
  now_has : has_of g new id ≡ Some (p, Ok f)
  now_has = first g a new p id head f within change leads (λ q k. absurd (none-some q (sym none ∙ k)))

  others_have : (j : ℕ) → j ≢ id → has_of g new j ≡ has_of g (live_at g a) j
  others_have = others-same g a new p id head f within change leads

  its_id : f.id ≡ id
  its_id = judged-keyed g (own (live_at g a) id) id head f leads.file

  count_kept : (j : ℕ) → j ≢ id → counted (has_of g new) 0x7FFF (has_of g new j) ≡ counted (has_of g (live_at g a)) 0x7FFF (has_of g (live_at g a) j)
  unfolding damaged_of table_of
  count_kept = counted-kept (has_of g (live_at g a)) (has_of g new) 0x7FFF (has_of-keyed g (live_at g a)) id p f its_id now_has others_have
      (apart-new g a id f leads.low leads.high leads.undamaged leads.unused) (apart-old g a id f leads.low leads.high leads.undamaged leads.unused)

  count_new : counted (has_of g new) 0x7FFF (has_of g new id) ≡ Some f
  unfolding damaged_of table_of
  count_new = counted-new (has_of g (live_at g a)) (has_of g new) 0x7FFF (has_of-keyed g (live_at g a)) id p f its_id now_has others_have
      (apart-new g a id f leads.low leads.high leads.undamaged leads.unused) (apart-old g a id f leads.low leads.high leads.undamaged leads.unused)

  head_now : index_page g (own new id) 0 ≡ Some p
  unfolding has_of
  head_now = (found_parts g (own new id) id p (Ok f) now_has).1

  pub wanted-new : is_wanted_as g new (new p) p ≡ true
  unfolding serves
  wanted-new =
      let any : list_any (λ (j : ℕ). is_number (index_page g (own new id) j) p) (range_with_len 0 (index_pages g (size_of head))) ≡ true =
      any_from (λ (j : ℕ). is_number (index_page g (own new id) j) p) 0 (index_pages g (size_of head)) 0 (omega arith) (omega (arith, header-below g (size_of head))) (rw head_now (eq-eqb p p refl)) in
      let served : serves g (own new id) head p ≡ true = rw any refl in
      let counts : is_some (counted (has_of g new) 0x7FFF (has_of g new id)) ≡ true = rw count_new refl in
      wanted_from g new p (record {
        page = head;
        h = p;
        head = head;
        is = change.after;
        in_table = rw leads.is_head.of counts;
        at = rw leads.is_head.of head_now;
        header = rw leads.is_head.of (own-after g a new p id head f within change leads);
        served = rw leads.is_head.of served;
      })

  pub wanted-gains : (q : ℕ) → q ≢ p → is_wanted_as g (live_at g a) (live_at g a q) q ≡ true → is_wanted_as g new (new q) q ≡ true
  wanted-gains q there e =
      let w = wanted_parts g (live_at g a) q e in
      ⊎_elim
      (λ (same : obj_id w.page % 0x8000 ≡ id). let at = w.at in absurd (none-some w.h (sym none ∙ (rw same at at))))
      (λ (other : obj_id w.page % 0x8000 ≡ id → ⊥).
      let pages : own new (obj_id w.page % 0x8000) ≡ own (live_at g a) (obj_id w.page % 0x8000) =
      own-gains_other p head (live_at g a) new change (obj_id w.page % 0x8000) (λ k. other (sym k ∙ leads.is_head.of)) in
      wanted_from g new q (record {
        page = w.page;
        h = w.h;
        head = w.head;
        is = change.others q there ∙ w.is;
        in_table = rw (count_kept (obj_id w.page % 0x8000) other) w.in_table;
        at = rw pages w.at;
        header = rw pages w.header;
        served = rw pages w.served;
      }))
      (cases_eq (obj_id w.page % 0x8000) id)

-- ---- a page less, that its id does not need

module _ (g : Geometry) (p : ℕ) (pages now : Live) (change : Loses p pages now) (idle : IsIdle g pages p) (h : ℕ) (head : List ℕ)
    (at : index_page g pages 0 ≡ Some h) (header : pages h ≡ Some head) where
  head_stays : index_page g now 0 ≡ Some h
  head_stays = index-loses g p pages now change 0 idle.no_header ∙ at

  header_stays : now h ≡ Some head
  header_stays = change.others h (λ e. idle.no_header (at ∙ ap (λ (x : ℕ). Some x) e)) ∙ header

  serves-loses : (q : ℕ) → q ≢ p → serves g pages head q ≡ true → serves g now head q ≡ true
  unfolding serves
  serves-loses q there e =
      ⊎_elim
      (λ (index : list_any (λ (j : ℕ). is_number (index_page g pages j) q) (range_with_len 0 (index_pages g (size_of head))) ≡ true).
      let w = any_at (λ (j : ℕ). is_number (index_page g pages j) q) 0 (index_pages g (size_of head)) index in
      let is : index_page g pages w.0 ≡ Some q = number-is _ q w.3 in
      let stays : index_page g now w.0 ≡ Some q = index-loses g p pages now change w.0 (λ k. there (same_Some q p (sym is ∙ k))) ∙ is in
      let any : list_any (λ (j : ℕ). is_number (index_page g now j) q) (range_with_len 0 (index_pages g (size_of head))) ≡ true =
      any_from (λ (j : ℕ). is_number (index_page g now j) q) 0 (index_pages g (size_of head)) w.0 w.1 w.2 (rw stays (eq-eqb q q refl)) in
      rw any refl)
      (λ (page : list_any (λ (span : ℕ). is_number (entry_number g pages head span) q && is_some (data_of (pages q) span)) (range_with_len 0 (data_pages g (size_of head))) ≡ true).
      let w = any_at (λ (span : ℕ). is_number (entry_number g pages head span) q && is_some (data_of (pages q) span)) 0 (data_pages g (size_of head)) page in
      let free = idle.no_page h head at header w.0 (omega (arith, w.2)) in
      or_right _ _ (any_from (λ (span : ℕ). is_number (entry_number g now head span) q && is_some (data_of (now q) span)) 0 (data_pages g (size_of head)) w.0 w.1 w.2
      (rw (entry-loses g p pages now change head w.0 free.0, change.others q there) w.3)))
      (or_cases _ _ e)

module _ (g : Geometry) (p : ℕ) (page : List ℕ) (old new : Live) (was : old p ≡ Some page) (change : Loses p old new) (idle : IsIdle g (own old (obj_id page % 0x8000)) p) where
  pub wanted-loses : (q : ℕ) → q ≢ p → is_wanted_as g old (old q) q ≡ true → is_wanted_as g new (new q) q ≡ true
  wanted-loses q there e =
      let w = wanted_parts g old q e in
      let has : has_of g new ≡ has_of g old = has_of-loses p page old new was change g idle in
      let counts : is_some (counted (has_of g new) 0x7FFF (has_of g new (obj_id w.page % 0x8000))) ≡ true = rw has w.in_table in
      ⊎_elim
      (λ (same : obj_id page % 0x8000 ≡ obj_id w.page % 0x8000).
      let mine : Loses p (own old (obj_id w.page % 0x8000)) (own new (obj_id w.page % 0x8000)) = own-loses p page old new was change (obj_id w.page % 0x8000) in
      let idle' : IsIdle g (own old (obj_id w.page % 0x8000)) p = subst (λ (k : ℕ). IsIdle g (own old k) p) same idle in
      wanted_from g new q (record {
        page = w.page;
        h = w.h;
        head = w.head;
        is = change.others q there ∙ w.is;
        in_table = counts;
        at = head_stays g p (own old (obj_id w.page % 0x8000)) (own new (obj_id w.page % 0x8000)) mine idle' w.h w.head w.at w.header;
        header = header_stays g p (own old (obj_id w.page % 0x8000)) (own new (obj_id w.page % 0x8000)) mine idle' w.h w.head w.at w.header;
        served = serves-loses g p (own old (obj_id w.page % 0x8000)) (own new (obj_id w.page % 0x8000)) mine idle' w.h w.head w.at w.header q there w.served;
      }))
      (λ (other : obj_id page % 0x8000 ≡ obj_id w.page % 0x8000 → ⊥).
      let pages : own new (obj_id w.page % 0x8000) ≡ own old (obj_id w.page % 0x8000) = own-loses_other p page old new was change (obj_id w.page % 0x8000) other in
      wanted_from g new q (record {
        page = w.page;
        h = w.h;
        head = w.head;
        is = change.others q there ∙ w.is;
        in_table = counts;
        at = rw pages w.at;
        header = rw pages w.header;
        served = rw pages w.served;
      }))
      (cases_eq (obj_id page % 0x8000) (obj_id w.page % 0x8000))
