-- The names that header pages hold, and what else they tell.
use Rattle.std.proofs.Common.{◌≡◌, ◌≢◌, ℕ, ◌%◌, ◌<◌, List, [], Bool, true, false, ◌&&◌, Option, Some, None, Ok, ap, refl, sym, ◌∙◌, arith, ⊎_elim}
use Rattle.std.specs.Prelude.{find, is_some, option_and_then}
use Rattle.std.specs.Option.{option_map}
use Rattle.std.specs.List.{range_with_len, filter_map, list_any}
use Rattle.std.proofs.lemmas.Bool.{cases_eq, cases_Bool, and_parts, or_cases, eqb-true, eq-eqb, false≢true}
use Rattle.std.proofs.lemmas.Option.{none-some, same_Some}
use Rattle.geometry.specs.declared.geometry.Geometry.{Geometry}
use Rattle.table_model.specs.Table.{File, same_text, has_name, file_named}
use Rattle.table_model.specs.Room.{index_pages, data_pages}
use Rattle.image_model.specs.Within.{page_number}
use Rattle.geometry.specs.Numbers.{page_count}
use Rattle.image_model.specs.Places.{IsImage}
use Rattle.image_model.specs.Headers.{obj_id, names_index, size_of, name_of}
use Rattle.image_model.specs.Live.{live_at, Live, own}
use Rattle.image_model.specs.Files.{is_index, index_page, entry_number, data_of, judged}
use Rattle.image_model.specs.Tables.{has_of, damaged_of, records, table_of}
use Rattle.image_model.specs.Tidy.{IsTidy, is_number, serves}
use Rattle.flash_view.specs.Found.{is_name, headed as head_id, named_at, first_named}
use Rattle.image_laws.proofs.Records.{bytes_same, bytes_equal}
use Rattle.image_laws.proofs.Damaged.{any_at}
use Rattle.image_laws.proofs.Append.{find-all}
use Rattle.image_laws.proofs.Tables.{find_passes}
use Rattle.image_laws.proofs.Reindexed.{judged-parts}
use Rattle.image_laws.proofs.Judge.{index_passes}
use Rattle.image_laws.proofs.Finish.{own-parts, heads-apart}
use Rattle.image_laws.proofs.Frames.{live_parts}
use Rattle.image_laws.proofs.Wants.{number-is}
use Rattle.image_laws.proofs.Tally.{wants}
use Rattle.image_laws.proofs.TidySteps.{neat_of}
use Rattle.header_laws.proofs.Naming.{one_name, named-file}
use Rattle.header_laws.specs.Ids.{Named, HasNames}
use Rattle.header_laws.specs.Names.{OwnNameUnused}
use Rattle.header_laws.proofs.Listed.{any-found, found-first, found-none, each-listed}
use Rattle.header_laws.proofs.HeadPages.{file_at, file_at-keyed, file_of-at, headed, headed-by_file}

-- ---- a whole file has the fields of its header page

pub judged-name : (g : Geometry) (pages : Live) (id : ℕ) (head : List ℕ) (f : File) → judged g pages id head ≡ Ok f → name_of head ≡ Some f.name
judged-name g pages id head f e = let w = judged-parts g pages id head f e in w.1 ∙ ap (λ (x : File). Some x.name) w.2

-- ---- the id that a live header page with a name has

is_name-same : (o : Option (List ℕ)) (name : List ℕ) → is_name o name ≡ true → o ≡ Some name
is_name-same None name e = absurd (false≢true e)
is_name-same (Some found) name e = ap (λ (x : List ℕ). Some x) (bytes_same found name e)

named_page : (page name : List ℕ) (i : ℕ) → named_at (Some page) name ≡ Some i → (name_of page ≡ Some name) × (is_index (Some page) 0 ≡ true) × (obj_id page % 0x8000 ≡ i)
named_page page name i e =
    ⊎_elim
    (λ (same : is_name (name_of page) name ≡ true).
    let id : head_id (Some page) ≡ Some i = rw same at e in
    ⊎_elim
    (λ (index : is_index (Some page) 0 ≡ true). (is_name-same (name_of page) name same, index, same_Some (obj_id page % 0x8000) i (rw index at id)))
    (λ (other : is_index (Some page) 0 ≡ false). absurd (none-some i (rw other at id)))
    (cases_Bool (is_index (Some page) 0)))
    (λ (differ : is_name (name_of page) name ≡ false). absurd (none-some i (rw differ at e)))
    (cases_Bool (is_name (name_of page) name))

named-parts : (o : Option (List ℕ)) (name : List ℕ) → is_some (named_at o name) ≡ true → (page : List ℕ) × (i : ℕ) × (o ≡ Some page) × (named_at o name ≡ Some i)
named-parts None name e = absurd (false≢true e)
named-parts (Some page) name e =
    let go : (v : Option ℕ) → named_at (Some page) name ≡ v → is_some v ≡ true → (i : ℕ) × (named_at (Some page) name ≡ Some i) =
    λ v. elim v as (λ (v : Option ℕ). named_at (Some page) name ≡ v → is_some v ≡ true → (i : ℕ) × (named_at (Some page) name ≡ Some i)) [
      | None ↦ λ w k. absurd (false≢true k)
      | Some i ↦ λ w k. (i, w)
    ] in
    let w = go (named_at (Some page) name) refl e in (page, w.0, refl, w.1)

named_from : (page name : List ℕ) → name_of page ≡ Some name → is_index (Some page) 0 ≡ true → is_some (named_at (Some page) name) ≡ true
named_from page name e index = rw e (rw (bytes_equal name) (rw index refl))

own_from : (live : Live) (p : ℕ) (page : List ℕ) → live p ≡ Some page → own live (obj_id page % 0x8000) p ≡ Some page
unfolding own
own_from live p page e = rw e (rw (eq-eqb _ _ refl) refl)

index-is : (page : List ℕ) (j : ℕ) → is_index (Some page) 0 ≡ true → is_index (Some page) j ≡ true → j ≡ 0
index-is page j e k = sym (eqb-true _ j (and_parts _ _ k).1) ∙ eqb-true _ 0 (and_parts _ _ e).1

index-no_data : (o : Option (List ℕ)) (page : List ℕ) (span : ℕ) → o ≡ Some page → is_index (Some page) 0 ≡ true → is_some (data_of o span) ≡ true → ⊥
index-no_data None page span is e k = false≢true k
index-no_data (Some x) page span is e k =
    let same : x ≡ page = same_Some x page is in
    let index : names_index x ≡ true = rw same (and_parts _ _ e).0 in false≢true (rw index at k)

-- a live header page of a tidy image is the header page of its id
pub head-only : (g : Geometry) (a : List ℕ) → IsImage g a → IsTidy g a → (p : ℕ) (page : List ℕ) → live_at g a p ≡ Some page → is_index (Some page) 0 ≡ true →
    index_page g (own (live_at g a) (obj_id page % 0x8000)) 0 ≡ Some p
unfolding serves
head-only g a is t p page live index =
    let v = wants g a is (neat_of t) p page live in
    let same : v.page ≡ page = same_Some v.page page (sym v.is ∙ live) in
    let s = v.served in
    let serving : serves g (own (live_at g a) (obj_id page % 0x8000)) v.head p ≡ true = rw same at s in
    let here : own (live_at g a) (obj_id page % 0x8000) p ≡ Some page = own_from (live_at g a) p page live in
    ⊎_elim
    (λ (x : list_any (λ (j : ℕ). is_number (index_page g (own (live_at g a) (obj_id page % 0x8000)) j) p) (range_with_len 0 (index_pages g (size_of v.head))) ≡ true).
    let w = any_at (λ (j : ℕ). is_number (index_page g (own (live_at g a) (obj_id page % 0x8000)) j) p) 0 (index_pages g (size_of v.head)) x in
    let at = number-is (index_page g (own (live_at g a) (obj_id page % 0x8000)) w.0) p w.3 in
    let passes = index_passes g (own (live_at g a) (obj_id page % 0x8000)) w.0 p at in
    let first : w.0 ≡ 0 = index-is page w.0 index (rw here at passes) in
    rw first at at)
    (λ (x : list_any (λ (span : ℕ). is_number (entry_number g (own (live_at g a) (obj_id page % 0x8000)) v.head span) p && is_some (data_of (own (live_at g a) (obj_id page % 0x8000) p) span)) (range_with_len 0 (data_pages g (size_of v.head))) ≡ true).
    let w = any_at (λ (span : ℕ). is_number (entry_number g (own (live_at g a) (obj_id page % 0x8000)) v.head span) p && is_some (data_of (own (live_at g a) (obj_id page % 0x8000) p) span)) 0 (data_pages g (size_of v.head)) x in
    let k = (and_parts (is_number (entry_number g (own (live_at g a) (obj_id page % 0x8000)) v.head w.0) p) (is_some (data_of (own (live_at g a) (obj_id page % 0x8000) p) w.0)) w.3).1 in
    absurd (index-no_data (own (live_at g a) (obj_id page % 0x8000) p) page w.0 here index k))
    (or_cases _ _ serving)

-- the file of a name
file_named-at : (g : Geometry) (a : List ℕ) (name : List ℕ) (f : File) → file_named name (table_of g a) ≡ Some f → (j : ℕ) × (file_at g a j ≡ Some f) × (f.name ≡ name)
unfolding file_named table_of records
file_named-at g a name f e = let w = found-first (file_at g a) (λ (x : File). same_text x.name name) 1 0x7FFF f e in (w.j, w.is, bytes_same f.name name w.passes)

pub named : (g : Geometry) → Named g
unfolding first_named
named g a is t name =
    let test : ℕ → Bool = λ p. is_some (named_at (live_at g a p) name) in
    let go : (o : Option ℕ) → find test (range_with_len 0 (page_count g)) ≡ o → option_and_then (λ p. named_at (live_at g a p) name) o ≡ option_map (λ (f : File). f.id) (file_named name (table_of g a)) =
    λ o. elim o as (λ (o : Option ℕ). find test (range_with_len 0 (page_count g)) ≡ o → option_and_then (λ p. named_at (live_at g a p) name) o ≡ option_map (λ (f : File). f.id) (file_named name (table_of g a))) [
      | None ↦ λ none.
          let back : (v : Option File) → file_named name (table_of g a) ≡ v → None ≡ option_map (λ (f : File). f.id) v =
          λ v. elim v as (λ (v : Option File). file_named name (table_of g a) ≡ v → None ≡ option_map (λ (f : File). f.id) v) [
            | None ↦ λ e. refl
            | Some f ↦ λ e.
                let w = file_named-at g a name f e in
                let h = headed-by_file g a t.undamaged w.0 f w.1 in
                let page = own-parts (live_at g a) w.0 h.0.p h.0.head h.0.page in
                let k = index_passes g (own (live_at g a) w.0) 0 h.0.p h.0.at in
                let index : is_index (Some h.0.head) 0 ≡ true = rw h.0.page at k in
                let file : h.0.f.name ≡ name = ap (λ (x : File). x.name) h.1 ∙ w.2 in
                let holds : name_of h.0.head ≡ Some name = judged-name g (own (live_at g a) w.0) w.0 h.0.head h.0.f h.0.file ∙ ap (λ (x : List ℕ). Some x) file in
                let passes : test h.0.p ≡ true = rw page.0 (named_from h.0.head name holds index) in
                let low : h.0.p < page_count g = page_number g h.0.p (live_parts g a h.0.p h.0.head page.0).entry_page in
                absurd (false≢true (sym (find-all test 0 (page_count g) none h.0.p (omega arith) (omega arith)) ∙ passes))
          ] in back (file_named name (table_of g a)) refl
      | Some p ↦ λ found.
          let passes = (find_passes test 0 (page_count g) p found).0 in
          let w = named-parts (live_at g a p) name passes in
          let here : named_at (Some w.0) name ≡ Some w.1 = ap (λ (o : Option (List ℕ)). named_at o name) (sym w.2) ∙ w.3 in
          let v = named_page w.0 name w.1 here in
          let at = head-only g a is t p w.0 w.2 v.1 in
          let at' : index_page g (own (live_at g a) w.1) 0 ≡ Some p = rw v.2 at at in
          let h = headed g a t.undamaged w.1 p at' in
          let page = own-parts (live_at g a) w.1 h.p h.head h.page in
          let place : h.p ≡ p = same_Some h.p p (sym h.at ∙ at') in
          let head : h.head ≡ w.0 = same_Some h.head w.0 (sym page.0 ∙ ap (live_at g a) place ∙ w.2) in
          let file : h.f.name ≡ name = same_Some h.f.name name (sym (judged-name g (own (live_at g a) w.1) w.1 h.head h.f h.file) ∙ ap name_of head ∙ v.0) in
          w.3 ∙ sym (ap (λ (o : Option File). option_map (λ (f : File). f.id) o) (named-file g a w.1 h.f name h.counts file) ∙ ap (λ (x : ℕ). Some x) h.keyed)
    ] in go (find test (range_with_len 0 (page_count g))) refl

map-some : (o : Option File) → is_some (option_map (λ (f : File). f.id) o) ≡ is_some o
map-some None = refl
map-some (Some f) = refl

pub has-names : (g : Geometry) → HasNames g
unfolding has_name file_named
has-names g a is t name =
    ap is_some (named g a is t name)
    ∙ map-some (file_named name (table_of g a))
    ∙ sym (any-found (λ (f : File). same_text f.name name) (table_of g a))

pub own-unused : (g : Geometry) → OwnNameUnused g
unfolding table_of records
own-unused g a undamaged id f e =
    let mine : file_at g a id ≡ Some f = sym (file_of-at g a id) ∙ e in
    each-listed (λ (x : File). x.id ≢ id → x.name ≢ f.name) (file_at g a) 1 0x7FFF
    (λ j x is there same. there (file_at-keyed g a j x is ∙ one_name g a j id x f is mine same))
