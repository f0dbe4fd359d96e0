-- What a header page of a tidy image tells.
use Rattle.std.proofs.Common.{◌≡◌, ℕ, ◌+◌, ◌<◌, List, length, slice_range, ◌%◌, ◌==◌, Bool, true, Option, Some, None, ap, refl, sym, ◌∙◌, arith, length-take, length-drop}
use Rattle.std.specs.Prelude.{nat_lt}
use Rattle.std.proofs.lemmas.Bool.{and_parts, eqb-true, false≢true}
use Rattle.std.proofs.lemmas.Option.{same_Some}
use Rattle.geometry.specs.declared.geometry.Geometry.{Geometry}
use Rattle.geometry.specs.Numbers.{span_slots, page_count}
use Rattle.table_model.specs.Table.{File, same_text, file_of, file_named, file_above}
use Rattle.image_model.specs.Within.{Sizes, sizes, page_number, page_length}
use Rattle.image_model.specs.Places.{IsImage}
use Rattle.image_model.specs.Headers.{obj_id, names_index, span_of}
use Rattle.image_model.specs.Live.{live_at, own}
use Rattle.image_model.specs.Files.{is_index, index_page, bytes_of}
use Rattle.image_model.specs.Tables.{records, table_of}
use Rattle.image_model.specs.Tidy.{IsTidy}
use Rattle.image_laws.proofs.Finish.{own-parts}
use Rattle.image_laws.proofs.Reindexed.{judged-parts}
use Rattle.image_laws.proofs.Frames.{live_parts}
use Rattle.image_laws.specs.Programs.{IsHead}
use Rattle.image_laws.proofs.Judge.{index_passes}
use Rattle.image_laws.proofs.Wanted.{judged-whole}
use Rattle.image_laws.proofs.Serving.{bytes_long}
use Rattle.image_laws.proofs.Tally.{served}
use Rattle.image_laws.proofs.TidySteps.{neat_of}
use Rattle.header_laws.specs.Heads.{Tells, HeadTells, FilesHaveHeads, FoundById, EachById, OneHead}
use Rattle.header_laws.proofs.Listed.{IsFirst, found-first, each-listed}
use Rattle.header_laws.proofs.HeadPages.{Headed, file_at, file_at-keyed, file_of-at, headed, headed-by_file}
use Rattle.header_laws.proofs.HeadNames.{judged-name, head-only}
use Rattle.header_laws.proofs.FineNames.{fine-names, name_of-fine}

module _ (g : Geometry) (a : List ℕ) (is : IsImage g a) (t : IsTidy g a) (id : ℕ) where
  inside : (p : ℕ) (x : List ℕ) → own (live_at g a) id p ≡ Some x → p < page_count g
  inside p x e = let w = own-parts (live_at g a) id p x e in page_number g p (live_parts g a p x w.0).entry_page

  long : (p : ℕ) (x : List ℕ) → own (live_at g a) id p ≡ Some x → length x ≡ g.page
  long p x e =
      let w = own-parts (live_at g a) id p x e in
      let v = live_parts g a p x w.0 in
      ap length (sym v.bytes) ∙ page_length g a p is v.entry_page

  head-tells_file : (h : Headed g a id) → Tells g a id h.head h.f
  head-tells_file h =
      let geo : Sizes g = sizes g in
      let pos : 0 < span_slots g = omega (arith, geo.page) in
      let w = judged-parts g (own (live_at g a) id) id h.head h.f h.file in
      let whole = judged-whole g (own (live_at g a) id) id h.head h.f h.file in
      let name = judged-name g (own (live_at g a) id) id h.head h.f h.file in
      let bytes : h.f.bytes ≡ bytes_of g (own (live_at g a) id) h.head = ap (λ (x : File). x.bytes) (sym w.2) in
      let meta : h.f.meta ≡ slice_range h.head 45 (45 + g.meta) = ap (λ (x : File). x.meta) (sym w.2) in
      let page : length h.head ≡ g.page = long h.p h.head h.page in
      record {
        file = file_of-at g a id ∙ h.counts;
        id_is = h.keyed;
        name = name;
        kind = ap (λ (x : File). x.kind) (sym w.2);
        meta = meta;
        size = ap length bytes ∙ bytes_long g pos (own (live_at g a) id) h.p h.head h.at whole (served g a is (neat_of t) id h.p h.head h.at h.page) inside long geo.page;
        meta_length = ap length meta ∙ (simp (length-take, length-drop) (omega (arith, page, geo.page, geo.meta)));
        fine_name = (fine-names h.f.name).1 (name_of-fine h.head h.f.name name);
        whole = h.file;
      }

pub head-tells : (g : Geometry) → HeadTells g
head-tells g a is t id p page at live =
    let h = headed g a t.undamaged id p at in
    let w = own-parts (live_at g a) id h.p h.head h.page in
    let place : h.p ≡ p = same_Some h.p p (sym h.at ∙ at) in
    let head : h.head ≡ page = same_Some h.head page (sym w.0 ∙ ap (live_at g a) place ∙ live) in
    (h.f, rw head at (head-tells_file g a is t id h))

pub files-have_heads : (g : Geometry) → FilesHaveHeads g
files-have_heads g a is t id f e =
    let h = headed-by_file g a t.undamaged id f (sym (file_of-at g a id) ∙ e) in
    record {
      p = h.0.p;
      page = h.0.head;
      at = h.0.at;
      live = (own-parts (live_at g a) id h.0.p h.0.head h.0.page).0;
      tells = rw h.1 at (head-tells_file g a is t id h.0);
    }

-- the first file that passes is that of its id
first-by_id : (g : Geometry) (a : List ℕ) (test : File → Bool) (f : File) → IsFirst (file_at g a) test 1 0x7FFF f → file_of f.id (table_of g a) ≡ Some f
first-by_id g a test f w =
    let key : f.id ≡ w.j = file_at-keyed g a w.j f w.is in
    file_of-at g a f.id ∙ ap (file_at g a) key ∙ w.is

pub found-by_id : (g : Geometry) → FoundById g
unfolding file_named file_above table_of records
found-by_id g a f = (
  λ name e. first-by_id g a (λ (x : File). same_text x.name name) f (found-first (file_at g a) (λ (x : File). same_text x.name name) 1 0x7FFF f e),
  λ after e. first-by_id g a (λ (x : File). nat_lt after x.id) f (found-first (file_at g a) (λ (x : File). nat_lt after x.id) 1 0x7FFF f e),
)

pub each-by_id : (g : Geometry) → EachById g
unfolding table_of records
each-by_id g a =
    each-listed (λ (f : File). file_of f.id (table_of g a) ≡ Some f) (file_at g a) 1 0x7FFF
    (λ j f is. file_of-at g a f.id ∙ ap (file_at g a) (file_at-keyed g a j f is) ∙ is)

-- an index page of span 0 is a header page
head-parts : (id : ℕ) (page : List ℕ) → is_index (Some page) 0 ≡ true → obj_id page % 0x8000 ≡ id → IsHead id page
head-parts id page e of = let w = and_parts (names_index page) (span_of page == 0) e in record { index = w.0; of = of; first = eqb-true (span_of page) 0 w.1 }

some_index : (o : Option (List ℕ)) → is_index o 0 ≡ true → (x : List ℕ) × (o ≡ Some x)
some_index None e = absurd (false≢true e)
some_index (Some x) e = (x, refl)

pub one-head : (g : Geometry) → OneHead g
one-head g a is t id p page at live =
    let h = headed g a t.undamaged id p at in
    let w = own-parts (live_at g a) id h.p h.head h.page in
    let place : h.p ≡ p = same_Some h.p p (sym h.at ∙ at) in
    let head : h.head ≡ page = same_Some h.head page (sym w.0 ∙ ap (live_at g a) place ∙ live) in
    let here : own (live_at g a) id p ≡ Some page = ap (own (live_at g a) id) (sym place) ∙ h.page ∙ ap (λ (x : List ℕ). Some x) head in
    let passes = index_passes g (own (live_at g a) id) 0 p at in
    let index : is_index (Some page) 0 ≡ true = ap (λ (o : Option (List ℕ)). is_index o 0) (sym here) ∙ passes in
    record {
      low = h.low;
      high = h.high;
      is = here;
      is_head = head-parts id page index (ap (λ (x : List ℕ). obj_id x % 0x8000) (sym head) ∙ w.1);
      only = λ r e.
          let x = some_index (own (live_at g a) id r) e in
          let v = own-parts (live_at g a) id r x.0 x.1 in
          let first = head-only g a is t r x.0 v.0 (ap (λ (o : Option (List ℕ)). is_index o 0) (sym x.1) ∙ e) in
          let first' : index_page g (own (live_at g a) id) 0 ≡ Some r = rw v.1 at first in
          same_Some r p (sym first' ∙ at);
      undamaged = t.undamaged;
    }
