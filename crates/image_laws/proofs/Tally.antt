-- The live pages of a tidy image are those that the files of its table need.
use Rattle.std.proofs.Common.{◌≡◌, ◌≢◌, ℕ, ◌%◌, ◌<◌, ◌≤◌, ◌⊎◌, List, length, Bool, true, false, cond, ◌==◌, Option, Some, None, Ok, ap, refl, sym, ◌∙◌, arith, ⊎_elim, subst}
use Rattle.std.specs.Prelude.{filter, is_some, option_and_then, if◌then◌else◌}
use Rattle.std.specs.List.{range_with_len, sum_by}
use Rattle.std.proofs.lemmas.Bool.{cases_eq, cases_Bool, and_parts, eqb-true, eq-eqb, ne_eqb, false_from_ne_true}
use Rattle.std.proofs.lemmas.Option.{same_Some}
use Rattle.geometry.specs.declared.geometry.Geometry.{Geometry}
use Rattle.image_model.specs.Within.{sizes}
use Rattle.geometry.specs.Numbers.{page_count, span_slots}
use Rattle.table_model.specs.Room.{index_pages, data_pages, index_count, data_count}
use Rattle.image_model.specs.Live.{live_at, Live, own}
use Rattle.image_model.specs.Headers.{obj_id, is_finished, size_of}
use Rattle.image_model.specs.Places.{entry_of, IsImage}
use Rattle.table_model.specs.Table.{File}
use Rattle.image_model.specs.Tables.{Found, has_of, counted, records, table_of}
use Rattle.image_model.specs.Files.{index_page, judged, bytes_of}
use Rattle.image_model.specs.Tidy.{IsNeat, is_wanted, is_free_entry, serves}
use Rattle.image_model.specs.Kinds.{is_index_page, is_data_page, live_index, live_data}
use Rattle.image_laws.specs.PageCounts.{TidyCounts}
use Rattle.image_laws.specs.Sharing.{NeatCounts}
use Rattle.image_laws.proofs.Frames.{live_parts}
use Rattle.image_laws.proofs.TidySteps.{neat_of}
use Rattle.image_model.specs.Within.{page_number, page_length}
use Rattle.image_laws.proofs.Finish.{own-parts, is_finished-zero}
use Rattle.image_laws.proofs.Records.{counted-some}
use Rattle.image_laws.proofs.Judge.{found_parts}
use Rattle.image_laws.proofs.Wanted.{judged-whole}
use Rattle.image_laws.proofs.Wants.{Wanted, wanted_parts}
use Rattle.image_laws.proofs.Matching.{filter-none_in, count_one, count_by_key, sum-range, sum-records, weight}
use Rattle.image_laws.proofs.Serving.{index_total, data_total, bytes_long, judged-bytes, some_of, some_of_data}

-- each live page belongs to one id
own-once : (live : Live) (m p : ℕ) (k : Option (List ℕ) → Bool) → k None ≡ false → ((x : List ℕ) → live p ≡ Some x → (1 ≤ obj_id x % 0x8000) × (obj_id x % 0x8000 ≤ m)) →
    length (filter (λ id. k (own live id p)) (range_with_len 1 m)) ≡ cond (k (live p)) 1 0
unfolding own
own-once live m p k none within =
    let P : Option (List ℕ) → Type 0 = λ o. ((x : List ℕ) → o ≡ Some x → (1 ≤ obj_id x % 0x8000) × (obj_id x % 0x8000 ≤ m)) →
    length (filter (λ (id : ℕ). k (option_and_then (λ page. if obj_id page % 0x8000 == id then Some page else None) o)) (range_with_len 1 m)) ≡ cond (k o) 1 0 in
    let go : (o : Option (List ℕ)) → P o = λ o. elim o as P [
      | None ↦ λ w. rw none (filter-none_in (λ (id : ℕ). false) 1 m (λ q low high. refl))
      | Some x ↦ λ w. ⊎_elim
          (λ (yes : k (Some x) ≡ true). let r : (1 ≤ obj_id x % 0x8000) × (obj_id x % 0x8000 ≤ m) = w x refl in
          rw yes (count_one (λ (id : ℕ). k (if obj_id x % 0x8000 == id then Some x else None)) (obj_id x % 0x8000) 1 m r.0 (omega (arith, r.1)) (rw (eq-eqb (obj_id x % 0x8000) (obj_id x % 0x8000) refl) yes)
          (λ j there. rw (ne_eqb (obj_id x % 0x8000) j (λ e. there (sym e))) none)))
          (λ (none' : k (Some x) ≡ false). rw none' (filter-none_in (λ (id : ℕ). k (if obj_id x % 0x8000 == id then Some x else None)) 1 m (λ j low high.
          ⊎_elim (λ (here : obj_id x % 0x8000 ≡ j). rw (eq-eqb (obj_id x % 0x8000) j here) none') (λ (there : obj_id x % 0x8000 ≡ j → ⊥). rw (ne_eqb (obj_id x % 0x8000) j there) none) (cases_eq (obj_id x % 0x8000) j))))
          (cases_Bool (k (Some x)))
    ] in
    go (live p) within

tally : (live : Live) (has : Found) (m N : ℕ) (h : File → ℕ) (k : Option (List ℕ) → Bool) → k None ≡ false → ((p : ℕ) (x : List ℕ) → live p ≡ Some x → (1 ≤ obj_id x % 0x8000) × (obj_id x % 0x8000 ≤ m)) →
    ((id : ℕ) → 1 ≤ id → id ≤ m → length (filter (λ p. k (own live id p)) (range_with_len 0 N)) ≡ weight h (counted has m (has id))) →
    length (filter (λ p. k (live p)) (range_with_len 0 N)) ≡ sum_by h (records has m)
unfolding records
tally live has m N h k none within per =
    count_by_key (λ (p : ℕ). k (live p)) (λ (id p : ℕ). k (own live id p)) N 1 m (λ p low. own-once live m p k none (within p))
    ∙ sum-range (λ (id : ℕ). length (filter (λ (p : ℕ). k (own live id p)) (range_with_len 0 N))) (λ (id : ℕ). weight h (counted has m (has id))) 1 m (λ q low high. per q low (omega arith))
    ∙ sym (sum-records h (λ (id : ℕ). counted has m (has id)) 1 m)

pub is_finished-ones : (page : List ℕ) → obj_id page ≡ 0xFFFF → is_finished page ≡ false
unfolding is_finished
is_finished-ones page h =
    ⊎_elim
    (λ (yes : (obj_id page % 0x8000 == 0) ≡ true). rw yes refl)
    (λ (other : (obj_id page % 0x8000 == 0) ≡ false). rw other (rw (eq-eqb (obj_id page) 0xFFFF h) refl))
    (cases_Bool (obj_id page % 0x8000 == 0))

module _ (g : Geometry) (a : List ℕ) (is : IsImage g a) (t : IsNeat g a) where
  live-id : (p : ℕ) (x : List ℕ) → live_at g a p ≡ Some x → (1 ≤ obj_id x % 0x8000) × (obj_id x % 0x8000 ≤ 0x7FFF)
  live-id p x e =
      let w = live_parts g a p x e in
      let small : obj_id x % 0x8000 < 0x8000 = omega arith in
      let some : obj_id x % 0x8000 ≢ 0 = λ z. let bad : false ≡ true = sym (is_finished-zero x z) ∙ w.finished in absurd (cc) in
      (omega (arith, some), omega arith)

  pub live-wanted : (p : ℕ) (x : List ℕ) → live_at g a p ≡ Some x → is_wanted g a p ≡ true
  live-wanted p x e =
      let w = live_parts g a p x e in
      ⊎_elim
      (λ (zero : entry_of g a p ≡ 0).
      let id : obj_id x ≡ 0 = sym w.entry ∙ zero in
      let z : obj_id x % 0x8000 ≡ 0 = rw id refl in
      let bad : false ≡ true = sym (is_finished-zero x z) ∙ w.finished in absurd (cc))
      (λ (more : (is_free_entry g a p ≡ true) ⊎ (is_wanted g a p ≡ true)). ⊎_elim
      (λ (free : is_free_entry g a p ≡ true).
      let ones : entry_of g a p ≡ 0xFFFF = eqb-true _ 0xFFFF (and_parts _ _ free).0 in
      let bad : false ≡ true = sym (is_finished-ones x (sym w.entry ∙ ones)) ∙ w.finished in absurd (cc))
      (λ (wanted : is_wanted g a p ≡ true). wanted)
      more)
      (t.entries p w.entry_page)

  pub wants : (p : ℕ) (x : List ℕ) → live_at g a p ≡ Some x → Wanted g (live_at g a) p
  unfolding is_wanted
  wants p x e = wanted_parts g (live_at g a) p (live-wanted p x e)

  module _ (id : ℕ) where
    inside : (p : ℕ) (x : List ℕ) → own (live_at g a) id p ≡ Some x → p < page_count g
    inside p x e = let w = own-parts (live_at g a) id p x e in page_number g p (live_parts g a p x w.0).entry_page

    long : (p : ℕ) (x : List ℕ) → own (live_at g a) id p ≡ Some x → length x ≡ g.page
    long p x e =
        let w = own-parts (live_at g a) id p x e in
        let v = live_parts g a p x w.0 in
        ap length (sym v.bytes) ∙ page_length g a p is v.entry_page

    pub counted-in : (p : ℕ) (x : List ℕ) → own (live_at g a) id p ≡ Some x → is_some (counted (has_of g (live_at g a)) 0x7FFF (has_of g (live_at g a) id)) ≡ true
    counted-in p x e =
        let w = own-parts (live_at g a) id p x e in
        let v = wants p x w.0 in
        let same : v.page ≡ x = same_Some v.page x (sym v.is ∙ w.0) in
        let key : obj_id v.page % 0x8000 ≡ id = ap (λ (y : List ℕ). obj_id y % 0x8000) same ∙ w.1 in
        let i = v.in_table in rw key at i

    pub served : (q : ℕ) (head : List ℕ) → index_page g (own (live_at g a) id) 0 ≡ Some q → own (live_at g a) id q ≡ Some head →
        (p : ℕ) (x : List ℕ) → own (live_at g a) id p ≡ Some x → serves g (own (live_at g a) id) head p ≡ true
    served q head at header p x e =
        let w = own-parts (live_at g a) id p x e in
        let v = wants p x w.0 in
        let same : v.page ≡ x = same_Some v.page x (sym v.is ∙ w.0) in
        let key : obj_id v.page % 0x8000 ≡ id = ap (λ (y : List ℕ). obj_id y % 0x8000) same ∙ w.1 in
        let i = v.at in
        let at' : index_page g (own (live_at g a) id) 0 ≡ Some v.h = rw key at i in
        let j = v.header in
        let header' : own (live_at g a) id v.h ≡ Some v.head = rw key at j in
        let s = v.served in
        let served' : serves g (own (live_at g a) id) v.head p ≡ true = rw key at s in
        let place : v.h ≡ q = same_Some v.h q (sym at' ∙ at) in
        let head_same : v.head ≡ head = same_Some v.head head (sym header' ∙ ap (λ (k : ℕ). own (live_at g a) id k) place ∙ header) in
        subst (λ (y : List ℕ). serves g (own (live_at g a) id) y p ≡ true) head_same served'

    -- of a file of the table
    module _ (f : File) (counts : counted (has_of g (live_at g a)) 0x7FFF (has_of g (live_at g a) id) ≡ Some f) where
      totals : (length (filter (λ p. is_index_page (own (live_at g a) id p)) (range_with_len 0 (page_count g))) ≡ index_pages g (length f.bytes))
          × (length (filter (λ p. is_data_page (own (live_at g a) id p)) (range_with_len 0 (page_count g))) ≡ data_pages g (length f.bytes))
      unfolding judged has_of
      totals =
          let w = counted-some (has_of g (live_at g a)) 0x7FFF (has_of g (live_at g a) id) f counts in
          let v = found_parts g (own (live_at g a) id) id w.0 (Ok f) w.1 in
          let whole = judged-whole g (own (live_at g a) id) id v.0 f v.3 in
          let big : 128 ≤ g.page = (sizes g).page in
          let pos : 0 < span_slots g = omega arith in
          let bytes : f.bytes ≡ bytes_of g (own (live_at g a) id) v.0 = judged-bytes g (own (live_at g a) id) id v.0 _ _ f v.3 in
          let size : length f.bytes ≡ size_of v.0 = ap length bytes ∙ bytes_long g pos (own (live_at g a) id) w.0 v.0 v.1 whole (served w.0 v.0 v.1 v.2) inside long big in (
            index_total g pos (own (live_at g a) id) w.0 v.0 v.1 whole (served w.0 v.0 v.1 v.2) inside ∙ ap (index_pages g) (sym size),
            data_total g pos (own (live_at g a) id) w.0 v.0 v.1 whole (served w.0 v.0 v.1 v.2) inside ∙ ap (data_pages g) (sym size),
          )

    none-own : counted (has_of g (live_at g a)) 0x7FFF (has_of g (live_at g a) id) ≡ None → (p : ℕ) (x : List ℕ) → own (live_at g a) id p ≡ Some x → ⊥
    none-own none p x e = let yes = counted-in p x e in let bad : false ≡ true = rw none at yes in absurd (cc)

    index-per : length (filter (λ p. is_index_page (own (live_at g a) id p)) (range_with_len 0 (page_count g))) ≡ weight (λ f. index_pages g (length f.bytes)) (counted (has_of g (live_at g a)) 0x7FFF (has_of g (live_at g a) id))
    index-per =
        let P : Option File → Type 0 = λ o. counted (has_of g (live_at g a)) 0x7FFF (has_of g (live_at g a) id) ≡ o →
        length (filter (λ (p : ℕ). is_index_page (own (live_at g a) id p)) (range_with_len 0 (page_count g))) ≡ weight (λ f. index_pages g (length f.bytes)) o in
        let go : (o : Option File) → P o = λ o. elim o as P [
          | None ↦ λ e. filter-none_in (λ (p : ℕ). is_index_page (own (live_at g a) id p)) 0 (page_count g) (λ p low high. false_from_ne_true _ (λ yes. let x = some_of (own (live_at g a) id p) yes in none-own e p x.0 x.1))
          | Some f ↦ λ e. (totals f e).0
        ] in go (counted (has_of g (live_at g a)) 0x7FFF (has_of g (live_at g a) id)) refl

    data-per : length (filter (λ p. is_data_page (own (live_at g a) id p)) (range_with_len 0 (page_count g))) ≡ weight (λ f. data_pages g (length f.bytes)) (counted (has_of g (live_at g a)) 0x7FFF (has_of g (live_at g a) id))
    data-per =
        let P : Option File → Type 0 = λ o. counted (has_of g (live_at g a)) 0x7FFF (has_of g (live_at g a) id) ≡ o →
        length (filter (λ (p : ℕ). is_data_page (own (live_at g a) id p)) (range_with_len 0 (page_count g))) ≡ weight (λ f. data_pages g (length f.bytes)) o in
        let go : (o : Option File) → P o = λ o. elim o as P [
          | None ↦ λ e. filter-none_in (λ (p : ℕ). is_data_page (own (live_at g a) id p)) 0 (page_count g) (λ p low high. false_from_ne_true _ (λ yes. let x = some_of_data (own (live_at g a) id p) yes in none-own e p x.0 x.1))
          | Some f ↦ λ e. (totals f e).1
        ] in go (counted (has_of g (live_at g a)) 0x7FFF (has_of g (live_at g a) id)) refl

pub neat-counts : (g : Geometry) → NeatCounts g
unfolding live_index live_data table_of index_count data_count
neat-counts g a is t = (
  tally (live_at g a) (has_of g (live_at g a)) 0x7FFF (page_count g) (λ f. index_pages g (length f.bytes)) is_index_page refl (live-id g a is t) (λ id low high. index-per g a is t id),
  tally (live_at g a) (has_of g (live_at g a)) 0x7FFF (page_count g) (λ f. data_pages g (length f.bytes)) is_data_page refl (live-id g a is t) (λ id low high. data-per g a is t id),
)

pub tidy-counts : (g : Geometry) → TidyCounts g
tidy-counts g a is t = neat-counts g a is (neat_of t)
