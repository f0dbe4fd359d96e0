-- Header pages are as many as files.
use Rattle.std.proofs.Common.{◌≡◌, ℕ, ◌%◌, ◌<◌, List, [], ◌∷◌, length, Bool, true, false, cond, Option, Some, None, ap, refl, sym, ◌∙◌, arith, ⊎_elim}
use Rattle.std.specs.Prelude.{filter}
use Rattle.std.specs.List.{range_with_len, sum_by}
use Rattle.std.proofs.lemmas.List.Sums.{sum_by-cons}
use Rattle.std.proofs.lemmas.Bool.{cases_Bool, eq-eqb, false_from_ne_true, false≢true}
use Rattle.std.proofs.lemmas.Option.{none-some, same_Some}
use Rattle.geometry.specs.declared.geometry.Geometry.{Geometry}
use Rattle.table_model.specs.Table.{File}
use Rattle.geometry.specs.Numbers.{page_count}
use Rattle.image_model.specs.Within.{page_number}
use Rattle.image_model.specs.Places.{IsImage}
use Rattle.image_model.specs.Headers.{obj_id}
use Rattle.image_model.specs.Live.{live_at, own}
use Rattle.image_model.specs.Files.{is_index, index_page}
use Rattle.image_model.specs.Tables.{records, table_of}
use Rattle.image_model.specs.Tidy.{IsTidy, is_number}
use Rattle.image_laws.proofs.Matching.{filter-none_in, count_one, count_by_key, sum-range, sum-records, weight}
use Rattle.image_laws.proofs.Wants.{number-is}
use Rattle.image_laws.proofs.Finish.{own-parts}
use Rattle.image_laws.proofs.Frames.{live_parts}
use Rattle.image_laws.proofs.Judge.{index_passes}
use Rattle.header_laws.specs.Sums.{live_heads, FileCount}
use Rattle.header_laws.proofs.HeadPages.{Headed, file_at, headed, headed_or}
use Rattle.header_laws.proofs.HeadNames.{head-only}

-- a list's length is the sum of ones
pub sum-ones : {Y : Type 0} (xs : List Y) → sum_by (λ (x : Y). 1) xs ≡ length xs
sum-ones [] = refl
sum-ones {Y} (x ∷ xs) = let a = sum_by-cons (λ (y : Y). 1) x xs in omega (arith, a, sum-ones xs)

module _ (g : Geometry) (a : List ℕ) (is : IsImage g a) (t : IsTidy g a) where
  -- the page is the header page of one id where it is one at all
  header-page : (id p : ℕ) → is_number (index_page g (own (live_at g a) id) 0) p ≡ true → (x : List ℕ) × (live_at g a p ≡ Some x) × (is_index (Some x) 0 ≡ true) × (obj_id x % 0x8000 ≡ id)
  header-page id p e =
      let at = number-is (index_page g (own (live_at g a) id) 0) p e in
      let h = headed g a t.undamaged id p at in
      let place : h.p ≡ p = same_Some h.p p (sym h.at ∙ at) in
      let w = own-parts (live_at g a) id h.p h.head h.page in
      let k = index_passes g (own (live_at g a) id) 0 h.p h.at in
      (h.head, ap (live_at g a) (sym place) ∙ w.0, rw h.page at k, w.1)

  one_id : (p : ℕ) → length (filter (λ id. is_number (index_page g (own (live_at g a) id) 0) p) (range_with_len 1 0x7FFF)) ≡ cond (is_index (live_at g a p) 0) 1 0
  one_id p =
      let test : ℕ → Bool = λ id. is_number (index_page g (own (live_at g a) id) 0) p in
      let go : (o : Option (List ℕ)) → live_at g a p ≡ o → length (filter test (range_with_len 1 0x7FFF)) ≡ cond (is_index o 0) 1 0 =
      λ o. elim o as (λ (o : Option (List ℕ)). live_at g a p ≡ o → length (filter test (range_with_len 1 0x7FFF)) ≡ cond (is_index o 0) 1 0) [
        | None ↦ λ e. filter-none_in test 1 0x7FFF (λ id low high. false_from_ne_true _ (λ some. let w = header-page id p some in
            none-some w.0 (sym e ∙ w.1)))
        | Some x ↦ λ e. ⊎_elim
            (λ (index : is_index (Some x) 0 ≡ true).
            let at = head-only g a is t p x e index in
            let h = headed g a t.undamaged (obj_id x % 0x8000) p at in
            count_one test (obj_id x % 0x8000) 1 0x7FFF h.low (omega (arith, h.high)) (ap (λ (o : Option ℕ). is_number o p) at ∙ eq-eqb p p refl)
            (λ j there. false_from_ne_true _ (λ some. let w = header-page j p some in
            let same : w.0 ≡ x = same_Some w.0 x (sym w.1 ∙ e) in there (sym w.3 ∙ ap (λ (y : List ℕ). obj_id y % 0x8000) same)))
            ∙ sym (ap (λ (b : Bool). cond b 1 0) index))
            (λ (other : is_index (Some x) 0 ≡ false).
            filter-none_in test 1 0x7FFF (λ id low high. false_from_ne_true _ (λ some. let w = header-page id p some in
            let same : w.0 ≡ x = same_Some w.0 x (sym w.1 ∙ e) in false≢true (sym other ∙ ap (λ (y : List ℕ). is_index (Some y) 0) (sym same) ∙ w.2)))
            ∙ sym (ap (λ (b : Bool). cond b 1 0) other))
            (cases_Bool (is_index (Some x) 0))
      ] in go (live_at g a p) refl

  one_page : (id : ℕ) → length (filter (λ p. is_number (index_page g (own (live_at g a) id) 0) p) (range_with_len 0 (page_count g))) ≡ weight (λ f. 1) (file_at g a id)
  one_page id =
      let test : ℕ → Bool = λ p. is_number (index_page g (own (live_at g a) id) 0) p in
      ⊎_elim
      (λ (h : Headed g a id).
      let w = own-parts (live_at g a) id h.p h.head h.page in
      let low : h.p < page_count g = page_number g h.p (live_parts g a h.p h.head w.0).entry_page in
      rw h.counts (count_one test h.p 0 (page_count g) (omega arith) (omega arith) (rw h.at (eq-eqb h.p h.p refl))
      (λ q there. false_from_ne_true _ (λ some. there (same_Some q h.p (sym (number-is (index_page g (own (live_at g a) id) 0) q some) ∙ h.at))))))
      (λ (w : (index_page g (own (live_at g a) id) 0 ≡ None) × (file_at g a id ≡ None)).
      rw w.1 (filter-none_in test 0 (page_count g) (λ q low high. rw w.0 refl)))
      (headed_or g a t.undamaged id)

pub file-count : (g : Geometry) → FileCount g
unfolding live_heads table_of records
file-count g a is t =
    count_by_key (λ (p : ℕ). is_index (live_at g a p) 0) (λ (id p : ℕ). is_number (index_page g (own (live_at g a) id) 0) p) (page_count g) 1 0x7FFF (λ p low. one_id g a is t p)
    ∙ sum-range (λ (id : ℕ). length (filter (λ (p : ℕ). is_number (index_page g (own (live_at g a) id) 0) p) (range_with_len 0 (page_count g)))) (λ (id : ℕ). weight (λ (f : File). 1) (file_at g a id)) 1 0x7FFF (λ id low high. one_page g a is t id)
    ∙ sym (sum-records (λ (f : File). 1) (file_at g a) 1 0x7FFF)
    ∙ sum-ones (table_of g a)
