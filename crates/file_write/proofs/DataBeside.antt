-- A page is put beside those of a file.
use Rattle.std.proofs.Common.{◌≡◌, ℕ, ◌+◌, ◌-◌, ◌*◌, ◌%◌, ◌<◌, ◌≤◌, List, ◌++◌, length, take, drop, Bool, true, false, None, ap, sym, ◌∙◌, arith, subst, inr}
use Rattle.std.specs.Prelude.{nat_lt, if◌then◌else◌, slice_index, slice_range}
use Rattle.std.proofs.lemmas.List.{get_or-drop}
use Rattle.geometry.specs.declared.geometry.Geometry.{Geometry}
use Rattle.geometry.specs.Numbers.{head_slots, span_slots}
use Rattle.table_model.specs.declared.error.Tag.{Tag}
use Rattle.image_model.specs.Places.{IsImage}
use Rattle.image_laws.specs.LiveSteps.{PutDone}
use Rattle.image_laws.specs.NewFile.{IsFreePage}
use Rattle.image_model.specs.Files.{slot_at}
use Rattle.image_laws.specs.Reindex.{slot_word}
use Rattle.trim_laws.specs.Steps.{IsTrimHead}
use Rattle.trim_laws.proofs.Pages.{data_trims, further_trims}
use Rattle.flash_view.specs.declared.kinds.Kind.{Kind}
use Rattle.flash_view.specs.declared.kinds.Kind.TheVariants.{Index, Data}
use Rattle.flash_view.specs.Steps.{Begins, Finishes}
use Rattle.free_search.specs.Free.{IsFreeFor, FreePage}
use Rattle.free_search.proofs.FoundPage.{free_of}
use Rattle.free_search.proofs.Had.{page_had, data_page_had}
use Rattle.page_put.specs.LivePages.{finished_page, putting}
use Rattle.renew_laws.proofs.EntryInPlace.{slot_word-at}
use Rattle.file_write.specs.Beside.{IsPageOf, AddedPage, HasPage, putting_one, adding_at, adding, is_data, is_further}
use Rattle.file_write.proofs.Built.{is_ready, is_page}

-- ---- the page that was built

module _ (g : Geometry) (a : List ℕ) (to : ℕ) (kind : Kind) (id span : ℕ) (page rest : List ℕ) (len : length page ≡ g.page) (small : (k : ℕ) → slice_index page k < 256) (range : (1 ≤ id) × (id ≤ 0x7FFE)) (word : span < 65536) where
  abbrev tag : Tag
  tag = record { id = id; span = span }

  abbrev new : List ℕ
  new = finished_page g kind tag (page ++ rest)

  is : IsPageOf g kind tag (drop 5 page) new
  is = is_page g kind tag page rest len small range.0 range.1 word

  puts_one : (Is : Geometry → List ℕ → Type 0) → Is g new → IsTrimHead g new → IsFreePage g a to → Finishes g a a (putting to kind tag (page ++ rest)) (putting_one to Is)
  puts_one Is holds trim free = record {
    needs = record { free = free; ready = is_ready g kind tag page rest len small range.0 range.1 word; trim = trim };
    cut = λ c leaves. (new, holds, leaves);
    done = λ c ok put. (new, holds, put);
  }

-- the bytes behind the header are those that were built
same_behind : (x y : List ℕ) → drop 5 x ≡ drop 5 y → (k : ℕ) → slice_index x (5 + k) ≡ slice_index y (5 + k)
same_behind x y same k = sym (get_or-drop 5 x k 0) ∙ ap (λ (l : List ℕ). slice_index l k) same ∙ get_or-drop 5 y k 0

same_at : (x y : List ℕ) → drop 5 x ≡ drop 5 y → (k : ℕ) → 5 ≤ k → slice_index x k ≡ slice_index y k
same_at x y same k low = let place : 5 + (k - 5) ≡ k = omega (arith, low) in subst (λ (i : ℕ). slice_index x i ≡ slice_index y i) place (same_behind x y same (k - 5))

pub puts_data : (g : Geometry) (a : List ℕ) (to id span : ℕ) (bytes page rest : List ℕ) → length page ≡ g.page → slice_range page 5 (5 + length bytes) ≡ bytes → ((k : ℕ) → 5 + length bytes ≤ k → k < length page → slice_index page k ≡ 0xFF) → ((k : ℕ) → slice_index page k < 256) → (1 ≤ id) × (id ≤ 0x7FFE) → span < 65536 → IsFreePage g a to →
    Finishes g a a (putting to Data (record { id = id; span = span }) (page ++ rest)) (putting_one to (is_data id span bytes))
puts_data g a to id span bytes page rest len holds erased small range word free =
    let w = is g a to Data id span page rest len small range word in
    puts_one g a to Data id span page rest len small range word (is_data id span bytes) (record { kind = w.names; of = w.of; at = w.span; holds = ap (take (5 + length bytes - 5)) w.rest ∙ holds; erased = λ k low below. same_at (new g a to Data id span page rest len small range word) page w.rest k (omega (arith, low)) ∙ erased k low (omega (arith, below, len)) }) (data_trims g (new g a to Data id span page rest len small range word) w.names) free

same_slot : (g : Geometry) (x y : List ℕ) (t n : ℕ) → slot_at g t ≡ 5 + n → drop 5 x ≡ drop 5 y → slot_word g x t ≡ slot_word g y t
same_slot g x y t n place same =
    let first : slice_index x (slot_at g t) ≡ slice_index y (slot_at g t) = subst (λ (k : ℕ). slice_index x k ≡ slice_index y k) (sym place) (same_behind x y same n) in
    let next : 5 + (n + 1) ≡ slot_at g t + 1 = omega (arith, place) in
    let second : slice_index x (slot_at g t + 1) ≡ slice_index y (slot_at g t + 1) = subst (λ (k : ℕ). slice_index x k ≡ slice_index y k) next (same_behind x y same (n + 1)) in
    slot_word-at g x t ∙ rw (first, second) (sym (slot_word-at g y t))

pub puts_index : (g : Geometry) (a : List ℕ) (to id span t p : ℕ) (page rest : List ℕ) → length page ≡ g.page → slot_word g page t ≡ p → ((k : ℕ) → slot_at g t + 2 ≤ k → k < g.page → slice_index page k ≡ 0xFF) → ((k : ℕ) → slice_index page k < 256) → (1 ≤ id) × (id ≤ 0x7FFE) → span < 65536 → 0 < span → IsFreePage g a to →
    Finishes g a a (putting to Index (record { id = id; span = span }) (page ++ rest)) (putting_one to (is_further id span t p))
puts_index g a to id span t p page rest len slot erased small range word some free =
    let w = is g a to Index id span page rest len small range word in
    let place : slot_at g t ≡ 5 + (slot_at g t - 5) = slot_behind g t in
    puts_one g a to Index id span page rest len small range word (is_further id span t p)
    (record { kind = w.names; of = w.of; at = w.span; slot = same_slot g (new g a to Index id span page rest len small range word) page t (slot_at g t - 5) place w.rest ∙ slot; erased = λ k low below. same_at (new g a to Index id span page rest len small range word) page w.rest k (omega (arith, low, place)) ∙ erased k low below }) (further_trims g (new g a to Index id span page rest len small range word) (λ zero. omega (arith, w.span, zero, some))) free
  where
    slot_behind : (g : Geometry) (t : ℕ) → slot_at g t ≡ 5 + (slot_at g t - 5)
    slot_behind g t = behind_of (nat_lt t (head_slots g))
      where
        behind_of : (b : Bool) → (if b then 45 + g.meta + 2 * t else 8 + 2 * ((t - head_slots g) % span_slots g)) ≡ 5 + ((if b then 45 + g.meta + 2 * t else 8 + 2 * ((t - head_slots g) % span_slots g)) - 5)
        behind_of true = omega arith
        behind_of false = omega arith

-- ---- where it is put

-- where a page of a kind is had, one is found
pub one_found : (g : Geometry) (kind : Kind) (a : List ℕ) → HasPage g kind a → FreePage g a kind 2 None None → ⊥
one_found g Index a can none = let bad : false ≡ true = page_had g a None none ∙ can.had in absurd (cc)
one_found g Data a can none = let bad : false ≡ true = data_page_had g a None none ∙ can.had in absurd (cc)

-- and it is put there
module _ (g : Geometry) (kind : Kind) (a : List ℕ) (to : ℕ) (Is : Geometry → List ℕ → Type 0) where
  pub add_begins : IsImage g a × IsFreeFor g a kind 2 None to → Begins g a (putting_one to Is) (adding_at to kind Is)
  add_begins (image, found) = record {
    needs = free_of g a kind 2 to None image found;
    cut = λ c leaves. record { p = to; page = leaves.0; found = found; is = leaves.1; leaves = leaves.2 };
  }

  pub add_ends : (b : List ℕ) → IsImage g a × IsFreeFor g a kind 2 None to → (page : List ℕ) × Is g page × PutDone g to page a b → AddedPage g kind (Is g) a b to
  add_ends b (image, found) (page, of, put) = record { page = page; found = found; is = of; put = put }

  pub add_at : IsImage g a → IsFreeFor g a kind 2 None to → Finishes g a a (adding_at to kind Is) (adding kind Is)
  add_at image found = record { needs = (image, found); cut = λ c adds. inr adds; done = λ c p added. added }
