-- The counts of live pages, page after page.
use Rattle.std.proofs.Common.{◌≡◌, ℕ, ◌+◌, ◌-◌, ◌<◌, ◌≤◌, List, Bool, true, false, ◌==◌, length, refl, arith, zero-add}
use Rattle.std.specs.Prelude.{filter, Option, Some, None}
use Rattle.std.specs.Option.{option_map}
use Rattle.std.specs.List.{range_with_len}
use Rattle.geometry.specs.declared.geometry.Geometry.{Geometry}
use Rattle.page_layout.specs.declared.header.PageHeader.{PageHeader}
use Rattle.page_layout.specs.Layout.{header_at, names_index as names_index_of}
use Rattle.geometry.specs.Numbers.{page_count}
use Rattle.image_model.specs.Headers.{names_index, span_of}
use Rattle.image_model.specs.Live.{live_at}
use Rattle.image_model.specs.Files.{is_index}
use Rattle.image_model.specs.Kinds.{is_index_page, is_data_page, live_index, live_data}
use Rattle.header_laws.specs.Sums.{live_heads}
use Rattle.free_search.proofs.Scans.{count_start, count_yes, count_no, count_end}
use Rattle.file_calls.specs.declared.room.PageCounts.{PageCounts}
use Rattle.file_calls.specs.Pages.{with_page, AreLive}

-- those so far and those to come, of each sort
pub record Counting (g : Geometry) (image : List ℕ) (end p : ℕ) (c : PageCounts) : Type 0 where
  pub heads : c.heads + length (filter (λ q. is_index (live_at g image q) 0) (range_with_len (0 + p) (end - p))) ≡ live_heads g image
  pub index : c.index_pages + length (filter (λ q. is_index_page (live_at g image q)) (range_with_len (0 + p) (end - p))) ≡ live_index g image
  pub pages : c.data_pages + length (filter (λ q. is_data_page (live_at g image q)) (range_with_len (0 + p) (end - p))) ≡ live_data g image

pub counting_start : (g : Geometry) (image : List ℕ) (end : ℕ) (c : PageCounts) → end ≡ page_count g → c.heads ≡ 0 → c.index_pages ≡ 0 → c.data_pages ≡ 0 → Counting g image end 0 c
unfolding live_heads live_index live_data
counting_start g image end c at a b d = record {
  heads = rw (at, a) (count_start (λ q. is_index (live_at g image q) 0) 0 (page_count g));
  index = rw (at, b) (count_start (λ q. is_index_page (live_at g image q)) 0 (page_count g));
  pages = rw (at, d) (count_start (λ q. is_data_page (live_at g image q)) 0 (page_count g));
}

module _ (g : Geometry) (image : List ℕ) (end p : ℕ) (c : PageCounts) (less : p < end) (was : Counting g image end p c) where
  live_more : (page : List ℕ) → live_at g image p ≡ Some page → (index first : Bool) → names_index page ≡ index → (span_of page == 0) ≡ first → Counting g image end (p + 1) (with_page c (Some (header_at page)))
  live_more page live true true i s =
      let head : is_index (live_at g image p) 0 ≡ true = rw (live, i, s) refl in
      let index : is_index_page (live_at g image p) ≡ true = rw (live, i) refl in
      let other : is_data_page (live_at g image p) ≡ false = rw (live, i) refl in
      rw (i, s) (record {
        heads = count_yes _ 0 end p _ _ p less was.heads (zero-add p) head;
        index = count_yes _ 0 end p _ _ p less was.index (zero-add p) index;
        pages = count_no _ 0 end p _ _ p less was.pages (zero-add p) other;
      })
  live_more page live true false i s =
      let head : is_index (live_at g image p) 0 ≡ false = rw (live, i, s) refl in
      let index : is_index_page (live_at g image p) ≡ true = rw (live, i) refl in
      let other : is_data_page (live_at g image p) ≡ false = rw (live, i) refl in
      rw (i, s) (record {
        heads = count_no _ 0 end p _ _ p less was.heads (zero-add p) head;
        index = count_yes _ 0 end p _ _ p less was.index (zero-add p) index;
        pages = count_no _ 0 end p _ _ p less was.pages (zero-add p) other;
      })
  live_more page live false first i s =
      let head : is_index (live_at g image p) 0 ≡ false = rw (live, i) refl in
      let index : is_index_page (live_at g image p) ≡ false = rw (live, i) refl in
      let other : is_data_page (live_at g image p) ≡ true = rw (live, i) refl in
      rw i (record {
        heads = count_no _ 0 end p _ _ p less was.heads (zero-add p) head;
        index = count_no _ 0 end p _ _ p less was.index (zero-add p) index;
        pages = count_yes _ 0 end p _ _ p less was.pages (zero-add p) other;
      })

  page_more : (o : Option (List ℕ)) → live_at g image p ≡ o → Counting g image end (p + 1) (with_page c (option_map header_at o))
  page_more None dead =
      let head : is_index (live_at g image p) 0 ≡ false = rw dead refl in
      let index : is_index_page (live_at g image p) ≡ false = rw dead refl in
      let other : is_data_page (live_at g image p) ≡ false = rw dead refl in
      record {
        heads = count_no _ 0 end p _ _ p less was.heads (zero-add p) head;
        index = count_no _ 0 end p _ _ p less was.index (zero-add p) index;
        pages = count_no _ 0 end p _ _ p less was.pages (zero-add p) other;
      }
  page_more (Some page) live = live_more page live (names_index page) (span_of page == 0) refl refl

  pub counting_more : Counting g image end (p + 1) (with_page c (option_map header_at (live_at g image p)))
  counting_more = page_more (live_at g image p) refl

pub counting_end : (g : Geometry) (image : List ℕ) (end p : ℕ) (c : PageCounts) → end ≤ p → Counting g image end p c → AreLive g image c
counting_end g image end p c most was = record {
  heads = count_end _ 0 end p _ _ most was.heads;
  index = count_end _ 0 end p _ _ most was.index;
  pages = count_end _ 0 end p _ _ most was.pages;
}

-- no count grows by more than one
few_head : (c : PageCounts) (head : PageHeader) (index first : Bool) → names_index_of head ≡ index → (head.span == 0) ≡ first →
    ((with_page c (Some head)).heads ≤ c.heads + 1) × ((with_page c (Some head)).index_pages ≤ c.index_pages + 1) × ((with_page c (Some head)).data_pages ≤ c.data_pages + 1)
few_head c head true true i s = rw (i, s) (omega arith, omega arith, omega arith)
few_head c head true false i s = rw (i, s) (omega arith, omega arith, omega arith)
few_head c head false first i s = rw i (omega arith, omega arith, omega arith)

pub few_more : (c : PageCounts) (o : Option PageHeader) → ((with_page c o).heads ≤ c.heads + 1) × ((with_page c o).index_pages ≤ c.index_pages + 1) × ((with_page c o).data_pages ≤ c.data_pages + 1)
few_more c None = (omega arith, omega arith, omega arith)
few_more c (Some head) = few_head c head (names_index_of head) (head.span == 0) refl refl
