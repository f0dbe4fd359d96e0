-- Live pages that a walk over entries finds, and those that it passes over.
use Rattle.std.proofs.Common.{◌≡◌, ◌≢◌, ℕ, ◌%◌, ◌==◌, ◌<◌, List, true, false, not, nat_lt, nat_le, Option, Some, None, ap, refl, sym, ◌∙◌, arith}
use Rattle.std.specs.Prelude.{is_some}
use Rattle.std.proofs.lemmas.Bool.{and_parts, leb-true, le-ltb}
use Rattle.std.proofs.lemmas.Bool.Decides.{nat_tests}
use Rattle.geometry.specs.declared.geometry.Geometry.{Geometry}
use Rattle.page_layout.specs.declared.header.PageHeader.{PageHeader}
use Rattle.page_layout.specs.Layout as layout
use Rattle.page_layout.specs.Layout.{is_between}
use Rattle.image_model.specs.Headers.{names_index, obj_id}
use Rattle.image_model.specs.Places.{entry_of}
use Rattle.image_model.specs.Live.{live_at}
use Rattle.flash_view.specs.Found.{headed}
use Rattle.flash_view.specs.Walk.{IsPassed, IsNextLive}
use Rattle.flash_view.proofs.Entries.{live_page, some_id}
use Rattle.flash_view.proofs.Heads.{and_false}
use Rattle.flash_view.proofs.Names.{headed_by}
use Rattle.flash_view.proofs.Passed.{found_some, passed_page, differ}
use Rattle.vol_check.specs.Culls.{is_doubled}
use Rattle.vol_check.specs.Noted.{IsIndexPage}
use Rattle.vol_check.proofs.Resting.{headed_page}

module _ (g : Geometry) (image : List ℕ) where
  pub found_live : (from p : ℕ) (head : PageHeader) → IsNextLive g image from 1 0xFFFE p head → is_some (live_at g image p) ≡ true
  unfolding live_at
  found_live from p head found = rw found.live refl

  -- an index page that was found
  pub found_index : (from p : ℕ) (head : PageHeader) → IsNextLive g image from 0x8000 0xFFFE p head → IsIndexPage g image p head
  found_index from p head found =
      let is = found_some g image from 0x8000 0xFFFE p head found in
      let w = headed_page (live_at g image p) head is in
      let live = live_page g image p w.0 w.1 in
      let large = and_parts (nat_le 0x8000 (entry_of g image p)) (nat_le (entry_of g image p) 0xFFFE) found.between in
      let id : head.id ≡ entry_of g image p = ap (λ (h : PageHeader). h.id) w.2 ∙ sym live.number in
      let none : nat_lt head.id 0x8000 ≡ false = le-ltb head.id 0x8000 (omega (arith, id, leb-true 0x8000 (entry_of g image p) large.0)) in
      record { is = is; index = rw none refl }

  -- it is a header page where its span is 0
  pub first_heads : (p : ℕ) (head : PageHeader) → IsIndexPage g image p head → head.span ≡ 0 → headed (live_at g image p) ≡ Some (head.id % 0x8000)
  first_heads p head index first = headed_by (live_at g image p) head index.is ∙ rw (index.index, first) refl

  pub further_headless : (p : ℕ) (head : PageHeader) → IsIndexPage g image p head → head.span ≢ 0 → headed (live_at g image p) ≡ None
  further_headless p head index further = headed_by (live_at g image p) head index.is ∙ rw (differ head.span 0 further, and_false (layout.names_index head)) refl

  below_index : (n : ℕ) → n < 0x10000 → is_between 0x8000 0xFFFE n ≡ false → not (n == 0xFFFF) ≡ true → not (nat_lt n 0x8000) ≡ false
  below_index n small none whole = grind (arith, nat_tests)

  -- a page that was passed over isn't doubled
  pub passed_single : (p : ℕ) → IsPassed g image 0x8000 0xFFFE p → is_doubled g image p ≡ false
  unfolding is_doubled
  passed_single p passed = by (live_at g image p) refl
    where
      by : (o : Option (List ℕ)) → live_at g image p ≡ o → is_doubled g image p ≡ false
      by None e = rw e refl
      by (Some page) e =
          let w = passed_page g image 0x8000 0xFFFE p page passed e in
          let kind : names_index page ≡ false = below_index (obj_id page) w.word w.none (some_id page w.finished).1 in
          rw (e, kind) refl
