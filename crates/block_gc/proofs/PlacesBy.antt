-- A free page that is found outside a block is a place by the rule, and one is found where the pages of its kind find places.
use Rattle.std.proofs.Common.{◌≡◌, ◌≢◌, ℕ, ◌<◌, ◌≤◌, List, true, false, Some, ap, refl, sym, ◌∙◌, arith, ⊎_elim}
use Rattle.std.specs.Prelude.{All}
use Rattle.std.proofs.lemmas.Option.{same_Some}
use Rattle.geometry.specs.declared.geometry.Geometry.{Geometry}
use Rattle.flash_view.specs.declared.kinds.Kind.{Kind as PageKind}
use Rattle.flash_view.specs.declared.kinds.Kind.TheVariants.{Index as IndexPage, Data as DataPage}
use Rattle.geometry.specs.Numbers.{entries}
use Rattle.image_model.specs.Places.{block_of}
use Rattle.image_model.specs.Tidy.{is_free_block, free_blocks, TellsFree}
use Rattle.image_model.specs.Collect.{free_in}
use Rattle.free_search.specs.Free.{IsFreeFor, HasNone, takes_kind}
use Rattle.room_laws.specs.Counts.{Kind, for_index, for_data, IsBlock}
use Rattle.room_laws.specs.Places.{HadWith}
use Rattle.room_laws.specs.Sorts.{sort_at, others_by, IsPlaceBy}
use Rattle.room_laws.specs.Taking.{takes_as, of_kind, IsFullBeside}
use Rattle.room_laws.proofs.Taken.{places_are_by, places_are_found}

-- what a page's kind is by the counts of blocks
abbrev pub kind_by : PageKind → Kind
kind_by IndexPage = for_index
kind_by DataPage = for_data

module _ (g : Geometry) (image : List ℕ) (block : ℕ) (t : TellsFree g image) (low : block < g.blocks) (blocks : All (IsBlock (entries g)) (others_by g (sort_at g image) block)) where
  takes_both : (kind : PageKind) (other : ℕ) → takes_kind g image kind other ≡ takes_as g image (kind_by kind) other
  takes_both IndexPage other = refl
  takes_both DataPage other = refl

  full_by : (kind : PageKind) → ((other : ℕ) → other < g.blocks → Some other ≢ Some block → takes_kind g image kind other ≡ true → free_in g image other ≡ 0) → IsFullBeside g image block (kind_by kind)
  full_by kind full other there apart takes = full other there (λ e. apart (same_Some other block e)) (takes_both kind other ∙ takes)

  -- a free page that was found is a place by the rule
  pub found_place : (kind : PageKind) (to : ℕ) → IsFreeFor g image kind 0 (Some block) to → IsPlaceBy g (sort_at g image) block (kind_by kind) to
  found_place kind to found = places_are_by g image block (kind_by kind) to t low blocks found.page (λ e. found.apart (ap Some e)) found.free
      (λ used. sym (takes_both kind (block_of g to)) ∙ found.opened used)
      (λ free. full_by kind (found.last free))

  -- one is found where the pages of its kind find places
  pub place_is_found : (kind : PageKind) (index pages : ℕ) → HadWith (entries g) (others_by g (sort_at g image) block) 0 index pages → 0 < of_kind (kind_by kind) index pages →
      HasNone g image kind 0 (Some block) → ⊥
  place_is_found kind index pages had some none =
      let free = places_are_found g image block (kind_by kind) index pages t low blocks had some (full_by kind none.full) in
      let s = free.some in
      let f = free.free in
      ⊎_elim
      (λ (few : free_blocks g image ≤ 0). omega (arith, few, s))
      (λ (never : (other : ℕ) → other < g.blocks → Some other ≢ Some block → is_free_block g image other ≡ false).
      let bad : false ≡ true = sym (never free.other free.within (λ e. free.apart (same_Some free.other block e))) ∙ f in cc)
      none.kept
