-- The turn of an index page: where its block holds data pages it is moved out, over plain images.
use Rattle.std.proofs.Common.{◌≡◌, ℕ, ◌+◌, ◌*◌, ◌<◌, ◌≤◌, List, [], ◌∷◌, true, false, Some, None, refl, sym, ◌∙◌, ap, arith, ⊎_elim, inl, inr}
use Rattle.std.proofs.lemmas.Bool.{cases_Bool}
use Rattle.std.proofs.lemmas.Option.{none-some, same_Some}
use Rattle.geometry.specs.declared.geometry.Geometry.{Geometry}
use Rattle.geometry.specs.Numbers.{per_block, lookups, entries}
use Rattle.flash_view.specs.Counts.{AreCounts}
use Rattle.flash_view.specs.declared.counts.BlockCounts.{BlockCounts}
use Rattle.flash_view.specs.declared.kinds.Kind.TheVariants.{Index as IndexPage}
use Rattle.flash_view.specs.Steps.{Finishes}
use Rattle.image_model.specs.Headers.{names_index}
use Rattle.image_model.specs.Live.{live_at}
use Rattle.image_model.specs.Places.{block_of, IsImage}
use Rattle.image_model.specs.Tidy.{IsTidy, IsNeat, is_free_block, free_blocks}
use Rattle.image_model.specs.Kinds.{is_index_page, is_data_page, is_data_block}
use Rattle.image_model.specs.Shared.{FitsWith}
use Rattle.image_model.specs.Within.{entry_in, block_number, page_number}
use Rattle.image_laws.specs.Sharing.{IsCopying}
use Rattle.image_laws.proofs.Copying.{copying-fits}
use Rattle.image_laws.proofs.Damaged.{any_at, any_from}
use Rattle.image_laws.proofs.Frames.{live_parts}
use Rattle.image_laws.proofs.Matching.{filter-none_in}
use Rattle.image_laws.proofs.MixedBlocks.{index_some, data_some}
use Rattle.image_laws.proofs.Sounding.{keeps-on}
use Rattle.image_laws.proofs.Unshared.{fits-less}
use Rattle.room_laws.specs.Parting.{IsPartPlace}
use Rattle.room_laws.specs.Recovery.{IsOnWay}
use Rattle.room_laws.specs.Ways.{Move, HasCome}
use Rattle.room_laws.proofs.OnTheWay.{all_nil, all_cons, all_at}
use Rattle.room_laws.proofs.PartMoves.{part_place_is_found, move_parts_one}
use Rattle.free_search.specs.Free.{IsFreeFor, HasNone}
use Rattle.free_search.proofs.FoundPage.{free_of}
use Rattle.free_search.proofs.FreePages.{no_data, data_none}
use Rattle.block_gc.specs.Moves.{IndexCut, IndexMoved, moving}
use Rattle.block_gc.specs.Partings.{PartCut, IsBesideData, Parts, PartsPage, parting_page}
use Rattle.block_gc.proofs.Replacing.{neat_keeps}

-- ---- one after the other

-- where nothing is changed
pub part_stays : (g : Geometry) (a : List ℕ) → IsNeat g a → PartCut g a a
part_stays g a n = record { keeps = neat_keeps g a n; reserve = λ two. two; fits = λ spare fits. fits-less g a (spare + 1) spare (omega arith) fits }

pub parts_itself : (g : Geometry) (a : List ℕ) → IsNeat g a → Parts g a a
parts_itself g a n = record { neat = n; keeps = neat_keeps g a n; reserve = λ two. two; fits = λ spare fits. fits; counts = λ block low. refl }

pub parts_on : (g : Geometry) (a b c : List ℕ) → Parts g a b → Parts g b c → Parts g a c
parts_on g a b c first then = record {
  neat = then.neat;
  keeps = keeps-on g a b c first.keeps then.keeps;
  reserve = λ two. then.reserve (first.reserve two);
  fits = λ spare fits. then.fits spare (first.fits spare fits);
  counts = λ block low. then.counts block low ∙ first.counts block low;
}

pub cut_after : (g : Geometry) (a b c : List ℕ) → Parts g a b → PartCut g b c → PartCut g a c
cut_after g a b c first cut = record {
  keeps = keeps-on g a b c first.keeps cut.keeps;
  reserve = λ two. cut.reserve (first.reserve two);
  fits = λ spare fits. cut.fits spare (first.fits (spare + 1) fits);
}

-- ---- a block by its counts

pub plain_by : (g : Geometry) (image : List ℕ) (block : ℕ) (c : BlockCounts) → AreCounts g image block c → c.data_live ≡ 0 → is_data_block g image block ≡ false
plain_by g image block c counts none = no_data g image block (sym counts.pages ∙ none)

pub held_by : (g : Geometry) (image : List ℕ) (block : ℕ) (c : BlockCounts) → AreCounts g image block c → (c.data_live ≡ 0 → ⊥) → is_data_block g image block ≡ true
held_by g image block c counts some = ⊎_elim
    (λ (yes : is_data_block g image block ≡ true). yes)
    (λ (no : is_data_block g image block ≡ false). absurd (some (counts.pages ∙ data_none g image block no)))
    (cases_Bool (is_data_block g image block))

-- ---- a tidy image

-- it has no index page beside data pages
pub none_beside : (g : Geometry) (a : List ℕ) (o : ℕ) → IsTidy g a → IsBesideData g a o → ⊥
unfolding is_data_block
none_beside g a o tidy beside =
    let x = index_some (live_at g a o) beside.index in
    let w = any_at (λ (p : ℕ). is_data_page (live_at g a p)) (block_of g o * per_block g + lookups g) (entries g) beside.held in
    let y = data_some (live_at g a w.0) w.3 in
    let low : block_of g o < g.blocks = block_number g o (page_number g o (live_parts g a o x.0 x.1).entry_page) in
    let at : block_of g w.0 ≡ block_of g o = (entry_in g (block_of g o) w.0 low w.1 w.2).0 in
    let bad : true ≡ false = sym x.2 ∙ tidy.unmixed o w.0 x.0 y.0 x.1 y.1 (sym at) ∙ y.2 in absurd (cc)

-- ---- an image in which an index page goes to a place

-- its data blocks are some of those that were
data_back : (g : Geometry) (a c : List ℕ) (to block : ℕ) → IsCopying g to a c → is_data_block g c block ≡ true → is_data_block g a block ≡ true
unfolding is_data_block
data_back g a c to block copying held =
    let w = any_at (λ (p : ℕ). is_data_page (live_at g c p)) (block * per_block g + lookups g) (entries g) held in
    let y = data_some (live_at g c w.0) w.3 in
    ⊎_elim
    (λ (old : live_at g a w.0 ≡ Some y.0). any_from (λ (p : ℕ). is_data_page (live_at g a p)) (block * per_block g + lookups g) (entries g) w.0 w.1 w.2 (rw (old, y.2) refl))
    (λ (copy : (w.0 ≡ to) × (names_index y.0 ≡ true)). let bad : true ≡ false = sym copy.1 ∙ y.2 in absurd (cc))
    (copying.live w.0 y.0 y.1)

module _ (g : Geometry) (a : List ℕ) (o : ℕ) (neat : IsNeat g a) (fits : FitsWith g a 0) (index : is_index_page (live_at g a o) ≡ true) where
  abbrev step : ℕ → Move
  step to = record { from = o; to = to }

  copying : (c : List ℕ) (to : ℕ) → IsOnWay g (step to ∷ []) a c → IsCopying g to a c
  copying c to way = record {
    magic = way.way.magic;
    free = λ q page out. way.way.free q page (all_cons (λ (m : Move). q ≡ m.to → ⊥) (step to) [] out (all_nil (λ (m : Move). q ≡ m.to → ⊥)));
    live = λ q x live. ⊎_elim
        (λ (was : live_at g a q ≡ Some x). inl was)
        (λ (come : HasCome g a (step to ∷ []) q x).
        let same = all_at (λ (m : Move). (m.from ≡ o) × (m.to ≡ to)) (step to ∷ []) come.move (all_cons (λ (m : Move). (m.from ≡ o) × (m.to ≡ to)) (step to) [] (refl, refl) (all_nil (λ (m : Move). (m.from ≡ o) × (m.to ≡ to)))) come.one in
        let old = index_some (live_at g a o) index in
        let is : come.old ≡ old.0 = same_Some come.old old.0 (sym come.from ∙ ap (live_at g a) same.0 ∙ old.1) in
        inr (sym come.at ∙ same.1, come.tag.kind ∙ ap names_index is ∙ old.2))
        (way.way.live q x live);
  }

  -- a page of a block without data pages is passed over
  pub page_passes : is_data_block g a (block_of g o) ≡ false → PartsPage g o a a
  page_passes plain = record {
    parts = parts_itself g a neat;
    gone = λ beside. let bad : true ≡ false = sym beside.held ∙ plain in absurd (cc);
    others = λ q beside. beside;
  }

  module _ (held : is_data_block g a (block_of g o) ≡ true) where
    -- a place is found
    pub place_found : HasNone g a IndexPage 2 None → ⊥
    unfolding free_blocks
    place_found none =
        let x = index_some (live_at g a o) index in
        let three = part_place_is_found g a o x.0 neat fits x.1 x.2 held (λ block low takes. none.full block low (λ e. none-some block (sym e)) takes) in
        ⊎_elim
        (λ (few : free_blocks g a ≤ 2). omega (arith, three, few))
        (λ (used : (block : ℕ) → block < g.blocks → (Some block ≡ None → ⊥) → is_free_block g a block ≡ false).
        let zero = filter-none_in (λ block. is_free_block g a block) 0 g.blocks (λ block from below. used block (omega (arith, below)) (λ e. none-some block (sym e))) in
        omega (arith, three, zero))
        none.kept

    module _ (is : IsImage g a) (to : ℕ) (found : IsFreeFor g a IndexPage 2 None to) where
      many : is_free_block g a (block_of g to) ≡ true → 2 < free_blocks g a
      many free = ⊎_elim
          (λ (used : is_free_block g a (block_of g to) ≡ false). let bad : true ≡ false = sym free ∙ used in absurd (cc))
          (λ (three : 2 < free_blocks g a). three)
          found.keeps

      place : IsPartPlace g a to
      place = record {
        entry = found.page;
        free = found.free;
        opened = found.opened;
        last = λ whole block low takes. found.last whole block low (λ e. none-some block (sym e)) takes;
        keeps = many;
      }

      move_cut : (c : List ℕ) → IndexCut g o to a c → PartCut g a c
      move_cut c cut =
          let law = copying-fits g a c to neat found.page found.free found.kind_is many (copying c to cut.way) in
          record { keeps = cut.keeps; reserve = law.1; fits = law.0 }

      -- of the pages beside data pages the image has but some
      stays_beside : (c : List ℕ) → IsCopying g to a c → (q : ℕ) → IsBesideData g c q → IsBesideData g a q
      stays_beside c copying q beside =
          let x = index_some (live_at g c q) beside.index in
          let held : is_data_block g a (block_of g q) ≡ true = data_back g a c to (block_of g q) copying beside.held in
          ⊎_elim
          (λ (old : live_at g a q ≡ Some x.0). record { index = rw old x.2; held = held })
          (λ (copy : (q ≡ to) × (names_index x.0 ≡ true)).
          let bad : true ≡ false = sym held ∙ ap (λ (p : ℕ). is_data_block g a (block_of g p)) copy.0 ∙ found.kind_is in absurd (cc))
          (copying.live q x.0 x.1)

      move_done : (c : List ℕ) → IndexMoved g o to a c → PartsPage g o a c
      move_done c done =
          let x = index_some (live_at g a o) index in
          let r = done.replaced in
          let one = move_parts_one g a r.middle c o to x.0 done.copy neat done.neat place x.1 x.2 held done.copy_index r.put r.kill in
          record {
            parts = record { neat = done.neat; keeps = done.cut.keeps; reserve = one.reserve; fits = one.fits; counts = done.counts };
            gone = λ beside. let bad : false ≡ true = rw done.gone at beside.index in absurd (cc);
            others = stays_beside c (copying c to done.cut.way);
          }

      -- and it is moved there
      pub page_moves : Finishes g a a (moving o to) (parting_page o)
      page_moves = record {
        needs = record { neat = neat; index = index; free = free_of g a IndexPage 2 to None is found; entry = found.free; kind = found.kind_is };
        cut = λ c cut. move_cut c cut;
        done = λ c ok done. move_done c done;
      }
