-- The bests of all blocks, block after block, and the block that is chosen of them.
use Rattle.std.proofs.Common.{◌≡◌, ℕ, ◌+◌, ◌-◌, ◌<◌, ◌≤◌, List, Bool, true, false, not, nat_lt, ◌&&◌, ◌||◌, refl, sym, ◌∙◌, arith, if◌then◌else◌}
use Rattle.std.specs.Prelude.{None, is_some, filter}
use Rattle.std.specs.Option.{option_map}
use Rattle.std.specs.List.{range_with_len, list_any}
use Rattle.std.proofs.Math.Nat.{sub-zero}
use Rattle.geometry.specs.declared.geometry.Geometry.{Geometry}
use Rattle.image_model.specs.Tidy.{free_blocks, HasReserve}
use Rattle.image_model.specs.Kinds.{is_data_block}
use Rattle.image_model.specs.Collect.{is_worth, is_fitting, score, candidates, first_candidates, best_of, chosen_block, are_had, is_stuck}
use Rattle.block_gc.specs.declared.totals.Room.{Room}
use Rattle.block_gc.specs.declared.choice.Bests.{Bests}
use Rattle.block_gc.specs.Totals.{had_by, AreTotals}
use Rattle.block_gc.specs.declared.next.Survey.{Survey}
use Rattle.block_gc.specs.Surveys.{IsSurvey}
use Rattle.block_gc.specs.RoomMade.{IsReady, IfReady}
use Rattle.block_gc.specs.Best.{pick_of, stuck_by, is_candidate, is_plain, bests_with, IsFirst, AreBests}
use Rattle.block_gc.proofs.Firsts.{first_start, first_more, first_found, first_some, filter_both, any_both, any_more, any_end}

-- the bests are those of the blocks below p
pub record Besting (g : Geometry) (image : List ℕ) (p e : ℕ) (bests : Bests) : Type 0 where
  pub worth : (bests.worth || list_any (λ block. is_worth g image block) (range_with_len p (e - p))) ≡ list_any (λ block. is_worth g image block) (range_with_len 0 g.blocks)
  pub any : IsFirst (is_candidate g image) (score g image) p bests.any
  pub plain : IsFirst (is_plain g image) (score g image) p bests.plain

pub besting_start : (g : Geometry) (image : List ℕ) (e : ℕ) → e ≡ g.blocks → Besting g image 0 e (record { worth = false; any = None; plain = None })
besting_start g image e at = record {
  worth = rw (at, sub-zero g.blocks) refl;
  any = first_start (is_candidate g image) (score g image);
  plain = first_start (is_plain g image) (score g image);
}

pub besting_more : (g : Geometry) (image : List ℕ) (p e : ℕ) (bests : Bests) → p < e → Besting g image p e bests → Besting g image (p + 1) e (bests_with g image bests p)
besting_more g image p e bests h was = record {
  worth = any_more (λ block. is_worth g image block) p e bests.worth _ h was.worth;
  any = first_more (is_candidate g image) (score g image) p bests.any was.any;
  plain = first_more (is_plain g image) (score g image) p bests.plain was.plain;
}

pub besting_end : (g : Geometry) (image : List ℕ) (p e : ℕ) (bests : Bests) → p ≡ g.blocks → e ≤ p → Besting g image p e bests → AreBests g image bests
besting_end g image p e bests at h was = record {
  worth = any_end (λ block. is_worth g image block) p e bests.worth _ h was.worth;
  any = rw at at was.any;
  plain = rw at at was.plain;
}

-- the plain candidates are those of the candidates that hold no live data page
plain_found : (g : Geometry) (image : List ℕ) (bests : Bests) → AreBests g image bests → best_of g image (filter (λ block. not (is_data_block g image block)) (candidates g image)) ≡ option_map (λ s. s.block) bests.plain
unfolding candidates
plain_found g image bests are =
    rw (filter_both (λ block. is_worth g image block && is_fitting g image block) (λ block. not (is_data_block g image block)) (range_with_len 0 g.blocks))
    (first_found (is_plain g image) (score g image) g.blocks bests.plain are.plain)

plain_some : (g : Geometry) (image : List ℕ) (bests : Bests) → AreBests g image bests → list_any (λ block. not (is_data_block g image block)) (candidates g image) ≡ is_some bests.plain
unfolding candidates
plain_some g image bests are =
    any_both (λ block. is_worth g image block && is_fitting g image block) (λ block. not (is_data_block g image block)) (range_with_len 0 g.blocks) ∙ first_some (is_plain g image) (score g image) g.blocks bests.plain are.plain

any_found : (g : Geometry) (image : List ℕ) (bests : Bests) → AreBests g image bests → best_of g image (candidates g image) ≡ option_map (λ s. s.block) bests.any
unfolding candidates
any_found g image bests are = first_found (is_candidate g image) (score g image) g.blocks bests.any are.any

pub picked : (g : Geometry) (image : List ℕ) (found : Survey) → IsSurvey g image found → option_map (λ s. s.block) (pick_of found.free found.bests) ≡ chosen_block g image
unfolding chosen_block first_candidates
picked g image found is = rw (plain_some g image found.bests is.bests, is.free) (either (nat_lt (free_blocks g image) 2 && is_some found.bests.plain))
  where
    either : (b : Bool) → option_map (λ s. s.block) (if b then found.bests.plain else found.bests.any) ≡ best_of g image (if b then filter (λ block. not (is_data_block g image block)) (candidates g image) else candidates g image)
    either true = sym (plain_found g image found.bests is.bests)
    either false = sym (any_found g image found.bests is.bests)

pub stuck_is : (g : Geometry) (image : List ℕ) (found : Survey) → IsSurvey g image found → stuck_by found.free found.bests ≡ is_stuck g image
unfolding is_stuck
stuck_is g image found is = rw (is.free, is.bests.worth, ← first_some (is_candidate g image) (score g image) g.blocks found.bests.any is.bests.any) refl

pub had_is : (g : Geometry) (image : List ℕ) (all : Room) (index pages : ℕ) → AreTotals g image all → had_by g all index pages ≡ are_had g image index pages
unfolding are_had
had_is g image all index pages totals = rw (totals.index, totals.pages, totals.blocks) refl

-- whether pages are had and two blocks are free, by the room of all blocks
ready_if : (g : Geometry) (image : List ℕ) (index pages : ℕ) (b : Bool) → b ≡ are_had g image index pages → HasReserve g image → IfReady g image index pages b
ready_if g image index pages true had reserve = record { had = sym had; reserve = reserve }
ready_if g image index pages false had reserve = λ ready. let is = ready.had in absurd (cc)

pub ready_by : (g : Geometry) (image : List ℕ) (all : Room) (index pages : ℕ) → AreTotals g image all → 2 ≤ all.blocks → IfReady g image index pages (had_by g all index pages)
ready_by g image all index pages totals two = ready_if g image index pages (had_by g all index pages) (had_is g image all index pages totals) (omega (arith, totals.blocks, two))

pub unready : (g : Geometry) (image : List ℕ) (all : Room) (index pages : ℕ) → AreTotals g image all → all.blocks < 2 → IsReady g image index pages → ⊥
unready g image all index pages totals few ready = omega (arith, totals.blocks, few, ready.reserve)
