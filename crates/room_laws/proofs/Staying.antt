-- What the stages of a check leave.
use Rattle.std.proofs.Common.{◌≡◌, ℕ, ◌+◌, ◌*◌, ◌<◌, ◌≤◌, List, true, false, None, refl, sym, ◌∙◌, subst, arith, ⊎_elim, inl, inr}
use Rattle.std.proofs.lemmas.Bool.{and_parts, and_from}
use Rattle.geometry.specs.declared.geometry.Geometry.{Geometry}
use Rattle.geometry.specs.Numbers.{per_block, lookups, entries}
use Rattle.image_model.specs.Places.{has_magic, block_of}
use Rattle.image_model.specs.Live.{live_at}
use Rattle.image_model.specs.Tidy.{is_free_entry, is_free_block, free_blocks}
use Rattle.image_model.specs.Within.{entry_in}
use Rattle.image_laws.proofs.TidySteps.{neat_of}
use Rattle.image_laws.proofs.Unshared.{counted-le}
use Rattle.room_laws.specs.Staged.{IsStaged, IsStripped, StrippedIsStaged, TidyIsStaged, NeatIsStripped, KillsAreStaged, KillsAreStripped}
use Rattle.room_laws.specs.Recovery.{ReserveMends}
use Rattle.room_laws.proofs.Ranges.{list_all_same}
use Rattle.room_laws.proofs.Stops.{reserve_can_clean}
use Rattle.room_laws.proofs.ImageMends.{clean_mends}

pub stripped_is_staged : (g : Geometry) → StrippedIsStaged g
stripped_is_staged g was now s t = record { tidy = t; table = s.table; live = s.live; free = s.free; fresh = s.fresh }

-- what is staged is stripped
pub staged_is_stripped : (g : Geometry) (was now : List ℕ) → IsStaged g was now → IsStripped g was now
staged_is_stripped g was now s = record { neat = neat_of s.tidy; table = s.table; live = s.live; free = s.free; fresh = s.fresh }

pub neat_is_stripped : (g : Geometry) → NeatIsStripped g
neat_is_stripped g image n = record {
  neat = n;
  table = refl;
  live = λ p. inl refl;
  free = λ p page magic. refl;
  fresh = λ block low none. let yes = n.magic block low in let bad : true ≡ false = sym yes ∙ none in absurd (cc);
}

pub tidy_is_staged : (g : Geometry) → TidyIsStaged g
tidy_is_staged g image t = stripped_is_staged g image image (neat_is_stripped g image (neat_of t)) t

pub kills_are_stripped : (g : Geometry) → KillsAreStripped g
kills_are_stripped g image was now k s table = record {
  neat = s.neat;
  table = table;
  live = λ p. ⊎_elim
      (λ (same : live_at g now p ≡ live_at g was p). ⊎_elim
      (λ (old : live_at g was p ≡ live_at g image p). inl (same ∙ old))
      (λ (gone : live_at g was p ≡ None). inr (same ∙ gone))
      (k.live p))
      (λ (gone : live_at g now p ≡ None). inr gone)
      (s.live p);
  free = λ p page magic. s.free p page (k.magic (block_of g p) ∙ magic) ∙ k.free p page;
  fresh = λ block low none. s.fresh block low (k.magic block ∙ none);
}

pub kills_are_staged : (g : Geometry) → KillsAreStaged g
kills_are_staged g image was now k s table = stripped_is_staged g image now (kills_are_stripped g image was now k (staged_is_stripped g was now s) table) s.tidy

-- a block that was free is so still
pub stripped_free_stays : (g : Geometry) (image now : List ℕ) → IsStripped g image now → (block : ℕ) → block < g.blocks → is_free_block g image block ≡ true → is_free_block g now block ≡ true
unfolding is_free_block
stripped_free_stays g image now s block low free =
    let w = and_parts _ _ free in
    let same = list_all_same (λ p. is_free_entry g image p) (λ p. is_free_entry g now p) (block * per_block g + lookups g) (entries g) (λ q from to.
    let e = entry_in g block q low from to in s.free q e.1 (subst (λ (b : ℕ). has_magic g image b ≡ true) (sym e.0) w.0)) in
    and_from _ _ (s.neat.magic block low) (same ∙ w.1)

pub free_stays : (g : Geometry) (image now : List ℕ) → IsStaged g image now → (block : ℕ) → block < g.blocks → is_free_block g image block ≡ true → is_free_block g now block ≡ true
free_stays g image now s block low free = stripped_free_stays g image now (staged_is_stripped g image now s) block low free

free_rises : (g : Geometry) (image now : List ℕ) → IsStaged g image now → free_blocks g image ≤ free_blocks g now
unfolding free_blocks
free_rises g image now s = counted-le (λ b. is_free_block g image b) (λ b. is_free_block g now b) 0 g.blocks (λ b low high free. free_stays g image now s b (omega arith) free)

pub reserve_mends : (g : Geometry) → ReserveMends g
reserve_mends g image reserve = record {
  mends = λ now is s. let more = free_rises g image now s in clean_mends g now (reserve_can_clean g now is s.tidy (omega (arith, reserve, more)));
}
