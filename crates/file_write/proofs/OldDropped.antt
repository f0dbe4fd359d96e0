-- The old data page is killed, and a data page is replaced by these steps.
use Rattle.std.proofs.Common.{◌≡◌, ℕ, ◌<◌, ◌≤◌, List, Option, Some, None, true, false, ◌==◌, ap, refl, sym, ◌∙◌, arith, inr}
use Rattle.std.specs.Prelude.{is_some, not, ◌&&◌, option_and_then}
use Rattle.std.specs.Option.{option_map}
use Rattle.std.proofs.lemmas.Bool.{eq-eqb}
use Rattle.std.proofs.lemmas.Option.{none-some}
use Rattle.geometry.specs.declared.geometry.Geometry.{Geometry}
use Rattle.geometry.specs.Numbers.{page_count, per_block}
use Rattle.table_model.specs.Table.{File}
use Rattle.flash_view.specs.DataPages.{data_number_of}
use Rattle.flash_view.specs.Steps.{Finishes}
use Rattle.image_model.specs.Live.{live_at, own}
use Rattle.image_model.specs.Files.{index_page, entry_number, index_span}
use Rattle.image_model.specs.Places.{is_entry_page}
use Rattle.image_model.specs.Sound.{Keeps}
use Rattle.image_model.specs.Tidy.{free_blocks}
use Rattle.image_model.specs.Within.{page_number}
use Rattle.image_laws.specs.LiveSteps.{KillLeaves, KillDone}
use Rattle.image_laws.specs.Reindex.{slot_word}
use Rattle.image_laws.proofs.Finish.{own-parts}
use Rattle.image_laws.proofs.Frames.{live_parts}
use Rattle.image_laws.proofs.Judge.{index_passes}
use Rattle.image_laws.proofs.Reindexed.{entry-slot}
use Rattle.image_laws.proofs.Sounding.{sound-on}
use Rattle.renew_laws.specs.Idles.{Idles}
use Rattle.renew_laws.proofs.IdleKill.{idle-kills}
use Rattle.renew_laws.proofs.Spans.{span_page}
use Rattle.renew_laws.proofs.TailSteps.{tail-dropped}
use Rattle.trim_laws.proofs.Wears.{wear_then, programs_keep}
use Rattle.page_put.specs.LivePages.{killing}
use Rattle.page_renew.proofs.Homes.{index_some}
use Rattle.file_write.specs.declared.relinking.Patch.{Patch}
use Rattle.file_write.specs.declared.relinking.Spot.{Spot}
use Rattle.file_write.specs.Patches.{IsSpot}
use Rattle.file_write.specs.Relinkings.{CanPatch, HasOld, dropping, replacing_at, replacing}
use Rattle.file_write.proofs.LastPage.{IsNamed, named_by, number_there, number_of}

module _ (g : Geometry) (was image : List ℕ) (patch : Patch) (spot : Spot) (bytes : List ℕ) (f : File) (has : HasOld g was patch spot bytes f image) where
  law : ((c : List ℕ) → KillLeaves g spot.page image c → Keeps g image c × (free_blocks g image ≤ free_blocks g c))
      × ((d : List ℕ) → KillDone g spot.page image d → Keeps g image d × (free_blocks g image ≤ free_blocks g d) × Idles g (λ q. (q == spot.page) && not (q == spot.page)) d)
  law = idle-kills g image spot.page has.old (λ r. r == spot.page) has.idles (eq-eqb spot.page spot.page refl) has.live

  pub old_kills : Finishes g image image (killing spot.page) (dropping was patch spot bytes f)
  old_kills = record {
    needs = record { live = ap is_some has.live; byte = has.flags };
    cut = λ c kill.
        let left = law.0 c kill in
        record {
          sound = sound-on g was image c has.sound left.0.sound;
          table = inr (left.0.table ∙ has.table);
          reserve = λ two. let kept = has.reserve two in let more = left.1 in omega (arith, kept, more);
          wear = wear_then g was image c has.wear (programs_keep g image c spot.page kill.agree);
        };
    done = λ d ok kill.
        let left = law.1 d kill in
        let ends = has.ends d kill in
        record {
          can = has.can;
          step = record { tidy = ends.0; table = ends.1; reserve = λ two. let kept = has.reserve two in let more = left.1 in omega (arith, kept, more) };
          ready = λ ends. tail-dropped g image d spot.page has.old has.live has.kind kill patch.id (has.ready ends);
          kept = λ ready. tail-dropped g image d spot.page has.old has.live has.kind kill patch.id (has.kept ready);
        };
  }

-- ---- the page and its index page are found

module _ (g : Geometry) (a : List ℕ) (patch : Patch) (bytes : List ℕ) (f : File) (can : CanPatch g a patch bytes f) where
  x_there : (q : ℕ) × (data_number_of g a patch.id patch.span ≡ Some q)
  x_there =
      let x = span_page g (own (live_at g a) patch.id) patch.id can.head f can.prime.file patch.span can.below in
      let n = number_there g (own (live_at g a) patch.id) can.head patch.span x.0 x.1 in
      (n.0, number_of g a a patch.id can.h can.head f (λ r. false) patch.span can.prime ∙ n.1)

  named : IsNamed g (own (live_at g a) patch.id) can.head patch.span x_there.0
  named = named_by g (own (live_at g a) patch.id) can.head patch.span x_there.0 (sym (number_of g a a patch.id can.h can.head f (λ r. false) patch.span can.prime) ∙ x_there.1)

  -- one that is in the page table, with its index page
  pub no_spot : IsSpot g a patch.id patch.span None → ⊥
  unfolding page_count per_block
  no_spot none =
      let q_live = (own-parts (live_at g a) patch.id x_there.0 named.z named.is).0 in
      let q_in = (live_parts g a x_there.0 named.z q_live).entry_page in
      by (index_page g (own (live_at g a) patch.id) (index_span g patch.span)) refl (page_number g x_there.0 q_in) q_in
    where
      by : (o : Option ℕ) → index_page g (own (live_at g a) patch.id) (index_span g patch.span) ≡ o → x_there.0 < page_count g → is_entry_page g x_there.0 ≡ true → ⊥
      by None e low inside =
          let slot = entry-slot g (own (live_at g a) patch.id) can.h can.head patch.span can.prime.at can.prime.header in
          let gone : entry_number g (own (live_at g a) patch.id) can.head patch.span ≡ None = slot ∙ ap (λ (o : Option ℕ). option_map (λ (l : List ℕ). slot_word g l patch.span) (option_and_then (own (live_at g a) patch.id) o)) e in
          none-some x_there.0 (sym gone ∙ named.entry)
      by (Some w) e low inside =
          let x = index_some (own (live_at g a) patch.id w) (index_span g patch.span) (index_passes g (own (live_at g a) patch.id) (index_span g patch.span) w e) in
          let w_live = (own-parts (live_at g a) patch.id w x.0 x.1).0 in
          none x_there.0 w x_there.1 e low inside (live_parts g a w x.0 w_live).entry_page

  pub spot_at : (spot : Spot) → IsSpot g a patch.id patch.span (Some spot) → Finishes g a a (replacing_at patch spot bytes f) (replacing patch bytes f)
  spot_at spot found = record { needs = record { can = can; number = found.0; index = found.1 }; cut = λ c cut. cut; done = λ c ok done. done }
