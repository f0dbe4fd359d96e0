-- Moving an index page: its copy is put, and it is killed.
use Rattle.std.proofs.Common.{◌≡◌, ◌≢◌, ℕ, ◌%◌, ◌<◌, ◌≤◌, List, slice_index, true, false, ap, sym, ◌∙◌, arith, inl, inr}
use Rattle.std.specs.Prelude.{is_some}
use Rattle.std.proofs.lemmas.List.{get_or-take}
use Rattle.geometry.specs.declared.geometry.Geometry.{Geometry}
use Rattle.table_model.specs.declared.error.Tag.{Tag}
use Rattle.flash_view.specs.declared.kinds.Kind.TheVariants.{Index}
use Rattle.image_model.specs.Within.{sizes}
use Rattle.image_model.specs.Headers.{obj_id}
use Rattle.image_model.specs.Places.{IsImage}
use Rattle.image_laws.specs.LiveSteps.{PutDone}
use Rattle.image_laws.proofs.Finish.{is_finished-zero}
use Rattle.image_laws.proofs.Tally.{is_finished-ones}
use Rattle.image_laws.proofs.Frames.{live_parts}
use Rattle.flash_view.specs.Steps.{Begins, Finishes}
use Rattle.page_put.specs.LivePages.{finished_page, killing, putting}
use Rattle.page_renew.specs.Built.{IsBuilt}
use Rattle.page_renew.proofs.IndexCopies.{high_id}
use Rattle.block_gc.specs.Moves.{CanMove, moving}
use Rattle.block_gc.proofs.MovedIndexes.{moved_ready, moved_trim, move_left, moved_done}
use Rattle.block_gc.proofs.Replacing.{flags_stay, not_put, still_live}

-- the id of a copy is that of a file
pub id_range : (g : Geometry) (a : List ℕ) (o : ℕ) (tag : Tag) (work : List ℕ) → IsBuilt g a o tag work → (1 ≤ tag.id) × (tag.id ≤ 0x7FFE)
id_range g a o tag work built =
    let big : 128 ≤ g.page = (sizes g).page in
    let parts = live_parts g a o built.old built.live in
    let b0 : slice_index built.old 0 < 256 = rw (← built.copied.head 0 (omega arith), get_or-take g.page work 0 0 (omega arith)) (built.small 0 (omega arith)) in
    let b1 : slice_index built.old 1 < 256 = rw (← built.copied.head 1 (omega arith), get_or-take g.page work 1 0 (omega arith)) (built.small 1 (omega arith)) in
    let some : obj_id built.old % 0x8000 ≢ 0 = λ z. let bad : false ≡ true = sym (is_finished-zero built.old z) ∙ parts.finished in absurd (cc) in
    let not_free : obj_id built.old ≢ 0xFFFF = λ z. let bad : false ≡ true = sym (is_finished-ones built.old z) ∙ parts.finished in absurd (cc) in
    let high : 0x8000 ≤ obj_id built.old = high_id built.old built.index in
    let id : tag.id ≡ obj_id built.old % 0x8000 = built.id in
    (omega (arith, id, some), omega (arith, id, high, b0, b1, not_free))

module _ (g : Geometry) (a : List ℕ) (o p : ℕ) (tag : Tag) (work : List ℕ) (is : IsImage g a) (can : CanMove g a o p) (built : IsBuilt g a o tag work) where
  pub puts : Begins g a (putting p Index tag work) (moving o p)
  puts = record {
    needs = record { free = can.free; ready = moved_ready g a o p tag work is can built (id_range g a o tag work built); trim = moved_trim g a o p tag work is can built };
    cut = λ c h. move_left g a o p tag work is can built c (inl h);
  }

  pub then_kills : (b : List ℕ) → PutDone g p (finished_page g Index tag work) a b → Finishes g a b (killing o) (moving o p)
  then_kills b done =
      let other = not_put g a b p o (finished_page g Index tag work) built.old done built.live in
      record {
        needs = record { live = ap is_some (still_live g a b p o (finished_page g Index tag work) built.old done built.live); byte = flags_stay g a b p o built.old done.agree built.live other built.flags };
        cut = λ c h. move_left g a o p tag work is can built c (inr (b, done, h));
        done = λ c ok h. moved_done g a o p tag work is can built c (record { middle = b; put = done; kill = h });
      }
