use Rattle.std.proofs.Common.{◌≡◌, ◌<◌, ℕ, slice_index, arith}
use Rattle.std.proofs.lemmas.Result.{on_ok_weaker}
use Rattle.geometry.specs.Numbers.{page_count, per_block}
use Rattle.vol_check.proofs.Listed.{settled_listed}
use Rattle.vol_check.proofs.WantedPages.{marks_wanted}
use Rattle.vol_check.proofs.marking.mark_wanted.Goals as goal

pub returns-clause-told : goal.returns-clause-told
unfolding page_count per_block
returns-clause-told g c = λ tells settled.
    let clear : (p : ℕ) → p < page_count c.args.v.now.geometry → slice_index c.clear.new.bytes p ≡ 0 = λ p low. c.clear.ensures p (omega (arith, low, c.pages.ensures.count)) in
    on_ok_weaker c.mark_files.result (λ adds. marks_wanted _ _ _ _ clear adds) (c.mark_files.ensures.told tells (settled_listed _ _ _ settled))
