-- Puts and kills leave a volume its reserve.
use Rattle.std.proofs.Common.{◌≡◌, ℕ, ◌+◌, ◌<◌, ◌≤◌, List, false, Some, ap, sym, ◌∙◌, arith, ⊎_elim}
use Rattle.std.proofs.lemmas.Option.{none-some}
use Rattle.geometry.specs.declared.geometry.Geometry.{Geometry}
use Rattle.image_model.specs.Live.{live_at}
use Rattle.image_model.specs.Places.{block_of}
use Rattle.image_model.specs.Tidy.{HasReserve, is_free_block, free_blocks}
use Rattle.image_laws.specs.LiveSteps.{PutLeaves, PutDone, KillLeaves}
use Rattle.image_laws.proofs.Frames.{live_parts}
use Rattle.image_laws.proofs.FreeBlocks.{free_blocks-fall, used-is_not_free}
use Rattle.image_laws.proofs.StillFree.{live-used}
use Rattle.renew_laws.specs.Replace.{ReplaceCut, Replaced}
use Rattle.renew_laws.specs.Reserve.{PutReserve, KillReserve, ReplaceReserve}

pub put-reserve : (g : Geometry) → PutReserve g
put-reserve g a c p take agree two =
    let fall = free_blocks-fall g a c p agree in
    ⊎_elim
    (λ (used : is_free_block g a (block_of g p) ≡ false). let kept : free_blocks g a ≤ free_blocks g c = fall.1 used in omega (arith, kept, two))
    (λ (more : 2 < free_blocks g a). let one : free_blocks g a ≤ free_blocks g c + 1 = fall.0 in omega (arith, one, more))
    take

pub kill-reserve : (g : Geometry) → KillReserve g
kill-reserve g a c o x live agree = (free_blocks-fall g a c o agree).1 (used-is_not_free g a o (live_parts g a o x live).entry_page (live-used g a o x live))

-- a live page is there once another page is
still_live : (g : Geometry) (a b : List ℕ) (p o : ℕ) (page old : List ℕ) → PutDone g p page a b → live_at g a o ≡ Some old → live_at g b o ≡ Some old
still_live g a b p o page old put live = put.gains.others o (λ e. none-some old (sym put.gains.before ∙ ap (live_at g a) (sym e) ∙ live)) ∙ live

pub replace-reserve : (g : Geometry) → ReplaceReserve g
replace-reserve g a c p o page old take live two step =
    ⊎_elim
    (λ (cut : ReplaceCut g p o page a c). ⊎_elim
    (λ (put : PutLeaves g p page a c). put-reserve g a c p take put.agree two)
    (λ (x : (b : List ℕ) × PutDone g p page a b × KillLeaves g o b c).
    let there : HasReserve g x.0 = put-reserve g a x.0 p take x.1.agree two in
    let kept = kill-reserve g x.0 c o old (still_live g a x.0 p o page old x.1 live) x.2.agree in omega (arith, there, kept))
    cut)
    (λ (all : Replaced g p o page a c).
    let there : HasReserve g all.middle = put-reserve g a all.middle p take all.put.agree two in
    let kept = kill-reserve g all.middle c o old (still_live g a all.middle p o page old all.put live) all.kill.agree in omega (arith, there, kept))
    step
