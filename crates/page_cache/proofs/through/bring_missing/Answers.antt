use Rattle.std.proofs.Common.{ℕ, ◌≡◌, ◌≢◌, inl, inr, ⊎_elim, refl, sym, ◌∙◌, ap, arith}
use Rattle.page_cache.specs.Frames.{number_of, page_in}
use Rattle.page_cache.proofs.Places.{count_same}
use Rattle.page_cache.proofs.Held.{keeps_but, keeps_others, holds_by, not_held, few_got}
use Rattle.page_cache.proofs.Findable.{findable_loaded, lost_free, lost_number, lost_bytes, lost_findable}
use Rattle.page_cache.proofs.Keeping.{kept_told, kept_loaded, kept_lost}
use Rattle.page_cache.proofs.through.bring_missing.Goals as goal

pub load_frame-requires-clause-frame : goal.load_frame-requires-clause-frame
load_frame-requires-clause-frame g c = omega (arith, c.pick-f.ensures.below, count_same c.args.g.now c.args.frames.now c.pick-f.new.frames c.pick-f.auto.frames)

pub returns-in-Ok-clause-kept : goal.returns-in-Ok-clause-kept
returns-in-Ok-clause-kept g c =
    let me = c.args.g.now in
    let first = count_same me c.args.frames.now c.pick-f.new.frames c.pick-f.auto.frames in
    let second = count_same me c.pick-f.new.frames c.load_frame.new.frames c.load_frame.auto.frames in
    let kept = kept_told me c.args.nor.now c.args.nor.now c.args.frames.now c.pick-f.new.frames first c.requires.kept (λ t. t) refl c.pick-f.ensures.copies c.pick-f.ensures.findable in
    kept_loaded me c.args.nor.now c.load_frame.new.nor c.pick-f.new.frames c.load_frame.new.frames second c.pick-f.result c.args.page kept c.load_frame.ensures.reads.told_before c.load_frame.ensures.reads.bytes c.load_frame.ensures.others
    (findable_loaded me c.pick-f.new.frames c.load_frame.new.frames second c.pick-f.result c.args.page c.load_frame.ensures.others c.load_frame.ensures.head c.in-Ok.ensures.number c.requires.page
    (omega (arith, c.pick-f.ensures.below, first)) c.pick-f.ensures.near
    (λ h below is. c.requires.missing h (omega (arith, below, first)) (sym (c.pick-f.ensures.copies h).number ∙ is))
    (λ many. c.pick-f.ensures.home (omega (arith, many, first))) c.pick-f.ensures.findable)
    (λ tells. c.in-Ok.ensures.copy tells)

pub returns-in-Ok-clause-below : goal.returns-in-Ok-clause-below
returns-in-Ok-clause-below g c = omega (arith, c.pick-f.ensures.below, count_same c.args.g.now c.args.frames.now c.pick-f.new.frames c.pick-f.auto.frames, count_same c.args.g.now c.pick-f.new.frames c.load_frame.new.frames c.load_frame.auto.frames)

pub returns-in-Ok-clause-stays : goal.returns-in-Ok-clause-stays
returns-in-Ok-clause-stays g c =
    let me = c.args.g.now in
    let same = count_same me c.pick-f.new.frames c.load_frame.new.frames c.load_frame.auto.frames ∙ count_same me c.args.frames.now c.pick-f.new.frames c.pick-f.auto.frames in
    let numbers : (h : ℕ) → h ≢ c.pick-f.result → page_in me c.load_frame.new.frames h ≡ page_in me c.args.frames.now h = λ h ne. ap number_of (c.load_frame.ensures.others h ne) ∙ (c.pick-f.ensures.copies h).number in
    ⊎_elim (λ all. inl (record { full = all; gone = page_in me c.args.frames.now c.pick-f.result; others = keeps_others me c.args.frames.now c.load_frame.new.frames c.pick-f.result same numbers }))
    (λ free. inr (keeps_but me c.args.frames.now c.load_frame.new.frames c.pick-f.result same free numbers))
    c.pick-f.ensures.free

pub returns-in-Ok-clause-few : goal.returns-in-Ok-clause-few
returns-in-Ok-clause-few g c =
    let me = c.args.g.now in
    let same = count_same me c.pick-f.new.frames c.load_frame.new.frames c.load_frame.auto.frames ∙ count_same me c.args.frames.now c.pick-f.new.frames c.pick-f.auto.frames in
    let numbers : (h : ℕ) → h ≢ c.pick-f.result → page_in me c.load_frame.new.frames h ≡ page_in me c.args.frames.now h = λ h ne. ap number_of (c.load_frame.ensures.others h ne) ∙ (c.pick-f.ensures.copies h).number in
    few_got me c.args.nor.now c.load_frame.new.nor c.args.frames.now c.load_frame.new.frames c.args.page c.requires.page c.load_frame.ensures.once
    (λ many. ⊎_elim
    (λ all.
    let home = c.pick-f.ensures.home many in
    let used = all c.pick-f.result c.pick-f.ensures.below in
    absurd (c.requires.missing c.pick-f.result c.pick-f.ensures.below (c.requires.kept.findable.placed many c.pick-f.result c.pick-f.ensures.below used ∙ home)))
    (λ free. keeps_but me c.args.frames.now c.load_frame.new.frames c.pick-f.result same free numbers)
    c.pick-f.ensures.free)
    (not_held me c.args.frames.now c.args.page c.requires.missing)
    (holds_by me c.load_frame.new.frames c.pick-f.result c.args.page (omega (arith, same, c.pick-f.ensures.below)) c.in-Ok.ensures.number)

pub returns-in-Err-clause-kept : goal.returns-in-Err-clause-kept
returns-in-Err-clause-kept g c =
    let me = c.args.g.now in
    let first = count_same me c.args.frames.now c.pick-f.new.frames c.pick-f.auto.frames in
    let second = count_same me c.pick-f.new.frames c.load_frame.new.frames c.load_frame.auto.frames in
    let third = count_same me c.load_frame.new.frames c.bound_all.new.frames c.bound_all.auto.frames in
    let kept = kept_told me c.args.nor.now c.args.nor.now c.args.frames.now c.pick-f.new.frames first c.requires.kept (λ t. t) refl c.pick-f.ensures.copies c.pick-f.ensures.findable in
    kept_lost me c.args.nor.now c.load_frame.new.nor c.pick-f.new.frames c.bound_all.new.frames (third ∙ second) c.pick-f.result kept c.load_frame.ensures.reads.told_before c.load_frame.ensures.reads.bytes
    (lost_number me c.pick-f.new.frames c.load_frame.new.frames c.bound_all.new.frames second third c.pick-f.result c.load_frame.ensures.others c.load_frame.ensures.head c.in-Err.ensures.free c.bound_all.ensures.here c.bound_all.ensures.others)
    (lost_bytes me c.pick-f.new.frames c.load_frame.new.frames c.bound_all.new.frames second third c.pick-f.result c.load_frame.ensures.others c.load_frame.ensures.head c.in-Err.ensures.free c.bound_all.ensures.here c.bound_all.ensures.others)
    (lost_free me c.pick-f.new.frames c.load_frame.new.frames c.bound_all.new.frames second third c.pick-f.result c.load_frame.ensures.others c.load_frame.ensures.head c.in-Err.ensures.free c.bound_all.ensures.here c.bound_all.ensures.others)
    (lost_findable me c.pick-f.new.frames c.load_frame.new.frames c.bound_all.new.frames second third c.pick-f.result c.load_frame.ensures.others c.load_frame.ensures.head c.in-Err.ensures.free c.bound_all.ensures.here c.bound_all.ensures.others c.pick-f.ensures.findable)

pub returns-in-Err-clause-stays : goal.returns-in-Err-clause-stays
returns-in-Err-clause-stays g c =
    let me = c.args.g.now in
    let first = count_same me c.args.frames.now c.pick-f.new.frames c.pick-f.auto.frames in
    let second = count_same me c.pick-f.new.frames c.load_frame.new.frames c.load_frame.auto.frames in
    let third = count_same me c.load_frame.new.frames c.bound_all.new.frames c.bound_all.auto.frames in
    let numbers : (h : ℕ) → h ≢ c.pick-f.result → page_in me c.bound_all.new.frames h ≡ page_in me c.args.frames.now h =
    λ h ne. lost_number me c.pick-f.new.frames c.load_frame.new.frames c.bound_all.new.frames second third c.pick-f.result c.load_frame.ensures.others c.load_frame.ensures.head c.in-Err.ensures.free c.bound_all.ensures.here c.bound_all.ensures.others h ne ∙ (c.pick-f.ensures.copies h).number in
    ⊎_elim (λ all. inl (record { full = all; gone = page_in me c.args.frames.now c.pick-f.result; others = keeps_others me c.args.frames.now c.bound_all.new.frames c.pick-f.result (third ∙ second ∙ first) numbers }))
    (λ free. inr (keeps_but me c.args.frames.now c.bound_all.new.frames c.pick-f.result (third ∙ second ∙ first) free numbers))
    c.pick-f.ensures.free
