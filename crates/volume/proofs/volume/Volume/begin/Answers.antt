use Rattle.std.proofs.Common.{inl, ◌≡◌, true, false, refl, sym, ◌∙◌, ap, rules, None}
use Rattle.table_model.specs.Reply.{Refuses}
use Rattle.volume.specs.Replies.{breaks}
use Rattle.volume.specs.Opening.{is_mounted}
use Rattle.volume.specs.Holds.{memory}
use Rattle.volume.proofs.Calling.{open_is, staged_by, not_mounted}
use Rattle.volume.proofs.KnownMaps.{known_stays, known_is}
use Rattle.volume.proofs.Rows.{rows_joined}
use Rattle.volume.proofs.RunSettling.{run_of, run_used, used_is, any_file, settles_none, settles_done, settles_failed}
use Rattle.volume.proofs.volume.Volume.begin.Goals as goal

pub returns-then-not-is_used-clause-settles : goal.returns-then-not-is_used-clause-settles
returns-then-not-is_used-clause-settles g c =
    let v = c.args.self.now in
    let free : v.held.used ≡ false = used_is v.held v.window.now c.is_used.result (c.is_used.ensures v.window.now) ∙ c.if-not-is_used.true in
    let none : (memory v).run ≡ None = rw free refl in
    settles_none v none

pub settle_on-result-requires-clause-used : goal.settle_on-result-requires-clause-used
settle_on-result-requires-clause-used g c =
    let v = c.args.self.now in
    used_is v.held v.window.now c.is_used.result (c.is_used.ensures v.window.now) ∙ c.if-not-is_used.false

pub invariant_of-self-clause-unit : goal.invariant_of-self-clause-unit
invariant_of-self-clause-unit g c =
    let w = (c.settle_on-result.ensures.writes any_file).cuts.cuts in
    search (rules, w.unit)

pub invariant_of-self-clause-fits : goal.invariant_of-self-clause-fits
invariant_of-self-clause-fits g c =
    let w = (c.settle_on-result.ensures.writes any_file).cuts.cuts in
    search (rules, w.size)

pub invariant_of-self-clause-held_fits : goal.invariant_of-self-clause-held_fits
invariant_of-self-clause-held_fits g c = search (rules, c.none-self.ensures.short)

pub invariant_of-self-clause-table : goal.invariant_of-self-clause-table
invariant_of-self-clause-table g c = λ on. rows_joined _ _ _ _ (c.settle_on-result.auto.work ∙ c.split_at_mut-work.ensures.front_len ∙ c.scratch_need.ensures.need) (c.settle_on-result.ensures.table on)

pub invariant_of-self-in-Err-clause-table : goal.invariant_of-self-in-Err-clause-table
invariant_of-self-in-Err-clause-table g c = λ on. rows_joined _ _ _ _ (c.settle_on-result.auto.work ∙ c.split_at_mut-work.ensures.front_len ∙ c.scratch_need.ensures.need) (c.settle_on-result.ensures.table on)

pub invariant_of-self-in-Err-clause-unit : goal.invariant_of-self-in-Err-clause-unit
invariant_of-self-in-Err-clause-unit g c =
    let w = (c.settle_on-result.ensures.writes any_file).cuts.cuts in
    search (rules, w.unit)

pub invariant_of-self-in-Err-clause-fits : goal.invariant_of-self-in-Err-clause-fits
invariant_of-self-in-Err-clause-fits g c =
    let w = (c.settle_on-result.ensures.writes any_file).cuts.cuts in
    search (rules, w.size)

pub invariant_of-self-in-Err-clause-magics : goal.invariant_of-self-in-Err-clause-magics
invariant_of-self-in-Err-clause-magics g c = λ mounted. absurd (let no : true ≡ false = sym mounted ∙ ap is_mounted c.stage_at-self.ensures ∙ not_mounted c.settle_on-result.result.wrote (Refuses c.in-Err.why) in cc)

pub returns-in-Ok-clause-settles : goal.returns-in-Ok-clause-settles
returns-in-Ok-clause-settles g c =
    let v = c.args.self.now in
    let used : v.held.used ≡ true = used_is v.held v.window.now c.is_used.result (c.is_used.ensures v.window.now) ∙ c.if-not-is_used.false in
    settles_done (run_of v.held v.window.now) (run_used v.held v.window.now used) c.settle_on-result.result.wrote (search rules) refl (rw c.in-Ok.is at c.settle_on-result.ensures.writes) (c.none-self.ensures.empty v.window.now) refl

pub returns-in-Err-clause-settles : goal.returns-in-Err-clause-settles
returns-in-Err-clause-settles g c =
    let v = c.args.self.now in
    let used : v.held.used ≡ true = used_is v.held v.window.now c.is_used.result (c.is_used.ensures v.window.now) ∙ c.if-not-is_used.false in
    let why = c.in-Err.why in
    let staged = staged_by v.stage _ c.settle_on-result.result.wrote (Refuses why) (breaks (Refuses why)) (open_is v.stage c.requires) refl c.stage_at-self.ensures in
    settles_failed (run_of v.held v.window.now) (run_used v.held v.window.now used) c.settle_on-result.result.wrote (search rules) refl why (rw c.in-Err.is at c.settle_on-result.ensures.writes) c.settle_on-result.ensures.asked refl staged

pub invariant_of-self-clause-mapped : goal.invariant_of-self-clause-mapped
invariant_of-self-clause-mapped g c = known_stays c.args.self.now.map c.known-self.result c.settle_on-result.result.wrote c.args.self.now.mapped (c.settle_on-result.ensures.writes any_file).untouched c.known-self.ensures

pub invariant_of-self-in-Err-clause-mapped : goal.invariant_of-self-in-Err-clause-mapped
invariant_of-self-in-Err-clause-mapped g c = known_stays c.args.self.now.map c.known-self.result c.settle_on-result.result.wrote c.args.self.now.mapped (c.settle_on-result.ensures.writes any_file).untouched c.known-self.ensures

pub returns-in-Ok-clause-map : goal.returns-in-Ok-clause-map
returns-in-Ok-clause-map g c = known_is c.args.self.now.map c.known-self.result c.settle_on-result.result.wrote c.known-self.ensures

pub returns-in-Err-clause-map : goal.returns-in-Err-clause-map
returns-in-Err-clause-map g c = known_is c.args.self.now.map c.known-self.result c.settle_on-result.result.wrote c.known-self.ensures

pub returns-then-not-is_used-clause-map : goal.returns-then-not-is_used-clause-map
returns-then-not-is_used-clause-map g c = inl refl
