use Rattle.std.proofs.Common.{◌≡◌, refl, sym, ◌∙◌, ap, Bool, true, false, ◌||◌, rules, arith}
use Rattle.file_calls.specs.Replies.{shown_by}
use Rattle.volume.specs.Opening.{is_open, is_mounted, stage_after}
use Rattle.volume.specs.Replies.{breaks}
use Rattle.volume.specs.Mapping.{known_map}
use Rattle.volume.proofs.KnownMaps.{known_stays, device_stays, refills, shut_breaks}
use Rattle.volume.proofs.Calling.{not_mounted}
use Rattle.volume.proofs.Rows.{rows_joined}
use Rattle.volume.proofs.Staying.{same_then}
use Rattle.volume.proofs.LookedAfter.{acts_on}
use Rattle.volume.proofs.volume.Volume.do_settled.Goals.{then-had, else-had}
use Rattle.volume.proofs.volume.Volume.do_settled.Goals as goal

pub returns-clause-same : goal.returns-clause-same
returns-clause-same g c =
    let did = c.call_on-told.ensures in
    same_then (record {
      geometry = refl;
      nor_name = search rules;
      work_name = search rules;
      cache_name = search rules;
      slots_name = search rules;
      window_name = search rules;
      cache_size = did.cache_size;
      behind = did.behind;
      faults = did.faults;
      few = did.few;
    }) c.refill.ensures.same

pub returns-clause-acts : goal.returns-clause-acts
returns-clause-acts g c =
    let did = c.call_on-told.ensures in
    let after = c.refill.ensures in
    record {
      wrote = c.call_on-told.result.wrote;
      acts = rw (after.slots, after.held, after.window) (acts_on after.looks did.acts.acts);
      asked = λ w. let rose = did.asked w in omega (arith, rose, after.looks.writes);
      counted = λ s here no_fault before. after.counted ∙ did.counted s here no_fault before;
      stage = after.stage ∙ c.stage_after-self.ensures c.call_on-told.new.into ∙ ap (λ (b : Bool). stage_after b (shown_by c.call_on-told.result.told c.call_on-told.new.into)) (elim c.if-had.branch [
        | then-had w ↦ let both : (c.args.had || c.call_on-told.result.wrote) ≡ true = rw w.if-had.true refl in w.stage_after-is ∙ w.if-had.true ∙ sym both
        | else-had w ↦ let both : (c.args.had || c.call_on-told.result.wrote) ≡ c.call_on-told.result.wrote = rw w.if-had.false refl in w.stage_after-is ∙ sym both
      ]);
      quiet = λ idle why e.
          let unwritten = (did.acts.acts.does.numbered.refused why e).1 in
          let known : c.known-self.result ≡ c.args.was = c.known-self.ensures ∙ ap (known_map c.args.self.now.map) unwritten ∙ sym (c.requires.was idle) in
          device_stays c.args.was known after.still after.none ∙ did.acts.quiet why e;
    }

pub returns-clause-map : goal.returns-clause-map
returns-clause-map g c =
    let did = c.call_on-told.ensures in
    let after = c.refill.ensures in
    let reply = shown_by c.call_on-told.result.told c.call_on-told.new.into in
    let asked = c.args.had || c.call_on-told.result.wrote in
    let stage : c.stage_after-self.result ≡ stage_after asked reply = c.stage_after-self.ensures c.call_on-told.new.into ∙ ap (λ (b : Bool). stage_after b reply) (elim c.if-had.branch [
      | then-had w ↦ let both : asked ≡ true = rw w.if-had.true refl in w.stage_after-is ∙ w.if-had.true ∙ sym both
      | else-had w ↦ let both : asked ≡ c.call_on-told.result.wrote = rw w.if-had.false refl in w.stage_after-is ∙ sym both
    ]) in
    refills c.args.was c.call_on-told.result.wrote (breaks reply) after.room c.known-self.ensures (λ shut. shut_breaks asked reply (sym (ap is_open stage) ∙ shut)) did.faults after.still after.none after.lost after.is

pub invariant_of-self-clause-unit : goal.invariant_of-self-clause-unit
invariant_of-self-clause-unit g c = let w = c.call_on-told.ensures.acts.acts.does.cuts.cuts in search (rules, w.unit)

pub invariant_of-self-clause-fits : goal.invariant_of-self-clause-fits
invariant_of-self-clause-fits g c = let w = c.call_on-told.ensures.acts.acts.does.cuts.cuts in search (rules, w.size)

pub invariant_of-self-clause-magics : goal.invariant_of-self-clause-magics
invariant_of-self-clause-magics g c = λ mounted. absurd (let no : true ≡ false = sym mounted ∙ ap is_mounted (c.stage_after-self.ensures c.call_on-told.new.into) ∙ not_mounted _ _ in cc)

pub invariant_of-self-clause-table : goal.invariant_of-self-clause-table
invariant_of-self-clause-table g c = λ on. rows_joined _ _ _ _ (c.call_on-told.auto.work ∙ c.split_at_mut-work.ensures.front_len ∙ c.scratch_need.ensures.need) (c.call_on-told.ensures.table on)

pub invariant_of-self-clause-mapped : goal.invariant_of-self-clause-mapped
invariant_of-self-clause-mapped g c = known_stays c.args.self.now.map c.known-self.result c.call_on-told.result.wrote c.args.self.now.mapped c.call_on-told.ensures.acts.acts.does.untouched c.known-self.ensures
