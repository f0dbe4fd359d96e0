use Rattle.std.proofs.Common.{◌≡◌, true, false, refl, sym, ◌∙◌, ap, rules, Bool, ◌||◌}
use Rattle.table_model.specs.Reply.{Fine}
use Rattle.volume.specs.Opening.{is_mounted, stage_after}
use Rattle.volume.specs.Replies.{told}
use Rattle.volume.proofs.Calling.{not_mounted}
use Rattle.volume.proofs.KnownMaps.{known_stays, known_is}
use Rattle.volume.proofs.Rows.{rows_joined}
use Rattle.volume.proofs.volume.Volume.clean_settled.Goals.{then-had, else-had}
use Rattle.volume.proofs.volume.Volume.clean_settled.Goals as goal

pub invariant_of-self-clause-unit : goal.invariant_of-self-clause-unit
invariant_of-self-clause-unit g c = let w = c.clean_on-result.ensures.cleans.cuts.cuts in search (rules, w.unit)

pub invariant_of-self-clause-fits : goal.invariant_of-self-clause-fits
invariant_of-self-clause-fits g c = let w = c.clean_on-result.ensures.cleans.cuts.cuts in search (rules, w.size)

pub invariant_of-self-clause-magics : goal.invariant_of-self-clause-magics
invariant_of-self-clause-magics g c = λ mounted. absurd (let no : true ≡ false = sym mounted ∙ ap is_mounted c.stage_of-self.ensures ∙ not_mounted _ _ in cc)

pub invariant_of-self-clause-table : goal.invariant_of-self-clause-table
invariant_of-self-clause-table g c = λ on. rows_joined _ _ _ _ (c.clean_on-result.auto.work ∙ c.split_at_mut-work.ensures.front_len ∙ c.scratch_need.ensures.need) (c.clean_on-result.ensures.table on)

pub invariant_of-self-clause-mapped : goal.invariant_of-self-clause-mapped
invariant_of-self-clause-mapped g c = known_stays c.args.self.now.map c.known-self.result c.clean_on-result.result.wrote c.args.self.now.mapped c.clean_on-result.ensures.cleans.untouched c.known-self.ensures

pub returns-clause-cleans : goal.returns-clause-cleans
returns-clause-cleans g c =
    let did = c.clean_on-result.ensures in
    let wrote = c.clean_on-result.result.wrote in
    record {
      wrote = wrote;
      first = c.clean_on-result.result.result;
      is = c.answer_of-result.ensures;
      cleans = did.cleans;
      asked = did.asked;
      counted = did.stands;
      slots = refl;
      run = refl;
      stage = c.stage_of-self.ensures ∙ ap (λ (b : Bool). stage_after b (told (λ did. Fine) c.answer_of-result.result)) (elim c.if-had.branch [
        | then-had w ↦ let both : (c.args.had || wrote) ≡ true = rw w.if-had.true refl in w.stage_of-is ∙ w.if-had.true ∙ sym both
        | else-had w ↦ let both : (c.args.had || wrote) ≡ wrote = rw w.if-had.false refl in w.stage_of-is ∙ sym both
      ]);
    }

pub returns-clause-map : goal.returns-clause-map
returns-clause-map g c = known_is c.args.self.now.map c.known-self.result c.clean_on-result.result.wrote c.known-self.ensures
