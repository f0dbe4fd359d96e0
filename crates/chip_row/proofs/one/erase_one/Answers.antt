use Rattle.std.proofs.Common.{◌∙◌, ◌≡◌, ◌*◌, subst, OnOk, OnErr}
use Rattle.nor_core.specs.Count.{Rose}
use Rattle.nor_core.specs.Flash.{erased, HalfErased}
use Rattle.chip_row.specs.Chips.{ChipHonest, ChipChanges, InChipErase, ErasesUnit, HalfErasesUnit, InUnitErase}
use Rattle.chip_row.proofs.Ends.{split_set, all_was, all_new, set_others}
use Rattle.chip_row.proofs.one.erase_one.Goals as goal

pub returns : goal.returns
unfolding ErasesUnit HalfErasesUnit InUnitErase
returns g c =
    let s = split_set c.args.chips.now.items c.args.i c.erase.new.self c.requires.inside in
    let same = c.index_mut.ensures.value ∙ s.item c.index_mut.result.now in
    let unit = all_was s.other (λ d. g.C.ChipState.unit d ≡ c.args.unit) c.requires.units in
    record {
      was = s.was;
      is = c.erase.new.self;
      other = s.other;
      changes = subst (λ u. ChipChanges g.C.ChipState c.args.now s.was c.erase.new.self (InChipErase (c.args.unit_ix * u) u c.args.mark (g.C.ChipState.bytes s.was) (g.C.ChipState.bytes c.erase.new.self))) unit
          (subst (λ d. ChipChanges g.C.ChipState c.args.now d c.erase.new.self (InChipErase (c.args.unit_ix * g.C.ChipState.unit d) (g.C.ChipState.unit d) c.args.mark (g.C.ChipState.bytes d) (g.C.ChipState.bytes c.erase.new.self))) same c.erase.ensures.changes);
      done = λ tells. (
        subst (λ u. OnOk c.erase.result (g.C.ChipState.bytes c.erase.new.self ≡ erased (g.C.ChipState.bytes s.was) (c.args.unit_ix * u) u)) unit
            (subst (λ d. g.C.ChipState.tells d → OnOk c.erase.result (g.C.ChipState.bytes c.erase.new.self ≡ erased (g.C.ChipState.bytes d) (c.args.unit_ix * g.C.ChipState.unit d) (g.C.ChipState.unit d))) same c.erase.ensures.done tells),
        subst (λ u. OnErr c.erase.result (HalfErased (c.args.unit_ix * u) u c.args.mark (g.C.ChipState.bytes s.was) (g.C.ChipState.bytes c.erase.new.self))) unit
            (subst (λ d. g.C.ChipState.tells d → OnErr c.erase.result (HalfErased (c.args.unit_ix * g.C.ChipState.unit d) (g.C.ChipState.unit d) c.args.mark (g.C.ChipState.bytes d) (g.C.ChipState.bytes c.erase.new.self))) same c.erase.ensures.half tells),
      );
      cause = subst (λ d. OnErr c.erase.result (Rose (g.C.ChipState.faults d) (g.C.ChipState.faults c.erase.new.self))) same c.erase.ensures.cause;
      honest = all_new s.other (λ d. ChipHonest g.C.ChipState d) c.requires.honest c.erase.ensures.honest;
      others = set_others c.args.chips.now.items c.args.i c.erase.new.self;
    }
