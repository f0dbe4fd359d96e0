use Rattle.std.proofs.Common.{◌∙◌, ◌≡◌, subst, OnOk, OnErr}
use Rattle.nor_core.specs.Count.{Rose}
use Rattle.nor_core.specs.Flash.{programmed, HalfProgrammed}
use Rattle.chip_row.specs.Chips.{ChipHonest, ChipChanges}
use Rattle.chip_row.proofs.Ends.{split_set, all_new, set_others}
use Rattle.chip_row.proofs.one.program_one.Goals as goal

pub returns : goal.returns
returns g c =
    let s = split_set c.args.chips.now.items c.args.i c.program.new.self c.requires.inside in
    let same = c.index_mut.ensures.value ∙ s.item c.index_mut.result.now in
    record {
      was = s.was;
      is = c.program.new.self;
      other = s.other;
      changes = subst (λ d. ChipChanges g.C.ChipState c.args.now d c.program.new.self (HalfProgrammed c.args.at c.args.from.now (g.C.ChipState.bytes d))) same c.program.ensures.changes;
      done = subst (λ d. g.C.ChipState.tells d → OnOk c.program.result (g.C.ChipState.bytes c.program.new.self ≡ programmed (g.C.ChipState.bytes d) c.args.at c.args.from.now)) same c.program.ensures.done;
      cause = subst (λ d. OnErr c.program.result (Rose (g.C.ChipState.faults d) (g.C.ChipState.faults c.program.new.self))) same c.program.ensures.cause;
      honest = all_new s.other (λ d. ChipHonest g.C.ChipState d) c.requires.honest c.program.ensures.honest;
      others = set_others c.args.chips.now.items c.args.i c.program.new.self;
    }
