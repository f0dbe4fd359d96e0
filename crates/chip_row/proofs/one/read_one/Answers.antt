use Rattle.std.proofs.Common.{◌∙◌, ◌≡◌, ◌+◌, subst, length, OnOk, OnErr}
use Rattle.std.specs.List.{slice_range}
use Rattle.nor_core.specs.Count.{Rose}
use Rattle.chip_row.specs.Chips.{ChipHonest, ChipReads}
use Rattle.chip_row.proofs.Ends.{split_set, all_new, set_others}
use Rattle.chip_row.proofs.one.read_one.Goals as goal

pub returns : goal.returns
returns g c =
    let s = split_set c.args.chips.now.items c.args.i c.read.new.self c.requires.inside in
    let same = c.index_mut.ensures.value ∙ s.item c.index_mut.result.now in
    record {
      was = s.was;
      is = c.read.new.self;
      other = s.other;
      reads = subst (λ d. ChipReads g.C.ChipState d c.read.new.self) same c.read.ensures.reads;
      read = subst (λ d. g.C.ChipState.tells d → OnOk c.read.result (c.read.new.into ≡ slice_range (g.C.ChipState.bytes d) c.args.at (c.args.at + length c.args.into.now))) same c.read.ensures.read;
      cause = subst (λ d. OnErr c.read.result (Rose (g.C.ChipState.faults d) (g.C.ChipState.faults c.read.new.self))) same c.read.ensures.cause;
      honest = all_new s.other (λ d. ChipHonest g.C.ChipState d) c.requires.honest c.read.ensures.honest;
      others = set_others c.args.chips.now.items c.args.i c.read.new.self;
    }
