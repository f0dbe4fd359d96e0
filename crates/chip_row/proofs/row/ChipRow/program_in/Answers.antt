use Rattle.std.proofs.Common.{◌≡◌, ℕ, ◌+◌, ◌*◌, List, refl, inl, true, arith, rules}
use Rattle.std.specs.List.{flat_map}
use Rattle.nor_core.specs.Flash.{HalfProgrammed}
use Rattle.nor_core.proofs.Programs.{half_none}
use Rattle.chip_row.specs.Rows.{AllFit}
use Rattle.chip_row.proofs.Ends.{fit_after, tells_after, tells_before, row_cuts, row_stands, row_kept, lift_program, program_done, chip_rose, on_err_both}
use Rattle.chip_row.proofs.row.ChipRow.program_in.Goals as goal

pub returns-then-self : goal.returns-then-self
returns-then-self g c = record {
  done = search rules;
  changes = record {
    cuts = record {
      size = refl;
      unit = refl;
      lent = refl;
      told = λ tells. tells;
      told_before = λ tells. tells;
      moment = omega arith;
      faults = search rules;
      reads = omega arith;
      writes = omega arith;
      cuts = λ t image count le left. inl left;
      kept = λ t image count le left. left;
    };
    said = refl;
    now = λ tells. half_none _ _ _;
  };
  reads = refl;
  writes = refl;
  asks = search rules;
}

pub returns : goal.returns
returns g c =
    let was = c.args.self.now in
    let chip = g.C.ChipState in
    let row = was.numbers in
    let n = was.moment in
    let old = was.chips.items in
    let call = c.program_one-answer in
    let one = call.ensures in
    let sound : c.is_sound.result ≡ true = search rules in
    let good : AllFit chip row n old = c.is_sound.ensures.sound sound in
    let W : List ℕ → Type 0 = λ image. HalfProgrammed (c.args.i * row.chip_size + c.args.at) c.args.from.now (flat_map (λ d. chip.bytes d) old) image in
    let lift = lift_program chip good c.args.at c.args.from.now c.requires.fits one in
    record {
      done = λ tells. program_done chip good c.args.at c.args.from.now c.requires.fits one tells;
      changes = record {
        cuts = record {
          size = refl;
          unit = refl;
          lent = refl;
          told = λ tells. tells_after chip good one tells;
          told_before = λ tells. tells_before chip good one tells;
          moment = omega arith;
          faults = c.faults_after-self.ensures.never_falls;
          reads = omega arith;
          writes = omega arith;
          cuts = λ t image count le left. row_cuts chip good one W lift t image count le left;
          kept = λ t image count le left. row_kept chip good one t image count left;
        };
        said = refl;
        now = λ tells. row_stands chip good one W lift tells;
      };
      reads = refl;
      writes = refl;
      asks = record {
        numbers = refl;
        others = one.others;
        sound = λ fit. fit_after chip good one;
        no_fault = c.faults_after-self.ensures.kept;
        one_fault = c.faults_after-self.ensures.rises;
        no_fuse = c.fuse_after-self.ensures.kept;
        blamed = on_err_both call.result (λ rose names. inl (c.args.i, refl, chip_rose chip good one rose, names)) one.cause c.fuse_after-self.ensures.names;
      };
    }
