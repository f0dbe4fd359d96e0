use Rattle.std.proofs.Common.{◌≡◌, ℕ, ◌+◌, ◌*◌, ◌≤◌, List, refl, inl, true, arith, rules}
use Rattle.std.specs.List.{flat_map}
use Rattle.chip_row.specs.Chips.{InChipErase}
use Rattle.chip_row.specs.Rows.{AllFit}
use Rattle.chip_row.proofs.Parts.{unit_within}
use Rattle.chip_row.proofs.Ends.{fit_after, tells_after, tells_before, row_cuts, row_stands, row_kept, lift_erase, erase_done, erase_half, chip_rose, on_err_both}
use Rattle.chip_row.proofs.row.ChipRow.erase_in.Goals as goal

pub returns : goal.returns
returns g c =
    let was = c.args.self.now in
    let chip = g.C.ChipState in
    let row = was.numbers in
    let n = was.moment in
    let old = was.chips.items in
    let call = c.erase_one-answer in
    let one = call.ensures in
    let new = call.new.chips.items in
    let sound : c.is_sound.result ≡ true = search rules in
    let good : AllFit chip row n old = c.is_sound.ensures.sound sound in
    let start = c.args.unit_ix * row.unit in
    let fits : start + row.unit ≤ row.chip_size = unit_within row.chip_size row.unit c.args.unit_ix row.some_unit row.whole c.requires.fits in
    let W : List ℕ → Type 0 = λ image. InChipErase (c.args.i * row.chip_size + start) row.unit c.args.mark (flat_map (λ d. chip.bytes d) old) (flat_map (λ d. chip.bytes d) new) image in
    let lift = lift_erase chip good start row.unit c.args.mark c.requires.marked fits one in
    record {
      done = λ tells. (erase_done chip good start row.unit c.args.mark c.requires.marked fits one tells, erase_half chip good start row.unit c.args.mark c.requires.marked fits one tells);
      changes = record {
        cuts = record {
          size = refl;
          unit = refl;
          lent = refl;
          told = λ tells. tells_after chip good one tells;
          told_before = λ tells. tells_before chip good one tells;
          moment = omega arith;
          faults = c.faults_after-self.ensures.never_falls;
          reads = omega arith;
          writes = omega arith;
          cuts = λ t image count le left. row_cuts chip good one W lift t image count le left;
          kept = λ t image count le left. row_kept chip good one t image count left;
        };
        said = refl;
        now = λ tells. row_stands chip good one W lift tells;
      };
      reads = refl;
      writes = refl;
      asks = record {
        numbers = refl;
        others = one.others;
        sound = λ fit. fit_after chip good one;
        no_fault = c.faults_after-self.ensures.kept;
        one_fault = c.faults_after-self.ensures.rises;
        no_fuse = c.fuse_after-self.ensures.kept;
        blamed = on_err_both call.result (λ rose names. inl (c.args.i, refl, chip_rose chip good one rose, names)) one.cause c.fuse_after-self.ensures.names;
      };
    }
