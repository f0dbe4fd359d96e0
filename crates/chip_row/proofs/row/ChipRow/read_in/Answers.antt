use Rattle.std.proofs.Common.{◌≡◌, refl, inl, true, arith, rules}
use Rattle.chip_row.specs.Rows.{AllFit}
use Rattle.chip_row.proofs.Ends.{fit_read, tells_read, read_tells, same_bytes, read_cuts, read_kept, row_read, read_rose, on_err_both}
use Rattle.chip_row.proofs.row.ChipRow.read_in.Goals as goal

pub returns : goal.returns
returns g c =
    let was = c.args.self.now in
    let chip = g.C.ChipState in
    let row = was.numbers in
    let n = was.moment in
    let old = was.chips.items in
    let call = c.read_one-answer in
    let one = call.ensures in
    let sound : c.is_sound.result ≡ true = search rules in
    let good : AllFit chip row n old = c.is_sound.ensures.sound sound in
    record {
      read = λ tells. row_read chip good one c.requires.fits tells;
      sized = search rules;
      only_reads = record {
        size = refl;
        unit = refl;
        lent = refl;
        told = λ tells. tells_read chip good one tells;
        told_before = λ tells. read_tells chip good one tells;
        bytes = same_bytes chip good one;
        said = refl;
        moment = refl;
        faults = c.faults_after-self.ensures.never_falls;
        reads = omega arith;
        writes = refl;
        cuts = λ t image count left. read_cuts chip good one t image count left;
        kept = λ t image count left. read_kept chip good one t image count left;
      };
      reads = refl;
      asks = record {
        numbers = refl;
        others = one.others;
        sound = λ fit. fit_read chip good one;
        no_fault = c.faults_after-self.ensures.kept;
        one_fault = c.faults_after-self.ensures.rises;
        no_fuse = c.fuse_after-self.ensures.kept;
        blamed = on_err_both call.result (λ rose names. inl (c.args.i, refl, read_rose chip good one rose, names)) one.cause c.fuse_after-self.ensures.names;
      };
    }
