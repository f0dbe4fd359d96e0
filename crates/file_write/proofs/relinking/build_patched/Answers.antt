use Rattle.std.proofs.Common.{drop, arith, length-take-le}
use Rattle.file_write.proofs.Patching.{copy_by}
use Rattle.file_write.proofs.relinking.build_patched.Goals as goal

pub returns-clause-told : goal.returns-clause-told
returns-clause-told g c = λ tells.
    let same = c.in_ok-build_data.ensures.looks.same.geometry in
    let w = c.build_data.new.v in
    let fits = w.work_fits in
    copy_by c.args.v.now.geometry _ c.args.page c.args.patch.from c.args.patch.used c.page-len.result c.args.bytes.now w.work.now c.patch_page.new.page (drop c.page-len.result w.work.now) (c.in_ok-build_data.ensures.told tells)
    (rw same at c.page-len.ensures) (rw same at (length-take-le w.geometry.page w.work.now (omega (arith, fits)))) c.patch_page.ensures.patched c.patch_page.ensures.small
