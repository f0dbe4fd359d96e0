use Rattle.std.proofs.Common.{◌∙◌, ◌+◌, ◌%◌, ◌/◌, sym, refl, arith}
use Rattle.flash_view.proofs.Stepped.{view_image}
use Rattle.file_write.proofs.TailLooks.{ones_told}
use Rattle.file_write.proofs.tails.is_clean_by.Goals as goal

pub returns-then-span-gt65535-clause-other : goal.returns-then-span-gt65535-clause-other
returns-then-span-gt65535-clause-other g c = λ tells tidy is q number inside few. absurd (let far = rw c.body-2.ensures at c.if-span-gt65535.true in omega (arith, far, few))

pub returns-clause-told : goal.returns-clause-told
returns-clause-told g c = λ tells tidy is.
    let looks = c.in_ok-page.ensures.looks in
    let told = c.ends_in_ones.ensures.told (looks.reads.told tells) in
    ones_told c.args.v.now.geometry (g.N.NorState.bytes c.args.v.now.nor.now) c.args.id c.args.size c.in-Some.page (c.args.size / c.body-2.result) (5 + c.args.size % c.body.result) c.ends_in_ones.result (view_image c.args.v.now (g.met.N.Nor.sized _) tells)
    (sym c.in-Some.is ∙ c.in_ok-page.ensures.told tells tidy is) (rw c.body-2.ensures refl) (rw c.body.ensures refl) (rw looks.same.geometry at (rw looks.reads.bytes at told))
