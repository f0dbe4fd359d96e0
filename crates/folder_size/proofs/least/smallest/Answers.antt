use Rattle.std.proofs.Common.{◌≡◌, sym, ◌∙◌, Err, rules}
use Rattle.folder_size.proofs.Numbers.{shaped, written_is, refused_before}
use Rattle.folder_size.proofs.least.smallest.Goals as goal

pub returns-in_err-g-clause-refused : goal.returns-in_err-g-clause-refused
returns-in_err-g-clause-refused c =
    let is : c.from_residual.result ≡ Err c.in_err-g.field-0.0 = search rules in
    rw is (refused_before c.args.shape 4 c.in_err-g.field-0.0 c.in_err-g.ensures.refused)

pub returns-in_err-writable-clause-refused : goal.returns-in_err-writable-clause-refused
returns-in_err-writable-clause-refused c =
    let is : c.from_residual-in_err-writable.result ≡ Err c.in_err-writable.field-0.0 = search rules in
    let g = c.in_ok-g.g in
    let numbers = c.in_ok-g.ensures.numbers in
    rw is (sym (written_is g c.args.shape 4 (shaped g c.args.shape 4 _ numbers) numbers.blocks_is c.in_ok-g.ensures.accepted) ∙ c.in_err-writable.ensures.refused)

pub returns-clause-accepted : goal.returns-clause-accepted
returns-clause-accepted c =
    let g = c.in_ok-g.g in
    let numbers = c.in_ok-g.ensures.numbers in
    sym (written_is g c.args.shape 4 (shaped g c.args.shape 4 _ numbers) numbers.blocks_is c.in_ok-g.ensures.accepted) ∙ c.in_ok-writable.ensures.accepted
