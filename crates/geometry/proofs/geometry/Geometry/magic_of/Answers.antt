use Rattle.std.proofs.Common.{◌<◌, ◌^◌, arith, lit<}
use Rattle.std.proofs.lemmas.Nat.{xor_lt}
use Rattle.geometry.proofs.geometry.Geometry.magic_of.Goals as goal

pub overflow_cast-result : goal.overflow_cast-result
overflow_cast-result c =
    let page : c.args.self.now.page < 2 ^ 15 = omega arith in
    omega (arith, xor_lt 15 _ _ (xor_lt 15 0x0529 c.args.self.now.page (lit< tt) page) c.length_mark.ensures.below)

pub returns-clause-below : goal.returns-clause-below
returns-clause-below c =
    let page : c.args.self.now.page < 2 ^ 15 = omega arith in
    xor_lt 15 _ _ (xor_lt 15 0x0529 c.args.self.now.page (lit< tt) page) c.length_mark.ensures.below
