use Rattle.std.proofs.Common.{arith}
use Rattle.volume.proofs.MapCalls.{right_in}
use Rattle.volume.proofs.volume.Volume.map_page.Goals as goal

pub returns-then-i-spans-clause-right : goal.returns-then-i-spans-clause-right
returns-then-i-spans-clause-right g c = λ m f here used there. let v = c.args.self.now in right_in v m f (λ tells. record { len = let sized = g.met.N.Nor.sized _ tells in omega (arith, sized, v.fits) }) here used there

pub returns-clause-right : goal.returns-clause-right
returns-clause-right g c = λ m f here used there. let v = c.args.self.now in right_in v m f (λ tells. record { len = let sized = g.met.N.Nor.sized _ tells in omega (arith, sized, v.fits) }) here used there
