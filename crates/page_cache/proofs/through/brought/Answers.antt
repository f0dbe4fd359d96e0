use Rattle.std.proofs.Common.{◌≡◌, ◌+◌, ◌*◌, ◌<◌, length, sym, refl, ◌∙◌, ap, subst, arith}
use Rattle.geometry.specs.Numbers.{page_count}
use Rattle.page_cache.specs.Frames.{IsCopy, number_of, page_in}
use Rattle.geometry.proofs.Bounds.{page_inside}
use Rattle.page_cache.proofs.Copies.{copy_range}
use Rattle.page_cache.proofs.through.brought.Goals as goal

pub returns-clause-bytes : goal.returns-clause-bytes
returns-clause-bytes g c tells =
    let me = c.args.g.now in
    let bytes = g.N.NorState.bytes c.args.nor.now in
    let start = c.args.page * me.page in
    let inside = page_inside me c.args.page c.requires.page in
    let long = g.met.N.Nor.sized c.args.nor.now tells in
    let number = ap number_of c.frame.ensures.frame ∙ c.requires.number in
    let used : page_in me c.args.frames.now c.args.f < page_count me = omega (arith, c.requires.number, c.requires.page) in
    let copy = subst (IsCopy me.page bytes) (sym c.frame.ensures.frame) (c.requires.kept.right tells c.args.f c.requires.below used) in
    copy_range me.page c.args.page 0 me.page 8 (length c.frame.result.now) bytes c.frame.result.now copy number (omega arith) (omega (arith, inside, long, c.requires.volume)) c.frame.ensures.size (omega arith) (omega (arith, c.frame.ensures.size))
    ∙ (let e : start + 0 ≡ start = omega arith in rw e refl)
