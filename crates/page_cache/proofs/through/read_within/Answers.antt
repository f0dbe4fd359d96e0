use Rattle.std.proofs.Common.{ℕ, ◌+◌, ◌<◌, List, length, sym, ◌∙◌, ap, subst, arith}
use Rattle.geometry.specs.Numbers.{page_count}
use Rattle.page_cache.specs.Frames.{IsCopy, number_of, page_in, frame_at}
use Rattle.geometry.proofs.Bounds.{page_inside}
use Rattle.page_cache.proofs.Copies.{copy_range}
use Rattle.page_cache.proofs.Held.{holds_by}
use Rattle.page_cache.proofs.through.read_within.Goals as goal

pub returns-clause-read : goal.returns-clause-read
returns-clause-read g c tells =
    let me = c.args.g.now in
    let bytes = g.N.NorState.bytes c.args.nor.now in
    let inside = page_inside me c.args.page c.requires.page in
    let long = g.met.N.Nor.sized c.args.nor.now tells in
    let number = ap number_of c.frame.ensures.frame ∙ c.in_ok-f.ensures.number in
    let used : page_in me c.bring.new.frames c.in_ok-f.f < page_count me = omega (arith, c.in_ok-f.ensures.number, c.requires.page) in
    let right = c.bring.ensures.kept.right (c.bring.ensures.reads.told tells) c.in_ok-f.f c.in_ok-f.ensures.below used in
    let copy = subst (IsCopy me.page bytes) (sym c.frame.ensures.frame) (subst (λ (l : List ℕ). IsCopy me.page l (frame_at me c.bring.new.frames c.in_ok-f.f)) c.bring.ensures.reads.bytes right) in
    c.copy_from_slice.ensures.after ∙
    copy_range me.page c.args.page c.args.start (length c.args.into.now) (8 + c.args.start) (8 + c.args.start + length c.args.into.now) bytes c.frame.result.now copy number c.requires.inside (omega (arith, inside, long, c.requires.volume)) c.frame.ensures.size (omega arith) (omega arith)

pub returns-clause-held : goal.returns-clause-held
returns-clause-held g c = holds_by c.args.g.now c.bring.new.frames c.in_ok-f.f c.args.page c.in_ok-f.ensures.below c.in_ok-f.ensures.number
