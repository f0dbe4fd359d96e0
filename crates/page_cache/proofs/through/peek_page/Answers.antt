use Rattle.std.proofs.Common.{ℕ, ◌≡◌, ◌+◌, ◌*◌, ◌<◌, List, length, refl, sym, ◌∙◌, ap, subst, arith}
use Rattle.geometry.specs.Numbers.{page_count}
use Rattle.page_cache.specs.Frames.{IsCopy, number_of, page_in}
use Rattle.geometry.proofs.Bounds.{page_inside}
use Rattle.page_cache.proofs.Copies.{copy_range}
use Rattle.page_cache.proofs.Held.{not_held}
use Rattle.page_cache.proofs.Keeping.{kept_told}
use Rattle.page_cache.proofs.through.peek_page.Goals as goal

pub returns-in-Some-clause-read : goal.returns-in-Some-clause-read
returns-in-Some-clause-read g c tells =
    let me = c.args.g.now in
    let bytes = g.N.NorState.bytes c.args.nor.now in
    let inside = page_inside me c.args.page c.requires.page in
    let long = g.met.N.Nor.sized c.args.nor.now tells in
    let number = ap number_of c.frame.ensures.frame ∙ c.in-Some.ensures.found.1 in
    let used : page_in me c.args.frames.now c.in-Some.f < page_count me = omega (arith, c.in-Some.ensures.found.1, c.requires.page) in
    let copy = subst (IsCopy me.page bytes) (sym c.frame.ensures.frame) (c.requires.kept.right tells c.in-Some.f c.in-Some.ensures.found.0 used) in
    c.copy_from_slice.ensures.after ∙
    copy_range me.page c.args.page c.args.start (length c.args.into.now) (8 + c.args.start) (8 + c.args.start + length c.args.into.now) bytes c.frame.result.now copy number c.requires.inside (omega (arith, inside, long, c.requires.volume)) c.frame.ensures.size (omega arith) (omega arith)

pub read-requires-clause-inside : goal.read-requires-clause-inside
read-requires-clause-inside g c =
    let inside = page_inside c.args.g.now c.args.page c.requires.page in
    let e : c.from.result * c.page.result ≡ c.args.page * c.args.g.now.page = rw (c.from.ensures, c.page.ensures) refl in
    omega (arith, inside, e, c.requires.inside, c.requires.volume)

pub returns-clause-hit : goal.returns-clause-hit
returns-clause-hit g c holds =
    let none = not_held c.args.g.now c.args.frames.now c.args.page (c.find.ensures.missing c.in_default.is) in
    absurd (cc)

pub returns-clause-kept : goal.returns-clause-kept
returns-clause-kept g c =
    kept_told c.args.g.now c.args.nor.now c.read.new.self c.args.frames.now c.args.frames.now refl c.requires.kept
    c.read.ensures.only_reads.told_before c.read.ensures.only_reads.bytes (λ f. record { number = refl; bytes = λ k far. refl }) c.requires.kept.findable
