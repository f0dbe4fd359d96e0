use Rattle.std.proofs.Common.{◌≡◌, ℕ, ◌+◌, ◌*◌, List, ◌∙◌, ap, sym, subst, arith, OnOk, OnErr}
use Rattle.page_cache.specs.Frames.{number_of, IsCopy, SameHead}
use Rattle.page_cache.proofs.Places.{put_here, put_made, put_there, part_length}
use Rattle.geometry.proofs.Bounds.{page_inside}
use Rattle.page_cache.proofs.through.load_frame.Goals as goal

pub fill-requires-clause-inside : goal.fill-requires-clause-inside
fill-requires-clause-inside g c =
    let inside = page_inside c.args.g.now c.args.page c.requires.page in
    let e : c.args.page * c.page.result ≡ c.args.page * c.args.g.now.page = ap (λ (n : ℕ). c.args.page * n) c.page.ensures in
    omega (arith, inside, e, c.page.ensures, c.requires.volume)

pub returns-clause-number : goal.returns-clause-number
returns-clause-number g c =
    let size = c.fill.auto.frame ∙ part_length c.args.frames.now c.start_of-start.result c.frame_len.result (omega (arith, c.start_of-start.ensures.inside, c.frame_len.ensures)) ∙ c.frame_len.ensures in
    let here = put_here c.args.g.now c.args.frames.now c.fill.new.frame c.args.f c.start_of-start.result (c.start_of-start.result + c.frame_len.result) c.start_of-start.ensures.start (omega (arith, c.frame_len.ensures)) (omega (arith, c.start_of-start.ensures.inside, c.frame_len.ensures)) size in
    subst (λ (l : List ℕ). OnOk c.fill.result (number_of l ≡ c.args.page)) (sym here) c.fill.ensures.number

pub returns-clause-free : goal.returns-clause-free
returns-clause-free g c =
    let size = c.fill.auto.frame ∙ part_length c.args.frames.now c.start_of-start.result c.frame_len.result (omega (arith, c.start_of-start.ensures.inside, c.frame_len.ensures)) ∙ c.frame_len.ensures in
    let here = put_here c.args.g.now c.args.frames.now c.fill.new.frame c.args.f c.start_of-start.result (c.start_of-start.result + c.frame_len.result) c.start_of-start.ensures.start (omega (arith, c.frame_len.ensures)) (omega (arith, c.start_of-start.ensures.inside, c.frame_len.ensures)) size in
    subst (λ (l : List ℕ). OnErr c.fill.result (number_of l ≡ 65535)) (sym here) c.fill.ensures.free

pub returns-clause-head : goal.returns-clause-head
returns-clause-head g c =
    let size = c.fill.auto.frame ∙ part_length c.args.frames.now c.start_of-start.result c.frame_len.result (omega (arith, c.start_of-start.ensures.inside, c.frame_len.ensures)) ∙ c.frame_len.ensures in
    put_made c.args.g.now SameHead c.args.frames.now c.fill.new.frame c.args.f c.start_of-start.result (c.start_of-start.result + c.frame_len.result) c.start_of-start.ensures.start (omega (arith, c.frame_len.ensures)) (omega (arith, c.start_of-start.ensures.inside, c.frame_len.ensures)) size c.fill.ensures.head

pub returns-clause-copy : goal.returns-clause-copy
returns-clause-copy g c tells =
    let size = c.fill.auto.frame ∙ part_length c.args.frames.now c.start_of-start.result c.frame_len.result (omega (arith, c.start_of-start.ensures.inside, c.frame_len.ensures)) ∙ c.frame_len.ensures in
    let here = put_here c.args.g.now c.args.frames.now c.fill.new.frame c.args.f c.start_of-start.result (c.start_of-start.result + c.frame_len.result) c.start_of-start.ensures.start (omega (arith, c.frame_len.ensures)) (omega (arith, c.start_of-start.ensures.inside, c.frame_len.ensures)) size in
    subst (λ (l : List ℕ). OnOk c.fill.result (IsCopy c.args.g.now.page (g.N.NorState.bytes c.args.nor.now) l)) (sym here)
    (subst (λ (n : ℕ). OnOk c.fill.result (IsCopy n (g.N.NorState.bytes c.args.nor.now) c.fill.new.frame)) c.page.ensures (c.fill.ensures.copy tells))

pub returns-clause-others : goal.returns-clause-others
returns-clause-others g c =
    let size = c.fill.auto.frame ∙ part_length c.args.frames.now c.start_of-start.result c.frame_len.result (omega (arith, c.start_of-start.ensures.inside, c.frame_len.ensures)) ∙ c.frame_len.ensures in
    put_there c.args.g.now c.args.frames.now c.fill.new.frame c.args.f c.start_of-start.result (c.start_of-start.result + c.frame_len.result) c.start_of-start.ensures.start (omega (arith, c.frame_len.ensures)) (omega (arith, c.start_of-start.ensures.inside, c.frame_len.ensures)) size
