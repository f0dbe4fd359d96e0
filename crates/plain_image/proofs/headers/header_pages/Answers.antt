use Rattle.std.proofs.Common.{◌≡◌, arith, subst}
use Rattle.geometry.specs.Numbers.{page_count, per_block}
use Rattle.image_model.specs.Live.{live_at}
use Rattle.plain_image.proofs.Headed.{none_noted, noted_more, all_noted}
use Rattle.plain_image.specs.Headed.{HeadsFrom}
use Rattle.plain_image.proofs.headers.header_pages.Goals as goal

pub loop-p-init : goal.loop-p-init
unfolding page_count per_block
loop-p-init c = none_noted _ _ _ _ c.pages-p.ensures.count c.in_ok-heads.ensures

pub loop-p-preserved : goal.loop-p-preserved
loop-p-preserved c = noted_more _ _ c.loop-p.p _ c.loop-p.heads.items _ (omega arith) c.loop-p.invariant c.note_header.ensures.len c.note_header.ensures.each

pub returns : goal.returns
returns c = all_noted _ _ _ (let none : c.loop-p.p ≡ 0 = omega arith in subst (λ p. HeadsFrom c.args.g.now (live_at c.args.g.now c.args.image.now) p c.loop-p.heads.items) none c.loop-p.invariant)
