use Rattle.std.proofs.Common.{◌≡◌, ◌+◌, ◌-◌, ◌*◌, ◌<◌, ◌≤◌, ℕ, sym, ◌∙◌, refl, arith}
use Rattle.geometry.specs.Numbers.{per_block}
use Rattle.image_model.specs.Live.{live_at, own}
use Rattle.image_model.specs.Files.{is_index}
use Rattle.meta_tally.proofs.Finds.{find_here, find_later, find_past}
use Rattle.meta_tally.proofs.wholes.index_in.Goals as goal

pub loop-i-init : goal.loop-i-init
loop-i-init c =
    let base = c.args.block * per_block c.args.g.now in
    let at : base + 0 ≡ base = omega arith in
    let left : base + per_block c.args.g.now - base ≡ per_block c.args.g.now = omega arith in
    rw (at, left) refl

pub returns-then-is_sought : goal.returns-then-is_sought
returns-then-is_sought c =
    let g = c.args.g.now in
    let base = c.args.block * per_block g in
    let low : c.loop-i.i < per_block g = omega (arith, c.loop-i-test.true, c.per_block-i-end.ensures.count) in
    let here = find_here (λ (p : ℕ). is_index (own (live_at g c.args.image.now) c.args.id p) c.args.span) (base + c.loop-i.i) (base + per_block g) _ (omega (arith, low)) c.loop-i.invariant (sym c.is_sought.ensures ∙ c.if-is_sought.true) in
    rw c.per_block.ensures.count here

pub loop-i-preserved : goal.loop-i-preserved
loop-i-preserved c =
    let g = c.args.g.now in
    let base = c.args.block * per_block g in
    let low : c.loop-i.i < per_block g = omega (arith, c.loop-i-test.true, c.per_block-i-end.ensures.count) in
    let next : base + (c.loop-i.i + 1) ≡ base + c.loop-i.i + 1 = omega arith in
    rw next (find_later (λ (p : ℕ). is_index (own (live_at g c.args.image.now) c.args.id p) c.args.span) (base + c.loop-i.i) (base + per_block g) _ (omega (arith, low)) c.loop-i.invariant (sym c.is_sought.ensures ∙ c.if-is_sought.false))

pub returns : goal.returns
returns c =
    let g = c.args.g.now in
    let base = c.args.block * per_block g in
    let high : per_block g ≤ c.loop-i.i = omega (arith, c.loop-i-test.false, c.per_block-i-end.ensures.count) in
    find_past (λ (p : ℕ). is_index (own (live_at g c.args.image.now) c.args.id p) c.args.span) (base + c.loop-i.i) (base + per_block g) _ (omega (arith, high)) c.loop-i.invariant
