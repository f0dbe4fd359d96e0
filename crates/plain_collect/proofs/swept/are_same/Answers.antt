use Rattle.std.proofs.Common.{◌≡◌, ◌<◌, ◌≤◌, IsTrue, true, length, map, refl, arith}
use Rattle.plain_image.specs.Seen.{file}
use Rattle.plain_collect.proofs.Walks.{walk_end, same_step, same_at}
use Rattle.plain_collect.proofs.swept.are_same.Goals as goal

pub returns-then-not-is_same : goal.returns-then-not-is_same
returns-then-not-is_same c = (
  λ h. absurd (grind arith),
  λ (all : map file c.args.a.now ≡ map file c.args.b.now).
      let within : c.loop-i.i < length c.args.b.now = (let len = c.loop-i.invariant.0 in let low = c.loop-i-test.true in omega (arith, len, low)) in
      let yes = c.is_same.ensures.1 (same_at file c.args.a.now c.args.b.now c.loop-i.i _ _ c.loop-i-test.true within c.index-a-i.is c.index-b-i.is (c.loop-i.invariant.1.1 all)) in
      absurd (grind (arith, yes)),
)

pub loop-i-preserved : goal.loop-i-preserved
loop-i-preserved c =
    let within : c.loop-i.i < length c.args.b.now = (let len = c.loop-i.invariant.0 in let low = c.loop-i-test.true in omega (arith, len, low)) in
    let step = same_step file c.args.a.now c.args.b.now c.loop-i.i _ _ c.loop-i-test.true within c.index-a-i.is c.index-b-i.is (c.is_same.ensures.0 c.if-not-is_same.false) in
    (c.loop-i.invariant.0, (λ h. c.loop-i.invariant.1.0 (step.0 h), λ h. step.1 (c.loop-i.invariant.1.1 h)))

pub returns : goal.returns
returns c =
    let past : length c.args.a.now ≤ c.loop-i.i = omega arith in
    let past_too : length c.args.b.now ≤ c.loop-i.i = (let len = c.loop-i.invariant.0 in omega (arith, len, past)) in
    (λ (h : IsTrue true). c.loop-i.invariant.1.0 (rw (walk_end c.args.a.now c.loop-i.i past, walk_end c.args.b.now c.loop-i.i past_too) refl), λ h. refl)
