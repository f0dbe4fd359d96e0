use Rattle.std.proofs.Common.{◌≡◌, ◌<◌, length, map, arith}
use Rattle.plain_table.specs.Seen.{file}
use Rattle.plain_table.proofs.Among.{same_at}
use Rattle.plain_table.proofs.same.are_same.Goals as goal

pub returns-then-not-is_same : goal.returns-then-not-is_same
returns-then-not-is_same c = (
  λ h. absurd (grind arith),
  λ (all : map file c.args.a.now ≡ map file c.args.b.now).
      let within : c.loop-i.i < length c.args.b.now = (let len = c.loop-i.invariant.0 in let low = c.loop-i-test.true in omega (arith, len, low)) in
      let yes = c.is_same.ensures.1 (same_at file c.args.a.now c.args.b.now c.loop-i.i _ _ c.loop-i-test.true within c.index-a-i.is c.index-b-i.is all) in
      absurd (grind (arith, yes)),
)
