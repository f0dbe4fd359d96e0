use Rattle.std.proofs.Common.{◌≡◌, ℕ, ◌+◌, ◌%◌, ◌<◌, List, get_or, sym, subst, ap, arith, rules}
use Rattle.std.proofs.lemmas.Grind.{common_steps}
use Rattle.nor_core.specs.Draws.{number_after, drawn}
use Rattle.nor_core.proofs.Draws.{number_after-none, number_next, drawn_next}
use Rattle.nor_memory.proofs.Pushing.{each_pushed}
use Rattle.nor_memory.proofs.cut.drawn_bytes.Goals as goal

pub loop-i-init : goal.loop-i-init
loop-i-init c = record { number = number_after-none c.args.seed; size = search rules; each = λ k below. absurd (omega arith) }

pub loop-i-preserved : goal.loop-i-preserved
loop-i-preserved c =
    let next : c.draw.new.x ≡ number_after c.args.seed (c.loop-i.i + 1) = number_next _ _ _ _ c.loop-i.invariant.number c.draw.ensures.number in
    let gives : c.draw.result ≡ drawn c.args.seed c.loop-i.i = drawn_next _ _ _ _ c.loop-i.invariant.number c.draw.ensures.number _ c.draw.ensures.drawn in
    record { number = next; size = grind (arith, common_steps); each = subst (λ (l : List ℕ). (k : ℕ) → k < c.loop-i.i + 1 → get_or l k 0 ≡ drawn c.args.seed k % 256) (sym c.in_ok-push.ensures.items) (each_pushed (λ (k : ℕ). drawn c.args.seed k % 256) _ _ _ c.loop-i.invariant.size c.loop-i.invariant.each (ap (λ (n : ℕ). n % 256) gives)) }
