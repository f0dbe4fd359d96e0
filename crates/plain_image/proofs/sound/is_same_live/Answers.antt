use Rattle.std.proofs.Common.{◌∙◌, ◌<◌, ◌≤◌, refl, sym, arith, ⊎_elim}
use Rattle.std.proofs.lemmas.Bool.{cases_lt}
use Rattle.geometry.specs.Numbers.{page_count}
use Rattle.plain_image.proofs.Mixed.{outside}
use Rattle.plain_image.proofs.sound.is_same_live.Goals as goal

pub returns : goal.returns
returns c = (
  λ h p. ⊎_elim
      (λ (low : p < page_count c.args.g.now). c.loop-p.invariant p (omega (arith, c.pages-p-end.ensures.count)))
      (λ (high : page_count c.args.g.now ≤ p). outside c.args.g.now c.args.b.now p high ∙ sym (outside c.args.g.now c.args.a.now p high))
      (cases_lt p (page_count c.args.g.now)),
  λ h. refl,
)
