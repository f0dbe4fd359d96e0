use Rattle.std.proofs.Common.{◌≡◌, ◌∙◌, true, false, sym, arith}
use Rattle.file_find.proofs.Undamaged.{none_damaged, no_mark}
use Rattle.file_find.proofs.no_damage.none_damaged.Goals as goal

pub returns-then-lacks : goal.returns-then-lacks
returns-then-lacks g c = λ tells.
    let view = c.args.v.now in
    let image = g.N.NorState.bytes view.nor.now in
    let marked = c.requires.marked tells in
    let few = c.pages-pages.ensures.count in (
      λ h. none_damaged view.geometry image c.args.marks.now marked
          (λ p low. c.lacks.ensures.0 c.if-lacks.true p (omega (arith, low, few)))
          (λ p low. c.lacks-then-lacks.ensures.0 h p (omega (arith, low, few))),
      λ none. c.lacks-then-lacks.ensures.1
          (λ p low. no_mark view.geometry image c.args.marks.now marked none 2 (λ z. omega (arith, z)) (omega arith) p (omega (arith, low, few))),
    )

pub returns-else-lacks : goal.returns-else-lacks
returns-else-lacks g c = λ tells.
    let view = c.args.v.now in
    let image = g.N.NorState.bytes view.nor.now in
    let few = c.pages-pages.ensures.count in (
      λ h. absurd (let bad : true ≡ false = sym h ∙ c.if-lacks.false in cc),
      λ none. c.lacks.ensures.1
          (λ p low. no_mark view.geometry image c.args.marks.now (c.requires.marked tells) none 1 (λ z. omega (arith, z)) (omega arith) p (omega (arith, low, few))),
    )
