use Rattle.flash_trace.proofs.Testing.{told_no, not_told, ok_told}
use Rattle.flash_trace.proofs.Saying.{says_here, here_says}
use Rattle.flash_trace.proofs.going.is_good.Goals as goal

pub returns-then-not-sound : goal.returns-then-not-sound
returns-then-not-sound c = told_no _ (λ good. not_told _ _ c.requires.picture.sound c.if-not-sound.true good.sound)

pub returns : goal.returns
returns c =
    let case = c.args.case.now in
    let going = c.args.going.now in
    ok_told _ _ _
    (λ s. record { sound = c.requires.picture.sound.0 c.if-not-sound.false; says = says_here case going.picture going.place c.requires.picture c.requires.place s })
    (λ good. here_says case going.picture going.place c.requires.picture c.requires.place good.says)
    c.says.ensures
