use Rattle.std.proofs.Common.{◌≡◌, ℕ, true, sym, subst}
use Rattle.geometry.specs.Rules.{is_page}
use Rattle.volume_detect.proofs.Sizes.{page_is_page}
use Rattle.volume_detect.proofs.Refused.{no_volume}
use Rattle.volume_detect.proofs.volumes.volume_of.Goals as goal

pub returns-in-Err-clause-refused : goal.returns-in-Err-clause-refused
returns-in-Err-clause-refused c = λ none.
    let power = c.requires.page in
    let taken : is_page c.args.page ≡ true = subst (λ (x : ℕ). is_page x ≡ true) (sym power.2) (page_is_page power.0 power.1) in
    no_volume c.args.page c.args.block c.args.blocks c.in-Err.field-0 taken c.in-Err.ensures.refused
