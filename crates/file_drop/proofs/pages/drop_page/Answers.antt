use Rattle.std.proofs.Common.{◌≡◌, true, false, sym, ◌∙◌, arith}
use Rattle.flash_view.proofs.Looking.{looks_none}
use Rattle.flash_view.proofs.Stepped.{looked, weaker}
use Rattle.file_drop.proofs.Killing.{drops}
use Rattle.file_drop.proofs.Passing.{keeps_none, drops_none}
use Rattle.file_drop.proofs.Seeing.{left_by_header, byte_by_header}
use Rattle.file_drop.proofs.pages.drop_page.Goals as goal

pub returns-then-not-is_past-clause-step : goal.returns-then-not-is_past-clause-step
returns-then-not-is_past-clause-step g c =
    looked (looks_none c.args.v.now) (λ e. absurd (cc)) tt (λ tells o. (keeps_none _ _ _ _ o.0, drops_none _ _ _ _ _ (sym (left_by_header _ _ _ _ _ _ o.1) ∙ sym c.is_past.ensures.is ∙ c.if-not-is_past.true) o.0))

pub returns-clause-step : goal.returns-clause-step
returns-clause-step g c =
    weaker c.kill.ensures.live (λ tells o. drops _ _ _ _ _ c.args.head o.0 (sym (left_by_header _ _ _ _ _ _ o.1) ∙ sym c.is_past.ensures.is ∙ c.if-not-is_past.false) (byte_by_header _ _ _ _ o.1 c.is_past.ensures.byte))

pub returns-then-not-is_past-clause-few : goal.returns-then-not-is_past-clause-few
returns-then-not-is_past-clause-few g c = omega arith

pub returns-then-not-is_past-clause-spares : goal.returns-then-not-is_past-clause-spares
returns-then-not-is_past-clause-spares g c = λ other. omega arith

pub returns-clause-few : goal.returns-clause-few
returns-clause-few g c = omega (arith, c.kill.ensures.few)

pub returns-clause-spares : goal.returns-clause-spares
returns-clause-spares g c = λ other. let bad : true ≡ false = sym (sym c.is_past.ensures.is ∙ c.if-not-is_past.false) ∙ other in absurd (cc)
