use Rattle.std.proofs.Common.{◌≡◌, refl, rules, Ok, Err}
use Rattle.room_laws.proofs.Sorted.{tidy_tells_free}
use Rattle.flash_view.specs.Steps.{Stepped}
use Rattle.flash_view.proofs.Stepped.{looked, look_faults, passes, stepped_then}
use Rattle.volume.specs.Checking.{check_stopped}
use Rattle.volume.proofs.Clearing.{counting, counted_keeps, tidy_keeps, cleared_counted}
use Rattle.volume.proofs.checking.clear.Goals as goal

pub returns-in_err-sweep : goal.returns-in_err-sweep
returns-in_err-sweep g c =
    let is : c.from_residual.result ≡ Err c.in_err-sweep.field-0.0 = search rules in
    passes c.in_err-sweep.ensures is (λ tells tidy. record { needs = tidy; cut = λ c cut. cut })

pub returns-in_err-free_blocks : goal.returns-in_err-free_blocks
returns-in_err-free_blocks g c =
    let seen = c.in_err-free_blocks.ensures in
    let failed = c.from_residual-in_err-free_blocks in
    let look : Stepped check_stopped c.sweep.new.v c.free_blocks.new.v failed.result counting = look_faults seen.looks.only seen.looks.cause failed.ensures.0 failed.ensures.1 (λ tells tidy. refl) in
    stepped_then c.in_ok-sweep.ensures look (λ tells tidy. record { needs = tidy; cut = λ c cut. cut })
    (λ tells tidy swept. record { needs = swept.tidy; cut = λ c cut. counted_keeps _ _ _ c (tidy_keeps _ _ _ swept) cut; done = λ c free w. cleared_counted _ _ _ c free swept w })

pub returns : goal.returns
returns g c =
    let seen = c.in_ok-free_blocks.ensures in
    let look : Stepped check_stopped c.sweep.new.v c.free_blocks.new.v (Ok c.in_ok-free_blocks.field-0) counting = looked seen.looks.only (λ e. absurd (cc)) tt (λ tells tidy. (refl, (refl, seen.looks.told tells (tidy_tells_free _ _ tidy)))) in
    stepped_then c.in_ok-sweep.ensures look (λ tells tidy. record { needs = tidy; cut = λ c cut. cut })
    (λ tells tidy swept. record { needs = swept.tidy; cut = λ c cut. counted_keeps _ _ _ c (tidy_keeps _ _ _ swept) cut; done = λ c free w. cleared_counted _ _ _ c free swept w })
