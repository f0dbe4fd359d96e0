use Rattle.std.proofs.Common.{◌≡◌, refl, rules, Ok, Err}
use Rattle.room_laws.proofs.Sorted.{tidy_tells_free}
use Rattle.flash_view.specs.Steps.{Stepped}
use Rattle.flash_view.proofs.Looking.{looks_none}
use Rattle.flash_view.proofs.Stepped.{looked, look_faults, passes, stepped_then}
use Rattle.volume.specs.Checking.{check_stopped}
use Rattle.volume.proofs.Clearing.{counting}
use Rattle.volume.proofs.Finishing.{divides_none, divided_cut, divided_counted}
use Rattle.volume.proofs.checking.divide.Goals as goal

pub returns-then-not-shares-clause-step : goal.returns-then-not-shares-clause-step
returns-then-not-shares-clause-step g c =
    let none = c.if-not-shares.true in
    looked (looks_none c.args.v.now) (λ e. absurd (cc)) tt (λ tells judged. divides_none _ _ c.args.shares c.args.free none judged)

pub returns-in_err-part-clause-step : goal.returns-in_err-part-clause-step
returns-in_err-part-clause-step g c =
    let is : c.from_residual.result ≡ Err c.in_err-part.field-0.0 = search rules in
    passes c.in_err-part.ensures is (λ tells judged. record { needs = (judged.neat, judged.fitting.0); cut = λ c cut. cut })

pub returns-in_err-free_blocks-clause-step : goal.returns-in_err-free_blocks-clause-step
returns-in_err-free_blocks-clause-step g c =
    let seen = c.in_err-free_blocks.ensures in
    let failed = c.from_residual-in_err-free_blocks in
    let look : Stepped check_stopped c.part.new.v c.free_blocks.new.v failed.result counting =
    look_faults seen.looks.only seen.looks.cause failed.ensures.0 failed.ensures.1 (λ tells tidy. refl) in
    stepped_then c.in_ok-part.ensures look (λ tells judged. record { needs = (judged.neat, judged.fitting.0); cut = λ c cut. cut })
    (λ tells judged parted. record {
      needs = parted.tidy;
      cut = λ image cut. divided_cut _ _ _ image parted cut;
      done = λ image free w. divided_counted _ _ _ image c.args.shares free c.args.free c.if-not-shares.false judged parted w;
    })

pub returns-clause-step : goal.returns-clause-step
returns-clause-step g c =
    let seen = c.in_ok-free_blocks.ensures in
    let look : Stepped check_stopped c.part.new.v c.free_blocks.new.v (Ok c.in_ok-free_blocks.field-0) counting =
    looked seen.looks.only (λ e. absurd (cc)) tt (λ tells tidy. (refl, (refl, seen.looks.told tells (tidy_tells_free _ _ tidy)))) in
    stepped_then c.in_ok-part.ensures look (λ tells judged. record { needs = (judged.neat, judged.fitting.0); cut = λ c cut. cut })
    (λ tells judged parted. record {
      needs = parted.tidy;
      cut = λ image cut. divided_cut _ _ _ image parted cut;
      done = λ image free w. divided_counted _ _ _ image c.args.shares free c.args.free c.if-not-shares.false judged parted w;
    })
