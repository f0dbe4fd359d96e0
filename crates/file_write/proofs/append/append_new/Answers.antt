use Rattle.std.proofs.Common.{◌≡◌, ◌/◌, ◌≤◌, ℕ, ap, arith}
use Rattle.std.specs.Prelude.{length}
use Rattle.geometry.specs.Numbers.{body, head_slots}
use Rattle.flash_view.proofs.Looking.{looks_none}
use Rattle.flash_view.proofs.Stepped.{looked}
use Rattle.file_write.proofs.AppendEnds.{stays}
use Rattle.file_write.proofs.Appending.{span_few}
use Rattle.file_write.proofs.Sizes.{far_fits}
use Rattle.file_write.proofs.append.append_new.Goals as goal

pub returns-then-span-gt65535-clause-step : goal.returns-then-span-gt65535-clause-step
returns-then-span-gt65535-clause-step g c = λ f.
    let geometry = c.args.v.now.geometry in
    let size = c.args.found.size in
    let same : size / c.body.result ≡ size / body geometry = ap (λ (n : ℕ). size / n) c.body.ensures in
    looked (looks_none c.args.v.now) (λ e. absurd (cc)) c.missing.ensures
    (λ tells can. (
      stays _ _ _ _ _ _ f can,
      absurd (let few : size / body geometry ≤ 0xFFFF = span_few geometry _ c.args.id c.args.found.header size c.args.from.now f can c.requires.whole in omega (arith, few, same, c.if-span-gt65535.true)),
    ))

pub append_near-requires-clause-fits : goal.append_near-requires-clause-fits
append_near-requires-clause-fits g c = rw c.body.ensures c.requires.fits

pub append_first-requires-clause-fits : goal.append_first-requires-clause-fits
append_first-requires-clause-fits g c =
    let far : head_slots c.args.v.now.geometry ≤ c.args.found.size / c.body.result = omega (arith, c.if-span-head_slots.false, c.head_slots.ensures) in
    far_fits c.args.v.now.geometry (c.args.found.size / c.body.result) (length c.args.from.now) far (rw c.body.ensures c.requires.fits)

pub append_far-requires-clause-fits : goal.append_far-requires-clause-fits
append_far-requires-clause-fits g c =
    let far : head_slots c.args.v.now.geometry ≤ c.args.found.size / c.body.result = omega (arith, c.if-span-head_slots.false, c.head_slots.ensures) in
    far_fits c.args.v.now.geometry (c.args.found.size / c.body.result) (length c.args.from.now) far (rw c.body.ensures c.requires.fits)
