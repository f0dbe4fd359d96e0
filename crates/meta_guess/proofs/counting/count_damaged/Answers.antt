use Rattle.std.proofs.Common.{◌≡◌, ℕ, List, length, ap, sym, arith}
use Rattle.image_model.specs.declared.damage.Damage.{Damage}
use Rattle.flash_view.proofs.Looking.{looks_none, looks_then}
use Rattle.file_find.specs.Listing.{damaged_above}
use Rattle.meta_guess.proofs.Found.{damaged_first, damaged_more, damaged_last}
use Rattle.meta_guess.proofs.counting.count_damaged.Goals as goal

pub ids-init : goal.ids-init
ids-init g c = record {
  looks = looks_none c.args.v.now;
  few = omega arith;
  told = λ tells. damaged_first c.args.v.now.geometry (g.N.NorState.bytes c.args.v.now.nor.now);
}

pub ids-preserved : goal.ids-preserved
ids-preserved g c =
    let was = c.ids.invariant in
    let turn = c.in_ok-next.ensures in
    let above = rw c.in-Some.is at turn.above in
    record {
      looks = looks_then was.looks turn.looks;
      few = omega (arith, was.few, above);
      told = λ tells.
          let geo = c.args.v.now.geometry in
          let image = g.N.NorState.bytes c.args.v.now.nor.now in
          let found : c.in_ok-next.field-0 ≡ damaged_above geo image c.ids.after = rw (was.looks.same.geometry, was.looks.reads.bytes) at (turn.told (was.looks.reads.told tells)) in
          damaged_more geo image c.ids.after c.ids.count c.in_ok-next.field-0 c.in-Some.next found c.in-Some.is (was.told tells);
    }

pub returns-clause-told : goal.returns-clause-told
returns-clause-told g c = λ tells.
    let was = c.ids.invariant in
    let geo = c.args.v.now.geometry in
    let image = g.N.NorState.bytes c.args.v.now.nor.now in
    let found : c.in_ok-next.field-0 ≡ damaged_above geo image c.ids.after = rw (was.looks.same.geometry, was.looks.reads.bytes) at (c.in_ok-next.ensures.told (was.looks.reads.told tells)) in
    damaged_last geo image c.ids.after c.ids.count c.in_ok-next.field-0 found c.in_default.is (was.told tells)

pub returns-clause-looks : goal.returns-clause-looks
returns-clause-looks g c = looks_then c.ids.invariant.looks c.in_ok-next.ensures.looks

pub returns-then-none_damaged-clause-told : goal.returns-then-none_damaged-clause-told
returns-then-none_damaged-clause-told g c = λ tells. sym (ap (λ (ds : List (ℕ × Damage)). length ds) ((c.none_damaged.ensures tells).0 c.if-none_damaged.true))
