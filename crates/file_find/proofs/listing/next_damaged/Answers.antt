use Rattle.std.proofs.Common.{◌≡◌, ◌∙◌, sym, subst, Some, None, Option, ℕ, arith}
use Rattle.file_find.specs.Marks.{NextHead, cause_at}
use Rattle.file_find.proofs.Stepping.{damage_more, damage_next, damage_last}
use Rattle.flash_view.proofs.Looking.{looks_then, built_then}
use Rattle.file_find.proofs.listing.next_damaged.Goals as goal

pub returns-in-Some-2-clause-told : goal.returns-in-Some-2-clause-told
returns-in-Some-2-clause-told g c = λ tells.
    let was = c.ids.invariant in
    let geo = c.args.v.now.geometry in
    let image = g.N.NorState.bytes c.args.v.now.nor.now in
    let head = c.in_ok-id.ensures in
    let from = rw (was.looks.same.geometry, was.looks.reads.bytes) at (head.told (was.looks.reads.told tells)) in
    let next : NextHead geo image c.ids.at (Some (c.in-Some.id, c.in-Some.header)) = subst (λ (o : Option (ℕ × ℕ)). NextHead geo image c.ids.at o) c.in-Some.is from in
    let cause : c.in_ok-cause.field-0 ≡ cause_at geo image c.in-Some.id =
    rw (head.looks.same.geometry, was.looks.same.geometry, head.looks.reads.bytes, was.looks.reads.bytes) at (c.in_ok-cause.ensures.told (head.looks.reads.told (was.looks.reads.told tells))) in
    damage_next geo image c.args.after c.ids.at c.in-Some.id c.in-Some.header next c.in-Some-2.cause (was.told tells) (sym c.in-Some-2.is ∙ cause)

pub ids-preserved : goal.ids-preserved
ids-preserved g c =
    let was = c.ids.invariant in
    let head = c.in_ok-id.ensures in
    record {
      looks = looks_then (looks_then was.looks head.looks) c.in_ok-cause.ensures.looks;
      built = built_then (looks_then was.looks head.looks) (built_then was.looks was.built _ head.built) _ c.in_ok-cause.ensures.built;
      low = (let above = rw c.in-Some.is at head.above in omega (arith, above, was.low));
      told = λ tells.
          let geo = c.args.v.now.geometry in
          let image = g.N.NorState.bytes c.args.v.now.nor.now in
          let from = rw (was.looks.same.geometry, was.looks.reads.bytes) at (head.told (was.looks.reads.told tells)) in
          let next : NextHead geo image c.ids.at (Some (c.in-Some.id, c.in-Some.header)) = subst (λ (o : Option (ℕ × ℕ)). NextHead geo image c.ids.at o) c.in-Some.is from in
          let cause : c.in_ok-cause.field-0 ≡ cause_at geo image c.in-Some.id =
          rw (head.looks.same.geometry, was.looks.same.geometry, head.looks.reads.bytes, was.looks.reads.bytes) at (c.in_ok-cause.ensures.told (head.looks.reads.told (was.looks.reads.told tells))) in
          damage_more geo image c.args.after c.ids.at c.in-Some.id c.in-Some.header next (was.told tells) (sym c.in_default-2.is ∙ cause);
    }

pub returns-clause-told : goal.returns-clause-told
returns-clause-told g c = λ tells.
    let was = c.ids.invariant in
    let geo = c.args.v.now.geometry in
    let image = g.N.NorState.bytes c.args.v.now.nor.now in
    let from = rw (was.looks.same.geometry, was.looks.reads.bytes) at (c.in_ok-id.ensures.told (was.looks.reads.told tells)) in
    let last : NextHead geo image c.ids.at None = subst (λ (o : Option (ℕ × ℕ)). NextHead geo image c.ids.at o) c.in_default.is from in
    damage_last geo image c.args.after c.ids.at last (was.told tells)

pub returns-in-Some-2-clause-looks : goal.returns-in-Some-2-clause-looks
returns-in-Some-2-clause-looks g c = looks_then (looks_then c.ids.invariant.looks c.in_ok-id.ensures.looks) c.in_ok-cause.ensures.looks

pub returns-clause-looks : goal.returns-clause-looks
returns-clause-looks g c = looks_then c.ids.invariant.looks c.in_ok-id.ensures.looks
