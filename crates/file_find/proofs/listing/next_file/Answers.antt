use Rattle.std.proofs.Common.{◌∙◌, sym, subst, Some, None, Option, ℕ, arith}
use Rattle.file_find.specs.Marks.{NextHead}
use Rattle.file_find.proofs.Holders.{listed_none, unlisted_some}
use Rattle.file_find.proofs.Noting.{head_marked}
use Rattle.file_find.proofs.Stepping.{file_more, file_next, file_last}
use Rattle.flash_view.proofs.Looking.{looks_then, built_then}
use Rattle.file_find.proofs.listing.next_file.Goals as goal

pub returns-then-is_listed-clause-told : goal.returns-then-is_listed-clause-told
returns-then-is_listed-clause-told g c = λ tells.
    let was = c.ids.invariant in
    let geo = c.args.v.now.geometry in
    let image = g.N.NorState.bytes c.args.v.now.nor.now in
    let head = c.in_ok-id.ensures in
    let from = rw (was.looks.same.geometry, was.looks.reads.bytes) at (head.told (was.looks.reads.told tells)) in
    let next : NextHead geo image c.ids.at (Some (c.in-Some.id, c.in-Some.header)) = subst (λ (o : Option (ℕ × ℕ)). NextHead geo image c.ids.at o) c.in-Some.is from in
    let mark = head_marked geo image c.args.marks.now c.in-Some.id c.in-Some.header (c.requires.marked tells) next.1 in
    file_next geo image c.args.after c.ids.at c.in-Some.id c.in-Some.header next (was.told tells) (listed_none geo image c.in-Some.id c.in-Some.header _ next.1 mark (sym c.is_listed.ensures ∙ c.if-is_listed.true))

pub ids-preserved : goal.ids-preserved
ids-preserved g c =
    let was = c.ids.invariant in
    let head = c.in_ok-id.ensures in
    record {
      looks = looks_then was.looks head.looks;
      built = built_then was.looks was.built _ head.built;
      low = (let above = rw c.in-Some.is at head.above in omega (arith, above, was.low));
      told = λ tells.
          let geo = c.args.v.now.geometry in
          let image = g.N.NorState.bytes c.args.v.now.nor.now in
          let from = rw (was.looks.same.geometry, was.looks.reads.bytes) at (head.told (was.looks.reads.told tells)) in
          let next : NextHead geo image c.ids.at (Some (c.in-Some.id, c.in-Some.header)) = subst (λ (o : Option (ℕ × ℕ)). NextHead geo image c.ids.at o) c.in-Some.is from in
          let mark = head_marked geo image c.args.marks.now c.in-Some.id c.in-Some.header (c.requires.marked tells) next.1 in
          let some = unlisted_some geo image c.in-Some.id c.in-Some.header _ next.1 mark (sym c.is_listed.ensures ∙ c.if-is_listed.false) in
          file_more geo image c.args.after c.ids.at c.in-Some.id c.in-Some.header next some.0 (was.told tells) some.1;
    }

pub returns-clause-told : goal.returns-clause-told
returns-clause-told g c = λ tells.
    let was = c.ids.invariant in
    let geo = c.args.v.now.geometry in
    let image = g.N.NorState.bytes c.args.v.now.nor.now in
    let from = rw (was.looks.same.geometry, was.looks.reads.bytes) at (c.in_ok-id.ensures.told (was.looks.reads.told tells)) in
    let last : NextHead geo image c.ids.at None = subst (λ (o : Option (ℕ × ℕ)). NextHead geo image c.ids.at o) c.in_default.is from in
    file_last geo image c.args.after c.ids.at last (was.told tells)

pub returns-then-is_listed-clause-looks : goal.returns-then-is_listed-clause-looks
returns-then-is_listed-clause-looks g c = looks_then c.ids.invariant.looks c.in_ok-id.ensures.looks

pub returns-clause-looks : goal.returns-clause-looks
returns-clause-looks g c = looks_then c.ids.invariant.looks c.in_ok-id.ensures.looks
