use Rattle.std.proofs.Common.{◌≡◌, ◌∙◌, arith, sym}
use Rattle.image_model.specs.Live.{live_at, own}
use Rattle.image_model.specs.Files.{index_page}
use Rattle.flash_view.proofs.Looking.{looks_then, built_then}
use Rattle.file_find.proofs.Noting.{no_heads_more, next_here, next_nowhere}
use Rattle.file_find.proofs.marks.next_marked.Goals as goal

pub returns-in-Some-clause-looks : goal.returns-in-Some-clause-looks
returns-in-Some-clause-looks g c = looks_then c.loop-id.invariant.looks c.in_ok-page.ensures.looks

pub returns-in-Some-clause-told : goal.returns-in-Some-clause-told
returns-in-Some-clause-told g c = λ tells.
    let was = c.loop-id.invariant in
    let geo = c.args.v.now.geometry in
    let image = g.N.NorState.bytes c.args.v.now.nor.now in
    let first : c.in_ok-page.field-0 ≡ index_page geo (own (live_at geo image) c.loop-id.id) 0 = rw (was.looks.same.geometry, was.looks.reads.bytes) at (c.in_ok-page.ensures.told (was.looks.reads.told tells)) in
    next_here geo image c.args.after c.loop-id.id c.in-Some.page was.low (was.told tells) (sym c.in-Some.is ∙ first)

pub loop-id-preserved : goal.loop-id-preserved
loop-id-preserved g c =
    let was = c.loop-id.invariant in
    let looked = c.in_ok-page.ensures in
    record {
      end = was.end;
      low = omega (arith, was.low);
      looks = looks_then was.looks looked.looks;
      built = built_then was.looks was.built _ looked.built;
      told = λ tells.
          let geo = c.args.v.now.geometry in
          let image = g.N.NorState.bytes c.args.v.now.nor.now in
          let first : c.in_ok-page.field-0 ≡ index_page geo (own (live_at geo image) c.loop-id.id) 0 = rw (was.looks.same.geometry, was.looks.reads.bytes) at (looked.told (was.looks.reads.told tells)) in
          no_heads_more geo image c.args.after c.loop-id.id (was.told tells) (sym c.in_default.is ∙ first);
    }

pub returns-clause-told : goal.returns-clause-told
returns-clause-told g c = λ tells.
    let was = c.loop-id.invariant in
    next_nowhere c.args.v.now.geometry (g.N.NorState.bytes c.args.v.now.nor.now) c.args.after c.loop-id.id (omega (arith, was.end, c.loop-id-test.false)) (was.told tells)
