use Rattle.std.proofs.Common.{◌≡◌, ◌∙◌, ◌+◌, ◌-◌, ◌*◌, ℕ, true, false, not, refl, ap}
use Rattle.std.specs.Prelude.{is_none}
use Rattle.nor_core.specs.Flash.{word_at}
use Rattle.image_model.specs.Places.{page_of}
use Rattle.image_model.specs.Live.{live_at, own}
use Rattle.file_find.specs.Judging.{entry_data, missing_entry}
use Rattle.flash_view.proofs.Finds.{find_here, find_later}
use Rattle.file_find.proofs.Spans.{data_gone}
use Rattle.flash_view.proofs.Looking.{looks_then}
use Rattle.file_find.proofs.judging.missing_in.Goals as goal

pub loop-span-init : goal.loop-span-init
unfolding missing_entry
loop-span-init g c =
    let f = c.in_ok-fetch.ensures in
    record { looks = f.looks; built = f.built; fetched = f.told; told = λ tells. refl }

pub returns-then-not-branch-clause-told : goal.returns-then-not-branch-clause-told
returns-then-not-branch-clause-told g c = λ tells.
    let was = c.loop-span.invariant in
    let view = c.args.v.now in
    let image = g.N.NorState.bytes view.nor.now in
    let pages = own (live_at view.geometry image) c.args.id in
    let page = page_of view.geometry image c.args.index in
    let held : c.fetched.result.now ≡ page = (rw was.looks.same.geometry at c.fetched.ensures.bytes) ∙ was.fetched tells in
    let word : c.read_word-page.result ≡ word_at page (c.args.at + 2 * (c.loop-span.span - c.args.first)) = c.read_word-page.ensures ∙ ap (λ bytes. word_at bytes (c.args.at + 2 * (c.loop-span.span - c.args.first))) held in
    let gone = data_gone pages page c.args.at c.args.first c.loop-span.span c.read_word-page.result _ word (rw (was.looks.same.geometry, was.looks.reads.bytes) at (c.in_ok-is_data_of.ensures.told (was.looks.reads.told tells))) in
    find_here (λ (s : ℕ). is_none (entry_data pages page c.args.at c.args.first s)) _ _ _ c.loop-span-test.true (was.told tells) (gone ∙ ap not c.if-not-branch.true)

pub loop-span-preserved : goal.loop-span-preserved
loop-span-preserved g c =
    let was = c.loop-span.invariant in
    let looked = c.in_ok-is_data_of.ensures in
    record {
      looks = looks_then was.looks looked.looks;
      built = rw looked.work was.built;
      fetched = λ tells. rw looked.work (was.fetched tells);
      told = λ tells.
          let view = c.args.v.now in
          let image = g.N.NorState.bytes view.nor.now in
          let pages = own (live_at view.geometry image) c.args.id in
          let page = page_of view.geometry image c.args.index in
          let held : c.fetched.result.now ≡ page = (rw was.looks.same.geometry at c.fetched.ensures.bytes) ∙ was.fetched tells in
          let word : c.read_word-page.result ≡ word_at page (c.args.at + 2 * (c.loop-span.span - c.args.first)) = c.read_word-page.ensures ∙ ap (λ bytes. word_at bytes (c.args.at + 2 * (c.loop-span.span - c.args.first))) held in
          let gone = data_gone pages page c.args.at c.args.first c.loop-span.span c.read_word-page.result _ word (rw (was.looks.same.geometry, was.looks.reads.bytes) at (looked.told (was.looks.reads.told tells))) in
          find_later (λ (s : ℕ). is_none (entry_data pages page c.args.at c.args.first s)) _ _ _ c.loop-span-test.true (was.told tells) (gone ∙ ap not c.if-not-branch.false);
    }
