use Rattle.std.proofs.Common.{◌≡◌, true, false, sym, ◌∙◌}
use Rattle.std.specs.Prelude.{is_some}
use Rattle.image_model.specs.Live.{live_at, own}
use Rattle.image_model.specs.Files.{data_of}
use Rattle.file_read.proofs.Names.{named_there, named_nowhere}
use Rattle.file_read.proofs.read.find_data.Goals as goal

pub returns-then-branch-clause-told : goal.returns-then-branch-clause-told
returns-then-branch-clause-told g c = λ tells.
    let view = c.args.v.now in
    let image = g.N.NorState.bytes view.nor.now in
    let word = c.in_ok-page.ensures in
    let is = rw (word.looks.same.geometry, word.looks.reads.bytes, c.if-branch.true) at (c.in_ok-is_data_of.ensures.told (word.looks.reads.told tells)) in
    named_there view.geometry image c.args.id c.args.index c.args.span c.in_ok-page.page (rw c.entry_place-at.ensures.place at (word.told tells)) is

pub returns-else-branch-clause-told : goal.returns-else-branch-clause-told
returns-else-branch-clause-told g c = λ tells.
    let view = c.args.v.now in
    let image = g.N.NorState.bytes view.nor.now in
    let word = c.in_ok-page.ensures in
    let is = rw (word.looks.same.geometry, word.looks.reads.bytes, c.if-branch.false) at (c.in_ok-is_data_of.ensures.told (word.looks.reads.told tells)) in
    named_nowhere view.geometry image c.args.id c.args.index c.args.span c.in_ok-page.page (rw c.entry_place-at.ensures.place at (word.told tells)) is
