use Rattle.std.proofs.Common.{◌≡◌, ◌∙◌, sym, ap, false, Some}
use Rattle.geometry.specs.Numbers.{page_count}
use Rattle.image_model.specs.Headers.{name_of}
use Rattle.image_model.specs.Places.{page_of}
use Rattle.file_find.specs.Ids.{is_noted, name_number}
use Rattle.file_find.specs.Marks.{name_mark}
use Rattle.file_find.proofs.Naming.{first_name, new_name}
use Rattle.file_find.proofs.marks.mark_whole.Goals as goal

pub returns-then-note_name-clause-told : goal.returns-then-note_name-clause-told
returns-then-note_name-clause-told g c = λ tells marked named.
    let view = c.args.v.now in
    let image = g.N.NorState.bytes view.nor.now in
    let is : name_of (page_of view.geometry image c.args.page) ≡ Some c.in-Some.name = sym (c.in_ok-name.ensures.told tells) ∙ c.in-Some.is in
    let clear : is_noted c.args.marks.now (page_count view.geometry) (name_number c.in-Some.name) ≡ false =
    rw (c.pages.ensures.count, c.in_ok-name.ensures.looks.same.geometry, c.as_slice.ensures.bytes) at (first_name _ _ c.if-note_name.true c.note_name.ensures.first) in
    c.name_mark.ensures ∙ ap name_mark c.as_slice-then-note_name.ensures.bytes ∙ new_name view.geometry image c.args.marks.now c.in-Some.name c.args.page _ named clear is
