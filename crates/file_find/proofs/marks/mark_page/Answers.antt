use Rattle.std.proofs.Common.{◌≡◌, ◌∙◌, ◌<◌, length, sym, arith}
use Rattle.std.proofs.lemmas.List.{get_or-set_other, get_or-set_same}
use Rattle.geometry.specs.Numbers.{page_count}
use Rattle.file_find.specs.Ids.{Notes}
use Rattle.file_find.specs.Marks.{head_mark, mark_of}
use Rattle.file_find.proofs.Naming.{notes_then, names_still, names_more}
use Rattle.file_find.proofs.Noting.{surveyed_more, marked_still}
use Rattle.file_find.proofs.marks.mark_page.Goals as goal

pub returns-clause-behind : goal.returns-clause-behind
returns-clause-behind g c = λ p more low.
    let view = c.args.v.now in
    get_or-set_other c.mark.new.marks c.args.page p c.in_ok-marks.field-0 0 (λ e. omega (arith, e, more)) ∙ c.in_ok-marks.ensures.names.pages p low ∙ (rw c.pages.ensures.count at c.note_first-first.ensures.notes).pages p low

pub returns-clause-told : goal.returns-clause-told
returns-clause-told g c = λ tells is was named.
    let view = c.args.v.now in
    let image = g.N.NorState.bytes view.nor.now in
    let noted = c.note_first-first in
    let start : c.pages.result ≡ page_count view.geometry = c.pages.ensures.count in
    let notes : Notes (page_count view.geometry) c.args.found c.args.marks.now noted.new.marks = rw start at noted.ensures.notes in
    let mark : c.in_ok-marks.field-0 ≡ head_mark view.geometry image noted.result c.args.page =
    c.in_ok-marks.ensures.told tells (marked_still view.geometry image c.args.marks.now noted.new.marks c.args.page _ c.requires.page was notes) (names_still view.geometry image c.args.marks.now noted.new.marks c.args.page _ notes named) in
    surveyed_more view.geometry image c.args.marks.now c.mark.new.marks c.args.page c.in_ok-marks.field-0 _ noted.result c.requires.page (omega (arith, c.requires.page, c.requires.room, noted.auto.marks, c.mark.auto.marks)) was is
    (rw start at noted.ensures.first) (notes_then _ _ _ _ _ notes c.in_ok-marks.ensures.names) mark

pub returns-clause-names : goal.returns-clause-names
returns-clause-names g c = λ tells is was named.
    let view = c.args.v.now in
    let image = g.N.NorState.bytes view.nor.now in
    let noted = c.note_first-first in
    let notes : Notes (page_count view.geometry) c.args.found c.args.marks.now noted.new.marks = rw c.pages.ensures.count at noted.ensures.notes in
    let room : c.args.page < length c.mark.new.marks = omega (arith, c.requires.page, c.requires.room, noted.auto.marks, c.mark.auto.marks) in
    let right : c.in_ok-marks.field-0 ≡ mark_of view.geometry image c.args.page =
    sym (get_or-set_same c.mark.new.marks c.args.page c.in_ok-marks.field-0 0 room) ∙ (returns-clause-told g c tells is was named).marked.each c.args.page (omega arith) in
    names_more view.geometry image c.args.marks.now noted.new.marks c.mark.new.marks c.args.page c.in_ok-marks.field-0 _ c.requires.page notes c.in_ok-marks.ensures.names right (c.in_ok-marks.ensures.named tells) named
