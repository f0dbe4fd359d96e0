use Rattle.std.proofs.Common.{◌≡◌, sym, ◌∙◌, ap, None, false}
use Rattle.std.specs.Prelude.{is_none}
use Rattle.table_model.specs.Room.{data_pages}
use Rattle.image_model.specs.Headers.{name_of, size_of}
use Rattle.image_model.specs.Places.{page_of}
use Rattle.image_model.specs.Live.{live_at, own}
use Rattle.file_find.specs.Judging.{missing_between}
use Rattle.file_find.proofs.Spans.{cause_name, cause_span, is_none_true, none_by}
use Rattle.file_find.proofs.judging.judge.Goals as goal

pub returns-then-is_none-clause-told : goal.returns-then-is_none-clause-told
returns-then-is_none-clause-told g c = λ tells.
    let view = c.args.v.now in
    let image = g.N.NorState.bytes view.nor.now in
    let page = page_of view.geometry image c.args.header in
    let none : name_of page ≡ None = is_none_true (name_of page) (ap is_none (sym (c.in_ok-name.ensures.named tells)) ∙ none_by _ _ _ c.is_none.ensures c.if-is_none.true) in
    cause_name view.geometry (own (live_at view.geometry image) c.args.id) page c.args.id none

pub returns-in-Some-clause-told : goal.returns-in-Some-clause-told
returns-in-Some-clause-told g c = λ tells.
    let view = c.args.v.now in
    let geo = view.geometry in
    let image = g.N.NorState.bytes view.nor.now in
    let pages = own (live_at geo image) c.args.id in
    let page = page_of geo image c.args.header in
    let head = c.in_ok-name.ensures in
    let named : is_none (name_of page) ≡ false = ap is_none (sym (head.named tells)) ∙ none_by _ _ _ c.is_none.ensures c.if-is_none.false in
    let told : c.in_ok-span.field-0 ≡ missing_between geo pages page 0 (data_pages geo (size_of page)) =
    rw (c.data_pages-spans.ensures.pages, head.sized tells, head.looks.same.geometry, head.looks.reads.bytes) at (c.in_ok-span.ensures.told (head.looks.reads.told tells)) in
    rw c.in-Some.is at (cause_span geo pages page c.args.id c.in_ok-span.field-0 named told)

pub returns-in-None-clause-told : goal.returns-in-None-clause-told
returns-in-None-clause-told g c = λ tells.
    let view = c.args.v.now in
    let geo = view.geometry in
    let image = g.N.NorState.bytes view.nor.now in
    let pages = own (live_at geo image) c.args.id in
    let page = page_of geo image c.args.header in
    let head = c.in_ok-name.ensures in
    let named : is_none (name_of page) ≡ false = ap is_none (sym (head.named tells)) ∙ none_by _ _ _ c.is_none.ensures c.if-is_none.false in
    let told : c.in_ok-span.field-0 ≡ missing_between geo pages page 0 (data_pages geo (size_of page)) =
    rw (c.data_pages-spans.ensures.pages, head.sized tells, head.looks.same.geometry, head.looks.reads.bytes) at (c.in_ok-span.ensures.told (head.looks.reads.told tells)) in
    rw c.in-None.is at (cause_span geo pages page c.args.id c.in_ok-span.field-0 named told)
