use Rattle.std.proofs.Common.{◌≡◌, ◌+◌, ◌≤◌, rules, sym, ◌∙◌, ap, arith, Err}
use Rattle.geometry.specs.declared.geometry.Geometry.{Geometry}
use Rattle.std.specs.Prelude.{length}
use Rattle.table_model.specs.Room.{data_pages}
use Rattle.file_write.specs.Appends.{index_needed, append_room}
use Rattle.file_calls.specs.Cleans.{turn_most}
use Rattle.file_calls.proofs.Going.{err_is, step_fails}
use Rattle.file_calls.proofs.WriteParts.{step_does, paged_not, paged_then, append_not, append_then}
use Rattle.file_calls.proofs.writing.append_part.Goals as goal

pub returns-in_err-need_tail : goal.returns-in_err-need_tail
returns-in_err-need_tail g c = λ f end.
    let is : c.from_residual.result ≡ Err c.in_err-need_tail.field-0.0 = search rules in
    append_not c.args.id c.args.known c.args.size c.args.bytes.now f c.in_err-need_tail.ensures is

pub returns-in_err-take_pages : goal.returns-in_err-take_pages
returns-in_err-take_pages g c = λ f end.
    let is : c.from_residual-in_err-take_pages.result ≡ Err c.in_err-take_pages.field-0.0 = search rules in
    let tail = c.in_ok-need_tail.ensures in
    let pages = c.data_pages.ensures.pages ∙ ap (λ (k : Geometry). data_pages k (length c.args.bytes.now)) (sym tail.steps.framed.same.geometry) in
    let room : length c.args.bytes.now ≤ append_room c.need_tail.new.v.geometry c.args.size = rw tail.steps.framed.same.geometry c.requires in
    let needed = c.index_needed.ensures ∙ ap (λ (k : Geometry). index_needed k c.args.size) (sym tail.steps.framed.same.geometry) in
    append_then c.args.id c.args.known c.args.size c.args.bytes.now f end tail (paged_not c.args.id c.args.size c.args.bytes.now f end c.index_needed.result c.data_pages.result needed pages room c.in_err-take_pages.ensures is)

pub returns : goal.returns
returns g c = λ f end.
    let tail = c.in_ok-need_tail.ensures in
    let pages = c.data_pages.ensures.pages ∙ ap (λ (k : Geometry). data_pages k (length c.args.bytes.now)) (sym tail.steps.framed.same.geometry) in
    let room : length c.args.bytes.now ≤ append_room c.need_tail.new.v.geometry c.args.size = rw tail.steps.framed.same.geometry c.requires in
    let needed = c.index_needed.ensures ∙ ap (λ (k : Geometry). index_needed k c.args.size) (sym tail.steps.framed.same.geometry) in
    let put = rw c.in_ok-take_pages.ensures.steps.framed.same.geometry at c.in_ok-append_step.ensures.few in
    let few : g.N.NorState.device_writes c.append_step.new.v.nor.now ≤ g.N.NorState.device_writes c.take_pages.new.v.nor.now + turn_most c.data_pages.result = omega (arith, put, pages) in
    append_then c.args.id c.args.known c.args.size c.args.bytes.now f end tail (paged_then c.args.id c.args.size c.args.bytes.now f end c.index_needed.result c.data_pages.result needed pages room few c.in_ok-take_pages.ensures (step_does (c.in_ok-append_step.ensures.step f)))

pub returns-in_err-append_step : goal.returns-in_err-append_step
returns-in_err-append_step g c = λ f end.
    let tail = c.in_ok-need_tail.ensures in
    let pages = c.data_pages.ensures.pages ∙ ap (λ (k : Geometry). data_pages k (length c.args.bytes.now)) (sym tail.steps.framed.same.geometry) in
    let room : length c.args.bytes.now ≤ append_room c.need_tail.new.v.geometry c.args.size = rw tail.steps.framed.same.geometry c.requires in
    let needed = c.index_needed.ensures ∙ ap (λ (k : Geometry). index_needed k c.args.size) (sym tail.steps.framed.same.geometry) in
    let put = rw c.in_ok-take_pages.ensures.steps.framed.same.geometry at c.in_err-append_step.ensures.few in
    let few : g.N.NorState.device_writes c.append_step.new.v.nor.now ≤ g.N.NorState.device_writes c.take_pages.new.v.nor.now + turn_most c.data_pages.result = omega (arith, put, pages) in
    rw (err_is c.from_residual-in_err-append_step.result c.from_residual-in_err-append_step.ensures.1) (append_then c.args.id c.args.known c.args.size c.args.bytes.now f end tail
    (paged_then c.args.id c.args.size c.args.bytes.now f end c.index_needed.result c.data_pages.result needed pages room few c.in_ok-take_pages.ensures (step_fails (c.in_err-append_step.ensures.step f))))
