use Rattle.std.proofs.Common.{◌≡◌, ◌∙◌, sym, ap, ℕ, List, [], ◌++◌, append-nil, append_assoc}
use Rattle.std.proofs.lemmas.Result.{on_ok_weaker, on_err_weaker}
use Rattle.image_model.specs.Tables.{table_of, damaged_of}
use Rattle.image_tool.specs.Parts.{text_of}
use Rattle.image_tool.specs.Texts.{record_lines, damage_lines}
use Rattle.image_tool.specs.declared.listing.Part.TheVariants.{Damaged}
use Rattle.image_tool.proofs.Found.{files_text, damages_text, damages_many}
use Rattle.image_tool.proofs.Speaking.{on_err, says_wider, says_behind, says_same, front_wider, front_more}
use Rattle.flash_view.proofs.Looking.{same_then}
use Rattle.image_tool.proofs.listing.list_marked.Goals as goal

pub returns-in_err-list_part-clause-says : goal.returns-in_err-list_part-clause-says
returns-in_err-list_part-clause-says g c =
    let v = c.args.v.now in
    says_wider _ (rw (files_text v.geometry (g.B.NorState.bytes v.nor.now)) at c.list_part.ensures.says)

pub returns-in_err-list_part-clause-front : goal.returns-in_err-list_part-clause-front
returns-in_err-list_part-clause-front g c = λ tells.
    let v = c.args.v.now in
    let front = c.in_err-list_part.ensures.front tells in
    on_err c.from_residual.result (front_wider _ (rw (files_text v.geometry (g.B.NorState.bytes v.nor.now)) at front))

pub returns-clause-says : goal.returns-clause-says
returns-clause-says g c =
    let v = c.args.v.now in
    let image = g.B.NorState.bytes v.nor.now in
    let mid = c.list_part.new.v in
    let first = c.list_part.ensures in
    let files = record_lines (table_of v.geometry image) in
    let damaged = damage_lines (damaged_of v.geometry image) in
    let e : text_of Damaged mid.geometry (g.B.NorState.bytes mid.nor.now) ≡ damaged = rw (first.same.geometry, first.says.bytes) (damages_text v.geometry image) in
    let says = rw (files_text v.geometry image) at first.says in
    says_behind files damaged says (λ tells. rw (files_text v.geometry image) at (c.in_ok-list_part.ensures.whole tells)) (says_same _ damaged (λ tells. e) c.list_damaged.ensures.says)

pub returns-clause-count : goal.returns-clause-count
returns-clause-count g c = λ tells.
    let v = c.args.v.now in
    let first = c.list_part.ensures in
    (rw (first.same.geometry, first.says.bytes, damages_many v.geometry (g.B.NorState.bytes v.nor.now)) at c.list_damaged.ensures.count) (first.says.cuts.told tells)

pub returns-clause-whole : goal.returns-clause-whole
returns-clause-whole g c = λ tells.
    let v = c.args.v.now in
    let image = g.B.NorState.bytes v.nor.now in
    let first = c.list_part.ensures in
    let files = record_lines (table_of v.geometry image) in
    let damaged = damage_lines (damaged_of v.geometry image) in
    let whole = rw (files_text v.geometry image) at (c.in_ok-list_part.ensures.whole tells) in
    on_ok_weaker c.list_damaged.result (λ said. said ∙ ap (λ (l : List ℕ). l ++ damaged) whole ∙ append_assoc (g.B.NorState.said v.nor.now) files damaged)
    ((rw (first.same.geometry, first.says.bytes, damages_text v.geometry image) at c.list_damaged.ensures.whole) (first.says.cuts.told tells))

pub returns-clause-front : goal.returns-clause-front
returns-clause-front g c = λ tells.
    let v = c.args.v.now in
    let image = g.B.NorState.bytes v.nor.now in
    let first = c.list_part.ensures in
    let files = record_lines (table_of v.geometry image) in
    let damaged = damage_lines (damaged_of v.geometry image) in
    let whole = rw (files_text v.geometry image) at (c.in_ok-list_part.ensures.whole tells) in
    on_err_weaker c.list_damaged.result (λ front. front_more (record { part = files; tail = []; said = whole; text_is = ap (λ (l : List ℕ). files ++ l) (sym (append-nil damaged)) }) front)
    ((rw (first.same.geometry, first.says.bytes, damages_text v.geometry image) at c.list_damaged.ensures.front) (first.says.cuts.told tells))

pub returns-clause-same : goal.returns-clause-same
returns-clause-same g c = same_then c.list_part.ensures.same c.list_damaged.ensures.same
