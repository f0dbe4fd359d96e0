use Rattle.std.proofs.Common.{Bool, true, false, sym, ◌∙◌}
use Rattle.std.specs.Bool.{OnTrue}
use Rattle.file_drop.proofs.Seeing.{lookup_not_left, dead_not_left, left_by_header, byte_by_header}
use Rattle.file_drop.proofs.pages.is_left.Goals as goal

pub returns-then-not-is_entry_page-clause-told : goal.returns-then-not-is_entry_page-clause-told
returns-then-not-is_entry_page-clause-told g c = λ tells. lookup_not_left c.args.v.now.geometry (g.N.NorState.bytes c.args.v.now.nor.now) c.args.id c.args.kept c.args.page (sym c.is_entry_page.ensures.is ∙ c.if-not-is_entry_page.true)

pub returns-in_default-clause-told : goal.returns-in_default-clause-told
returns-in_default-clause-told g c = λ tells.
    dead_not_left c.args.v.now.geometry (g.N.NorState.bytes c.args.v.now.nor.now) c.args.id c.args.kept c.args.page (sym c.in_default.is ∙ c.in_ok-head.ensures.told tells)

on_true : (b : Bool) {P : Type 0} → P → OnTrue b P
on_true true h = h
on_true false h = tt

pub returns-clause-byte : goal.returns-clause-byte
returns-clause-byte g c = λ tells.
    on_true c.is_past.result
    (byte_by_header c.args.v.now.geometry (g.N.NorState.bytes c.args.v.now.nor.now) c.args.page c.in-Some.head (sym c.in-Some.is ∙ c.in_ok-head.ensures.told tells) c.is_past.ensures.byte)

pub returns-clause-told : goal.returns-clause-told
returns-clause-told g c = λ tells.
    c.is_past.ensures.is ∙ left_by_header c.args.v.now.geometry (g.N.NorState.bytes c.args.v.now.nor.now) c.args.id c.args.kept c.args.page c.in-Some.head (sym c.in-Some.is ∙ c.in_ok-head.ensures.told tells)
