use Rattle.std.proofs.Common.{◌≡◌, List, [], ◌∷◌, map, sym, ◌∙◌, subst, false}
use Rattle.std.specs.Prelude.{is_some}
use Rattle.plain_table.specs.Seen.{file, files_of}
use Rattle.plain_table.specs.declared.file.PlainFile.{PlainFile}
use Rattle.promise_model.specs.Verdicts.{FindsTable}
use Rattle.plain_promise.specs.Seen.{promise, found}
use Rattle.plain_promise.proofs.Tables.{walk_on}
use Rattle.plain_promise.proofs.broken.broken_among.Goals as goal

pub loop-files-preserved : goal.loop-files-preserved
loop-files-preserved c =
    let none : is_some c.in_ok-broken.broken ≡ false = sym c.is_some.ensures ∙ c.if-is_some.false in
    λ all rest. c.loop-files.invariant all
    (walk_on files_of (map promise c.args.promises.now) c.args.line c.args.tables.now c.loop-files.files-index c.files-item.result c.loop-files-test.true c.files-item.is c.loop-files.number c.in_ok-number.number c.in_ok-broken.broken all none c.in_ok-number.ensures
    (subst (λ (fs : List PlainFile). FindsTable (map promise c.args.promises.now) c.args.line c.loop-files.number (map file fs ∷ []) (found c.in_ok-broken.broken)) c.as_slice.ensures.value c.in_ok-broken.ensures) rest)
