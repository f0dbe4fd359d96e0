use Rattle.std.proofs.Common.{◌≡◌, ℕ, ◌+◌, List, [], ◌∷◌, ◌++◌, length, map, refl, sym, ◌∙◌, ap, subst}
use Rattle.std.proofs.lemmas.List.{length-map}
use Rattle.std.proofs.lemmas.Result.{IfOk-weaker}
use Rattle.table_model.specs.Table.{File}
use Rattle.plain_table.specs.Seen.{files_of}
use Rattle.plain_table.specs.Moments.{moment_of}
use Rattle.promise_model.specs.Verdicts.{FindsTable}
use Rattle.plain_promise.specs.Seen.{promise, found}
use Rattle.plain_promise.proofs.Tables.{found_first, found_none, tables_then}
use Rattle.plain_promise.proofs.broken.broken_at.Goals as goal

pub returns-then-is_some : goal.returns-then-is_some
returns-then-is_some c =
    let m = moment_of c.args.moment.now in
    found_first (map promise c.args.promises.now) c.args.line 0 (m.settled ∷ []) (m.waiting ++ map files_of c.args.steps.now) c.in_ok-settled.settled (sym c.is_some.ensures ∙ c.if-is_some.true)
    (subst (λ (t : List File). FindsTable (map promise c.args.promises.now) c.args.line 0 (t ∷ []) (found c.in_ok-settled.settled)) c.settled.ensures c.in_ok-settled.ensures)

pub returns-then-is_some-2 : goal.returns-then-is_some-2
returns-then-is_some-2 c =
    let m = moment_of c.args.moment.now in
    let ps = map promise c.args.promises.now in
    let one : FindsTable (map promise c.args.promises.now) c.args.line 0 (m.settled ∷ []) (found c.in_ok-settled.settled) =
    subst (λ (t : List File). FindsTable (map promise c.args.promises.now) c.args.line 0 (t ∷ []) (found c.in_ok-settled.settled)) c.settled.ensures c.in_ok-settled.ensures in
    let two : FindsTable (map promise c.args.promises.now) c.args.line 1 m.waiting (found c.in_ok-waits.waits) =
    subst (λ (ts : List (List File)). FindsTable (map promise c.args.promises.now) c.args.line 1 ts (found c.in_ok-waits.waits)) c.waiting.ensures c.in_ok-waits.ensures in
    tables_then ps c.args.line 0 1 (m.settled ∷ []) (m.waiting ++ map files_of c.args.steps.now) (found c.in_ok-waits.waits)
    (found_none ps c.args.line 0 (m.settled ∷ []) c.in_ok-settled.settled (sym c.is_some.ensures ∙ c.if-is_some.false) one) refl
    (found_first ps c.args.line 1 m.waiting (map files_of c.args.steps.now) c.in_ok-waits.waits (sym c.is_some-2.ensures ∙ c.if-is_some-2.true) two)

pub returns : goal.returns
returns c =
    let m = moment_of c.args.moment.now in
    let ps = map promise c.args.promises.now in
    let one : FindsTable (map promise c.args.promises.now) c.args.line 0 (m.settled ∷ []) (found c.in_ok-settled.settled) =
    subst (λ (t : List File). FindsTable (map promise c.args.promises.now) c.args.line 0 (t ∷ []) (found c.in_ok-settled.settled)) c.settled.ensures c.in_ok-settled.ensures in
    let two : FindsTable (map promise c.args.promises.now) c.args.line 1 m.waiting (found c.in_ok-waits.waits) =
    subst (λ (ts : List (List File)). FindsTable (map promise c.args.promises.now) c.args.line 1 ts (found c.in_ok-waits.waits)) c.waiting.ensures c.in_ok-waits.ensures in
    let behind : c.in_ok-from.from ≡ 1 + length m.waiting = c.in_ok-from.ensures ∙ ap (λ (k : ℕ). 1 + k) (sym (length-map c.waiting-2.result.now files_of) ∙ ap length c.waiting-2.ensures) in
    IfOk-weaker c.broken_among-2.result _ _ (λ b f.
    tables_then ps c.args.line 0 1 (m.settled ∷ []) (m.waiting ++ map files_of c.args.steps.now) (found b)
    (found_none ps c.args.line 0 (m.settled ∷ []) c.in_ok-settled.settled (sym c.is_some.ensures ∙ c.if-is_some.false) one) refl
    (tables_then ps c.args.line 1 c.in_ok-from.from m.waiting (map files_of c.args.steps.now) (found b)
    (found_none ps c.args.line 1 m.waiting c.in_ok-waits.waits (sym c.is_some-2.ensures ∙ c.if-is_some-2.false) two) behind f))
    c.broken_among-2.ensures
