use Rattle.std.proofs.Common.{◌≡◌, ℕ, ◌+◌, List, [], ◌∷◌, ◌++◌, length, map, sym, ◌∙◌, ap}
use Rattle.std.proofs.lemmas.List.{length-map}
use Rattle.table_model.specs.Table.{File}
use Rattle.plain_table.specs.Seen.{files_of}
use Rattle.plain_table.specs.Moments.{moment_of}
use Rattle.promise_model.specs.Texts.{steps_text}
use Rattle.plain_promise.proofs.Printing.{place_text}
use Rattle.plain_promise.proofs.listing.put_place.Goals as goal

pub returns : goal.returns
returns c =
    let m = moment_of c.args.moment.now in
    let behind : c.in_ok-next.next ≡ 1 + length m.waiting = c.in_ok-next.ensures.next ∙ ap (λ (k : ℕ). 1 + k) (sym (length-map c.waiting.result.now files_of) ∙ ap length c.waiting.ensures) in
    place_text c.args.text.now.items c.put_settled.new.text.items c.put_tables.new.text.items c.put_tables-2.new.text.items c.args.line c.in_ok-next.next m (map files_of c.args.steps.now) behind
    (c.in_ok-put_settled.ensures ∙ ap (λ (t : List File). c.args.text.now.items ++ steps_text c.args.line 0 (t ∷ [])) c.settled.ensures)
    (c.in_ok-next.ensures.text ∙ ap (λ (ts : List (List File)). c.put_settled.new.text.items ++ steps_text c.args.line 1 ts) c.waiting.ensures)
    c.in_ok-put_tables.ensures.text
