use Rattle.std.proofs.Common.{◌≡◌, ℕ, List, ◌∷◌, sym, ◌∙◌, subst, true, Option, Bor, IfOk}
use Rattle.std.specs.Prelude.{codes}
use Rattle.call_script.specs.Lines.{words, is_text}
use Rattle.call_script.specs.Split.{IsFirst}
use Rattle.promise_model.specs.Lines.{Sort}
use Rattle.plain_promise.specs.declared.sort.Marked.{Marked}
use Rattle.plain_promise.specs.Seen.{marked_seen}
use Rattle.plain_promise.proofs.Naming.{promised_as}
use Rattle.plain_promise.proofs.sort.marked_in.Goals as goal

pub returns-in-Some-names : goal.returns-in-Some-names
returns-in-Some-names c =
    let first : words c.args.line.now ≡ c.first_word.result.0.now ∷ words c.in-Some.rest.now = subst (λ (o : Option (Bor (List ℕ))). IsFirst c.first_word.result.0.now o (words c.args.line.now)) c.in-Some.is c.first_word.ensures.word in
    let second : words c.in-Some.rest.now ≡ c.first_word-2.result.0.now ∷ words c.in-Some-names.names.now = subst (λ (o : Option (Bor (List ℕ))). IsFirst c.first_word-2.result.0.now o (words c.in-Some.rest.now)) c.in-Some-names.is c.first_word-2.ensures.word in
    let mark : is_text c.first_word.result.0.now (codes "#!") ≡ true = sym c.is_word.ensures ∙ c.if-not-is_word.false in
    subst (λ (s : Sort). IfOk c.promise_in.result (λ (marked : Marked). marked_seen marked ≡ s))
    (sym (promised_as c.args.line.now c.first_word.result.0.now c.in-Some.rest.now c.first_word-2.result.0.now c.in-Some-names.names.now first second mark)) c.promise_in.ensures
