use Rattle.std.proofs.Common.{◌≡◌, ℕ, List, [], ◌∷◌, ◌++◌, map, sym, ◌∙◌, ap, Some}
use Rattle.promise_model.specs.Lines.{name_of as the_name}
use Rattle.plain_promise.specs.Seen.{text_seen, name_seen}
use Rattle.plain_promise.proofs.Naming.{names_left, names_more, seen_push}
use Rattle.plain_promise.proofs.sort.names_of.Goals as goal

pub loop-rest-preserved : goal.loop-rest-preserved
loop-rest-preserved c =
    let read : List (List ℕ) = map text_seen c.loop-rest.names.items in
    let spelled : the_name c.first_word.result.0.now ≡ Some c.in-Some-2.name.items = sym c.in_ok-name_of.ensures ∙ ap name_seen c.in-Some-2.is in
    let grown : map text_seen c.push.new.self.items ≡ map text_seen c.loop-rest.names.items ++ (c.in-Some-2.name.items ∷ []) = ap (map text_seen) c.in_ok-push-in-Some-2.ensures.items ∙ seen_push c.loop-rest.names.items c.in-Some-2.name in
    c.loop-rest.invariant ∙ ap (names_left (map text_seen c.loop-rest.names.items)) c.in-Some.is
    ∙ names_more (map text_seen c.loop-rest.names.items) c.in-Some.line.now c.first_word.result.0.now c.in-Some-2.name.items c.first_word.result.1 c.first_word.ensures.word spelled
    ∙ ap (λ (r : List (List ℕ)). names_left r c.first_word.result.1) (sym grown)
