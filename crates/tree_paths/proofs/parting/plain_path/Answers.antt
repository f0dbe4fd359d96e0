use Rattle.std.proofs.Common.{◌≡◌, ◌<◌, ◌≤◌, sym, ◌∙◌, ap, subst, List, ℕ, length, get_or, arith}
use Rattle.std.specs.Str.{is_utf8}
use Rattle.std.proofs.lemmas.Str.{is_utf8-from_IsUtf8}
use Rattle.tree_paths.specs.Tree.{is_tree_path}
use Rattle.tree_paths.proofs.Found.{plain_by, plain_not}
use Rattle.tree_paths.proofs.parting.plain_path.Goals as goal

pub returns-in-Ok : goal.returns-in-Ok
returns-in-Ok c =
    let text = c.in-Ok.ensures.cases in
    let few = subst (λ (l : List ℕ). length l ≤ 30) (sym text.0) c.if-path-le-MOST.true in
    let down = ap (λ (l : List ℕ). is_tree_path l) text.0 ∙ sym c.is_downward.ensures ∙ c.if-is_downward.true in
    let utf8 = ap (λ (l : List ℕ). is_utf8 l) text.0 ∙ is_utf8-from_IsUtf8 _ text.1 in
    plain_by c.args.name.now c.in-Ok.path.now text.0 (omega arith) (omega arith) few down utf8

pub returns-in-Err : goal.returns-in-Err
returns-in-Err c = plain_not c.args.name.now (omega arith) c.in-Err.ensures.cases.0
