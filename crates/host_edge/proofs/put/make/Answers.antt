use Rattle.std.proofs.Common.{rules, ◌≡◌, ◌++◌, [], ◌∷◌, ◌∙◌, List, ap, inr, ℕ}
use Rattle.std.proofs.lemmas.List.{map_push}
use Rattle.host_edge.specs.declared.host_file.HostFile.{HostFile}
use Rattle.host_edge.specs.Host.{host_entry, host_entries}
use Rattle.host_edge.proofs.Entries.{on_any}
use Rattle.host_edge.proofs.put.make.Goals as goal

pub returns-clause-half : goal.returns-clause-half
returns-clause-half g c =
    let was = c.args.files.now.items in
    let count = c.write_first-written.result.count in
    let file : HostFile = record { name = c.in_ok-name.name; path = c.in_ok-path.path; size = count } in
    let items : c.push.new.self.items ≡ was ++ file ∷ [] = c.in_ok-push.ensures.items ∙ ap (λ (l : List HostFile). l ++ file ∷ []) c.reserve.ensures.items in
    let name : c.in_ok-name.name.items ≡ c.args.name.now = search rules in
    let made : host_entries c.push.new.self.items ≡ host_entries was ++ record { name = c.args.name.now; size = count } ∷ [] =
    ap (λ (l : List HostFile). host_entries l) items ∙ map_push host_entry was file ∙ ap (λ (l : List ℕ). host_entries was ++ record { name = l; size = count } ∷ []) name in
    on_any c.write_first-written.result.answer (inr (count, c.write_first-written.ensures.within, made))
