use Rattle.std.proofs.Common.{◌≡◌, ℕ, ◌+◌, ◌-◌, ◌*◌, ◌≤◌, List, length, take, drop, inl, ◌∙◌, ap, subst, arith, rules}
use Rattle.std.proofs.lemmas.Grind.{common_steps}
use Rattle.nor_memory.specs.Picks.{put, UnitErased}
use Rattle.nor_memory.proofs.Units.{all_below, half_erased}
use Rattle.nor_memory.proofs.MemoryLemmas.{erases_by, on_half}
use Rattle.nor_memory.proofs.note.note_erase.Goals as goal

pub returns-clause-noted : goal.returns-clause-noted
returns-clause-noted c =
    let unit = c.args.unit in
    let start = c.args.unit_ix * unit in
    let old = c.args.bytes.now.items in
    let n = start + unit - start in
    let within : start + unit ≤ length old = search rules in
    let copied : c.in-Ok-to_vec.noted.items ≡ c.deref-2.result.now = search rules in
    let size : length (take n (drop start c.deref.result.now)) ≡ unit = grind (arith, common_steps) in
    let range = subst (λ (l : List ℕ). UnitErased c.args.way unit c.args.mark (take n (drop start l)) c.in-Ok.left.items) c.deref.ensures.value (subst (λ (k : ℕ). UnitErased c.args.way k c.args.mark (take n (drop start c.deref.result.now)) c.in-Ok.left.items) size c.in-Ok.ensures) in
    let new_is = c.write_at.ensures ∙ ap (λ (l : List ℕ). put old start l) c.deref-3.ensures.value in
    inl (erases_by c.args.way unit c.args.unit_ix c.args.mark c.requires.marked n (omega arith) old _ c.in-Ok.left.items within c.in-Ok-to_vec.noted _ _ (copied ∙ c.deref-2.ensures.value) range new_is c.in-Ok-push.ensures.items)

pub returns-clause-half : goal.returns-clause-half
returns-clause-half c =
    let unit = c.args.unit in
    let start = c.args.unit_ix * unit in
    let old = c.args.bytes.now.items in
    let n = start + unit - start in
    let within : start + unit ≤ length old = search rules in
    let size : length (take n (drop start c.deref.result.now)) ≡ unit = grind (arith, common_steps) in
    let range = subst (λ (l : List ℕ). UnitErased c.args.way unit c.args.mark (take n (drop start l)) c.in-Ok.left.items) c.deref.ensures.value (subst (λ (k : ℕ). UnitErased c.args.way k c.args.mark (take n (drop start c.deref.result.now)) c.in-Ok.left.items) size c.in-Ok.ensures) in
    let new_is = c.write_at.ensures ∙ ap (λ (l : List ℕ). put old start l) c.deref-3.ensures.value in
    on_half _ _ _ c.answer.ensures (λ halfway. half_erased unit c.args.mark c.requires.marked start old _ within (all_below _ c.type_inv.bytes) c.args.way n c.in-Ok.left.items (omega arith) halfway range new_is)
