use Rattle.std.proofs.Common.{ℕ, ◌+◌, ◌-◌, List, length, take, drop, inl, ◌∙◌, ap, subst, arith}
use Rattle.nor_memory.specs.declared.plan.Way.{Way}
use Rattle.nor_core.specs.Flash.{programmed}
use Rattle.nor_memory.specs.Record.{IsProgramCall}
use Rattle.nor_memory.specs.Picks.{put, RangeProgrammed}
use Rattle.nor_memory.proofs.Ranges.{put_programmed}
use Rattle.nor_memory.proofs.MemoryLemmas.{programs_by, on_whole}
use Rattle.nor_memory.proofs.note.note_program.Goals as goal

pub returns-clause-noted : goal.returns-clause-noted
returns-clause-noted c =
    let at = c.args.at in
    let asked = c.args.asked.now in
    let old = c.args.bytes.now.items in
    let n = at + length asked - at in
    let range = subst (λ (l : List ℕ). RangeProgrammed c.args.way (take n (drop at l)) asked c.in-Ok.left.items) c.deref.ensures.value c.in-Ok.ensures.range in
    let new_is = c.write_at.ensures ∙ ap (λ (l : List ℕ). put old at l) c.deref-3.ensures.value in
    let call_is = subst (λ (l : List ℕ). IsProgramCall at asked l c.in-Ok-program_call.call) c.deref-2.ensures.value c.in-Ok-program_call.ensures in
    inl (programs_by c.args.way at n asked old (omega arith) c.requires c.in-Ok.left.items _ _ _ _ range new_is c.in-Ok-push.ensures.items call_is)

pub returns-clause-done : goal.returns-clause-done
returns-clause-done c =
    let at = c.args.at in
    let asked = c.args.asked.now in
    let old = c.args.bytes.now.items in
    let n = at + length asked - at in
    on_whole _ _ _ c.answer.ensures (λ whole.
    let range = subst (λ (w : Way). RangeProgrammed w (take n (drop at c.deref.result.now)) asked c.in-Ok.left.items) whole c.in-Ok.ensures.range in
    c.write_at.ensures
    ∙ ap (λ (l : List ℕ). put old at l) c.deref-3.ensures.value
    ∙ put_programmed old at n asked _ (omega arith) (omega (arith, c.requires)) (range ∙ ap (λ (l : List ℕ). programmed (take n (drop at l)) 0 asked) c.deref.ensures.value))
