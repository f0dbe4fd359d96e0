use Rattle.std.proofs.Common.{◌≡◌, inl, refl, rules}
use Rattle.nor_memory.proofs.MemoryLemmas.{says_by}
use Rattle.nor_memory.proofs.note.note_say.Goals as goal

pub returns-clause-noted : goal.returns-clause-noted
returns-clause-noted c =
    let copied : c.in-Ok.noted.items ≡ c.args.piece.now = search rules in
    inl (says_by _ _ _ _ _ c.in-Ok.noted c.passed_of-passed.result _ _ copied refl c.passed_of-passed.ensures.within c.passed_of-passed.ensures.part c.in-Ok-extend_from_slice.ensures.items c.in-Ok-push.ensures.items)
