use Rattle.std.proofs.Common.{◌≡◌, ℕ, List, length, ◌∙◌, ap, rules}
use Rattle.nor_memory.specs.Picks.{put}
use Rattle.nor_memory.proofs.Ranges.{written_back}
use Rattle.nor_memory.proofs.note.write_at.Goals as goal

pub returns : goal.returns
returns c =
    let len_is : c.args.bytes.now.len ≡ length c.args.bytes.now.items = search rules in
    written_back c.args.bytes.now.items c.put_at.new.bytes c.args.bytes.now.len len_is (c.put_at.auto.bytes ∙ ap length c.deref_mut.ensures.value)
    ∙ c.put_at.ensures ∙ ap (λ (l : List ℕ). put l c.args.at c.args.from.now) c.deref_mut.ensures.value
