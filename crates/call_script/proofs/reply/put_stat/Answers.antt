use Rattle.std.proofs.Common.{ℕ, List, ◌∷◌, ap}
use Rattle.std.specs.Prelude.{decimal}
use Rattle.call_script.specs.Texts.{printed}
use Rattle.call_script.specs.Replies.{stat_text, meta_text}
use Rattle.call_script.proofs.Putting.{puts_more, puts_same}
use Rattle.call_script.proofs.reply.put_stat.Goals as goal

pub returns-clause-put : goal.returns-clause-put
unfolding stat_text
returns-clause-put c =
    puts_more _ _ _ _ _ _ _ _
    (puts_more _ _ _ _ _ _ _ _
    (puts_more _ _ _ _ _ _ _ _
    (puts_more _ _ _ _ _ _ _ _ (puts_same _ _ _ _ _ _ (ap decimal c.from.ensures) c.put_number-at.ensures.put)
    (puts_same _ _ _ _ _ _ (ap (λ (n : ℕ). 32 ∷ decimal n) c.from-2.ensures) c.put_count-at.ensures.put))
    c.put_count-at-2.ensures.put)
    (puts_same _ _ _ _ _ _ (ap (λ (name : List ℕ). 32 ∷ printed name) c.as_slice.ensures.bytes) c.put_behind_space-at.ensures.put))
    (puts_same _ _ _ _ _ _ (ap meta_text c.as_slice-2.ensures.bytes) c.put_meta.ensures.put)
