use Rattle.std.proofs.Common.{◌≡◌, ℕ, List, ◌∷◌, length, ap, arith}
use Rattle.std.specs.Prelude.{decimal}
use Rattle.call_script.specs.Texts.{printed}
use Rattle.call_script.proofs.Putting.{puts_more, puts_same}
use Rattle.promise_model.specs.Texts.{file_line}
use Rattle.plain_promise.proofs.text.put_line.Goals as goal

pub returns-clause-put : goal.returns-clause-put
unfolding file_line
returns-clause-put c =
    let long : c.len.result ≡ length c.args.f.now.bytes.items = omega (arith, c.len.ensures, c.args.f.now.bytes.ok) in
    puts_more _ _ _ _ _ _ _ _
    (puts_more _ _ _ _ _ _ _ _
    (puts_more _ _ _ _ _ _ _ _
    (puts_more _ _ _ _ _ _ _ _ (puts_same _ _ _ _ _ _ (ap decimal c.from.ensures) c.put_number-at.ensures.put)
    (puts_same _ _ _ _ _ _ (ap (λ (n : ℕ). 32 ∷ decimal n) c.from-2.ensures) c.put_count-at.ensures.put))
    (puts_same _ _ _ _ _ _ (ap (λ (n : ℕ). 32 ∷ decimal n) long) c.put_count-at-2.ensures.put))
    (puts_same _ _ _ _ _ _ (ap (λ (text : List ℕ). 32 ∷ printed text) c.as_slice.ensures.value) c.put_behind_space-at.ensures.put))
    c.put.ensures
