use Rattle.std.proofs.Common.{◌≡◌, ℕ, ◌+◌, ◌≤◌, ◌++◌, List, length, take, drop, sym, ◌∙◌, ap, arith}
use Rattle.std.proofs.lemmas.List.{drop-drop, length-take, take-append-drop, take-append-le, take_all}
use Rattle.std.proofs.lemmas.Grind.{common_steps}
use Rattle.nor_memory.proofs.mem_source.MemSourceSource.read.Goals as goal

-- a front that was copied, and what is left behind it
copied : (bytes front rest : List ℕ) (taken n : ℕ) → front ≡ take n (drop taken bytes) → n ≤ length (drop taken bytes) → drop taken bytes ≡ take n (front ++ rest) ++ drop (taken + n) bytes
copied bytes front rest taken n front_is within =
    let long : length front ≡ n = ap length front_is ∙ omega (arith, length-take n (drop taken bytes), within) in
    sym (take-append-drop n (drop taken bytes))
    ∙ ap (λ (l : List ℕ). l ++ drop n (drop taken bytes)) (sym front_is)
    ∙ ap (λ (l : List ℕ). l ++ drop n (drop taken bytes)) (sym (take_all n front (omega (arith, long))) ∙ sym (take-append-le n front rest (omega (arith, long))))
    ∙ ap (λ (l : List ℕ). take n (front ++ rest) ++ l) (drop-drop n taken bytes)

pub returns-clause-took : goal.returns-clause-took
returns-clause-took c = λ _. copied c.args.self.now.bytes.items c.copy_from_slice.new.self _ c.args.self.now.taken c.min-n.result (grind (arith, common_steps)) (grind (arith, common_steps))
