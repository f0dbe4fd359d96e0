use Rattle.std.proofs.Common.{◌≡◌, ℕ, ◌<◌, List, take, set, get_or, length, sym, ◌∙◌, ap, add-one, arith, rules}
use Rattle.std.specs.Int.Bits.{bit_and}
use Rattle.std.proofs.lemmas.List.{get_or_default}
use Rattle.nor_core.specs.Flash.{programmed}
use Rattle.nor_core.proofs.Programs.{length-programmed, programmed-none, programmed-take}
use Rattle.nor_memory.proofs.cut.cleared_bytes.Goals as goal

pub loop-i-init : goal.loop-i-init
loop-i-init c =
    let copied : c.in_ok-left.left.items ≡ c.args.bytes.now = search rules in
    copied ∙ sym (programmed-none c.args.bytes.now)

pub loop-i-preserved : goal.loop-i-preserved
loop-i-preserved c =
    let i = c.loop-i.i in
    let before = programmed c.args.bytes.now 0 (take i c.args.asked.now) in
    let here : i < length c.loop-i.left.items = omega (arith, ap length c.loop-i.invariant, length-programmed c.args.bytes.now 0 (take i c.args.asked.now), c.loop-i-test.true, c.requires) in
    let value : c.index_mut.result.now ≡ get_or before i 0 = c.index_mut.ensures.value ∙ get_or_default _ i _ 0 here ∙ ap (λ (l : List ℕ). get_or l i 0) c.loop-i.invariant in
    ap (λ (l : List ℕ). set l i (bit_and c.index_mut.result.now (get_or c.args.asked.now i 0))) c.loop-i.invariant
    ∙ ap (λ (n : ℕ). set before i (bit_and n (get_or c.args.asked.now i 0))) value
    ∙ programmed-take c.args.bytes.now c.args.asked.now i c.loop-i-test.true c.requires
    ∙ ap (λ (n : ℕ). programmed c.args.bytes.now 0 (take n c.args.asked.now)) (sym (add-one i))
