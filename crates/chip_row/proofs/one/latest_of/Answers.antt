use Rattle.std.proofs.Common.{◌≡◌, ◌∙◌, sym, ap, get_or, length, take, max, ◌<◌, ◌+◌, ℕ, [], ◌∷◌, ◌++◌, arith}
use Rattle.std.proofs.lemmas.List.{take_more}
use Rattle.chip_row.specs.Rows.{latest}
use Rattle.chip_row.proofs.Ends.{latest_none, latest_more}
use Rattle.chip_row.proofs.one.latest_of.Goals as goal

pub loop-chip-init : goal.loop-chip-init
loop-chip-init g c = latest_none g.C.ChipState

pub loop-chip-preserved : goal.loop-chip-preserved
loop-chip-preserved g c =
    let items = c.args.chips.now.items in
    let i = c.loop-chip.chip-index in
    let inside : i < length items = omega (arith, c.loop-chip-test.true, c.deref-chip-items.ensures.len) in
    let here : c.chip-item.result ≡ get_or items i c.chip-item.result = c.chip-item.is ∙ ap (λ l. get_or l i c.chip-item.result) c.deref-chip-items.ensures.value in
    let more : take (i + 1) items ≡ take i items ++ c.chip-item.result ∷ [] = take_more items i c.chip-item.result inside ∙ ap (λ d. take i items ++ d ∷ []) (sym here) in
    let value : c.max-now.result ≡ max (g.C.ChipState.last c.chip-item.result) c.loop-chip.now = c.max-now.ensures ∙ ap (λ (n : ℕ). max n c.loop-chip.now) c.last.ensures in
    value ∙ ap (λ (n : ℕ). max (g.C.ChipState.last c.chip-item.result) n) c.loop-chip.invariant ∙ sym (latest_more g.C.ChipState (take i items) c.chip-item.result) ∙ ap (λ l. latest g.C.ChipState l) (sym more)
