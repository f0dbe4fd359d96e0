use Rattle.std.proofs.Common.{◌≡◌, ◌≤◌, ◌∙◌, ap, subst, length, get_or, ◌<◌, arith, refl}
use Rattle.std.specs.List.{All}
use Rattle.std.proofs.lemmas.List.{take_all}
use Rattle.std.proofs.lemmas.List.Elements.{All-more}
use Rattle.chip_row.specs.Chips.{ChipHonest}
use Rattle.chip_row.proofs.one.is_sound.Goals as goal

pub loop-chip-preserved : goal.loop-chip-preserved
loop-chip-preserved g c =
    let items = c.args.chips.now.items in
    let i = c.loop-chip.chip-index in
    let inside : i < length items = omega (arith, c.loop-chip-test.true, c.deref-chip-items.ensures.len) in
    let here : c.chip-item.result ≡ get_or items i c.chip-item.result = c.chip-item.is ∙ ap (λ l. get_or l i c.chip-item.result) c.deref-chip-items.ensures.value in
    let sound = c.if-not-is_one_sound.ensures in
    record {
      sizes = All-more (λ d. g.C.ChipState.size d ≡ c.args.numbers.chip_size) items i c.chip-item.result inside c.loop-chip.invariant.sizes (subst (λ d. g.C.ChipState.size d ≡ c.args.numbers.chip_size) here (sound.size refl));
      units = All-more (λ d. g.C.ChipState.unit d ≡ c.args.numbers.unit) items i c.chip-item.result inside c.loop-chip.invariant.units (subst (λ d. g.C.ChipState.unit d ≡ c.args.numbers.unit) here (sound.unit refl));
      past = All-more (λ d. g.C.ChipState.last d ≤ c.args.now) items i c.chip-item.result inside c.loop-chip.invariant.past (subst (λ d. g.C.ChipState.last d ≤ c.args.now) here (sound.last refl));
      honest = All-more (λ d. ChipHonest g.C.ChipState d) items i c.chip-item.result inside c.loop-chip.invariant.honest (subst (λ d. ChipHonest g.C.ChipState d) here sound.honest);
    }

pub returns-clause-sound : goal.returns-clause-sound
returns-clause-sound g c = λ sound.
    (let items = c.args.chips.now.items in
    let all = take_all c.loop-chip.chip-index items (omega (arith, c.loop-chip-test.false, c.deref-chip-items.ensures.len)) in
    record {
      many = omega (arith, c.len.ensures, c.if-len-numbers.false, c.args.chips.now.ok);
      sized = record {
        sizes = subst (All (λ d. g.C.ChipState.size d ≡ c.args.numbers.chip_size)) all c.loop-chip.invariant.sizes;
        units = subst (All (λ d. g.C.ChipState.unit d ≡ c.args.numbers.unit)) all c.loop-chip.invariant.units;
      };
      past = subst (All (λ d. g.C.ChipState.last d ≤ c.args.now)) all c.loop-chip.invariant.past;
      honest = subst (All (λ d. ChipHonest g.C.ChipState d)) all c.loop-chip.invariant.honest;
    })
