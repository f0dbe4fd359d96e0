use Rattle.std.proofs.Common.{◌≡◌, ◌-◌, ◌*◌, ◌/◌, arith, ap, ◌∙◌, ℕ, length, length-take-le, replicate}
use Rattle.std.proofs.lemmas.List.{length-replicate}
use Rattle.geometry.proofs.Bounds.{few_pages}
use Rattle.flash_view.proofs.SlotHeld.{lookup_page_below}
use Rattle.flash_view.proofs.Telling.{looked_then}
use Rattle.free_search.specs.Counted.{HasSlots}
use Rattle.free_search.proofs.Scanning.{has_slots}
use Rattle.free_search.proofs.blocks.count_part.Goals as goal

pub overflow_cast-page : goal.overflow_cast-page
overflow_cast-page g c = rw (c.from.ensures, c.per_block.ensures.count) (omega (arith, lookup_page_below c.args.v.now.geometry c.args.block c.args.k c.requires.block c.requires.lookup, few_pages c.args.v.now.geometry))

pub read_in-requires-clause-page : goal.read_in-requires-clause-page
read_in-requires-clause-page g c = rw (c.from.ensures, c.per_block.ensures.count) (lookup_page_below c.args.v.now.geometry c.args.block c.args.k c.requires.block c.requires.lookup)

pub returns-clause-looks : goal.returns-clause-looks
returns-clause-looks g c = looked_then c.in_ok-read_in.ensures.looks c.count_slots.ensures.looks (λ tells counts all has start.
    let r = c.in_ok-read_in.ensures in
    let geometry = c.args.v.now.geometry in
    let image = g.N.NorState.bytes c.args.v.now.nor.now in
    let whole : length c.read_in.new.into ≡ 2 * c.args.count = c.read_in.auto.into ∙ length-take-le (2 * c.args.count) (replicate 256 0) (omega (arith, c.requires.part, length-replicate {A = ℕ} 256 0)) in
    let half : length c.read_in.new.into / 2 ≡ c.args.count = omega (arith, whole) in
    let slots = has_slots geometry image c.read_in.new.into c.args.block c.args.k c.args.start c.args.count (2 * (c.args.start - c.args.k * (c.page.result / 2))) _ r.small c.requires.low c.requires.high
    (ap (λ n. 2 * (c.args.start - c.args.k * (n / 2))) c.page.ensures) (omega (arith, c.requires.part)) (rw (c.from.ensures, c.per_block.ensures.count) at (r.told tells)) in
    let every : HasSlots geometry image c.read_in.new.into c.args.block c.args.start (length c.read_in.new.into / 2) = rw half slots in
    let told = (rw (r.looks.same.geometry, r.looks.reads.bytes) at all) has every start in
    rw half at told)

pub returns-clause-total : goal.returns-clause-total
returns-clause-total g c =
    let whole : length c.read_in.new.into ≡ 2 * c.args.count = c.read_in.auto.into ∙ length-take-le (2 * c.args.count) (replicate 256 0) (omega (arith, c.requires.part, length-replicate {A = ℕ} 256 0)) in
    let half : length c.read_in.new.into / 2 ≡ c.args.count = omega (arith, whole) in
    rw half at c.count_slots.ensures.total
