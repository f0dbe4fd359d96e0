use Rattle.std.proofs.Common.{◌≡◌, ℕ, ◌+◌, ◌-◌, ◌*◌, ◌/◌, ◌≤◌, List, length, take, replicate, slice_range, min, ap, arith, refl, length-take-le}
use Rattle.std.proofs.lemmas.List.{length-replicate}
use Rattle.geometry.specs.Numbers.{entries, per_block}
use Rattle.image_model.specs.Places.{page_of}
use Rattle.flash_view.proofs.SlotHeld.{in_lookup}
use Rattle.flash_view.proofs.Pieces.{found_part, none_part}
use Rattle.flash_view.proofs.view.View.slot_peeked.Goals as goal

-- the same part, by its numbers
same_part : {bytes : List ℕ} {a b : ℕ} (page : List ℕ) (c d : ℕ) → bytes ≡ slice_range page a b → a ≡ c → b ≡ d → bytes ≡ slice_range page c d
same_part page c d told first last = rw (first, last) at told

pub returns-in-Some-clause-told : goal.returns-in-Some-clause-told
returns-in-Some-clause-told g c tells =
    let view = c.args.self.now in
    let image = g.N.NorState.bytes view.nor.now in
    let half = view.geometry.page / 2 in
    let w = in_lookup view.geometry half c.args.k c.args.at refl c.requires.lookup in
    let s : c.page-slots.result / 2 ≡ half = omega (arith, c.page-slots.ensures) in
    let ks : c.args.k * (c.page-slots.result / 2) ≡ c.args.k * half = ap (λ (n : ℕ). c.args.k * n) s in
    let count = c.min-end.result - c.args.at in
    let fits : c.args.at + count ≤ c.args.k * half + half = omega (arith, w.low, w.high, ks, s, c.min-end.ensures, c.entries.ensures.count, c.requires.place) in
    let long : length {A = ℕ} (take (2 * count) (replicate 64 0)) ≡ 2 * count = length-take-le (2 * count) (replicate 64 0) (omega (arith, c.requires.few_entries, c.min-end.ensures, c.entries.ensures.count, length-replicate {A = ℕ} 64 0)) in
    let read : c.read_in.new.into ≡ slice_range (page_of view.geometry image c.lookup_page-page.result) (2 * (c.args.at - c.args.k * (c.page-slots.result / 2))) (2 * (c.args.at - c.args.k * (c.page-slots.result / 2)) + length {A = ℕ} (take (2 * count) (replicate 64 0))) =
    c.in_ok-read_in.ensures.told tells in
    let told = rw c.lookup_page-page.ensures.page at read in
    let is : c.read_in.new.into ≡ slice_range (page_of view.geometry image (c.args.block * per_block view.geometry + c.args.k)) (2 * (c.args.at - c.args.k * half)) (2 * (c.args.at - c.args.k * half) + 2 * count) =
    same_part (page_of view.geometry image (c.args.block * per_block view.geometry + c.args.k)) (2 * (c.args.at - c.args.k * half)) (2 * (c.args.at - c.args.k * half) + 2 * count) told (omega (arith, ks)) (omega (arith, ks, long)) in
    found_part view.geometry image c.args.low c.args.high c.args.block c.args.k c.args.at count c.read_in.new.into w.low fits is c.read_in.ensures.small
    c.in-Some.i c.in-Some.entry c.in-Some.ensures.found c.in-Some.ensures.passed

pub returns-in-None-clause-told : goal.returns-in-None-clause-told
returns-in-None-clause-told g c tells =
    let view = c.args.self.now in
    let image = g.N.NorState.bytes view.nor.now in
    let half = view.geometry.page / 2 in
    let w = in_lookup view.geometry half c.args.k c.args.at refl c.requires.lookup in
    let s : c.page-slots.result / 2 ≡ half = omega (arith, c.page-slots.ensures) in
    let ks : c.args.k * (c.page-slots.result / 2) ≡ c.args.k * half = ap (λ (n : ℕ). c.args.k * n) s in
    let count = c.min-end.result - c.args.at in
    let fits : c.args.at + count ≤ c.args.k * half + half = omega (arith, w.low, w.high, ks, s, c.min-end.ensures, c.entries.ensures.count, c.requires.place) in
    let end : c.args.at + count ≡ min (entries view.geometry) (c.args.k * half + half) = omega (arith, w.low, w.high, ks, s, c.min-end.ensures, c.entries.ensures.count, c.requires.place) in
    let long : length {A = ℕ} (take (2 * count) (replicate 64 0)) ≡ 2 * count = length-take-le (2 * count) (replicate 64 0) (omega (arith, c.requires.few_entries, c.min-end.ensures, c.entries.ensures.count, length-replicate {A = ℕ} 64 0)) in
    let read : c.read_in.new.into ≡ slice_range (page_of view.geometry image c.lookup_page-page.result) (2 * (c.args.at - c.args.k * (c.page-slots.result / 2))) (2 * (c.args.at - c.args.k * (c.page-slots.result / 2)) + length {A = ℕ} (take (2 * count) (replicate 64 0))) =
    c.in_ok-read_in.ensures.told tells in
    let told = rw c.lookup_page-page.ensures.page at read in
    let is : c.read_in.new.into ≡ slice_range (page_of view.geometry image (c.args.block * per_block view.geometry + c.args.k)) (2 * (c.args.at - c.args.k * half)) (2 * (c.args.at - c.args.k * half) + 2 * count) =
    same_part (page_of view.geometry image (c.args.block * per_block view.geometry + c.args.k)) (2 * (c.args.at - c.args.k * half)) (2 * (c.args.at - c.args.k * half) + 2 * count) told (omega (arith, ks)) (omega (arith, ks, long)) in
    none_part view.geometry image c.args.low c.args.high c.args.block c.args.k c.args.at count c.read_in.new.into w.low fits is c.read_in.ensures.small (entries view.geometry) end c.in-None.ensures.passed
