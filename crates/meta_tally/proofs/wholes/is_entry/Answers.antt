use Rattle.std.proofs.Common.{◌≡◌, ◌+◌, ◌-◌, ◌*◌, ◌%◌, ◌≤◌, arith}
use Rattle.std.proofs.lemmas.Bool.{eq-eqb}
use Rattle.geometry.specs.Numbers.{lookups}
use Rattle.nor_core.specs.Flash.{word_at}
use Rattle.meta_tally.proofs.Entries.{index_entry, entry_fits}
use Rattle.meta_tally.proofs.wholes.is_entry.Goals as goal

pub returns-then-i-lookups : goal.returns-then-i-lookups
returns-then-i-lookups c = λ span yes.
    let entry = index_entry c.args.g.now c.args.image.now c.args.block c.args.i c.args.id span c.requires.page yes in
    absurd (omega (arith, entry.behind, c.if-i-lookups.true, c.lookups.ensures.count))

pub read_word-requires : goal.read_word-requires
read_word-requires c =
    let behind : lookups c.args.g.now ≤ c.args.i = omega (arith, c.if-i-lookups.false, c.lookups.ensures.count) in
    rw c.lookups-2.ensures.count (entry_fits c.args.g.now c.args.image.now c.args.block c.args.i c.requires.image c.requires.block behind c.requires.page)

pub returns : goal.returns
returns c = λ span yes.
    let g = c.args.g.now in
    let entry = index_entry g c.args.image.now c.args.block c.args.i c.args.id span c.requires.page yes in
    let is : c.read_word.result ≡ word_at c.args.image.now (c.args.block * g.block + 2 * (c.args.i - lookups g)) = rw c.lookups-2.ensures.count at c.read_word.ensures in
    let high : 0x8000 ≤ c.read_word.result = rw is entry.high in
    let same : c.read_word.result % 0x8000 ≡ c.args.id = rw is entry.is in
    eq-eqb c.read_word.result (0x8000 + c.args.id) (omega (arith, high, same, c.read_word.type_inv))
