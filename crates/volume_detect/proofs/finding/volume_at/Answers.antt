use Rattle.std.proofs.Common.{◌-◌, ◌≤◌, Some, None, sym, ◌∙◌, arith}
use Rattle.volume_detect.specs.Places.{page_power, block_power}
use Rattle.volume_detect.proofs.Sizes.{power_most, power_least}
use Rattle.volume_detect.proofs.Tellings.{told_in}
use Rattle.volume_detect.proofs.Found.{tells_by, rest_by, rest_back, bytes_inside, none_told, one_told, rest_told}
use Rattle.volume_detect.proofs.finding.volume_at.Goals as goal

pub told_at-requires-clause-inside : goal.told_at-requires-clause-inside
told_at-requires-clause-inside c = bytes_inside c.args.words.now c.args.place _ c.spot_of-s.result c.spot_of-s.ensures (omega (arith, c.requires.whole)) (omega (arith, c.requires.whole, c.requires.place))

pub told_at-requires-clause-page : goal.told_at-requires-clause-page
told_at-requires-clause-page c = (page_power c.args.place, omega arith, c.spot_of-s.ensures.page)

pub told_at-requires-clause-block : goal.told_at-requires-clause-block
told_at-requires-clause-block c = let least = power_least (block_power c.args.place) (omega arith) in omega (arith, least, c.spot_of-s.ensures.block)

pub is_rest-requires-clause-inside : goal.is_rest-requires-clause-inside
is_rest-requires-clause-inside c =
    let g = c.in-Some.g in
    let s = c.spot_of-s.result in
    let w = told_in c.args.words.now s.first s.step s.page s.block s.room s.magic g c.in-Some.ensures in
    let three : 3 ≤ g.blocks = g.valid.some_blocks in
    bytes_inside c.args.words.now c.args.place _ s c.spot_of-s.ensures (omega (arith, c.requires.whole)) (omega (arith, c.requires.whole, c.requires.place)) (g.blocks - 1) (omega (arith, three, w.0.fits))

pub is_rest-requires-clause-page : goal.is_rest-requires-clause-page
is_rest-requires-clause-page c =
    let s = c.spot_of-s.result in
    let w = told_in c.args.words.now s.first s.step s.page s.block s.room s.magic c.in-Some.g c.in-Some.ensures in
    (page_power c.args.place, omega arith, w.0.page_is ∙ c.spot_of-s.ensures.page)

pub is_rest-requires-clause-phys : goal.is_rest-requires-clause-phys
is_rest-requires-clause-phys c =
    let s = c.spot_of-s.result in
    let w = told_in c.args.words.now s.first s.step s.page s.block s.room s.magic c.in-Some.g c.in-Some.ensures in
    w.0.phys_is ∙ sym w.0.block_is

pub is_rest-requires-clause-meta : goal.is_rest-requires-clause-meta
is_rest-requires-clause-meta c =
    let s = c.spot_of-s.result in
    (told_in c.args.words.now s.first s.step s.page s.block s.room s.magic c.in-Some.g c.in-Some.ensures).1

pub is_rest-requires-clause-step : goal.is_rest-requires-clause-step
is_rest-requires-clause-step c = let most = power_most (block_power c.args.place) (omega arith) in omega (arith, most, c.spot_of-s.ensures.step)

pub returns-in-None : goal.returns-in-None
returns-in-None c = λ file has.
    let s = c.spot_of-s.result in
    none_told file c.args.words.now c.args.place _ has (omega (arith, has.size)) (omega (arith, c.requires.whole, c.requires.place)) s.magic c.spot_of-s.ensures.magic (tells_by c.args.words.now c.args.place _ s c.spot_of-s.ensures None c.in-None.ensures)

pub returns-then-is_rest : goal.returns-then-is_rest
returns-then-is_rest c = λ file has.
    let s = c.spot_of-s.result in
    let g = c.in-Some.g in
    let words = c.args.words.now in
    rest_told file words c.args.place _ has (omega (arith, has.size)) (omega (arith, c.requires.whole, c.requires.place)) s.magic g c.spot_of-s.ensures.magic (tells_by words c.args.place _ s c.spot_of-s.ensures (Some g) c.in-Some.ensures)
    (rest_by words c.args.place _ s c.spot_of-s.ensures g (c.is_rest.ensures.rest c.if-is_rest.true))

pub returns-else-is_rest : goal.returns-else-is_rest
returns-else-is_rest c = λ file has.
    let s = c.spot_of-s.result in
    let g = c.in-Some.g in
    let words = c.args.words.now in
    one_told file words c.args.place _ has (omega (arith, has.size)) (omega (arith, c.requires.whole, c.requires.place)) s.magic g c.spot_of-s.ensures.magic (tells_by words c.args.place _ s c.spot_of-s.ensures (Some g) c.in-Some.ensures)
    (λ rest. c.is_rest.ensures.none c.if-is_rest.false (rest_back words c.args.place _ s c.spot_of-s.ensures g rest))
