use Rattle.std.proofs.Common.{◌≡◌, ℕ, subst, arith}
use Rattle.geometry.proofs.Bounds.{few_pages}
use Rattle.meta_tally.proofs.Tallies.{TallyTo, tally_all}
use Rattle.meta_tally.proofs.tally.count_file.Goals as goal

pub add_one-requires-clause-few : goal.add_one-requires-clause-few
add_one-requires-clause-few c =
    let meta = c.loop-meta.meta in
    omega (arith, c.loop-meta.invariant.rest meta (omega arith), c.requires.tallied.few meta, c.requires.page, few_pages c.args.g.now)

pub returns : goal.returns
returns c =
    let g = c.args.g.now in
    let image = c.args.image.now in
    let end : c.loop-meta.meta ≡ 65 = omega (arith, c.loop-meta-test.false, c.loop-meta.auto.meta-end) in
    tally_all g image c.args.p c.args.whole.now c.loop-meta.whole c.requires.page c.requires.tallied
    (subst (λ (m : ℕ). TallyTo g image c.args.p m c.args.whole.now c.loop-meta.whole) end c.loop-meta.invariant)
