use Rattle.std.proofs.Common.{◌≡◌, nat_lt, true, false, refl, sym, ◌∙◌, arith, IfOk}
use Rattle.std.specs.Prelude.{Some, None}
use Rattle.std.proofs.lemmas.Bool.{lt-ltb, le-ltb}
use Rattle.image_model.specs.Tidy.{free_blocks}
use Rattle.flash_view.proofs.Looking.{looks_then}
use Rattle.flash_view.proofs.Telling.{looked, looked_then}
use Rattle.free_search.specs.Free.{the_open_block, the_least_worn, the_block}
use Rattle.free_search.proofs.pages.block_for.Goals as goal

pub returns-in-Some-clause-looks : goal.returns-in-Some-clause-looks
unfolding the_block
returns-in-Some-clause-looks g c = looked c.in_ok-block.ensures.looks.only (λ tells frees.
    let found : the_open_block c.args.v.now.geometry (g.N.NorState.bytes c.args.v.now.nor.now) c.args.kind c.args.not_in ≡ Some c.in-Some.block = sym (c.in_ok-block.ensures.looks.told tells frees) ∙ c.in-Some.is in
    rw found refl)

pub returns-then-branch-keep-clause-looks : goal.returns-then-branch-keep-clause-looks
unfolding the_block
returns-then-branch-keep-clause-looks g c = looked (looks_then c.in_ok-block.ensures.looks.only c.in_ok-free_blocks.ensures.looks.only) (λ tells frees.
    let geometry = c.args.v.now.geometry in
    let image = g.N.NorState.bytes c.args.v.now.nor.now in
    let first = c.in_ok-block.ensures.looks.only in
    let none : the_open_block geometry image c.args.kind c.args.not_in ≡ None = sym (c.in_ok-block.ensures.looks.told tells frees) ∙ c.in_default.is in
    let count : c.in_ok-free_blocks.field-0 ≡ free_blocks geometry image = rw (first.same.geometry, first.reads.bytes) at (c.in_ok-free_blocks.ensures.looks.told (first.reads.told tells) (rw (first.same.geometry, first.reads.bytes) frees)) in
    let few : nat_lt c.args.keep (free_blocks geometry image) ≡ false = le-ltb c.args.keep (free_blocks geometry image) (omega (arith, count, c.if-branch-keep.true)) in
    rw (none, few) refl)

pub returns-clause-looks : goal.returns-clause-looks
unfolding the_block
returns-clause-looks g c = looked_then (looks_then c.in_ok-block.ensures.looks.only c.in_ok-free_blocks.ensures.looks.only) c.least_worn.ensures.looks (λ tells found worn frees.
    let geometry = c.args.v.now.geometry in
    let image = g.N.NorState.bytes c.args.v.now.nor.now in
    let first = c.in_ok-block.ensures.looks.only in
    let second = looks_then first c.in_ok-free_blocks.ensures.looks.only in
    let none : the_open_block geometry image c.args.kind c.args.not_in ≡ None = sym (c.in_ok-block.ensures.looks.told tells frees) ∙ c.in_default.is in
    let count : c.in_ok-free_blocks.field-0 ≡ free_blocks geometry image = rw (first.same.geometry, first.reads.bytes) at (c.in_ok-free_blocks.ensures.looks.told (first.reads.told tells) (rw (first.same.geometry, first.reads.bytes) frees)) in
    let more : nat_lt c.args.keep (free_blocks geometry image) ≡ true = lt-ltb c.args.keep (free_blocks geometry image) (omega (arith, count, c.if-branch-keep.false)) in
    rw (none, more) ((rw (second.same.geometry, second.reads.bytes) at worn) frees))
