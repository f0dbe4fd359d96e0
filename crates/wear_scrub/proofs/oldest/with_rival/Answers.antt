use Rattle.std.proofs.Common.{◌∙◌, sym}
use Rattle.block_gc.specs.Spares.{MayMove}
use Rattle.wear_scrub.proofs.Victims.{turns_past, turns_to}
use Rattle.wear_scrub.proofs.oldest.with_rival.Goals as goal

pub returns-then-not-is_rival-clause-told : goal.returns-then-not-is_rival-clause-told
returns-then-not-is_rival-clause-told g c = λ tells tidy next.
    let counts = c.in_ok-c.ensures.looks.told tells in
    let isnt = rw c.age_of-age.ensures at (sym c.is_rival.ensures ∙ c.if-not-is_rival.true) in
    turns_past _ _ c.args.block c.in_ok-c.c _ c.args.next tidy c.requires.block counts c.entries-entries.ensures.count next c.args.least c.args.oldest isnt

pub returns-then-branch-clause-told : goal.returns-then-branch-clause-told
returns-then-branch-clause-told g c = λ tells tidy next.
    let first = c.in_ok-c.ensures.looks in
    let counts = first.told tells in
    let is = rw c.age_of-age.ensures at (sym c.is_rival.ensures ∙ c.if-not-is_rival.false) in
    let may : MayMove c.args.v.now.geometry (g.N.NorState.bytes c.args.v.now.nor.now) c.args.block = rw (c.if-branch.true, first.only.same.geometry, first.only.reads.bytes) at (c.in_ok-may_move.ensures.told (first.only.reads.told tells)) tidy in
    rw c.age_of-age.ensures (turns_to _ _ c.args.block c.in_ok-c.c _ c.args.next tidy c.requires.block counts c.entries-entries.ensures.count next c.args.least c.args.oldest is may)
