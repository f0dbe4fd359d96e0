use Rattle.std.proofs.Common.{◌≡◌, refl, rules, true, false}
use Rattle.flash_view.proofs.Stepped.{view_image}
use Rattle.image_model.specs.Tables.{table_of}
use Rattle.file_write.proofs.BytesReadied.{chosen, home_there, home_found}
use Rattle.file_write.proofs.UnreadyTails.{never, no_other, tail_told}
use Rattle.file_write.proofs.tails.is_tail_ready.Goals as goal

pub returns-in_default-clause-told : goal.returns-in_default-clause-told
returns-in_default-clause-told g c = λ tells tidy there. never false refl (λ ready. home_there _ _ _ (view_image c.args.v.now (g.met.N.Nor.sized _) tells) tidy there (rw c.in_default.is at (c.in_ok-header.ensures.told tells tidy)))

pub returns-then-not-branch-clause-told : goal.returns-then-not-branch-clause-told
returns-then-not-branch-clause-told g c = λ tells tidy there.
    let one = c.in_ok-header.ensures.looks in
    let seen = c.in_ok-is_clean_by.ensures in
    let home = rw c.in-Some.is at (c.in_ok-header.ensures.told tells tidy) in
    let other = seen.other (one.reads.told tells) (rw (one.same.geometry, one.reads.bytes) tidy) (rw (one.same.geometry, one.reads.bytes) home.0) in
    let is : c.in_ok-is_clean_by.field-0 ≡ false = search rules in
    let at = home_found _ _ c.args.id (view_image c.args.v.now (g.met.N.Nor.sized _) tells) tidy there c.in-Some.field-0 home in
    never false refl (λ ready. no_other _ _ _ c.in-Some.field-0.size _ (record { home = at; ready = ready }) (rw one.same.geometry at (rw is at seen.part)) (rw (one.same.geometry, one.reads.bytes) at (rw is at other)))

pub returns-clause-told : goal.returns-clause-told
returns-clause-told g c = λ tells tidy there.
    let one = c.in_ok-header.ensures.looks in
    let two = c.in_ok-is_clean_by.ensures.looks in
    let first = one.reads.told tells in
    let home = rw c.in-Some.is at (c.in_ok-header.ensures.told tells tidy) in
    let clean = c.in_ok-is_clean_by.ensures.told first (rw (one.same.geometry, one.reads.bytes) tidy) (rw (one.same.geometry, one.reads.bytes) home.0) in
    let stale = c.in_ok-stale.ensures.told (two.reads.told first) (rw (two.same.geometry, two.reads.bytes) (rw (one.same.geometry, one.reads.bytes) tidy)) in
    let taken = c.in_ok-stale.ensures.taken (two.reads.told first) in
    let yes : c.in_ok-is_clean_by.field-0 ≡ true = search rules in
    let at = home_found c.args.v.now.geometry (g.N.NorState.bytes c.args.v.now.nor.now) c.args.id (view_image c.args.v.now (g.met.N.Nor.sized _) tells) tidy there c.in-Some.field-0 home in
    tail_told c.args.v.now.geometry (g.N.NorState.bytes c.args.v.now.nor.now) c.args.id (chosen (table_of c.args.v.now.geometry (g.N.NorState.bytes c.args.v.now.nor.now)) c.args.id) c.in-Some.field-0 c.in_ok-is_clean_by.field-0 c.in_ok-stale.stale c.is_none.result
    at yes (rw (one.same.geometry, one.reads.bytes) at clean) (rw (one.same.geometry, one.reads.bytes) at (rw (two.same.geometry, two.reads.bytes) at stale)) (rw (one.same.geometry, one.reads.bytes) at (rw (two.same.geometry, two.reads.bytes) at taken)) c.is_none.ensures
