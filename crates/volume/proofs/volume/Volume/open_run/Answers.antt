use Rattle.std.proofs.Common.{sym, ◌∙◌}
use Rattle.volume.proofs.Continuing.{closed_apart, unwritable_apart, goes_apart, goes_on_at}
use Rattle.volume.proofs.volume.Volume.open_run.Goals as goal

pub returns-in_default-clause-apart : goal.returns-in_default-clause-apart
returns-in_default-clause-apart g c = λ e bytes long. closed_apart c.args.self.now c.args.fd c.in_default.ensures.closed bytes

pub returns-then-not-may_write-clause-apart : goal.returns-then-not-may_write-clause-apart
returns-then-not-may_write-clause-apart g c = λ e bytes long. unwritable_apart c.args.self.now c.args.fd c.in-Ok.slot c.in-Ok.ensures.found (sym c.may_write.ensures ∙ c.if-not-may_write.true) bytes

pub returns-then-not-accepts-clause-apart : goal.returns-then-not-accepts-clause-apart
returns-then-not-accepts-clause-apart g c =
    let self = c.args.self.now in
    λ e bytes long. goes_apart self c.args.fd c.in-Ok.slot c.in-Ok.ensures.found c.next_place-at.result c.args.len (c.next_place-at.ensures self.window.now self.held_fits)
    (sym (rw c.body.ensures at (c.accepts.ensures self.window.now self.held_fits)) ∙ c.if-not-accepts.true) bytes long

pub returns-clause-on : goal.returns-clause-on
returns-clause-on g c =
    let self = c.args.self.now in
    let slot = c.in-Ok.slot in
    goes_on_at self c.args.fd slot c.in-Ok.ensures.found c.next_place-at.result c.args.len (c.next_place-at.ensures self.window.now self.held_fits) c.in-Ok.ensures.within.0 c.in-Ok.ensures.within.1 c.in-Ok.ensures.used (sym c.may_write.ensures ∙ c.if-not-may_write.false)
    (sym (rw c.body.ensures at (c.accepts.ensures self.window.now self.held_fits)) ∙ c.if-not-accepts.false)
