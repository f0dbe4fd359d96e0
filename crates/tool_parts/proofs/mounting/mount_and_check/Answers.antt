use Rattle.std.proofs.Common.{◌∙◌, ap, inr, rules}
use Rattle.geometry.specs.Numbers.{write_refusal}
use Rattle.tool_parts.proofs.Mounted.{mount_stops, mount_changes, check_stops, check_changes, check_idle, was_reported}
use Rattle.tool_parts.proofs.Among.{mount_among, check_among}
use Rattle.tool_parts.proofs.mounting.mount_and_check.Goals as goal

pub returns-in-Err-clause-changes : goal.returns-in-Err-clause-changes
returns-in-Err-clause-changes g c = mount_changes c.mount.ensures.looks

pub returns-in-Err-clause-stops : goal.returns-in-Err-clause-stops
returns-in-Err-clause-stops g c = λ tells. rw c.mount_ending.ensures.ends (mount_stops c.args.volume.now.geometry c.in-Err.why c.mount.ensures.looks (c.in-Err.ensures.spoiled tells))

pub returns-in-Ok-clause-changes : goal.returns-in-Ok-clause-changes
returns-in-Ok-clause-changes g c = check_changes c.mount.new.self.geometry c.mount.ensures.same.geometry c.mount.ensures.looks (c.check.ensures.checks (search rules)).changes

pub returns-in-Ok-clause-reported : goal.returns-in-Ok-clause-reported
returns-in-Ok-clause-reported g c = λ tells. was_reported c.in-Ok.report c.mount.new.self.geometry c.mount.ensures.same.geometry c.mount.ensures.looks (search rules) ((c.in-Ok.ensures.checks (search rules)).fits (c.mount.ensures.looks.told tells)) ((c.in-Ok.ensures.checks (search rules)).done (c.mount.ensures.looks.told tells)) ((c.in-Ok.ensures.checks (search rules)).mends (c.mount.ensures.looks.told tells))

pub returns-in-Err-check-clause-changes : goal.returns-in-Err-check-clause-changes
returns-in-Err-check-clause-changes g c = check_changes c.mount.new.self.geometry c.mount.ensures.same.geometry c.mount.ensures.looks (c.check.ensures.checks (search rules)).changes

pub returns-in-Err-check-clause-stops : goal.returns-in-Err-check-clause-stops
returns-in-Err-check-clause-stops g c = λ tells. rw c.check_ending.ensures.ends (check_stops c.in-Err-check.why c.mount.new.self.geometry c.mount.ensures.same.geometry ((c.in-Err-check.ensures.checks (search rules)).writable (ap write_refusal c.mount.ensures.same.geometry ∙ c.requires.writable)) c.mount.ensures.looks (search rules) (c.in-Err-check.ensures.checks (search rules)).refused (λ over. (c.in-Err-check.ensures.checks (search rules)).spared (c.mount.ensures.looks.told tells) (inr over)) ((c.in-Err-check.ensures.checks (search rules)).mixed (c.mount.ensures.looks.told tells)) ((c.in-Err-check.ensures.checks (search rules)).undamaged (c.mount.ensures.looks.told tells)))

pub returns-in-Err-clause-idle : goal.returns-in-Err-clause-idle
returns-in-Err-clause-idle g c = λ tells tidy reserve. c.mount.ensures.looks

pub returns-in-Ok-clause-idle : goal.returns-in-Ok-clause-idle
returns-in-Ok-clause-idle g c = check_idle c.mount.new.self.geometry c.mount.ensures.same.geometry c.mount.ensures.looks (c.check.ensures.checks (search rules)).idle

pub returns-in-Err-check-clause-idle : goal.returns-in-Err-check-clause-idle
returns-in-Err-check-clause-idle g c = check_idle c.mount.new.self.geometry c.mount.ensures.same.geometry c.mount.ensures.looks (c.check.ensures.checks (search rules)).idle

pub returns-in-Err-clause-among : goal.returns-in-Err-clause-among
returns-in-Err-clause-among g c = rw c.mount_ending.ensures.ends (mount_among c.in-Err.why)

pub returns-in-Err-check-clause-among : goal.returns-in-Err-check-clause-among
returns-in-Err-check-clause-among g c =
    let writable = (c.in-Err-check.ensures.checks (search rules)).writable (ap write_refusal c.mount.ensures.same.geometry ∙ c.requires.writable) in
    rw c.check_ending.ensures.ends (check_among c.in-Err-check.why writable (c.in-Err-check.ensures.checks (search rules)).apart)
