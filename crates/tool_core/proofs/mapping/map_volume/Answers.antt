use Rattle.std.proofs.Common.{◌≡◌, ◌∙◌, ℕ, ap, sym, subst}
use Rattle.std.specs.Prelude.{nat_lt}
use Rattle.geometry.specs.declared.geometry.Geometry.{Geometry}
use Rattle.image_model.specs.Tidy.{IsTidy}
use Rattle.tool_parts.proofs.Begun.{memory_begun}
use Rattle.tool_core.proofs.MapEnds.{maps_stopped, maps_checked}
use Rattle.tool_core.proofs.Among.{check_in_map}
use Rattle.tool_core.proofs.mapping.map_volume.Goals as goal

pub map_checked-requires-clause-free : goal.map_checked-requires-clause-free
map_checked-requires-clause-free g c = ap (λ (n : ℕ). nat_lt 0 n) c.mount_and_check.ensures.map.room ∙ c.requires.free

pub map_checked-requires-clause-tidy : goal.map_checked-requires-clause-tidy
map_checked-requires-clause-tidy g c = λ tells.
    let checked = c.in-Ok.ensures.reported (c.mount_and_check.ensures.changes.cuts.told_before tells) in
    subst (λ (k : Geometry). IsTidy k (g.B.NorState.bytes c.mount_and_check.new.volume.nor.now)) (sym c.mount_and_check.ensures.same.geometry) checked.done.tidy

pub returns-in-Ok-clause-maps : goal.returns-in-Ok-clause-maps
returns-in-Ok-clause-maps g c = λ slots closed. maps_checked c.in-Ok.field-0 c.map_checked.result c.mount_and_check.new.volume.geometry c.mount_and_check.ensures.same.geometry c.mount_and_check.ensures.changes c.in-Ok.ensures.reported c.mount_and_check.ensures.idle
    (c.map_checked.ensures.maps slots (memory_begun c.args.volume.now c.mount_and_check.new.volume slots c.in-Ok.ensures.closed closed))

pub returns-in-Err-clause-maps : goal.returns-in-Err-clause-maps
returns-in-Err-clause-maps g c = λ slots closed. maps_stopped c.in-Err.ending c.mount_and_check.ensures.changes c.in-Err.ensures.stops

pub returns-in-Err-clause-among : goal.returns-in-Err-clause-among
returns-in-Err-clause-among g c = check_in_map c.args.id c.in-Err.ending c.in-Err.ensures.among
