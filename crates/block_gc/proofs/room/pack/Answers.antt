use Rattle.std.proofs.Common.{◌≡◌, refl, rules, arith, Ok, Err}
use Rattle.flash_view.specs.Steps.{Stepped, stopped}
use Rattle.flash_view.proofs.Stepped.{looked, look_faults, passes, stepped_then, view_image}
use Rattle.block_gc.proofs.Cleanings.{none_cut, telling, packing_begins, packing_ends}
use Rattle.block_gc.proofs.room.pack.Goals as goal

pub returns-in_err-collect : goal.returns-in_err-collect
returns-in_err-collect g c =
    let is : c.from_residual.result ≡ Err c.in_err-collect.field-0.0 = search rules in
    passes c.in_err-collect.ensures.step is (λ tells t. packing_begins _ _ t)

pub returns-in_err-is_stuck : goal.returns-in_err-is_stuck
returns-in_err-is_stuck g c =
    let seen = c.in_err-is_stuck.ensures in
    let look : Stepped stopped c.collect.new.v c.is_stuck.new.v c.from_residual-in_err-is_stuck.result (telling (g.N.NorState.device_writes c.collect.new.v.nor.now) (g.N.NorState.device_writes c.is_stuck.new.v.nor.now)) = look_faults seen.looks seen.cause c.from_residual-in_err-is_stuck.ensures.0 c.from_residual-in_err-is_stuck.ensures.1 (λ tells t. none_cut _ _ t) in
    stepped_then c.in_ok-collect.ensures.step look (λ tells t. packing_begins _ _ t) (λ tells t all. packing_ends _ _ _ _ (view_image c.args.v.now (g.met.N.Nor.sized _) tells) t all)

pub returns : goal.returns
returns g c =
    let seen = c.in_ok-is_stuck.ensures in
    let look : Stepped stopped c.collect.new.v c.is_stuck.new.v (Ok c.in_ok-is_stuck.field-0) (telling (g.N.NorState.device_writes c.collect.new.v.nor.now) (g.N.NorState.device_writes c.is_stuck.new.v.nor.now)) = looked seen.looks (λ e. absurd (cc)) tt (λ tells t. (none_cut _ _ t, (refl, seen.told tells t, let same = seen.looks.reads.writes in omega (arith, same)))) in
    stepped_then c.in_ok-collect.ensures.step look (λ tells t. packing_begins _ _ t) (λ tells t all. packing_ends _ _ _ _ (view_image c.args.v.now (g.met.N.Nor.sized _) tells) t all)
