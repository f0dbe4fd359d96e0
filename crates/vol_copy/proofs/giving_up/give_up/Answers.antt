use Rattle.vol_copy.proofs.Chains.{untold_cuts, untold_stops, given_cuts, given_ends, given_stops}
use Rattle.vol_copy.proofs.giving_up.give_up.Goals as goal

pub returns-in-Err-clause-cuts : goal.returns-in-Err-clause-cuts
returns-in-Err-clause-cuts g c = untold_cuts c.args.index c.args.pages c.args.to.now c.info_on.new.to c.info_on.result c.info_on.ensures.went

pub returns-in-Err-clause-stops : goal.returns-in-Err-clause-stops
returns-in-Err-clause-stops g c = untold_stops c.args.index c.args.pages c.args.to.now c.info_on.new.to c.info_on.result c.info_on.ensures.went _ c.in-Err.is

pub returns-in-Err-clear-clause-cuts : goal.returns-in-Err-clear-clause-cuts
returns-in-Err-clear-clause-cuts g c = given_cuts c.args.index c.args.pages c.args.to.now c.info_on.new.to c.info_on.result c.info_on.ensures.went c.in-Ok.info c.in-Ok.is c.clear.new.to c.clear.result c.clear.ensures.went

pub returns-in-Err-clear-clause-stops : goal.returns-in-Err-clear-clause-stops
returns-in-Err-clear-clause-stops g c = given_stops c.args.index c.args.pages c.args.to.now c.info_on.new.to c.info_on.result c.info_on.ensures.went c.in-Ok.info c.in-Ok.is c.clear.new.to c.clear.result c.clear.ensures.went _ c.in-Err-clear.is

pub returns-in-Ok-clear-clause-cuts : goal.returns-in-Ok-clear-clause-cuts
returns-in-Ok-clear-clause-cuts g c = given_cuts c.args.index c.args.pages c.args.to.now c.info_on.new.to c.info_on.result c.info_on.ensures.went c.in-Ok.info c.in-Ok.is c.clear.new.to c.clear.result c.clear.ensures.went

pub returns-in-Ok-clear-clause-stops : goal.returns-in-Ok-clear-clause-stops
returns-in-Ok-clear-clause-stops g c =
    rw (c.from.ensures, c.from-in-Ok-clear.ensures, c.from-in-Ok-clear-2.ensures, c.from-in-Ok-clear-3.ensures)
    (given_ends c.args.index c.args.pages c.args.to.now c.info_on.new.to c.info_on.result c.info_on.ensures.went c.in-Ok.info c.in-Ok.is c.clear.new.to c.clear.result c.clear.ensures.went c.in-Ok-clear.is)
