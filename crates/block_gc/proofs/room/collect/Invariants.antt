-- Each turn so far was a cleaning; where the goal was met at first nothing was changed.
use Rattle.std.proofs.Common.{Ok}
use Rattle.nor_core.specs.Device.{OnlyReads}
use Rattle.image_model.specs.Tidy.{IsTidy}
use Rattle.flash_view.specs.Steps.{Stepped, stopped}
use Rattle.block_gc.specs.RoomMade.{IsMet}
use Rattle.block_gc.proofs.Cleanings.{collecting_to}
use Rattle.block_gc.proofs.room.collect.Given as goal

abbrev pub invariant-loop-turn : goal.invariant-loop-turn
invariant-loop-turn g l = record {
  step : Stepped stopped l.fn.v l.v (Ok tt) (collecting_to l.fn.goal l._turn (g.N.NorState.device_writes l.fn.v.nor.now) (g.N.NorState.device_writes l.v.nor.now));
  idle : (g.N.NorState.tells l.fn.v.nor.now → IsTidy l.fn.v.geometry (g.N.NorState.bytes l.fn.v.nor.now) → IsMet l.fn.v.geometry (g.N.NorState.bytes l.fn.v.nor.now) l.fn.goal → OnlyReads g.N.NorState l.fn.v.nor.now l.v.nor.now);
}
