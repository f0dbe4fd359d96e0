-- None of the records up to an id has the working name, and so many they are.
use Rattle.std.proofs.Common.{◌≤◌, ◌-◌, List}
use Rattle.nor_core.specs.Device.{OnlyReads}
use Rattle.table_model.specs.Table.{File}
use Rattle.vol_mount.specs.Readers.{IsSameReader}
use Rattle.vol_copy.specs.Ends.{TellsFiles}
use Rattle.vol_copy.proofs.Searching.{HasNone}
use Rattle.vol_copy.proofs.reading.first_working.Given as goal

abbrev pub invariant-records : goal.invariant-records
invariant-records g l = record {
  few : l.at ≤ l.after;
  reads : OnlyReads g.N.NorState l.fn.from.nor.now l.from.nor.now;
  same : IsSameReader l.fn.from l.from;
  none : (source : List File) → TellsFiles g.N.NorState l.fn.from source → HasNone l.after l.at source;
}

abbrev pub decreases-records : goal.decreases-records
decreases-records g l = 65536 - l.after
