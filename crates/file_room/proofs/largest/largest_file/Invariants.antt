-- A file of `fits` bytes has room, and one of `over` bytes has none.
use Rattle.std.proofs.Common.{◌≡◌, ◌-◌, ◌<◌, true, false}
use Rattle.file_room.specs.Fitting.{has_room_for}
use Rattle.file_room.proofs.largest.largest_file.Given as goal

abbrev pub invariant-loop-over : goal.invariant-loop-over
invariant-loop-over l = record {
  low : has_room_for l.g l.info.index_pages l.info.data_pages l.fits ≡ true;
  high : has_room_for l.g l.info.index_pages l.info.data_pages l.over ≡ false;
  apart : l.fits < l.over;
}

abbrev pub decreases-loop-over : goal.decreases-loop-over
decreases-loop-over l = l.over - l.fits
