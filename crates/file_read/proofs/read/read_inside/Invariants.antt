-- So many bytes were read.
use Rattle.std.proofs.Common.{◌≡◌, ◌+◌, ◌-◌, ◌<◌, ◌≤◌, length, Some}
use Rattle.table_model.specs.Table.{File}
use Rattle.image_model.specs.Live.{live_at, own}
use Rattle.image_model.specs.Files.{index_page}
use Rattle.flash_view.specs.Same.{OnlyLooks}
use Rattle.file_read.specs.Whole.{IsFileOf, Reading}
use Rattle.file_read.proofs.read.read_inside.Given as goal

abbrev pub invariant-loop-done : goal.invariant-loop-done
invariant-loop-done g l = record {
  looks : OnlyLooks l.fn.v l.v;
  size : length l.into ≡ length l.fn.into;
  some : l.done ≤ length l.into;
  read :
      (let image = g.N.NorState.bytes l.fn.v.nor.now in
      g.N.NorState.tells l.fn.v.nor.now → (f : File) → IsFileOf l.fn.v.geometry image l.id f → l.at + length l.fn.into ≤ length f.bytes → index_page l.fn.v.geometry (own (live_at l.fn.v.geometry image) l.id) 0 ≡ Some l.header → Reading l.fn.v.geometry image l.id f l.at l.done l.into);
}

abbrev pub decreases-loop-done : goal.decreases-loop-done
decreases-loop-done g l = length l.into - l.done
