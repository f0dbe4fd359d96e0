-- So many bytes were read, and this index page names the next data page.
use Rattle.std.proofs.Common.{◌≡◌, ◌+◌, ◌-◌, ◌/◌, ◌<◌, ◌≤◌, length, Some}
use Rattle.geometry.specs.Numbers.{body}
use Rattle.table_model.specs.Table.{File}
use Rattle.image_model.specs.Live.{live_at, own}
use Rattle.image_model.specs.Files.{index_page, index_span}
use Rattle.flash_view.specs.Same.{OnlyLooks}
use Rattle.file_read.specs.Whole.{Reading}
use Rattle.file_read.proofs.read.read_named.Given as goal

abbrev pub invariant-loop-done : goal.invariant-loop-done
invariant-loop-done g l = record {
  looks : OnlyLooks l.fn.v l.v;
  size : length l.into ≡ length l.fn.into;
  from : l.initial.done ≤ l.done;
  some : l.done < length l.into;
  named : index_span l.fn.v.geometry ((l.at + l.done) / body l.fn.v.geometry) ≡ l.which;
  read :
      (let image = g.N.NorState.bytes l.fn.v.nor.now in
      g.N.NorState.tells l.fn.v.nor.now → (f : File) → Reading l.fn.v.geometry image l.id f l.at l.initial.done l.fn.into → index_page l.fn.v.geometry (own (live_at l.fn.v.geometry image) l.id) l.which ≡ Some l.index → Reading l.fn.v.geometry image l.id f l.at l.done l.into);
}

abbrev pub decreases-loop-done : goal.decreases-loop-done
decreases-loop-done g l = length l.into - l.done
