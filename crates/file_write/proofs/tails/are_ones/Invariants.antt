-- The bytes that were taken are all 0xFF where the least of them is.
use Rattle.std.proofs.Common.{◌≡◌, ◌≤◌, ◌==◌, ◌&&◌, drop}
use Rattle.image_model.specs.Tidy.{is_erased}
use Rattle.file_write.proofs.tails.are_ones.Given as goal

abbrev pub invariant-loop-byte : goal.invariant-loop-byte
invariant-loop-byte l = record {
  most : l.least ≤ 255;
  told : is_erased l.bytes ≡ ((l.least == 0xFF) && is_erased (drop l.byte-index l.bytes));
}
