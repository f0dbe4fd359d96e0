-- The hash of the bytes before the next one.
use Rattle.std.proofs.Common.{◌≡◌, ◌+◌, ◌*◌, ◌%◌, ◌<◌, take, ℕ}
use Rattle.std.specs.List.{fold}
use Rattle.plain_image.proofs.marks.name_mark.Given as goal

abbrev pub invariant-loop-byte : goal.invariant-loop-byte
invariant-loop-byte l = record {
  few : l.hash < 0x4000;
  is : l.hash ≡ fold (λ (h b : ℕ). (31 * h + b) % 0x4000) 0 (take l.byte-index l.name);
}
