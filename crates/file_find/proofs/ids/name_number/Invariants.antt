-- The hash of the bytes before the next one.
use Rattle.std.proofs.Common.{◌≡◌, ◌+◌, ◌*◌, ◌%◌, ◌<◌, take, ℕ}
use Rattle.std.specs.List.{fold}
use Rattle.file_find.proofs.ids.name_number.Given as goal

abbrev pub invariant-loop-byte : goal.invariant-loop-byte
invariant-loop-byte l = record {
  few : l.hash < 0x8000;
  is : l.hash ≡ fold (λ (h b : ℕ). (101 * h + b) % 0x8000) 0 (take l.byte-index l.name);
}
