-- Records without where they lie in memory.
use Rattle.std.specs.Prelude.{ℕ, Option, Some, None, Result, Ok, Err}
use Rattle.image_model.specs.declared.damage.Damage.{Damage}
use Rattle.plain_image.specs.declared.record.Record.{Record}
use Rattle.table_model.specs.Table.{File}

abbrev pub file : Record → File
file r = record { id = r.id; name = r.name.items; kind = r.kind; meta = r.meta.items; bytes = r.bytes.items }

abbrev pub seen : Result Record Damage → Result File Damage
seen (Ok r) = Ok (file r)
seen (Err e) = Err e

abbrev pub seen_at : Option (ℕ × Result Record Damage) → Option (ℕ × Result File Damage)
seen_at None = None
seen_at (Some (p, r)) = Some (p, seen r)
