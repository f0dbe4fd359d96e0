-- The record that a header page tells.
use Rattle.std.specs.Prelude.{ℕ, List, Option, option_and_then, Some}
use Rattle.geometry.specs.declared.geometry.Geometry.{Geometry}
use Rattle.table_model.specs.declared.reply.Stat.{Stat}
use Rattle.page_layout.specs.Layout.{type_of, meta_of}
use Rattle.image_model.specs.Headers.{name_of, size_of}

-- the record of the file of an id, where its header page has a name (SPIFFS object index header)
abbrev pub stat_in : Geometry → List ℕ → ℕ → Option Stat
stat_in g page id =
    option_and_then (λ name. Some (record { id = id; kind = type_of page; size = size_of page; name = name; meta = meta_of g page })) (name_of page)
