-- Calls that give a file another name or other meta bytes.
use Rattle.std.specs.Prelude.{◌≡◌, ◌≢◌, ℕ, List, All, Bool, true, false, Some, None}
use Rattle.geometry.specs.declared.geometry.Geometry.{Geometry}
use Rattle.nor_core.specs.declared.state.NorState.{Ghosts as NorOf}
use Rattle.table_model.specs.Table.{File, State, file_of}
use Rattle.table_model.specs.Files.{with_file}
use Rattle.table_model.specs.Outcome.{Outcome, gives, with_page}
use Rattle.table_model.specs.Reply.{Fine}
use Rattle.table_model.specs.Ask.{Ask, Renames, SetsMeta, SetsMetaOpen}
use Rattle.table_model.specs.Flat.{answer}
use Rattle.image_model.specs.Tables.{table_of}
use Rattle.image_model.specs.Tidy.{has_spare}
use Rattle.fd_table.specs.declared.slot.FdSlot.{FdSlot}
use Rattle.fd_table.specs.Slots.{descriptors}
use Rattle.page_renew.specs.declared.edits.Edit.{Edit}
use Rattle.page_renew.specs.Restated.{restates, restated}
use Rattle.file_calls.specs.Slots.{slots_fault}
use Rattle.file_calls.specs.States.{IsImageOf}

-- such a call
abbrev pub is_restating : Ask → Bool
is_restating (Renames old_name new_name) = true
is_restating (SetsMeta name meta) = true
is_restating (SetsMetaOpen fd meta) = true
is_restating _ = false

-- what it makes of a state
abbrev pub restated_as : Edit → File → State → Outcome
restated_as edit f s = gives Fine (with_file (restated edit f) s)

-- A call of this sort, of which the arguments and the descriptor are accepted, restates the file of an id, which is in the table, where a
-- page is had for it; no other file has the name after it.
pub record IsRestating {D : Type 0} (nor : NorOf D) (g : Geometry) (slots : List FdSlot) (ask : Ask) (edit : Edit) (id : ℕ) (old : D) : Type 0 where
  pub sort : is_restating ask ≡ true
  pub fine : slots_fault g (descriptors slots) ask ≡ None
  pub kind : restates edit ≡ true
  pub there : (s : State) → IsImageOf nor g old slots s → (f : File) × (file_of id (table_of g (nor.bytes old)) ≡ Some f)
  pub unused : (s : State) → IsImageOf nor g old slots s → (f : File) → file_of id (table_of g (nor.bytes old)) ≡ Some f →
      All (λ x. x.id ≢ id → x.name ≢ (restated edit f).name) (table_of g (nor.bytes old))
  pub is : (s : State) → IsImageOf nor g old slots s → (f : File) → file_of id (table_of g (nor.bytes old)) ≡ Some f →
      answer g (has_spare g (nor.bytes old)) s ask ≡ with_page g (has_spare g (nor.bytes old)) s (restated_as edit f s)
