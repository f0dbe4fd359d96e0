-- What is refused of a copy before a device is read: words, then the numbers and the chip of the source, then those of the target, then the
-- memory that is lent for each.
use Rattle.std.specs.Prelude.{ℕ, ◌≡◌, List, Option, Some, None}
use Rattle.geometry.specs.Numbers.{IsOf}
use Rattle.nor_core.specs.declared.state.NorState.{Ghosts as NorOf}
use Rattle.tool_parts.specs.declared.buffers.Buffers.{Buffers}
use Rattle.tool_parts.specs.declared.ending.Ending.{Ending}
use Rattle.tool_parts.specs.declared.ending.Ending.TheVariants.{Usage}
use Rattle.tool_parts.specs.Accepting.{first_of, read_refusal, write_refusal_of, length_refusal, refused_as}
use Rattle.tool_parts.specs.Lent.{lengths_of}
use Rattle.tool_parts.specs.Refusals.{or_ending}
use Rattle.copy_tool.specs.declared.words.CopyForm.{CopyForm}
use Rattle.copy_tool.specs.declared.plan.Side.{Side}
use Rattle.copy_tool.specs.declared.plan.CopyPlan.{CopyPlan}
use Rattle.copy_tool.specs.Words.{copy_form_of}

-- the words, and what there is for the volume that is read and for the one that is written
pub record Asked : Type 0 where
  pub words : List (List ℕ)
  pub source : Side
  pub target : Side

-- what there is for a volume
abbrev pub side_of : {D : Type 0} (nor : NorOf D) → D → Buffers → Side
side_of nor device bufs = record { unit = nor.unit device; size = nor.size device; lent = lengths_of bufs }

-- what the top call is handed, by its parameters
abbrev pub asked_of : {S D : Type 0} (from : NorOf S) (nor : NorOf D) (words : List (List ℕ)) (source : S) (board : D) (source_bufs bufs : Buffers) → Asked
asked_of from nor words source board source_bufs bufs = record { words = words; source = side_of from source source_bufs; target = side_of nor board bufs }

-- how words are refused that give this, or nothing
abbrev pub refusal_for : Option CopyForm → (source target : Side) → Option Ending
refusal_for None source target = Some Usage
refusal_for (Some f) source target =
    refused_as (first_of (read_refusal f.source source.unit source.size) (write_refusal_of f.target target.unit target.size))
    (or_ending (length_refusal f.source.page f.source.block f.source.blocks source.lent)
    (length_refusal f.target.page f.target.block f.target.blocks target.lent))

-- how a copy is refused
unfoldable pub copy_refusal_of : Asked → Option Ending
copy_refusal_of a = refusal_for (copy_form_of a.words) a.source a.target

-- The words are those of a copy between volumes of these geometries, and nothing refuses it.
pub record IsPlanned (a : Asked) (plan : CopyPlan) : Type 0 where
  pub form : CopyForm
  pub words_are : copy_form_of a.words ≡ Some form
  pub source_numbers : IsOf plan.source form.source.page form.source.block form.source.blocks form.source.block form.source.meta form.source.magic
  pub target_numbers : IsOf plan.target form.target.page form.target.block form.target.blocks form.target.block form.target.meta form.target.magic
  pub accepted : copy_refusal_of a ≡ None
