-- What the words ask for, and what is refused of it before the chip is read.
use Rattle.std.proofs.Common.{ℕ, ◌≡◌, List, Bool, subst}
use Rattle.std.specs.Prelude.{Option, Some, None}
use Rattle.geometry.specs.declared.geometry.Geometry.{Geometry}
use Rattle.nor_core.specs.declared.state.NorState.{Ghosts as NorOf}
use Rattle.nor_core.specs.declared.source.Source.{Ghosts as SourceOf}
use Rattle.tool_parts.specs.declared.buffers.Buffers.{Buffers}
use Rattle.tool_parts.specs.declared.buffers.Lengths.{Lengths}
use Rattle.tool_parts.specs.declared.ending.Ending.{Ending}
use Rattle.tool_parts.specs.declared.words.Numbers.{Numbers}
use Rattle.tool_parts.specs.Accepting.{write_refusal_of}
use Rattle.tool_parts.specs.Asked.{Asked, asked_by}
use Rattle.tool_parts.specs.Early.{IsEarly, IsEarlyIf}
use Rattle.tool_parts.specs.Lent.{lengths_of, asked_of}
use Rattle.tool_parts.proofs.Early.{length_early, refused_early}
use Rattle.rehearse_tool.specs.Rehearsing.{DoesRehearse, Rehearses}
use Rattle.rehearse_tool.specs.Words.{numbers_of, wants_tables, refusal_for, refusal_of, IsPlanned}

-- ---- what is refused is refused for its words, numbers, device or memory

words_early : (numbers : Option Numbers) (unit size : ℕ) (lent : Lengths) → IsEarlyIf (refusal_for numbers unit size lent)
words_early None unit size lent = tt {0}
words_early (Some n) unit size lent = refused_early (write_refusal_of n unit size) _ (length_early n.page n.block n.blocks lent)

refusal_early : (a : Asked) → IsEarlyIf (refusal_of a)
unfolding refusal_of
refusal_early a = words_early (numbers_of a.words) a.unit a.size a.lent

pub ending_early : (a : Asked) (ending : Ending) → refusal_of a ≡ Some ending → IsEarly ending
ending_early a ending is = subst (λ (o : Option Ending). IsEarlyIf o) is (refusal_early a)

-- ---- what isn't

module _ {D X : Type 0} (nor : NorOf D) (source : SourceOf X) (words : List (List ℕ)) (bufs : Buffers) (old new : D) (script after : X) (status : ℕ) where
  pub rehearses_as : (g : Geometry) (unit size : ℕ) (lent : Lengths) (tables : Bool) → unit ≡ nor.unit old → size ≡ nor.size old → lent ≡ lengths_of bufs → tables ≡ wants_tables words → IsPlanned (asked_by words unit size lent) g
      → DoesRehearse nor source g (lengths_of bufs) tables old new script after status → Rehearses nor source (asked_of nor words old bufs) old new script after status
  rehearses_as g unit size lent tables unit_is size_is lent_is tables_is planned does = record {
    geometry = g;
    planned = subst (λ (l : Lengths). IsPlanned (asked_by words (nor.unit old) (nor.size old) l) g) lent_is
        (subst (λ (n : ℕ). IsPlanned (asked_by words (nor.unit old) n lent) g) size_is
        (subst (λ (n : ℕ). IsPlanned (asked_by words n size lent) g) unit_is planned));
    does = subst (λ (b : Bool). DoesRehearse nor source g (lengths_of bufs) b old new script after status) tables_is does;
  }
