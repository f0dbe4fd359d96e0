-- What the flat table answers to calls that only look.
use Rattle.std.proofs.Common.{◌≡◌, ℕ, List, Bool, refl, sym, ◌∙◌, ap}
use Rattle.std.specs.Prelude.{Option, Some, None}
use Rattle.std.specs.Option.{option_map}
use Rattle.geometry.specs.declared.geometry.Geometry.{Geometry}
use Rattle.table_model.specs.declared.error.FsErr.TheVariants.{NotFound}
use Rattle.table_model.specs.declared.reply.Stat.{Stat}
use Rattle.table_model.specs.declared.reply.Info.{Info}
use Rattle.table_model.specs.Table.{File, State, file_named, file_above}
use Rattle.table_model.specs.Names.{name_refusal}
use Rattle.table_model.specs.Files.{stat_of}
use Rattle.table_model.specs.Calls.{answer_stat, answer_next, info_of}
use Rattle.table_model.specs.Outcome.{refused, gives}
use Rattle.table_model.specs.Reply.{Shows, Counts}
use Rattle.table_model.specs.Ask.{Stats, NextAbove, Informs}
use Rattle.table_model.specs.Flat.{answer}
use Rattle.file_calls.specs.Replies.{shown_or_end}

stat_by : (g : Geometry) (spare : Bool) (s : State) (name : List ℕ) (o : Option File) → name_refusal name ≡ None → file_named name s.table ≡ o → (stat : Stat) → Some stat ≡ option_map stat_of o → answer g spare s (Stats name) ≡ gives (Shows stat) s
unfolding answer answer_stat
stat_by g spare s name None fine at stat e = absurd (cc)
stat_by g spare s name (Some f) fine at stat e = let same : stat ≡ stat_of f = cc in rw (fine, at, same) refl

stat_none_by : (g : Geometry) (spare : Bool) (s : State) (name : List ℕ) (o : Option File) → name_refusal name ≡ None → file_named name s.table ≡ o → None ≡ option_map stat_of o → answer g spare s (Stats name) ≡ refused NotFound s
unfolding answer answer_stat
stat_none_by g spare s name None fine at e = rw (fine, at) refl
stat_none_by g spare s name (Some f) fine at e = absurd (cc)

pub flat_stat : (g : Geometry) (spare : Bool) (s : State) (name : List ℕ) (files : List File) (stat : Stat) → name_refusal name ≡ None → s.table ≡ files → Some stat ≡ option_map stat_of (file_named name files) → answer g spare s (Stats name) ≡ gives (Shows stat) s
flat_stat g spare s name files stat fine same e = stat_by g spare s name (file_named name files) fine (ap (file_named name) same) stat e

pub flat_no_stat : (g : Geometry) (spare : Bool) (s : State) (name : List ℕ) (files : List File) → name_refusal name ≡ None → s.table ≡ files → None ≡ option_map stat_of (file_named name files) → answer g spare s (Stats name) ≡ refused NotFound s
flat_no_stat g spare s name files fine same e = stat_none_by g spare s name (file_named name files) fine (ap (file_named name) same) e

next_by : (g : Geometry) (spare : Bool) (s : State) (after : ℕ) (o : Option File) → file_above after s.table ≡ o → answer g spare s (NextAbove after) ≡ gives (shown_or_end (option_map stat_of o)) s
unfolding answer answer_next
next_by g spare s after None at = rw at refl
next_by g spare s after (Some f) at = rw at refl

pub flat_next : (g : Geometry) (spare : Bool) (s : State) (after : ℕ) (files : List File) (found : Option Stat) → s.table ≡ files → found ≡ option_map stat_of (file_above after files) → answer g spare s (NextAbove after) ≡ gives (shown_or_end found) s
flat_next g spare s after files found same e = next_by g spare s after (file_above after files) (ap (file_above after) same) ∙ ap (λ (o : Option Stat). gives (shown_or_end o) s) (sym e)

pub flat_info : (g : Geometry) (spare : Bool) (s : State) (files : List File) (info : Info) → s.table ≡ files → info ≡ info_of g files → answer g spare s Informs ≡ gives (Counts info) s
unfolding answer
flat_info g spare s files info same e = ap (λ (i : Info). gives (Counts i) s) (ap (info_of g) same ∙ sym e)
