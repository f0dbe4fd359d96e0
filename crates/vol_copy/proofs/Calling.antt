-- One call of a target at rest.
use Rattle.std.proofs.Common.{◌≡◌, ◌⊎◌, ℕ, List, ◌∷◌, true, sym, subst, ⊎_elim}
use Rattle.geometry.specs.declared.geometry.Geometry.{Geometry}
use Rattle.nor_core.specs.declared.state.NorState.{Ghosts as NorOf}
use Rattle.nor_core.proofs.Cuts.{wider}
use Rattle.table_model.specs.declared.error.FsErr.TheVariants.{DeviceFault}
use Rattle.table_model.specs.Table.{File, State}
use Rattle.table_model.specs.Ask.{Ask}
use Rattle.table_model.specs.Reply.{Answer, Refuses}
use Rattle.table_model.specs.Flat.{answer}
use Rattle.table_model.specs.Steps.{steps}
use Rattle.table_model.specs.Window.{IsAmong}
use Rattle.image_model.specs.Tables.{table_of}
use Rattle.call_model.specs.Closed.{with_files}
use Rattle.volume.specs.declared.volume.Volume.{Volume}
use Rattle.volume_run.specs.Resting.{IsAtRest, Rested, is_quiet}
use Rattle.volume_run.proofs.Quieting.{quiet-calls}
use Rattle.copy_model.specs.Steps.{writes_none}
use Rattle.copy_model.specs.Under.{IsTable, IsUnder}
use Rattle.copy_model.specs.Tasks.{Task}
use Rattle.copy_model.proofs.Stepping.{one-step}
use Rattle.copy_model.proofs.Shapes.{IsClosed}
use Rattle.vol_copy.specs.Stages.{Rests, CutsUnder, Leads}
use Rattle.vol_copy.proofs.Composing.{image_table, rest_table}

module _ {M : Type 0} {nor : NorOf M} (ask : Ask) (old new : Volume M nor) (reply : Answer) (rested : Rested ask old new reply) (quiet : is_quiet ask ≡ true) (none : writes_none ask ≡ true) where
  -- the state after it, and its answer
  pub goes : (g : Geometry) (s : State) → IsAtRest g old s → ¬ (reply ≡ Refuses DeviceFault) → (reply ≡ (answer g true s ask).answer) × IsAtRest g new (answer g true s ask).next
  goes g s at whole = rested.answers g s at (quiet-calls g s ask quiet) whole

  -- a cut leaves the table before it, or the one after it
  pub cut_at : (g : Geometry) (s : State) (image : List ℕ) → IsAmong (table_of g image) (s.table ∷ steps g true s ask) → (table_of g image ≡ s.table) ⊎ (table_of g image ≡ (answer g true s ask).next.table)
  cut_at g s image among = one-step g true s ask (table_of g image) none among

  -- where the tables before and after it may be left
  pub any_cuts : (A : Task → Volume M nor → Type 0) (state : (t : Task) → A t old → State) → ((t : Task) (has : A t old) → IsAtRest t.g old (state t has)) → ((t : Task) (has : A t old) → t.known ≡ true → IsUnder t.alike t.source t.first (state t has).table) →
      ((t : Task) (has : A t old) → t.known ≡ true → IsTable (answer t.g true (state t has) ask).next.table → IsUnder t.alike t.source t.first (answer t.g true (state t has) ask).next.table) → CutsUnder A old new
  any_cuts A state at before after = wider rested.cuts (λ tells image here. λ t has.
      let r = here t.g (state t has) (at t has) in (
        r.0,
        λ known.
            ⊎_elim
            (λ (is : table_of t.g image ≡ (state t has).table). subst (IsUnder t.alike t.source t.first) (sym is) (before t has known))
            (λ (is : table_of t.g image ≡ (answer t.g true (state t has) ask).next.table).
            subst (IsUnder t.alike t.source t.first) (sym is) (after t has known (subst IsTable is (image_table t.g image))))
            (cut_at t.g (state t has) image r.1),
      ))

  -- the same of a target whose descriptors are closed
  pub closed_cuts : (K : Task → List File → Type 0) → ((t : Task) (files : List File) → K t files → IsTable files → IsUnder t.alike t.source t.first files) →
      ((t : Task) (files : List File) → K t files → IsTable files → IsTable (answer t.g true (with_files t.slots files) ask).next.table → IsUnder t.alike t.source t.first (answer t.g true (with_files t.slots files) ask).next.table) → CutsUnder (Rests K) old new
  closed_cuts K before after = any_cuts (Rests K) (λ t has. with_files t.slots has.files) (λ t has. has.at) (λ t has known. before t has.files (has.known known) (rest_table has.at))
      (λ t has known table. after t has.files (has.known known) (rest_table has.at) table)

  -- and where it leaves the descriptors closed
  pub closed_leads : (K L : Task → List File → Type 0) → ((g : Geometry) (slots : ℕ) (files : List File) → IsClosed slots (answer g true (with_files slots files) ask)) → ¬ (reply ≡ Refuses DeviceFault) →
      ((t : Task) (files more : List File) → K t files → IsTable files → IsTable more → reply ≡ (answer t.g true (with_files t.slots files) ask).answer → (answer t.g true (with_files t.slots files) ask).next ≡ with_files t.slots more → L t more) → Leads (Rests K) (Rests L) old new
  closed_leads K L closed whole next = λ t has.
      let w = goes t.g (with_files t.slots has.files) has.at whole in
      let c = closed t.g t.slots has.files in
      let at : IsAtRest t.g new (with_files t.slots c.0) = subst (IsAtRest t.g new) c.1 w.1 in
      record { files = c.0; some = has.some; at = at; known = λ known. next t has.files c.0 (has.known known) (rest_table has.at) (rest_table at) w.0 c.1 }
