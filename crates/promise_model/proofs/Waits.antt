-- The table of a moment is the settled one, or it waits.
use Rattle.std.proofs.Common.{◌≡◌, ◌⊎◌, ℕ, ◌<◌, List, [], ◌∷◌, ◌++◌, length, replicate, refl, sym, ap, subst, arith, inl, inr, ⊎_elim, append-nil, Option, Some, None, true, false}
use Rattle.std.specs.Prelude.{not, if◌then◌else◌}
use Rattle.std.proofs.lemmas.Bool.{cases_Bool}
use Rattle.geometry.specs.declared.geometry.Geometry.{Geometry}
use Rattle.table_model.specs.Table.{File, Open, State, file_of}
use Rattle.table_model.specs.Descriptors.{open_at, may_write}
use Rattle.table_model.specs.declared.error.FsErr.TheVariants.{NotWritable}
use Rattle.table_model.specs.Ask.{Ask, Creates, Opens, Reads, Writes, Fills, Seeks, Tells, Truncates, Flushes, Closes, Removes, RemovesOpen, Renames, Stats, StatsOpen, NextAbove, Informs, Collects, SetsMeta, SetsMetaOpen}
use Rattle.table_model.specs.Reply.{Tells as Told}
use Rattle.table_model.specs.Outcome.{gives, refused, on_descriptor, on_its_file}
use Rattle.table_model.specs.Calls.{answer_write}
use Rattle.table_model.specs.Flat.{answer}
use Rattle.table_model.specs.Steps.{steps, is_refusal}
use Rattle.table_model.specs.Window.{Moment, Waiting, after, settled_at, leaves_window, incoming_of, continues, may_wait, from_settled, IsAmong}
use Rattle.call_model.proofs.After.{tell-stays, refused-settles, other-settles, write-goes_on, write-begins, fills-as_writes}
use Rattle.call_model.proofs.Parts.{among-left, among-right, whole-among}
use Rattle.call_model.proofs.Writing.{write-is_done, done-is_write}
use Rattle.run_model.specs.Runs.{after_all, plain}

-- the table of a moment is that of its chip, or one that waits
abbrev pub IsThere : Moment → Type 0
IsThere m = IsAmong m.state.table (from_settled m [])

-- where all is settled
pub there_settled : (s : State) → IsThere (settled_at s)
unfolding settled_at IsAmong
there_settled s = inl refl

there_at : (m : Moment) (s : State) → m ≡ settled_at s → IsThere m
there_at m s is = subst IsThere (sym is) (there_settled s)

-- no write goes on with nothing that comes
continues_none : (g : Geometry) (w : Option Waiting) → continues g w None ≡ false
continues_none g None = refl
continues_none g (Some w) = refl

module _ (g : Geometry) (m : Moment) where
  -- a call that writes nothing settles
  settles : (ask : Ask) → leaves_window ask ≡ false → incoming_of m.state ask ≡ None → IsThere (after g true m ask)
  settles ask leaves none =
      let stops : continues g m.window (incoming_of m.state ask) ≡ false = rw none (continues_none g m.window) in
      there_at (after g true m ask) (answer g true m.state ask).next (other-settles g true m ask leaves stops (rw none refl))

  -- a write of no byte changes nothing
  empty_file : (fd : ℕ) (d : Open) (o : Option File) → (on_its_file d o m.state (λ e f. if not (may_write e.flags) then refused NotWritable m.state else gives (Told 0) m.state)).next ≡ m.state
  empty_file fd d None = refl
  empty_file fd d (Some f) = ⊎_elim (λ (yes : may_write d.flags ≡ true). rw yes refl) (λ (no : may_write d.flags ≡ false). rw no refl) (cases_Bool (may_write d.flags))

  empty_open : (fd : ℕ) (o : Option Open) → (on_descriptor o m.state (λ d. on_its_file d (file_of d.id m.state.table) m.state (λ e f. if not (may_write e.flags) then refused NotWritable m.state else gives (Told 0) m.state))).next ≡ m.state
  empty_open fd None = refl
  empty_open fd (Some d) = empty_file fd d (file_of d.id m.state.table)

  empty_next : (fd : ℕ) → (answer g true m.state (Writes fd [])).next ≡ m.state
  unfolding answer answer_write
  empty_next fd = empty_open fd (open_at m.state.slots fd)

  -- the table behind a write is that of its last step, or the one before it
  written : (fd : ℕ) (bytes : List ℕ) → is_refusal (answer g true m.state (Writes fd bytes)).answer ≡ false
      → IsAmong (answer g true m.state (Writes fd bytes)).next.table (steps g true m.state (Writes fd bytes)) ⊎ ((answer g true m.state (Writes fd bytes)).next.table ≡ m.state.table)
  written fd [] done = inr (ap (λ (s : State). s.table) (empty_next fd))
  written fd (b ∷ bs) done =
      let some : 0 < length (b ∷ bs) = omega arith in
      let w = done-is_write g true m.state fd (b ∷ bs) some done in
      let is = write-is_done g true m.state fd (b ∷ bs) w.0 w.1 w.2 in
      inl (rw is.answer_is (rw is.steps_are (whole-among g _ (b ∷ bs) w.1 m.state.table some)))

  -- among the tables from the settled one on
  among_end : (t settled : List File) (us : List (List File)) → (t ≡ settled) ⊎ IsAmong t us → IsAmong t (settled ∷ us ++ [])
  unfolding IsAmong
  among_end t settled us (inl is) = inl is
  among_end t settled us (inr later) = inr (subst (IsAmong t) (sym (append-nil us)) later)

  among_behind : (t : List File) (vs : List (List File)) → IsAmong t (from_settled m []) → (t ≡ m.settled) ⊎ IsAmong t (m.waiting ++ vs)
  unfolding IsAmong
  among_behind t vs (inl is) = inl is
  among_behind t vs (inr later) = inr (among-left t m.waiting vs (subst (IsAmong t) (append-nil m.waiting) later))

  -- a write that goes on with what waits, and one that begins to wait
  on_table : (fd : ℕ) (bytes : List ℕ) (t : List File) → IsThere m → IsAmong t (steps g true m.state (Writes fd bytes)) ⊎ (t ≡ m.state.table) → (t ≡ m.settled) ⊎ IsAmong t (m.waiting ++ steps g true m.state (Writes fd bytes))
  on_table fd bytes t there (inl among) = inr (among-right t m.waiting (steps g true m.state (Writes fd bytes)) among)
  on_table fd bytes t there (inr same) = among_behind t (steps g true m.state (Writes fd bytes)) (subst (λ (u : List File). IsAmong u (from_settled m [])) (sym same) there)

  begun_table : (fd : ℕ) (bytes : List ℕ) (t : List File) → IsAmong t (steps g true m.state (Writes fd bytes)) ⊎ (t ≡ m.state.table) → (t ≡ m.state.table) ⊎ IsAmong t (steps g true m.state (Writes fd bytes))
  begun_table fd bytes t (inl among) = inr among
  begun_table fd bytes t (inr same) = inl same

  write_there : (fd : ℕ) (bytes : List ℕ) → IsThere m → IsThere (after g true m (Writes fd bytes))
  write_there fd bytes there =
      let ask = Writes fd bytes in
      let t : List File = (answer g true m.state ask).next.table in
      ⊎_elim
      (λ (bad : is_refusal (answer g true m.state ask).answer ≡ true). there_at _ _ (refused-settles g true m ask refl bad))
      (λ (done : is_refusal (answer g true m.state ask).answer ≡ false).
      ⊎_elim
      (λ (goes : continues g m.window (incoming_of m.state ask) ≡ true).
      subst IsThere (sym (write-goes_on g true m ask refl done goes)) (among_end t m.settled (m.waiting ++ steps g true m.state ask) (on_table fd bytes t there (written fd bytes done))))
      (λ (stops : continues g m.window (incoming_of m.state ask) ≡ false).
      ⊎_elim
      (λ (waits : may_wait g (incoming_of m.state ask) ≡ true).
      subst IsThere (sym (write-begins g true m ask refl done stops waits)) (among_end t m.state.table (steps g true m.state ask) (begun_table fd bytes t (written fd bytes done))))
      (λ (not_waits : may_wait g (incoming_of m.state ask) ≡ false). there_at _ _ (other-settles g true m ask refl stops not_waits))
      (cases_Bool (may_wait g (incoming_of m.state ask))))
      (cases_Bool (continues g m.window (incoming_of m.state ask))))
      (cases_Bool (is_refusal (answer g true m.state ask).answer))

  call_there : (ask : Ask) → IsThere m → IsThere (after g true m ask)
  unfolding incoming_of
  call_there (Writes fd bytes) there = write_there fd bytes there
  call_there (Fills fd count byte) there = subst IsThere (sym (fills-as_writes g true m fd count byte).after_is) (write_there fd (replicate count byte) there)
  call_there (Tells fd) there = subst IsThere (sym (tell-stays g true m fd)) there
  call_there (Creates name) there = settles (Creates name) refl refl
  call_there (Opens name flags) there = settles (Opens name flags) refl refl
  call_there (Reads fd count) there = settles (Reads fd count) refl refl
  call_there (Seeks fd offset from) there = settles (Seeks fd offset from) refl refl
  call_there (Truncates fd size) there = settles (Truncates fd size) refl refl
  call_there (Flushes fd) there = settles (Flushes fd) refl refl
  call_there (Closes fd) there = settles (Closes fd) refl refl
  call_there (Removes name) there = settles (Removes name) refl refl
  call_there (RemovesOpen fd) there = settles (RemovesOpen fd) refl refl
  call_there (Renames old new) there = settles (Renames old new) refl refl
  call_there (Stats name) there = settles (Stats name) refl refl
  call_there (StatsOpen fd) there = settles (StatsOpen fd) refl refl
  call_there (NextAbove id) there = settles (NextAbove id) refl refl
  call_there Informs there = settles Informs refl refl
  call_there Collects there = settles Collects refl refl
  call_there (SetsMeta name meta) there = settles (SetsMeta name meta) refl refl
  call_there (SetsMetaOpen fd meta) there = settles (SetsMetaOpen fd meta) refl refl

-- behind some calls
pub calls_there : (g : Geometry) (m : Moment) (asks : List Ask) → IsThere m → IsThere (after_all g m (plain asks))
unfolding after_all
calls_there g m [] there = there
calls_there g m (ask ∷ asks) there = calls_there g (after g true m ask) asks (call_there g m ask there)
