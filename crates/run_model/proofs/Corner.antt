-- Calls that cut a file without a page for its new header.
use Rattle.std.proofs.Common.{◌≡◌, ℕ, ◌==◌, ◌&&◌, ◌⊎◌, List, [], length, refl, ◌∙◌, ap, arith, inl, inr, ⊎_elim, true, false, Option, Some, None}
use Rattle.std.specs.Prelude.{nat_lt}
use Rattle.std.proofs.lemmas.Bool.{cases_Bool}
use Rattle.std.proofs.lemmas.Bool.Decides.{nat_tests}
use Rattle.geometry.specs.declared.geometry.Geometry.{Geometry}
use Rattle.table_model.specs.declared.error.FsErr.{FsErr}
use Rattle.table_model.specs.declared.error.FsErr.TheVariants.{Tight}
use Rattle.table_model.specs.Table.{File, Open, State, file_of, file_named}
use Rattle.table_model.specs.Names.{name_refusal}
use Rattle.table_model.specs.Descriptors.{open_at, may_write, makes, is_exclusive, is_bad_flags, lowest_closed}
use Rattle.table_model.specs.Opening.{takes_bytes, answer_open}
use Rattle.table_model.specs.Calls.{answer_truncate}
use Rattle.table_model.specs.Ask.{Ask, Opens, Truncates}
use Rattle.table_model.specs.Outcome.{Outcome, refused, page_refusal}
use Rattle.table_model.specs.Flat.{answer}
use Rattle.table_model.specs.Steps.{steps, done_steps, open_file, is_refusal, cuts_file}
use Rattle.table_model.specs.Window.{Moment, after, settled_at, leaves_window}
use Rattle.call_model.proofs.After.{refused-settles}

-- Without two free blocks a call that cuts a file is Tight, or it publishes nothing.
abbrev IsTightOrStill : Geometry → State → Ask → Type 0
IsTightOrStill g s ask = (steps g true s ask ≡ []) ⊎ (answer g false s ask ≡ refused Tight s)

-- a refusal isn't one that is done
not_done : (P : Type 0) → true ≡ false → P
not_done P e = absurd (cc)

module _ (g : Geometry) (s : State) (fd size : ℕ) where
  cut_there : (d : Open) (f : File) → open_at s.slots fd ≡ Some d → file_of d.id s.table ≡ Some f → is_refusal (answer g true s (Truncates fd size)).answer ≡ false → IsTightOrStill g s (Truncates fd size)
  unfolding answer answer_truncate page_refusal steps done_steps open_file
  cut_there d f at there done = ⊎_elim
      (λ (writes : may_write d.flags ≡ true). ⊎_elim
      (λ (more : nat_lt (length f.bytes) size ≡ true). not_done _ (rw (at, there, writes, more) at done))
      (λ (within : nat_lt (length f.bytes) size ≡ false). ⊎_elim
      (λ (same : (size == length f.bytes) ≡ true).
      let none : nat_lt size (length f.bytes) ≡ false = grind (arith, nat_tests) in
      inl (rw (at, there, writes, within, same, none) refl))
      (λ (less : (size == length f.bytes) ≡ false). inr (rw (at, there, writes, within, less) refl))
      (cases_Bool (size == length f.bytes)))
      (cases_Bool (nat_lt (length f.bytes) size)))
      (λ (none : may_write d.flags ≡ false). not_done _ (rw (at, there, none) at done))
      (cases_Bool (may_write d.flags))

  cut_on : (d : Open) (o : Option File) → open_at s.slots fd ≡ Some d → file_of d.id s.table ≡ o → is_refusal (answer g true s (Truncates fd size)).answer ≡ false → IsTightOrStill g s (Truncates fd size)
  unfolding answer answer_truncate
  cut_on d None at there done = not_done _ (rw (at, there) at done)
  cut_on d (Some f) at there done = cut_there d f at there done

  cut_by : (o : Option Open) → open_at s.slots fd ≡ o → is_refusal (answer g true s (Truncates fd size)).answer ≡ false → IsTightOrStill g s (Truncates fd size)
  unfolding answer answer_truncate
  cut_by None at done = not_done _ (rw at at done)
  cut_by (Some d) at done = cut_on d (file_of d.id s.table) at refl done

module _ (g : Geometry) (s : State) (name : List ℕ) (flags : ℕ) where
  open_there_by : (fd : ℕ) (f : File) → name_refusal name ≡ None → is_bad_flags flags ≡ false → lowest_closed s.slots ≡ Some fd → file_named name s.table ≡ Some f → is_refusal (answer g true s (Opens name flags)).answer ≡ false → IsTightOrStill g s (Opens name flags)
  unfolding answer answer_open page_refusal steps done_steps
  open_there_by fd f fine good lowest there done = ⊎_elim
      (λ (exclusive : (makes flags && is_exclusive flags) ≡ true). not_done _ (rw (fine, good, lowest, there, exclusive) at done))
      (λ (shared : (makes flags && is_exclusive flags) ≡ false). ⊎_elim
      (λ (takes : takes_bytes flags f ≡ true). inr (rw (fine, good, lowest, there, shared, takes) refl))
      (λ (leaves : takes_bytes flags f ≡ false). inl (rw (fine, good, lowest, there, shared, leaves) refl))
      (cases_Bool (takes_bytes flags f)))
      (cases_Bool (makes flags && is_exclusive flags))

  open_by : (fd : ℕ) (o : Option File) → name_refusal name ≡ None → is_bad_flags flags ≡ false → lowest_closed s.slots ≡ Some fd → file_named name s.table ≡ o → is_refusal (answer g true s (Opens name flags)).answer ≡ false → IsTightOrStill g s (Opens name flags)
  unfolding answer answer_open page_refusal
  open_by fd None fine good lowest there done = ⊎_elim
      (λ (made : makes flags ≡ true). inr (rw (fine, good, lowest, there, made) refl))
      (λ (none : makes flags ≡ false). not_done _ (rw (fine, good, lowest, there, none) at done))
      (cases_Bool (makes flags))
  open_by fd (Some f) fine good lowest there done = open_there_by fd f fine good lowest there done

  open_lowest_by : (o : Option ℕ) → name_refusal name ≡ None → is_bad_flags flags ≡ false → lowest_closed s.slots ≡ o → is_refusal (answer g true s (Opens name flags)).answer ≡ false → IsTightOrStill g s (Opens name flags)
  unfolding answer answer_open
  open_lowest_by None fine good lowest done = not_done _ (rw (fine, good, lowest) at done)
  open_lowest_by (Some fd) fine good lowest done = open_by fd (file_named name s.table) fine good lowest refl done

  open_named_by : (o : Option FsErr) → name_refusal name ≡ o → is_refusal (answer g true s (Opens name flags)).answer ≡ false → IsTightOrStill g s (Opens name flags)
  unfolding answer answer_open
  open_named_by (Some why) fine done = not_done _ (rw fine at done)
  open_named_by None fine done = ⊎_elim
      (λ (bad : is_bad_flags flags ≡ true). not_done _ (rw (fine, bad) at done))
      (λ (good : is_bad_flags flags ≡ false). open_lowest_by (lowest_closed s.slots) fine good refl done)
      (cases_Bool (is_bad_flags flags))

pub tight_or_still : (g : Geometry) (s : State) (ask : Ask) → cuts_file ask ≡ true → is_refusal (answer g true s ask).answer ≡ false → (steps g true s ask ≡ []) ⊎ (answer g false s ask ≡ refused Tight s)
tight_or_still g s (Opens name flags) cuts done = open_named_by g s name flags (name_refusal name) refl done
tight_or_still g s (Truncates fd size) cuts done = cut_by g s fd size (open_at s.slots fd) refl done
tight_or_still g s _ cuts done = absurd (let no : false ≡ true = cuts in cc)

-- no call that cuts a file tells an offset
moves_window : (ask : Ask) → cuts_file ask ≡ true → leaves_window ask ≡ false
moves_window (Opens name flags) cuts = refl
moves_window (Truncates fd size) cuts = refl
moves_window _ cuts = absurd (let no : false ≡ true = cuts in cc)

-- Tight without a page, a call leaves the state, and all is settled
pub tight_after : (g : Geometry) (m : Moment) (ask : Ask) → cuts_file ask ≡ true → answer g false m.state ask ≡ refused Tight m.state → after g false m ask ≡ settled_at m.state
tight_after g m ask cuts tight = refused-settles g false m ask (moves_window ask cuts) (ap (λ (o : Outcome). is_refusal o.answer) tight) ∙ ap (λ (o : Outcome). settled_at o.next) tight
