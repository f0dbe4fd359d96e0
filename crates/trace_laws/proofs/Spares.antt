-- How a call is answered with fewer than two free blocks: as with two, or it is Tight. Their reply lines tell these apart by their first byte.
use Rattle.std.proofs.Common.{◌≡◌, ℕ, ◌==◌, ◌&&◌, ◌⊎◌, List, length, refl, ap, inl, inr, ⊎_elim, true, false, Option, Some, None}
use Rattle.std.specs.Prelude.{nat_lt}
use Rattle.std.proofs.lemmas.Bool.{cases_Bool}
use Rattle.geometry.specs.declared.geometry.Geometry.{Geometry}
use Rattle.table_model.specs.declared.error.FsErr.{FsErr}
use Rattle.table_model.specs.declared.error.FsErr.TheVariants.{Tight}
use Rattle.table_model.specs.Table.{File, Open, State, file_of, file_named}
use Rattle.table_model.specs.Names.{name_refusal}
use Rattle.table_model.specs.Descriptors.{open_at, may_write, makes, is_exclusive, is_bad_flags, lowest_closed}
use Rattle.table_model.specs.Opening.{takes_bytes, answer_open}
use Rattle.table_model.specs.Calls.{answer_truncate}
use Rattle.table_model.specs.Ask.{Ask, Opens, Truncates}
use Rattle.table_model.specs.Reply.{Answer, Fine, Tells, Gives, Shows, Ends, Counts, Refuses}
use Rattle.table_model.specs.Outcome.{Outcome, refused, page_refusal}
use Rattle.table_model.specs.Flat.{answer}
use Rattle.table_model.specs.Steps.{steps, is_refusal, cuts_file}
use Rattle.table_model.specs.Window.{Moment, after}
use Rattle.call_script.specs.Replies.{told, text}
use Rattle.run_model.specs.Runs.{IsCorner, said_of}
use Rattle.trace_laws.specs.Standing.{line_of}
use Rattle.trace_laws.proofs.Fronts.{Heads}

-- a call that cuts a file needs a page or none, and is answered so
abbrev IsSameOrTight : Geometry → State → Ask → Type 0
IsSameOrTight g s ask = (answer g false s ask ≡ answer g true s ask) ⊎ (answer g false s ask ≡ refused Tight s)

module _ (g : Geometry) (s : State) (fd size : ℕ) where
  cut_there : (d : Open) (f : File) → open_at s.slots fd ≡ Some d → file_of d.id s.table ≡ Some f → IsSameOrTight g s (Truncates fd size)
  unfolding answer answer_truncate page_refusal
  cut_there d f at there = ⊎_elim
      (λ (writes : may_write d.flags ≡ true). ⊎_elim
      (λ (more : nat_lt (length f.bytes) size ≡ true). inl (rw (at, there, writes, more) refl))
      (λ (within : nat_lt (length f.bytes) size ≡ false). ⊎_elim
      (λ (same : (size == length f.bytes) ≡ true). inl (rw (at, there, writes, within, same) refl))
      (λ (less : (size == length f.bytes) ≡ false). inr (rw (at, there, writes, within, less) refl))
      (cases_Bool (size == length f.bytes)))
      (cases_Bool (nat_lt (length f.bytes) size)))
      (λ (none : may_write d.flags ≡ false). inl (rw (at, there, none) refl))
      (cases_Bool (may_write d.flags))

  cut_on : (d : Open) (o : Option File) → open_at s.slots fd ≡ Some d → file_of d.id s.table ≡ o → IsSameOrTight g s (Truncates fd size)
  unfolding answer answer_truncate
  cut_on d None at there = inl (rw (at, there) refl)
  cut_on d (Some f) at there = cut_there d f at there

  cut_by : (o : Option Open) → open_at s.slots fd ≡ o → IsSameOrTight g s (Truncates fd size)
  unfolding answer answer_truncate
  cut_by None at = inl (rw at refl)
  cut_by (Some d) at = cut_on d (file_of d.id s.table) at refl

module _ (g : Geometry) (s : State) (name : List ℕ) (flags : ℕ) where
  there_by : (fd : ℕ) (f : File) → name_refusal name ≡ None → is_bad_flags flags ≡ false → lowest_closed s.slots ≡ Some fd → file_named name s.table ≡ Some f → IsSameOrTight g s (Opens name flags)
  unfolding answer answer_open page_refusal
  there_by fd f fine good lowest there = ⊎_elim
      (λ (exclusive : (makes flags && is_exclusive flags) ≡ true). inl (rw (fine, good, lowest, there, exclusive) refl))
      (λ (shared : (makes flags && is_exclusive flags) ≡ false). ⊎_elim
      (λ (takes : takes_bytes flags f ≡ true). inr (rw (fine, good, lowest, there, shared, takes) refl))
      (λ (leaves : takes_bytes flags f ≡ false). inl (rw (fine, good, lowest, there, shared, leaves) refl))
      (cases_Bool (takes_bytes flags f)))
      (cases_Bool (makes flags && is_exclusive flags))

  open_by : (fd : ℕ) (o : Option File) → name_refusal name ≡ None → is_bad_flags flags ≡ false → lowest_closed s.slots ≡ Some fd → file_named name s.table ≡ o → IsSameOrTight g s (Opens name flags)
  unfolding answer answer_open page_refusal
  open_by fd None fine good lowest there = ⊎_elim
      (λ (made : makes flags ≡ true). inr (rw (fine, good, lowest, there, made) refl))
      (λ (none : makes flags ≡ false). inl (rw (fine, good, lowest, there, none) refl))
      (cases_Bool (makes flags))
  open_by fd (Some f) fine good lowest there = there_by fd f fine good lowest there

  lowest_by : (o : Option ℕ) → name_refusal name ≡ None → is_bad_flags flags ≡ false → lowest_closed s.slots ≡ o → IsSameOrTight g s (Opens name flags)
  unfolding answer answer_open
  lowest_by None fine good lowest = inl (rw (fine, good, lowest) refl)
  lowest_by (Some fd) fine good lowest = open_by fd (file_named name s.table) fine good lowest refl

  named_by : (o : Option FsErr) → name_refusal name ≡ o → IsSameOrTight g s (Opens name flags)
  unfolding answer answer_open
  named_by (Some why) fine = inl (rw fine refl)
  named_by None fine = ⊎_elim
      (λ (bad : is_bad_flags flags ≡ true). inl (rw (fine, bad) refl))
      (λ (good : is_bad_flags flags ≡ false). lowest_by (lowest_closed s.slots) fine good refl)
      (cases_Bool (is_bad_flags flags))

same_or_tight : (g : Geometry) (s : State) (ask : Ask) → cuts_file ask ≡ true → IsSameOrTight g s ask
same_or_tight g s (Opens name flags) cuts = named_by g s name flags (name_refusal name) refl
same_or_tight g s (Truncates fd size) cuts = cut_by g s fd size (open_at s.slots fd) refl
same_or_tight g s _ cuts = absurd (let no : false ≡ true = cuts in cc)

-- every reply but a refusal begins with `o`, and a refusal with `-`
done_heads : (a : Answer) → is_refusal a ≡ false → Heads 111 (text a)
unfolding told
done_heads Fine done = record { rest = _; is = refl }
done_heads (Tells n) done = record { rest = _; is = refl }
done_heads (Gives bytes) done = record { rest = _; is = refl }
done_heads (Shows stat) done = record { rest = _; is = refl }
done_heads Ends done = record { rest = _; is = refl }
done_heads (Counts info) done = record { rest = _; is = refl }
done_heads (Refuses why) done = absurd (let no : true ≡ false = done in cc)

tight_heads : Heads 45 (text (Refuses Tight))
unfolding told
tight_heads = record { rest = _; is = refl }

-- Without two free blocks a call in the corner is answered as with two, and leads to the same moment; or its line begins with another byte.
pub record IsSameAnswer (g : Geometry) (m : Moment) (ask : Ask) : Type 0 where
  pub line : line_of g m ask false ≡ line_of g m ask true
  pub next : after g false m ask ≡ after g true m ask
  pub steps : steps g false m.state ask ≡ steps g true m.state ask

pub record IsTightAnswer (g : Geometry) (m : Moment) (ask : Ask) : Type 0 where
  pub done : Heads 111 (line_of g m ask true)
  pub tight : Heads 45 (line_of g m ask false)

pub corner_answers : (g : Geometry) (m : Moment) (ask : Ask) → IsCorner g m.state ask → IsSameAnswer g m ask ⊎ IsTightAnswer g m ask
unfolding said_of after steps
corner_answers g m ask corner = ⊎_elim
    (λ same. inl (record { line = ap (λ (o : Outcome). text o.answer) same; next = rw same refl; steps = rw same refl }))
    (λ tight. inr (record { done = done_heads (answer g true m.state ask).answer corner.done; tight = rw tight tight_heads }))
    (same_or_tight g m.state ask corner.cuts)
