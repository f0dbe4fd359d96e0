-- What one event more tells.
use Rattle.std.proofs.Common.{◌≡◌, ℕ, ◌+◌, ◌-◌, ◌*◌, ◌/◌, ◌≤◌, ◌<◌, List, [], ◌∷◌, ◌++◌, length, take, drop, refl, sym, ◌∙◌, ap, subst, arith}
use Rattle.nor_memory.specs.declared.memory.MemBoard.{MemBoard}
use Rattle.nor_memory.specs.contracts.memory.MemBoardNorState.TheImpl.{ghosts as mem}
use Rattle.std.specs.Prelude.{Result, Ok, Err, OnOk, OnErr}
use mathlib.Core.Logic.{∥∥₁_map}
use Rattle.nor_core.specs.declared.device.Failed.{Failed}
use Rattle.nor_core.specs.Count.{counted}
use Rattle.nor_core.specs.Device.{Leaves, Changes, Says}
use Rattle.nor_core.specs.Flash.{programmed, HalfProgrammed, erased}
use Rattle.nor_memory.specs.Picks.{put}
use Rattle.nor_memory.specs.RecordLaws.{now_counts}
use Rattle.nor_memory.proofs.Ranges.{put_programmed, range_size}
use Rattle.nor_core.specs.Device.{OnlyReads}
use Rattle.nor_core.proofs.Programs.{length-programmed}
use Rattle.flash_trace.specs.declared.event.Event.TheVariants.{Program, Erase, Say}
use Rattle.flash_trace.specs.declared.event.Event.{Event}
use Rattle.flash_trace.specs.Events.{Standing, after_event, after_events, image_after, said_after, EachStands, IsInside, HasRightBits, Fits, AllFit}
use Rattle.flash_trace.specs.Recorded.{Recorded, IsFresh, standing, first_standing, NotesProgram, NotesSay}

pub after_events-push : (unit : ℕ) (es : List Event) (e : Event) (s : Standing) → after_events unit (es ++ e ∷ []) s ≡ after_event unit e (after_events unit es s)
unfolding after_events
after_events-push unit [] e s = refl
after_events-push unit (x ∷ es) e s = after_events-push unit es e (after_event unit x s)

pub each_push : (P : Standing → Type 0) (unit : ℕ) (es : List Event) (e : Event) (s : Standing) → EachStands P unit es s → P (after_event unit e (after_events unit es s)) → EachStands P unit (es ++ e ∷ []) s
unfolding after_events EachStands
each_push P unit [] e s each more = (each, more)
each_push P unit (x ∷ es) e s each more = (each.0, each_push P unit es e (after_event unit x s) each.1 more)

pub each_map : (P Q : Standing → Type 0) (unit : ℕ) (es : List Event) (s : Standing) → ((b : Standing) → P b → Q b) → EachStands P unit es s → EachStands Q unit es s
unfolding EachStands
each_map P Q unit [] s f each = f s each
each_map P Q unit (x ∷ es) s f each = (f s each.0, each_map P Q unit es (after_event unit x s) f each.1)

pub fit_push : (unit : ℕ) (es : List Event) (e : Event) (s : Standing) → AllFit unit es s → Fits unit e (after_events unit es s) → AllFit unit (es ++ e ∷ []) s
unfolding after_events AllFit
fit_push unit [] e s fit more = (more, tt {0})
fit_push unit (x ∷ es) e s fit more = (fit.0, fit_push unit es e (after_event unit x s) fit.1 more)

-- what stands is one of the things that a cut may leave
pub stands_now : (b : MemBoard) (t : ℕ) → mem.left_since b t (mem.bytes b) (length (mem.said b))
stands_now b t = now_counts b.unit b.calls.items b.first.items 0 t b.bytes.items (length b.said.items) b.stands b.spoken

module _ (old new : MemBoard) (P : List ℕ → ℕ → Type 0) (leaves : Leaves mem old new P) where
  abbrev Stood : MemBoard → Standing → Type 0
  Stood board s = mem.left_since board 0 s.image (length s.said)

  first_same : first_standing new ≡ first_standing old
  first_same = ap (λ (l : List ℕ). record { image = l; said = [] }) leaves.lent

  -- one event more was done
  pub one_more : (es later : List Event) (e : Event) → later ≡ es ++ e ∷ [] → Recorded old es → after_event (mem.unit old) e (standing old) ≡ standing new → Fits (mem.unit old) e (standing old) → Recorded new later
  one_more es later e noted was then fits =
      let unit_is : mem.unit new ≡ mem.unit old = leaves.unit in
      let u = mem.unit old in
      let f = first_standing old in
      let stands : after_events u (es ++ e ∷ []) f ≡ standing new = after_events-push u es e f ∙ ap (after_event u e) was.stands ∙ then in
      let kept : EachStands (Stood new) u es f = each_map (Stood old) (Stood new) u es f (λ b here. leaves.kept 0 b.image (length b.said) (omega arith) here) was.each in
      let now : Stood new (after_event u e (after_events u es f)) = subst (Stood new) (sym (ap (after_event u e) was.stands ∙ then)) (stands_now new 0) in
      let each : EachStands (Stood new) u (es ++ e ∷ []) f = each_push (Stood new) u es e f kept now in
      let fit : AllFit u (es ++ e ∷ []) f = fit_push u es e f was.fit (subst (Fits u e) (sym was.stands) fits) in
      subst (λ (l : List Event). Recorded new l) (sym noted) (record {
        stands = ap (λ (n : ℕ). after_events n (es ++ e ∷ []) (first_standing new)) unit_is ∙ ap (after_events u (es ++ e ∷ [])) first_same ∙ stands;
        each = subst (λ (n : ℕ). EachStands (Stood new) n (es ++ e ∷ []) (first_standing new)) (sym unit_is) (subst (EachStands (Stood new) u (es ++ e ∷ [])) (sym first_same) each);
        fit = subst (λ (n : ℕ). AllFit n (es ++ e ∷ []) (first_standing new)) (sym unit_is) (subst (AllFit u (es ++ e ∷ [])) (sym first_same) fit);
      })

-- nothing was recorded
pub none_recorded : (board : MemBoard) (es : List Event) → es ≡ [] → IsFresh board → Recorded board es
unfolding after_events EachStands AllFit
none_recorded board es none fresh =
    let is : first_standing board ≡ standing board = ap (λ (l : List ℕ). record { image = l; said = [] }) (sym fresh.bytes) ∙ ap (λ (l : List ℕ). record { image = mem.bytes board; said = l }) (sym fresh.said) in
    subst (λ (l : List Event). Recorded board l) (sym none) (record {
      stands = is;
      each = subst (λ (s : Standing). mem.left_since board 0 s.image (length s.said)) (sym is) (stands_now board 0);
      fit = tt {0};
    })

-- where nothing failed the record goes on
pub records_on : (faults after : ℕ) (r : Result (Unit {0}) Failed) (P Q : Type 0) → (faults ≡ 0 → ∥ P ∥₁) → OnOk r (after ≡ faults) → OnErr r (after ≡ counted faults) → OnOk r (P → Q) → after ≡ 0 → ∥ Q ∥₁
records_on faults after (Ok x) P Q was kept rises goes none = ∥∥₁_map (was (sym kept ∙ none)) goes
records_on faults after (Err x) P Q was kept rises goes none = absurd (omega (arith, rises, none))

pub program_records : (r : Result (Unit {0}) Failed) (old new : MemBoard) (at : ℕ) (asked : List ℕ) (es later : List Event) → 0 < length asked → at + length asked ≤ mem.size old → Changes mem old new (HalfProgrammed at asked)
    → OnOk r (mem.bytes new ≡ programmed (mem.bytes old) at asked) → OnOk r (NotesProgram at asked (mem.bytes old) es later) → OnOk r (Recorded old es → Recorded new later)
unfolding image_after said_after IsInside HasRightBits
program_records (Err x) old new at asked es later some inside changes done notes = tt
program_records (Ok x) old new at asked es later some inside changes done notes = λ was.
    let is : put (mem.bytes old) at notes.got.bytes.items ≡ programmed (mem.bytes old) at asked =
    put_programmed (mem.bytes old) at (at + length asked - at) asked notes.got.bytes.items (omega arith) (omega (arith, inside)) notes.got_is in
    let long : length notes.got.bytes.items ≡ length asked =
    ap length notes.got_is ∙ length-programmed (take (at + length asked - at) (drop at (mem.bytes old))) 0 asked ∙ range_size (mem.bytes old) at (at + length asked - at) (omega (arith, inside)) ∙ omega arith in
    one_more old new _ changes.cuts es later (Program at notes.bits notes.got) notes.noted was
    (ap (λ (l : List ℕ). record { image = l; said = mem.said old }) (is ∙ sym done) ∙ ap (λ (l : List ℕ). record { image = mem.bytes new; said = l }) (sym changes.said))
    (subst (λ (l : List ℕ). ((0 < length l) × (length notes.got.bytes.items ≡ length l) × (at + length l ≤ length (mem.bytes old))) × (put (mem.bytes old) at notes.got.bytes.items ≡ programmed (mem.bytes old) at l)) (sym notes.bits_is) ((some, long, inside), is))

pub erase_records : (r : Result (Unit {0}) Failed) (old new : MemBoard) (R : List ℕ → List ℕ → Type 0) (unit_ix : ℕ) (es later : List Event) → unit_ix < mem.size old / mem.unit old → Changes mem old new R
    → OnOk r (mem.bytes new ≡ erased (mem.bytes old) (unit_ix * mem.unit old) (mem.unit old)) → OnOk r (later ≡ es ++ Erase unit_ix ∷ []) → OnOk r (Recorded old es → Recorded new later)
unfolding image_after said_after IsInside HasRightBits
erase_records (Err x) old new R unit_ix es later inside changes done notes = tt
erase_records (Ok x) old new R unit_ix es later inside changes done notes = λ was.
    one_more old new _ changes.cuts es later (Erase unit_ix) notes was
    (ap (λ (l : List ℕ). record { image = l; said = mem.said old }) (sym done) ∙ ap (λ (l : List ℕ). record { image = mem.bytes new; said = l }) (sym changes.said))
    (inside, tt {0})

pub say_records : (r : Result (Unit {0}) Failed) (old new : MemBoard) (P : List ℕ → ℕ → Type 0) (piece : List ℕ) (es later : List Event) → Leaves mem old new P → Says mem old new piece
    → OnOk r (mem.said new ≡ mem.said old ++ piece) → OnOk r (NotesSay piece es later) → OnOk r (Recorded old es → Recorded new later)
unfolding image_after said_after IsInside HasRightBits
say_records (Err x) old new P piece es later leaves says done notes = tt
say_records (Ok x) old new P piece es later leaves says done notes = λ was.
    one_more old new P leaves es later (Say notes.bits) notes.noted was
    (ap (λ (l : List ℕ). record { image = mem.bytes old; said = mem.said old ++ l }) notes.bits_is ∙ ap (λ (l : List ℕ). record { image = mem.bytes old; said = l }) (sym done) ∙ ap (λ (l : List ℕ). record { image = l; said = mem.said new }) (sym says.bytes))
    (tt {0}, tt {0})

-- a read leaves the record
pub reads_record : (old new : MemBoard) (es : List Event) → OnlyReads mem old new → Recorded old es → Recorded new es
reads_record old new es reads was =
    let stood = standing new in
    let first_is : first_standing new ≡ first_standing old = ap (λ (l : List ℕ). record { image = l; said = [] }) reads.lent in
    let now_is : standing old ≡ standing new = ap (λ (l : List ℕ). record { image = l; said = mem.said old }) (sym reads.bytes) ∙ ap (λ (l : List ℕ). record { image = mem.bytes new; said = l }) (sym reads.said) in
    record {
      stands = ap (λ (n : ℕ). after_events n es (first_standing new)) reads.unit ∙ ap (after_events (mem.unit old) es) first_is ∙ was.stands ∙ now_is;
      each = subst (λ (n : ℕ). EachStands (λ s. mem.left_since new 0 s.image (length s.said)) n es (first_standing new)) (sym reads.unit)
          (subst (EachStands (λ s. mem.left_since new 0 s.image (length s.said)) (mem.unit old) es) (sym first_is)
          (each_map (λ s. mem.left_since old 0 s.image (length s.said)) (λ s. mem.left_since new 0 s.image (length s.said)) (mem.unit old) es (first_standing old) (λ b here. reads.kept 0 b.image (length b.said) here) was.each));
      fit = subst (λ (n : ℕ). AllFit n es (first_standing new)) (sym reads.unit) (subst (AllFit (mem.unit old) es) (sym first_is) was.fit);
    }

pub read_records : (r : Result (Unit {0}) Failed) (old new : MemBoard) (es : List Event) → OnlyReads mem old new → OnOk r (Recorded old es → Recorded new es)
read_records (Err x) old new es reads = tt
read_records (Ok x) old new es reads = reads_record old new es reads
