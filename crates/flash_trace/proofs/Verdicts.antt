-- The verdict on a trace, event by event.
use Rattle.std.proofs.Common.{◌≡◌, ◌↔◌, ℕ, suc, ◌+◌, ◌<◌, ◌≤◌, List, [], ◌∷◌, ◌++◌, length, get_or, map, drop, replicate, drop-cons, refl, sym, ◌∙◌, ap, subst, inl, inr, ⊎_elim, arith, true, false, IsTrue, Option, None}
use Rattle.std.specs.Prelude.{nat_lt}
use Rattle.std.proofs.lemmas.Bool.{lt-ltb}
use Rattle.std.proofs.lemmas.Bool.Decides.{nat_tests}
use Rattle.std.proofs.lemmas.List.{drop_all}
use Rattle.geometry.proofs.Bounds.{lookups_fit, magic_fits}
use Rattle.geometry.specs.declared.geometry.Geometry.{Geometry}
use Rattle.table_model.specs.Ask.{Ask}
use Rattle.table_model.specs.Table.{File}
use Rattle.table_model.specs.Window.{Moment, settled_at}
use Rattle.image_model.specs.Tables.{table_of}
use Rattle.call_script.specs.Lines.{calls}
use Rattle.run_model.specs.Runs.{asks_of, replies}
use Rattle.trace_laws.specs.Counting.{replies_in}
use Rattle.plain_table.specs.Moments.{moment_of}
use Rattle.plain_table.specs.declared.file.PlainFile.{PlainFile}
use Rattle.plain_table.specs.Seen.{file}
use Rattle.flash_trace.specs.declared.case.Case.{Case}
use Rattle.flash_trace.specs.declared.event.Bytes.{Bytes}
use Rattle.flash_trace.specs.declared.event.Event.{Event}
use Rattle.flash_trace.specs.declared.event.Event.TheVariants.{Program, Erase, Say}
use Rattle.flash_trace.specs.declared.picture.Picture.{Picture}
use Rattle.flash_trace.specs.declared.spot.Place.{Place}
use Rattle.flash_trace.specs.declared.ways.Ahead.{Ahead}
use Rattle.flash_trace.specs.declared.ways.Ahead.TheVariants.{End, Bad, Call}
use Rattle.flash_trace.specs.declared.verdict.Verdict.{Verdict}
use Rattle.flash_trace.specs.declared.verdict.Verdict.TheVariants.{Legal, Outside, WrongBits, BadCut}
use Rattle.flash_trace.specs.Events.{Standing, at_first, image_after, said_after, after_event, IsInside, HasRightBits}
use Rattle.flash_trace.specs.Good.{IsGood, IsLarge}
use Rattle.flash_trace.specs.Verdicts.{IsVerdict}
use Rattle.flash_trace.specs.Ways.{IsAhead, IsQuiet}
use Rattle.flash_trace.specs.Places.{IsPlace, IsSettled, begins, part_of}
use Rattle.flash_trace.specs.Stands.{IsPicture}
use Rattle.flash_trace.specs.Judging.{IsVerdictFrom, IsFault, IsRight}
use Rattle.flash_trace.proofs.Testing.{told_by}
use Rattle.flash_trace.proofs.Places.{unanswered}
use Rattle.flash_trace.proofs.Behind.{counts_behind, counts_end, counts_here}

module _ (g : Geometry) (m : Moment) (asks rest : List Ask) (bad later : Option ℕ) (part : List ℕ) where
  -- no reply to what is ahead was said whole
  none_more : (a : Ahead) → IsAhead g m asks bad rest later a → IsQuiet part a → replies_in g m asks part ≡ 0
  none_more End is quiet = ap (λ (l : List Ask). replies_in g m l part) is.0 ∙ counts_end g [] m part
  none_more (Bad number) is quiet = ap (λ (l : List Ask). replies_in g m l part) is.0 ∙ counts_end g [] m part
  none_more (Call ways) is quiet = ap (λ (l : List Ask). replies_in g m l part) is.1 ∙ counts_here g [] m is.0 rest part (unanswered g m is.0 ways part is.3 quiet)

-- the replies that were counted are those that were said whole
pub counts_said : (case : Case) (place : Place) → IsSettled case place → replies_in case.g.now (begins case) (calls case.script.now) place.said.items ≡ place.replies
counts_said case place settled =
    let g : Geometry = case.g.now in
    let m0 : Moment = begins case in
    let at : IsPlace g m0 case.script.now place = settled.at in
    let part : List ℕ = part_of place in
    ap (λ (l : List Ask). replies_in g m0 l place.said.items) at.asks_are
    ∙ ap (replies_in g m0 (asks_of at.done ++ at.asks)) at.said_is
    ∙ counts_behind g [] m0 at.done at.asks part at.fair
    ∙ ap (λ (j : Moment). length at.done + replies_in g j at.asks part) (sym at.moment_is)
    ∙ ap (λ (n : ℕ). length at.done + n) (none_more g (moment_of place.moment) at.asks _ _ _ part place.ahead at.found.is settled.quiet)
    ∙ omega (arith, at.count)

module _ (case : Case) (i : ℕ) (s : Standing) where
  abbrev Good : Type 0
  Good = IsGood case.g.now case.slots case.first.now case.script.now s

  abbrev Inside : Event → Type 0
  Inside e = IsInside (length case.first.now) case.g.now.phys e

  -- what is wrong before an event or with it
  pub bad_before : (e : Event) → (Good → ⊥) → IsFault case i e s (BadCut i)
  unfolding IsVerdict
  bad_before e bad later = inl (bad, refl)

  pub outside : (e : Event) → Good → (Inside e → ⊥) → IsFault case i e s (Outside i)
  unfolding IsVerdict
  outside e good out later = inr (good, inl (out, refl))

  pub wrong_bits : (e : Event) → Good → Inside e → (HasRightBits e s.image → ⊥) → IsFault case i e s (WrongBits i)
  unfolding IsVerdict
  wrong_bits e good inside wrong later = inr (good, inr (inside, inl (wrong, refl)))

  -- a right event passes on the verdict of those behind it
  pub passes : (e : Event) (later : List Event) (v : Verdict) → IsRight case e s → IsVerdictFrom case (i + 1) later (after_event case.g.now.phys e s) v → IsVerdictFrom case i (e ∷ later) s v
  unfolding IsVerdict
  passes e later v right on = inr (right.good, inr (right.inside, inr (right.bits, on)))

  -- behind the last one
  pub ends_badly : (Good → ⊥) → IsVerdictFrom case i [] s (BadCut i)
  unfolding IsVerdict
  ends_badly bad = inl (bad, refl)

  pub ends_well : (replies : ℕ) → Good → replies_in case.g.now (begins case) (calls case.script.now) s.said ≡ replies → IsVerdictFrom case i [] s (Legal i replies)
  unfolding IsVerdict
  ends_well replies good is = inr (good, ap (Legal i) (sym is))

  module _ (events : List Event) where
    -- the events from one of them on
    from_here : (e : Event) → i < length events → e ≡ get_or events i e → drop i events ≡ e ∷ drop (i + 1) events
    from_here e low is =
        let next : suc i ≡ i + 1 = omega arith in
        drop-cons events i e low ∙ ap (λ (x : Event). x ∷ drop (suc i) events) (sym is) ∙ ap (λ (n : ℕ). e ∷ drop n events) next

    -- what is wrong with one of them is the verdict from there on
    pub fault_here : (e : Event) (v : Verdict) → i < length events → e ≡ get_or events i e → IsFault case i e s v → IsVerdictFrom case i (drop i events) s v
    fault_here e v low is fault = subst (λ (l : List Event). IsVerdictFrom case i l s v) (sym (from_here e low is)) (fault (drop (i + 1) events))

    -- where it is right, that is the one from the next on
    pub passed_here : (e : Event) (t : Standing) (v : Verdict) → i < length events → e ≡ get_or events i e → IsRight case e s → t ≡ after_event case.g.now.phys e s → IsVerdictFrom case (i + 1) (drop (i + 1) events) t v → IsVerdictFrom case i (drop i events) s v
    passed_here e t v low is right stands on =
        subst (λ (l : List Event). IsVerdictFrom case i l s v) (sym (from_here e low is))
        (passes e (drop (i + 1) events) v right (subst (λ (b : Standing). IsVerdictFrom case (i + 1) (drop (i + 1) events) b v) stands on))

    -- behind the last one
    pub last_here : (n : ℕ) (v : Verdict) → i ≡ n → length events ≤ i → IsVerdictFrom case n [] s v → IsVerdictFrom case i (drop i events) s v
    last_here n v same past on =
        subst (λ (l : List Event). IsVerdictFrom case i l s v) (sym (drop_all i events past)) (subst (λ (k : ℕ). IsVerdictFrom case k [] s v) (sym same) on)

-- ---- what stands after an event

pub said_event : (unit : ℕ) (e : Event) (s : Standing) (piece : Bytes) (said : List ℕ) → e ≡ Say piece → said ≡ s.said ++ piece.bytes.items → record { image = s.image; said = said } ≡ after_event unit e s
unfolding image_after said_after
said_event unit e s piece said is more =
    subst (λ (x : Event). record { image = s.image; said = said } ≡ after_event unit x s) (sym is) (ap (λ (l : List ℕ). record { image = s.image; said = l }) more)

pub other_event : (unit : ℕ) (e : Event) (s : Standing) (image : List ℕ) → ((piece : Bytes) → e ≡ Say piece → ⊥) → image ≡ image_after unit e s.image → record { image = image; said = s.said } ≡ after_event unit e s
unfolding said_after
other_event unit (Program at asked got) s image not is = ap (λ (l : List ℕ). record { image = l; said = s.said }) is
other_event unit (Erase unit_ix) s image not is = ap (λ (l : List ℕ). record { image = l; said = s.said }) is
other_event unit (Say piece) s image not is = absurd (not piece refl)

-- what stands before the first event
pub stands_first : (image said first : List ℕ) → image ≡ first → said ≡ [] → record { image = image; said = said } ≡ at_first first
stands_first image said first is none = ap (λ (l : List ℕ). record { image = l; said = said }) is ∙ ap (λ (l : List ℕ). record { image = first; said = l }) none

pub begins_by : (case : Case) (p : Picture) (m : Moment) (table : List PlainFile) → IsPicture case p → p.image.items ≡ case.first.now → table ≡ p.table.items → m ≡ settled_at (record { table = map file table; slots = replicate case.slots None }) → m ≡ begins case
begins_by case p m table picture image_is table_is is =
    let same : map file table ≡ table_of case.g.now case.first.now = ap (map file) table_is ∙ picture.table ∙ ap (table_of case.g.now) image_is in
    is ∙ ap (λ (t : List File). settled_at (record { table = t; slots = replicate case.slots None })) same

pub some_phys : (g : Geometry) → 0 < g.phys
some_phys g = omega (arith, lookups_fit g, magic_fits g)

-- what is large
pub large_told : (first script : List ℕ) → length first ≤ 131072 → IsTrue (nat_lt 16384 (length script)) ↔ IsLarge first script
large_told first script low = told_by (nat_lt 16384 (length script)) (IsLarge first script)
    (λ h. inr (grind (arith, nat_tests)))
    (λ e large. ⊎_elim (λ (many : 131072 < length first). absurd (omega (arith, many, low))) (λ (long : 16384 < length script). absurd (let no : nat_lt 16384 (length script) ≡ true = lt-ltb 16384 (length script) long in let bad : true ≡ false = sym no ∙ e in cc)) large)
