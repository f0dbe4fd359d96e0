-- What the device in memory notes and leaves.
use Rattle.std.proofs.Common.{◌≡◌, ◌≢◌, ℕ, ◌+◌, ◌*◌, ◌≤◌, ◌⊎◌, ◌↔◌, inl, inr, ⊎_elim, List, [], ◌∷◌, ◌++◌, length, take, drop, OnOk, OnErr, IsOk, Ok, Err, Result, refl, sym, ◌∙◌, ap, subst, arith, length-append, Vec}
use Rattle.std.specs.declared.alloc.Global.{Global}
use Rattle.std.specs.Option.{ForSome}
use Rattle.std.specs.declared.option.Option.{Option}
use Rattle.std.proofs.lemmas.Bool.{false≢true}
use Rattle.std.proofs.lemmas.List.{length-take}
use Rattle.nor_memory.specs.declared.call.Call.{Call}
use Rattle.nor_memory.specs.declared.call.Call.TheVariants.{Erase, Say}
use Rattle.nor_core.specs.declared.device.Failed.{Failed}
use Rattle.nor_core.specs.declared.device.Mark.{Mark}
use Rattle.nor_memory.specs.declared.memory.MemBoard.{MemBoard}
use Rattle.nor_memory.specs.declared.plan.Way.{Way}
use Rattle.nor_memory.specs.declared.plan.Way.TheVariants.{Whole, Unpowered}
use Rattle.nor_memory.specs.contracts.memory.MemBoardNorState.TheImpl.{ghosts}
use Rattle.nor_core.specs.Flash.{HalfProgrammed}
use Rattle.nor_memory.specs.Picks.{put, RangeProgrammed, UnitErased, PartSaid}
use Rattle.nor_memory.specs.Ways.{Answered}
use Rattle.nor_memory.specs.Record.{Programs, Erases, SaysCall, Same, IsProgramCall, after_call, said_after, InCall, image_after, count_after, LeftSince}
use Rattle.nor_memory.specs.RecordLaws.{image_after-push, count_after-push, left_push, kept_push, inside_push}
use Rattle.nor_core.specs.Device.{Leaves, Changes, InErase, InSay, MayBeHalf, MayBeErased, MayBeSaid}
use Rattle.nor_core.proofs.Cuts.{widened}
use Rattle.nor_core.proofs.Programs.{half_none}
use Rattle.nor_memory.proofs.Ranges.{put_size, range_size, half_leaves}
use Rattle.nor_memory.proofs.Units.{unit_size}

-- a call of a program with what it left
pub programs_by : (way : Way) (at n : ℕ) (asked old : List ℕ) → n ≡ length asked → at + length asked ≤ length old
    → (left new : List ℕ) (calls later : List Call) (call : Call) → RangeProgrammed way (take n (drop at old)) asked left → new ≡ put old at left → later ≡ calls ++ call ∷ [] → IsProgramCall at asked left call → Programs way at asked old new calls later
programs_by way at n asked old n_is within left new calls later call range new_is noted call_is = record {
  call = call;
  noted = noted;
  leaves = record { left = left; range = subst (λ (k : ℕ). RangeProgrammed way (take k (drop at old)) asked left) (omega (arith, n_is)) range; new_is = new_is };
  call_is = call_is;
  half = subst (HalfProgrammed at asked old) (sym new_is) (half_leaves way at n asked old left n_is within range);
}

-- a call that was noted is answered by the way that it went
pub answered_noted : (way : Way) (answer : Result (Unit {0}) Failed) (calls later : List Call) (call : Call) → IsOk answer ↔ (way ≡ Whole) → way ≢ Unpowered → later ≡ calls ++ call ∷ [] → Answered way (length calls) (length later) answer
answered_noted way (Ok done) calls later call goes on noted = record {
  whole = goes.0 refl;
  noted = ap length noted ∙ length-append calls (call ∷ []);
  fails = tt;
  off = λ is. absurd (on is);
}
answered_noted way (Err failed) calls later call goes on noted = record { whole = tt; noted = tt; fails = inl (λ is. absurd (false≢true (goes.1 is))); off = λ is. absurd (on is) }

-- a call that was not noted has failed
pub answered_same : (way : Way) (calls later : List Call) (failed : Failed) → later ≡ calls → Answered way (length calls) (length later) (Err failed)
answered_same way calls later failed same = record { whole = tt; noted = tt; fails = inr (ap length same); off = λ is. ap length same }

-- where an answer is Ok, its call went whole
pub on_whole : (way : Way) (answer : Result (Unit {0}) Failed) (P : Type 0) → IsOk answer ↔ (way ≡ Whole) → (way ≡ Whole → P) → OnOk answer P
on_whole way (Ok done) P goes holds = holds (goes.0 refl)
on_whole way (Err failed) P goes holds = tt

-- where an answer is a failure, its call did not go whole
pub on_half : (way : Way) (answer : Result (Unit {0}) Failed) (P : Type 0) → IsOk answer ↔ (way ≡ Whole) → (way ≢ Whole → P) → OnErr answer P
on_half way (Ok done) P goes holds = tt
on_half way (Err failed) P goes holds = holds (λ is. absurd (false≢true (goes.1 is)))

-- one call more: what a cut may leave since an earlier one
one_more : (unit : ℕ) (calls later : List Call) (call : Call) (first old new : List ℕ) (m n t : ℕ) (image : List ℕ) (count : ℕ) → later ≡ calls ++ call ∷ []
    → image_after unit calls first ≡ old → count_after calls 0 ≡ m → image_after unit later first ≡ new → count_after later 0 ≡ n → t ≤ length calls → LeftSince unit later first 0 t image count
    → LeftSince unit calls first 0 t image count ⊎ InCall unit call old m image count ⊎ ((image ≡ new) × (count ≡ n))
one_more unit calls later call first old new m n t image count noted stands spoken stands_then spoken_then le left =
    ⊎_elim (λ before. inl before) (⊎_elim (λ inside. inr (inl (at_old inside))) (λ now. inr (inr (now.0 ∙ image_now, now.1 ∙ count_now))))
    (left_push unit calls call first 0 t image count le (subst (λ (l : List Call). LeftSince unit l first 0 t image count) noted left))
  where
    at_old : InCall unit call (image_after unit calls first) (count_after calls 0) image count → InCall unit call old m image count
    at_old inside = subst (λ (k : ℕ). InCall unit call old k image count) spoken (subst (λ (l : List ℕ). InCall unit call l (count_after calls 0) image count) stands inside)

    image_now : after_call unit call (image_after unit calls first) ≡ new
    image_now = sym (image_after-push unit calls call first) ∙ ap (λ (l : List Call). image_after unit l first) (sym noted) ∙ stands_then

    count_now : said_after call (count_after calls 0) ≡ n
    count_now = sym (count_after-push calls call 0) ∙ ap (λ (l : List Call). count_after l 0) (sym noted) ∙ spoken_then

-- what no call changes
pub record Keeps (old new : MemBoard) : Type 0 where
  pub unit : new.unit ≡ old.unit
  pub first : new.first.items ≡ old.first.items
  pub size : length new.bytes.items ≡ length old.bytes.items
  pub faults : old.faults ≤ new.faults
  pub reads : old.reads ≤ new.reads
  pub writes : old.writes ≤ new.writes

module _ (old new : MemBoard) (keeps : Keeps old new) where
  moved : (t : ℕ) (image : List ℕ) (count : ℕ) → LeftSince new.unit new.calls.items new.first.items 0 t image count → LeftSince old.unit new.calls.items old.first.items 0 t image count
  moved t image count left = subst (λ (u : ℕ). LeftSince u new.calls.items old.first.items 0 t image count) keeps.unit (subst (λ (l : List ℕ). LeftSince new.unit new.calls.items l 0 t image count) keeps.first left)

  back : (t : ℕ) (image : List ℕ) (count : ℕ) → LeftSince old.unit new.calls.items old.first.items 0 t image count → LeftSince new.unit new.calls.items new.first.items 0 t image count
  back t image count left = subst (λ (u : ℕ). LeftSince u new.calls.items new.first.items 0 t image count) (sym keeps.unit) (subst (λ (l : List ℕ). LeftSince old.unit new.calls.items l 0 t image count) (sym keeps.first) left)

  stands_then : image_after old.unit new.calls.items old.first.items ≡ new.bytes.items
  stands_then = ap (λ (u : ℕ). image_after u new.calls.items old.first.items) (sym keeps.unit) ∙ ap (λ (l : List ℕ). image_after new.unit new.calls.items l) (sym keeps.first) ∙ new.stands

  -- a call that was noted leaves what it had done halfway, or what stands
  pub noted_leaves : (call : Call) → new.calls.items ≡ old.calls.items ++ call ∷ [] → Leaves ghosts old new (λ image count. InCall old.unit call old.bytes.items (length old.said.items) image count ⊎ ((image ≡ new.bytes.items) × (count ≡ length new.said.items)))
  noted_leaves call noted = record {
    size = keeps.size;
    unit = keeps.unit;
    lent = keeps.first;
    told = λ tells. tells;
    told_before = λ tells. tells;
    faults = keeps.faults;
    reads = keeps.reads;
    writes = keeps.writes;
    moment = omega (arith, ap length noted, length-append old.calls.items (call ∷ []));
    cuts = λ t image count le left. one_more old.unit old.calls.items new.calls.items call old.first.items old.bytes.items new.bytes.items (length old.said.items) (length new.said.items) t image count noted old.stands old.spoken stands_then new.spoken le (moved t image count left);
    kept = λ t image count le left. back t image count (subst (λ (l : List Call). LeftSince old.unit l old.first.items 0 t image count) (sym noted) (kept_push old.unit old.calls.items call old.first.items 0 t image count le left));
  }

  -- a call that was not noted leaves nothing new
  pub same_leaves : (P : List ℕ → ℕ → Type 0) → new.calls.items ≡ old.calls.items → Leaves ghosts old new P
  same_leaves P same = record {
    size = keeps.size;
    unit = keeps.unit;
    lent = keeps.first;
    told = λ tells. tells;
    told_before = λ tells. tells;
    faults = keeps.faults;
    reads = keeps.reads;
    writes = keeps.writes;
    moment = omega (arith, ap length same);
    cuts = λ t image count le left. inl (subst (λ (l : List Call). LeftSince old.unit l old.first.items 0 t image count) same (moved t image count left));
    kept = λ t image count le left. back t image count (subst (λ (l : List Call). LeftSince old.unit l old.first.items 0 t image count) (sym same) left);
  }

  -- what a cut inside a noted call may leave is among what a cut may leave
  pub inside_leaves : (call : Call) → new.calls.items ≡ old.calls.items ++ call ∷ [] → (t : ℕ) (image : List ℕ) (count : ℕ) → t ≤ length old.calls.items → InCall old.unit call old.bytes.items (length old.said.items) image count → LeftSince new.unit new.calls.items new.first.items 0 t image count
  inside_leaves call noted t image count le inside = back t image count
      (subst (λ (l : List Call). LeftSince old.unit l old.first.items 0 t image count) (sym noted)
      (inside_push old.unit old.calls.items call old.first.items 0 t image count le
      (subst (λ (k : ℕ). InCall old.unit call (image_after old.unit old.calls.items old.first.items) k image count) (sym old.spoken)
      (subst (λ (l : List ℕ). InCall old.unit call l (length old.said.items) image count) (sym old.stands) inside))))

  -- each state that a program may leave half done is one that a cut may leave
  pub program_possible : (way : Way) (at : ℕ) (asked : List ℕ) → Programs way at asked old.bytes.items new.bytes.items old.calls.items new.calls.items ⊎ Same old.bytes.items new.bytes.items old.calls.items new.calls.items → MayBeHalf ghosts old new at asked
  unfolding InCall
  program_possible way at asked (inl done) = record {
    possible = λ t image le moved_on tells half. inside_leaves done.call done.noted t image (length old.said.items) le
        (subst (λ (c : Call). InCall old.unit c old.bytes.items (length old.said.items) image (length old.said.items)) (sym done.call_is.call_is)
        (subst (λ (l : List ℕ). HalfProgrammed at l old.bytes.items image) (sym done.call_is.asked_is) half, refl));
  }
  program_possible way at asked (inr same) = record { possible = λ t image le moved_on tells half. absurd (omega (arith, moved_on, ap length same.calls)) }

  -- a program, noted or not, changes the device as the rules allow
  pub program_noted : (way : Way) (at : ℕ) (asked : List ℕ) → new.said.items ≡ old.said.items → Programs way at asked old.bytes.items new.bytes.items old.calls.items new.calls.items ⊎ Same old.bytes.items new.bytes.items old.calls.items new.calls.items → Changes ghosts old new (HalfProgrammed at asked)
  unfolding InCall
  program_noted way at asked said (inl done) =
      let call_is = done.call_is.call_is in
      let inside : (image : List ℕ) (count : ℕ) → InCall old.unit done.call old.bytes.items (length old.said.items) image count → (count ≡ length old.said.items) × HalfProgrammed at asked old.bytes.items image
      = λ image count here. (let now = subst (λ (c : Call). InCall old.unit c old.bytes.items (length old.said.items) image count) call_is here in (now.1, subst (λ (l : List ℕ). HalfProgrammed at l old.bytes.items image) done.call_is.asked_is now.0)) in
      record {
        cuts = widened (noted_leaves done.call done.noted) (λ image count here. ⊎_elim (λ within. ((inside image count within).0, λ _. (inside image count within).1)) (λ now. (now.1 ∙ ap length said, λ _. subst (HalfProgrammed at asked old.bytes.items) (sym now.0) done.half)) here);
        said = said;
        now = λ _. done.half;
      }
  program_noted way at asked said (inr same) = record {
    cuts = same_leaves _ same.calls;
    said = said;
    now = λ _. subst (HalfProgrammed at asked old.bytes.items) (sym same.bytes) (half_none old.bytes.items at asked);
  }

module _ (way : Way) (at : ℕ) (asked old new : List ℕ) (calls later : List Call) where
  abbrev Noted : Type 0
  Noted = Programs way at asked old new calls later ⊎ Same old new calls later

  pub program_size : Noted → length new ≡ length old
  program_size (inl done) = done.half.outside.size
  program_size (inr same) = ap length same.bytes

  -- the replay of the calls is what stands, after a program
  pub program_stands : (unit : ℕ) (first : List ℕ) → image_after unit calls first ≡ old → Noted → image_after unit later first ≡ new
  unfolding after_call
  program_stands unit first stands (inl done) =
      ap (λ (l : List Call). image_after unit l first) done.noted
      ∙ image_after-push unit calls done.call first
      ∙ ap (λ (l : List ℕ). after_call unit done.call l) stands
      ∙ ap (λ (c : Call). after_call unit c old) done.call_is.call_is
      ∙ ap (λ (l : List ℕ). put old at l) done.call_is.left_is
      ∙ sym done.leaves.new_is
  program_stands unit first stands (inr same) = ap (λ (l : List Call). image_after unit l first) same.calls ∙ stands ∙ sym same.bytes

  -- and counts what was said
  pub program_spoken : (count : ℕ) → count_after calls 0 ≡ count → Noted → count_after later 0 ≡ count
  unfolding said_after
  program_spoken count spoken (inl done) =
      ap (λ (l : List Call). count_after l 0) done.noted
      ∙ count_after-push calls done.call 0
      ∙ ap (λ (c : Call). said_after c (count_after calls 0)) done.call_is.call_is
      ∙ spoken
  program_spoken count spoken (inr same) = ap (λ (l : List Call). count_after l 0) same.calls ∙ spoken

-- the replay of the calls, with one more
pub stands_more : (unit : ℕ) (first old new : List ℕ) (calls later : List Call) (call : Call) → image_after unit calls first ≡ old → later ≡ calls ++ call ∷ [] → new ≡ after_call unit call old → image_after unit later first ≡ new
stands_more unit first old new calls later call stands noted is =
    ap (λ (l : List Call). image_after unit l first) noted ∙ image_after-push unit calls call first ∙ ap (λ (l : List ℕ). after_call unit call l) stands ∙ sym is

-- the count of what was said, with one more call
pub spoken_more : (calls later : List Call) (call : Call) (m n : ℕ) → count_after calls 0 ≡ m → later ≡ calls ++ call ∷ [] → n ≡ said_after call m → count_after later 0 ≡ n
spoken_more calls later call m n spoken noted is =
    ap (λ (l : List Call). count_after l 0) noted ∙ count_after-push calls call 0 ∙ ap (λ (k : ℕ). said_after call k) spoken ∙ sym is

module _ (way : Way) (unit unit_ix : ℕ) (mark : Option Mark) (old new : List ℕ) (calls later : List Call) where
  abbrev ErasesOrNot : Type 0
  ErasesOrNot = Erases way unit unit_ix mark old new calls later ⊎ Same old new calls later

  pub erase_size : ErasesOrNot → length new ≡ length old
  erase_size (inl done) = done.size
  erase_size (inr same) = ap length same.bytes

  -- the replay of the calls is what stands, after an erase
  pub erase_stands : (first : List ℕ) → image_after unit calls first ≡ old → ErasesOrNot → image_after unit later first ≡ new
  unfolding after_call
  erase_stands first stands (inl done) = stands_more unit first old new calls later _ stands done.noted (done.leaves.new_is ∙ ap (λ (l : List ℕ). put old (unit_ix * unit) l) (sym done.left_is))
  erase_stands first stands (inr same) = ap (λ (l : List Call). image_after unit l first) same.calls ∙ stands ∙ sym same.bytes

  -- and counts what was said
  pub erase_spoken : (count : ℕ) → count_after calls 0 ≡ count → ErasesOrNot → count_after later 0 ≡ count
  unfolding said_after
  erase_spoken count spoken (inl done) = spoken_more calls later _ count count spoken done.noted refl
  erase_spoken count spoken (inr same) = ap (λ (l : List Call). count_after l 0) same.calls ∙ spoken

module _ (way : Way) (unit : ℕ) (piece old new bytes : List ℕ) (calls later : List Call) where
  abbrev SaysOrNot : Type 0
  SaysOrNot = SaysCall way piece old new calls later ⊎ Same old new calls later

  -- the replay of the calls is what stands, after a piece was said
  pub say_stands : (first : List ℕ) → image_after unit calls first ≡ bytes → SaysOrNot → image_after unit later first ≡ bytes
  unfolding after_call
  say_stands first stands (inl done) = stands_more unit first bytes bytes calls later _ stands done.noted refl
  say_stands first stands (inr same) = ap (λ (l : List Call). image_after unit l first) same.calls ∙ stands

  pub say_spoken : count_after calls 0 ≡ length old → SaysOrNot → count_after later 0 ≡ length new
  unfolding said_after
  say_spoken spoken (inl done) = spoken_more calls later _ (length old) (length new) spoken done.noted done.count
  say_spoken spoken (inr same) = ap (λ (l : List Call). count_after l 0) same.calls ∙ spoken ∙ ap length (sym same.bytes)

module _ (old new : MemBoard) (keeps : Keeps old new) where
  -- an erase, noted or not, changes the device as the rules allow
  pub erase_noted : (way : Way) (unit_ix : ℕ) (mark : Option Mark) → new.said.items ≡ old.said.items → Erases way old.unit unit_ix mark old.bytes.items new.bytes.items old.calls.items new.calls.items ⊎ Same old.bytes.items new.bytes.items old.calls.items new.calls.items
      → Changes ghosts old new (InErase ghosts old new unit_ix mark)
  unfolding InCall
  erase_noted way unit_ix mark said (inl done) = record {
    cuts = widened (noted_leaves old new keeps _ done.noted) (λ image count here. ⊎_elim (λ within. (within.1, λ _. inl within.0)) (λ now. (now.1 ∙ ap length said, λ _. inr now.0)) here);
    said = said;
    now = λ _. inr refl;
  }
  erase_noted way unit_ix mark said (inr same) = record { cuts = same_leaves old new keeps _ same.calls; said = said; now = λ _. inr refl }

  -- a piece that was said, noted or not, leaves what the rules allow
  pub say_noted : (way : Way) (piece : List ℕ) → new.bytes.items ≡ old.bytes.items → SaysCall way piece old.said.items new.said.items old.calls.items new.calls.items ⊎ Same old.said.items new.said.items old.calls.items new.calls.items
      → Leaves ghosts old new (InSay ghosts old piece)
  unfolding InCall
  say_noted way piece bytes (inl done) =
      let passed_within : length new.said.items ≤ length old.said.items + length piece = omega (arith, ap length done.leaves.new_is, length-append old.said.items (take done.leaves.passed piece), length-take done.leaves.passed piece) in
      let fewer : length old.said.items ≤ length new.said.items = omega (arith, done.count) in
      let pieces : length done.bits.items ≡ length piece = ap length done.bits_is in
      widened (noted_leaves old new keeps _ done.noted)
      (λ image count here. ⊎_elim
      (λ within. record { all_bytes = λ _. within.0; least = within.1; most = omega (arith, within.2, pieces) })
      (λ now. record { all_bytes = λ _. now.0 ∙ bytes; least = omega (arith, now.1, fewer); most = omega (arith, now.1, passed_within) })
      here)
  say_noted way piece bytes (inr same) = same_leaves old new keeps _ same.calls

-- a call of say with what it said
pub says_by : (way : Way) (piece bits old new : List ℕ) (v : Vec ℕ Global) (passed : ℕ) (calls later : List Call) → v.items ≡ piece → bits ≡ take passed piece → passed ≤ length piece → PartSaid way (length piece) passed → new ≡ old ++ bits → later ≡ calls ++ Say v passed ∷ [] → SaysCall way piece old new calls later
says_by way piece bits old new v passed calls later v_is bits_is within part new_is noted = record {
  bits = v;
  leaves = record { passed = passed; part = part; new_is = new_is ∙ ap (λ (l : List ℕ). old ++ l) bits_is };
  noted = noted;
  bits_is = v_is;
  count = omega (arith, ap length new_is, length-append old bits, ap length bits_is, length-take passed piece, within);
}

-- a call of an erase with what it left
pub erases_by : (way : Way) (unit unit_ix : ℕ) (mark : Option Mark) → ForSome mark (λ m. m.at + 2 ≤ unit) → (n : ℕ) → n ≡ unit → (old new left : List ℕ) → unit_ix * unit + unit ≤ length old
    → (v : Vec ℕ Global) (calls later : List Call) → v.items ≡ left → UnitErased way unit mark (take n (drop (unit_ix * unit) old)) left → new ≡ put old (unit_ix * unit) left → later ≡ calls ++ Erase unit_ix mark v ∷ [] → Erases way unit unit_ix mark old new calls later
erases_by way unit unit_ix mark marked n n_is old new left within v calls later v_is range new_is noted =
    let long : length left ≡ unit = unit_size unit mark marked way (take n (drop (unit_ix * unit) old)) left (range_size old (unit_ix * unit) n (omega (arith, n_is, within)) ∙ n_is) range in
    record {
      left_bits = v;
      noted = noted;
      leaves = record { left = left; range = subst (λ (k : ℕ). UnitErased way unit mark (take k (drop (unit_ix * unit) old)) left) (omega (arith, n_is)) range; new_is = new_is };
      left_is = v_is;
      size = ap length new_is ∙ put_size old (unit_ix * unit) left (omega (arith, long, within));
    }

module _ (old new : MemBoard) (keeps : Keeps old new) where
  -- each state that an erase may leave half done is one that a cut may leave
  pub erase_possible : (way : Way) (unit_ix : ℕ) (mark : Option Mark) → Erases way old.unit unit_ix mark old.bytes.items new.bytes.items old.calls.items new.calls.items ⊎ Same old.bytes.items new.bytes.items old.calls.items new.calls.items → MayBeErased ghosts old new unit_ix mark
  unfolding InCall
  erase_possible way unit_ix mark (inl done) = record { possible = λ t image le moved_on tells half. inside_leaves old new keeps _ done.noted t image (length old.said.items) le (half, refl) }
  erase_possible way unit_ix mark (inr same) = record { possible = λ t image le moved_on tells half. absurd (omega (arith, moved_on, ap length same.calls)) }

  -- each front of a piece is what a cut may leave said
  pub say_possible : (way : Way) (piece : List ℕ) → SaysCall way piece old.said.items new.said.items old.calls.items new.calls.items ⊎ Same old.said.items new.said.items old.calls.items new.calls.items → MayBeSaid ghosts old new piece
  unfolding InCall
  say_possible way piece (inl done) = record { possible = λ t count le moved_on tells least most. inside_leaves old new keeps _ done.noted t old.bytes.items count le (refl, least, omega (arith, most, ap length done.bits_is)) }
  say_possible way piece (inr same) = record { possible = λ t count le moved_on tells least most. absurd (omega (arith, moved_on, ap length same.calls)) }
