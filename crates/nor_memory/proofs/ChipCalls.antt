-- What a chip in memory notes, and what a cut may leave of it.
use Rattle.std.proofs.Common.{◌≡◌, ℕ, ◌+◌, ◌-◌, ◌<◌, ◌≤◌, ◌⊎◌, inl, inr, ⊎_elim, List, [], ◌∷◌, ◌++◌, length, take, drop, reverse, refl, sym, ◌∙◌, ap, subst, arith}
use Rattle.std.proofs.Common.{get_or, length-drop}
use Rattle.std.proofs.lemmas.List.{reverse-append, length-take, get_or-take, get_or-drop, ext_get_or}
use Rattle.std.proofs.lemmas.List.Elements.{All-head, All-cons, All-weaker}
use Rattle.std.specs.List.{All}
use Rattle.std.specs.declared.option.Option.{Option}
use Rattle.nor_core.specs.declared.device.Mark.{Mark}
use Rattle.nor_memory.specs.declared.memory.MemBoard.{MemBoard}
use Rattle.nor_core.specs.Flash.{SameOutside, HalfProgrammed, HalfErased}
use Rattle.nor_memory.specs.Picks.{put}
use Rattle.nor_memory.proofs.Ranges.{range_size, put_size, get_or-put_before, get_or-put_after, get_or-put_inside}
use Rattle.nor_core.proofs.Programs.{half_none}
use Rattle.nor_memory.specs.declared.chip_note.Note.{Note}
use Rattle.nor_memory.specs.declared.chip_note.Asked.{Asked}
use Rattle.nor_memory.specs.declared.chip_note.Asked.TheVariants.{Program, Erase}
use Rattle.nor_memory.specs.Moments.{before_call, InAsked, InCall, CutAt, Notes, NotCalled, IsProgram, IsErase}
use Rattle.nor_memory.specs.declared.mem_chip.MemChip.{MemChip}
use Rattle.nor_memory.specs.contracts.mem_chip.MemChipChipState.TheImpl.{ghosts}
use Rattle.chip_row.specs.Chips.{ChipChanges, ChipHonest}
use Rattle.chip_row.proofs.Parts.{lt_or_le}

-- where all stays outside a range, a range that stood there, put back, restores the whole
pub restored : (old new before : List ℕ) (at n end : ℕ) → SameOutside at n old new → end ≡ at + n → end ≤ length old → before ≡ take (end - at) (drop at old) → put new at before ≡ old
restored old new before at n end outside ends within before_is =
    let long : length before ≡ n = omega (arith, ap length before_is, length-take (end - at) (drop at old), length-drop at old, within, ends) in
    let room : at + length before ≤ length new = omega (arith, long, ends, within, outside.size) in
    let same : length (put new at before) ≡ length old = put_size new at before room ∙ outside.size in
    ext_get_or 0 (put new at before) old same (λ k inside. ⊎_elim
    (λ low. get_or-put_before new at before k room low ∙ outside.before k low)
    (λ high. ⊎_elim
    (λ in_range. let j : ℕ = k - at in
    let e : k ≡ at + j = omega (arith, high) in
    let small : j < length before = omega (arith, e, in_range, long) in
    ap (λ (i : ℕ). get_or (put new at before) i 0) e ∙ get_or-put_inside new at before j room small
    ∙ ap (λ (l : List ℕ). get_or l j 0) before_is ∙ get_or-take (end - at) (drop at old) j 0 (omega (arith, small, long, ends)) ∙ get_or-drop at old j 0
    ∙ sym (ap (λ (i : ℕ). get_or old i 0) e))
    (λ past. get_or-put_after new at before k room (omega (arith, past, long)) ∙ outside.after k past)
    (lt_or_le k (at + n)))
    (lt_or_le k at))

-- past the newest call a cut leaves what stands
pub cut_past : (notes : List Note) (last t : ℕ) (is image : List ℕ) → All (λ note. note.now ≤ last) notes → last < t → CutAt notes is t image → image ≡ is
unfolding CutAt
cut_past [] last t is image newest past cut = cut
cut_past (note ∷ older) last t is image newest past cut =
    let first = All-head (λ n. n.now ≤ last) note older newest in
    ⊎_elim (λ here. here.1) (⊎_elim (λ inside. absurd (omega (arith, inside.0, first, past))) (λ before. absurd (omega (arith, before.0, first, past)))) cut

-- and what stands is left
pub past_cut : (notes : List Note) (last t : ℕ) (is : List ℕ) → All (λ note. note.now ≤ last) notes → last < t → CutAt notes is t is
unfolding CutAt
past_cut [] last t is newest past = refl
past_cut (note ∷ older) last t is newest past = let first = All-head (λ n. n.now ≤ last) note older newest in inl (omega (arith, first, past), refl)

-- one more note is the newest
pub newest_first : (notes later : List Note) (note : Note) → later ≡ notes ++ note ∷ [] → reverse later ≡ note ∷ reverse notes
newest_first notes later note noted = ap (λ (l : List Note). reverse l) noted ∙ reverse-append notes (note ∷ [])

-- what was called up to a moment was called up to each later one
pub newest_by : (notes : List Note) (last now : ℕ) → last ≤ now → All (λ note. note.now ≤ last) notes → All (λ note. note.now ≤ now) notes
newest_by notes last now le newest = All-weaker (λ n. n.now ≤ last) (λ n. n.now ≤ now) (λ n h. omega (arith, le, h)) notes newest

module _ (now at n : ℕ) (IsAsked : Asked → Type 0) (old new : List ℕ) (notes later : List Note) (noted : Notes now at n IsAsked old notes later)
    (outside : SameOutside at n old new) (within : at + n ≤ length old) where
  -- it is the newest
  pub noted_newest : (last : ℕ) → last < now → All (λ note. note.now ≤ last) (reverse notes) → All (λ note. note.now ≤ now) (reverse later)
  noted_newest last earlier newest = subst (All (λ note. note.now ≤ now)) (sym (newest_first notes later noted.note noted.noted)) (All-cons (λ note. note.now ≤ now) noted.note (reverse notes) (omega (arith, noted.now_is)) (newest_by (reverse notes) last now (omega (arith, earlier)) newest))

  -- and stands first
  first_is : reverse later ≡ noted.note ∷ reverse notes
  first_is = newest_first notes later noted.note noted.noted

  -- what stood before is what the note puts back
  was_there : before_call noted.note new ≡ old
  was_there =
      let start : noted.note.at ≡ at = noted.at_is in
      subst (λ (k : ℕ). put new k noted.note.before.items ≡ old) (sym start)
      (restored old new noted.note.before.items at n (at + n) outside refl within noted.before_is)

  -- it holds all bytes that the call was to change
  long : length noted.note.before.items ≡ n
  long = ap length noted.before_is ∙ slice_long
    where
      slice_long : length (take (at + n - at) (drop at old)) ≡ n
      slice_long = range_size old at (at + n - at) (omega (arith, within)) ∙ omega arith

  -- a cut at an earlier moment leaves what it might leave before
  pub noted_before : (t : ℕ) (image : List ℕ) → t < now → CutAt (reverse later) new t image → CutAt (reverse notes) old t image
  unfolding CutAt
  noted_before t image earlier cut =
      let c = subst (λ (l : List Note). CutAt l new t image) first_is cut in
      ⊎_elim (λ here. absurd (omega (arith, here.0, earlier, noted.now_is)))
      (⊎_elim (λ inside. absurd (omega (arith, inside.0, earlier, noted.now_is)))
      (λ before. subst (λ (l : List ℕ). CutAt (reverse notes) l t image) was_there before.1)) c

  -- and what it might leave before it still may
  pub noted_kept : (t : ℕ) (image : List ℕ) → t < now → CutAt (reverse notes) old t image → CutAt (reverse later) new t image
  unfolding CutAt
  noted_kept t image earlier cut = subst (λ (l : List Note). CutAt l new t image) (sym first_is)
      (inr (inr (omega (arith, earlier, noted.now_is), subst (λ (l : List ℕ). CutAt (reverse notes) l t image) (sym was_there) cut)))

  -- a cut at the call's own moment is inside it, or leaves what stands after it
  pub noted_now : (image : List ℕ) → CutAt (reverse later) new now image → InAsked noted.note.asked at n old image ⊎ (image ≡ new)
  unfolding CutAt
  noted_now image cut =
      let c = subst (λ (l : List Note). CutAt l new now image) first_is cut in
      ⊎_elim (λ here. absurd (omega (arith, here.0, noted.now_is)))
      (⊎_elim (λ inside. ⊎_elim (λ within_it. inl (moved within_it)) (λ stands. inr stands) inside.1)
      (λ before. absurd (omega (arith, before.0, noted.now_is)))) c
    where
      moved : InCall noted.note new image → InAsked noted.note.asked at n old image
      moved inside = subst (λ (l : List ℕ). InAsked noted.note.asked at n l image) was_there
          (subst (λ (k : ℕ). InAsked noted.note.asked at k (before_call noted.note new) image) long
          (subst (λ (k : ℕ). InAsked noted.note.asked k (length noted.note.before.items) (before_call noted.note new) image) noted.at_is inside))

  -- and each image inside it is one that a cut may leave
  pub now_noted : (image : List ℕ) → InAsked noted.note.asked at n old image → CutAt (reverse later) new now image
  unfolding CutAt
  now_noted image inside = subst (λ (l : List Note). CutAt l new now image) (sym first_is) (inr (inl (sym noted.now_is, inl back)))
    where
      back : InCall noted.note new image
      back = subst (λ (k : ℕ). InAsked noted.note.asked k (length noted.note.before.items) (before_call noted.note new) image) (sym noted.at_is)
          (subst (λ (k : ℕ). InAsked noted.note.asked at k (before_call noted.note new) image) (sym long)
          (subst (λ (l : List ℕ). InAsked noted.note.asked at n l image) (sym was_there) inside))

-- a cut at the call's own moment may leave what stands after it
pub now_stands : (now at n : ℕ) (IsAsked : Asked → Type 0) (old new : List ℕ) (notes later : List Note) → Notes now at n IsAsked old notes later → (image : List ℕ) → image ≡ new → CutAt (reverse later) new now image
unfolding CutAt
now_stands now at n IsAsked old new notes later noted image stands = subst (λ (l : List Note). CutAt l new now image) (sym (newest_first notes later noted.note noted.noted)) (inr (inl (sym noted.now_is, inr stands)))

-- what stood before is inside each call
pub asked_none : (asked : Asked) (at n : ℕ) (old : List ℕ) → InAsked asked at n old old
asked_none (Program from) at n old = half_none old at from.items
asked_none (Erase mark) at n old = inl refl

-- a cut at the call's own moment may leave what stood before it
pub noted_at : (now at n : ℕ) (IsAsked : Asked → Type 0) (old new : List ℕ) (notes later : List Note) (noted : Notes now at n IsAsked old notes later) → SameOutside at n old new → at + n ≤ length old → (t : ℕ) (image : List ℕ) → t ≡ now → image ≡ old → CutAt (reverse later) new t image
noted_at now at n IsAsked old new notes later noted outside within t image t_is image_is =
    subst (λ (k : ℕ). CutAt (reverse later) new k image) (sym t_is) (subst (λ (l : List ℕ). CutAt (reverse later) new now l) (sym image_is) (now_noted now at n IsAsked old new notes later noted outside within old (asked_none noted.note.asked at n old)))

-- inside a program
pub in_program : (asked : Asked) (from : List ℕ) (at n : ℕ) (old image : List ℕ) → IsProgram from asked → InAsked asked at n old image → HalfProgrammed at from old image
in_program asked from at n old image is inside =
    subst (λ (l : List ℕ). HalfProgrammed at l old image) is.2 (subst (λ (a : Asked). InAsked a at n old image) is.1 inside)

-- and back
pub program_in : (asked : Asked) (from : List ℕ) (at n : ℕ) (old image : List ℕ) → IsProgram from asked → HalfProgrammed at from old image → InAsked asked at n old image
program_in asked from at n old image is half =
    subst (λ (a : Asked). InAsked a at n old image) (sym is.1) (subst (λ (l : List ℕ). HalfProgrammed at l old image) (sym is.2) half)

-- inside an erase
pub in_erase : (asked : Asked) (mark : Option Mark) (at n : ℕ) (old image : List ℕ) → IsErase mark asked → InAsked asked at n old image → HalfErased at n mark old image
in_erase asked mark at n old image is inside = subst (λ (a : Asked). InAsked a at n old image) is inside

-- and back
pub erase_in : (asked : Asked) (mark : Option Mark) (at n : ℕ) (old image : List ℕ) → IsErase mark asked → HalfErased at n mark old image → InAsked asked at n old image
erase_in asked mark at n old image is half = subst (λ (a : Asked). InAsked a at n old image) (sym is) half

-- a chip in memory keeps what a chip keeps
pub honest_chip : (c : MemChip) → ChipHonest ghosts c
honest_chip c = record {
  sized = λ tells. refl;
  small = c.board.fits;
  below = λ tells. c.below;
  only_after = λ t image past tells cut. cut_past (reverse c.notes.items) c.last t _ image c.newest past cut;
  counts = λ t past tells. past_cut (reverse c.notes.items) c.last t _ c.newest past;
}

-- the moments of the calls, after one that was noted or not made at all
pub newest_after : (now at n last : ℕ) (IsAsked : Asked → Type 0) (old : List ℕ) (was is : MemBoard) (notes later : List Note) → last < now → All (λ note. note.now ≤ last) (reverse notes)
    → Notes now at n IsAsked old notes later ⊎ NotCalled was is notes later → All (λ note. note.now ≤ now) (reverse later)
newest_after now at n last IsAsked old was is notes later earlier newest (inl noted) =
    subst (All (λ note. note.now ≤ now)) (sym (newest_first notes later noted.note noted.noted)) (All-cons (λ note. note.now ≤ now) noted.note (reverse notes) (omega (arith, noted.now_is)) (newest_by (reverse notes) last now (omega (arith, earlier)) newest))
newest_after now at n last IsAsked old was is notes later earlier newest (inr same) =
    subst (λ (l : List Note). All (λ note. note.now ≤ now) (reverse l)) (sym same.notes) (newest_by (reverse notes) last now (omega (arith, earlier)) newest)

module _ (now at n : ℕ) (IsAsked : Asked → Type 0) (R : List ℕ → Type 0) (old new : MemChip) (earlier : old.last < now)
    (outside : SameOutside at n old.board.bytes.items new.board.bytes.items) (within : at + n ≤ length old.board.bytes.items)
    (called : Notes now at n IsAsked old.board.bytes.items old.notes.items new.notes.items ⊎ NotCalled old.board new.board old.notes.items new.notes.items) where
  -- a call at `now` leaves what the rules allow
  pub chip_called : new.board.unit ≡ old.board.unit → old.faults ≤ new.faults → new.board.reads ≡ old.board.reads → new.last ≡ now
      → ((asked : Asked) (image : List ℕ) → IsAsked asked → InAsked asked at n old.board.bytes.items image → R image) → R old.board.bytes.items → R new.board.bytes.items → ChipChanges ghosts now old new R
  chip_called unit faults reads last_is inside none stands = record {
    size = outside.size;
    unit = unit;
    told = λ tells. tells;
    told_before = λ tells. tells;
    faults = faults;
    reads = reads;
    last = last_is;
    before = λ t image before cut. ⊎_elim
        (λ noted. noted_before now at n IsAsked _ _ _ _ noted outside within t image before cut)
        (λ same. subst (λ (l : List Note). CutAt (reverse l) old.board.bytes.items t image) same.notes (subst (λ (b : MemBoard). CutAt (reverse new.notes.items) b.bytes.items t image) same.board cut))
        called;
    kept = λ t image le cut. ⊎_elim
        (λ noted. ⊎_elim
        (λ before. noted_kept now at n IsAsked _ _ _ _ noted outside within t image before cut)
        (λ here. noted_at now at n IsAsked _ _ _ _ noted outside within t image (omega (arith, le, here)) (cut_past (reverse old.notes.items) old.last t _ image old.newest (omega (arith, earlier, here)) cut))
        (lt_or_le t now))
        (λ same. subst (λ (b : MemBoard). CutAt (reverse new.notes.items) b.bytes.items t image) (sym same.board) (subst (λ (l : List Note). CutAt (reverse l) old.board.bytes.items t image) (sym same.notes) cut))
        called;
    at_now = λ image tells cut. ⊎_elim
        (λ noted. ⊎_elim (λ within_it. inside noted.note.asked image noted.asked_is within_it) (λ here. subst R (sym here) stands) (noted_now now at n IsAsked _ _ _ _ noted outside within image cut))
        (λ same. (let back = subst (λ (l : List Note). CutAt (reverse l) old.board.bytes.items now image) same.notes (subst (λ (b : MemBoard). CutAt (reverse new.notes.items) b.bytes.items now image) same.board cut) in
        subst R (sym (cut_past (reverse old.notes.items) old.last now _ image old.newest earlier back)) none))
        called;
    stands = λ tells. stands;
  }

-- each image inside a noted call is one that a cut may leave, and so is what stands after it
pub chip_possible : (now at n : ℕ) (IsAsked : Asked → Type 0) (old new : MemBoard) (notes later : List Note) → SameOutside at n old.bytes.items new.bytes.items → at + n ≤ length old.bytes.items
    → Notes now at n IsAsked old.bytes.items notes later ⊎ NotCalled old new notes later → length notes < length later
    → (image : List ℕ) → ((asked : Asked) → IsAsked asked → InAsked asked at n old.bytes.items image) ⊎ (image ≡ new.bytes.items) → CutAt (reverse later) new.bytes.items now image
chip_possible now at n IsAsked old new notes later outside within called more image inside = ⊎_elim
    (λ noted. ⊎_elim
    (λ half. now_noted now at n IsAsked _ _ _ _ noted outside within image (half noted.note.asked noted.asked_is))
    (λ stands. now_stands now at n IsAsked _ _ _ _ noted image stands)
    inside)
    (λ same. absurd (omega (arith, more, ap length same.notes)))
    called
