-- Pages that are held, and how few reads they leave.
use Rattle.std.proofs.Common.{◌≡◌, ◌≢◌, ℕ, ◌+◌, ◌*◌, ◌<◌, ◌≤◌, ◌==◌, ⊎_elim, Bool, true, false, List, length, refl, sym, ◌∙◌, ap, arith}
use Rattle.std.proofs.lemmas.Bool.{eq-eqb, eqb-true}
use Rattle.std.specs.Prelude.{Option, Some, None, is_some, IfSome}
use Rattle.geometry.proofs.Bounds.{few_pages}
use Rattle.geometry.specs.declared.geometry.Geometry.{Geometry}
use Rattle.geometry.specs.Numbers.{page_count}
use Rattle.nor_core.specs.Count.{Rose}
use Rattle.nor_core.specs.declared.state.NorState.{Ghosts as NorOf}
use Rattle.page_cache.specs.Frames.{frame_count, number_of, page_in, holds, held, KeepsHeld, KeepsAllBut, KeepsOutside, LiesOutside, GivenUp, EachPage}
use Rattle.page_cache.specs.Kept.{FewReads}
use Rattle.page_cache.proofs.Counts.{some_here, some_of, many_most, many_more, many_one_more, many_none}
use Rattle.page_cache.proofs.Places.{count_same}

bool_false : (b : Bool) → (b ≡ true → ⊥) → b ≡ false
bool_false true none = absurd (none refl)
bool_false false none = refl

-- a range that meets a page doesn't lie outside it
meets_not : (at count page number size : ℕ) → number ≡ page → at < number * size + size → number * size < at + count → LiesOutside size at count page → ⊥
meets_not at count page number size same before_end behind_start outside =
    let e : number * size ≡ page * size = ap (λ (n : ℕ). n * size) same in
    ⊎_elim (λ before. absurd (omega (arith, e, before_end, before))) (λ behind. absurd (omega (arith, e, behind_start, behind))) outside

module _ (g : Geometry) where
  -- the frame that holds a page
  pub holds_by : (frames : List ℕ) (f page : ℕ) → f < frame_count g frames → page_in g frames f ≡ page → holds g frames page ≡ true
  holds_by frames f page below is = some_here (λ h. page_in g frames h == page) (frame_count g frames) f below (eq-eqb _ _ is)

  pub record Holder (frames : List ℕ) (page : ℕ) : Type 0 where
    pub frame : ℕ
    pub below : frame < frame_count g frames
    pub is : page_in g frames frame ≡ page

  pub holder : (frames : List ℕ) (page : ℕ) → holds g frames page ≡ true → Holder frames page
  holder frames page e = let w = some_of (λ h. page_in g frames h == page) (frame_count g frames) e in record { frame = w.number; below = w.below; is = eqb-true _ _ w.passes }

  pub not_held : (frames : List ℕ) (page : ℕ) → ((f : ℕ) → f < frame_count g frames → page_in g frames f ≢ page) → holds g frames page ≡ false
  not_held frames page none = bool_false (holds g frames page) (λ e. let w = holder frames page e in none w.frame w.below w.is)

  -- whether a search finds a frame
  pub some_holds : (frames : List ℕ) (page : ℕ) (found : Option ℕ) → IfSome found (λ f. (f < frame_count g frames) × (page_in g frames f ≡ page)) → (found ≡ None → (f : ℕ) → f < frame_count g frames → page_in g frames f ≢ page) → is_some found ≡ holds g frames page
  some_holds frames page (Some f) here missing = sym (holds_by frames f page here.0 here.1)
  some_holds frames page None here missing = sym (not_held frames page (missing refl))

  -- no more pages are held than there are
  pub held_most : (frames : List ℕ) → held g frames ≤ page_count g
  held_most frames = many_most (holds g frames) (page_count g)

  -- frames that keep their numbers keep what they hold
  pub keeps_numbers : (old new : List ℕ) → frame_count g new ≡ frame_count g old → ((f : ℕ) → f < frame_count g old → page_in g new f ≡ page_in g old f) → KeepsHeld g old new
  keeps_numbers old new same numbers page inside e =
      let w = holder old page e in holds_by new w.frame page (omega (arith, w.below, same)) (numbers w.frame w.below ∙ w.is)

  -- a frame that held no page may change
  pub keeps_but : (old new : List ℕ) (f : ℕ) → frame_count g new ≡ frame_count g old → page_count g ≤ page_in g old f → ((h : ℕ) → h ≢ f → page_in g new h ≡ page_in g old h) → KeepsHeld g old new
  keeps_but old new f same free others page inside e =
      let w = holder old page e in
      holds_by new w.frame page (omega (arith, w.below, same)) (others w.frame (λ at. omega (arith, inside, free, w.is, ap (page_in g old) at)) ∙ w.is)

  -- one frame may change, and the pages in the others stay
  pub keeps_others : (old new : List ℕ) (f : ℕ) → frame_count g new ≡ frame_count g old → ((h : ℕ) → h ≢ f → page_in g new h ≡ page_in g old h) → KeepsAllBut g (page_in g old f) old new
  keeps_others old new f same others page inside another e =
      let w = holder old page e in
      holds_by new w.frame page (omega (arith, w.below, same)) (others w.frame (λ at. another (sym w.is ∙ ap (page_in g old) at)) ∙ w.is)

  -- a failed program or erase gives up no page outside its range
  pub keeps_outside : (at count : ℕ) (old new : List ℕ) → frame_count g new ≡ frame_count g old → EachPage g (GivenUp g.page at count) old new → KeepsOutside g at count old new
  keeps_outside at count old new same each page inside outside e =
      let w = holder old page e in
      holds_by new w.frame page (omega (arith, w.below, same)) (⊎_elim
      (λ given. absurd (meets_not at count page (page_in g old w.frame) g.page w.is given.1 given.2 outside))
      (λ stays. ap number_of stays.0 ∙ w.is)
      (each.pages w.frame w.below (omega (arith, w.is, inside))))

  -- no page is held where all frames are free
  pub held_none : (frames : List ℕ) → ((f : ℕ) → f < frame_count g frames → page_in g frames f ≡ 65535) → held g frames ≡ 0
  held_none frames free = many_none (holds g frames) (page_count g) (λ page inside e. let w = holder frames page e in omega (arith, free w.frame w.below, w.is, inside, few_pages g))

module _ {D : Type 0} {nor : NorOf D} (g : Geometry) where
  -- no read
  pub few_none : (d : D) (frames : List ℕ) → FewReads nor g d frames d frames
  few_none d frames = record { few = λ many calm. omega arith }

  -- one after another
  pub few_then : {old mid new : D} {a b c : List ℕ} → length b ≡ length a → nor.faults old ≤ nor.faults mid → nor.faults mid ≤ nor.faults new → FewReads nor g old a mid b → FewReads nor g mid b new c → FewReads nor g old a new c
  few_then size first_faults second_faults first second = record {
    few = λ many calm.
        let one = first.few many (λ rose. calm (omega (arith, rose, second_faults))) in
        let two = second.few (omega (arith, many, count_same g _ _ size)) (λ rose. calm (omega (arith, rose, first_faults))) in
        omega (arith, one, two);
  }

  -- reads that rose not, where the held pages are kept
  pub few_kept : (old new : D) (a b : List ℕ) → nor.device_reads new ≤ nor.device_reads old → KeepsHeld g a b → FewReads nor g old a new b
  few_kept old new a b reads keeps = record { few = λ many calm. omega (arith, reads, many_more (holds g a) (holds g b) (page_count g) keeps) }

  -- a fault
  pub few_failed : (old new : D) (a b : List ℕ) → Rose (nor.faults old) (nor.faults new) → FewReads nor g old a new b
  few_failed old new a b rose = record { few = λ many calm. absurd (calm rose) }

  -- a read that got a page
  pub few_got : (old new : D) (a b : List ℕ) (page : ℕ) → page < page_count g → nor.device_reads new ≤ nor.device_reads old + 1 → (page_count g ≤ frame_count g a → KeepsHeld g a b) → holds g a page ≡ false → holds g b page ≡ true → FewReads nor g old a new b
  few_got old new a b page inside reads keeps was is = record { few = λ many calm. omega (arith, reads, many_one_more (holds g a) (holds g b) (page_count g) page (keeps many) inside was is) }

  -- with fewer frames than pages nothing is said
  pub few_frames : (old new : D) (a b : List ℕ) → frame_count g a < page_count g → FewReads nor g old a new b
  few_frames old new a b short = record { few = λ many calm. absurd (omega (arith, short, many)) }
