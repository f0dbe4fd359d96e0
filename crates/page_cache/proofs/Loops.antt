-- Loops over frames, and over the pages that a range of the device meets.
use Rattle.std.proofs.Common.{◌≡◌, ◌≢◌, ℕ, ◌+◌, ◌*◌, ◌<◌, ◌≤◌, ◌⊎◌, inl, inr, ⊎_elim, List, refl, sym, ◌∙◌, ap, subst, arith}
use Rattle.geometry.proofs.Bounds.{few_pages}
use Rattle.geometry.specs.declared.geometry.Geometry.{Geometry}
use Rattle.geometry.specs.Numbers.{page_count}
use Rattle.page_cache.specs.Frames.{frame_count, frame_at, number_of, page_in, used_to, IsFindable, SameHead, GoesWithProgram, GoesWithErase, GivenUp, LiesOutside, span_of, Follows, IsReady, EachFrame, EachPage, OnePage}
use Rattle.page_cache.specs.declared.frame.Event.{Event}
use Rattle.page_cache.specs.declared.frame.Event.TheVariants.{Program, Erase, Failure}
use Rattle.page_cache.proofs.Copies.{program_misses, erase_misses}
use Rattle.page_cache.proofs.Places.{same_or_not, lt_or_le}
use Rattle.page_cache.proofs.Findable.{findable_still}

-- the frames below n are changed
pub record Changed (g : Geometry) (R : List ℕ → List ℕ → Type 0) (old now : List ℕ) (n : ℕ) : Type 0 where
  pub done : (f : ℕ) → f < n → R (frame_at g old f) (frame_at g now f)
  pub rest : (f : ℕ) → n ≤ f → frame_at g now f ≡ frame_at g old f

module _ (g : Geometry) (R : List ℕ → List ℕ → Type 0) (old : List ℕ) where
  pub changed_none : Changed g R old old 0
  changed_none = record { done = λ f below. absurd (omega (arith, below)); rest = λ f above. refl }

  -- one more
  pub changed_more : (now new : List ℕ) (n : ℕ) → Changed g R old now n → R (frame_at g now n) (frame_at g new n) → ((h : ℕ) → h ≢ n → frame_at g new h ≡ frame_at g now h) → Changed g R old new (n + 1)
  changed_more now new n was here others = record {
    done = λ f below. ⊎_elim
        (λ e. subst (λ (h : ℕ). R (frame_at g old h) (frame_at g new h)) (sym e) (subst (λ (l : List ℕ). R l (frame_at g new n)) (was.rest n (omega arith)) here))
        (λ ne. subst (R (frame_at g old f)) (sym (others f ne)) (was.done f (omega (arith, below, ne))))
        (same_or_not f n);
    rest = λ f above. others f (λ e. omega (arith, e, above)) ∙ was.rest f (omega (arith, above));
  }

  pub changed_all : (now : List ℕ) (n : ℕ) → frame_count g old ≤ n → Changed g R old now n → EachFrame g R old now
  changed_all now n all was f below = was.done f (omega (arith, all, below))

-- the frames with pages below q are changed
pub record Followed (g : Geometry) (R : List ℕ → List ℕ → Type 0) (old now : List ℕ) (q : ℕ) : Type 0 where
  pub done : (f : ℕ) → f < frame_count g old → page_in g old f < page_count g → page_in g old f < q → R (frame_at g old f) (frame_at g now f)
  pub rest : (f : ℕ) → (page_in g old f < page_count g → q ≤ page_in g old f) → frame_at g now f ≡ frame_at g old f

-- what a change of a frame leaves of its number, and of what it tells
pub record Steady (R : List ℕ → List ℕ → Type 0) : Type 0 where
  pub number : (a b : List ℕ) → R a b → (number_of b ≡ number_of a) ⊎ (number_of b ≡ 65535)
  pub head : (a b : List ℕ) → R a b → SameHead a b

module _ (g : Geometry) (R : List ℕ → List ℕ → Type 0) (steady : Steady R) (old : List ℕ) where
  pub followed_none : (q : ℕ) → ((f : ℕ) → f < frame_count g old → page_in g old f < q → R (frame_at g old f) (frame_at g old f)) → Followed g R old old q
  followed_none q apart = record { done = λ f below used under. apart f below under; rest = λ f above. refl }

  pub followed_more : (now new : List ℕ) (q : ℕ) → frame_count g now ≡ frame_count g old → q < page_count g → Followed g R old now q → OnePage g R q now new → Followed g R old new (q + 1)
  followed_more now new q same small was one = record {
    done = λ f below used under. ⊎_elim
        (λ e. let before = was.rest f (λ used. omega (arith, e)) in
        subst (λ (l : List ℕ). R l (frame_at g new f)) before (one.here f (omega (arith, below, same)) (ap number_of before ∙ e)))
        (λ ne. let made = was.done f below used (omega (arith, under, ne)) in
        subst (R (frame_at g old f)) (sym (one.others f (⊎_elim (λ e at. ne (sym e ∙ at)) (λ free at. omega (arith, free, at, small, few_pages g)) (steady.number _ _ made)))) made)
        (same_or_not (page_in g old f) q);
    rest = λ f above.
        let before = was.rest f (λ used. omega (arith, above used)) in
        one.others f (λ at. let e : page_in g old f ≡ q = sym (ap number_of before) ∙ at in omega (arith, e, above (omega (arith, e, small)))) ∙ before;
  }

  pub followed_all : (now : List ℕ) (q end : ℕ) → end ≤ q → ((f : ℕ) → f < frame_count g old → page_in g old f < page_count g → end ≤ page_in g old f → R (frame_at g old f) (frame_at g old f)) → Followed g R old now q → EachPage g R old now
  followed_all now q end behind apart was = record {
    pages = λ f below used. ⊎_elim
        (λ under. was.done f below used under)
        (λ above. subst (R (frame_at g old f)) (sym (was.rest f (λ u. above))) (apart f below used (omega (arith, behind, above))))
        (lt_or_le (page_in g old f) q);
    rest = λ f unused. was.rest f (λ used. omega (arith, unused, used));
  }

  -- meanwhile pages are found
  pub followed_findable : (now : List ℕ) (q : ℕ) → frame_count g now ≡ frame_count g old → 0 < frame_count g old → (used_to g old ≡ 0) ⊎ ((a b : List ℕ) → R a b → number_of b ≡ number_of a) → Followed g R old now q → IsFindable g old → IsFindable g now
  followed_findable now q same some strict was findable =
      let each : (f : ℕ) → f < frame_count g old → R (frame_at g old f) (frame_at g now f) ⊎ (frame_at g now f ≡ frame_at g old f) = λ f below. ⊎_elim
      (λ used. ⊎_elim (λ under. inl (was.done f below used under)) (λ above. inr (was.rest f (λ u. above))) (lt_or_le (page_in g old f) q))
      (λ unused. inr (was.rest f (λ used. omega (arith, used, unused)))) (lt_or_le (page_in g old f) (page_count g)) in
      let heads : (f : ℕ) → f < frame_count g old → SameHead (frame_at g old f) (frame_at g now f) = λ f below. ⊎_elim
      (λ made. steady.head _ _ made) (λ same. subst (SameHead (frame_at g old f)) (sym same) (record { since = refl; until = refl; used = refl })) (each f below) in
      findable_still g old now same
      (λ f below. ⊎_elim (λ made. steady.number _ _ made) (λ same. inl (ap number_of same)) (each f below))
      (λ h below x low high. (omega (arith, (heads h below).since, low), omega (arith, (heads h below).until, high)))
      (λ f under below. ⊎_elim
      (λ none. absurd (omega (arith, under, none, (heads 0 some).used)))
      (λ strict. ⊎_elim
      (λ made. omega (arith, strict _ _ made, findable.used f (omega (arith, under, (heads 0 some).used)) below))
      (λ same. omega (arith, ap number_of same, findable.used f (omega (arith, under, (heads 0 some).used)) below))
      (each f below))
      strict)
      findable

  -- .. and in the end
  pub each_findable : (now : List ℕ) → frame_count g now ≡ frame_count g old → 0 < frame_count g old → (used_to g old ≡ 0) ⊎ ((a b : List ℕ) → R a b → number_of b ≡ number_of a) → EachPage g R old now → IsFindable g old → IsFindable g now
  each_findable now same some strict each findable = followed_findable now (page_count g) same some strict
      (record {
        done = λ f below used under. each.pages f below used;
        rest = λ f above. each.rest f (⊎_elim (λ used. above used) (λ unused. unused) (lt_or_le (page_in g old f) (page_count g)));
      })
      findable

-- a program, an erase and a giving up leave what a frame tells
pub program_steady : (page at : ℕ) (from : List ℕ) → Steady (GoesWithProgram page at from)
program_steady page at from = record { number = λ a b r. inl r.number; head = λ a b r. r.head }

pub erase_steady : (page at count : ℕ) → Steady (GoesWithErase page at count)
erase_steady page at count = record { number = λ a b r. inl r.number; head = λ a b r. r.head }

pub given_steady : (page at count : ℕ) → Steady (GivenUp page at count)
given_steady page at count = record {
  number = λ a b r. ⊎_elim (λ given. inr given.0) (λ stays. inl (ap number_of stays.0)) r;
  head = λ a b r. ⊎_elim (λ given. given.3) (λ stays. subst (SameHead a) (sym stays.0) (record { since = refl; until = refl; used = refl })) r;
}

-- an event leaves what a frame tells,
pub follows_steady : (page at : ℕ) (event : Event) → Steady (Follows page at event)
follows_steady page at (Program from) = program_steady page at from.now
follows_steady page at (Erase count) = erase_steady page at count
follows_steady page at (Failure count) = given_steady page at count

-- and its number too, where it gives up no frame
pub follows_strict : (g : Geometry) (at : ℕ) (event : Event) (frames : List ℕ) → IsReady g event frames → (used_to g frames ≡ 0) ⊎ ((a b : List ℕ) → Follows g.page at event a b → number_of b ≡ number_of a)
follows_strict g at (Program from) frames ready = inr (λ a b r. r.number)
follows_strict g at (Erase count) frames ready = inr (λ a b r. r.number)
follows_strict g at (Failure count) frames ready = inl ready

-- a frame whose page it doesn't meet stays
pub follows_misses : (page at : ℕ) (event : Event) (old : List ℕ) → LiesOutside page at (span_of event) (number_of old) → Follows page at event old old
follows_misses page at (Program from) old apart = program_misses page at (number_of old * page) from.now old refl (⊎_elim (λ before. omega (arith, before)) (λ behind. omega (arith, behind)) apart)
follows_misses page at (Erase count) old apart = erase_misses page at count (number_of old * page) old refl (⊎_elim (λ before. omega (arith, before)) (λ behind. omega (arith, behind)) apart)
follows_misses page at (Failure count) old apart = inr (refl, apart)

-- the one frame of a page is changed
module _ (g : Geometry) (R : List ℕ → List ℕ → Type 0) (page : ℕ) (a : List ℕ) where
  pub one_page : (b : List ℕ) (f : ℕ) → page < page_count g → f < frame_count g a → page_in g a f ≡ page → IsFindable g a → R (frame_at g a f) (frame_at g b f) → ((h : ℕ) → h ≢ f → frame_at g b h ≡ frame_at g a h) → OnePage g R page a b
  one_page b f small below is findable here others = record {
    here = λ h below_h is_h. subst (λ (k : ℕ). R (frame_at g a k) (frame_at g b k)) (findable.one f h below below_h (omega (arith, is, small)) (is ∙ sym is_h)) here;
    others = λ h other. others h (λ e. other (ap (page_in g a) e ∙ is));
  }

  pub none_page : ((h : ℕ) → h < frame_count g a → page_in g a h ≢ page) → OnePage g R page a a
  none_page missing = record { here = λ h below is. absurd (missing h below is); others = λ h other. refl }
