-- Pages that are found where they are looked for.
use Rattle.std.proofs.Common.{◌≡◌, ◌≢◌, ℕ, ◌%◌, ◌<◌, ◌≤◌, ◌⊎◌, inl, inr, ⊎_elim, List, refl, sym, ◌∙◌, ap, subst, arith}
use Rattle.std.proofs.Math.Nat.{mod-lt, mod-eq_of_lt}
use Rattle.std.specs.Prelude.{slice_index}
use Rattle.geometry.proofs.Bounds.{few_pages}
use Rattle.geometry.specs.declared.geometry.Geometry.{Geometry}
use Rattle.geometry.specs.Numbers.{page_count}
use Rattle.page_cache.specs.Frames.{frame_count, frame_at, number_of, word_in, page_in, home_of, since_of, until_of, used_to, IsPlaced, IsNear, IsFindable, SameHead, SameCopy, AreSameCopies, Widened, Bounded, IsFree, EachFrame}
use Rattle.page_cache.proofs.Places.{same_or_not}

-- a home lies below the number of frames
pub home_below : (g : Geometry) (frames : List ℕ) (page f : ℕ) → f < frame_count g frames → home_of g frames page < frame_count g frames
home_below g frames page f below = mod-lt page (omega (arith, below))

-- frames that keep their numbers, or become free, stay in their places
placed_still : (g : Geometry) (a b : List ℕ) → frame_count g b ≡ frame_count g a → IsPlaced g a → ((f : ℕ) → f < frame_count g a → (page_in g b f ≡ page_in g a f) ⊎ (page_in g b f ≡ 65535)) → IsPlaced g b
placed_still g a b same placed numbers many f below used = ⊎_elim
    (λ e. e ∙ placed (omega (arith, many, same)) f (omega (arith, below, same)) (omega (arith, e, used)))
    (λ free. absurd (omega (arith, free, used, few_pages g)))
    (numbers f (omega (arith, below, same)))

module _ (g : Geometry) (a b : List ℕ) (same : frame_count g b ≡ frame_count g a) where
  home_same : (page : ℕ) → home_of g b page ≡ home_of g a page
  home_same page = ap (λ (n : ℕ). page % n) same

  -- what was near is near, where the homes tell no fewer frames
  near_still : ((h : ℕ) → h < frame_count g a → (x : ℕ) → since_of g a h ≤ x → x < until_of g a h → (since_of g b h ≤ x) × (x < until_of g b h)) → (page f : ℕ) → f < frame_count g a → IsNear g a page f → IsNear g b page f
  near_still wider page f below near away =
      let r = near (λ e. away (e ∙ sym (home_same page))) in
      subst (λ (h : ℕ). (since_of g b h ≤ f) × (f < until_of g b h)) (sym (home_same page)) (wider (home_of g a page) (home_below g a page f below) f r.0 r.1)

  -- frames that keep their numbers, or become free, where the homes tell no fewer frames
  pub findable_still : ((f : ℕ) → f < frame_count g a → (page_in g b f ≡ page_in g a f) ⊎ (page_in g b f ≡ 65535))
      → ((h : ℕ) → h < frame_count g a → (x : ℕ) → since_of g a h ≤ x → x < until_of g a h → (since_of g b h ≤ x) × (x < until_of g b h))
      → ((f : ℕ) → f < used_to g b → f < frame_count g a → page_in g b f < page_count g) → IsFindable g a → IsFindable g b
  findable_still numbers wider bound findable =
      let was : (f : ℕ) → f < frame_count g a → page_in g b f < page_count g → page_in g b f ≡ page_in g a f = λ f below used. ⊎_elim (λ e. e) (λ free. absurd (omega (arith, free, used, few_pages g))) (numbers f below) in
      record {
        placed = λ many f below used. let e = was f (omega (arith, below, same)) used in e ∙ findable.placed (omega (arith, many, same)) f (omega (arith, below, same)) (omega (arith, e, used));
        near = λ f below used. let e = was f (omega (arith, below, same)) used in
            subst (λ (p : ℕ). IsNear g b p f) (sym e) (near_still wider (page_in g a f) f (omega (arith, below, same)) (findable.near f (omega (arith, below, same)) (omega (arith, e, used))));
        one = λ f h below_f below_h used e. let first = was f (omega (arith, below_f, same)) used in let second = was h (omega (arith, below_h, same)) (omega (arith, used, e)) in
            findable.one f h (omega (arith, below_f, same)) (omega (arith, below_h, same)) (omega (arith, first, used)) (sym first ∙ e ∙ second);
        used = λ f under below. bound f under (omega (arith, below, same));
      }

  -- one frame gets a page that none held
  pub findable_loaded : (f page : ℕ) → ((h : ℕ) → h ≢ f → frame_at g b h ≡ frame_at g a h) → SameHead (frame_at g a f) (frame_at g b f) → page_in g b f ≡ page → page < page_count g → f < frame_count g a → IsNear g a page f
      → ((h : ℕ) → h < frame_count g a → page_in g a h ≢ page) → (page_count g ≤ frame_count g a → f ≡ page) → IsFindable g a → IsFindable g b
  findable_loaded f page others head number small here near missing place findable =
      let word2 : (h : ℕ) → since_of g b h ≡ since_of g a h = λ h. ⊎_elim (λ e. subst (λ (k : ℕ). since_of g b k ≡ since_of g a k) (sym e) head.since) (λ ne. ap (λ (l : List ℕ). word_in l 2) (others h ne)) (same_or_not h f) in
      let word4 : (h : ℕ) → until_of g b h ≡ until_of g a h = λ h. ⊎_elim (λ e. subst (λ (k : ℕ). until_of g b k ≡ until_of g a k) (sym e) head.until) (λ ne. ap (λ (l : List ℕ). word_in l 4) (others h ne)) (same_or_not h f) in
      let word6 : used_to g b ≡ used_to g a = ⊎_elim (λ (e : 0 ≡ f). subst (λ (k : ℕ). word_in (frame_at g b k) 6 ≡ word_in (frame_at g a k) 6) (sym e) head.used) (λ ne. ap (λ (l : List ℕ). word_in l 6) (others 0 ne)) (same_or_not 0 f) in
      let wider : (h : ℕ) → h < frame_count g a → (x : ℕ) → since_of g a h ≤ x → x < until_of g a h → (since_of g b h ≤ x) × (x < until_of g b h) = λ h below x low high. (omega (arith, word2 h, low), omega (arith, word4 h, high)) in
      let rest : (h : ℕ) → h ≢ f → page_in g b h ≡ page_in g a h = λ h ne. ap number_of (others h ne) in
      let at : (h : ℕ) → h ≡ f → page_in g b h ≡ page = λ h e. ap (page_in g b) e ∙ number in
      record {
        placed = λ many h below used. ⊎_elim
            (λ e. at h e ∙ sym (place (omega (arith, many, same))) ∙ sym e)
            (λ ne. rest h ne ∙ findable.placed (omega (arith, many, same)) h (omega (arith, below, same)) (omega (arith, rest h ne, used)))
            (same_or_not h f);
        near = λ h below used. ⊎_elim
            (λ e. subst (λ (k : ℕ). IsNear g b (page_in g b h) k) (sym e) (subst (λ (p : ℕ). IsNear g b p f) (sym (at h e)) (near_still wider page f here near)))
            (λ ne. subst (λ (p : ℕ). IsNear g b p h) (sym (rest h ne)) (near_still wider (page_in g a h) h (omega (arith, below, same)) (findable.near h (omega (arith, below, same)) (omega (arith, rest h ne, used)))))
            (same_or_not h f);
        one = λ h k below_h below_k used e. ⊎_elim
            (λ e_h. ⊎_elim (λ e_k. e_h ∙ sym e_k) (λ ne_k. absurd (missing k (omega (arith, below_k, same)) (sym (rest k ne_k) ∙ sym e ∙ at h e_h))) (same_or_not k f))
            (λ ne_h. ⊎_elim (λ e_k. absurd (missing h (omega (arith, below_h, same)) (sym (rest h ne_h) ∙ e ∙ at k e_k)))
            (λ ne_k. findable.one h k (omega (arith, below_h, same)) (omega (arith, below_k, same)) (omega (arith, rest h ne_h, used)) (sym (rest h ne_h) ∙ e ∙ rest k ne_k))
            (same_or_not k f))
            (same_or_not h f);
        used = λ h under below. ⊎_elim
            (λ e. omega (arith, at h e, small))
            (λ ne. omega (arith, rest h ne, findable.used h (omega (arith, under, word6)) (omega (arith, below, same))))
            (same_or_not h f);
      }

  -- a home tells of one more frame
  pub findable_widened : (home stray : ℕ) → Widened stray (frame_at g a home) (frame_at g b home) → ((h : ℕ) → h ≢ home → frame_at g b h ≡ frame_at g a h) → IsFindable g a → IsFindable g b
  findable_widened home stray widened others findable =
      let numbers : (f : ℕ) → page_in g b f ≡ page_in g a f = λ f. ⊎_elim (λ e. subst (λ (k : ℕ). page_in g b k ≡ page_in g a k) (sym e) widened.copy.number) (λ ne. ap number_of (others f ne)) (same_or_not f home) in
      let word6 : used_to g b ≡ used_to g a = ⊎_elim (λ (e : 0 ≡ home). subst (λ (k : ℕ). word_in (frame_at g b k) 6 ≡ word_in (frame_at g a k) 6) (sym e) widened.used) (λ ne. ap (λ (l : List ℕ). word_in l 6) (others 0 ne)) (same_or_not 0 home) in
      findable_still (λ f below. inl (numbers f))
      (λ h below x low high. ⊎_elim
      (λ e. subst (λ (k : ℕ). (since_of g b k ≤ x) × (x < until_of g b k)) (sym e) (widened.wider x (subst (λ (k : ℕ). since_of g a k ≤ x) e low) (subst (λ (k : ℕ). x < until_of g a k) e high)))
      (λ ne. (omega (arith, ap (λ (l : List ℕ). word_in l 2) (others h ne), low), omega (arith, ap (λ (l : List ℕ). word_in l 4) (others h ne), high)))
      (same_or_not h home))
      (λ f under below. omega (arith, numbers f, findable.used f (omega (arith, under, word6)) below))
      findable

  -- what is known of free frames is another
  pub bounded_number : (count : ℕ) → Bounded count (frame_at g a 0) (frame_at g b 0) → ((h : ℕ) → h ≢ 0 → frame_at g b h ≡ frame_at g a h) → AreSameCopies g a b
  bounded_number count bounded others f = ⊎_elim
      (λ e. subst (λ (k : ℕ). SameCopy (frame_at g a k) (frame_at g b k)) (sym e) bounded.copy)
      (λ ne. subst (SameCopy (frame_at g a f)) (sym (others f ne)) (record { number = refl; bytes = λ k above. refl }))
      (same_or_not f 0)

  pub findable_bounded : (count : ℕ) → Bounded count (frame_at g a 0) (frame_at g b 0) → ((h : ℕ) → h ≢ 0 → frame_at g b h ≡ frame_at g a h) → ((f : ℕ) → f < count → f < frame_count g a → page_in g a f < page_count g) → IsFindable g a → IsFindable g b
  findable_bounded count bounded others used findable = findable_still
      (λ f below. inl (bounded_number count bounded others f).number)
      (λ h below x low high. ⊎_elim
      (λ e. (omega (arith, subst (λ (k : ℕ). since_of g b k ≡ since_of g a k) (sym e) bounded.since, low), omega (arith, subst (λ (k : ℕ). until_of g b k ≡ until_of g a k) (sym e) bounded.until, high)))
      (λ ne. (omega (arith, ap (λ (l : List ℕ). word_in l 2) (others h ne), low), omega (arith, ap (λ (l : List ℕ). word_in l 4) (others h ne), high)))
      (same_or_not h 0))
      (λ f under below. omega (arith, (bounded_number count bounded others f).number, used f (omega (arith, under, bounded.used)) below))
      findable

-- a free frame for a page whose home tells of it
pub widened_near : (g : Geometry) (b : List ℕ) (page home stray : ℕ) (old : List ℕ) → home ≡ home_of g b page → Widened stray old (frame_at g b home) → IsNear g b page stray
widened_near g b page home stray old is widened away = subst (λ (h : ℕ). (since_of g b h ≤ stray) × (stray < until_of g b h)) is (widened.low, widened.high)

pub widened_copies : (g : Geometry) (a b : List ℕ) (home stray : ℕ) → Widened stray (frame_at g a home) (frame_at g b home) → ((h : ℕ) → h ≢ home → frame_at g b h ≡ frame_at g a h) → AreSameCopies g a b
widened_copies g a b home stray widened others f = ⊎_elim
    (λ e. subst (λ (k : ℕ). SameCopy (frame_at g a k) (frame_at g b k)) (sym e) widened.copy)
    (λ ne. subst (SameCopy (frame_at g a f)) (sym (others f ne)) (record { number = refl; bytes = λ k above. refl }))
    (same_or_not f home)

pub copies_same : (g : Geometry) (a : List ℕ) → AreSameCopies g a a
copies_same g a f = record { number = refl; bytes = λ k above. refl }

pub copies_then : (g : Geometry) (a b c : List ℕ) → AreSameCopies g a b → AreSameCopies g b c → AreSameCopies g a c
copies_then g a b c first second f = record { number = (second f).number ∙ (first f).number; bytes = λ k above. (second f).bytes k above ∙ (first f).bytes k above }

-- free frames hold no page, wherever it is looked for
pub findable_free : (g : Geometry) (a b : List ℕ) → frame_count g b ≡ frame_count g a → EachFrame g IsFree a b → IsFindable g b
findable_free g a b same free =
    let no : (f : ℕ) → f < frame_count g b → page_in g b f < page_count g → ⊥ = λ f below used. omega (arith, (free f (omega (arith, below, same))).0, used, few_pages g) in
    record {
      placed = λ many f below used. absurd (no f below used);
      near = λ f below used. absurd (no f below used);
      one = λ f h below_f below_h used e. absurd (no f below_f used);
      used = λ f under below. absurd (omega (arith, under, (free 0 (omega (arith, below, same))).1));
    }

-- a frame became free, and nothing is told any more of which frames aren't
module _ (g : Geometry) (a b c : List ℕ) (first : frame_count g b ≡ frame_count g a) (second : frame_count g c ≡ frame_count g b) (f : ℕ)
    (others : (h : ℕ) → h ≢ f → frame_at g b h ≡ frame_at g a h) (head : SameHead (frame_at g a f) (frame_at g b f)) (free : page_in g b f ≡ 65535)
    (bounded : Bounded 0 (frame_at g b 0) (frame_at g c 0)) (rest : (h : ℕ) → h ≢ 0 → frame_at g c h ≡ frame_at g b h) where
  copies : AreSameCopies g b c
  copies = bounded_number g b c second 0 bounded rest

  pub lost_free : page_in g c f ≡ 65535
  lost_free = (copies f).number ∙ free

  pub lost_number : (h : ℕ) → h ≢ f → page_in g c h ≡ page_in g a h
  lost_number h ne = (copies h).number ∙ ap number_of (others h ne)

  pub lost_bytes : (h k : ℕ) → h ≢ f → 8 ≤ k → slice_index (frame_at g c h) k ≡ slice_index (frame_at g a h) k
  lost_bytes h k ne above = (copies h).bytes k above ∙ ap (λ (l : List ℕ). slice_index l k) (others h ne)

  since_stays : (h : ℕ) → since_of g c h ≡ since_of g a h
  since_stays h =
      let one : since_of g c h ≡ since_of g b h = ⊎_elim (λ e. subst (λ (k : ℕ). since_of g c k ≡ since_of g b k) (sym e) bounded.since) (λ ne. ap (λ (l : List ℕ). word_in l 2) (rest h ne)) (same_or_not h 0) in
      let two : since_of g b h ≡ since_of g a h = ⊎_elim (λ e. subst (λ (k : ℕ). since_of g b k ≡ since_of g a k) (sym e) head.since) (λ ne. ap (λ (l : List ℕ). word_in l 2) (others h ne)) (same_or_not h f) in
      one ∙ two

  until_stays : (h : ℕ) → until_of g c h ≡ until_of g a h
  until_stays h =
      let one : until_of g c h ≡ until_of g b h = ⊎_elim (λ e. subst (λ (k : ℕ). until_of g c k ≡ until_of g b k) (sym e) bounded.until) (λ ne. ap (λ (l : List ℕ). word_in l 4) (rest h ne)) (same_or_not h 0) in
      let two : until_of g b h ≡ until_of g a h = ⊎_elim (λ e. subst (λ (k : ℕ). until_of g b k ≡ until_of g a k) (sym e) head.until) (λ ne. ap (λ (l : List ℕ). word_in l 4) (others h ne)) (same_or_not h f) in
      one ∙ two

  pub lost_findable : IsFindable g a → IsFindable g c
  lost_findable findable = findable_still g a c (second ∙ first)
      (λ h below. ⊎_elim (λ e. inr (ap (page_in g c) e ∙ lost_free)) (λ ne. inl (lost_number h ne)) (same_or_not h f))
      (λ h below x low high. (omega (arith, since_stays h, low), omega (arith, until_stays h, high)))
      (λ h under below. absurd (omega (arith, under, bounded.used)))
      findable

-- a page is in no frame if it isn't where it is looked for
pub missing_near : (g : Geometry) (frames : List ℕ) (page home since until : ℕ) → page < page_count g → IsFindable g frames → home ≡ home_of g frames page → page_in g frames home ≢ page
    → since ≡ since_of g frames home → until ≡ until_of g frames home → ((f : ℕ) → f < frame_count g frames → since ≤ f → f < until → page_in g frames f ≢ page) → (f : ℕ) → f < frame_count g frames → page_in g frames f ≢ page
missing_near g frames page home since until small findable home_is other since_is until_is none f below is =
    let near = subst (λ (p : ℕ). IsNear g frames p f) is (findable.near f below (omega (arith, is, small))) in
    ⊎_elim
    (λ e. other (ap (page_in g frames) (home_is ∙ sym e) ∙ is))
    (λ away. let r = near away in none f below (omega (arith, since_is, subst (λ (h : ℕ). since_of g frames h ≤ f) (sym home_is) r.0)) (omega (arith, until_is, subst (λ (h : ℕ). f < until_of g frames h) (sym home_is) r.1)) is)
    (same_or_not f (home_of g frames page))

-- with a frame for each page, the home of a page that none holds is free
pub home_free : (g : Geometry) (frames : List ℕ) (page home : ℕ) → page < page_count g → IsFindable g frames → ((f : ℕ) → f < frame_count g frames → page_in g frames f ≢ page) → home ≡ home_of g frames page → page_count g ≤ frame_count g frames
    → (home ≡ page) × (page_in g frames home < page_count g → ⊥)
home_free g frames page home small findable missing home_is many =
    let own : home_of g frames page ≡ page = mod-eq_of_lt (omega (arith, small, many)) in
    let at : home ≡ page = home_is ∙ own in
    (at, λ used. missing home (omega (arith, at, small, many)) (findable.placed many home (omega (arith, at, small, many)) used ∙ at))
