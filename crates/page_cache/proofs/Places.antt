-- Where frames lie, and what a write into one of them leaves.
use Rattle.std.proofs.Common.{◌≡◌, ◌≢◌, ℕ, zero, suc, ◌+◌, ◌-◌, ◌*◌, ◌/◌, ◌<◌, ◌≤◌, ◌⊎◌, inl, inr, ⊎_elim, List, length, get_or, min, drop, slice_range, refl, sym, ◌∙◌, ap, subst, arith, length-drop}
use Rattle.std.proofs.Math.Nat.{mul-le-mul_right, div-mul-le_self, le-div_iff_mul-le}
use Rattle.std.proofs.lemmas.Slice.{between-put_mid}
use Rattle.std.proofs.lemmas.List.{length-take, get_or-take, get_or-drop, same_lists}
use Rattle.std.proofs.lemmas.Grind.{common_steps, get_or_default_zero}
use Rattle.geometry.proofs.Bounds.{few_pages}
use Rattle.geometry.specs.declared.geometry.Geometry.{Geometry}
use Rattle.geometry.specs.Numbers.{page_count, cache_need}
use Rattle.page_cache.specs.Frames.{frame_size, frame_count, frame_at}
use borrow.Rule.Slice.PartMut.{put_mid}

pub same_or_not : (a b : ℕ) → (a ≡ b) ⊎ (a ≢ b)
same_or_not zero zero = inl refl
same_or_not zero (suc b) = inr (λ e. omega (arith, e))
same_or_not (suc a) zero = inr (λ e. omega (arith, e))
same_or_not (suc a) (suc b) = ⊎_elim (λ e. inl (ap suc e)) (λ ne. inr (λ e. ne (omega (arith, e)))) (same_or_not a b)

pub lt_or_le : (a b : ℕ) → (a < b) ⊎ (b ≤ a)
lt_or_le zero zero = inr (omega arith)
lt_or_le zero (suc b) = inl (omega arith)
lt_or_le (suc a) zero = inr (omega arith)
lt_or_le (suc a) (suc b) = ⊎_elim (λ h. inl (omega (arith, h))) (λ h. inr (omega (arith, h))) (lt_or_le a b)

-- a frame lies inside the bytes
pub frame_inside : (g : Geometry) (frames : List ℕ) (f : ℕ) → f < frame_count g frames → f * frame_size g + frame_size g ≤ length frames
unfolding frame_count
frame_inside g frames f below =
    let next : f + 1 ≤ length frames / frame_size g = omega arith in
    omega (arith, mul-le-mul_right (frame_size g) next, div-mul-le_self (length frames) (frame_size g))

-- different frames lie apart
pub apart : (size f h : ℕ) → h ≢ f → (h * size + size ≤ f * size) ⊎ (f * size + size ≤ h * size)
apart size f h ne = ⊎_elim (λ below. inl (omega (arith, mul-le-mul_right size below))) (λ above. inr (omega (arith, mul-le-mul_right size above))) (which f h ne)
  where
    which : (f h : ℕ) → h ≢ f → (h + 1 ≤ f) ⊎ (f + 1 ≤ h)
    which zero zero ne = absurd (ne refl)
    which zero (suc h) ne = inr (omega arith)
    which (suc f) zero ne = inl (omega arith)
    which (suc f) (suc h) ne = ⊎_elim (λ a. inl (omega (arith, a))) (λ b. inr (omega (arith, b))) (which f h (λ e. ne (ap suc e)))

-- what a write of a part leaves
module _ (xs ys : List ℕ) (a n : ℕ) (inside : a + n ≤ length xs) (size : length ys ≡ n) where
  pub put_length : length (put_mid a n xs ys) ≡ length xs
  put_length = grind (arith, common_steps)

  pub put_before : (k : ℕ) → k < a → get_or (put_mid a n xs ys) k 0 ≡ get_or xs k 0
  put_before k below = grind (arith, common_steps)

  pub put_after : (k : ℕ) → a + n ≤ k → get_or (put_mid a n xs ys) k 0 ≡ get_or xs k 0
  put_after k above = grind (arith, common_steps)

  pub put_inside : (k : ℕ) → k < n → get_or (put_mid a n xs ys) (a + k) 0 ≡ get_or ys k 0
  put_inside k below = grind (arith, common_steps)

-- a range of two lists with the same bytes there
pub range_stays : (old new : List ℕ) (a b : ℕ) → length new ≡ length old → ((k : ℕ) → a ≤ k → k < b → get_or new k 0 ≡ get_or old k 0) → slice_range new a b ≡ slice_range old a b
range_stays old new a b size same = same_lists (slice_range new a b) (slice_range old a b)
    (length-take (b - a) (drop a new) ∙ ap (λ (n : ℕ). min (b - a) n) (length-drop a new ∙ ap (λ (n : ℕ). n - a) size ∙ sym (length-drop a old)) ∙ sym (length-take (b - a) (drop a old)))
    (λ k d below.
    let inside : k < b - a = omega (arith, below, length-take (b - a) (drop a new)) in
    let there : a + k < length new = omega (arith, below, length-take (b - a) (drop a new), length-drop a new) in
    let there_old : a + k < length old = omega (arith, there, size) in
    get_or-take (b - a) (drop a new) k d inside ∙ get_or-drop a new k d ∙ get_or_default_zero new (a + k) d there ∙ same (a + k) (omega arith) (omega (arith, inside))
    ∙ sym (get_or_default_zero old (a + k) d there_old) ∙ sym (get_or-drop a old k d) ∙ sym (get_or-take (b - a) (drop a old) k d inside))

-- how long a range is
pub range_length : (xs : List ℕ) (a b : ℕ) → (a ≤ b) × (b ≤ length xs) → length (slice_range xs a b) ≡ b - a
range_length xs a b inside = omega (arith, inside.0, inside.1, length-take (b - a) (drop a xs), length-drop a xs)

pub part_length : (xs : List ℕ) (a n : ℕ) → a + n ≤ length xs → length (slice_range xs a (a + n)) ≡ n
part_length xs a n inside = omega (arith, inside, length-take (a + n - a) (drop a xs), length-drop a xs)

-- a byte of a range
pub range_byte : (xs : List ℕ) (a b k : ℕ) → a + k < b → get_or (slice_range xs a b) k 0 ≡ get_or xs (a + k) 0
range_byte xs a b k inside = get_or-take (b - a) (drop a xs) k 0 (omega arith) ∙ get_or-drop a xs k 0

module _ (g : Geometry) where
  -- what a frame becomes by a write of all of it
  pub put_here : (frames new : List ℕ) (f start end : ℕ) → start ≡ f * frame_size g → end ≡ start + frame_size g → end ≤ length frames → length new ≡ frame_size g →
      frame_at g (put_mid start (end - start) frames new) f ≡ new
  unfolding frame_at
  put_here frames new f start end start_is end_is inside size =
      let e : f * frame_size g + frame_size g ≡ end = omega (arith, start_is, end_is) in
      rw (← start_is, ← end_is) (between-put_mid start (end - start) frames new end (omega (arith, inside, end_is)) (omega (arith, size, end_is)))

  pub put_made : (R : List ℕ → List ℕ → Type 0) (frames new : List ℕ) (f start end : ℕ) → start ≡ f * frame_size g → end ≡ start + frame_size g → end ≤ length frames → length new ≡ frame_size g →
      R (slice_range frames start end) new → R (frame_at g frames f) (frame_at g (put_mid start (end - start) frames new) f)
  unfolding frame_at
  put_made R frames new f start end start_is end_is inside size made =
      subst (R (frame_at g frames f)) (sym (put_here frames new f start end start_is end_is inside size))
      (let e : frame_at g frames f ≡ slice_range frames start end = rw (← start_is, ← end_is) refl in subst (λ (l : List ℕ). R l new) (sym e) made)

  -- the others stay
  pub put_there : (frames new : List ℕ) (f start end : ℕ) → start ≡ f * frame_size g → end ≡ start + frame_size g → end ≤ length frames → length new ≡ frame_size g →
      (h : ℕ) → h ≢ f → frame_at g (put_mid start (end - start) frames new) h ≡ frame_at g frames h
  unfolding frame_at
  put_there frames new f start end start_is end_is inside size h ne =
      let now = put_mid start (end - start) frames new in
      let size_is : length now ≡ length frames = put_length frames new start (end - start) (omega (arith, inside, end_is)) (omega (arith, size, end_is)) in
      let far = apart (frame_size g) f h ne in
      range_stays frames now (h * frame_size g) (h * frame_size g + frame_size g) size_is
      (λ k low high. ⊎_elim
      (λ below. put_before frames new start (end - start) (omega (arith, inside, end_is)) (omega (arith, size, end_is)) k (omega (arith, below, high, start_is)))
      (λ above. put_after frames new start (end - start) (omega (arith, inside, end_is)) (omega (arith, size, end_is)) k (omega (arith, above, low, start_is, end_is)))
      far)

-- as many frames where the bytes are as many
pub count_same : (g : Geometry) (old new : List ℕ) → length new ≡ length old → frame_count g new ≡ frame_count g old
unfolding frame_count
count_same g old new size = ap (λ (n : ℕ). min (n / frame_size g) 65535) size

-- there is a frame
pub some_frames : (g : Geometry) (frames : List ℕ) → cache_need g ≤ length frames → 0 < frame_count g frames
unfolding frame_count
some_frames g frames need =
    let one : 1 ≤ length frames / frame_size g = (le-div_iff_mul-le {k = frame_size g} {x = 1} {y = length frames} (omega arith)).1 (omega (arith, need)) in
    omega (arith, one)

-- no more frames than a number of two bytes tells
pub count_most : (g : Geometry) (frames : List ℕ) → frame_count g frames ≤ 65535
unfolding frame_count
count_most g frames = omega arith

-- with so many bytes there is a frame of a page's number
pub frame_there : (g : Geometry) (frames : List ℕ) (page : ℕ) → page < page_count g → (page + 1) * frame_size g ≤ length frames → page < frame_count g frames
unfolding frame_count
frame_there g frames page small long =
    let some : page + 1 ≤ length frames / frame_size g = (le-div_iff_mul-le {k = frame_size g} {x = page + 1} {y = length frames} (omega arith)).1 long in
    omega (arith, some, small, few_pages g)

-- with so many bytes there is a frame for each page
pub all_frames : (g : Geometry) (frames : List ℕ) → frame_size g * page_count g ≤ length frames → page_count g ≤ frame_count g frames
unfolding frame_count
all_frames g frames long =
    let some : page_count g ≤ length frames / frame_size g = (le-div_iff_mul-le {k = frame_size g} {x = page_count g} {y = length frames} (omega arith)).1 (omega (arith, long)) in
    omega (arith, some, few_pages g)

-- and with fewer there is none for some page
pub no_frame : (g : Geometry) (frames : List ℕ) → length frames < frame_size g * page_count g → frame_count g frames < page_count g
unfolding frame_count
no_frame g frames short = ⊎_elim (λ below. below)
    (λ (all : page_count g ≤ frame_count g frames).
    let most : page_count g ≤ length frames / frame_size g = omega (arith, all) in
    let long : page_count g * frame_size g ≤ length frames = (le-div_iff_mul-le {k = frame_size g} {x = page_count g} {y = length frames} (omega arith)).0 most in
    absurd (omega (arith, long, short)))
    (lt_or_le (frame_count g frames) (page_count g))
