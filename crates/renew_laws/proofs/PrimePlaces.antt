-- The index pages of a file are there.
use Rattle.std.proofs.Common.{◌%◌, ◌-◌, ◌≡◌, ℕ, zero, suc, ◌+◌, ◌*◌, ◌/◌, ◌<◌, ◌≤◌, List, true, false, Option, Some, None, Ok, ap, refl, sym, ◌∙◌, arith, ⊎_elim, subst, inl, inr}
use Rattle.std.specs.Prelude.{is_some, is_none, option_and_then}
use Rattle.std.specs.Option.{option_map}
use Rattle.std.proofs.Math.Nat.{div-add-mod, mul-le-mul_left, mul-div_cancel}
use Rattle.std.proofs.lemmas.Nat.{div-mul-add}
use Rattle.std.proofs.lemmas.Bool.{cases_lt, lt-ltb, le-ltb}
use Rattle.geometry.specs.declared.geometry.Geometry.{Geometry}
use Rattle.geometry.specs.Numbers.{head_slots, span_slots, ceil}
use Rattle.table_model.specs.Table.{File}
use Rattle.table_model.specs.Room.{data_pages, index_pages}
use Rattle.image_model.specs.Within.{sizes}
use Rattle.image_model.specs.Headers.{size_of}
use Rattle.nor_core.specs.Flash.{word_at}
use Rattle.image_model.specs.Live.{Live, live_at, own}
use Rattle.image_model.specs.Files.{index_page, further, entry_number, data_of, data_page, judged}
use Rattle.image_model.specs.Tidy.{serves}
use Rattle.image_laws.proofs.TidySteps.{neat-but}
use Rattle.image_laws.proofs.Judge.{index_passes}
use Rattle.renew_laws.specs.Primed.{PrimedPlaces}
use Rattle.renew_laws.specs.Tails.{TailTogether}
use Rattle.renew_laws.proofs.LiveServes.{served-or_spare}
use Rattle.renew_laws.proofs.Serves.{index_there, served_place}
use Rattle.renew_laws.proofs.Spans.{span_there}

-- the first data span of a further index page of a file is one of the file's
first_span : (m s k : ℕ) → 0 < m → 0 < s → k < ceil m s → k * s < m
first_span m s k some pos below =
    let whole : s * ceil m s + (m + s - 1) % s ≡ m + s - 1 = div-add-mod (m + s - 1) s in
    let step : s * (k + 1) ≤ s * ceil m s = mul-le-mul_left s (omega (arith, below)) in
    let product : s * (k + 1) ≡ k * s + s = omega arith in
    omega (arith, whole, step, product, some, pos)

-- an entry that is there stands in an index page that is
entry_there : (g : Geometry) (pages : Live) (head : List ℕ) (t : ℕ) → head_slots g ≤ t → is_none (data_page g pages head t) ≡ false → is_some (index_page g pages (further g t)) ≡ true
unfolding data_page entry_number
entry_there g pages head t high there = from (index_page g pages (further g t)) (rw (le-ltb t (head_slots g) high) at there)
  where
    from : (o : Option ℕ) → is_none (option_and_then (λ p. data_of (pages p) t) (option_map (λ page. word_at page (8 + 2 * ((t - head_slots g) % span_slots g))) (option_and_then pages o))) ≡ false → is_some o ≡ true
    from None e = absurd (cc)
    from (Some r) e = refl

pub index_some : (g : Geometry) (pages : Live) (id h : ℕ) (head : List ℕ) (f : File) → index_page g pages 0 ≡ Some h → judged g pages id head ≡ Ok f → (j : ℕ) → j < index_pages g (size_of head) → is_some (index_page g pages j) ≡ true
index_some g pages id h head f at file zero below = rw at refl
index_some g pages id h head f at file (suc k) below =
    let big : 128 ≤ g.page = (sizes g).page in
    let n = data_pages g (size_of head) in
    ⊎_elim
    (λ (more : head_slots g < n).
    let low : suc k < 1 + ceil (n - head_slots g) (span_slots g) = rw (lt-ltb (head_slots g) n more) at below in
    let first : k * span_slots g < n - head_slots g = first_span (n - head_slots g) (span_slots g) k (omega (arith, more)) (omega (arith, big)) (omega (arith, low)) in
    let t = head_slots g + k * span_slots g in
    let behind : t - head_slots g ≡ k * span_slots g = omega arith in
    let span : further g t ≡ suc k = ap (λ (x : ℕ). x / span_slots g + 1) behind ∙ ap (λ (x : ℕ). x + 1) (mul-div_cancel k (omega (arith, big))) ∙ (let e : k + 1 ≡ suc k = omega arith in e) in
    subst (λ (j : ℕ). is_some (index_page g pages j) ≡ true) span (entry_there g pages head t (omega arith) (span_there g pages id head f file t (omega (arith, first)))))
    (λ (few : n ≤ head_slots g). let low : suc k < 1 = rw (le-ltb (head_slots g) n few) at below in absurd (omega (arith, low)))
    (cases_lt (head_slots g) n)

pub primed-places : (g : Geometry) → PrimedPlaces g
primed-places g a b id h head f beside prime = (
  index_some g (own (live_at g b) id) id h head f prime.at prime.file,
  λ r j passes.
      let x = index_there (own (live_at g b) id r) j passes in
      ⊎_elim
      (λ (s : beside r ≡ true). inl s)
      (λ (s : serves g (own (live_at g b) id) head r ≡ true). inr (served_place g (own (live_at g b) id) head r j s passes))
      (served-or_spare g b beside (neat-but prime.tidy) id h head prime.at prime.header r x.0 x.1),
)

-- ---- behind the last span

-- a quotient grows with its number
quotient_grows : (x y s : ℕ) → 0 < s → x ≤ y → x / s ≤ y / s
quotient_grows x y s pos less =
    ⊎_elim
    (λ (fall : y / s < x / s).
    let one : s * (x / s) + x % s ≡ x = div-add-mod x s in
    let two : s * (y / s) + y % s ≡ y = div-add-mod y s in
    let small : y % s < s = omega (arith, pos) in
    let step : s * (y / s + 1) ≤ s * (x / s) = mul-le-mul_left s (omega (arith, fall)) in
    let product : s * (y / s + 1) ≡ s * (y / s) + s = omega arith in absurd (omega (arith, one, two, small, step, product, less)))
    (λ (more : x / s ≤ y / s). more)
    (cases_lt (y / s) (x / s))

-- m pages fill as many groups of s as end with one of them
groups_end : (m s : ℕ) → 0 < s → 0 < m → ceil m s ≡ (m - 1) / s + 1
groups_end m s pos some =
    let whole : s * ((m - 1) / s) + (m - 1) % s ≡ m - 1 = div-add-mod (m - 1) s in
    let small : (m - 1) % s < s = omega (arith, pos) in
    let product : ((m - 1) / s + 1) * s ≡ s * ((m - 1) / s) + s = omega arith in
    let at : m + s - 1 ≡ ((m - 1) / s + 1) * s + (m - 1) % s = omega (arith, whole, product, some) in
    ap (λ (k : ℕ). k / s) at ∙ div-mul-add ((m - 1) / s + 1) s ((m - 1) % s) small

pub tail-together : (g : Geometry) → TailTogether g
tail-together g a b id h r t head f beside prime apart high past passes =
    let big : 128 ≤ g.page = (sizes g).page in
    let pos : 0 < span_slots g = omega (arith, big) in
    let n = data_pages g (size_of head) in
    let place : (index_page g (own (live_at g b) id) (further g t) ≡ Some r) × (further g t < index_pages g (size_of head)) =
    ⊎_elim
    (λ (one : beside r ≡ true). let bad : true ≡ false = sym one ∙ apart in absurd (cc))
    (λ (v : (index_page g (own (live_at g b) id) (further g t) ≡ Some r) × (further g t < index_pages g (size_of head))). v)
    ((primed-places g a b id h head f beside prime).1 r (further g t) passes) in
    ⊎_elim
    (λ (more : head_slots g < n).
    let low : further g t < 1 + ceil (n - head_slots g) (span_slots g) = rw (lt-ltb (head_slots g) n more) at place.1 in
    let end = groups_end (n - head_slots g) (span_slots g) pos (omega (arith, more)) in
    let before : n - 1 - head_slots g ≡ n - head_slots g - 1 = omega arith in
    let first : (n - head_slots g - 1) / span_slots g ≤ (n - head_slots g) / span_slots g = quotient_grows (n - head_slots g - 1) (n - head_slots g) (span_slots g) pos (omega arith) in
    let second : (n - head_slots g) / span_slots g ≤ (t - head_slots g) / span_slots g = quotient_grows (n - head_slots g) (t - head_slots g) (span_slots g) pos (omega (arith, past)) in
    let last : (n - 1 - head_slots g) / span_slots g + 1 ≡ further g t = ap (λ (k : ℕ). k / span_slots g + 1) before ∙ omega (arith, low, end, first, second) in (
      place.0,
      omega (arith, more),
      rw (le-ltb (n - 1) (head_slots g) (omega (arith, more))) last,
      omega (arith, more),
      omega (arith, low, end, first, second),
    ))
    (λ (few : n ≤ head_slots g). let low : further g t < 1 = rw (le-ltb (head_slots g) n few) at place.1 in absurd (omega (arith, low)))
    (cases_lt (head_slots g) n)
