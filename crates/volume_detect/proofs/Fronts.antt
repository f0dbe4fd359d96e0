-- A whole volume at the front of a file is found.
use Rattle.std.proofs.Common.{◌≡◌, ℕ, ◌+◌, ◌-◌, ◌*◌, ◌%◌, ◌^◌, ◌<◌, ◌≤◌, ◌==◌, ◌||◌, Bool, true, not, nat_lt, List, length, refl, ◌∙◌, subst, arith, ⊎_elim}
use Rattle.std.proofs.Math.Nat.{mul-le-mul_right}
use Rattle.std.proofs.lemmas.Bool.{agree_below, agree_below_at, cases_lt, or_cases, eqb-true, eq-eqb, le-ltb, both_ways}
use Rattle.geometry.specs.declared.geometry.Geometry.{Geometry}
use Rattle.geometry.specs.declared.magic.MagicKind.TheVariants.{Plain, Length}
use Rattle.geometry.specs.Rules.{IsVolume, is_page}
use Rattle.geometry.specs.Numbers.{lookups}
use Rattle.geometry.proofs.Geometries.{made}
use Rattle.image_model.specs.Places.{has_magic, slot_of}
use Rattle.volume_detect.specs.Candidates.{IsRest, IsLongest, IsCandidate, IsFront}
use Rattle.volume_detect.specs.Marks.{IsMarkedRow}
use Rattle.volume_detect.specs.Places.{IsFoundFirst}
use Rattle.volume_detect.proofs.Gaps.{none_fails}
use Rattle.volume_detect.proofs.Sizes.{power_least}
use Rattle.volume_detect.proofs.Numbered.{has_place}

-- each divisor of 4,096 from 128 on is a page, computed
page_test : ℕ → Bool
page_test n = nat_lt n 128 || (not (4096 % n == 0) || is_page n)

tested : agree_below page_test (λ _. true) 4097 ≡ true
unfolding page_test
tested = refl

taken_page : (n : ℕ) → 128 ≤ n → n ≤ 4096 → 4096 % n ≡ 0 → is_page n ≡ true
unfolding page_test
taken_page n least most whole =
    let all : page_test n ≡ true = agree_below_at page_test (λ _. true) 4097 n tested (omega (arith, most)) in
    ⊎_elim
    (λ (small : nat_lt n 128 ≡ true). absurd (both_ways (nat_lt n 128) (le-ltb n 128 least) small))
    (λ (rest : (not (4096 % n == 0) || is_page n) ≡ true). ⊎_elim
    (λ (odd : not (4096 % n == 0) ≡ true). absurd (both_ways (not (4096 % n == 0)) (rw (eq-eqb (4096 % n) 0 whole) refl) odd))
    (λ (page : is_page n ≡ true). page)
    (or_cases _ _ rest))
    (or_cases _ _ all)

-- it is a power of two
page_power : (n : ℕ) → is_page n ≡ true → (i : ℕ) × (i < 6) × (n ≡ 128 * 2 ^ i)
page_power n is = ⊎_elim
    (λ (h5 : ((((((n == 128) || (n == 256)) || (n == 512)) || (n == 1024)) || (n == 2048))) ≡ true). ⊎_elim
    (λ (h4 : (((((n == 128) || (n == 256)) || (n == 512)) || (n == 1024))) ≡ true). ⊎_elim
    (λ (h3 : ((((n == 128) || (n == 256)) || (n == 512))) ≡ true). ⊎_elim
    (λ (h2 : (((n == 128) || (n == 256))) ≡ true). ⊎_elim
    (λ (h1 : (n == 128) ≡ true). (0, omega arith, eqb-true n 128 h1))
    (λ (h1 : (n == 256) ≡ true). (1, omega arith, eqb-true n 256 h1))
    (or_cases _ _ h2))
    (λ (h2 : (n == 512) ≡ true). (2, omega arith, eqb-true n 512 h2))
    (or_cases _ _ h3))
    (λ (h3 : (n == 1024) ≡ true). (3, omega arith, eqb-true n 1024 h3))
    (or_cases _ _ h4))
    (λ (h4 : (n == 2048) ≡ true). (4, omega arith, eqb-true n 2048 h4))
    (or_cases _ _ h5))
    (λ (h5 : (n == 4096) ≡ true). (5, omega arith, eqb-true n 4096 h5))
    (or_cases _ _ is)

-- the volume of the same numbers with no meta bytes
no_meta : (g : Geometry) → IsVolume g.page g.block g.blocks g.phys 0
no_meta g = record {
  page_least = g.valid.page_least;
  page_most = g.valid.page_most;
  page_divides = g.valid.page_divides;
  whole_pages = g.valid.whole_pages;
  whole_units = g.valid.whole_units;
  some_pages = g.valid.some_pages;
  some_entries = g.valid.some_entries;
  lookups_fit = g.valid.lookups_fit;
  magic_fits = g.valid.magic_fits;
  some_blocks = g.valid.some_blocks;
  few_blocks = g.valid.few_blocks;
  few_pages = g.valid.few_pages;
  few_in_block = g.valid.few_in_block;
  few_bytes = g.valid.few_bytes;
  meta_most = omega arith;
}

unfoldable bare : Geometry → Geometry
bare g = made g.page g.block g.blocks g.phys 0 g.magic (no_meta g) g.pages_each g.lookups_each g.kept

bare_magic : (g : Geometry) (file : List ℕ) (b : ℕ) → has_magic (bare g) file b ≡ has_magic g file b
unfolding bare made has_magic slot_of lookups
bare_magic g file b = refl

module _ (file : List ℕ) (g : Geometry) (front : IsFront file g) where
  fits : g.blocks * g.block ≤ length file
  fits = ⊎_elim (λ (all : length file ≡ g.blocks * g.block). omega (arith, all)) (λ (more : (g.magic ≡ Length) × (g.blocks * g.block ≤ length file)). more.1) front.ends

  wide : 4096 ≤ g.block
  wide = let least : 1 ≤ 2 ^ front.block.0 = power_least front.block.0 front.block.1 in omega (arith, front.block.2, least)

  -- no volume begins before the file
  no_rest : (more : ℕ) (h : Geometry) → IsRest file 0 g more h → ⊥
  no_rest more h rest =
      let some : 1 * g.block ≤ more * g.block = mul-le-mul_right g.block rest.some in
      absurd (omega (arith, rest.inside, some, wide))

  -- none of the same blocks is longer than the file
  longest : g.magic ≡ Plain → IsLongest file 0 g
  longest plain = record {
    last = let three : 3 ≤ g.blocks = g.valid.some_blocks in front.magics (g.blocks - 1) (omega (arith, three));
    most = λ h same row last. ⊎_elim
        (λ (all : length file ≡ g.blocks * g.block). ⊎_elim
        (λ (more : g.blocks < h.blocks).
        let next : g.blocks + 1 ≤ h.blocks = omega (arith, more) in
        let bytes : (g.blocks + 1) * g.block ≤ h.blocks * g.block = mul-le-mul_right g.block next in
        let sum : (g.blocks + 1) * g.block ≡ g.blocks * g.block + g.block = omega arith in
        let inside : h.blocks * g.block ≤ length file = subst (λ (x : ℕ). h.blocks * x ≤ length file) same.block (omega (arith, row.fits)) in
        absurd (omega (arith, all, bytes, sum, inside, wide)))
        (λ (le : h.blocks ≤ g.blocks). le)
        (cases_lt g.blocks h.blocks))
        (λ (more : (g.magic ≡ Length) × (g.blocks * g.block ≤ length file)). let other : g.magic ≡ Length = more.0 in absurd (cc))
        front.ends;
  }

  -- all its blocks have their magic
  first_has : has_magic g file 0 ≡ true
  first_has = let three : 3 ≤ g.blocks = g.valid.some_blocks in front.magics 0 (omega (arith, three))

  row : IsMarkedRow (has_magic g file) g.magic g.blocks
  row = record {
    gaps = λ b low lacks. both_ways (has_magic g file b) (lacks b (omega arith) (omega arith)) (front.magics b (omega (arith, low)));
    few = omega (arith, none_fails (has_magic g file) g.blocks front.magics);
  }

  front_candidate : IsCandidate file 0 g
  front_candidate = record {
    place = record { whole = refl; page = page_power g.page (taken_page g.page g.valid.page_least g.valid.page_most g.valid.page_divides); block = front.block; phys = front.phys };
    row = record { fits = omega (arith, fits); marks = row };
    longest = longest;
    told = λ kind lacks h same row first. both_ways (has_magic g file 0) lacks first_has;
    no_rest = no_rest;
  }

-- the volume with no meta bytes is at the front too
bare_front : (file : List ℕ) (g : Geometry) → IsFront file g → IsFront file (bare g)
unfolding bare made
bare_front file g front = record { block = front.block; phys = front.phys; ends = front.ends; magics = λ b low. bare_magic g file b ∙ front.magics b low }

pub front_found : (file : List ℕ) (g : Geometry) → IsFront file g → IsFoundFirst file g
unfolding bare made
front_found file g front = record {
  candidate = bare g;
  page = refl;
  block = refl;
  blocks = refl;
  phys = refl;
  magic = refl;
  place = has_place file 0 (bare g) (front_candidate file (bare g) (bare_front file g front)) refl;
}
