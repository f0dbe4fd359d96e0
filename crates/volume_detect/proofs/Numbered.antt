-- Each candidate stands at a place.
use Rattle.std.proofs.Common.{◌≡◌, ℕ, ◌+◌, ◌*◌, ◌/◌, ◌%◌, ◌^◌, ◌<◌, ◌≤◌, List, length, refl, sym, ap, ◌∙◌, subst, arith}
use Rattle.std.proofs.Math.Nat.{mul-le-mul_right}
use Rattle.geometry.specs.declared.geometry.Geometry.{Geometry}
use Rattle.geometry.specs.declared.magic.MagicKind.{MagicKind}
use Rattle.geometry.specs.declared.magic.MagicKind.TheVariants.{Plain, Length}
use Rattle.volume_detect.specs.Candidates.{IsCandidate}
use Rattle.volume_detect.specs.Places.{unit_of, block_power, page_power, kind_of, byte_of, block_bytes, page_bytes, HasPlace}
use Rattle.volume_detect.proofs.Sizes.{power_least}

-- the number of a place
number : (u j i k : ℕ) → ℕ
number u j i k = 84 * u + 12 * j + 2 * i + k

module _ (u j i k : ℕ) (page : i < 6) (block : j < 7) (kind : k < 2) where
  unit_is : unit_of (number u j i k) ≡ u
  unfolding number
  unit_is = omega arith

  block_is : block_power (number u j i k) ≡ j
  unfolding number
  block_is = omega arith

  page_is : page_power (number u j i k) ≡ i
  unfolding number
  page_is = omega arith

  half_is : number u j i k % 2 ≡ k
  unfolding number
  half_is = omega arith

  within : (units : ℕ) → u < units → number u j i k < 84 * units
  unfolding number
  within units low = omega (arith, low)

-- the kind that is told by the last bit
kind_bit : MagicKind → ℕ
kind_bit Plain = 0
kind_bit Length = 1

kind_small : (kind : MagicKind) → kind_bit kind < 2
unfolding kind_bit
kind_small Plain = omega arith
kind_small Length = omega arith

kind_is : (kind : MagicKind) (place : ℕ) → place % 2 ≡ kind_bit kind → kind_of place ≡ kind
unfolding kind_bit
kind_is Plain place half = rw half refl
kind_is Length place half = rw half refl

pub has_place : (file : List ℕ) (at : ℕ) (g : Geometry) → IsCandidate file at g → g.meta ≡ 0 → HasPlace file at g
has_place file at g is none =
    let i : ℕ = is.place.page.0 in
    let j : ℕ = is.place.block.0 in
    let k : ℕ = kind_bit g.magic in
    let u : ℕ = at / 4096 in
    let low : i < 6 = is.place.page.1 in
    let low' : j < 7 = is.place.block.1 in
    let small : k < 2 = kind_small g.magic in
    let place : ℕ = number u j i k in
    let byte : byte_of place ≡ at = ap (λ (n : ℕ). 4096 * n) (unit_is u j i k low low' small) ∙ (let e : 4096 * (at / 4096) ≡ at = omega (arith, is.place.whole) in e) in
    let least : 1 ≤ 2 ^ j = power_least j low' in
    let three : 3 ≤ g.blocks = g.valid.some_blocks in
    let some : 1 * g.block ≤ g.blocks * g.block = mul-le-mul_right g.block (omega (arith, three)) in
    let wide : 4096 ≤ g.block = omega (arith, is.place.block.2, least) in
    let inside : u < length file / 4096 = omega (arith, some, wide, is.row.fits) in
    let pages : 128 * 2 ^ i ≡ page_bytes place = ap (λ (n : ℕ). 128 * 2 ^ n) (sym (page_is u j i k low low' small)) in
    let blocks : 4096 * 2 ^ j ≡ block_bytes place = ap (λ (n : ℕ). 4096 * 2 ^ n) (sym (block_is u j i k low low' small)) in (
      place,
      within u j i k low low' small (length file / 4096) inside,
      byte,
      record {
        numbers = record {
          page = is.place.page.2 ∙ pages;
          block = is.place.block.2 ∙ blocks;
          phys = is.place.phys ∙ is.place.block.2 ∙ blocks;
          meta = none;
          magic = sym (kind_is g.magic place (half_is u j i k low low' small));
        };
        candidate = subst (λ (x : ℕ). IsCandidate file x g) (sym byte) is;
      },
    )
