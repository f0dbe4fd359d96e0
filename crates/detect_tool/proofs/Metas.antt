-- The number of meta bytes that is told of a volume with a file with bytes is its own.
use Rattle.std.proofs.Common.{◌≡◌, ◌≢◌, ℕ, ◌+◌, ◌<◌, ◌≤◌, List, length, drop, ap, refl, sym, ◌∙◌, subst, arith, ⊎_elim}
use Rattle.std.proofs.lemmas.Bool.{cases_eq, cases_lt}
use Rattle.geometry.specs.declared.geometry.Geometry.{Geometry}
use Rattle.geometry.specs.Rules.{IsVolume}
use Rattle.geometry.proofs.Geometries.{made}
use Rattle.image_model.specs.Tables.{table_of}
use Rattle.meta_laws.specs.Other.{TellsMeta}
use Rattle.meta_laws.proofs.Fewer.{other_reads_fewer}
use Rattle.meta_guess.specs.Guesses.{SameBut}
use Rattle.volume_rank.specs.declared.found.Found.{Found}
use Rattle.volume_rank.specs.Ranges.{IsRange}
use Rattle.detect_tool.specs.Fronts.{IsFoundFor, TellsOwnMeta}
use Rattle.detect_tool.proofs.Fronts.{same_as}

-- the same volume with so many meta bytes
with_meta : (g : Geometry) (m : ℕ) → m ≤ 64 → Geometry
with_meta g m few = made g.page g.block g.blocks g.phys m g.magic rules g.pages_each g.lookups_each g.kept
  where
    rules : IsVolume g.page g.block g.blocks g.phys m
    rules = record {
      page_least = g.valid.page_least;
      page_most = g.valid.page_most;
      page_divides = g.valid.page_divides;
      whole_pages = g.valid.whole_pages;
      whole_units = g.valid.whole_units;
      some_pages = g.valid.some_pages;
      some_entries = g.valid.some_entries;
      lookups_fit = g.valid.lookups_fit;
      magic_fits = g.valid.magic_fits;
      some_blocks = g.valid.some_blocks;
      few_blocks = g.valid.few_blocks;
      few_pages = g.valid.few_pages;
      few_in_block = g.valid.few_in_block;
      few_bytes = g.valid.few_bytes;
      meta_most = few;
    }

with_same : (g : Geometry) (m : ℕ) (few : m ≤ 64) → SameBut g (with_meta g m few)
unfolding made with_meta
with_same g m few = record { page_is = refl; block_is = refl; blocks_is = refl; phys_is = refl; meta_is = refl; magic_is = refl }

with_is : (g : Geometry) (m : ℕ) (few : m ≤ 64) → (with_meta g m few).meta ≡ m
unfolding made with_meta
with_is g m few = refl

turned : (a b : Geometry) → SameBut a b → SameBut b a
turned a b same = record { page_is = sym same.page_is; block_is = sym same.block_is; blocks_is = sym same.blocks_is; phys_is = sym same.phys_is; meta_is = refl; magic_is = sym same.magic_is }

pub own_meta : (file : List ℕ) (g : Geometry) (f : Found) → TellsMeta g file → IsFoundFor file g f → TellsOwnMeta g f
own_meta file g f tells is =
    let a = is.found.candidate in
    let range : IsRange a file (record { first = f.volume.meta; last = f.last_meta; counts = f.counts }) =
    subst (λ (l : List ℕ). IsRange a l (record { first = f.volume.meta; last = f.last_meta; counts = f.counts })) (ap (λ (n : ℕ). drop n file) is.first) is.found.range in
    let same : SameBut a g = same_as a f.volume g is.found.volume.same is.same in
    let most : length (table_of g file) ≤ f.counts.whole = range.most g same in
    let fewer : (h : Geometry) → SameBut g h → h.meta ≢ g.meta → length (table_of h file) < length (table_of g file) = λ h alike differ. other_reads_fewer g h file alike tells differ in
    let first : f.volume.meta ≡ g.meta = ⊎_elim
    (λ (e : f.volume.meta ≡ g.meta). e)
    (λ (differ : f.volume.meta ≡ g.meta → ⊥).
    let v = range.counts.volume in
    let less = fewer v (same_as g a v (turned a g same) range.counts.is.same) (λ e. differ (sym range.counts.is.meta_is ∙ e)) in
    let whole = range.counts.counts_are.whole in
    absurd (omega (arith, less, most, whole)))
    (cases_eq f.volume.meta g.meta) in
    record {
      first = first;
      last = ⊎_elim
          (λ (more : f.volume.meta < f.last_meta).
          let few : f.volume.meta + 1 ≤ 64 = let l = range.more.few in omega (arith, more, l) in
          let h = with_meta g (f.volume.meta + 1) few in
          let at : h.meta ≡ f.volume.meta + 1 = with_is g (f.volume.meta + 1) few in
          let equal = range.more.equal h (same_as a g h same (with_same g (f.volume.meta + 1) few)) (omega (arith, at)) (omega (arith, at, more)) in
          let less = fewer h (with_same g (f.volume.meta + 1) few) (λ e. omega (arith, e, at, first)) in
          absurd (omega (arith, less, most, equal)))
          (λ (le : f.last_meta ≤ f.volume.meta). let l = range.more.some in omega (arith, le, l, first))
          (cases_lt f.volume.meta f.last_meta);
    }
