-- Erase counts over programs, cleanings and cuts.
use Rattle.std.proofs.Common.{◌≡◌, ◌≢◌, ℕ, ◌+◌, ◌-◌, ◌*◌, ◌<◌, ◌≤◌, ◌⊎◌, ◌++◌, List, [], ◌∷◌, length, true, false, inl, inr, ap, refl, sym, ◌∙◌, arith, ⊎_elim}
use Rattle.std.proofs.Common.{subst}
use Rattle.std.proofs.lemmas.Bool.{cases_Bool, cases_eq, false≢true}
use Rattle.geometry.specs.declared.geometry.Geometry.{Geometry}
use Rattle.geometry.specs.Numbers.{slots}
use Rattle.nor_core.specs.Flash.{SameOutside}
use Rattle.image_model.specs.Places.{has_magic, erase_count, next_count, is_entry_page}
use Rattle.image_model.specs.Within.{sizes}
use Rattle.image_laws.specs.TidySteps.{Agree}
use Rattle.image_laws.proofs.Erase.{slot-other, magic-other}
use Rattle.image_laws.proofs.Placing.{wider}
use Rattle.image_laws.proofs.TidySteps.{agree_page}
use Rattle.trim_laws.specs.Trim.{Trims}
use Rattle.trim_laws.specs.Wear.{SameWear, IsRenewed, WornBy, IsOneOf, Worn, KeepsWear, Wears, OthersKeep, NextRises, FreshAbove, CutsWhole, ProgramsKeep}
use Rattle.trim_laws.specs.Wear.{FreshWears}
use Rattle.trim_laws.specs.Upkeep.{Upkeep}
use Rattle.trim_laws.proofs.NextCounts.{next_same, next_rises}

-- ---- no block is made fresh

pub wear_none : (g : Geometry) (a : List ℕ) → SameWear g a a
wear_none g a = record { magic = λ block low. refl; count = λ block low has. refl }

pub wear_then : (g : Geometry) (a b c : List ℕ) → SameWear g a b → SameWear g b c → SameWear g a c
wear_then g a b c first second = record {
  magic = λ block low. second.magic block low ∙ first.magic block low;
  count = λ block low has. second.count block low (first.magic block low ∙ has) ∙ first.count block low has;
}

pub keeps_none : (g : Geometry) (a : List ℕ) → KeepsWear g a a
keeps_none g a = record { magic = λ block low has. has; count = λ block low has. refl }

pub keeps_same : (g : Geometry) (a c : List ℕ) → SameWear g a c → KeepsWear g a c
keeps_same g a c same = record {
  magic = λ block low has. sym (same.magic block low) ∙ has;
  count = λ block low has. same.count block low (sym (same.magic block low) ∙ has);
}

-- where each block has its magic nothing was left out
keeps_whole : (g : Geometry) (a c : List ℕ) → KeepsWear g a c → ((block : ℕ) → block < g.blocks → has_magic g c block ≡ true) → SameWear g a c
keeps_whole g a c left all = record {
  magic = λ block low. all block low ∙ sym (left.magic block low (all block low));
  count = λ block low has. left.count block low (all block low);
}

-- ---- blocks are made fresh, one after the other

pub worn_same : (g : Geometry) (a c : List ℕ) → SameWear g a c → Worn g a c
unfolding WornBy
worn_same g a c same = record { blocks = []; by = same }

pub worn_none : (g : Geometry) (a : List ℕ) → Worn g a a
worn_none g a = worn_same g a a (wear_none g a)

-- a block more
renewed : (g : Geometry) (block : ℕ) (a c : List ℕ) → IsRenewed g block a c → Worn g a c
unfolding WornBy
renewed g block a c is = record { blocks = block ∷ []; by = (a, wear_none g a, is) }

-- the same from an image on, and up to one
still_renewed : (g : Geometry) (block : ℕ) (a b c : List ℕ) → IsRenewed g block a b → SameWear g b c → IsRenewed g block a c
still_renewed g block a b c is same = record {
  within = is.within;
  magic = same.magic block is.within ∙ is.magic;
  count = same.count block is.within is.magic ∙ is.count;
  others = λ d low out. same.magic d low ∙ is.others d low out;
  counts = λ d low out has. same.count d low (is.others d low out ∙ has) ∙ is.counts d low out has;
}

by_same : (g : Geometry) (blocks a b c : List ℕ) → WornBy g blocks a b → SameWear g b c → WornBy g blocks a c
unfolding WornBy
by_same g [] a b c by same = wear_then g a b c by same
by_same g (block ∷ more) a b c by same = (by.0, by.1, still_renewed g block by.0 b c by.2 same)

by_on : (g : Geometry) (first second a b c : List ℕ) → WornBy g first a b → WornBy g second b c → WornBy g (second ++ first) a c
unfolding WornBy
by_on g first [] a b c x y = by_same g first a b c x y
by_on g first (block ∷ more) a b c x y = (y.0, by_on g first more a b y.0 x y.1, y.2)

pub worn_then : (g : Geometry) (a b c : List ℕ) → Worn g a b → Worn g b c → Worn g a c
worn_then g a b c first second = record { blocks = second.blocks ++ first.blocks; by = by_on g first.blocks second.blocks a b c first.by second.by }

pub wears_then : (g : Geometry) (a b c : List ℕ) → Worn g a b → Wears g b c → Wears g a c
wears_then g a b c first second = record { last = second.last; worn = worn_then g a b second.last first second.worn; left = second.left }

pub wears_none : (g : Geometry) (a : List ℕ) → Wears g a a
wears_none g a = record { last = a; worn = worn_none g a; left = keeps_none g a }

pub wears_same : (g : Geometry) (a c : List ℕ) → SameWear g a c → Wears g a c
wears_same g a c same = record { last = a; worn = worn_none g a; left = keeps_same g a c same }

pub cuts_whole : (g : Geometry) → CutsWhole g
cuts_whole g was image wears all = worn_then g was wears.last image wears.worn (worn_same g wears.last image (keeps_whole g wears.last image wears.left all))

-- ---- programs of a page and its entry

pub programs_keep : (g : Geometry) → ProgramsKeep g
programs_keep g a c p agree = record { magic = λ block low. agree.magic block; count = λ block low has. agree.counts block low }

-- in a page
pub inside_keeps : (g : Geometry) (a c : List ℕ) (p at n : ℕ) → is_entry_page g p ≡ true → p * g.page ≤ at → at + n ≤ p * g.page + g.page →
    SameOutside at n a c → SameWear g a c
inside_keeps g a c p at n page from to outside = programs_keep g a c p (agree_page g a c p (sizes g) page (wider at n (p * g.page) g.page a c from to outside))

-- ---- a block is made fresh

module _ (g : Geometry) (a c : List ℕ) (block : ℕ) (low : block < g.blocks) (outside : SameOutside (block * g.block) g.block a c) where
  other_magic : (d : ℕ) → d ≢ block → has_magic g c d ≡ has_magic g a d
  other_magic d out = magic-other g (sizes g) a c block outside d out

  other_count : (d : ℕ) → d ≢ block → erase_count g c d ≡ erase_count g a d
  unfolding erase_count
  other_count d out = let fits = (sizes g).slots_fit in rw (slot-other g (sizes g) a c block outside d (slots g - 1) out (omega (arith, fits))) refl

  pub fresh_worn : has_magic g c block ≡ true → erase_count g c block ≡ next_count g a → Worn g a c
  fresh_worn magic count = renewed g block a c
      (record { within = low; magic = magic; count = count; others = λ d below out. other_magic d out; counts = λ d below out has. other_count d out })

  lacking : has_magic g c block ≡ false → KeepsWear g a c
  lacking none = record {
    magic = λ d below has. ⊎_elim
        (λ (here : d ≡ block). absurd (false≢true (sym none ∙ (rw here at has))))
        (λ (there : d ≡ block → ⊥). sym (other_magic d there) ∙ has)
        (cases_eq d block);
    count = λ d below has. ⊎_elim
        (λ (here : d ≡ block). absurd (false≢true (sym none ∙ (rw here at has))))
        (λ (there : d ≡ block → ⊥). other_count d there)
        (cases_eq d block);
  }

  by_magic : (has_magic g c block ≡ true → (c ≡ a) ⊎ (erase_count g c block ≡ next_count g a)) → Wears g a c
  by_magic counted = ⊎_elim
      (λ (has : has_magic g c block ≡ true). ⊎_elim
      (λ (same : c ≡ a). subst (λ (l : List ℕ). Wears g a l) (sym same) (wears_none g a))
      (λ (next : erase_count g c block ≡ next_count g a). record { last = c; worn = fresh_worn has next; left = keeps_none g c })
      (counted has))
      (λ (none : has_magic g c block ≡ false). record { last = a; worn = worn_none g a; left = lacking none })
      (cases_Bool (has_magic g c block))

pub fresh_wears : (g : Geometry) → FreshWears g
fresh_wears g a c block low outside counted = by_magic g a c block low outside counted

-- ---- what each step keeps up

pub upkeep_none : (g : Geometry) (a : List ℕ) → Upkeep g a a
upkeep_none g a = record { trims = λ trim. trim; wears = wears_none g a }

pub upkeep_same : (g : Geometry) (a c : List ℕ) → Trims g a c → SameWear g a c → Upkeep g a c
upkeep_same g a c trims same = record { trims = trims; wears = wears_same g a c same }

-- done, and a cut after it
pub upkeep_then : (g : Geometry) (a b c : List ℕ) → Upkeep g a b → Worn g a b → Upkeep g b c → Upkeep g a c
upkeep_then g a b c first worn second = record { trims = λ trim. second.trims (first.trims trim); wears = wears_then g a b c worn second.wears }

-- where each block has its magic in between
pub upkeep_on : (g : Geometry) (a b c : List ℕ) → ((block : ℕ) → block < g.blocks → has_magic g b block ≡ true) → Upkeep g a b → Upkeep g b c → Upkeep g a c
upkeep_on g a b c all first second = upkeep_then g a b c first (cuts_whole g a b first.wears all) second

-- ---- what follows

others_keep_by : (g : Geometry) (blocks was now : List ℕ) (block : ℕ) → WornBy g blocks was now → block < g.blocks → (IsOneOf block blocks → ⊥) →
    has_magic g was block ≡ true →
    (has_magic g now block ≡ true) × (erase_count g now block ≡ erase_count g was block)
unfolding WornBy IsOneOf
others_keep_by g [] was now block by low out has = (by.magic block low ∙ has, by.count block low has)
others_keep_by g (x ∷ more) was now block by low out has =
    let before = others_keep_by g more was by.0 block by.1 low (λ (c : IsOneOf block more). out (inr c)) has in
    let there : block ≡ x → ⊥ = λ (e : block ≡ x). out (inl e) in
    (by.2.others block low there ∙ before.0, by.2.counts block low there before.0 ∙ before.1)

pub others_keep : (g : Geometry) → OthersKeep g
others_keep g blocks was now block by low out has = others_keep_by g blocks was now block by low out has

-- each block has its magic still
all_magics : (g : Geometry) (blocks was now : List ℕ) → WornBy g blocks was now → ((c : ℕ) → c < g.blocks → has_magic g was c ≡ true) → (c : ℕ) → c < g.blocks →
    has_magic g now c ≡ true
unfolding WornBy
all_magics g [] was now by all c low = by.magic c low ∙ all c low
all_magics g (x ∷ more) was now by all c low = ⊎_elim
    (λ (here : c ≡ x). rw here by.2.magic)
    (λ (there : c ≡ x → ⊥). by.2.others c low there ∙ all_magics g more was by.0 by.1 all c low)
    (cases_eq c x)

next_rises_by : (g : Geometry) (blocks was now : List ℕ) → WornBy g blocks was now → ((c : ℕ) → c < g.blocks → has_magic g was c ≡ true) →
    1 ≤ next_count g was → next_count g was + length blocks < 0x8000 → next_count g now ≡ next_count g was + length blocks
unfolding WornBy
next_rises_by g [] was now by all some few = let e = next_same g was now by in omega (arith, e)
next_rises_by g (x ∷ more) was now by all some few =
    let before = next_rises_by g more was by.0 by.1 all some (omega (arith, few)) in
    let mids = all_magics g more was by.0 by.1 all in
    let up = next_rises g by.0 now x mids (all_magics g (x ∷ more) was now by all) by.2.within by.2.count (λ b low out. by.2.counts b low out (mids b low))
    (omega (arith, before, some)) (omega (arith, before, few)) in
    omega (arith, up, before)

pub next_rises_with : (g : Geometry) → NextRises g
next_rises_with g blocks was now by all some few = next_rises_by g blocks was now by all some few

-- each of them is a block
are_blocks : (g : Geometry) (blocks was now : List ℕ) (block : ℕ) → WornBy g blocks was now → IsOneOf block blocks → block < g.blocks
unfolding WornBy IsOneOf
are_blocks g [] was now block by is = absurd (is)
are_blocks g (x ∷ more) was now block by is = ⊎_elim
    (λ (here : block ≡ x). rw here by.2.within)
    (λ (there : IsOneOf block more). are_blocks g more was by.0 block by.1 there)
    is

fresh_above_by : (g : Geometry) (blocks was now : List ℕ) (block : ℕ) → WornBy g blocks was now → ((c : ℕ) → c < g.blocks → has_magic g was c ≡ true) →
    1 ≤ next_count g was → next_count g was + length blocks < 0x8000 → IsOneOf block blocks →
    (next_count g was ≤ erase_count g now block) × (erase_count g now block < next_count g was + length blocks)
unfolding WornBy IsOneOf
fresh_above_by g [] was now block by all some few is = absurd (is)
fresh_above_by g (x ∷ more) was now block by all some few is =
    let mids = all_magics g more was by.0 by.1 all in
    ⊎_elim
    (λ (here : block ≡ x).
    let before = next_rises_by g more was by.0 by.1 all some (omega (arith, few)) in
    let count : erase_count g now block ≡ next_count g by.0 = rw here by.2.count in
    (omega (arith, count, before), omega (arith, count, before)))
    (λ (there : block ≡ x → ⊥).
    let later : IsOneOf block more = ⊎_elim (λ (e : block ≡ x). absurd (there e)) (λ (c : IsOneOf block more). c) is in
    let low = are_blocks g more was by.0 block by.1 later in
    let before = fresh_above_by g more was by.0 block by.1 all some (omega (arith, few)) later in
    let count : erase_count g now block ≡ erase_count g by.0 block = by.2.counts block low there (mids block low) in
    let least = before.0 in
    let most = before.1 in
    (omega (arith, count, least), omega (arith, count, most)))
    (cases_eq block x)

pub fresh_above : (g : Geometry) → FreshAbove g
fresh_above g blocks was now block by all some few is = fresh_above_by g blocks was now block by all some few is
