-- What is found of a tidy volume that a chip begins with.
use Rattle.std.proofs.Common.{◌≡◌, ℕ, ◌+◌, ◌-◌, ◌*◌, ◌/◌, ◌==◌, List, length, drop, bit_xor, ap, refl, sym, ◌∙◌, subst, arith}
use Rattle.geometry.specs.declared.geometry.Geometry.{Geometry}
use Rattle.geometry.specs.declared.magic.MagicKind.{MagicKind}
use Rattle.geometry.specs.Rules.{lookups_in}
use Rattle.geometry.specs.Numbers.{lookups, right_magic, length_mark}
use Rattle.nor_core.specs.Flash.{word_at}
use Rattle.image_model.specs.Places.{has_magic, slot_of}
use Rattle.image_model.specs.Kinds.{spoiled_blocks}
use Rattle.image_model.specs.Tables.{damaged_of}
use Rattle.image_model.specs.Tidy.{IsTidy, IsNeat}
use Rattle.doubled_ids.specs.Doubled.{doubled_of}
use Rattle.doubled_ids.proofs.Neat.{none_doubled}
use Rattle.meta_guess.specs.Guesses.{SameBut}
use Rattle.meta_tally.proofs.Alike.{same_pages, same_live}
use Rattle.volume_detect.specs.Places.{IsFoundFirst}
use Rattle.volume_detect.proofs.Fronts.{front_found}
use Rattle.volume_detect.proofs.Gaps.{none_fails}
use Rattle.volume_rank.specs.declared.found.Found.{Found}
use Rattle.volume_rank.specs.Ranges.{IsRange}
use Rattle.detect_tool.specs.Fronts.{BeginsWith, IsFoundFor, TellsFiles}

pub tidy_found : (file : List ℕ) (g : Geometry) → IsTidy g file → BeginsWith file g → IsFoundFirst file g
tidy_found file g tidy begins = front_found file g (record { block = begins.block; phys = begins.phys; ends = begins.ends; magics = λ b low. tidy.magic b low })

-- the same numbers as the same numbers
pub same_as : (a b c : Geometry) → SameBut a b → SameBut b c → SameBut a c
same_as a b c one two = record {
  page_is = two.page_is ∙ one.page_is;
  block_is = two.block_is ∙ one.block_is;
  blocks_is = two.blocks_is ∙ one.blocks_is;
  phys_is = two.phys_is ∙ one.phys_is;
  meta_is = refl;
  magic_is = two.magic_is ∙ one.magic_is;
}

-- Which ids are doubled doesn't go by the meta bytes.
same_doubled : (g h : Geometry) (image : List ℕ) → SameBut g h → doubled_of g image ≡ doubled_of h image
unfolding doubled_of
same_doubled g h image same = rw (same_pages g h same, same_live g h same image) refl

-- All its blocks have their magic, also by another number of meta bytes.
same_magic : (g h : Geometry) (image : List ℕ) (b : ℕ) → SameBut g h → has_magic g image b ≡ has_magic h image b
unfolding has_magic slot_of lookups
same_magic g h image b same =
    ap (λ (x : ℕ). word_at image (b * x + 2 * (lookups_in g.page x * g.page / 2 - 2)) == right_magic g b) (sym same.block_is)
    ∙ ap (λ (x : ℕ). word_at image (b * h.block + 2 * (lookups_in x h.block * x / 2 - 2)) == right_magic g b) (sym same.page_is)
    ∙ ap (λ (x : ℕ). word_at image (b * h.block + 2 * (lookups_in h.page h.block * h.page / 2 - 2)) == x) (same_right g h b same)
  where
    same_right : (g h : Geometry) (b : ℕ) → SameBut g h → right_magic g b ≡ right_magic h b
    same_right g h b same =
        ap (λ (x : ℕ). bit_xor (bit_xor 0x0529 x) (length_mark g.magic g.blocks b)) (sym same.page_is)
        ∙ ap (λ (m : MagicKind). bit_xor (bit_xor 0x0529 h.page) (length_mark m g.blocks b)) (sym same.magic_is)
        ∙ ap (λ (n : ℕ). bit_xor (bit_xor 0x0529 h.page) (length_mark h.magic n b)) (sym same.blocks_is)

none_spoiled : (g h : Geometry) (file : List ℕ) → IsTidy g file → SameBut h g → spoiled_blocks h file ≡ 0
unfolding spoiled_blocks
none_spoiled g h file tidy same = none_fails (has_magic h file) h.blocks (λ b low. same_magic h g file b same ∙ tidy.magic b (omega (arith, low, same.blocks_is)))

neat_is : (g : Geometry) (file : List ℕ) → IsTidy g file → IsNeat g file
neat_is g file tidy = record { magic = tidy.magic; entries = tidy.entries; undamaged = tidy.undamaged }

pub tidy_told : (file : List ℕ) (g : Geometry) (f : Found) → IsTidy g file → IsFoundFor file g f → TellsFiles file g f
tidy_told file g f tidy is =
    let a = is.found.candidate in
    let range : IsRange a file (record { first = f.volume.meta; last = f.last_meta; counts = f.counts }) =
    subst (λ (l : List ℕ). IsRange a l (record { first = f.volume.meta; last = f.last_meta; counts = f.counts })) (ap (λ (n : ℕ). drop n file) is.first) is.found.range in
    let same : SameBut a g = same_as a f.volume g is.found.volume.same is.same in
    let none : length (damaged_of g file) ≡ 0 = ap length tidy.undamaged in
    let few = range.fewest g same in
    let spoiled : f.spoiled ≡ spoiled_blocks f.volume file = is.found.spoiled ∙ ap (λ (n : ℕ). spoiled_blocks f.volume (drop n file)) is.first in
    let doubled : f.doubled ≡ length (doubled_of f.volume file) = is.found.doubled ∙ ap (λ (n : ℕ). length (doubled_of f.volume (drop n file))) is.first in
    let each = ap length (same_doubled f.volume g file is.same ∙ none_doubled g file (neat_is g file tidy)) in
    record { whole = range.most g same; damaged = omega (arith, few, none); spoiled = spoiled ∙ none_spoiled g f.volume file tidy is.same; doubled = doubled ∙ each }
