-- Lookup entries of index pages.
use Rattle.std.proofs.Common.{◌≡◌, ℕ, ◌+◌, ◌-◌, ◌*◌, ◌%◌, ◌<◌, ◌≤◌, not, true, List, Option, Some, None, length, refl, arith, ⊎_elim}
use Rattle.std.specs.Prelude.{nat_lt}
use Rattle.std.proofs.lemmas.Nat.{div-mul-add, mod-mul-add}
use Rattle.std.proofs.lemmas.Bool.{and_parts, false≢true, cases_lt, lt-ltb}
use Rattle.geometry.specs.declared.geometry.Geometry.{Geometry}
use Rattle.geometry.specs.Numbers.{per_block, lookups, entries}
use Rattle.nor_core.specs.Flash.{word_at}
use Rattle.image_model.specs.Within.{sizes, slot_fits}
use Rattle.image_model.specs.Places.{IsImage, slot_of, entry_of, is_entry_page, block_of, place_of}
use Rattle.image_model.specs.Headers.{obj_id}
use Rattle.image_model.specs.Live.{live_at, own}
use Rattle.image_model.specs.Files.{is_index}
use Rattle.image_laws.proofs.Frames.{live_parts}
use Rattle.image_laws.proofs.Finish.{own-parts}

-- an index page of an id has this entry in the lookup pages of its block
pub record IsIndexEntry (g : Geometry) (image : List ℕ) (block i id : ℕ) : Type 0 where
  pub behind : lookups g ≤ i
  pub high : 0x8000 ≤ word_at image (block * g.block + 2 * (i - lookups g))
  pub is : word_at image (block * g.block + 2 * (i - lookups g)) % 0x8000 ≡ id

not_less : (a b : ℕ) → not (nat_lt a b) ≡ true → b ≤ a
not_less a b e = ⊎_elim (λ (low : a < b). absurd (false≢true (rw (lt-ltb a b low) at e))) (λ (high : b ≤ a). high) (cases_lt a b)

some_index : (o : Option (List ℕ)) (span : ℕ) → is_index o span ≡ true → (page : List ℕ) × (o ≡ Some page) × (0x8000 ≤ obj_id page)
some_index None span e = absurd (false≢true e)
some_index (Some page) span e = (page, refl, not_less (obj_id page) 0x8000 (and_parts _ _ e).0)

pub index_entry : (g : Geometry) (image : List ℕ) (block i id span : ℕ) → i < per_block g → is_index (own (live_at g image) id (block * per_block g + i)) span ≡ true → IsIndexEntry g image block i id
unfolding entry_of slot_of is_entry_page
index_entry g image block i id span low e =
    let p = block * per_block g + i in
    let page = some_index (own (live_at g image) id p) span e in
    let own = own-parts (live_at g image) id p page.0 page.1 in
    let live = live_parts g image p page.0 own.0 in
    let at : block_of g p ≡ block = div-mul-add block (per_block g) i low in
    let place : place_of g p ≡ i = mod-mul-add block (per_block g) i low in
    let behind : not (nat_lt (place_of g p) (lookups g)) ≡ true = (and_parts _ _ live.entry_page).1 in
    let entry : word_at image (block * g.block + 2 * (i - lookups g)) ≡ obj_id page.0 = rw (at, place) at live.entry in
    record {
      behind = not_less i (lookups g) (rw place at behind);
      high = rw entry page.2;
      is = rw entry own.1;
    }

-- the entry lies inside the image
pub entry_fits : (g : Geometry) (image : List ℕ) (block i : ℕ) → IsImage g image → block < g.blocks → lookups g ≤ i → i < per_block g → block * g.block + 2 * (i - lookups g) + 2 ≤ length image
unfolding entries
entry_fits g image block i is low behind inside =
    let fits = (sizes g).slots_fit in
    let one = slot_fits g image block (i - lookups g) is low (omega (arith, fits, behind, inside)) in
    omega (arith, one)
