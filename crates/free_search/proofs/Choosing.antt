-- The page that the next one of a kind takes, and what is known of it.
use Rattle.std.proofs.Common.{◌≡◌, ◌≢◌, ℕ, ◌+◌, ◌*◌, ◌<◌, inl, inr, List, Bool, true, false, nat_lt, refl, sym, arith, if◌then◌else◌}
use Rattle.std.specs.Prelude.{Option, Some, None, Result, Ok, Err, IfOk, IfSome, option_and_then}
use Rattle.std.specs.Option.{option_or}
use Rattle.std.proofs.lemmas.Bool.{ltb-true, ltb-false, and_parts}
use Rattle.geometry.specs.declared.geometry.Geometry.{Geometry}
use Rattle.nor_core.specs.declared.device.Failed.{Failed}
use Rattle.image_model.specs.Places.{block_of, is_entry_page, entry_at}
use Rattle.image_model.specs.Tidy.{is_free_entry, is_free_block, free_blocks, TellsFree}
use Rattle.geometry.specs.Numbers.{per_block, lookups, entries}
use Rattle.image_model.specs.Collect.{free_in}
use Rattle.image_model.specs.Within.{entry_in}
use Rattle.image_laws.proofs.Append.{find-all}
use Rattle.image_laws.proofs.Matching.{filter-none_in}
use Rattle.image_laws.proofs.Tables.{find_passes}
use Rattle.flash_view.specs.declared.kinds.Kind.{Kind}
use Rattle.flash_view.specs.Places.{IsWordAt}
use Rattle.free_search.specs.Free.{FreePage, takes_kind, the_open_block, the_least_worn, the_block, the_first_free, the_free_page}
use Rattle.free_search.proofs.FreePages.{used_of, not_other, no_other, free_whole, some_entries}
use Rattle.free_search.proofs.Worn.{may_take, is_other, none_free, least_parts}

module _ (g : Geometry) (image : List ℕ) (tells : TellsFree g image) where
  -- ---- the first free entry of a block

  entry_parts : (block p : ℕ) → block < g.blocks → the_first_free g image block ≡ Some p → (is_entry_page g p ≡ true) × (block_of g p ≡ block) × (is_free_entry g image p ≡ true)
  unfolding the_first_free
  entry_parts block p below found = let w = find_passes (λ q. is_free_entry g image q) (block * per_block g + lookups g) (entries g) p found in let at = entry_in g block p below w.1 w.2 in (at.1, at.0, w.0)

  no_entry : (block : ℕ) → the_first_free g image block ≡ None → free_in g image block ≡ 0
  unfolding the_first_free free_in
  no_entry block none = filter-none_in (λ p. is_free_entry g image p) (block * per_block g + lookups g) (entries g) (find-all (λ p. is_free_entry g image p) (block * per_block g + lookups g) (entries g) none)

  module _ (kind : Kind) (keep : ℕ) (not_in : Option ℕ) where
    -- ---- the lowest-numbered open block

    open_parts : (block : ℕ) → the_open_block g image kind not_in ≡ Some block → (block < g.blocks) × (Some block ≢ not_in) × (takes_kind g image kind block ≡ true) × (0 < free_in g image block)
    unfolding the_open_block
    open_parts block found =
        let w = find_passes _ 0 g.blocks block found in
        let parts = and_parts _ _ w.0 in
        let is = and_parts _ _ parts.1 in
        (omega (arith, w.2), is_other not_in block parts.0, is.0, ltb-true 0 _ is.1)

    none_open : the_open_block g image kind not_in ≡ None → (block : ℕ) → block < g.blocks → Some block ≢ not_in → takes_kind g image kind block ≡ true → free_in g image block ≡ 0
    unfolding the_open_block
    none_open none block below other takes =
        let shut : nat_lt 0 (free_in g image block) ≡ false = rw (may_take not_in block other, takes) at (find-all _ 0 g.blocks none block (omega arith) (omega (arith, below))) in
        let few = ltb-false 0 _ shut in
        omega (arith, few)

    -- ---- the entry of an open block, and of a free one

    in_open : (block : ℕ) (found : Option ℕ) → the_open_block g image kind not_in ≡ Some block → the_first_free g image block ≡ found → IfSome found (λ p. IsWordAt image (entry_at g p)) → FreePage g image kind keep not_in found
    in_open block None is none word = absurd (let some = (open_parts block is).3 in let zero_in = no_entry block none in omega (arith, some, zero_in))
    in_open block (Some p) is entry word =
        let o = open_parts block is in
        let e = entry_parts block p o.0 entry in
        let used = used_of g image kind block o.2 in
        record {
          page = e.0;
          magic = rw e.1 (tells.magic block o.0);
          free = e.2;
          word = word;
          kind_is = rw e.1 (not_other g image kind block o.2);
          keeps = inl (rw e.1 used);
          apart = rw e.1 o.1;
          opened = λ still. rw e.1 o.2;
          last = λ free. absurd (let no : is_free_block g image (block_of g p) ≡ false = rw e.1 used in cc);
        }

    in_free : (block : ℕ) (found : Option ℕ) → keep < free_blocks g image → the_open_block g image kind not_in ≡ None → the_least_worn g image not_in ≡ Some block → the_first_free g image block ≡ found → IfSome found (λ p. IsWordAt image (entry_at g p)) →
        FreePage g image kind keep not_in found
    in_free block None more none is missing word = absurd (let w = least_parts g image not_in block is in let whole = free_whole g image block w.2 in let some = some_entries g in let zero_in = no_entry block missing in omega (arith, whole, some, zero_in))
    in_free block (Some p) more none is entry word =
        let w = least_parts g image not_in block is in
        let e = entry_parts block p w.0 entry in
        record {
          page = e.0;
          magic = rw e.1 (tells.magic block w.0);
          free = e.2;
          word = word;
          kind_is = rw e.1 (no_other g image kind block w.2);
          keeps = inr more;
          apart = rw e.1 w.1;
          opened = λ used. absurd (let whole : is_free_block g image (block_of g p) ≡ true = rw e.1 w.2 in cc);
          last = λ free. none_open none;
        }

    -- ---- the page

    by_free : (more : Bool) (least found : Option ℕ) → nat_lt keep (free_blocks g image) ≡ more → the_least_worn g image not_in ≡ least → the_open_block g image kind not_in ≡ None →
        found ≡ option_and_then (the_first_free g image) (if more then least else None) → IfSome found (λ p. IsWordAt image (entry_at g p)) → FreePage g image kind keep not_in found
    by_free false least found few is none at word = rw at (record { full = none_open none; kept = inl (ltb-false _ _ few) })
    by_free true None found more is none at word = rw at (record { full = none_open none; kept = inr (none_free g image not_in is) })
    by_free true (Some block) found more is none at word = in_free block found (ltb-true _ _ more) none is (sym at) word

    by_open : (block found : Option ℕ) → the_open_block g image kind not_in ≡ block → found ≡ option_and_then (the_first_free g image) (option_or block (if nat_lt keep (free_blocks g image) then the_least_worn g image not_in else None)) →
        IfSome found (λ p. IsWordAt image (entry_at g p)) → FreePage g image kind keep not_in found
    by_open (Some block) found is at word = in_open block found is (sym at) word
    by_open None found is at word = by_free (nat_lt keep (free_blocks g image)) (the_least_worn g image not_in) found refl refl is at word

    -- it is free for the kind, and where there is none nothing is
    pub page_fits : (found : Option ℕ) → found ≡ the_free_page g image kind keep not_in → IfSome found (λ p. IsWordAt image (entry_at g p)) → FreePage g image kind keep not_in found
    unfolding the_free_page the_block
    page_fits found at word = by_open (the_open_block g image kind not_in) found refl at word

    -- as the calls tell it
    pub page_told : (r : Result (Option ℕ) Failed) → IfOk r (λ found. found ≡ the_free_page g image kind keep not_in) → IfOk r (λ found. IfSome found (λ p. IsWordAt image (entry_at g p))) → IfOk r (λ found. FreePage g image kind keep not_in found)
    page_told (Err why) at word = tt
    page_told (Ok found) at word = page_fits found at word
