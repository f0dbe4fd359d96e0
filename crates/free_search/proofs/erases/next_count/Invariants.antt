-- The greatest of the blocks below `block`, with those to come, is the greatest of all.
use Rattle.std.proofs.Common.{◌≡◌, ◌+◌, ◌-◌, ℕ, map, max, true}
use Rattle.std.specs.Prelude.{filter}
use Rattle.std.specs.List.{range_with_len, fold}
use Rattle.image_model.specs.Places.{has_magic, erase_count}
use Rattle.flash_view.specs.Same.{OnlyLooks}
use Rattle.free_search.proofs.erases.next_count.Given as goal

abbrev pub invariant-loop-block : goal.invariant-loop-block
invariant-loop-block g l = record {
  looks : OnlyLooks l.fn.v l.v;
  quick : l.fn.v.counted ≡ true → l.v.nor.now ≡ l.fn.v.nor.now;
  end : l.block-end ≡ l.fn.v.geometry.blocks;
  told :
      (let image = g.N.NorState.bytes l.fn.v.nor.now in
      let geometry = l.fn.v.geometry in
      g.N.NorState.tells l.fn.v.nor.now →
      fold max l.next (map (λ (b : ℕ). erase_count geometry image b + 1) (filter (λ (b : ℕ). has_magic geometry image b) (range_with_len l.block (l.block-end - l.block))))
      ≡ fold max 0 (map (λ (b : ℕ). erase_count geometry image b + 1) (filter (λ (b : ℕ). has_magic geometry image b) (range_with_len 0 geometry.blocks))));
}
