use Rattle.std.proofs.Common.{arith}
use Rattle.page_cache.proofs.Places.{count_same}
use Rattle.page_cache.proofs.Held.{held_none}
use Rattle.page_cache.proofs.Findable.{findable_free}
use Rattle.page_cache.proofs.Keeping.{kept_free}
use Rattle.page_cache.proofs.cached.Cached.new.Goals as goal

pub invariant_of-result-clause-kept : goal.invariant_of-result-clause-kept
invariant_of-result-clause-kept g c =
    let same = count_same c.args.geometry c.args.frames.now c.clear.new.frames c.clear.auto.frames in
    kept_free c.args.geometry c.args.nor.now c.args.frames.now c.clear.new.frames same (findable_free c.args.geometry c.args.frames.now c.clear.new.frames same c.clear.ensures) c.clear.ensures

pub returns-clause-empty : goal.returns-clause-empty
returns-clause-empty g c =
    let same = count_same c.args.geometry c.args.frames.now c.clear.new.frames c.clear.auto.frames in
    held_none c.args.geometry c.clear.new.frames (λ f below. (c.clear.ensures f (omega (arith, below, same))).0)
