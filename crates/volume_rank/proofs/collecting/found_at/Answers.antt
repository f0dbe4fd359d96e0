use Rattle.std.proofs.Common.{◌≡◌, ℕ, drop, length, refl, sym, subst}
use Rattle.doubled_ids.specs.Doubled.{doubled_of}
use Rattle.image_model.specs.Kinds.{spoiled_blocks}
use Rattle.volume_detect.specs.Places.{byte_of}
use Rattle.volume_rank.specs.Ranges.{IsRange}
use Rattle.volume_rank.proofs.collecting.found_at.Goals as goal

pub returns-clause-found : goal.returns-clause-found
returns-clause-found c =
    let g = c.args.g.now in
    let file = c.args.file.now in
    let range = c.range_at-range.result in
    let here : IsRange g (drop (byte_of c.args.place) file) range = subst (λ (x : ℕ). IsRange g (drop x file) range) c.byte_of-at.ensures (c.range_at-range.ensures.range c.with_meta-volume.result c.with_meta-volume.ensures) in
    record {
      candidate = g;
      found = c.requires.found;
      volume = record { same = c.with_meta-volume.ensures.same; meta_is = refl };
      range = subst (λ (x : ℕ). IsRange g (drop (byte_of c.args.place) file) (record { first = x; last = range.last; counts = range.counts })) (sym c.with_meta-volume.ensures.meta_is) here;
      spoiled = subst (λ (x : ℕ). c.spoiled_at.result ≡ spoiled_blocks c.with_meta-volume.result (drop x file)) c.byte_of-at.ensures c.spoiled_at.ensures;
      doubled = subst (λ (x : ℕ). c.doubled_at.result ≡ length (doubled_of c.with_meta-volume.result (drop x file))) c.byte_of-at.ensures c.doubled_at.ensures;
    }
