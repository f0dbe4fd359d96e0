use Rattle.std.proofs.Common.{◌≡◌, ◌+◌, ◌==◌, not, false, ap, sym}
use Rattle.flash_view.proofs.Finds.{find_later}
use Rattle.page_layout.specs.Ids.{bit_of}
use Rattle.free_search.proofs.ids.first_unnoted.Goals as goal

pub loop-id-preserved : goal.loop-id-preserved
loop-id-preserved c = record {
  end = c.loop-id.invariant.end;
  first =
      (let fails : not (bit_of c.args.bits.now c.loop-id.id == 1) ≡ false = ap not (sym c.if-not-is_noted.ensures) in
      find_later (λ id. not (bit_of c.args.bits.now id == 1)) c.loop-id.id (c.args.most + 1) _ c.loop-id-test.true c.loop-id.invariant.first fails);
}
