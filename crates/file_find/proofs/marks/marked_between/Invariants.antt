-- The search from `page` on gives the answer.
use Rattle.std.proofs.Common.{◌≡◌, ◌-◌, ℕ}
use Rattle.std.specs.Prelude.{find}
use Rattle.std.specs.List.{range_with_len}
use Rattle.image_model.specs.Tidy.{is_number}
use Rattle.flash_view.specs.Same.{OnlyLooks}
use Rattle.file_find.specs.Marks.{marked_id, head_between}
use Rattle.file_find.proofs.marks.marked_between.Given as goal

abbrev pub invariant-loop-page : goal.invariant-loop-page
invariant-loop-page g l = record {
  looks : OnlyLooks l.fn.v l.v;
  work : l.v.work.now ≡ l.fn.v.work.now;
  told :
      (let image = g.N.NorState.bytes l.fn.v.nor.now in
      g.N.NorState.tells l.fn.v.nor.now →
      find (λ (p : ℕ). is_number (marked_id l.fn.v.geometry image p) l.id) (range_with_len l.page (l.to - l.page)) ≡ head_between l.fn.v.geometry image l.id l.from l.to);
}
