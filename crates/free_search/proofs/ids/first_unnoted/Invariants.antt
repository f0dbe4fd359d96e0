use Rattle.std.proofs.Common.{◌≡◌, ◌==◌, ◌+◌, ◌-◌, ℕ, not}
use Rattle.std.specs.Prelude.{find}
use Rattle.std.specs.List.{range_with_len}
use Rattle.page_layout.specs.Ids.{bit_of}
use Rattle.free_search.proofs.ids.first_unnoted.Given as goal

abbrev pub invariant-loop-id : goal.invariant-loop-id
invariant-loop-id l = record {
  end : l.id-end ≡ l.most + 1;
  first : find (λ (id : ℕ). not (bit_of l.bits id == 1)) (range_with_len l.id (l.id-end - l.id)) ≡ find (λ (id : ℕ). not (bit_of l.bits id == 1)) (range_with_len 1 l.most);
}
