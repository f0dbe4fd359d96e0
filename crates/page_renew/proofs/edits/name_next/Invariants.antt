-- The data pages so far are named.
use Rattle.std.proofs.Common.{◌≡◌, ℕ, take, length}
use Rattle.page_renew.specs.Edits.{Header, Says, naming}
use Rattle.page_renew.proofs.edits.name_next.Given as goal

abbrev pub invariant-loop-i : goal.invariant-loop-i
invariant-loop-i l = record {
  end : l.i-end ≡ length l.pages;
  size : length l.page ≡ l.fn.g.page;
  says : ((h : Header) → Says l.fn.g h l.fn.page → Says l.fn.g (naming l.span (take l.i l.pages) h) l.page);
}
