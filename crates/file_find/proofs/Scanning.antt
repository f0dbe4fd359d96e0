-- Marks that are searched for, many at once, and pages that are passed over by their marks.
use Rattle.std.proofs.Common.{◌≡◌, ◌≢◌, ℕ, zero, suc, ◌+◌, ◌-◌, ◌<◌, ◌≤◌, List, length, slice_index, slice_range, length-take, length-drop, get_or-take, get_or-drop, sym, ◌∙◌, ap, arith, Option, None}
use Rattle.std.specs.Prelude.{find, is_some, option_and_then}
use Rattle.std.specs.List.{range_with_len}
use Rattle.std.proofs.Math.Nat.{sub_self}
use Rattle.std.proofs.lemmas.Bool.{eqb-true, eq-eqb}
use Rattle.geometry.specs.declared.geometry.Geometry.{Geometry}
use Rattle.memchr.specs.Find.{NoneBefore, Nowhere, Passes, is_byte}
use Rattle.flash_view.proofs.Finds.{first_later}
use Rattle.file_find.specs.Marks.{name_mark, MarkedBelow, IsNextMark, holder_at}
use Rattle.file_find.proofs.Holders.{other_mark_name}

-- ---- a search of the marks from one page on and below another

module _ (marks : List ℕ) (sought from end : ℕ) (ordered : from ≤ end) (room : end ≤ length marks) where
  long : length (slice_range marks from end) ≡ end - from
  long = simp (length-take, length-drop) (omega (arith, ordered, room))

  byte_at : (k : ℕ) → k < end - from → slice_index (slice_range marks from end) k ≡ slice_index marks (from + k)
  byte_at k less = rw (get_or-take) (get_or-drop from marks k 0)

  pub scanned_here : (k : ℕ) → NoneBefore (Passes (is_byte sought) (slice_range marks from end)) 0 (length (slice_range marks from end)) k → Passes (is_byte sought) (slice_range marks from end) k → IsNextMark marks sought from end (from + k)
  scanned_here k first passes =
      let below : k < end - from = rw long at first.high in
      record {
        low = omega arith;
        below = omega (arith, below);
        is = sym (byte_at k below) ∙ eqb-true _ _ passes;
        passed = λ q low less same.
            let at : slice_index (slice_range marks from end) (q - from) ≡ sought = byte_at (q - from) (omega (arith, below, low, less)) ∙ ap (slice_index marks) (omega (arith, low)) ∙ same in
            first.before (q - from) (omega arith) (omega (arith, low, less)) (eq-eqb _ _ at);
      }

  pub scanned_none : Nowhere (Passes (is_byte sought) (slice_range marks from end)) 0 (length (slice_range marks from end)) → (q : ℕ) → from ≤ q → q < end → slice_index marks q ≢ sought
  scanned_none none q low less same =
      let at : slice_index (slice_range marks from end) (q - from) ≡ sought = byte_at (q - from) (omega (arith, low, less)) ∙ ap (slice_index marks) (omega (arith, low)) ∙ same in
      none (q - from) (omega arith) (rw long (omega (arith, low, less))) (eq-eqb _ _ at)

-- ---- pages that have nothing are passed over

module _ (at : ℕ → Option ℕ) where
  -- what the first of the pages from `p` on and below `e` has that has something
  abbrev had : ℕ → ℕ → Option ℕ
  had p e = option_and_then at (find (λ q. is_some (at q)) (range_with_len p (e - p)))

  skip_by : (n p q e : ℕ) (found : Option ℕ) → q ≡ p + n → q ≤ e → ((k : ℕ) → p ≤ k → k < q → at k ≡ None) → had p e ≡ found → had q e ≡ found
  skip_by zero p q e found is fits none all = let same : p ≡ q = omega (arith, is) in rw same at all
  skip_by (suc n) p q e found is fits none all =
      skip_by n (p + 1) q e found (omega (arith, is)) fits (λ k low less. none k (omega (arith, low)) less)
      (first_later at p e found (omega (arith, is, fits)) all (none p (omega arith) (omega (arith, is))))

  pub first_skip : (p q e : ℕ) (found : Option ℕ) → p ≤ q → q ≤ e → ((k : ℕ) → p ≤ k → k < q → at k ≡ None) → had p e ≡ found → had q e ≡ found
  first_skip p q e found low high none all = skip_by (q - p) p q e found (omega (arith, low)) high none all

  pub first_ended : (p e : ℕ) (found : Option ℕ) → p ≤ e → ((k : ℕ) → p ≤ k → k < e → at k ≡ None) → had p e ≡ found → None ≡ found
  first_ended p e found low none all = let last = first_skip p e e found low (omega arith) none all in rw (sub_self e) at last

-- a page with another mark than the name's doesn't hold it
pub unheld : (g : Geometry) (image marks name : List ℕ) (sought end k : ℕ) → MarkedBelow g image marks end → sought ≡ name_mark name → k < end → slice_index marks k ≢ sought → holder_at g image name k ≡ None
unheld g image marks name sought end k marked seeks less other = sym (other_mark_name g image name k (slice_index marks k) sought seeks (marked.each k less) other)
