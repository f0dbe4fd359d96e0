-- The copy of a data page is built in the bytes for work.
use Rattle.std.proofs.Common.{◌≡◌, ℕ, ◌+◌, ◌-◌, ◌<◌, ◌≤◌, List, ◌++◌, length, take, slice_index, ap, ◌∙◌, arith, subst}
use Rattle.std.proofs.lemmas.List.{take_at}
use Rattle.geometry.specs.declared.geometry.Geometry.{Geometry}
use Rattle.nor_core.specs.Flash.{SameOutside}
use Rattle.image_model.specs.Places.{page_of}
use Rattle.page_renew.specs.Built.{IsLoaded}
use Rattle.file_write.specs.Patches.{IsPatchedPage, IsPatchedCopy}

-- from 0xFF behind the used bytes, and bytes in their place
pub patched_by : (from used n : ℕ) (bytes old mid new : List ℕ) → n ≡ length old → 5 + used ≤ length old → from + length bytes ≤ used → SameOutside (5 + used) (n - (5 + used)) old mid →
    ((k : ℕ) → 5 + used ≤ k → k < n → slice_index mid k ≡ 0xFF) → ((k : ℕ) → k < length bytes → slice_index new (5 + from + k) ≡ slice_index bytes k) → SameOutside (5 + from) (length bytes) mid new → IsPatchedPage from used bytes old new
patched_by from used n bytes old mid new whole long fits first ones inside second = record {
  size = second.size ∙ first.size;
  head = λ k below. second.before k (omega (arith, below)) ∙ first.before k (omega (arith, below));
  inside = inside;
  before = λ k low below. second.before (5 + k) (omega (arith, low)) ∙ first.before (5 + k) (omega (arith, below));
  after = λ k high below. second.after (5 + k) (omega (arith, high)) ∙ first.before (5 + k) (omega (arith, below));
  erased = λ k high low. second.after (5 + k) (omega (arith, high, fits)) ∙ ones (5 + k) (omega (arith, high)) (omega (arith, low, whole));
}

pub copy_by : (g : Geometry) (image : List ℕ) (page from used n : ℕ) (bytes work new rest : List ℕ) → IsLoaded g image page work → n ≡ g.page → length (take g.page work) ≡ g.page → IsPatchedPage from used bytes (take n work) new → ((k : ℕ) → slice_index new k < 256) →
    IsPatchedCopy g image page from used bytes (new ++ rest)
copy_by g image page from used n bytes work new rest loaded whole long patched small =
    let here : take n work ≡ page_of g image page = ap (λ (m : ℕ). take m work) whole ∙ loaded.same in
    let len : length new ≡ g.page = patched.size ∙ ap (λ (m : ℕ). length (take m work)) whole ∙ long in
    let cut : take g.page (new ++ rest) ≡ new = take_at new rest g.page len in
    record {
      patched = rw cut (subst (λ (l : List ℕ). IsPatchedPage from used bytes l new) here patched);
      small = λ k. rw cut (small k);
      flags = loaded.flags;
    }
