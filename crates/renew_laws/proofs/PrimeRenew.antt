-- After what an append does beside, its header page is renewed.
use Rattle.std.proofs.Common.{◌≡◌, ℕ, List, [], true, Some, Result, Ok, length, ap, sym, ◌∙◌}
use Rattle.geometry.specs.declared.geometry.Geometry.{Geometry}
use Rattle.table_model.specs.Table.{File, put_file}
use Rattle.table_model.specs.Files.{written}
use Rattle.image_model.specs.declared.damage.Damage.{Damage}
use Rattle.image_model.specs.Files.{is_index}
use Rattle.image_model.specs.Live.{live_at, own}
use Rattle.image_model.specs.Within.{page_length}
use Rattle.image_model.specs.Tables.{has_of, damaged_of}
use Rattle.image_laws.specs.Programs.{IsHead}
use Rattle.image_laws.proofs.Doubled.{index-span_is}
use Rattle.image_laws.proofs.Finish.{own-parts, has_of-within}
use Rattle.image_laws.proofs.Frames.{live_parts}
use Rattle.image_laws.proofs.Judge.{found_from, index_passes}
use Rattle.std.proofs.lemmas.Bool.{and_parts}
use Rattle.renew_laws.specs.Primed.{PrimedRenews}
use Rattle.renew_laws.specs.Renew.{RenewsTo}
use Rattle.renew_laws.proofs.Appended.{appended-is_written, appended-serves}
use Rattle.renew_laws.proofs.RecopyCuts.{unused-name}
use Rattle.renew_laws.proofs.RenewTidy.{none-left, renewed-tidies}

-- the header page found first is one
old_is_head : (g : Geometry) (b : List ℕ) (id h : ℕ) (head : List ℕ) → own (live_at g b) id h ≡ Some head → is_index (own (live_at g b) id h) 0 ≡ true → IsHead id head
old_is_head g b id h head is passes =
    let named : is_index (Some head) 0 ≡ true = rw is at passes in
    record { index = (and_parts _ _ named).0; of = (own-parts (live_at g b) id h head is).1; first = index-span_is head 0 named }

pub primed-renews : (g : Geometry) → PrimedRenews g
unfolding has_of
primed-renews g a b id h p head head' bytes f beside prime inside kind is_head add named type meta serving =
    let has : has_of g (live_at g b) id ≡ Some (h, Ok f) = found_from g (own (live_at g b) id) id h head prime.at prime.header ∙ ap (λ (r : Result File Damage). Some (h, r)) prime.file in
    let limits = has_of-within g b id h (Ok f) has in
    let lengths : (q : ℕ) (x : List ℕ) → own (live_at g b) id q ≡ Some x → length x ≡ g.page =
    λ q x e. let parts = live_parts g b q x (own-parts (live_at g b) id q x e).0 in ap length (sym parts.bytes) ∙ page_length g b q prime.image parts.entry_page in
    let undamaged : damaged_of g b ≡ [] = prime.tidy.undamaged in
    let passes = index_passes g (own (live_at g b) id) 0 h prime.at in
    let start : RenewsTo g b p h id head head' (written (length f.bytes) bytes f) = record {
      inside = inside;
      leads = record {
        is_head = is_head;
        low = limits.0;
        high = limits.1;
        file = appended-is_written g (own (live_at g b) id) id head head' bytes f lengths prime.file add named type meta;
        undamaged = undamaged;
        unused = unused-name g b id h f undamaged has;
      };
      kind = kind;
      was = prime.header;
      old_head = old_is_head g b id h head prime.header passes;
      only = prime.only;
    } in (
      start,
      none-left g b h id head head' beside prime.tidy prime.at prime.header serving (λ r. (appended-serves g (own (live_at g b) id) head head' bytes add r).0),
      λ c all.
          let w = renewed-tidies g b c p h id head head' (written (length f.bytes) bytes f) beside start prime.at all prime.tidy (λ r e. (prime.mine r e, serving r e)) (λ r. (appended-serves g (own (live_at g b) id) head head' bytes add r).0) in
          (w.0, w.1 ∙ ap (put_file (written (length f.bytes) bytes f)) prime.keeps.table),
    )
