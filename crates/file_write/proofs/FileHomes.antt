-- The header page of a file that is found, and how many data pages the file has.
use Rattle.std.proofs.Common.{◌≡◌, ℕ, ◌+◌, ◌≤◌, List, [], ◌∷◌, length, true, false, ◌==◌, Some, None, ap, sym, ◌∙◌, arith, subst, ⊎_elim}
use Rattle.std.specs.List.{range_with_len, find, sum_by}
use Rattle.std.proofs.lemmas.Bool.{cases_Bool}
use Rattle.std.proofs.lemmas.List.FromFn.{length-range_with_len}
use Rattle.std.proofs.lemmas.List.Sums.{sum_by-cons}
use Rattle.std.proofs.lemmas.Option.{none-some, same_Some}
use Rattle.geometry.proofs.Bounds.{few_pages}
use Rattle.geometry.specs.declared.geometry.Geometry.{Geometry}
use Rattle.geometry.specs.Numbers.{page_count}
use Rattle.table_model.specs.Table.{File, file_of}
use Rattle.table_model.specs.Room.{data_pages, data_count}
use Rattle.image_model.specs.Headers.{size_of}
use Rattle.image_model.specs.Live.{live_at}
use Rattle.image_model.specs.Kinds.{is_data_page, live_data}
use Rattle.image_model.specs.Places.{page_of, IsImage}
use Rattle.image_model.specs.Tables.{table_of}
use Rattle.image_model.specs.Tidy.{IsTidy}
use Rattle.image_laws.proofs.Finish.{own-parts}
use Rattle.image_laws.proofs.Frames.{live_parts}
use Rattle.image_laws.proofs.Tally.{tidy-counts}
use Rattle.image_laws.proofs.TidySteps.{tidy-is_tidy}
use Rattle.free_search.proofs.FreePages.{few_pass}
use Rattle.header_laws.proofs.Telling.{files-have_heads}
use Rattle.renew_laws.specs.Primed.{Primed}
use Rattle.renew_laws.proofs.PrimeBeside.{prime-starts}
use Rattle.page_renew.specs.declared.finding.Found.{Found}
use Rattle.page_renew.specs.Renewals.{IsHome}
use Rattle.file_write.specs.Relinkings.{IsFileAt}

-- a file that stands with nothing beside it does so in a tidy image
pub primed_tidy : (g : Geometry) (a : List ℕ) (id h : ℕ) (head : List ℕ) (f : File) → Primed g id h head f (λ r. false) a a → IsTidy g a
primed_tidy g a id h head f prime = (tidy-is_tidy g a (λ (r : ℕ). false)).1 (λ r e. absurd (cc)) prime.tidy

-- a file of a table has no more data pages than all of them
one_of : (w : File → ℕ) (id : ℕ) (files : List File) (f : File) → find (λ (x : File). x.id == id) files ≡ Some f → w f ≤ sum_by w files
one_of w id [] f none = absurd (cc)
one_of w id (x ∷ files) f there =
    ⊎_elim
    (λ (yes : (x.id == id) ≡ true).
    let here : Some x ≡ Some f = rw yes at there in
    let same : x ≡ f = same_Some x f here in
    let sum : sum_by w (x ∷ files) ≡ w x + sum_by w files = sum_by-cons w x files in
    let e : w x ≡ w f = ap w same in
    omega (arith, sum, e))
    (λ (no : (x.id == id) ≡ false).
    let rest : find (λ (x : File). x.id == id) files ≡ Some f = rw no at there in
    let less = one_of w id files f rest in
    let sum : sum_by w (x ∷ files) ≡ w x + sum_by w files = sum_by-cons w x files in
    omega (arith, sum, less))
    (cases_Bool (x.id == id))

module _ (g : Geometry) (a : List ℕ) (id : ℕ) (f : File) (is : IsImage g a) (tidy : IsTidy g a) (there : file_of id (table_of g a) ≡ Some f) where
  file_few : data_pages g (length f.bytes) ≤ 0xFFFF
  unfolding file_of data_count live_data
  file_few =
      let one = one_of (λ (x : File). data_pages g (length x.bytes)) id (table_of g a) f there in
      let all : live_data g a ≡ data_count g (table_of g a) = (tidy-counts g a is tidy).1 in
      let most = few_pass (λ (p : ℕ). is_data_page (live_at g a p)) (range_with_len 0 (page_count g)) in
      let n = length-range_with_len 0 (page_count g) in
      let few = few_pages g in
      omega (arith, one, all, most, n, few)

  start : (h : ℕ) × (head : List ℕ) × Primed g id h head f (λ r. false) a a
  start = prime-starts g a id f is tidy there

  -- there is a header page
  pub no_home : IsHome g a id None → ⊥
  no_home none = none-some start.0 (sym none ∙ start.2.at)

  pub home_at : (found : Found) → IsHome g a id (Some found) → IsFileAt g a id found.size f
  home_at found is_found =
      let place : start.0 ≡ found.header = same_Some start.0 found.header (sym start.2.at ∙ is_found.0) in
      let live : live_at g a start.0 ≡ Some start.1 = (own-parts (live_at g a) id start.0 start.1 start.2.header).0 in
      let bytes : page_of g a found.header ≡ start.1 = ap (page_of g a) (sym place) ∙ (live_parts g a start.0 start.1 live).bytes in
      let w = files-have_heads g a is tidy id f there in
      let w_place : w.p ≡ start.0 = same_Some w.p start.0 (sym w.at ∙ start.2.at) in
      let long : length f.bytes ≡ size_of start.1 = w.tells.size ∙ ap size_of (same_Some w.page start.1 (sym w.live ∙ ap (live_at g a) w_place ∙ live)) in
      record {
        h = start.0;
        head = start.1;
        prime = start.2;
        told = is_found.1 ∙ ap size_of bytes;
        long = long;
        few = subst (λ (n : ℕ). data_pages g n ≤ 0xFFFF) long file_few;
      }
