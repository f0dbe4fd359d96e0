-- The records of files, and how full a volume is.
use Rattle.std.proofs.Common.{◌≡◌, ℕ, zero, suc, ◌+◌, ◌-◌, ◌*◌, List, Bool, true, false, refl, sym, ◌∙◌, ap, arith}
use Rattle.std.specs.Prelude.{Option, Some, None, find}
use Rattle.std.specs.List.{range_with_len}
use Rattle.std.specs.Option.{option_map}
use Rattle.geometry.specs.declared.geometry.Geometry.{Geometry}
use Rattle.geometry.specs.Numbers.{entries, page_count}
use Rattle.table_model.specs.Table.{File, file_of, file_named, file_above}
use Rattle.table_model.specs.Files.{stat_of}
use Rattle.table_model.specs.Calls.{info_of}
use Rattle.image_model.specs.Places.{IsImage, page_of}
use Rattle.image_model.specs.Live.{live_at, own}
use Rattle.image_model.specs.Files.{index_page, is_index}
use Rattle.image_laws.proofs.Frames.{live_parts}
use Rattle.image_model.specs.Tables.{table_of}
use Rattle.image_model.specs.Tidy.{IsTidy}
use Rattle.flash_view.specs.Found.{first_named, NextId, has_header}
use Rattle.image_laws.proofs.Tally.{tidy-counts}
use Rattle.header_laws.specs.Heads.{Tells}
use Rattle.header_laws.proofs.HeadCount.{file-count}
use Rattle.header_laws.proofs.HeadPages.{next-is}
use Rattle.header_laws.proofs.HeadNames.{named}
use Rattle.header_laws.proofs.Telling.{head-tells, files-have_heads, found-by_id}
use Rattle.file_calls.specs.declared.room.PageCounts.{PageCounts}
use Rattle.file_calls.specs.Pages.{AreLive}
use Rattle.file_calls.specs.Records.{stat_in}

-- how full a tidy volume is, by the counts of its live pages
pub info_by : (g : Geometry) (image : List ℕ) (c : PageCounts) → IsImage g image → IsTidy g image → AreLive g image c →
    record { files = c.heads; index_pages = c.index_pages; data_pages = c.data_pages; usable_pages = (g.blocks - 2) * entries g } ≡ info_of g (table_of g image)
info_by g image c whole tidy are =
    let counts = tidy-counts g image whole tidy in
    rw (are.heads, are.index, are.pages, file-count g image whole tidy, counts.0, counts.1) refl

-- what a find gives passes its test
passes_by : (t : ℕ → Bool) (a n p : ℕ) (b : Bool) → t a ≡ b → (find t (range_with_len (a + 1) n) ≡ Some p → t p ≡ true) → find t (range_with_len a (suc n)) ≡ Some p → t p ≡ true
passes_by t a n p true here later e = let first : Some a ≡ Some p = rw here at e in let same : a ≡ p = cc in sym (ap t same) ∙ here
passes_by t a n p false here later e = later (rw here at e)

found_passes : (t : ℕ → Bool) (a n p : ℕ) → find t (range_with_len a n) ≡ Some p → t p ≡ true
found_passes t a zero p e = absurd (cc)
found_passes t a (suc n) p e = passes_by t a n p (t a) refl (found_passes t (a + 1) n p) e

module _ (g : Geometry) (image : List ℕ) (whole : IsImage g image) (tidy : IsTidy g image) where
  -- no header page, no file
  no_file_by : (id : ℕ) (o : Option File) → index_page g (own (live_at g image) id) 0 ≡ None → file_of id (table_of g image) ≡ o → o ≡ None
  no_file_by id None none e = refl
  no_file_by id (Some f) none e = let w = files-have_heads g image whole tidy id f e in let never : None ≡ Some w.p = sym none ∙ w.at in absurd (cc)

  pub no_file : (id : ℕ) → index_page g (own (live_at g image) id) 0 ≡ None → None ≡ option_map stat_of (file_of id (table_of g image))
  no_file id none = rw (no_file_by id (file_of id (table_of g image)) none refl) refl

  record_by : (id : ℕ) (page : List ℕ) (f : File) → Tells g image id page f → stat_in g page id ≡ Some (stat_of f)
  record_by id page f t = rw (t.name, t.id_is, t.kind, t.meta, t.size) refl

  -- a header page tells the record
  pub told_by : (id p : ℕ) (page : List ℕ) → index_page g (own (live_at g image) id) 0 ≡ Some p → live_at g image p ≡ Some page → stat_in g page id ≡ option_map stat_of (file_of id (table_of g image))
  told_by id p page at live =
      let w = head-tells g image whole tidy id p page at live in
      record_by id page w.0 w.1 ∙ sym (ap (option_map stat_of) w.1.file)

  -- the page that is found is live, and holds what is read there
  own_live : (id p : ℕ) (o : Option (List ℕ)) → live_at g image p ≡ o → is_index (own (live_at g image) id p) 0 ≡ true → live_at g image p ≡ Some (page_of g image p)
  unfolding own
  own_live id p None dead index = absurd (let no : false ≡ true = rw dead at index in cc)
  own_live id p (Some page) live index = live ∙ ap (λ (l : List ℕ). Some l) (sym (live_parts g image p page live).bytes)

  pub told_at : (id p : ℕ) → index_page g (own (live_at g image) id) 0 ≡ Some p → stat_in g (page_of g image p) id ≡ option_map stat_of (file_of id (table_of g image))
  unfolding index_page
  told_at id p at = told_by id p (page_of g image p) at (own_live id p (live_at g image p) refl (found_passes (λ (q : ℕ). is_index (own (live_at g image) id q) 0) 0 (page_count g) p at))

  -- an id that has a header page, which was found
  pub has_at : (id p : ℕ) → index_page g (own (live_at g image) id) 0 ≡ Some p → has_header g image id ≡ true
  unfolding has_header
  has_at id p at = rw at refl

  -- the record of a name's file, by the id that its header page tells
  named_by : (name : List ℕ) (o : Option File) → file_named name (table_of g image) ≡ o → (id : ℕ) → option_map (λ f. f.id) o ≡ Some id → option_map stat_of (file_of id (table_of g image)) ≡ option_map stat_of o
  named_by name None at id e = absurd (cc)
  named_by name (Some f) at id e = let same : f.id ≡ id = cc in ap (option_map stat_of) (sym (ap (λ (n : ℕ). file_of n (table_of g image)) same) ∙ (found-by_id g image f).0 name at)

  pub of_name : (name : List ℕ) (id : ℕ) → first_named g image name ≡ Some id → option_map stat_of (file_of id (table_of g image)) ≡ option_map stat_of (file_named name (table_of g image))
  of_name name id first = named_by name (file_named name (table_of g image)) refl id (sym (named g image whole tidy name) ∙ first)

  none_by : (o : Option File) → option_map (λ f. f.id) o ≡ None → None ≡ option_map stat_of o
  none_by None e = refl
  none_by (Some f) e = absurd (cc)

  pub no_name : (name : List ℕ) → first_named g image name ≡ None → None ≡ option_map stat_of (file_named name (table_of g image))
  no_name name first = none_by (file_named name (table_of g image)) (sym (named g image whole tidy name) ∙ first)

  above_by : (after : ℕ) (o : Option File) → file_above after (table_of g image) ≡ o → (id : ℕ) → Some id ≡ option_map (λ f. f.id) o → option_map stat_of (file_of id (table_of g image)) ≡ option_map stat_of o
  above_by after None at id e = absurd (cc)
  above_by after (Some f) at id e = let same : f.id ≡ id = cc in ap (option_map stat_of) (sym (ap (λ (n : ℕ). file_of n (table_of g image)) same) ∙ (found-by_id g image f).1 after at)

  pub of_next : (after id : ℕ) → NextId g image after (Some id) → option_map stat_of (file_of id (table_of g image)) ≡ option_map stat_of (file_above after (table_of g image))
  of_next after id next = above_by after (file_above after (table_of g image)) refl id (next-is g image tidy.undamaged after (Some id) next)

  -- an id that has a header page and follows that one is the next
  pub of_after : (after : ℕ) → has_header g image (after + 1) ≡ true → option_map stat_of (file_of (after + 1) (table_of g image)) ≡ option_map stat_of (file_above after (table_of g image))
  of_after after has = of_next after (after + 1) (record { above = omega arith; has = has; least = λ other more is. omega (arith, more) })

  pub no_next : (after : ℕ) → NextId g image after None → None ≡ option_map stat_of (file_above after (table_of g image))
  no_next after next = none_by (file_above after (table_of g image)) (sym (next-is g image tidy.undamaged after None next))
