-- A create, from what the put of its header page leaves.
use Rattle.std.proofs.Common.{◌≡◌, ◌≢◌, ℕ, ◌+◌, ◌-◌, ◌*◌, ◌/◌, ◌%◌, ◌<◌, ◌≤◌, List, [], ◌∷◌, ◌++◌, length, replicate, slice_index, subst, take, true, false, Option, Some, None, is_some, not, ap, refl, sym, ◌∙◌, arith, ⊎_elim, inl, inr, zero, suc, Bool, get_or}
use Rattle.std.specs.List.{All, list_any}
use Rattle.std.proofs.lemmas.Bool.{cases_eq, or_parts, not-false}
use Rattle.std.proofs.lemmas.List.{take_at}
use Rattle.std.proofs.lemmas.Option.{none-some, same_Some}
use Rattle.geometry.specs.declared.geometry.Geometry.{Geometry}
use Rattle.table_model.specs.declared.error.Tag.{Tag}
use Rattle.table_model.specs.Table.{File, has_name, same_text, put_file}
use Rattle.table_model.specs.Files.{new_file}
use Rattle.page_layout.specs.Layout.{new_header_page, padded, IsNewHeader}
use Rattle.image_model.specs.Places.{block_of}
use Rattle.image_model.specs.Headers.{names_index}
use Rattle.image_model.specs.Live.{Live, live_at, own}
use Rattle.image_model.specs.Files.{index_page}
use Rattle.image_model.specs.Tables.{table_of, damaged_of}
use Rattle.image_model.specs.Tidy.{IsTidy, HasReserve, is_free_block, free_blocks, is_wanted}
use Rattle.image_model.specs.Sound.{HasMagics, IsSound}
use Rattle.image_model.specs.Kinds.{is_data_block, is_data_page}
use Rattle.geometry.specs.Numbers.{page_count, per_block, lookups, entries}
use Rattle.image_model.specs.Within.{sizes, entry_of_block, page_number}
use Rattle.flash_view.specs.Found.{has_header}
use Rattle.flash_view.specs.declared.kinds.Kind.TheVariants.{Index}
use Rattle.image_laws.specs.Changes.{Gains}
use Rattle.image_laws.specs.Programs.{LeadsTo}
use Rattle.image_laws.specs.SoundSteps.{IsOfKind}
use Rattle.image_laws.specs.TidySteps.{Agree, IsTidyBut}
use Rattle.image_laws.specs.LiveSteps.{PutLeaves, PutDone}
use Rattle.image_laws.proofs.Finish.{records-changed}
use Rattle.image_laws.proofs.Frames.{live_parts, table_of-same}
use Rattle.image_laws.proofs.FreeBlocks.{free_blocks-fall}
use Rattle.image_laws.proofs.Judge.{judged-keyed}
use Rattle.image_laws.proofs.Publish as publish
use Rattle.image_laws.proofs.Records.{bytes_equal, list_any-at}
use Rattle.image_laws.proofs.Sounding.{sound-by, keeps-by_live, mixed-gains, other-kind, gains-undamaged}
use Rattle.image_laws.proofs.TidySteps.{tidy-is_tidy, entries-but}
use Rattle.image_laws.proofs.Wants.{wanted-gains, wanted-new}
use Rattle.trim_laws.proofs.Wears.{programs_keep}
use Rattle.flash_view.specs.Steps.{Finishes}
use Rattle.page_put.specs.Placing.{placed_page}
use Rattle.page_put.specs.LivePages.{finished_page, putting}
use Rattle.page_put.proofs.Putting.{ready}
use Rattle.file_write.specs.Creates.{CanPut, CreateCut, Created, creating_at}
use Rattle.file_write.proofs.NewHead.{finished_head, length-new_header, byte-new_header, index, of, first, leads, head_trims}

-- ---- what is known of the image

-- no header page is there of an id that is new
no_head : (g : Geometry) (image : List ℕ) (id : ℕ) → has_header g image id ≡ false → index_page g (own (live_at g image) id) 0 ≡ None
unfolding has_header
no_head g image id new = none_there (index_page g (own (live_at g image) id) 0) new
  where
    none_there : (o : Option ℕ) → is_some o ≡ false → o ≡ None
    none_there None e = refl
    none_there (Some q) e = absurd (cc)

-- no file passes a test that none of them passes
none_passes : (test : File → Bool) (files : List File) → list_any test files ≡ false → (k : ℕ) (d : File) → k < length files → test (get_or files k d) ≡ false
none_passes test [] none k d within = absurd (omega arith)
none_passes test (x ∷ files) none zero d within = (or_parts (test x) (list_any test files) none).0
none_passes test (x ∷ files) none (suc k) d within = none_passes test files (or_parts (test x) (list_any test files) none).1 k d (omega arith)

-- no file has a name that is new
unused : (id : ℕ) (name : List ℕ) (files : List File) → has_name name files ≡ false → All (λ x. x.id ≢ id → x.name ≢ name) files
unfolding has_name
unused id name files new = λ k d within other same.
    let no : same_text (get_or files k d).name name ≡ false = none_passes (λ (f : File). same_text f.name name) files new k d within in
    let yes : same_text (get_or files k d).name name ≡ true = rw same (bytes_equal name) in
    let bad : false ≡ true = sym no ∙ yes in
    absurd (cc)

-- the live pages of a block without data pages are index pages
of_kind : (g : Geometry) (image : List ℕ) (p : ℕ) (page : List ℕ) → is_data_block g image (block_of g p) ≡ false → names_index page ≡ true → IsOfKind g (live_at g image) p page
unfolding is_data_block
of_kind g image p page none index = record {
  same = λ q x is at.
      let w = entry_of_block g q (live_parts g image q x is).entry_page in
      let low : block_of g p * per_block g + lookups g ≤ q = rw at at w.0 in
      let high : q < block_of g p * per_block g + lookups g + entries g = rw at at w.1 in
      let no : is_data_page (live_at g image q) ≡ false = list_any-at (λ (r : ℕ). is_data_page (live_at g image r)) _ _ none q low high in
      let names : not (names_index x) ≡ false = rw is at no in
      not-false (names_index x) names ∙ sym index;
}

-- ---- a header page more

module _ (g : Geometry) (a : List ℕ) (p id : ℕ) (name : List ℕ) (some : 1 ≤ id) (small : id ≤ 0x7FFE) (fields : IsNewHeader g id name (new_header_page g.page id name)) (can : CanPut g a p id name) where
  abbrev head : List ℕ
  head = finished_head g.page id name

  abbrev file : File
  file = new_file g id name

  none : index_page g (own (live_at g a) id) 0 ≡ None
  none = no_head g a id can.can.new_id

  -- it leads to the new file
  leads_to : LeadsTo g a id head file
  leads_to = record {
    is_head = record { index = index g id name small; of = of g id name small; first = first g id name small };
    low = some;
    high = omega (arith, small);
    file = leads g id name small fields (own (live_at g a) id);
    undamaged = can.can.tidy.undamaged;
    unused = unused id name (table_of g a) can.can.new_name;
  }

  within : p < page_count g
  within = page_number g p can.free.entry_page

  kind : IsOfKind g (live_at g a) p head
  kind = of_kind g a p head can.kind (index g id name small)

  magics : HasMagics g a
  magics = record { one = λ b c low low' no no'. let bad : true ≡ false = sym (can.can.tidy.magic b low) ∙ no in absurd (cc) }

  reserve : (c : List ℕ) → Agree g a c p → HasReserve g c
  reserve c agree =
      let fall = free_blocks-fall g a c p agree in
      let two : 2 ≤ free_blocks g a = can.can.reserve in
      ⊎_elim
      (λ (used : is_free_block g a (block_of g p) ≡ false). let kept : free_blocks g a ≤ free_blocks g c = fall.1 used in omega arith)
      (λ (more : 2 < free_blocks g a). let one : free_blocks g a ≤ free_blocks g c + 1 = fall.0 in omega arith)
      can.keeps

  module _ (c : List ℕ) (agree : Agree g a c p) (gains : Gains p head (live_at g a) (live_at g c)) where
    undamaged : damaged_of g c ≡ []
    unfolding damaged_of
    undamaged = gains-undamaged g a (live_at g c) p id head file within gains leads_to

    puts : table_of g c ≡ put_file file (table_of g a)
    unfolding table_of damaged_of
    puts =
        records-changed g a (live_at g c) id p file leads_to.low leads_to.high leads_to.undamaged leads_to.unused (judged-keyed g (own (live_at g a) id) id head file leads_to.file)
        (publish.first g a (live_at g c) p id head file within gains leads_to (λ q k. absurd (none-some q (sym none ∙ k)))) (publish.others-same g a (live_at g c) p id head file within gains leads_to)

    sound : IsSound g c a
    sound = sound-by g a c magics agree.magic (mixed-gains g (live_at g a) (live_at g c) p head gains kind) (undamaged ∙ sym leads_to.undamaged)

    unmixed : (q r : ℕ) (x y : List ℕ) → live_at g c q ≡ Some x → live_at g c r ≡ Some y → block_of g q ≡ block_of g r → names_index x ≡ names_index y
    unmixed q r x y e f at =
        ⊎_elim
        (λ (here : q ≡ p). ⊎_elim
        (λ (too : r ≡ p). ap names_index (same_Some x y (sym e ∙ ap (live_at g c) (here ∙ sym too) ∙ f)))
        (λ (there : r ≡ p → ⊥). sym (other-kind g (live_at g a) (live_at g c) p head gains kind r q y x f e (sym at) there here))
        (cases_eq r p))
        (λ (apart : q ≡ p → ⊥). ⊎_elim
        (λ (here : r ≡ p). other-kind g (live_at g a) (live_at g c) p head gains kind q r x y e f at apart here)
        (λ (there : r ≡ p → ⊥). can.can.tidy.unmixed q r x y (sym (gains.others q apart) ∙ e) (sym (gains.others r there) ∙ f) at)
        (cases_eq r p))
        (cases_eq q p)

    tidy : IsTidy g c
    unfolding is_wanted
    tidy =
        let t : IsTidyBut g a (λ q. false) = (tidy-is_tidy g a (λ (q : ℕ). false)).0 can.can.tidy in
        (tidy-is_tidy g c (λ (q : ℕ). false)).1 (λ q e. absurd (cc))
        (record {
          magic = λ b low. agree.magic b ∙ t.magic b low;
          entries = entries-but g a c p (λ (q : ℕ). false) (λ (q : ℕ). false) agree t (λ q there s. s)
              (λ q there w. wanted-gains g a (live_at g c) p id head file within gains leads_to none q there w)
              (inr (inr (inr (wanted-new g a (live_at g c) p id head file within gains leads_to none))));
          undamaged = undamaged;
          unmixed = unmixed;
        })

  put_cut : (c : List ℕ) → PutLeaves g p head a c → CreateCut g a id name c
  put_cut c h =
      ⊎_elim
      (λ (same : live_at g c ≡ live_at g a).
      let live : (q : ℕ) → live_at g c q ≡ live_at g a q = λ q. ap (λ (l : Live). l q) same in
      record { sound = (keeps-by_live g a c magics h.agree.magic live).sound; table = inl (table_of-same g c a live); reserve = reserve c h.agree; wear = programs_keep g a c p h.agree })
      (λ (gains : Gains p head (live_at g a) (live_at g c)). record { sound = sound c h.agree gains; table = inr (puts c h.agree gains); reserve = reserve c h.agree; wear = programs_keep g a c p h.agree })
      h.live

  put_done : (c : List ℕ) → PutDone g p head a c → Created g a id name c
  put_done c h = record { tidy = tidy c h.agree h.gains; reserve = reserve c h.agree; table = puts c h.agree h.gains }

  -- ---- the page that is built

  module _ (few : length name ≤ 31) (bytes : All (λ b. b < 256) name) (page rest : List ℕ) (built : page ≡ new_header_page g.page id name) where
    abbrev back : List ℕ
    back = replicate 7 0xFF ++ (1 ∷ (padded name ++ replicate (g.page - 45) 0xFF))

    behind : take (g.page - 5) (back ++ rest) ≡ back
    behind =
        let whole : length (new_header_page g.page id name) ≡ g.page = length-new_header g.page id name (omega (arith, (sizes g).page)) few in
        let len : length back ≡ g.page - 5 = omega (arith, whole) in
        take_at back rest (g.page - 5) len

    abbrev tag : Tag
    tag = record { id = id; span = 0 }

    low : (id + 0x8000) % 256 ≡ id % 256
    low = omega arith

    high : (id + 0x8000) / 256 ≡ id / 256 + 128
    high = omega arith

    placed_is : placed_page g Index tag (page ++ rest) ≡ new_header_page g.page id name
    placed_is = rw (built, low, high) (ap (λ (l : List ℕ). id % 256 ∷ (id / 256 + 128) ∷ 0 ∷ 0 ∷ 0xFA ∷ l) behind)

    finished_is : finished_page g Index tag (page ++ rest) ≡ head
    finished_is = rw (built, low, high) (ap (λ (l : List ℕ). id % 256 ∷ (id / 256 + 128) ∷ 0 ∷ 0 ∷ 0xF8 ∷ l) behind)

    pub puts_head : Finishes g a a (putting p Index tag (page ++ rest)) (creating_at p id name)
    puts_head =
        let least : 45 ≤ g.page = omega (arith, (sizes g).page) in
        record {
          needs = record {
            free = can.free;
            ready = ready g Index tag (page ++ rest) (ap length placed_is ∙ length-new_header g.page id name least few)
                (λ i within. subst (λ (l : List ℕ). slice_index l i < 256) (sym placed_is) (byte-new_header g.page id name small least few bytes i within)) some small;
            trim = λ index. rw finished_is (head_trims g id name small fields);
          };
          cut = λ c h. put_cut c (rw finished_is at h);
          done = λ c ok h. put_done c (rw finished_is at h);
        }
