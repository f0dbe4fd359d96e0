-- A header page is renewed, from what the calls leave.
use Rattle.std.proofs.Common.{◌≡◌, ◌≢◌, ℕ, ◌+◌, ◌*◌, ◌%◌, ◌<◌, ◌≤◌, List, length, take, set, slice_index, Bool, true, false, Some, None, ap, refl, sym, ◌∙◌, arith, ⊎_elim, inl, inr, subst, length-set, get_or-set_same, get_or-set_other}
use Rattle.std.specs.Prelude.{is_some}
use Rattle.std.proofs.lemmas.Bool.{cases_eq}
use Rattle.std.proofs.lemmas.List.{get_or-take, set-set}
use Rattle.std.proofs.lemmas.Option.{none-some, same_Some}
use Rattle.geometry.specs.declared.geometry.Geometry.{Geometry}
use Rattle.table_model.specs.declared.error.Tag.{Tag}
use Rattle.table_model.specs.Table.{File, put_file}
use Rattle.page_layout.specs.Layout.{header_at}
use Rattle.nor_core.specs.Flash.{SameOutside}
use Rattle.page_layout.specs.declared.header.PageHeader.{PageHeader}
use Rattle.image_model.specs.Within.{sizes}
use Rattle.image_model.specs.Headers.{obj_id, names_index}
use Rattle.image_model.specs.Live.{live_at, own}
use Rattle.image_model.specs.Files.{index_page}
use Rattle.image_model.specs.Places.{page_of, is_entry_page, IsImage}
use Rattle.image_model.specs.Sound.{HasMagics}
use Rattle.image_model.specs.Tables.{table_of}
use Rattle.image_laws.specs.LiveSteps.{PutDone, PutLeaves, KillLeaves}
use Rattle.image_laws.specs.Put.{IsReadyPage}
use Rattle.image_laws.proofs.Append.{page_there}
use Rattle.image_laws.proofs.Finish.{own-parts, is_finished-zero}
use Rattle.image_laws.proofs.Frames.{LivePage, live_parts}
use Rattle.image_laws.proofs.Judge.{index_passes}
use Rattle.image_laws.proofs.Placing.{page_byte}
use Rattle.image_laws.proofs.SpareKill.{tidy-has_magics}
use Rattle.image_laws.proofs.Sounding.{keeps-itself}
use Rattle.image_laws.proofs.Tally.{is_finished-ones}
use Rattle.image_laws.proofs.TidySteps.{tidy-is_tidy}
use Rattle.renew_laws.specs.Renew.{RenewsTo}
use Rattle.renew_laws.specs.Replace.{ReplaceCut, Replaced}
use Rattle.renew_laws.proofs.RenewStep.{renew-cuts, renew-spares}
use Rattle.renew_laws.proofs.ReserveKept.{replace-reserve}
use Rattle.trim_laws.specs.Wear.{SameWear}
use Rattle.trim_laws.proofs.Wears.{wear_none, wear_then, programs_keep}
use Rattle.flash_view.specs.declared.kinds.Kind.TheVariants.{Index}
use Rattle.flash_view.specs.Steps.{Begins, Finishes}
use Rattle.free_search.specs.Free.{IsFreeFor, FreePage}
use Rattle.free_search.proofs.FoundPage.{free_of}
use Rattle.free_search.proofs.Had.{page_had}
use Rattle.free_search.proofs.HadBy.{tidy_but_is_clear}
use Rattle.image_model.specs.Tidy.{TellsFree}
use Rattle.page_put.specs.Placing.{placed_page}
use Rattle.page_put.specs.LivePages.{finished_page, killing, putting}
use Rattle.page_put.proofs.Putting.{ready}
use Rattle.page_renew.specs.declared.edits.Edit.{Edit}
use Rattle.page_renew.specs.Edits.{IsEdited, HasEdited}
use Rattle.page_renew.specs.PageSteps.{StepCut}
use Rattle.page_renew.specs.Renewals.{CanReplace, replacing, CanRenew, EditDone, renewing_at, CanEdit, CanEditAt, renewing_from, renewing}
use Rattle.page_renew.proofs.Homes.{index_some, of_kind}
use Rattle.page_renew.proofs.IndexCopies.{high_id, placed_index}
use Rattle.page_renew.proofs.Says.{says_flags}

-- ---- the header page that is found

pub is_home : (g : Geometry) (image : List ℕ) (id header : ℕ) (head : PageHeader) (passed : Bool) → Some header ≡ index_page g (own (live_at g image) id) 0 → head ≡ header_at (page_of g image header) → head.id < 65536 →
    (id ≢ 0 → id ≤ 0x7FFE → head.id % 0x8000 ≡ id → is_entry_page g header ≡ true → passed ≡ true) → passed ≡ false → ⊥
is_home g image id header head passed found is_head word all refused =
    let x = index_some (own (live_at g image) id header) 0 (index_passes g (own (live_at g image) id) 0 header (sym found)) in
    let w = own-parts (live_at g image) id header x.0 x.1 in
    let parts : LivePage g image header x.0 = live_parts g image header x.0 w.0 in
    let id_is : head.id ≡ obj_id x.0 = ap (λ (h : PageHeader). h.id) (is_head ∙ ap header_at parts.bytes) in
    let of : obj_id x.0 % 0x8000 ≡ id = w.1 in
    let some : obj_id x.0 % 0x8000 ≢ 0 = λ z. let bad : false ≡ true = sym (is_finished-zero x.0 z) ∙ parts.finished in absurd (cc) in
    let not_free : obj_id x.0 ≢ 0xFFFF = λ z. let bad : false ≡ true = sym (is_finished-ones x.0 z) ∙ parts.finished in absurd (cc) in
    let high : 0x8000 ≤ obj_id x.0 = high_id x.0 x.2 in
    let here : passed ≡ true = all (λ z. some (of ∙ z)) (omega (arith, id_is, of, not_free, high, word)) (ap (λ (n : ℕ). n % 0x8000) id_is ∙ of) parts.entry_page in
    let bad : false ≡ true = sym refused ∙ here in
    absurd (cc)

-- ---- one page in the place of another

module _ (g : Geometry) (a : List ℕ) (to o : ℕ) (tag : Tag) (built : List ℕ) (can : CanReplace g a to o tag built) where
  pub puts : Begins g a (putting to Index tag built) (replacing to o tag built)
  puts = record { needs = can.put; cut = λ c h. inl h }

  pub then_kills : (b : List ℕ) → PutDone g to (finished_page g Index tag built) a b → Finishes g a b (killing o) (replacing to o tag built)
  then_kills b done =
      let x = page_there (live_at g a o) can.kill.live in
      let other : o ≢ to = λ e. none-some x.0 (sym done.gains.before ∙ ap (live_at g a) (sym e) ∙ x.1) in
      let big : 128 ≤ g.page = (sizes g).page in
      let near : 4 < g.page = omega (arith, big) in
      let byte : slice_index b (o * g.page + 4) ≡ slice_index a (o * g.page + 4) =
      sym (page_byte g b o 4 near) ∙ ap (λ (l : List ℕ). slice_index l 4) (done.agree.page o (live_parts g a o x.0 x.1).entry_page other) ∙ page_byte g a o 4 near in
      record {
        needs = record { live = ap is_some (done.gains.others o other) ∙ can.kill.live; byte = rw byte can.kill.byte };
        cut = λ c h. inr (b, done, h);
        done = λ c ok h. record { middle = b; put = done; kill = h };
      }

-- what is done is one of the cuts
replace_left : {g : Geometry} {p o : ℕ} {page a b : List ℕ} → Replaced g p o page a b → ReplaceCut g p o page a b
replace_left all = inr (all.middle, all.put, record { image = all.kill.image; agree = all.kill.agree; live = inr all.kill.loses; used = rw all.kill.zero refl })

-- one page in the place of another makes no block fresh
pub replace_wear : (g : Geometry) (a c : List ℕ) (to o : ℕ) (page : List ℕ) → ReplaceCut g to o page a c → SameWear g a c
replace_wear g a c to o page left = ⊎_elim
    (λ (put : PutLeaves g to page a c). programs_keep g a c to put.agree)
    (λ (x : (b : List ℕ) × PutDone g to page a b × KillLeaves g o b c). wear_then g a x.0 c (programs_keep g a x.0 to x.1.agree) (programs_keep g x.0 c o x.2.agree))
    left

-- ---- a header page that is renewed

module _ (g : Geometry) (a : List ℕ) (id o to : ℕ) (edit : Edit) (f : File) (work : List ℕ) (is : IsImage g a) (range : (1 ≤ id) × (id ≤ 0x7FFE)) (can : CanRenew g a id o to edit f) (has : HasEdited g a o edit work) where
  abbrev head : List ℕ
  head = can.head

  abbrev tag : Tag
  tag = record { id = id; span = 0 }

  abbrev copy : List ℕ
  copy = take g.page work

  abbrev new : List ℕ
  new = finished_page g Index tag work

  live : live_at g a o ≡ Some head
  live = (own-parts (live_at g a) id o can.head can.says.one.is).0

  copied : IsEdited g can.head edit copy
  copied = subst (λ (l : List ℕ). IsEdited g l edit copy) (live_parts g a o can.head live).bytes has.edited

  names : names_index copy ≡ true
  names = let same = copied.id in rw same can.says.one.is_head.index

  placed_is : placed_page g Index tag work ≡ set copy 4 0xFA
  placed_is =
      placed_index g.page tag work copy copy (sizes g).page copied.len refl names (sym (ap (λ (n : ℕ). n % 0x8000) copied.id ∙ can.says.one.is_head.of)) (sym (copied.span ∙ can.says.one.is_head.first))
      (λ k below. refl) (λ k below. let big : 128 ≤ g.page = (sizes g).page in has.small k (omega (arith, below, big)))

  new_is : new ≡ set copy 4 0xF8
  new_is = ap (λ (l : List ℕ). set l 4 0xF8) placed_is ∙ set-set copy 4 0xFA 0xF8

  flags_alone : SameOutside 4 1 copy new
  flags_alone = rw new_is (record {
    size = length-set copy 4 0xF8;
    before = λ k below. get_or-set_other copy 4 k 0xF8 0 (λ e. omega (arith, e, below));
    after = λ k above. get_or-set_other copy 4 k 0xF8 0 (λ e. omega (arith, e, above));
  })

  edited : IsEdited g can.head edit new
  edited = says_flags g _ copy new copied flags_alone

  is_ready : IsReadyPage g (placed_page g Index tag work) 0xF8
  is_ready =
      let big : 128 ≤ g.page = (sizes g).page in
      let len = copied.len in
      let four : slice_index (set copy 4 0xFA) 4 ≡ 0xFA = get_or-set_same copy 4 0xFA 0 (omega (arith, big, len)) in
      ready g Index tag work (ap length placed_is ∙ length-set copy 4 0xFA ∙ len)
      (λ i within. subst (λ (l : List ℕ). slice_index l i < 256) (sym placed_is)
      (⊎_elim
      (λ (here : i ≡ 4). rw here (rw four (omega arith)))
      (λ (there : i ≡ 4 → ⊥). rw (get_or-set_other copy 4 i 0xFA 0 there) (rw (get_or-take g.page work i 0 within) (has.small i within)))
      (cases_eq i 4)))
      range.0 range.1

  new_names : names_index new ≡ true
  new_names = let same = edited.id in rw same can.says.one.is_head.index

  start : RenewsTo g a to o id head new f
  start = record {
    inside = can.free.entry_page;
    leads = can.says.leads new edited;
    kind = of_kind g a to new can.kind new_names;
    was = can.says.one.is;
    old_head = can.says.one.is_head;
    only = can.says.one.only;
  }

  cut : (c : List ℕ) → ReplaceCut g to o new a c → StepCut g (put_file f (table_of g a)) a c
  cut c h =
      let law = renew-cuts g a c to o id head new f start (tidy-has_magics g a can.beside can.tidy) h in
      record { sound = law.0.sound; table = law.0.table; reserve = λ two. replace-reserve g a c to o new head can.room live two (inl h); wear = replace_wear g a c to o new h }

  done : (b : List ℕ) → Replaced g to o new a b → EditDone g id edit f a b
  done b all =
      let law = renew-spares g a b to o id head new f can.beside start all can.tidy can.mine in
      let left = cut b (replace_left all) in
      record {
        table = law.1;
        o = o;
        to = to;
        head = head;
        y = new;
        edited = edited;
        renews = start;
        replaced = all;
        idles = law.0;
        sound = left.sound;
        reserve = left.reserve;
        wear = left.wear;
      }

  pub renews : Finishes g a a (replacing to o tag work) (renewing_at id o to edit f)
  renews = record {
    needs = record { put = record { free = can.free; ready = is_ready; trim = λ index. can.says.trims new edited }; kill = record { live = ap is_some live; byte = has.flags } };
    cut = cut;
    done = λ c ok h. done c h;
  }

-- ---- where it is put

-- what stands is what a cut may leave
pub stays : (g : Geometry) (a : List ℕ) (files : List File) → HasMagics g a → StepCut g files a a
stays g a files magics = record { sound = (keeps-itself g a magics).sound; table = inl refl; reserve = λ two. two; wear = wear_none g a }

pub renew_stays : (g : Geometry) (a : List ℕ) (id o to : ℕ) (edit : Edit) (f : File) → CanRenew g a id o to edit f → StepCut g (put_file f (table_of g a)) a a
renew_stays g a id o to edit f can = stays g a (put_file f (table_of g a)) (tidy-has_magics g a can.beside can.tidy)

pub edit_stays : (g : Geometry) (a : List ℕ) (id : ℕ) (edit : Edit) (f : File) → CanEdit g a id edit f → StepCut g (put_file f (table_of g a)) a a
edit_stays g a id edit f can = stays g a (put_file f (table_of g a)) (tidy-has_magics g a (λ (r : ℕ). false) ((tidy-is_tidy g a (λ (r : ℕ). false)).0 can.tidy))

-- ---- pages of the id may stand beside

pub at_stays : (g : Geometry) (a : List ℕ) (id o : ℕ) (edit : Edit) (f : File) → CanEditAt g a id o edit f → StepCut g (put_file f (table_of g a)) a a
at_stays g a id o edit f can = stays g a (put_file f (table_of g a)) (tidy-has_magics g a can.beside can.tidy)

-- lookup pages tell the free entries
pub at_tells : (g : Geometry) (a : List ℕ) (id o : ℕ) (edit : Edit) (f : File) → CanEditAt g a id o edit f → TellsFree g a
at_tells g a id o edit f can = (tidy_but_is_clear g a can.beside can.tidy (λ r e. let x = page_there (own (live_at g a) id r) (can.mine r e) in rw (own-parts (live_at g a) id r x.0 x.1).0 refl)).tells

-- where an index page is had, one is found
pub found_one : (g : Geometry) (a : List ℕ) (id o : ℕ) (edit : Edit) (f : File) → CanEditAt g a id o edit f → FreePage g a Index 2 None None → ⊥
found_one g a id o edit f can none = let bad : false ≡ true = page_had g a None none ∙ can.had in absurd (cc)

-- the header page is renewed where one was found
pub by_place : (g : Geometry) (a : List ℕ) (id o to : ℕ) (edit : Edit) (f : File) → IsImage g a → CanEditAt g a id o edit f → IsFreeFor g a Index 2 None to → Finishes g a a (renewing_at id o to edit f) (renewing_from id o edit f)
by_place g a id o to edit f is can found = record {
  needs = record {
    beside = can.beside;
    tidy = can.tidy;
    mine = can.mine;
    head = can.head;
    says = can.says;
    free = free_of g a Index 2 to None is found;
    kind = found.kind_is;
    room = found.keeps;
  };
  cut = λ c cut. cut;
  done = λ c ok done. done;
}

-- the file has a header page
pub no_home : (g : Geometry) (a : List ℕ) (id : ℕ) (edit : Edit) (f : File) → CanEdit g a id edit f → index_page g (own (live_at g a) id) 0 ≡ None → ⊥
no_home g a id edit f can none = none-some can.o (sym none ∙ can.at)

pub from_home : (g : Geometry) (a : List ℕ) (id h : ℕ) (edit : Edit) (f : File) → CanEdit g a id edit f → {home : ℕ} → h ≡ home → index_page g (own (live_at g a) id) 0 ≡ Some home → Finishes g a a (renewing_from id h edit f) (renewing id edit f)
from_home g a id h edit f can {home} same found =
    let at : can.o ≡ h = same_Some can.o h (sym can.at ∙ found ∙ ap (λ (n : ℕ). Some n) (sym same)) in
    record {
      needs = record {
        beside = λ r. false;
        tidy = (tidy-is_tidy g a (λ (r : ℕ). false)).0 can.tidy;
        mine = λ r e. absurd (cc);
        had = can.had;
        head = can.head;
        says = rw at at can.says;
      };
      cut = λ c cut. cut;
      done = λ c ok done. done;
    }
