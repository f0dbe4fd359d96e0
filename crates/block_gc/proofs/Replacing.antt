-- What moves of index pages and of data pages share: a page is put, and then another one is killed.
use Rattle.std.proofs.Common.{◌≡◌, ◌≢◌, ℕ, zero, suc, ◌+◌, ◌*◌, ◌%◌, ◌<◌, ◌≤◌, List, [], ◌∷◌, length, set, slice_index, true, Some, Ok, ap, refl, sym, ◌∙◌, arith, ⊎_elim, inr, subst, length-set, get_or-set_same, get_or-set_other}
use Rattle.std.proofs.lemmas.Bool.{cases_eq}
use Rattle.std.proofs.lemmas.Option.{none-some, same_Some}
use Rattle.geometry.specs.declared.geometry.Geometry.{Geometry}
use Rattle.table_model.specs.declared.error.Tag.{Tag}
use Rattle.table_model.specs.Table.{File, put_file}
use Rattle.flash_view.specs.declared.kinds.Kind.TheVariants.{Index}
use Rattle.nor_core.specs.Flash.{SameOutside}
use Rattle.image_model.specs.Within.{sizes}
use Rattle.image_model.specs.Headers.{obj_id, names_index, span_of}
use Rattle.image_model.specs.Live.{live_at, own}
use Rattle.image_model.specs.Places.{IsImage}
use Rattle.image_model.specs.Files.{is_index, index_page}
use Rattle.image_model.specs.Sound.{HasMagics, Keeps}
use Rattle.image_model.specs.Shared.{SameCounts}
use Rattle.image_model.specs.Tables.{has_of, counted, damaged_of, table_of}
use Rattle.image_model.specs.Tidy.{IsTidy, IsNeat}
use Rattle.image_laws.specs.Creating.{CutOf}
use Rattle.image_laws.specs.LiveSteps.{PutDone, KillLeaves, KillDone}
use Rattle.image_laws.specs.Put.{IsReadyPage}
use Rattle.image_laws.specs.TidySteps.{Agree}
use Rattle.image_laws.proofs.Frames.{live_parts}
use Rattle.image_laws.proofs.Judge.{found_parts}
use Rattle.image_laws.proofs.Placing.{page_byte}
use Rattle.image_laws.proofs.Records.{counted-some}
use Rattle.image_laws.proofs.Sounding.{keeps-itself}
use Rattle.image_laws.proofs.Tally.{counted-in, served}
use Rattle.image_laws.proofs.TidySteps.{neat_of}
use Rattle.image_laws.proofs.Wanted.{some_file}
use Rattle.renew_laws.specs.Replace.{ReplaceCut, Replaced}
use Rattle.renew_laws.proofs.RecopyLeaves.{put-same}
use Rattle.page_put.specs.Placing.{placed_page}
use Rattle.page_put.proofs.Putting.{ready}
use Rattle.page_renew.proofs.Homes.{Home, index_some, own_of, serves_first}

-- all blocks of a neat image have their magic, and it keeps itself
pub neat_magics : (g : Geometry) (a : List ℕ) → IsNeat g a → HasMagics g a
neat_magics g a n = record { one = λ b c low low' no no'. let yes = n.magic b low in absurd (cc) }

pub neat_keeps : (g : Geometry) (a : List ℕ) → IsNeat g a → Keeps g a a
neat_keeps g a n = keeps-itself g a (neat_magics g a n)

-- so does a tidy one
pub tidy_keeps : (g : Geometry) (a : List ℕ) → IsTidy g a → Keeps g a a
tidy_keeps g a t = neat_keeps g a (neat_of t)

-- a cut that puts a file as it is keeps the image
pub keeps_same : (g : Geometry) (a c : List ℕ) (id h : ℕ) (f : File) → damaged_of g a ≡ [] → has_of g (live_at g a) id ≡ Some (h, Ok f) → CutOf g a f c → Keeps g a c
keeps_same g a c id h f none has cut = record {
  sound = cut.sound;
  table = ⊎_elim (λ (x : table_of g c ≡ table_of g a). x) (λ (x : table_of g c ≡ put_file f (table_of g a)). x ∙ put-same g a id h f none has) cut.table;
}

-- ---- pages and free blocks

-- the flags of a live page are a byte still once another page is changed
pub flags_stay : (g : Geometry) (a b : List ℕ) (p q : ℕ) (x : List ℕ) → Agree g a b p → live_at g a q ≡ Some x → q ≢ p → slice_index a (q * g.page + 4) < 256 → slice_index b (q * g.page + 4) < 256
flags_stay g a b p q x agree live other small =
    let big : 128 ≤ g.page = (sizes g).page in
    let near : 4 < g.page = omega arith in
    let byte : slice_index b (q * g.page + 4) ≡ slice_index a (q * g.page + 4) =
    sym (page_byte g b q 4 near) ∙ ap (λ (l : List ℕ). slice_index l 4) (agree.page q (live_parts g a q x live).entry_page other) ∙ page_byte g a q 4 near in
    rw byte small

-- a page that is live isn't the one that is put, and is still live once that is put
pub not_put : (g : Geometry) (a b : List ℕ) (p o : ℕ) (page old : List ℕ) → PutDone g p page a b → live_at g a o ≡ Some old → o ≢ p
not_put g a b p o page old put live e = none-some old (sym put.gains.before ∙ ap (live_at g a) (sym e) ∙ live)

pub still_live : (g : Geometry) (a b : List ℕ) (p o : ℕ) (page old : List ℕ) → PutDone g p page a b → live_at g a o ≡ Some old → live_at g b o ≡ Some old
still_live g a b p o page old put live = put.gains.others o (not_put g a b p o page old put live) ∙ live

-- what is done is one of the cuts
pub kill_left : {g : Geometry} {o : ℕ} {a b : List ℕ} → KillDone g o a b → KillLeaves g o a b
kill_left done = record { image = done.image; agree = done.agree; live = inr done.loses; used = rw done.zero refl }

pub replace_left : {g : Geometry} {p o : ℕ} {page a b : List ℕ} → Replaced g p o page a b → ReplaceCut g p o page a b
replace_left all = inr (all.middle, all.put, kill_left all.kill)

-- ---- erase counts

-- they stay from image to image
pub counts_then : (g : Geometry) (a b c : List ℕ) → SameCounts g a b → SameCounts g b c → SameCounts g a c
counts_then g a b c first second block low = second block low ∙ first block low

-- and where a page takes the place of another
pub replaced_counts : {g : Geometry} {p o : ℕ} {page a b : List ℕ} → Replaced g p o page a b → SameCounts g a b
replaced_counts {g} {p} {o} {page} {a} {b} all = counts_then g a all.middle b all.put.agree.counts all.kill.agree.counts

-- ---- index pages

-- the file of a live page of a neat image
pub home_of : (g : Geometry) (a : List ℕ) → IsImage g a → IsNeat g a → (p : ℕ) (page : List ℕ) → live_at g a p ≡ Some page → Home g a (obj_id page % 0x8000)
unfolding has_of
home_of g a is neat p page live =
    let yes = counted-in g a is neat (obj_id page % 0x8000) p page (own_of (live_at g a) p page live) in
    let f = some_file (counted (has_of g (live_at g a)) 0x7FFF (has_of g (live_at g a) (obj_id page % 0x8000))) yes in
    let w = counted-some (has_of g (live_at g a)) 0x7FFF (has_of g (live_at g a) (obj_id page % 0x8000)) f.0 f.1 in
    let v = found_parts g (own (live_at g a) (obj_id page % 0x8000)) (obj_id page % 0x8000) w.0 (Ok f.0) w.1 in
    record { h = w.0; head = v.0; f = f.0; has = w.1; at = v.1; header = v.2; file = v.3 }

-- in a neat image each index page of a file is the first one of its span, and the only one
module _ (g : Geometry) (a : List ℕ) (is : IsImage g a) (neat : IsNeat g a) (id : ℕ) (home : Home g a id) where
  pub index_first : (q : ℕ) (x : List ℕ) → own (live_at g a) id q ≡ Some x → names_index x ≡ true → index_page g (own (live_at g a) id) (span_of x) ≡ Some q
  index_first q x mine index = serves_first g (own (live_at g a) id) home.head x q mine index (served g a is neat id home.h home.head home.at home.header q x mine)

  pub index_alone : (s q : ℕ) → index_page g (own (live_at g a) id) s ≡ Some q → (r : ℕ) → is_index (own (live_at g a) id r) s ≡ true → r ≡ q
  index_alone s q first r passes =
      let x = index_some (own (live_at g a) id r) s passes in
      same_Some r q (sym (index_first r x.0 x.1 x.2) ∙ ap (index_page g (own (live_at g a) id)) x.3 ∙ first)

pub set_twice : (l : List ℕ) (i a b : ℕ) → set (set l i a) i b ≡ set l i b
set_twice [] i a b = refl
set_twice (x ∷ l) zero a b = refl
set_twice (x ∷ l) (suc i) a b = ap (λ (t : List ℕ). x ∷ t) (set_twice l i a b)

-- a byte of a page that both have makes no difference
pub set_outside : (at n v : ℕ) (y z : List ℕ) → 4 < length y → 4 < length z → SameOutside at n y z → SameOutside at n (set y 4 v) (set z 4 v)
set_outside at n v y z long far same = record {
  size = length-set z 4 v ∙ same.size ∙ sym (length-set y 4 v);
  before = λ k below. at_byte k (same.before k below);
  after = λ k above. at_byte k (same.after k above);
}
  where
    at_byte : (k : ℕ) → slice_index z k ≡ slice_index y k → slice_index (set z 4 v) k ≡ slice_index (set y 4 v) k
    at_byte k e =
        ⊎_elim
        (λ (here : k ≡ 4). rw here (get_or-set_same z 4 v 0 far ∙ sym (get_or-set_same y 4 v 0 long)))
        (λ (there : k ≡ 4 → ⊥). get_or-set_other z 4 k v 0 there ∙ e ∙ sym (get_or-set_other y 4 k v 0 there))
        (cases_eq k 4)

-- and a byte that is set is all that differs
pub set_inside : (at v : ℕ) (y : List ℕ) → SameOutside at 1 y (set y at v)
set_inside at v y = record {
  size = length-set y at v;
  before = λ k below. get_or-set_other y at k v 0 (λ e. omega (arith, e, below));
  after = λ k above. get_or-set_other y at k v 0 (λ e. omega (arith, e, above));
}

-- an index page that is built is ready to be put
pub index_ready : (g : Geometry) (tag : Tag) (work y : List ℕ) → placed_page g Index tag work ≡ set y 4 0xFA → length y ≡ g.page → ((k : ℕ) → k < g.page → slice_index y k < 256) → (1 ≤ tag.id) × (tag.id ≤ 0x7FFE) →
    IsReadyPage g (placed_page g Index tag work) 0xF8
index_ready g tag work y is len small id =
    let big : 128 ≤ g.page = (sizes g).page in
    let four : slice_index (set y 4 0xFA) 4 ≡ 0xFA = get_or-set_same y 4 0xFA 0 (omega (arith, big, len)) in
    ready g Index tag work (ap length is ∙ length-set y 4 0xFA ∙ len)
    (λ i within. subst (λ (l : List ℕ). slice_index l i < 256) (sym is)
    (⊎_elim
    (λ (here : i ≡ 4). rw here (rw four (omega arith)))
    (λ (there : i ≡ 4 → ⊥). rw (get_or-set_other y 4 i 0xFA 0 there) (small i within))
    (cases_eq i 4)))
    id.0 id.1
