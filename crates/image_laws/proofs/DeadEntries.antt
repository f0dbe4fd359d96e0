-- Killing entries of pages that are not live.
use Rattle.std.proofs.Common.{◌≡◌, ◌≢◌, ℕ, zero, suc, ◌+◌, ◌*◌, ◌<◌, ◌≤◌, ◌⊎◌, List, [], ◌∷◌, length, slice_index, Bool, true, false, cond, ◌==◌, ◌&&◌, Option, Some, None, ap, refl, sym, ◌∙◌, arith, ⊎_elim, inl, inr, add-zero}
use Rattle.std.specs.Prelude.{bit_and, filter, is_none}
use Rattle.std.specs.Int.{bit_at}
use Rattle.std.specs.List.{range_with_len}
use Rattle.std.proofs.lemmas.Nat.Bits.{same_from_bits, bit_at_and, bit_at_above}
use Rattle.std.proofs.lemmas.List.{ext_get_or}
use Rattle.std.proofs.lemmas.Bool.{cases_lt, cases_eq, cases_Bool, and_parts, le-ltb, eqb-true, agree_below_at}
use Rattle.geometry.specs.declared.geometry.Geometry.{Geometry}
use Rattle.image_model.specs.Within.{sizes}
use Rattle.geometry.specs.Numbers.{page_count}
use Rattle.nor_core.specs.Flash.{SameOutside, HalfProgrammed}
use Rattle.image_laws.proofs.BetweenTorn.{TornByte, torn_byte}
use Rattle.image_laws.specs.Flash.{Programmed}
use Rattle.image_model.specs.Live.{live_at}
use Rattle.image_model.specs.Places.{page_of, block_of, entry_of, is_entry_page, IsImage, entry_at}
use Rattle.image_model.specs.Headers.{is_finished}
use Rattle.image_model.specs.Tidy.{is_wanted}
use Rattle.image_model.specs.Sound.{HasMagics, Keeps}
use Rattle.image_laws.specs.Kills.{Deletes, DeadFlagsKeep, DeadEntryKeeps, Turned}
use Rattle.image_model.specs.Killed.{is_used, is_killable, killed_of, is_dead_entry, dead_entries}
use Rattle.image_laws.proofs.Bits.{bit_cases}
use Rattle.image_model.specs.Within.{page_number}
use Rattle.image_laws.proofs.Placing.{page_byte}
use Rattle.image_laws.proofs.Frames.{magic-same_page, magic-same_entry, live-page_other, live_at-unfinished, live-entry_changed}
use Rattle.image_laws.proofs.Kill.{deleted_from_flag}
use Rattle.image_laws.proofs.Finished.{torn_from}
use Rattle.image_laws.proofs.Sounding.{keeps-by_live, keeps-on}
use Rattle.image_laws.specs.TidySteps.{Agree}
use Rattle.image_laws.proofs.TidySteps.{agree_page, agree_entry, wide_flags, wanted-same, zeroed}
use Rattle.image_laws.proofs.FreeBlocks.{filter-same}

-- the byte is as it was, or DELET is cleared
deleted_byte : (old asked new : ℕ) → Deletes old asked → TornByte old asked new → (new ≡ old) ⊎ (bit_at new 7 ≡ 0)
deleted_byte old asked new d h =
    ⊎_elim
    (λ (set : bit_at new 7 ≡ 1). inl (same_from_bits new old (λ j. ⊎_elim
    (λ (here : j ≡ 7). rw here (set ∙ sym (h.no_more 7 set)))
    (λ (there : j ≡ 7 → ⊥). ⊎_elim
    (λ (was : bit_at old j ≡ 1). h.kept j was (d.others j there was) ∙ sym was)
    (λ (clear : bit_at old j ≡ 0). ⊎_elim
    (λ (now : bit_at new j ≡ 1). now ∙ sym (h.no_more j now))
    (λ (now : bit_at new j ≡ 0). now ∙ sym clear)
    (bit_cases new j))
    (bit_cases old j))
    (cases_eq j 7))))
    (λ (clear : bit_at new 7 ≡ 0). inr clear)
    (bit_cases new 7)

same_but_byte : (at : ℕ) (asked : ℕ) (a b : List ℕ) → HalfProgrammed at (asked ∷ []) a b → slice_index b at ≡ slice_index a at → b ≡ a
same_but_byte at asked a b h same =
    ext_get_or 0 b a h.outside.size (λ i small.
    ⊎_elim
    (λ (x : i < at). h.outside.before i x)
    (λ (x : at ≤ i). ⊎_elim
    (λ (here : i ≡ at). rw here same)
    (λ (there : i ≡ at → ⊥). h.outside.after i (omega (arith, there)))
    (cases_eq i at))
    (cases_lt i at))

pub unused_flags-live : (g : Geometry) (a b : List ℕ) (p asked : ℕ) → IsImage g a → is_entry_page g p ≡ true → live_at g a p ≡ None → Deletes (slice_index a (p * g.page + 4)) asked →
    HalfProgrammed (p * g.page + 4) (asked ∷ []) a b → (q : ℕ) → live_at g b q ≡ live_at g a q
unused_flags-live g a b p asked is page dead d h q =
    let big : 128 ≤ g.page = (sizes g).page in
    let byte : TornByte (slice_index a (p * g.page + 4)) asked (slice_index b (p * g.page + 4)) = rw add-zero at (torn_byte (p * g.page + 4) (asked ∷ []) a b h 0 (omega arith)) in
    ⊎_elim
    (λ (same : slice_index b (p * g.page + 4) ≡ slice_index a (p * g.page + 4)).
    let e : b ≡ a = same_but_byte (p * g.page + 4) asked a b h same in ap (λ (x : List ℕ). live_at g x q) e)
    (λ (gone : bit_at (slice_index b (p * g.page + 4)) 7 ≡ 0).
    let flag : slice_index (page_of g b p) 4 ≡ slice_index b (p * g.page + 4) = page_byte g b p 4 (omega arith) in
    ⊎_elim
    (λ (here : q ≡ p). let now : live_at g b p ≡ None = live_at-unfinished g b p (deleted_from_flag (page_of g b p) (rw flag gone)) in rw here (now ∙ sym dead))
    (λ (there : q ≡ p → ⊥). live-page_other g (sizes g) a b p page (wide_flags g a b p asked is h) q there)
    (cases_eq q p))
    (deleted_byte (slice_index a (p * g.page + 4)) asked (slice_index b (p * g.page + 4)) d byte)

pub unused_flags-keep : (g : Geometry) → DeadFlagsKeep g
unused_flags-keep g a b p asked is h page dead d torn =
    let live = unused_flags-live g a b p asked is page dead d torn in
    (live, keeps-by_live g a b h (magic-same_page g (sizes g) a b p page (wide_flags g a b p asked is torn)) live)

pub dead_entry-keeps : (g : Geometry) → DeadEntryKeeps g
dead_entry-keeps g a b p asked is h page unfinished two torn =
    let same : SameOutside (entry_at g p) 2 a b = rw two at torn.outside in
    let live = live-entry_changed g (sizes g) a b p page same unfinished in
    (live, keeps-by_live g a b h (magic-same_entry g (sizes g) a b p page same) live)

-- the flags byte done
pub deleted_done : (g : Geometry) (a b : List ℕ) (p asked : ℕ) → IsImage g a → Deletes (slice_index a (p * g.page + 4)) asked → Programmed (p * g.page + 4) (asked ∷ []) a b → is_finished (page_of g b p) ≡ false
deleted_done g a b p asked is d h =
    let big : 128 ≤ g.page = (sizes g).page in
    let byte : slice_index b (p * g.page + 4 + 0) ≡ bit_and (slice_index a (p * g.page + 4 + 0)) asked = h.bytes 0 (omega arith) in
    let now : slice_index b (p * g.page + 4) ≡ bit_and (slice_index a (p * g.page + 4)) asked = rw add-zero at byte in
    let flag : slice_index (page_of g b p) 4 ≡ slice_index b (p * g.page + 4) = page_byte g b p 4 (omega arith) in
    let gone : bit_at (bit_and (slice_index a (p * g.page + 4)) asked) 7 ≡ 0 = omega (arith, bit_at_and (slice_index a (p * g.page + 4)) asked 7, d.cleared) in
    deleted_from_flag (page_of g b p) (rw (flag, now) gone)

-- ---- counting

none_is : (o : Option (List ℕ)) → is_none o ≡ true → o ≡ None
none_is None h = refl
none_is (Some x) h = cc

pub and_false : (x y : Bool) → ((x && false) && y) ≡ false
and_false true y = refl
and_false false y = refl

pub filter-one : (test now : ℕ → Bool) (c a n : ℕ) → a ≤ c → c < a + n → test c ≡ true → now c ≡ false → ((q : ℕ) → q ≢ c → now q ≡ test q) →
    1 + length (filter now (range_with_len a n)) ≡ length (filter test (range_with_len a n))
filter-one test now c a zero low high was is same = absurd (omega arith)
filter-one test now c a (suc n) low high was is same =
    ⊎_elim
    (λ (here : a ≡ c).
    let rest : length (filter now (range_with_len (a + 1) n)) ≡ length (filter test (range_with_len (a + 1) n)) =
    filter-same test now (a + 1) n (λ q low high. same q (λ e. omega (arith, e, here))) in
    let was' : test a ≡ true = rw here was in
    let is' : now a ≡ false = rw here is in
    rw (was', is') (omega (arith, rest)))
    (λ (there : a ≡ c → ⊥).
    let rest = filter-one test now c (a + 1) n (omega (arith, there)) (omega arith) was is same in
    rw (same a there)
    (⊎_elim (λ (yes : test a ≡ true). rw yes (omega (arith, rest))) (λ (no : test a ≡ false). rw no rest) (cases_Bool (test a))))
    (cases_eq a c)

-- the image after both programs against that before
module _ (g : Geometry) (a b : List ℕ) (p : ℕ) (page : is_entry_page g p ≡ true) (agree : Agree g a b p) (live : (q : ℕ) → live_at g b q ≡ live_at g a q) where
  used-same : (q : ℕ) → q ≢ p → is_used g b q ≡ is_used g a q
  unfolding is_used
  used-same q there =
      ⊎_elim
      (λ (yes : is_entry_page g q ≡ true). rw (agree.magic (block_of g q), agree.entry q yes there, agree.page q yes there) refl)
      (λ (no : is_entry_page g q ≡ false). rw no refl)
      (cases_Bool (is_entry_page g q))

  unused-same : (q : ℕ) → q ≢ p → is_dead_entry g b q ≡ is_dead_entry g a q
  unused-same q there = rw (used-same q there, live q) refl

  killable-same : (q : ℕ) → q ≢ p → is_killable g b q ≡ is_killable g a q
  killable-same q there = rw (used-same q there, wanted-same g a b live q) refl

  unused-now : entry_of g b p ≡ 0 → is_used g b p ≡ false
  unfolding is_used
  unused-now e = rw e (and_false _ _)

  unused-killable : is_dead_entry g a p ≡ true → is_killable g a p ≡ true
  unfolding is_wanted
  unused-killable j =
      let w : (is_used g a p ≡ true) × (is_none (live_at g a p) ≡ true) = and_parts (is_used g a p) (is_none (live_at g a p)) j in
      let none : live_at g a p ≡ None = none_is (live_at g a p) w.1 in
      rw (w.0, none) refl

  pub turned : IsImage g b → Keeps g a b → entry_of g b p ≡ 0 → is_dead_entry g a p ≡ true → Turned g p true a b
  unfolding dead_entries killed_of
  turned is keeps e j = record {
    image = is;
    live = live;
    clean = rw (unused-now e) refl;
    others = λ q was. ⊎_elim
        (λ (here : q ≡ p). rw here (rw (unused-now e) refl))
        (λ (there : q ≡ p → ⊥). unused-same q there ∙ was)
        (cases_eq q p);
    dead = filter-one (λ (q : ℕ). is_dead_entry g a q) (λ (q : ℕ). is_dead_entry g b q) p 0 (page_count g) (omega arith) (omega (arith, page_number g p page)) j (rw (unused-now e) refl) unused-same;
    count = filter-one (λ (q : ℕ). is_killable g a q) (λ (q : ℕ). is_killable g b q) p 0 (page_count g) (omega arith) (omega (arith, page_number g p page)) (unused-killable j) (rw (unused-now e) refl) killable-same;
    keeps = keeps;
  }

pub unturned : (g : Geometry) (a : List ℕ) (p : ℕ) → IsImage g a → HasMagics g a → is_dead_entry g a p ≡ false → Turned g p false a a
unturned g a p is h quiet = record {
  image = is;
  live = λ q. refl;
  clean = quiet;
  others = λ q w. w;
  dead = omega arith;
  count = omega arith;
  keeps = keeps-by_live g a a h (λ c. refl) (λ q. refl);
}

pub unused_page : (g : Geometry) (a : List ℕ) (p : ℕ) → is_dead_entry g a p ≡ true → is_entry_page g p ≡ true
unfolding is_used
unused_page g a p unused = let w = and_parts _ _ unused in let v = and_parts _ _ w.0 in let u = and_parts _ _ v.0 in (and_parts _ _ u.0).0

pub unused_dead : (g : Geometry) (a : List ℕ) (p : ℕ) → is_dead_entry g a p ≡ true → live_at g a p ≡ None
unused_dead g a p unused = none_is (live_at g a p) (and_parts _ _ unused).1

-- a turn: flags byte, then entry
module _ (g : Geometry) (a b : List ℕ) (p asked : ℕ) (is : IsImage g a) (h : HasMagics g a) (unused : is_dead_entry g a p ≡ true) (d : Deletes (slice_index a (p * g.page + 4)) asked)
    (one : Programmed (p * g.page + 4) (asked ∷ []) a b) where
  pub first : ((q : ℕ) → live_at g b q ≡ live_at g a q) × Keeps g a b
  first = unused_flags-keep g a b p asked is h (unused_page g a p unused) (unused_dead g a p unused) d (torn_from _ _ _ _ one)

  pub image1 : IsImage g b
  image1 = record { len = omega (arith, one.outside.size, is.len) }

  pub cut_entry : (x : List ℕ) → HalfProgrammed (entry_at g p) (0 ∷ 0 ∷ []) b x → ((q : ℕ) → live_at g x q ≡ live_at g b q) × Keeps g b x
  cut_entry x torn = dead_entry-keeps g b x p (0 ∷ 0 ∷ []) image1 (first.1).sound.magics (unused_page g a p unused) (deleted_done g a b p asked is d one) refl torn

  pub keeps_entry : (x : List ℕ) → HalfProgrammed (entry_at g p) (0 ∷ 0 ∷ []) b x → Keeps g a x
  keeps_entry x torn = keeps-on g a b x first.1 (cut_entry x torn).1

  pub turn_done : (c : List ℕ) (two : Programmed (entry_at g p) (0 ∷ 0 ∷ []) b c) → Turned g p true a c
  turn_done c two =
      let torn = torn_from _ _ _ _ two in
      let s1 : Agree g a b p = agree_page g a b p (sizes g) (unused_page g a p unused) (wide_flags g a b p asked is (torn_from _ _ _ _ one)) in
      let s2 : Agree g b c p = agree_entry g b c p (sizes g) (unused_page g a p unused) two.outside in
      let agree : Agree g a c p = record {
        magic = λ d. s2.magic d ∙ s1.magic d;
        entry = λ q e there. s2.entry q e there ∙ s1.entry q e there;
        page = λ q e there. s2.page q e there ∙ s1.page q e there;
        counts = λ d low. s2.counts d low ∙ s1.counts d low;
      } in
      turned g a c p (unused_page g a p unused) agree (λ q. (cut_entry c torn).0 q ∙ first.0 q)
      (record { len = omega (arith, two.outside.size, one.outside.size, is.len) }) (keeps_entry c torn) (zeroed g b c p two) unused

-- the flags byte with DELET cleared
bits_below : (k : ℕ) → k < 7 → bit_at 0x7F k ≡ 1
bits_below k low = eqb-true _ 1 (agree_below_at (λ (j : ℕ). bit_at 0x7F j == 1) (λ (j : ℕ). true) 7 k refl low)

pub deletes_by : (x : ℕ) → x < 256 → Deletes x (bit_and x 0x7F)
deletes_by x small = record {
  cleared = let e = bit_at_and x 0x7F 7 in let z : bit_at 0x7F 7 ≡ 0 = refl in omega (arith, e, z);
  others = λ k there set. ⊎_elim
      (λ (low : k < 7). let e = bit_at_and x 0x7F k in omega (arith, e, bits_below k low, set))
      (λ (high : 7 ≤ k). let none : bit_at x k ≡ 0 = bit_at_above x 8 k small (omega (arith, there)) in absurd (omega (arith, none, set)))
      (cases_lt k 7);
}

-- ---- the stage, p entries on, with n of them killed

pub record Stage (g : Geometry) (first now : List ℕ) (p n : ℕ) : Type 0 where
  pub image : IsImage g now
  pub live : (q : ℕ) → live_at g now q ≡ live_at g first q
  pub clean : (q : ℕ) → q < p → is_dead_entry g now q ≡ false
  pub unused : n + dead_entries g now ≡ dead_entries g first
  pub count : n + killed_of g now ≡ killed_of g first
  pub keeps : Keeps g first now
  pub few : n ≤ p

pub stage_start : (g : Geometry) (a : List ℕ) → IsImage g a → HasMagics g a → Stage g a a 0 0
stage_start g a is h = record {
  image = is;
  live = λ q. refl;
  clean = λ q low. absurd (omega arith);
  unused = omega arith;
  count = omega arith;
  keeps = keeps-by_live g a a h (λ c. refl) (λ q. refl);
  few = omega arith;
}

pub stage_next : (g : Geometry) (first a b : List ℕ) (p n m : ℕ) (killed : Bool) → Stage g first a p n → Turned g p killed a b → m ≡ n + cond killed 1 0 → m ≤ n + 1 → Stage g first b (p + 1) m
stage_next g first a b p n m killed s t e le = record {
  image = t.image;
  live = λ q. t.live q ∙ s.live q;
  clean = λ q low. ⊎_elim
      (λ (here : q ≡ p). rw here t.clean)
      (λ (there : q ≡ p → ⊥). t.others q (s.clean q (omega (arith, there))))
      (cases_eq q p);
  unused = omega (arith, s.unused, t.dead, e);
  count = omega (arith, s.count, t.count, e);
  keeps = keeps-on g first a b s.keeps t.keeps;
  few = omega (arith, s.few, le);
}

unused_inside : (g : Geometry) (a : List ℕ) (q : ℕ) → page_count g ≤ q → is_dead_entry g a q ≡ false
unfolding is_used is_entry_page
unused_inside g a q high = rw (le-ltb q (page_count g) high) refl

filter-none : (test : ℕ → Bool) (a n : ℕ) → ((q : ℕ) → test q ≡ false) → length (filter test (range_with_len a n)) ≡ 0
filter-none test a zero none = refl
filter-none test a (suc n) none = rw (none a) (filter-none test (a + 1) n none)

pub stage_clean : (g : Geometry) (first a : List ℕ) (p n : ℕ) → page_count g ≤ p → Stage g first a p n → (q : ℕ) → is_dead_entry g a q ≡ false
stage_clean g first a p n all s q = ⊎_elim (λ (low : q < p). s.clean q low) (λ (high : p ≤ q). unused_inside g a q (omega arith)) (cases_lt q p)

pub stage_count : (g : Geometry) (first a : List ℕ) (p n : ℕ) → page_count g ≤ p → Stage g first a p n → n ≡ dead_entries g first
unfolding dead_entries
stage_count g first a p n all s =
    let none : length (filter (λ (q : ℕ). is_dead_entry g a q) (range_with_len 0 (page_count g))) ≡ 0 = filter-none (λ (q : ℕ). is_dead_entry g a q) 0 (page_count g) (stage_clean g first a p n all s) in
    let total : n + length (filter (λ (q : ℕ). is_dead_entry g a q) (range_with_len 0 (page_count g))) ≡ length (filter (λ (q : ℕ). is_dead_entry g first q) (range_with_len 0 (page_count g))) = s.unused in
    omega (arith, none, total)
