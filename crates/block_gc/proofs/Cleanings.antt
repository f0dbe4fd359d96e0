-- Cleaning block after block, over plain images.
use Rattle.std.proofs.Common.{◌≡◌, ℕ, ◌+◌, ◌-◌, ◌*◌, ◌/◌, ◌<◌, ◌≤◌, ◌^◌, List, [], ◌∷◌, ◌++◌, length, map, Bool, true, false, Some, None, Result, ap, refl, sym, ◌∙◌, subst, arith, length-append}
use Rattle.std.specs.List.{Contains}
use Rattle.std.specs.Prelude.{nat_le}
use Rattle.std.proofs.Common.{⊎_elim}
use Rattle.std.proofs.lemmas.Bool.{le-leb, lt-leb, cases_lt}
use Rattle.std.proofs.lemmas.Option.{same_Some}
use Rattle.geometry.specs.declared.geometry.Geometry.{Geometry}
use Rattle.nor_core.specs.declared.state.NorState.{Ghosts as NorOf}
use Rattle.nor_core.specs.Device.{OnlyReads}
use Rattle.nor_core.proofs.Cuts.{reads_then}
use Rattle.flash_view.specs.declared.view.View.{View}
use Rattle.image_model.specs.declared.damage.Damage.{Damage}
use Rattle.image_model.specs.Live.{live_at}
use Rattle.image_model.specs.Places.{IsImage}
use Rattle.image_model.specs.Tables.{table_of}
use Rattle.image_model.specs.Tidy.{IsTidy, free_blocks, HasReserve}
use Rattle.geometry.specs.Numbers.{entries}
use Rattle.image_model.specs.Collect.{chosen_block, is_stuck, Swept, are_had, free_where, takes_index, takes_data}
use Rattle.image_model.specs.Sound.{Keeps}
use Rattle.image_laws.proofs.BlockCounts.{blocks-split}
use Rattle.image_laws.proofs.MixedBlocks.{mixed-none}
use Rattle.image_laws.proofs.Sounding.{keeps-on}
use Rattle.image_laws.proofs.SpareKill.{tidy-has_magics}
use Rattle.image_laws.proofs.TidySteps.{tidy-is_tidy}
use Rattle.trim_laws.specs.Wear.{IsRenewed}
use Rattle.flash_view.specs.Steps.{Step, Errors, Stepped, Begins, Finishes}
use Rattle.room_laws.specs.Stopping.{gc_measure, CanClean, HasRoomFor}
use Rattle.room_laws.specs.Mends.{CanMend}
use Rattle.room_laws.proofs.Chosen.{chosen_is_candidate}
use Rattle.room_laws.proofs.CleanedImages.{has_cleaned_can_clean, has_cleaned_is_lower, has_cleaned_mends, has_cleaned_is_swept}
use Rattle.room_laws.proofs.ImageMends.{clean_mends, mended_has_reserve}
use Rattle.room_laws.proofs.Recovering.{mended_recovers, chosen_may_cut}
use Rattle.room_laws.proofs.Totals.{ceil-le}
use Rattle.free_search.proofs.FreePages.{some_entries}
use Rattle.room_laws.proofs.Stops.{reserve_can_clean, measure_is_small, stopped_has_reserve, stopped_has_no_worth, stopped_has_pages, never_stuck, no_worth_is_packed, unstuck_has_no_worth}
use Rattle.block_gc.specs.declared.room.Goal.{Goal}
use Rattle.block_gc.specs.declared.room.Goal.TheVariants.{Pages, Packed, Free}
use Rattle.block_gc.specs.Cleanings.{CanCleanBlock, CleanedBlock, cleaning_block}
use Rattle.block_gc.proofs.CleanedBlocks.{worth_used}
use Rattle.block_gc.proofs.Replacing.{tidy_keeps}
use Rattle.block_gc.specs.Programs.{moved_in, cost_if, cost_of}
use Rattle.block_gc.specs.Most.{most_cleanings, least_left, one_cost}
use Rattle.block_gc.proofs.Most.{cleaned_is_less, left_at_least, cost_most}
use Rattle.std.proofs.Math.Nat.{mul-le-mul_right}
use Rattle.block_gc.specs.RoomMade.{CollectCut, SweepsBlock, SweptAlong, SweptTo, SweptWhile, NoneIs, Never, Cleanings, CleaningsTo, HasStepped, MadeRoom, IsTight, IsCompact, IsStuck, IsReady, IsMet, StopsAt, Collected, PackedOrStuck, cleaning_chosen, FreeStops, FreedUp, IfMet, stepping, collecting, packing}

-- ---- swept steps

pub swept_none : (g : Geometry) (a : List ℕ) → SweptTo g a a
unfolding SweptAlong
swept_none g a = record { through = []; steps = refl }

swept_once : (g : Geometry) (a b : List ℕ) → SweepsBlock g a b → SweptTo g a b
unfolding SweptAlong
swept_once g a b swept = record { through = a ∷ []; steps = (refl, swept) }

along_on : (g : Geometry) (a b c : List ℕ) (first second : List (List ℕ)) → SweptAlong g a first b → SweptAlong g b second c → SweptAlong g a (second ++ first) c
unfolding SweptAlong
along_on g a b c first [] x y = subst (λ (l : List ℕ). SweptAlong g a first l) (sym y) x
along_on g a b c first (m ∷ more) x y = (along_on g a b m first more x y.0, y.1)

swept_on : (g : Geometry) (a b c : List ℕ) → SweptTo g a b → SweptTo g b c → SweptTo g a c
swept_on g a b c first second = record { through = second.through ++ first.through; steps = along_on g a b c first.through second.through first.steps second.steps }

-- ---- what they cost

cost_both : (g : Geometry) (xs ys : List (List ℕ)) → cost_of g (xs ++ ys) ≡ cost_of g xs + cost_of g ys
unfolding cost_of
cost_both g [] ys = omega arith
cost_both g (x ∷ xs) ys = let rest = cost_both g xs ys in omega (arith, rest)

-- one cleaning of the chosen block
cost_once : (g : Geometry) (a b : List ℕ) (block : ℕ) (swept : SweepsBlock g a b) → chosen_block g a ≡ Some block → cost_of g (swept_once g a b swept).through ≡ 6 * moved_in g a block + g.block / g.phys + 2
unfolding cost_of swept_once
cost_once g a b block swept chosen = let is = ap (cost_if g a) chosen in omega (arith, is)

-- ---- images that none of them is

-- one step began at the first image
none_once : (is : List ℕ → Type 0) (g : Geometry) (a b : List ℕ) (through : List (List ℕ)) → SweptAlong g a through b → length through ≡ 1 → (is a → ⊥) → NoneIs is through
unfolding SweptAlong NoneIs
none_once is g a b [] steps one unmet = absurd (omega (arith, one))
none_once is g a b (x ∷ []) steps one unmet = ((λ (here : is x). unmet (subst is steps.0 here)), tt {0})
none_once is g a b (x ∷ y ∷ more) steps one unmet = absurd (omega (arith, one))

none_both : (is : List ℕ → Type 0) (xs ys : List (List ℕ)) → NoneIs is xs → NoneIs is ys → NoneIs is (xs ++ ys)
unfolding NoneIs
none_both is [] ys first second = second
none_both is (x ∷ xs) ys first second = (first.0, none_both is xs ys first.1 second)

-- nor is one that would be more
pub none_more : (is more : List ℕ → Type 0) (images : List (List ℕ)) → ((image : List ℕ) → more image → is image) → NoneIs is images → NoneIs more images
unfolding NoneIs
none_more is more [] weaker none = tt {0}
none_more is more (image ∷ images) weaker none = ((λ (here : more image). none.0 (weaker image here)), none_more is more images weaker none.1)

pub none_of_none : (is : List ℕ → Type 0) (g : Geometry) (a : List ℕ) → NoneIs is (swept_none g a).through
unfolding NoneIs swept_none
none_of_none is g a = tt {0}

-- where nothing was cleaned the number that cleanings lower is the same
pub none_lower : (g : Geometry) (a : List ℕ) → gc_measure g a + length (swept_none g a).through ≤ gc_measure g a
unfolding swept_none
none_lower g a = omega arith

-- ---- one cleaning

pub chosen_can : (g : Geometry) (a : List ℕ) (block : ℕ) → IsTidy g a → chosen_block g a ≡ Some block → CanCleanBlock g a block
chosen_can g a block t chosen = let is = chosen_is_candidate g a block chosen in record { tidy = t; used = worth_used g a block t is.within is.worth; fits = is.fits }

-- the block was made fresh
renewed_block : (g : Geometry) (a b : List ℕ) (block : ℕ) → CleanedBlock g block a b → IsRenewed g block a b
renewed_block g a b block done =
    let cleaned = done.cleaned in
    record {
      within = cleaned.within;
      magic = cleaned.after.magic block cleaned.within;
      count = done.count;
      others = λ d low out. cleaned.after.magic d low ∙ sym (cleaned.before.magic d low);
      counts = λ d low out has. done.others d low out;
    }

sweeps_block : (g : Geometry) (a b : List ℕ) (block : ℕ) → chosen_block g a ≡ Some block → CleanedBlock g block a b → SweepsBlock g a b
sweeps_block g a b block chosen done =
    let swept : Swept g a b = has_cleaned_is_swept g a b block chosen done.cleaned in
    let same : block ≡ swept.block = same_Some block swept.block (sym chosen ∙ swept.chosen) in
    record { swept = swept; fresh = subst (λ (n : ℕ). IsRenewed g n a b) same (renewed_block g a b block done) }

pub one_cleaned : (g : Geometry) (before after : ℕ) (a b : List ℕ) (block : ℕ) → chosen_block g a ≡ Some block → CleanedBlock g block a b →
    after ≤ before + 6 * moved_in g a block + g.block / g.phys + 2 → Cleanings g 1 before after a b
unfolding swept_once
one_cleaned g before after a b block chosen done few =
    let cleaned = done.cleaned in
    let sweeps = sweeps_block g a b block chosen done in
    record {
      image = cleaned.image_is;
      tidy = cleaned.after;
      table = cleaned.table;
      swept = swept_once g a b sweeps;
      count = refl;
      lower = let less = has_cleaned_is_lower g a b block cleaned (chosen_is_candidate g a block chosen).worth in omega (arith, less);
      most = let less = cleaned_is_less g a b block cleaned (chosen_is_candidate g a block chosen).worth in omega (arith, less);
      again = λ can. has_cleaned_can_clean g a b block can cleaned;
      mend = λ can. has_cleaned_mends g a b block can cleaned;
      tails = done.tails;
      few = let cost = cost_once g a b block sweeps chosen in omega (arith, few, cost);
    }

-- ---- cuts

-- where nothing was programmed
pub none_cut : (g : Geometry) (a : List ℕ) → IsTidy g a → CollectCut g a a
none_cut g a t = record { keeps = tidy_keeps g a t; mends = λ can. mended_recovers g a (clean_mends g a can) }

-- a tidy image keeps a tidy one with its table
pub both_keep : (g : Geometry) (a b : List ℕ) → IsTidy g a → IsTidy g b → table_of g b ≡ table_of g a → Keeps g a b
both_keep g a b t now table = record {
  sound = record {
    magics = tidy-has_magics g b (λ (r : ℕ). false) ((tidy-is_tidy g b (λ (r : ℕ). false)).0 now);
    mixed = λ c m. absurd (mixed-none g (live_at g b) now.unmixed c m);
    damaged = λ id is. subst (λ (l : List (ℕ × Damage)). Contains (map (λ (d : ℕ × Damage). d.0) l) id) (now.undamaged ∙ sym t.undamaged) is;
  };
  table = table;
}

-- in a cleaning after others
later_cut : (g : Geometry) {n x y : ℕ} (a b c : List ℕ) → IsTidy g a → Cleanings g n x y a b → CollectCut g b c → CollectCut g a c
later_cut g a b c t before cut = record { keeps = keeps-on g a b c (both_keep g a b t before.tidy before.table) cut.keeps; mends = λ can. cut.mends (before.again can) }

-- ---- one after others

pub cleanings_none : (g : Geometry) (x : ℕ) (a : List ℕ) → IsImage g a → IsTidy g a → Cleanings g 0 x x a a
unfolding swept_none
cleanings_none g x a is t = record { image = is; tidy = t; table = refl; swept = swept_none g a; count = refl; lower = omega arith; most = omega arith; again = λ can. can; mend = λ can. can; tails = λ id ready. ready; few = omega arith }

pub cleanings_on : (g : Geometry) {m : ℕ} (n x y z : ℕ) (a b c : List ℕ) → Cleanings g n x y a b → Cleanings g m y z b c → Cleanings g (n + m) x z a c
unfolding swept_on
cleanings_on g n x y z a b c first second = record {
  image = second.image;
  tidy = second.tidy;
  table = second.table ∙ first.table;
  swept = swept_on g a b c first.swept second.swept;
  count = let p = first.count in let q = second.count in omega (arith, length-append second.swept.through first.swept.through, p, q);
  lower = let p = first.lower in let q = second.lower in omega (arith, p, q);
  most = let p = first.most in let q = second.most in omega (arith, p, q);
  again = λ can. second.again (first.again can);
  mend = λ can. second.mend (first.mend can);
  tails = λ id ready. second.tails id (first.tails id ready);
  few = let p = first.few in let q = second.few in omega (arith, cost_both g second.swept.through first.swept.through, p, q);
}

-- each began where the goal wasn't met, and so did one more
pub needed_none : (g : Geometry) (goal : Goal) (x : ℕ) (a : List ℕ) → IsImage g a → IsTidy g a → CleaningsTo g goal 0 x x a a
unfolding cleanings_none
needed_none g goal x a is t = record { cleanings = cleanings_none g x a is t; needed = none_of_none (λ image. IsMet g image goal) g a }

pub needed_on : (g : Geometry) (goal : Goal) (n x y z : ℕ) (a b c : List ℕ) → CleaningsTo g goal n x y a b → Cleanings g 1 y z b c → (IsMet g b goal → ⊥) → CleaningsTo g goal (n + 1) x z a c
unfolding cleanings_on swept_on
needed_on g goal n x y z a b c first second unmet =
    let last = none_once (λ (image : List ℕ). IsMet g image goal) g b c second.swept.through second.swept.steps second.count unmet in
    record { cleanings = cleanings_on g n x y z a b c first.cleanings second; needed = none_both (λ (image : List ℕ). IsMet g image goal) second.swept.through first.cleanings.swept.through last first.needed }

-- they come to an end
pub cleanings_few : (g : Geometry) {n x y : ℕ} (a b : List ℕ) → IsTidy g a → Cleanings g n x y a b → n < 2 ^ 64 - 1
cleanings_few g a b t so_far = let small = measure_is_small g a t in let lower = so_far.lower in omega (arith, small, lower)

-- that number fell by as many as there are swept steps, at least
lower_by : (g : Geometry) {n x y : ℕ} (a b : List ℕ) (all : Cleanings g n x y a b) → gc_measure g b + length all.swept.through ≤ gc_measure g a
lower_by g a b all = let p = all.count in let q = all.lower in omega (arith, p, q)

most_by : (g : Geometry) {n x y : ℕ} (a b : List ℕ) (all : Cleanings g n x y a b) → most_cleanings g b + length all.swept.through ≤ most_cleanings g a
most_by g a b all = let p = all.count in let q = all.most in omega (arith, p, q)

-- so all of them together take no more than so many of the dearest
pub swept_is_bounded : (g : Geometry) (is : List ℕ → Type 0) (a b : List ℕ) (x y : ℕ) → SweptWhile g is a b x y → y ≤ x + (most_cleanings g a - most_cleanings g b) * one_cost g
swept_is_bounded g is a b x y all =
    let few = all.few in
    let cost = cost_most g all.swept.through in
    let many = all.most in
    let m : length all.swept.through * one_cost g ≤ (most_cleanings g a - most_cleanings g b) * one_cost g = mul-le-mul_right (one_cost g) (omega (arith, many)) in
    omega (arith, few, cost, m)

-- .. by the first image alone
pub swept_by_first : (g : Geometry) (is : List ℕ → Type 0) (a b : List ℕ) (x y : ℕ) → SweptWhile g is a b x y → IsImage g b → IsTidy g b → table_of g b ≡ table_of g a →
    y ≤ x + (most_cleanings g a - least_left g (table_of g a)) * one_cost g
swept_by_first g is a b x y all image tidy table =
    let so_far = swept_is_bounded g is a b x y all in
    let left : least_left g (table_of g a) ≤ most_cleanings g b = rw table at (left_at_least g b image tidy) in
    let m : (most_cleanings g a - most_cleanings g b) * one_cost g ≤ (most_cleanings g a - least_left g (table_of g a)) * one_cost g = mul-le-mul_right (one_cost g) (omega (arith, left)) in
    omega (arith, so_far, m)

-- ---- where collection stops

-- an image that was cleaned so often has its reserve where no block is chosen, if the first had
pub keeps_reserve : (g : Geometry) {n x y : ℕ} (a b : List ℕ) → IsImage g a → IsTidy g a → Cleanings g n x y a b → chosen_block g b ≡ None → HasReserve g a → HasReserve g b
keeps_reserve g a b is t all none reserve = stopped_has_reserve g b (all.again (reserve_can_clean g a is t reserve)) none

-- what the cleanings were for, and what they cost
pub swept_while : (g : Geometry) (goal : Goal) (met : Bool) {x y : ℕ} (a b : List ℕ) → Collected g goal met x y a b → SweptWhile g (λ image. IsMet g image goal) a b x y
swept_while g goal met a b all = record { swept = all.cleanings.swept; lower = lower_by g a b all.cleanings; most = most_by g a b all.cleanings; needed = all.needed; few = all.cleanings.few }

pub made_room : (g : Geometry) (i d : ℕ) {x y : ℕ} (a b : List ℕ) → Collected g (Pages i d) true x y a b → MadeRoom g i d a b
made_room g i d a b all = record { tidy = all.cleanings.tidy; table = all.cleanings.table; swept = all.cleanings.swept; lower = lower_by g a b all.cleanings; needed = all.needed; ready = all.stops; tails = all.cleanings.tails }

pub is_tight : (g : Geometry) (i d : ℕ) {x y : ℕ} (a b : List ℕ) → IsImage g a → IsTidy g a → Collected g (Pages i d) false x y a b → IsTight g i d a b
is_tight g i d a b is t all = record {
  tidy = all.cleanings.tidy;
  table = all.cleanings.table;
  swept = all.cleanings.swept;
  lower = lower_by g a b all.cleanings;
  needed = all.needed;
  none = all.stops.0;
  short = all.stops.1;
  again = all.cleanings.again;
  reserve = keeps_reserve g a b is t all.cleanings all.stops.0;
  tails = all.cleanings.tails;
}

pub never_tight : (g : Geometry) (i d : ℕ) {x y : ℕ} (a b : List ℕ) → CanClean g a → HasRoomFor g a i d → Collected g (Pages i d) false x y a b → ⊥
never_tight g i d a b can room all =
    let here = all.cleanings.again can in
    let there : HasRoomFor g b i d = rw all.cleanings.table room in
    all.stops.1 (record { had = stopped_has_pages g b i d here there all.stops.0; reserve = stopped_has_reserve g b here all.stops.0 })

-- no page is wanted, and none is too few
none_had : (g : Geometry) (a : List ℕ) → are_had g a 0 0 ≡ true
unfolding are_had
none_had g a =
    let index = ceil-le (0 - free_where g a (takes_index g a)) (entries g) 0 (some_entries g) (omega arith) in
    let pages = ceil-le (0 - free_where g a (takes_data g a)) (entries g) 0 (some_entries g) (omega arith) in
    le-leb _ _ (omega (arith, index, pages))

-- that two blocks are free is all that is needed then
pub reserve_ready : (g : Geometry) (a : List ℕ) → HasReserve g a → IsReady g a 0 0
reserve_ready g a reserve = record { had = none_had g a; reserve = reserve }

-- an image that mends is cleaned until two blocks are free
pub mended : (g : Geometry) (i d : ℕ) {x y : ℕ} (a b : List ℕ) → CanMend g a → i ≡ 0 → d ≡ 0 → Collected g (Pages i d) false x y a b → ⊥
mended g i d a b can no_index no_pages all =
    all.stops.1 (record { had = rw (no_index, no_pages) (none_had g b); reserve = mended_has_reserve g b (all.cleanings.mend can) all.stops.0 })

-- packing stops where no block is chosen
pub packing_stops : (g : Geometry) (met : Bool) (a : List ℕ) → StopsAt g Packed met a → chosen_block g a ≡ None
packing_stops g true a none = absurd (none)
packing_stops g false a none = none.0

module _ (g : Geometry) (met : Bool) {x y : ℕ} (a b : List ℕ) (is : IsImage g a) (t : IsTidy g a) (all : Collected g Packed met x y a b) where
  stopped : chosen_block g b ≡ None
  stopped = packing_stops g met b all.stops

  pub is_compact : is_stuck g b ≡ false → IsCompact g a b
  is_compact free =
      let now = all.cleanings.image in
      let there = all.cleanings.tidy in
      let packed = no_worth_is_packed g b now there (λ block low. unstuck_has_no_worth g b block there stopped free low) in
      record {
        tidy = there;
        table = all.cleanings.table;
        swept = all.cleanings.swept;
        lower = lower_by g a b all.cleanings;
        worth = λ block low. unstuck_has_no_worth g b block there stopped free low;
        packed = packed;
        free = let all' = (blocks-split g b now).0 in let index = packed.index in let pages = packed.pages in omega (arith, all', index, pages);
        unstuck = free;
        reserve = keeps_reserve g a b is t all.cleanings stopped;
        tails = all.cleanings.tails;
      }

  pub is_stuck_there : is_stuck g b ≡ true → IsStuck g a b
  is_stuck_there stuck = record {
    tidy = all.cleanings.tidy;
    table = all.cleanings.table;
    swept = all.cleanings.swept;
    lower = lower_by g a b all.cleanings;
    none = stopped;
    stuck = stuck;
    again = all.cleanings.again;
    reserve = keeps_reserve g a b is t all.cleanings stopped;
    tails = all.cleanings.tails;
  }

pub never_stuck_there : (g : Geometry) (a b : List ℕ) → CanClean g a → IsStuck g a b → ⊥
never_stuck_there g a b can stuck = let bad : true ≡ false = sym stuck.stuck ∙ never_stuck g b (stuck.again can) in absurd (cc)

-- ---- the steps

-- nothing was programmed or erased after them
spent_less : (g : Geometry) (goal : Goal) (n x y z : ℕ) (a b : List ℕ) → CleaningsTo g goal n x y a b → z ≤ y → CleaningsTo g goal n x z a b
spent_less g goal n x y z a b all less =
    let c = all.cleanings in
    record {
      cleanings = record {
        image = c.image;
        tidy = c.tidy;
        table = c.table;
        swept = c.swept;
        count = c.count;
        lower = c.lower;
        most = c.most;
        again = c.again;
        mend = c.mend;
        tails = c.tails;
        few = let p = c.few in omega (arith, p, less);
      };
      needed = all.needed;
    }

-- the first n cleanings, one more, and the turn at which collection stops
abbrev pub collecting_to : Goal → (n before after : ℕ) → Step (Unit {0})
collecting_to goal n before after = record { needs = IsTidy; cut = CollectCut; done = λ g was now ok. CleaningsTo g goal n before after was now }

abbrev pub cleaning_more : Goal → (before after : ℕ) → Step (Unit {0})
cleaning_more goal before after = record { needs = IsTidy; cut = CollectCut; done = λ g was now ok. Cleanings g 1 before after was now × (IsMet g was goal → ⊥) }

abbrev pub step_done : (before after : ℕ) → Step Bool
step_done before after = record { needs = IsTidy; cut = CollectCut; done = λ g was now met. HasStepped g before after was now }

abbrev pub stopping : Goal → (before after : ℕ) → Step Bool
stopping goal before after = record { needs = IsTidy; cut = CollectCut; done = λ g was now met. (now ≡ was) × StopsAt g goal met was × (after ≤ before) }

pub cleans_chosen : (g : Geometry) {x y : ℕ} (a : List ℕ) (block : ℕ) → chosen_block g a ≡ Some block → IsTidy g a → Begins g a (cleaning_block block) (cleaning_chosen x y)
cleans_chosen g a block chosen t = record { needs = chosen_can g a block t chosen; cut = λ c cut. record { keeps = cut.keeps; mends = λ can. cut.mends (chosen_may_cut g a block can chosen) } }

-- a turn after n cleanings
pub turn_begins : (g : Geometry) (goal : Goal) {n x y : ℕ} (a : List ℕ) {T : Type 0} (whole : Step T) → ((c : List ℕ) → CollectCut g a c → whole.cut g a c) → IsTidy g a → Begins g a (collecting_to goal n x y) whole
turn_begins g goal a whole wide t = record { needs = t; cut = wide }

pub turn_goes : (g : Geometry) (goal : Goal) {n x y z : ℕ} (a b : List ℕ) → IsTidy g a → CleaningsTo g goal n x y a b → Finishes g a b (cleaning_more goal y z) (collecting_to goal (n + 1) x z)
turn_goes g goal {n} {x} {y} {z} a b t before = record { needs = before.cleanings.tidy; cut = λ c cut. later_cut g a b c t before.cleanings cut; done = λ c ok one. needed_on g goal n x y z a b c before one.0 one.1 }

pub turn_stops : (g : Geometry) (goal : Goal) {n x y z : ℕ} (a b : List ℕ) → IsTidy g a → CleaningsTo g goal n x y a b → Finishes g a b (stopping goal y z) (collecting goal x z)
turn_stops g goal {n} {x} {y} {z} a b t before = record {
  needs = before.cleanings.tidy;
  cut = λ c cut. later_cut g a b c t before.cleanings cut;
  done = λ c met stops.
      let all : CleaningsTo g goal n x z a c = rw stops.0 (spent_less g goal n x y z a b before stops.2) in
      record { n = n; cleanings = all.cleanings; needed = all.needed; stops = rw stops.0 stops.1 };
}

-- a block was cleaned, and then others until two blocks are free
pub step_ends : (g : Geometry) {x y z : ℕ} (a b : List ℕ) → IsTidy g a → Cleanings g 1 x y a b → Finishes g a b (collecting (Pages 0 0) y z) (step_done x z)
step_ends g {x} {y} {z} a b t first = record {
  needs = first.tidy;
  cut = λ c cut. later_cut g a b c t first cut;
  done = λ c met all. record { n = all.n; cleanings = cleanings_on g 1 x y z a b c first all.cleanings; reserve = λ can. by c met all (all.cleanings.again (first.again can)) };
}
  where
    by : (c : List ℕ) (met : Bool) → Collected g (Pages 0 0) met y z b c → CanClean g c → HasReserve g c
    by c true all can = all.stops.reserve
    by c false all can = stopped_has_reserve g c can all.stops.0

-- whether collection is stuck, after it
abbrev pub telling : (before after : ℕ) → Step Bool
telling before after = record { needs = IsTidy; cut = CollectCut; done = λ g was now stuck. (now ≡ was) × (stuck ≡ is_stuck g was) × (after ≤ before) }

pub packing_begins : (g : Geometry) {x y z : ℕ} (a : List ℕ) → IsTidy g a → Begins g a (collecting Packed x y) (packing x z)
packing_begins g a t = record { needs = t; cut = λ c cut. cut }

pub packing_ends : (g : Geometry) (met : Bool) {x y z : ℕ} (a b : List ℕ) → IsImage g a → IsTidy g a → Collected g Packed met x y a b → Finishes g a b (telling y z) (packing x z)
packing_ends g met {x} {y} {z} a b is t all = record {
  needs = all.cleanings.tidy;
  cut = λ c cut. later_cut g a b c t all.cleanings cut;
  done = λ c stuck told. rw told.0 (by_stuck stuck told.1, spent told.2);
}
  where
    spent : z ≤ y → SweptWhile g Never a b x z
    spent less = let w = swept_while g Packed met a b all in record { swept = w.swept; lower = w.lower; most = w.most; needed = w.needed; few = let p = w.few in omega (arith, p, less) }

    by_stuck : (stuck : Bool) → stuck ≡ is_stuck g b → PackedOrStuck g stuck a b
    by_stuck true e = is_stuck_there g met a b is t all (sym e)
    by_stuck false e = is_compact g met a b is t all (sym e)

-- where the goal was met at first nothing is changed
pub idle_then : {N T : Type 0} {nor : NorOf N} {old mid : View N nor} (new : View N nor) {r : Result (Unit {0}) T} {errors : Errors T} (goal : Goal) {n x y : ℕ} → Stepped errors old mid r (collecting_to goal n x y) →
    (nor.tells old.nor.now → IsTidy old.geometry (nor.bytes old.nor.now) → IsMet old.geometry (nor.bytes old.nor.now) goal → OnlyReads nor old.nor.now mid.nor.now) →
    (nor.tells mid.nor.now → IsTidy mid.geometry (nor.bytes mid.nor.now) → IsMet mid.geometry (nor.bytes mid.nor.now) goal → OnlyReads nor mid.nor.now new.nor.now) →
    nor.tells old.nor.now → IsTidy old.geometry (nor.bytes old.nor.now) → IsMet old.geometry (nor.bytes old.nor.now) goal → OnlyReads nor old.nor.now new.nor.now
idle_then new goal call first second tells t met =
    let reads = first tells t met in
    let same = call.framed.same.geometry in
    reads_then reads (second (reads.told tells) (rw (same, reads.bytes) t) (rw (same, reads.bytes) met))

-- so many blocks are free where collection stops, or all is packed
pub freed_up : (g : Geometry) (blocks : ℕ) (met : Bool) {x y : ℕ} (a b : List ℕ) → IsImage g a → IsTidy g a → Collected g (Free blocks) met x y a b → FreedUp g blocks met x y a b
freed_up g blocks met a b is t all = record { n = all.n; cleanings = all.cleanings; needed = all.needed; stops = by met all.stops }
  where
    by : (m : Bool) → StopsAt g (Free blocks) m b → FreeStops g blocks m a b
    by true stops = stops
    by false stops = (
      ⊎_elim (λ (low : free_blocks g b < blocks). low) (λ (enough : blocks ≤ free_blocks g b). absurd (stops.1 enough)) (cases_lt (free_blocks g b) blocks),
      stops.0,
      λ can.
          let here = all.cleanings.again can in
          let p = no_worth_is_packed g b all.cleanings.image all.cleanings.tidy (λ block low. stopped_has_no_worth g b block here stops.0 low) in
          let all' = (blocks-split g b all.cleanings.image).0 in
          let index = p.index in
          let pages = p.pages in
          rw (sym all.cleanings.table) (omega (arith, all', index, pages)),
    )

-- what is told of that goal by a count of free blocks
pub free_met : (g : Geometry) (image : List ℕ) (blocks n : ℕ) → n ≡ free_blocks g image → IfMet g image (Free blocks) (nat_le blocks n)
free_met g image blocks n is = ⊎_elim
    (λ (few : n < blocks). rw (lt-leb blocks n few) (λ enough. omega (arith, few, is, enough)))
    (λ (enough : blocks ≤ n). rw (le-leb blocks n enough) (omega (arith, enough, is)))
    (cases_lt n blocks)

-- two blocks are freed of an image that mends
pub freed_mended : (g : Geometry) (blocks : ℕ) (met : Bool) {x y : ℕ} (a b : List ℕ) → CanMend g a → blocks ≤ 2 → Collected g (Free blocks) met x y a b → met ≡ true
freed_mended g blocks true a b can few all = refl
freed_mended g blocks false a b can few all = let two = mended_has_reserve g b (all.cleanings.mend can) all.stops.0 in absurd (all.stops.1 (omega (arith, two, few)))
