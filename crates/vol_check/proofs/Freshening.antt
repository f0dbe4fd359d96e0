-- The block without its magic, made fresh, over plain images.
use Rattle.std.proofs.Common.{◌≡◌, ◌≢◌, ℕ, ◌*◌, ◌<◌, ◌≤◌, ◌⊎◌, ⊎_elim, inl, inr, List, true, false, not, Some, None, Result, OnErr, OnOk, refl, sym, ◌∙◌, subst, arith}
use Rattle.std.specs.Prelude.{find}
use Rattle.std.specs.List.{range_with_len}
use Rattle.std.proofs.Math.Bool.{and-false}
use Rattle.std.proofs.lemmas.Bool.{cases_eq, cases_Bool, lt-ltb, not-true, not-false}
use Rattle.geometry.specs.declared.geometry.Geometry.{Geometry}
use Rattle.nor_core.specs.Flash.{SameOutside}
use Rattle.geometry.specs.Numbers.{page_count}
use Rattle.image_model.specs.Live.{live_at}
use Rattle.image_model.specs.Places.{has_magic, erase_count, next_count, block_of, is_entry_page, IsImage}
use Rattle.image_model.specs.Tidy.{is_free_block, free_blocks}
use Rattle.image_model.specs.Kinds.{spoiled_blocks}
use Rattle.image_model.specs.Killed.{is_used, is_killable, killed_of}
use Rattle.image_model.specs.Shared.{SameUses}
use Rattle.image_model.specs.Sound.{HasMagics}
use Rattle.image_model.specs.Within.{sizes}
use Rattle.image_laws.proofs.Tables.{find_passes}
use Rattle.image_laws.proofs.Append.{find-all}
use Rattle.image_laws.proofs.Erase.{spoiled-is_dead, live-other}
use Rattle.image_laws.proofs.Erasing.{erasing-sound}
use Rattle.image_laws.proofs.FreeBlocks.{filter-same, filter-but}
use Rattle.image_laws.proofs.Matching.{filter-none_in}
use Rattle.image_laws.proofs.TidySteps.{wanted-same}
use Rattle.image_laws.proofs.UsesStay.{uses-itself, uses-fresh}
use Rattle.trim_laws.proofs.Trims.{block_trims}
use Rattle.trim_laws.proofs.Wears.{fresh_wears, fresh_worn}
use Rattle.free_search.proofs.Had.{filter_some}
use Rattle.free_search.proofs.Beside.{page_other, magic_other, entry_other, free_entry_other, free_block_other, free_magic, free_entry_at, free_dead}
use Rattle.room_laws.proofs.Recounts.{fresh_erases}
use Rattle.page_put.specs.Fresh.{Freshens, IsFresh}
use Rattle.nor_core.specs.declared.device.Failed.{Failed}
use Rattle.nor_core.specs.declared.state.NorState.{Ghosts as NorOf}
use Rattle.nor_core.specs.Count.{Rose}
use Rattle.nor_core.specs.Device.{Changes}
use Rattle.flash_view.specs.declared.view.View.{View}
use Rattle.flash_view.specs.Same.{IsSameView, OnlyLooks}
use Rattle.flash_view.specs.Steps.{Finishes, acting, any_image}
use Rattle.flash_view.proofs.Stepped.{acted, after_look}
use Rattle.vol_check.specs.MadeFresh.{HasAllMagics, count_after, MadeFresh}
use Rattle.vol_check.specs.Works.{Work, StageCut, step_of, Worked, making_fresh}
use Rattle.vol_check.proofs.Working.{Goes}
use Rattle.vol_check.proofs.Owning.{own_fresh}

-- ---- the first block that lacks its magic

pub found_spoiled : (g : Geometry) (a : List ℕ) (block : ℕ) → find (λ b. not (has_magic g a b)) (range_with_len 0 g.blocks) ≡ Some block → (block < g.blocks) × (has_magic g a block ≡ false)
found_spoiled g a block found =
    let w = find_passes (λ (b : ℕ). not (has_magic g a b)) 0 g.blocks block found in
    (omega (arith, w.2), not-true (has_magic g a block) w.0)

pub none_spoiled : (g : Geometry) (a : List ℕ) → find (λ b. not (has_magic g a b)) (range_with_len 0 g.blocks) ≡ None → HasAllMagics g a
none_spoiled g a none block low = not-false (has_magic g a block) (find-all (λ (b : ℕ). not (has_magic g a b)) 0 g.blocks none block (omega arith) (omega arith))

-- ---- the pages that a kill could be of

module _ (g : Geometry) (a b : List ℕ) (c : ℕ) (same : SameOutside (c * g.block) g.block a b) where
  used_other : (p : ℕ) → block_of g p ≢ c → is_used g b p ≡ is_used g a p
  unfolding is_used
  used_other p differ = rw (magic_other g a b c same (block_of g p) differ, entry_other g a b c same p differ, page_other g a b c same p differ) refl

module _ (g : Geometry) (b : List ℕ) (c : ℕ) (free : is_free_block g b c ≡ true) where
  free_unused : (p : ℕ) → block_of g p ≡ c → is_used g b p ≡ false
  unfolding is_used
  free_unused p here =
      ⊎_elim
      (λ (page : is_entry_page g p ≡ true). rw (free_entry_at g b c free p page here) (and-false _))
      (λ (lookup : is_entry_page g p ≡ false). rw lookup refl)
      (cases_Bool (is_entry_page g p))

-- ---- what making it fresh leaves

-- making block c fresh, which lacks its magic
abbrev pub freshening : ℕ → Work (Unit {0})
freshening c = record { needs = λ g was. (c < g.blocks) × (has_magic g was c ≡ false); done = λ g was now ok. MadeFresh g true was now; idle = λ g was. ⊥ }

module _ (g : Geometry) (a : List ℕ) (c : ℕ) (is : IsImage g a) (h : HasMagics g a) (low : c < g.blocks) (lacks : has_magic g a c ≡ false) where
  others : (d : ℕ) → d < g.blocks → d ≢ c → has_magic g a d ≡ true
  others d below differ = ⊎_elim (λ (yes : has_magic g a d ≡ true). yes) (λ (no : has_magic g a d ≡ false). absurd (differ (h.one d c below low no lacks))) (cases_Bool (has_magic g a d))

  dead_before : (p : ℕ) → block_of g p ≡ c → live_at g a p ≡ None
  dead_before = spoiled-is_dead g a c lacks

  not_free : is_free_block g a c ≡ false
  unfolding is_free_block
  not_free = rw lacks refl

  unused_before : (p : ℕ) → block_of g p ≡ c → is_used g a p ≡ false
  unfolding is_used
  unused_before p here = let no : has_magic g a (block_of g p) ≡ false = rw here lacks in rw (no, and-false (is_entry_page g p)) refl

  more_free : (x : List ℕ) → SameOutside (c * g.block) g.block a x → free_blocks g a ≤ free_blocks g x
  unfolding free_blocks
  more_free x outside =
      let fall = filter-but (λ (d : ℕ). is_free_block g a d) (λ (d : ℕ). is_free_block g x d) c 0 g.blocks (λ d from to there. free_block_other g a x c outside d (omega arith) there) in
      let tight = rw not_free at fall in
      omega (arith, tight)

  dead_at : (erases : ℕ) (x : List ℕ) → Freshens g c erases a x → (p : ℕ) → block_of g p ≡ c → live_at g x p ≡ None
  dead_at erases x cut = ⊎_elim
      (λ (same : x ≡ a). subst (λ (l : List ℕ). (p : ℕ) → block_of g p ≡ c → live_at g l p ≡ None) (sym same) dead_before)
      (λ (dead : (p : ℕ) → block_of g p ≡ c → live_at g x p ≡ None). dead)
      cut.dead

  live_too : (x : List ℕ) → SameOutside (c * g.block) g.block a x → ((p : ℕ) → block_of g p ≡ c → live_at g x p ≡ None) → (p : ℕ) → live_at g x p ≡ live_at g a p
  live_too x outside dead p = ⊎_elim
      (λ (here : block_of g p ≡ c). dead p here ∙ sym (dead_before p here))
      (λ (there : block_of g p ≡ c → ⊥). live-other g (sizes g) a x c outside p there)
      (cases_eq (block_of g p) c)

  -- the block lacks its magic still, or is free
  fresh_uses : (erases : ℕ) (x : List ℕ) → Freshens g c erases a x → SameUses g a x
  fresh_uses erases x cut = ⊎_elim
      (λ (same : x ≡ a). rw same (uses-itself g a))
      (λ (state : (has_magic g x c ≡ false) ⊎ (is_free_block g x c ≡ true)). uses-fresh g a x c lacks cut.outside (live_too x cut.outside (dead_at erases x cut)) state)
      cut.state

  fresh_cut : (erases : ℕ) (x : List ℕ) → Freshens g c erases a x → StageCut g a x
  fresh_cut erases x cut = record { keeps = record { keeps = erasing-sound g a x c is others cut.outside dead_before (dead_at erases x cut); free = more_free x cut.outside }; uses = fresh_uses erases x cut }

  module _ (b : List ℕ) (erases : ℕ) (next : erases ≡ next_count g a) (fresh : IsFresh g c erases a b) where
    fresh_live : (p : ℕ) → live_at g b p ≡ live_at g a p
    fresh_live = live_too b fresh.outside (free_dead g b c fresh.free)

    fresh_killed : killed_of g b ≡ killed_of g a
    unfolding killed_of
    fresh_killed =
        let used : (p : ℕ) → is_used g b p ≡ is_used g a p = λ p. ⊎_elim
        (λ (here : block_of g p ≡ c). free_unused g b c fresh.free p here ∙ sym (unused_before p here))
        (λ (there : block_of g p ≡ c → ⊥). used_other g a b c fresh.outside p there)
        (cases_eq (block_of g p) c) in
        filter-same (λ (p : ℕ). is_killable g a p) (λ (p : ℕ). is_killable g b p) 0 (page_count g) (λ p from to. rw (used p, wanted-same g a b fresh_live p) refl)

    fresh_counts : (d : ℕ) → d < g.blocks → erase_count g b d ≡ count_after g a d
    fresh_counts d below =
        ⊎_elim
        (λ (here : d ≡ c). rw (here, lacks) (fresh.count ∙ next))
        (λ (there : d ≡ c → ⊥). rw (others d below there) (fresh_erases g a b c fresh.outside d there))
        (cases_eq d c)

    made : MadeFresh g true a b
    unfolding spoiled_blocks
    made = record {
      erased_is = sym (lt-ltb 0 _ (filter_some (λ (d : ℕ). not (has_magic g a d)) 0 g.blocks c (omega arith) (omega arith) (rw lacks refl)));
      magics = λ d below. ⊎_elim
          (λ (here : d ≡ c). rw here (free_magic g b c fresh.free))
          (λ (there : d ≡ c → ⊥). magic_other g a b c fresh.outside d there ∙ others d below there)
          (cases_eq d c);
      live = fresh_live;
      killed = fresh_killed;
      free = λ p page magic. free_entry_other g a b c fresh.outside p (λ here. let no : has_magic g a (block_of g p) ≡ false = rw here lacks in let bad : true ≡ false = sym magic ∙ no in absurd (cc));
      fresh = λ d below none. ⊎_elim
          (λ (here : d ≡ c). rw here fresh.free)
          (λ (there : d ≡ c → ⊥). let bad : true ≡ false = sym (others d below there) ∙ none in absurd (cc))
          (cases_eq d c);
      counts = fresh_counts;
      own = own_fresh g a b c fresh.outside fresh.free;
    }

  -- making it fresh
  freshens : (erases : ℕ) → erases ≡ next_count g a → Finishes g a a (acting any_image (λ h. Freshens h c erases) (λ h. IsFresh h c erases)) (step_of (freshening c))
  freshens erases next = record {
    needs = (
      tt,
      (λ x cut. record {
        trims = block_trims g a x c cut.outside cut.dead;
        wears = fresh_wears g a x c low cut.outside (λ has. ⊎_elim (λ (same : x ≡ a). inl same) (λ (e : erase_count g x c ≡ erases). inr (e ∙ next)) (cut.counts has));
      }),
      λ x fresh. fresh_worn g a x c low fresh.outside (free_magic g x c fresh.free) (fresh.count ∙ next),
    );
    cut = fresh_cut erases;
    done = λ b ok fresh. made b erases next fresh;
  }

-- where all blocks have their magic nothing is done
pub made_none : (g : Geometry) (a : List ℕ) → HasAllMagics g a → MadeFresh g false a a
unfolding spoiled_blocks
made_none g a all =
    let count = filter-none_in (λ (d : ℕ). not (has_magic g a d)) 0 g.blocks (λ d from to. rw (all d (omega arith)) refl) in
    record { erased_is = rw count refl; magics = all; live = λ p. refl; killed = refl; free = λ p page magic. refl; fresh = λ d below none. let bad : true ≡ false = sym (all d below) ∙ none in absurd (cc); counts = λ d below. rw (all d below) refl; own = λ own. own }

-- ---- as works of the check

pub must_be_made : (g : Geometry) (a : List ℕ) (c : ℕ) → (c < g.blocks) × (has_magic g a c ≡ false) → Goes g a a (freshening c) making_fresh
must_be_made g a c found = record { needs = found; idle = λ all. let bad : true ≡ false = sym (all c found.0) ∙ found.1 in absurd (cc) }

-- the count that was told after a look
pub next_told : {N : Type 0} {nor : NorOf N} {old mid : View N nor} (n : ℕ) → OnlyLooks old mid → (nor.tells mid.nor.now → n ≡ next_count mid.geometry (nor.bytes mid.nor.now)) → nor.tells old.nor.now → n ≡ next_count old.geometry (nor.bytes old.nor.now)
next_told {nor = nor} {old = old} {mid = mid} n looks told tells =
    subst (λ (k : Geometry). n ≡ next_count k (nor.bytes old.nor.now)) looks.same.geometry (subst (λ (l : List ℕ). n ≡ next_count mid.geometry l) looks.reads.bytes (told (looks.reads.told tells)))

-- making a block fresh after looks
pub freshens_block : {N : Type 0} {nor : NorOf N} {old mid new : View N nor} {r : Result (Unit {0}) Failed} {c : ℕ} (erases : ℕ) → OnlyLooks old mid → IsSameView mid new → new.wrote ≡ true → OnErr r (Rose (nor.faults mid.nor.now) (nor.faults new.nor.now)) →
    Changes nor mid.nor.now new.nor.now (Freshens mid.geometry c erases) → (nor.tells mid.nor.now → OnOk r (IsFresh mid.geometry c erases (nor.bytes mid.nor.now) (nor.bytes new.nor.now))) →
    (nor.tells mid.nor.now → mid.counted ≡ true → OnOk r (new.counted ≡ true)) → (nor.tells old.nor.now → IsImage old.geometry (nor.bytes old.nor.now)) → (nor.tells old.nor.now → erases ≡ next_count old.geometry (nor.bytes old.nor.now)) → Worked old new r (freshening c)
freshens_block {c = c} erases looks same wrote cause changes done counted image next = record {
  step = after_look looks (acted any_image (λ h. Freshens h c erases) (λ h. IsFresh h c erases) same wrote cause changes done (λ any. counted)) (λ tells need. freshens _ _ c (image tells) need.0 need.1.0 need.1.1 erases (next tells));
  idle = λ tells magics need none. absurd (none);
}
