-- A put as a step over the live pages.
use Rattle.std.proofs.Common.{◌≡◌, ℕ, ◌+◌, ◌*◌, ◌%◌, ◌<◌, ◌≤◌, List, [], ◌∷◌, length, slice_index, true, false, nat_lt, ◌==◌, ◌||◌, refl, sym, ◌∙◌, arith, ⊎_elim, inl, inr, subst}
use Rattle.std.specs.Int.{bit_at}
use Rattle.std.proofs.lemmas.Nat.Bits.{bit_at_above}
use Rattle.std.proofs.lemmas.Bool.{cases_lt, agree_below, agree_below_at, or_cases, eqb-true, le-ltb, lt-ltb, ne_eqb}
use Rattle.geometry.specs.declared.geometry.Geometry.{Geometry}
use Rattle.table_model.specs.declared.error.Tag.{Tag}
use Rattle.nor_core.specs.Flash.{HalfProgrammed, programmed}
use Rattle.flash_view.specs.declared.kinds.Kind.{Kind}
use Rattle.flash_view.specs.declared.kinds.Kind.TheVariants.{Index, Data}
use Rattle.image_model.specs.Within.{sizes}
use Rattle.image_model.specs.Places.{IsImage}
use Rattle.image_model.specs.Headers.{obj_id, is_finished}
use Rattle.image_laws.specs.Programs.{ClearsBit}
use Rattle.image_laws.specs.Put.{IsReadyPage}
use Rattle.image_laws.specs.LiveSteps.{PutCut, PutLeaves, PutDone}
use Rattle.image_laws.proofs.LiveStep.{put-changes}
use Rattle.image_laws.proofs.PutStep.{byte3}
use Rattle.trim_laws.specs.Wear.{Worn}
use Rattle.flash_view.specs.Steps.{Finishes, making, any_image}
use Rattle.page_put.specs.Placing.{placed_flags, finished_flags, placed_page, with_entry, with_header, with_page, put_by, IsPlacing, IsPutting}
use Rattle.page_put.specs.LivePages.{finished_page, IsPuttable, putting}
use Rattle.trim_laws.proofs.Trims.{put_trims}
use Rattle.trim_laws.proofs.Wears.{programs_keep, upkeep_same, worn_same}
use Rattle.page_put.proofs.Finishing.{programs_place, finish_clears_final}

-- ---- the page is ready to be put

-- the finished flags clear FINAL alone
clears_by : (old new : ℕ) → bit_at old 1 ≡ 1 → bit_at new 1 ≡ 0 → agree_below (λ (k : ℕ). (k == 1) || (bit_at new k == bit_at old k)) (λ (k : ℕ). true) 8 ≡ true → old < 256 → new < 256 → ClearsBit 1 old new
clears_by old new set cleared same low small = record {
  set = set;
  cleared = cleared;
  others = λ j other. ⊎_elim
      (λ (below : j < 8). ⊎_elim
      (λ (e : (j == 1) ≡ true). absurd (other (eqb-true j 1 e)))
      (λ (e : (bit_at new j == bit_at old j) ≡ true). eqb-true _ _ e)
      (or_cases _ _ (agree_below_at (λ (k : ℕ). (k == 1) || (bit_at new k == bit_at old k)) (λ (k : ℕ). true) 8 j same below)))
      (λ (high : 8 ≤ j). bit_at_above new 8 j small high ∙ sym (bit_at_above old 8 j low high))
      (cases_lt j 8);
}

clears_final : (kind : Kind) → ClearsBit 1 (placed_flags kind) (finished_flags kind)
clears_final Index = clears_by 0xFA 0xF8 refl refl refl (omega arith) (omega arith)
clears_final Data = clears_by 0xFE 0xFC refl refl refl (omega arith) (omega arith)

-- the page says itself that it is live
lives : (g : Geometry) (kind : Kind) (tag : Tag) (built : List ℕ) → 1 ≤ tag.id → tag.id ≤ 0x7FFE → is_finished (finished_page g kind tag built) ≡ true
unfolding is_finished
lives g Index tag built some small =
    let id : obj_id (finished_page g Index tag built) ≡ tag.id + 0x8000 = omega arith in
    let some_id : ((tag.id + 0x8000) % 0x8000 == 0) ≡ false = ne_eqb _ _ (omega arith) in
    let not_free : (tag.id + 0x8000 == 0xFFFF) ≡ false = ne_eqb _ _ (omega arith) in
    let high : nat_lt (tag.id + 0x8000) 0x8000 ≡ false = le-ltb (tag.id + 0x8000) 0x8000 (omega arith) in
    rw (id, some_id, not_free, high) refl
lives g Data tag built some small =
    let id : obj_id (finished_page g Data tag built) ≡ tag.id = omega arith in
    let some_id : (tag.id % 0x8000 == 0) ≡ false = ne_eqb _ _ (omega arith) in
    let not_free : (tag.id == 0xFFFF) ≡ false = ne_eqb _ _ (omega arith) in
    let low : nat_lt tag.id 0x8000 ≡ true = lt-ltb tag.id 0x8000 (omega arith) in
    rw (id, some_id, not_free, low) refl

pub ready : (g : Geometry) (kind : Kind) (tag : Tag) (built : List ℕ) → length (placed_page g kind tag built) ≡ g.page → ((i : ℕ) → i < g.page → slice_index (placed_page g kind tag built) i < 256) → 1 ≤ tag.id → tag.id ≤ 0x7FFE →
    IsReadyPage g (placed_page g kind tag built) (finished_flags kind)
ready g kind tag built len bytes some small = record { len = len; bytes = bytes; clears = clears_final kind; finished = lives g kind tag built some small }

-- ---- the four programs

module _ (g : Geometry) (a : List ℕ) (p : ℕ) (kind : Kind) (tag : Tag) (built : List ℕ) (is : IsImage g a) (can : IsPuttable g a p kind tag built) where
  abbrev page : List ℕ
  page = placed_page g kind tag built

  abbrev placed : List ℕ
  placed = with_page g p page a

  flags : slice_index placed (p * g.page + 4) ≡ placed_flags kind
  flags =
      let all = programs_place g p page a in
      byte3 g a p page (finished_flags kind) is can.free can.ready _ all.one _ all.two _ all.three 4 (omega (arith, (sizes g).page))

  law : ((c : List ℕ) → PutCut g p page (finished_flags kind) a (with_entry g p page a) (with_header g p page a) placed c → PutLeaves g p (finished_page g kind tag built) a c)
      × PutDone g p (finished_page g kind tag built) a (programmed placed (p * g.page + 4) (0xFD ∷ []))
  law =
      put-changes g a (with_entry g p page a) (with_header g p page a) placed (programmed placed (p * g.page + 4) (0xFD ∷ [])) p page (finished_flags kind) is can.free can.ready
      (record { placed = programs_place g p page a; finish = (finish_clears_final kind _ _ flags).1 })

  -- what a cut leaves, by the flags that the last program clears
  cut_by : (c : List ℕ) → IsPutting g p page a c → PutLeaves g p (finished_page g kind tag built) a c
  cut_by c h = ⊎_elim
      (λ (placing : IsPlacing g p page a c). law.0 c (inl placing))
      (λ (final : HalfProgrammed (p * g.page + 4) (0xFD ∷ []) placed c). law.0 c (inr ((finish_clears_final kind _ _ flags).0 c final)))
      h

  pub puts : Finishes g a a (making any_image (λ h. IsPutting h p (placed_page h kind tag built)) (λ h. put_by h p (placed_page h kind tag built))) (putting p kind tag built)
  puts = record {
    needs = (
      tt,
      (λ c h. let left = cut_by c h in upkeep_same g a c (put_trims g a c p (finished_page g kind tag built) can.trim (inl left)) (programs_keep g a c p left.agree)),
      λ c now. subst (λ (l : List ℕ). Worn g a l) (sym now) (worn_same g a _ (programs_keep g a _ p law.1.agree)),
    );
    cut = cut_by;
    done = λ c ok now. subst (λ (l : List ℕ). PutDone g p (finished_page g kind tag built) a l) (sym now) law.1;
  }
