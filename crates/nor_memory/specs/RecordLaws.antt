-- What one more call adds to what a cut may leave.
use Rattle.std.specs.Prelude.{ℕ, zero, suc, ◌≡◌, ◌≤◌, ◌⊎◌, List, [], ◌∷◌, ◌++◌, length, refl}
use Rattle.std.proofs.Common.{inl, inr, ⊎_elim, subst, arith}
use Rattle.nor_memory.specs.declared.call.Call.{Call}
use Rattle.nor_memory.specs.Record.{after_call, said_after, InCall, image_after, count_after, LeftSince}

module _ (unit : ℕ) where
  -- a cut since the last call leaves what stands
  pub only_last : (calls : List Call) (was : List ℕ) (said : ℕ) (image : List ℕ) (count : ℕ) → LeftSince unit calls was said (length calls) image count →
      (image ≡ image_after unit calls was) × (count ≡ count_after calls said)
  unfolding image_after count_after LeftSince
  only_last [] was said image count left = left
  only_last (c ∷ calls) was said image count left = only_last calls (after_call unit c was) (said_after c said) image count left

  -- what stands is one of the things that a cut since any call may leave
  pub last_counts : (calls : List Call) (was : List ℕ) (said t : ℕ) → LeftSince unit calls was said t (image_after unit calls was) (count_after calls said)
  unfolding image_after count_after LeftSince
  last_counts [] was said t = (refl, refl)
  last_counts (c ∷ calls) was said zero = inr (inr (last_counts calls (after_call unit c was) (said_after c said) zero))
  last_counts (c ∷ calls) was said (suc t) = last_counts calls (after_call unit c was) (said_after c said) t

  -- the same, where what stands is known by other names
  pub now_counts : (calls : List Call) (was : List ℕ) (said t : ℕ) (bytes : List ℕ) (count : ℕ) → image_after unit calls was ≡ bytes →
      count_after calls said ≡ count → LeftSince unit calls was said t bytes count
  now_counts calls was said t bytes count stands spoken =
      subst (λ (n : ℕ). LeftSince unit calls was said t bytes n) spoken
      (subst (λ (l : List ℕ). LeftSince unit calls was said t l (count_after calls said)) stands (last_counts calls was said t))

  -- the image after one more call
  pub image_after-push : (calls : List Call) (call : Call) (was : List ℕ) →
      image_after unit (calls ++ call ∷ []) was ≡ after_call unit call (image_after unit calls was)
  unfolding image_after
  image_after-push [] call was = refl
  image_after-push (c ∷ calls) call was = image_after-push calls call (after_call unit c was)

  -- after one more call a cut may leave what it might before, what it may inside the call, and what stands
  pub left_push : (calls : List Call) (call : Call) (was : List ℕ) (said t : ℕ) (image : List ℕ) (count : ℕ) → t ≤ length calls →
      LeftSince unit (calls ++ call ∷ []) was said t image count
      → LeftSince unit calls was said t image count ⊎ InCall unit call (image_after unit calls was) (count_after calls said) image count
      ⊎ ((image ≡ after_call unit call (image_after unit calls was)) × (count ≡ said_after call (count_after calls said)))
  unfolding image_after count_after LeftSince
  left_push [] call was said zero image count le left = left
  left_push [] call was said (suc t) image count le left = absurd (omega (arith, le))
  left_push (c ∷ calls) call was said (suc t) image count le left =
      left_push calls call (after_call unit c was) (said_after c said) t image count (omega (arith, le)) left
  left_push (c ∷ calls) call was said zero image count le left =
      ⊎_elim (λ now. inl (inl now)) (⊎_elim (λ inside. inl (inr (inl inside))) (λ later. ⊎_elim (λ old. inl (inr (inr old))) (λ new. inr new)
      (left_push calls call (after_call unit c was) (said_after c said) zero image count (omega arith) later))) left

  -- what a cut might leave it still may after one more call
  pub kept_push : (calls : List Call) (call : Call) (was : List ℕ) (said t : ℕ) (image : List ℕ) (count : ℕ) → t ≤ length calls →
      LeftSince unit calls was said t image count → LeftSince unit (calls ++ call ∷ []) was said t image count
  unfolding LeftSince
  kept_push [] call was said zero image count le left = inl left
  kept_push [] call was said (suc t) image count le left = absurd (omega (arith, le))
  kept_push (c ∷ calls) call was said (suc t) image count le left =
      kept_push calls call (after_call unit c was) (said_after c said) t image count (omega (arith, le)) left
  kept_push (c ∷ calls) call was said zero image count le left =
      ⊎_elim (λ now. inl now) (⊎_elim (λ inside. inr (inl inside))
      (λ later. inr (inr (kept_push calls call (after_call unit c was) (said_after c said) zero image count (omega arith) later)))) left

-- what a cut may leave inside a call is among what it may leave since an earlier one
pub inside_push : (unit : ℕ) (calls : List Call) (call : Call) (was : List ℕ) (said t : ℕ) (image : List ℕ) (count : ℕ) → t ≤ length calls →
    InCall unit call (image_after unit calls was) (count_after calls said) image count → LeftSince unit (calls ++ call ∷ []) was said t image count
unfolding image_after count_after LeftSince
inside_push unit [] call was said zero image count le inside = inr (inl inside)
inside_push unit [] call was said (suc t) image count le inside = absurd (omega (arith, le))
inside_push unit (c ∷ calls) call was said (suc t) image count le inside =
    inside_push unit calls call (after_call unit c was) (said_after c said) t image count (omega (arith, le)) inside
inside_push unit (c ∷ calls) call was said zero image count le inside =
    inr (inr (inside_push unit calls call (after_call unit c was) (said_after c said) zero image count (omega arith) inside))

-- how many bytes were said after one more call
pub count_after-push : (calls : List Call) (call : Call) (said : ℕ) → count_after (calls ++ call ∷ []) said ≡ said_after call (count_after calls said)
unfolding count_after
count_after-push [] call said = refl
count_after-push (c ∷ calls) call said = count_after-push calls call (said_after c said)
