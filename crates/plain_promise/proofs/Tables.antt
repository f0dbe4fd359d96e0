-- The first of some tables that breaks a promise.
use Rattle.std.proofs.Common.{◌≡◌, ℕ, ◌+◌, ◌<◌, ◌≤◌, List, [], ◌∷◌, ◌++◌, length, map, slice_index_or, drop, refl, sym, ap, subst, arith, inl, inr, Option, Some, None, true, false}
use Rattle.std.specs.Prelude.{is_some}
use Rattle.std.proofs.lemmas.List.{drop_more, drop_all}
use Rattle.table_model.specs.Table.{File}
use Rattle.promise_model.specs.Promises.{Promise, Keeps}
use Rattle.promise_model.specs.Verdicts.{Broken, Finds, FindsTable}
use Rattle.plain_promise.specs.declared.broken.Broken.{Broken as PlainBroken}
use Rattle.plain_promise.specs.declared.promise.PlainPromise.{PlainPromise}
use Rattle.plain_promise.specs.Seen.{promise, found, broken}

-- ---- the promises that one table keeps

pub finds_here : (ps : List PlainPromise) (t : List File) (i : ℕ) (p : PlainPromise) → i < length ps → p ≡ slice_index_or ps i p → (Keeps (promise p) t → ⊥) → Finds (map promise (drop i ps)) t (Some p.line)
unfolding Finds
finds_here ps t i p less at not = rw (drop_more ps i p less) (subst (λ (q : PlainPromise). Finds (promise q ∷ map promise (drop (i + 1) ps)) t (Some p.line)) at (inl (not, refl)))

pub finds_on : (ps : List PlainPromise) (t : List File) (i : ℕ) (p : PlainPromise) (o : Option ℕ) → i < length ps → p ≡ slice_index_or ps i p → Keeps (promise p) t → Finds (map promise (drop (i + 1) ps)) t o → Finds (map promise (drop i ps)) t o
unfolding Finds
finds_on ps t i p o less at keeps rest = rw (drop_more ps i p less) (subst (λ (q : PlainPromise). Finds (promise q ∷ map promise (drop (i + 1) ps)) t o) at (inr (keeps, rest)))

pub finds_end : (ps : List PlainPromise) (t : List File) (i : ℕ) → length ps ≤ i → Finds (map promise (drop i ps)) t None
unfolding Finds
finds_end ps t i past = rw (drop_all i ps past) refl

-- ---- one table

module _ (ps : List Promise) (line : ℕ) where
  pub table_broken : (step : ℕ) (t : List File) (p : ℕ) → Finds ps t (Some p) → FindsTable ps line step (t ∷ []) (Some (record { promise = p; line = line; step = step; table = t }))
  unfolding FindsTable
  table_broken step t p f = inl (p, f, refl)

  pub table_kept : (step : ℕ) (t : List File) → Finds ps t None → FindsTable ps line step (t ∷ []) None
  unfolding FindsTable
  table_kept step t f = inr (f, refl)

  -- ---- tables behind others

  pub tables_none : (step : ℕ) → FindsTable ps line step [] None
  unfolding FindsTable
  tables_none step = refl

  pub tables_first : (step : ℕ) (us vs : List (List File)) (b : Broken) → FindsTable ps line step us (Some b) → FindsTable ps line step (us ++ vs) (Some b)
  unfolding FindsTable
  tables_first step [] vs b f = absurd (let no : Some b ≡ None = f in cc)
  tables_first step (u ∷ us) vs b (inl f) = inl f
  tables_first step (u ∷ us) vs b (inr f) = inr (f.0, tables_first (step + 1) us vs b f.1)

  pub tables_then : (step from : ℕ) (us vs : List (List File)) (o : Option Broken) → FindsTable ps line step us None → from ≡ step + length us → FindsTable ps line from vs o → FindsTable ps line step (us ++ vs) o
  unfolding FindsTable
  tables_then step from [] vs o f at g = let same : from ≡ step = omega (arith, at) in subst (λ (k : ℕ). FindsTable ps line k vs o) same g
  tables_then step from (u ∷ us) vs o (inl f) at g = absurd (let no : None ≡ Some _ = f.2 in cc)
  tables_then step from (u ∷ us) vs o (inr f) at g = inr (f.0, tables_then (step + 1) from us vs o f.1 (omega (arith, at)) g)

  -- what was found in the first ones, or nothing there
  pub found_first : (step : ℕ) (us vs : List (List File)) (o : Option PlainBroken) → is_some o ≡ true → FindsTable ps line step us (found o) → FindsTable ps line step (us ++ vs) (found o)
  found_first step us vs None some f = absurd (let no : false ≡ true = some in cc)
  found_first step us vs (Some b) some f = tables_first step us vs (broken b) f

  pub found_none : (step : ℕ) (us : List (List File)) (o : Option PlainBroken) → is_some o ≡ false → FindsTable ps line step us (found o) → FindsTable ps line step us None
  found_none step us None none f = f
  found_none step us (Some b) none f = absurd (let no : true ≡ false = none in cc)

-- ---- a walk over tables

module _ {X : Type 0} (v : X → List File) (ps : List Promise) (line : ℕ) (ts : List X) (i : ℕ) (x : X) (less : i < length ts) (at : x ≡ slice_index_or ts i x) where
  here : map v (drop i ts) ≡ v x ∷ map v (drop (i + 1) ts)
  here = rw (drop_more ts i x less) (ap (λ (y : X). v y ∷ map v (drop (i + 1) ts)) (sym at))

  pub walk_here : (step : ℕ) (o : Option PlainBroken) → is_some o ≡ true → FindsTable ps line step (v x ∷ []) (found o) → FindsTable ps line step (map v (drop i ts)) (found o)
  walk_here step o some f = subst (λ (us : List (List File)). FindsTable ps line step us (found o)) (sym here) (found_first ps line step (v x ∷ []) (map v (drop (i + 1) ts)) o some f)

  pub walk_on : (step next : ℕ) (o : Option PlainBroken) (all : Option Broken) → is_some o ≡ false → next ≡ step + 1 → FindsTable ps line step (v x ∷ []) (found o) → FindsTable ps line next (map v (drop (i + 1) ts)) all → FindsTable ps line step (map v (drop i ts)) all
  walk_on step next o all none is f rest = subst (λ (us : List (List File)). FindsTable ps line step us all) (sym here) (tables_then ps line step next (v x ∷ []) (map v (drop (i + 1) ts)) all (found_none ps line step (v x ∷ []) o none f) is rest)

pub walk_end : {X : Type 0} (v : X → List File) (ps : List Promise) (line : ℕ) (ts : List X) (i step : ℕ) → length ts ≤ i → FindsTable ps line step (map v (drop i ts)) None
unfolding FindsTable
walk_end v ps line ts i step past = rw (drop_all i ts past) refl
