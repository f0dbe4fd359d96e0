-- Nothing is damaged after a file was put.
use Rattle.std.proofs.Common.{◌≡◌, ◌≢◌, ℕ, zero, suc, ◌+◌, ◌<◌, ◌≤◌, List, [], Option, Some, None, Result, Ok, Err, refl, sym, ◌∙◌, arith, ⊎_elim}
use Rattle.std.specs.List.{range_with_len, filter_map, All}
use Rattle.std.proofs.lemmas.Bool.{cases_eq}
use Rattle.std.proofs.lemmas.Option.{none-some}
use Rattle.geometry.specs.declared.geometry.Geometry.{Geometry}
use Rattle.image_model.specs.declared.damage.Damage.{Damage}
use Rattle.image_model.specs.Live.{live_at, Live}
use Rattle.table_model.specs.Table.{File}
use Rattle.image_model.specs.Tables.{Found, counts, damage, damages, records, has_of}
use Rattle.image_laws.proofs.Records.{IsKeyed, counts-kept, counts-new, filter_map-nil, counts_from_quiet, whole-in_table, names-apart}
use Rattle.image_laws.proofs.Finish.{has_of-keyed, has_of-within, heads-apart}

pub filter_map-none : {Y : Type 0} (h : ℕ → Option Y) (a n : ℕ) → ((j : ℕ) → a ≤ j → j < a + n → h j ≡ None) → filter_map h (range_with_len a n) ≡ []
filter_map-none h a zero none = refl
filter_map-none h a (suc n) none = rw (none a (omega arith) (omega arith)) (filter_map-none h (a + 1) n (λ j low high. none j (omega arith) (omega arith)))

pub damage-quiet : (has now : Found) (m j : ℕ) (o : Option (ℕ × Result File Damage)) → ((q : ℕ) (h : File) → o ≡ Some (q, Ok h) → counts now m q h.name ≡ counts has m q h.name) →
    damage has m j o ≡ None → damage now m j o ≡ None
damage-quiet has now m j None same h = refl
damage-quiet has now m j (Some (q, Err e)) same h = absurd (none-some _ (sym h))
damage-quiet has now m j (Some (q, Ok f)) same h = rw (same q f refl) (rw (counts_from_quiet has m j q f h) refl)

module _ (has now : Found) (m : ℕ) (keyed : IsKeyed has) (k p : ℕ) (f : File) (at : f.id ≡ k)
    (new : now k ≡ Some (p, Ok f)) (same : (j : ℕ) → j ≢ k → now j ≡ has j)
    (apart : (j q : ℕ) (h : File) → j ≢ k → has j ≡ Some (q, Ok h) → f.name ≢ h.name)
    (was_apart : (j q r : ℕ) (h e : File) → j ≢ k → has j ≡ Some (q, Ok h) → has k ≡ Some (r, Ok e) → e.name ≢ h.name) (none : damages has m ≡ []) where
  pub damages-put : damages now m ≡ []
  unfolding damages
  damages-put =
      filter_map-none (λ (j : ℕ). damage now m j (now j)) 1 m
      (λ j low high. ⊎_elim
      (λ (here : j ≡ k).
      let e : now j ≡ Some (p, Ok f) = rw here new in
      rw e (rw (counts-new has now m keyed k p f at new same apart was_apart) refl))
      (λ (there : j ≡ k → ⊥).
      rw (same j there) (damage-quiet has now m j (has j) (λ q h e. counts-kept has now m keyed k p f at new same apart was_apart j q h there e)
      (filter_map-nil (λ (i : ℕ). damage has m i (has i)) 1 m none j low high)))
      (cases_eq j k))

-- names of files of other ids are apart from a new one's, and from the old one's
module _ (g : Geometry) (a : List ℕ) (id : ℕ) (f : File) (low : 1 ≤ id) (high : id ≤ 0x7FFF)
    (undamaged : damages (has_of g (live_at g a)) 0x7FFF ≡ []) (unused : All (λ x. x.id ≢ id → x.name ≢ f.name) (records (has_of g (live_at g a)) 0x7FFF)) where
  pub apart-new : (j q : ℕ) (h : File) → j ≢ id → has_of g (live_at g a) j ≡ Some (q, Ok h) → f.name ≢ h.name
  apart-new j q h other e w =
      let b = has_of-within g a j q (Ok h) e in
      let key : h.id ≡ j = has_of-keyed g (live_at g a) j q h e in
      let apart = whole-in_table (λ (x : File). x.id ≢ id → x.name ≢ f.name) (has_of g (live_at g a)) 0x7FFF undamaged unused j q h b.0 b.1 e in
      apart (λ k. other (sym key ∙ k)) (sym w)

  pub apart-old : (j q r : ℕ) (h x : File) → j ≢ id → has_of g (live_at g a) j ≡ Some (q, Ok h) → has_of g (live_at g a) id ≡ Some (r, Ok x) → x.name ≢ h.name
  apart-old j q r h x other e w =
      let b = has_of-within g a j q (Ok h) e in
      names-apart (has_of g (live_at g a)) 0x7FFF undamaged id j r q x h low high b.0 b.1 w e
      (λ k. heads-apart g (live_at g a) id j r q (Ok x) (Ok h) w e (λ z. other (sym z)) k)

  pub undamaged-changed : (new : Live) (p : ℕ) → f.id ≡ id → has_of g new id ≡ Some (p, Ok f) → ((j : ℕ) → j ≢ id → has_of g new j ≡ has_of g (live_at g a) j) → damages (has_of g new) 0x7FFF ≡ []
  undamaged-changed new p at is same =
      damages-put (has_of g (live_at g a)) (has_of g new) 0x7FFF (has_of-keyed g (live_at g a)) id p f at is same apart-new apart-old undamaged
