-- Ids apart, and what a header page more or less does to a table.
use Rattle.std.proofs.Common.{◌≡◌, ◌≢◌, ℕ, ◌%◌, ◌<◌, ◌≤◌, List, [], false, ◌==◌, Option, Some, None, Result, Ok, ap, refl, sym, ◌∙◌, arith}
use Rattle.std.specs.Prelude.{option_and_then, if◌then◌else◌}
use Rattle.std.specs.List.{range_with_len, All}
use Rattle.std.proofs.lemmas.Bool.{ne_eqb, eq-eqb, eqb-true}
use Rattle.std.proofs.lemmas.Option.{none-some, same_Some, cond_some}
use Rattle.geometry.specs.declared.geometry.Geometry.{Geometry}
use Rattle.geometry.specs.Numbers.{page_count}
use Rattle.image_model.specs.Headers.{obj_id, is_finished}
use Rattle.image_model.specs.Live.{live_at, Live, own}
use Rattle.image_model.specs.declared.damage.Damage.{Damage}
use Rattle.table_model.specs.Table.{File, put_file}
use Rattle.image_model.specs.Files.{is_index, index_page, found}
use Rattle.image_model.specs.Tables.{has_of, records, damages}
use Rattle.image_laws.proofs.Tables.{find_none}
use Rattle.image_laws.proofs.Records.{IsKeyed, records-put, whole-in_table, names-apart}
use Rattle.image_laws.proofs.Judge.{found_parts, found_none, judged-keyed}
use Rattle.image_laws.proofs.Frames.{live_parts}

-- ---- the pages of ids

own-of : (page : List ℕ) (id : ℕ) (x : List ℕ) → (if obj_id page % 0x8000 == id then Some page else None) ≡ Some x → (page ≡ x) × (obj_id page % 0x8000 ≡ id)
own-of page id x h = let w = cond_some (obj_id page % 0x8000 == id) page x h in (w.1, eqb-true _ id w.0)

pub own-parts : (live : Live) (id q : ℕ) (x : List ℕ) → own live id q ≡ Some x → (live q ≡ Some x) × (obj_id x % 0x8000 ≡ id)
unfolding own
own-parts live id q x h =
    let P : Option (List ℕ) → Type 0 = λ o. option_and_then (λ page. if obj_id page % 0x8000 == id then Some page else None) o ≡ Some x → (o ≡ Some x) × (obj_id x % 0x8000 ≡ id) in
    let go : (o : Option (List ℕ)) → P o = λ o. elim o as P
    [ None ↦ λ k. absurd (none-some x k) | Some page ↦ λ k. let w = own-of page id x k in (ap (λ (y : List ℕ). Some y) w.0, rw w.0 at w.1) ] in
    go (live q) h

own-none : (live : Live) (id q : ℕ) → ((x : List ℕ) → live q ≡ Some x → obj_id x % 0x8000 ≢ id) → own live id q ≡ None
unfolding own
own-none live id q h =
    let P : Option (List ℕ) → Type 0 = λ o. ((x : List ℕ) → o ≡ Some x → obj_id x % 0x8000 ≢ id) → option_and_then (λ page. if obj_id page % 0x8000 == id then Some page else None) o ≡ None in
    let go : (o : Option (List ℕ)) → P o = λ o. elim o as P
    [ None ↦ λ k. refl | Some page ↦ λ k. rw (ne_eqb (obj_id page % 0x8000) id (k page refl)) refl ] in
    go (live q) h

found-empty : (g : Geometry) (pages : Live) (id : ℕ) → ((q : ℕ) → pages q ≡ None) → found g pages id ≡ None
unfolding index_page
found-empty g pages id h = found_none g pages id (find_none (λ (p : ℕ). is_index (pages p) 0) (range_with_len 0 (page_count g)) (λ q. rw (h q) refl))

pub is_finished-zero : (page : List ℕ) → obj_id page % 0x8000 ≡ 0 → is_finished page ≡ false
unfolding is_finished
is_finished-zero page h = rw (eq-eqb (obj_id page % 0x8000) 0 h) refl

-- an id that has something is from 1 to 0x7FFF
pub has_of-within : (g : Geometry) (image : List ℕ) (j q : ℕ) (r : Result File Damage) → has_of g (live_at g image) j ≡ Some (q, r) → (1 ≤ j) × (j ≤ 0x7FFF)
unfolding has_of
has_of-within g image j q r h =
    let w = found_parts g (own (live_at g image) j) j q r h in
    let x = own-parts (live_at g image) j q w.0 w.2 in
    let small : obj_id w.0 % 0x8000 < 0x8000 = omega arith in
    let some : j ≢ 0 = λ e. let no = is_finished-zero w.0 (x.1 ∙ e) in let yes = (live_parts g image q w.0 x.0).finished in cc in
    (omega (arith, some), omega (arith, x.1))

pub has_of-keyed : (g : Geometry) (live : Live) → IsKeyed (has_of g live)
unfolding has_of
has_of-keyed g live id q f h = let w = found_parts g (own live id) id q (Ok f) h in judged-keyed g (own live id) id w.0 f w.3

-- different ids have different header pages
pub heads-apart : (g : Geometry) (live : Live) (j k q r : ℕ) (x y : Result File Damage) → has_of g live j ≡ Some (q, x) → has_of g live k ≡ Some (r, y) → j ≢ k → q ≡ r → ⊥
unfolding has_of
heads-apart g live j k q r x y e e' differ same =
    let w = found_parts g (own live j) j q x e in
    let v = found_parts g (own live k) k r y e' in
    let a = own-parts live j q w.0 w.2 in
    let b = own-parts live k r v.0 v.2 in
    let page : w.0 ≡ v.0 = same_Some w.0 v.0 (sym a.0 ∙ ap live same ∙ b.0) in
    differ (sym a.1 ∙ ap (λ (p : List ℕ). obj_id p % 0x8000) page ∙ b.1)

-- ---- one id changes

-- an undamaged image, and another where id alone has file f now
module _ (g : Geometry) (a : List ℕ) (new : Live) (id p : ℕ) (f : File) (low : 1 ≤ id) (high : id ≤ 0x7FFF)
    (undamaged : damages (has_of g (live_at g a)) 0x7FFF ≡ []) (unused : All (λ x. x.id ≢ id → x.name ≢ f.name) (records (has_of g (live_at g a)) 0x7FFF)) where
  pub records-changed : f.id ≡ id → has_of g new id ≡ Some (p, Ok f) → ((j : ℕ) → j ≢ id → has_of g new j ≡ has_of g (live_at g a) j) →
      records (has_of g new) 0x7FFF ≡ put_file f (records (has_of g (live_at g a)) 0x7FFF)
  records-changed at is same =
      records-put (has_of g (live_at g a)) (has_of g new) 0x7FFF (has_of-keyed g (live_at g a)) id p f at is same
      (λ j q h other e.
      let b = has_of-within g a j q (Ok h) e in
      let key : h.id ≡ j = has_of-keyed g (live_at g a) j q h e in
      let apart = whole-in_table (λ (x : File). x.id ≢ id → x.name ≢ f.name) (has_of g (live_at g a)) 0x7FFF undamaged unused j q h b.0 b.1 e in
      λ w. apart (λ k. other (sym key ∙ k)) (sym w))
      (λ j q r h x other e w.
      let b = has_of-within g a j q (Ok h) e in
      names-apart (has_of g (live_at g a)) 0x7FFF undamaged id j r q x h low high b.0 b.1 w e
      (λ k. heads-apart g (live_at g a) id j r q (Ok x) (Ok h) w e (λ z. other (sym z)) k))
      low high

-- a file that is in the table is put where it is
pub records-put_again : (g : Geometry) (a : List ℕ) (id p : ℕ) (f : File) → 1 ≤ id → id ≤ 0x7FFF → damages (has_of g (live_at g a)) 0x7FFF ≡ [] → has_of g (live_at g a) id ≡ Some (p, Ok f) →
    records (has_of g (live_at g a)) 0x7FFF ≡ put_file f (records (has_of g (live_at g a)) 0x7FFF)
records-put_again g a id p f low high undamaged is =
    let apart : (j q r : ℕ) (h e : File) → j ≢ id → has_of g (live_at g a) j ≡ Some (q, Ok h) → has_of g (live_at g a) id ≡ Some (r, Ok e) → e.name ≢ h.name =
    λ j q r h e other x y.
    let b = has_of-within g a j q (Ok h) x in
    names-apart (has_of g (live_at g a)) 0x7FFF undamaged id j r q e h low high b.0 b.1 y x (λ k. heads-apart g (live_at g a) id j r q (Ok e) (Ok h) y x (λ z. other (sym z)) k) in
    records-put (has_of g (live_at g a)) (has_of g (live_at g a)) 0x7FFF (has_of-keyed g (live_at g a)) id p f (has_of-keyed g (live_at g a) id p f is) is (λ j other. refl)
    (λ j q h other x. apart j q p h f other x is) (λ j q r h e other x y. apart j q r h e other x y) low high
