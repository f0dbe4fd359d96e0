-- A page that was built, once it is finished.
use Rattle.std.proofs.Common.{◌≡◌, ℕ, zero, suc, ◌+◌, ◌-◌, ◌/◌, ◌%◌, ◌<◌, ◌≤◌, List, ◌∷◌, ◌++◌, length, take, drop, get_or, ap, refl, sym, ◌∙◌, arith, length-drop, subst}
use Rattle.std.specs.Prelude.{slice_index, slice_range}
use Rattle.std.proofs.lemmas.Bool.{lt-ltb, le-ltb}
use Rattle.std.proofs.lemmas.List.{take_at, get_or-drop, drop-take}
use Rattle.geometry.specs.declared.geometry.Geometry.{Geometry}
use Rattle.table_model.specs.declared.error.Tag.{Tag}
use Rattle.image_model.specs.Within.{sizes}
use Rattle.image_model.specs.Headers.{obj_id, names_index}
use Rattle.image_laws.specs.Put.{IsReadyPage}
use Rattle.flash_view.specs.declared.kinds.Kind.{Kind}
use Rattle.flash_view.specs.declared.kinds.Kind.TheVariants.{Index, Data}
use Rattle.page_put.specs.Placing.{placed_id, placed_flags, finished_flags, placed_page}
use Rattle.page_put.specs.LivePages.{finished_page}
use Rattle.page_put.proofs.Putting.{ready}
use Rattle.file_write.specs.Beside.{is_index, IsPageOf}

-- five bytes and a rest are bytes
bytes_by : (a b c d e : ℕ) (rest : List ℕ) → a < 256 → b < 256 → c < 256 → d < 256 → e < 256 → (i n : ℕ) → ((k : ℕ) → k + 5 < n → get_or rest k 0 < 256) → i < n → get_or (a ∷ b ∷ c ∷ d ∷ e ∷ rest) i 0 < 256
bytes_by a b c d e rest one two three four five zero n small within = one
bytes_by a b c d e rest one two three four five (suc zero) n small within = two
bytes_by a b c d e rest one two three four five (suc (suc zero)) n small within = three
bytes_by a b c d e rest one two three four five (suc (suc (suc zero))) n small within = four
bytes_by a b c d e rest one two three four five (suc (suc (suc (suc zero)))) n small within = five
bytes_by a b c d e rest one two three four five (suc (suc (suc (suc (suc i))))) n small within = small i (omega arith)

flags_small : (kind : Kind) → placed_flags kind < 256
flags_small Index = omega arith
flags_small Data = omega arith

module _ (g : Geometry) (kind : Kind) (tag : Tag) (page rest : List ℕ) (len : length page ≡ g.page) (small : (k : ℕ) → slice_index page k < 256) (some : 1 ≤ tag.id) (few : tag.id ≤ 0x7FFE) (span : tag.span < 65536) where
  behind : slice_range (page ++ rest) 5 g.page ≡ drop 5 page
  behind =
      let big : 128 ≤ g.page = (sizes g).page in
      sym (drop-take 5 (g.page - 5) (page ++ rest)) ∙ ap (λ (m : ℕ). drop 5 (take m (page ++ rest))) (omega (arith, big)) ∙ ap (drop 5) (take_at page rest g.page len)

  high_id : placed_id kind tag.id < 65536
  high_id = by kind
    where
      by : (k : Kind) → placed_id k tag.id < 65536
      by Index = omega (arith, few)
      by Data = omega (arith, few)

  long : (flags : ℕ) (l : List ℕ) → l ≡ drop 5 page → length (placed_id kind tag.id % 256 ∷ placed_id kind tag.id / 256 ∷ tag.span % 256 ∷ tag.span / 256 ∷ flags ∷ l) ≡ g.page
  long flags l is = let big : 128 ≤ g.page = (sizes g).page in let cut = ap length is ∙ length-drop 5 page in omega (arith, cut, len, big)

  pub is_ready : IsReadyPage g (placed_page g kind tag (page ++ rest)) (finished_flags kind)
  is_ready = ready g kind tag (page ++ rest) (long (placed_flags kind) (slice_range (page ++ rest) 5 g.page) behind)
      (λ i within. bytes_by (placed_id kind tag.id % 256) (placed_id kind tag.id / 256) (tag.span % 256) (tag.span / 256) (placed_flags kind) (slice_range (page ++ rest) 5 g.page)
      (omega arith) (omega (arith, high_id)) (omega arith) (omega (arith, span)) (flags_small kind) i g.page
      (λ k below. subst (λ (l : List ℕ). get_or l k 0 < 256) (sym behind) (subst (λ (n : ℕ). n < 256) (sym (get_or-drop 5 page k 0)) (small (5 + k)))) within)
      some few

  id_is : obj_id (finished_page g kind tag (page ++ rest)) ≡ placed_id kind tag.id
  id_is = omega arith

  -- it says kind, id and span, and holds what was built
  pub is_page : IsPageOf g kind tag (drop 5 page) (finished_page g kind tag (page ++ rest))
  is_page = record {
    names = by kind id_is;
    of = ap (λ (n : ℕ). n % 0x8000) id_is ∙ of kind;
    span = omega arith;
    len = long (finished_flags kind) (slice_range (page ++ rest) 5 g.page) behind;
    rest = behind;
  }
    where
      by : (k : Kind) → obj_id (finished_page g kind tag (page ++ rest)) ≡ placed_id k tag.id → names_index (finished_page g kind tag (page ++ rest)) ≡ is_index k
      by Index e = rw (e, le-ltb (tag.id + 0x8000) 0x8000 (omega arith)) refl
      by Data e = rw (e, lt-ltb tag.id 0x8000 (omega (arith, few))) refl

      of : (k : Kind) → placed_id k tag.id % 0x8000 ≡ tag.id
      of Index = omega (arith, few)
      of Data = omega (arith, few)
