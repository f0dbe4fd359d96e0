-- A data page put beside.
use Rattle.renew_laws.proofs.PutBeside.{gains_own, beside_keeps, beside_spares}
use Rattle.renew_laws.proofs.Spans.{span_there}
use Rattle.renew_laws.proofs.Serves.{serves_parts, serves_index, serves_data}
use Rattle.std.proofs.Common.{◌≡◌, ◌≢◌, ℕ, ◌<◌, List, Bool, true, false, ◌==◌, Option, Some, None, Ok, ap, refl, sym, ◌∙◌, ⊎_elim, ◌||◌}
use Rattle.std.proofs.Math.Path.{fun_ext}
use Rattle.std.specs.Prelude.{option_and_then, find, is_none, is_some}
use Rattle.std.specs.List.{range_with_len}
use Rattle.std.proofs.lemmas.Bool.{cases_eq}
use Rattle.std.proofs.lemmas.Option.{none-some}
use Rattle.geometry.specs.declared.geometry.Geometry.{Geometry}
use Rattle.geometry.specs.Numbers.{page_count}
use Rattle.table_model.specs.Room.{data_pages, index_pages}
use Rattle.image_model.specs.Live.{live_at, Live, own}
use Rattle.image_model.specs.Headers.{names_index, size_of}
use Rattle.image_laws.specs.Changes.{Gains}
use Rattle.table_model.specs.Table.{File}
use Rattle.image_model.specs.Files.{is_index, index_page, further, entry_number, data_of, data_page, judged}
use Rattle.image_model.specs.Tidy.{serves}
use Rattle.image_model.specs.Sound.{HasMagics, Keeps}
use Rattle.image_laws.specs.TidySteps.{Agree, IsTidyBut}
use Rattle.renew_laws.specs.Recopy.{PutsDataTo, PutDataCuts, PutDataDone}
use Rattle.image_laws.proofs.Judge.{judged-same, index-none}
use Rattle.image_laws.proofs.Sounding.{keeps-by_live}

module _ (g : Geometry) (p h id : ℕ) (page head : List ℕ) (f0 : File) (one two : Live) (gains : Gains p page one two) (kind : names_index page ≡ false)
    (at : index_page g one 0 ≡ Some h) (header : one h ≡ Some head) (file : judged g one id head ≡ Ok f0) where
  pub beside-index : (j : ℕ) → index_page g two j ≡ index_page g one j
  unfolding index_page
  beside-index j =
      ap (λ (t : ℕ → Bool). find t (range_with_len 0 (page_count g)))
      (fun_ext (λ (r : ℕ). ⊎_elim
      (λ (here : r ≡ p). let a : is_index (two r) j ≡ false = rw here (rw gains.after (rw kind refl)) in let b : is_index (one r) j ≡ false = rw here (rw gains.before refl) in a ∙ sym b)
      (λ (there : r ≡ p → ⊥). rw (gains.others r there) refl)
      (cases_eq r p)))

  pub beside-bytes : (o : Option ℕ) → o ≢ Some p → option_and_then two o ≡ option_and_then one o
  beside-bytes None differ = refl
  beside-bytes (Some r) differ = gains.others r (λ e. differ (ap (λ (x : ℕ). Some x) e))

  pub beside-entry : (hd : List ℕ) (t : ℕ) → entry_number g two hd t ≡ entry_number g one hd t
  unfolding entry_number
  beside-entry hd t = rw (beside-index (further g t)) (rw (beside-bytes (index_page g one (further g t)) (λ e. index-none g one (further g t) p e gains.before)) refl)

  data_at : (t : ℕ) (o : Option ℕ) → is_none (option_and_then (λ q. data_of (one q) t) o) ≡ false → option_and_then (λ q. data_of (two q) t) o ≡ option_and_then (λ q. data_of (one q) t) o
  data_at t None present = refl
  data_at t (Some r) present =
      ⊎_elim
      (λ (here : r ≡ p). let none : is_none (data_of (one r) t) ≡ true = rw here (rw gains.before refl) in let bad : true ≡ false = sym none ∙ present in absurd (cc))
      (λ (there : r ≡ p → ⊥). rw (gains.others r there) refl)
      (cases_eq r p)

  pub beside-data : (t : ℕ) → t < data_pages g (size_of head) → data_page g two head t ≡ data_page g one head t
  unfolding data_page
  beside-data t below =
      let present : is_none (data_page g one head t) ≡ false = span_there g one id head f0 file t below in
      rw (beside-entry head t) (data_at t (entry_number g one head t) present)

  pub beside-header : two h ≡ Some head
  beside-header = gains.others h (λ e. none-some head (sym gains.before ∙ ap one (sym e) ∙ header)) ∙ header

  pub beside-judged : judged g two id head ≡ judged g one id head
  beside-judged = judged-same g one two id head beside-data

-- the pages that served do so
module _ (g : Geometry) (a c : List ℕ) (p id h : ℕ) (page head : List ℕ) (f0 : File) (start : PutsDataTo g a p id h page head f0) (gains : Gains p page (live_at g a) (live_at g c)) where
  pub data_gains : Gains p page (own (live_at g a) id) (own (live_at g c) id)
  data_gains = gains_own p id page (live_at g a) (live_at g c) start.of gains

  pub data_first : index_page g (own (live_at g c) id) 0 ≡ Some h
  data_first = beside-index g p h id page head f0 (own (live_at g a) id) (own (live_at g c) id) data_gains start.data_kind start.at start.header start.file 0 ∙ start.at

  pub data_reads : judged g (own (live_at g c) id) id head ≡ judged g (own (live_at g a) id) id head
  data_reads = beside-judged g p h id page head f0 (own (live_at g a) id) (own (live_at g c) id) data_gains start.data_kind start.at start.header start.file

  data_serving : (r : ℕ) → r ≢ p → serves g (own (live_at g a) id) head r ≡ true → serves g (own (live_at g c) id) head r ≡ true
  data_serving r there e =
      ⊎_elim
      (λ (w : (j : ℕ) × (j < index_pages g (size_of head)) × (index_page g (own (live_at g a) id) j ≡ Some r)).
      serves_index g (own (live_at g c) id) head r w.0 w.1 (beside-index g p h id page head f0 (own (live_at g a) id) (own (live_at g c) id) data_gains start.data_kind start.at start.header start.file w.0 ∙ w.2))
      (λ (w : (t : ℕ) × (t < data_pages g (size_of head)) × (entry_number g (own (live_at g a) id) head t ≡ Some r) × (is_some (data_of (own (live_at g a) id r) t) ≡ true)).
      serves_data g (own (live_at g c) id) head r w.0 w.1
      (beside-entry g p h id page head f0 (own (live_at g a) id) (own (live_at g c) id) data_gains start.data_kind start.at start.header start.file head w.0 ∙ w.2)
      (ap (λ (o : Option (List ℕ)). is_some (data_of o w.0)) (data_gains.others r there) ∙ w.3))
      (serves_parts g (own (live_at g a) id) head r e)

  pub data_keeps : Agree g a c p → HasMagics g a → Keeps g a c
  data_keeps agree = beside_keeps g a c p id h page head start.of start.kind gains agree start.at start.header data_first data_reads data_serving

  pub data_spares : Agree g a c p → (before : ℕ → Bool) → IsTidyBut g a before → IsTidyBut g c (λ r. before r || (r == p))
  data_spares agree = beside_spares g a c p id h page head start.of start.kind gains agree start.at start.header data_first data_reads data_serving

pub put_data-cuts : (g : Geometry) → PutDataCuts g
put_data-cuts g a c p id h page head f0 start m put =
    ⊎_elim
    (λ (same : live_at g c ≡ live_at g a). keeps-by_live g a c m put.agree.magic (λ q. ap (λ (l : Live). l q) same))
    (λ (gains : Gains p page (live_at g a) (live_at g c)). data_keeps g a c p id h page head f0 start gains put.agree m)
    put.live

pub put_data-done : (g : Geometry) → PutDataDone g
put_data-done g a b p id h page head f0 start put = (data_keeps g a b p id h page head f0 start put.gains put.agree, data_spares g a b p id h page head f0 start put.gains put.agree)
