-- What was programmed over 0xFF in a live page stands there.
use Rattle.std.proofs.Common.{◌≡◌, ℕ, ◌+◌, ◌-◌, ◌*◌, ◌<◌, ◌≤◌, List, length, drop, slice_index, slice_range, Some, ap, sym, ◌∙◌, arith, length-take, length-drop}
use Rattle.std.specs.Prelude.{bit_and}
use Rattle.std.proofs.lemmas.List.{ext_get_or, get_or-take, get_or-drop}
use Rattle.geometry.specs.declared.geometry.Geometry.{Geometry}
use Rattle.image_model.specs.Within.{sizes, page_length}
use Rattle.image_model.specs.Live.{live_at}
use Rattle.image_model.specs.Places.{page_of, IsImage}
use Rattle.image_laws.specs.Flash.{Programmed}
use Rattle.image_model.specs.Files.{slot_at}
use Rattle.image_laws.proofs.Bits.{and_comm_255}
use Rattle.image_laws.proofs.Frames.{live_parts}
use Rattle.image_laws.proofs.Placing.{page_byte}
use Rattle.renew_laws.specs.Primed.{FillHolds, NameHolds}
use Rattle.renew_laws.proofs.EntryInPlace.{slot_word-at, slot-fits}

module _ (g : Geometry) (b c : List ℕ) (q from : ℕ) (z bytes : List ℕ) (is : IsImage g b) (live : live_at g b q ≡ Some z) (fits : from + length bytes ≤ g.page) (small : (k : ℕ) → k < length bytes → slice_index bytes k < 256)
    (done : Programmed (q * g.page + from) bytes b c) where
  byte_now : (k : ℕ) → k < length bytes → slice_index z (from + k) ≡ 0xFF → slice_index (page_of g c q) (from + k) ≡ slice_index bytes k
  byte_now k low ones =
      let at : q * g.page + (from + k) ≡ q * g.page + from + k = omega arith in
      let was : slice_index b (q * g.page + from + k) ≡ 255 = ap (λ (i : ℕ). slice_index b i) (sym at) ∙ sym (page_byte g b q (from + k) (omega (arith, fits, low))) ∙ ap (λ (x : List ℕ). slice_index x (from + k)) (live_parts g b q z live).bytes ∙ ones in
      page_byte g c q (from + k) (omega (arith, fits, low)) ∙ ap (λ (i : ℕ). slice_index c i) at ∙ done.bytes k low ∙ ap (λ (x : ℕ). bit_and x (slice_index bytes k)) was ∙ and_comm_255 (slice_index bytes k) (small k low)

  long : length (page_of g c q) ≡ g.page
  long = page_length g c q (record { len = omega (arith, done.outside.size, is.len) }) (live_parts g b q z live).entry_page

pub fill-holds : (g : Geometry) → FillHolds g
fill-holds g b c q from z bytes is live fits ones small done =
    let size : from + length bytes - from ≡ length bytes = omega arith in
    let all = long g b c q from z bytes is live fits small done in
    let whole : length (slice_range (page_of g c q) from (from + length bytes)) ≡ length bytes = simp (length-take, length-drop) (omega (arith, all, fits)) in
    ext_get_or 0 (slice_range (page_of g c q) from (from + length bytes)) bytes whole
    (λ k low.
    let below : k < length bytes = omega (arith, low, whole) in
    get_or-take (from + length bytes - from) (drop from (page_of g c q)) k 0 (omega (arith, below, size)) ∙ get_or-drop from (page_of g c q) k 0
    ∙ byte_now g b c q from z bytes is live fits small done k below (ones (from + k) (omega arith) (omega (arith, below))))

pub name-holds : (g : Geometry) → NameHolds g
name-holds g b c w t x asked is live low high two small done =
    let big : 128 ≤ g.page = (sizes g).page in
    let fits : slot_at g t + length asked ≤ g.page = omega (arith, slot-fits g t big, two) in
    let bytes : (k : ℕ) → k < length asked → slice_index asked k < 256 = λ k below. small k (omega (arith, below, two)) in
    let first : slice_index (page_of g c w) (slot_at g t + 0) ≡ slice_index asked 0 =
    byte_now g b c w (slot_at g t) x asked is live fits bytes done 0 (omega (arith, two)) (ap (λ (i : ℕ). slice_index x i) (let e : slot_at g t + 0 ≡ slot_at g t = omega arith in e) ∙ low) in
    let second : slice_index (page_of g c w) (slot_at g t + 1) ≡ slice_index asked 1 = byte_now g b c w (slot_at g t) x asked is live fits bytes done 1 (omega (arith, two)) high in
    slot_word-at g (page_of g c w) t
    ∙ ap (λ (n : ℕ). n + 256 * slice_index (page_of g c w) (slot_at g t + 1)) (ap (λ (i : ℕ). slice_index (page_of g c w) i) (let e : slot_at g t ≡ slot_at g t + 0 = omega arith in e) ∙ first)
    ∙ ap (λ (n : ℕ). slice_index asked 0 + 256 * n) second
