-- Words read one after the other.
use Rattle.std.proofs.Common.{◌≡◌, ℕ, ◌+◌, ◌-◌, ◌*◌, ◌/◌, ◌<◌, ◌≤◌, List, length, drop, slice_index, slice_range, get_or-take, get_or-drop, sym, ap, ◌∙◌, arith, ⊎_elim}
use Rattle.std.proofs.lemmas.Bool.{cases_lt}
use Rattle.nor_core.specs.Flash.{word_at, SameOutside}
use Rattle.volume_detect.specs.Words.{HasWords, ReadTo, word_place}

-- a byte of a part
part_byte : (a b i : ℕ) (xs : List ℕ) → a + i < b → slice_index (slice_range xs a b) i ≡ slice_index xs (a + i)
part_byte a b i xs low = get_or-take (b - a) (drop a xs) i 0 (omega arith) ∙ get_or-drop a xs i 0

-- the two bytes that were read are the word there
pair_word : (file pair : List ℕ) (at : ℕ) → pair ≡ slice_range file at (at + 2) → word_at pair 0 ≡ word_at file at
pair_word file pair at is =
    let low : slice_index (slice_range file at (at + 2)) 0 ≡ slice_index file (at + 0) = part_byte at (at + 2) 0 file (omega arith) in
    let high : slice_index (slice_range file at (at + 2)) 1 ≡ slice_index file (at + 1) = part_byte at (at + 2) 1 file (omega arith) in
    let here : at + 0 ≡ at = omega arith in
    ap (λ (x : List ℕ). word_at x 0) is ∙ ap (λ (n : ℕ). n + 256 * slice_index (slice_range file at (at + 2)) 1) (low ∙ ap (slice_index file) here) ∙ ap (λ (n : ℕ). slice_index file at + 256 * n) high

-- one word more
pub read_next : (file words now pair : List ℕ) (i : ℕ) → ReadTo file i words → pair ≡ slice_range file (word_place i) (word_place i + 2) → word_at now (2 * i) ≡ word_at pair 0 → SameOutside (2 * i) 2 words now → ReadTo file (i + 1) now
read_next file words now pair i was is here others k low = ⊎_elim
    (λ (below : k < i).
    let first : slice_index now (2 * k) ≡ slice_index words (2 * k) = others.before (2 * k) (omega (arith, below)) in
    let second : slice_index now (2 * k + 1) ≡ slice_index words (2 * k + 1) = others.before (2 * k + 1) (omega (arith, below)) in
    ap (λ (n : ℕ). n + 256 * slice_index now (2 * k + 1)) first ∙ ap (λ (n : ℕ). slice_index words (2 * k) + 256 * n) second ∙ was k below)
    (λ (above : i ≤ k).
    let same : k ≡ i = omega arith in
    ap (λ (n : ℕ). word_at now (2 * n)) same ∙ here ∙ pair_word file pair (word_place i) is ∙ ap (λ (n : ℕ). word_at file (word_place n)) (sym same))
    (cases_lt k i)

-- all were read
pub all_read : (file words : List ℕ) (i size : ℕ) → length file ≡ size → length words ≡ 12 * (size / 4096) → i ≡ 6 * (size / 4096) → ReadTo file i words → HasWords file words
all_read file words i size len many all read = record {
  size = many ∙ ap (λ (n : ℕ). 12 * (n / 4096)) (sym len);
  word = λ k low. read k (omega (arith, low, all, ap (λ (n : ℕ). n / 4096) len));
}
