-- Ids noted as bits behind the first bytes.
use Rattle.std.proofs.Common.{◌≡◌, ◌≢◌, ℕ, ◌+◌, ◌/◌, ◌%◌, ◌==◌, ◌<◌, ◌≤◌, ◌++◌, take, drop, false, List, ⊎_elim, length, refl, sym, ◌∙◌, ap, arith, slice_index, slice_set, Some}
use Rattle.std.specs.Int.{bit_at}
use Rattle.std.proofs.lemmas.List.{get_or-set_other, get_or-drop, get_or-take, get_or_append_left, drop_at, length-take-le}
use Rattle.std.proofs.lemmas.Nat.Bits.{bit_at-zero}
use Rattle.std.proofs.lemmas.Bool.{cases_eq}
use Rattle.page_layout.specs.Ids.{bit_of}
use Rattle.file_find.specs.Ids.{is_noted, Notes}

-- the bit of an id stands in this byte
in_byte : (bytes : List ℕ) (start id : ℕ) → is_noted bytes start id ≡ (bit_at (slice_index bytes (start + id / 8)) (id % 8) == 1)
unfolding is_noted bit_of
in_byte bytes start id = rw (get_or-drop start bytes (id / 8) 0) refl

-- bytes of zero note nothing
pub none_set : (bytes : List ℕ) (start : ℕ) → ((k : ℕ) → start ≤ k → k < start + 4096 → slice_index bytes k ≡ 0) → (id : ℕ) → id < 0x8000 → is_noted bytes start id ≡ false
none_set bytes start zeros id low = rw (in_byte bytes start id, zeros (start + id / 8) (omega arith) (omega (arith, low)), bit_at-zero (id % 8)) refl

-- bytes that stay note what they noted
same_byte : (old new : List ℕ) (start k : ℕ) → slice_index new (start + k / 8) ≡ slice_index old (start + k / 8) → is_noted new start k ≡ is_noted old start k
same_byte old new start k same = rw (in_byte new start k, in_byte old start k, same) refl

-- a byte before them doesn't matter
pub mark_beside : (marks : List ℕ) (start p mark k : ℕ) → p < start → is_noted (slice_set marks p mark) start k ≡ is_noted marks start k
mark_beside marks start p mark k low = same_byte marks (slice_set marks p mark) start k (get_or-set_other marks p (start + k / 8) mark 0 (λ e. omega (arith, e, low)))

-- ---- an id that is noted

pub notes_one : (start id : ℕ) (old mid bits : List ℕ) → ((p : ℕ) → slice_index mid p ≡ slice_index old p) → bit_of bits id ≡ 1 → ((k : ℕ) → k ≢ id → bit_of bits k ≡ bit_of (drop start mid) k) →
    start ≤ length mid → Notes start (Some id) old (take start mid ++ bits)
unfolding is_noted
notes_one start id old mid bits keeps set others most =
    let front : length (take start mid) ≡ start = length-take-le start mid most in
    let behind : drop start (take start mid ++ bits) ≡ bits = drop_at (take start mid) bits start front in
    record {
      noted = λ k e. let same : k ≡ id = cc in rw (behind, same, set) refl;
      others = λ k low other. rw behind (ap (λ (n : ℕ). n == 1) (others k (λ e. other (ap (λ (n : ℕ). Some n) (sym e)))) ∙ same_byte old mid start k (keeps (start + k / 8)));
      more = λ k was. ⊎_elim
          (λ (here : k ≡ id). rw (behind, here, set) refl)
          (λ (there : k ≡ id → ⊥). rw behind (ap (λ (n : ℕ). n == 1) (others k there) ∙ same_byte old mid start k (keeps (start + k / 8)) ∙ was))
          (cases_eq k id);
      pages = λ p low. rw (get_or_append_left (take start mid) bits 0 p (omega (arith, low, front)), get_or-take start mid p 0 low) (keeps p);
    }
