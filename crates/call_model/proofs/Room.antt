-- A table that has room has it after each call.
use Rattle.std.proofs.Common.{◌≡◌, ℕ, ◌+◌, ◌-◌, ◌*◌, ◌/◌, ◌<◌, ◌≤◌, List, [], ◌∷◌, length, Bool, true, false, not, ◌==◌, arith, ⊎_elim}
use Rattle.std.specs.Prelude.{filter}
use Rattle.std.specs.List.{sum_by}
use Rattle.std.proofs.Math.Nat.{div-mul-le_self}
use Rattle.std.proofs.lemmas.Nat.{le-div}
use Rattle.std.proofs.lemmas.Bool.{cases_Bool, leb-true, le-leb}
use Rattle.std.proofs.lemmas.List.Sums.{sum_by-cons}
use Rattle.geometry.proofs.Bounds.{entry_left}
use Rattle.geometry.specs.declared.geometry.Geometry.{Geometry}
use Rattle.geometry.specs.Numbers.{ceil, entries}
use Rattle.table_model.specs.Table.{File, State, drop_file}
use Rattle.table_model.specs.Room.{has_room, index_count, data_count, index_pages, data_pages}
use Rattle.table_model.specs.Files.{without}
use Rattle.table_model.specs.Ask.{Ask}
use Rattle.table_model.specs.Flat.{answer}
use Rattle.call_model.proofs.Kept.{Kept, kept}

-- fewer things need no more parts
ceil-mono : (a b n : ℕ) → 0 < n → a ≤ b → ceil a n ≤ ceil b n
ceil-mono a b n pos less = let back : (a + n - 1) / n * n ≤ a + n - 1 = div-mul-le_self (a + n - 1) n in le-div ((a + n - 1) / n) (b + n - 1) n pos (omega (arith, back, less))

-- what is left of a list adds up to no more
sum_by-fewer : {X : Type 0} (h : X → ℕ) (t : X → Bool) (xs : List X) → sum_by h (filter t xs) ≤ sum_by h xs
sum_by-fewer h t [] = omega arith
sum_by-fewer h t (x ∷ xs) =
    let rest = sum_by-fewer h t xs in
    let whole = sum_by-cons h x xs in
    ⊎_elim
    (λ (stays : t x ≡ true). rw stays (let a = sum_by-cons h x (filter t xs) in omega (arith, a, whole, rest)))
    (λ (goes : t x ≡ false). rw goes (omega (arith, whole, rest)))
    (cases_Bool (t x))

-- a table with fewer pages has room too
fewer-room : (g : Geometry) (files less : List File) → index_count g less ≤ index_count g files → data_count g less ≤ data_count g files → has_room g files ≡ true → has_room g less ≡ true
unfolding has_room
fewer-room g files less index pages room =
    let a = ceil-mono (index_count g less + 1) (index_count g files + 1) (entries g) (omega (arith, entry_left g)) (omega (arith, index)) in
    let b = ceil-mono (data_count g less + 1) (data_count g files + 1) (entries g) (omega (arith, entry_left g)) (omega (arith, pages)) in
    let had = leb-true _ g.blocks room in
    le-leb _ g.blocks (omega (arith, a, b, had))

-- a table without a file
pub drop-room : (g : Geometry) (id : ℕ) (files : List File) → has_room g files ≡ true → has_room g (drop_file id files) ≡ true
unfolding index_count data_count
drop-room g id files room =
    fewer-room g files (drop_file id files)
    (sum_by-fewer (λ (f : File). index_pages g (length f.bytes)) (λ (f : File). not (f.id == id)) files)
    (sum_by-fewer (λ (f : File). data_pages g (length f.bytes)) (λ (f : File). not (f.id == id)) files) room

without-room : (g : Geometry) (f : File) (s : State) → has_room g s.table ≡ true → has_room g (without f s).table ≡ true
unfolding without
without-room g f s room = drop-room g f.id s.table room

changes : (g : Geometry) (s : State) → has_room g s.table ≡ true → Kept g s (λ n. has_room g n.table ≡ true)
changes g s room = record {
  still = room;
  made = λ name more. more;
  made_open = λ name flags fd more. more;
  opened = λ name f flags fd named. room;
  emptied = λ name f flags fd named more. more;
  moved = λ fd d f at is there inside. room;
  wrote = λ fd d f bytes is there more. more;
  cut = λ d f size there within more. more;
  shut = λ fd. room;
  gone = λ f. without-room g f s room;
  renamed = λ name f new named free more. more;
  marked = λ name f meta named more. more;
  marked_open = λ d f meta there more. more;
}

pub room_kept : (g : Geometry) (spare : Bool) (s : State) (ask : Ask) → has_room g s.table ≡ true → has_room g (answer g spare s ask).next.table ≡ true
room_kept g spare s ask room = kept g spare s (λ n. has_room g n.table ≡ true) (changes g s room) ask
