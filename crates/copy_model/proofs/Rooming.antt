-- Which table of a copy is the first without room.
use Rattle.std.proofs.Common.{◌≡◌, ◌≢◌, ℕ, zero, suc, ◌+◌, ◌-◌, ◌*◌, ◌/◌, ◌%◌, ◌<◌, ◌≤◌, ◌⊎◌, List, [], ◌∷◌, ◌++◌, length, take, map, Bool, true, false, ◌==◌, ◌||◌, Option, Some, None, refl, sym, ◌∙◌, ap, subst, arith, ⊎_elim, inl, inr}
use Rattle.std.specs.Prelude.{filter}
use Rattle.std.specs.List.{range_with_len}
use Rattle.std.specs.Option.{option_or}
use Rattle.std.proofs.Math.Nat.{div-add-mod}
use Rattle.std.proofs.lemmas.Nat.{mod-mul-add}
use Rattle.std.proofs.lemmas.Bool.{cases_Bool, eq-eqb, ne_eqb, or_left, or_right}
use Rattle.std.proofs.lemmas.List.{take_all}
use Rattle.std.proofs.lemmas.Option.{none-some}
use Rattle.geometry.specs.declared.geometry.Geometry.{Geometry}
use Rattle.geometry.specs.Numbers.{body}
use Rattle.table_model.specs.Table.{File, has_id, file_named, put_file}
use Rattle.table_model.specs.Room.{has_room, index_count, data_count, index_pages, data_pages}
use Rattle.header_laws.proofs.AddsUp.{put-adds}
use Rattle.call_model.proofs.Parts.{put_twice}
use Rattle.call_model.proofs.Room.{drop-room}
use Rattle.call_model.proofs.Unused.{least-unused}
use Rattle.copy_model.specs.Copying.{working, front_of, ends_from, begun, marked, without_found, without_name, cleared, placed, record_steps, copy_steps}
use Rattle.copy_model.specs.Stops.{first_full}
use Rattle.copy_model.specs.Rooms.{filling_full, FullHere, FullLater, FullEnds, HasRoomBehind, RoomBehind, RecordFull, StepsKept, StepsFull}
use Rattle.copy_model.proofs.Putting.{over-drop}
use Rattle.copy_model.proofs.Answering.{other-there, marked-id, marked-name, marked-unused}

-- ---- ends

end-passes : (page size e : ℕ) → (e % page ≡ 0) ⊎ (e ≡ size) → ((e % page == 0) || (e == size)) ≡ true
end-passes page size e is = ⊎_elim
    (λ (whole : e % page ≡ 0). or_left (e % page == 0) (e == size) (eq-eqb (e % page) 0 whole))
    (λ (last : e ≡ size). or_right (e % page == 0) (e == size) (eq-eqb e size last))
    is

-- none passes before the next one
none-between : (page size from e : ℕ) → from % page ≡ 0 → from < e → e < from + page → e ≢ size → ((e % page == 0) || (e == size)) ≡ false
none-between page size from e whole more less other =
    let parts : page * (from / page) + from % page ≡ from = div-add-mod from page in
    let here : from / page * page + (e - from) ≡ e = omega (arith, parts, whole, more) in
    let rest : e % page ≡ e - from = ap (λ (n : ℕ). n % page) (sym here) ∙ mod-mul-add (from / page) page (e - from) (omega (arith, more, less)) in
    rw (ne_eqb (e % page) 0 (λ none. omega (arith, rest, none, more)), ne_eqb e size other) refl

-- a list without its numbers that don't pass
passed-over : (p : ℕ → Bool) (a k n : ℕ) → ((e : ℕ) → a ≤ e → e < a + k → p e ≡ false) → filter p (range_with_len a (k + n)) ≡ filter p (range_with_len (a + k) n)
passed-over p a zero n none = let here : a + 0 ≡ a = omega arith in let none_first : 0 + n ≡ n = omega arith in rw (here, none_first) refl
passed-over p a (suc k) n none =
    let more : suc k + n ≡ suc (k + n) = omega arith in
    let next : a + suc k ≡ a + 1 + k = omega arith in
    rw (more, next) (rw (none a (omega arith) (omega arith)) (passed-over p (a + 1) k n (λ e low high. none e (omega (arith, low)) (omega (arith, high)))))

-- an end, and those behind it
ends-next : (page size at len : ℕ) → at % page ≡ 0 → 0 < len → len ≤ page → at + len ≤ size → ends_from page size at ≡ at ∷ ends_from page size (at + len)
ends-next page size at len whole some few inside =
    let first : size + 1 - at ≡ suc (len - 1 + (size + 1 - (at + len))) = omega (arith, some, inside) in
    let next : at + 1 + (len - 1) ≡ at + len = omega (arith, some) in
    let p : ℕ → Bool = λ e. (e % page == 0) || (e == size) in
    let rest : filter p (range_with_len (at + 1) (len - 1 + (size + 1 - (at + len)))) ≡ filter p (range_with_len (at + len) (size + 1 - (at + len))) =
    passed-over p (at + 1) (len - 1) (size + 1 - (at + len)) (λ e low high. none-between page size at e whole (omega (arith, low)) (omega (arith, high, few)) (λ same. omega (arith, same, high, inside)))
    ∙ ap (λ (a : ℕ). filter p (range_with_len a (size + 1 - (at + len)))) next in
    ap (λ (n : ℕ). filter p (range_with_len at n)) first ∙ rw (end-passes page size at (inl whole)) (ap (λ (l : List ℕ). at ∷ l) rest)

-- the last end
ends-last : (page size : ℕ) → ends_from page size size ≡ size ∷ []
ends-last page size =
    let one : size + 1 - size ≡ 1 = omega arith in
    ap (λ (n : ℕ). filter (λ (e : ℕ). (e % page == 0) || (e == size)) (range_with_len size n)) one ∙ rw (end-passes page size size (inr refl)) refl

-- any end is the first from itself on
ends-first : (page size at : ℕ) → (at % page ≡ 0) ⊎ (at ≡ size) → at ≤ size → (rest : List ℕ) × (ends_from page size at ≡ at ∷ rest)
ends-first page size at is inside =
    let some : size + 1 - at ≡ suc (size - at) = omega (arith, inside) in
    let p : ℕ → Bool = λ e. (e % page == 0) || (e == size) in
    (filter p (range_with_len (at + 1) (size - at)), ap (λ (n : ℕ). filter p (range_with_len at n)) some ∙ rw (end-passes page size at is) refl)

-- ---- the first table without room

full-head : (g : Geometry) (t : List File) (rest : List (List File)) → has_room g t ≡ false → first_full g (t ∷ rest) ≡ Some t
full-head g t rest full = rw full refl

full-tail : (g : Geometry) (t : List File) (rest : List (List File)) → has_room g t ≡ true → first_full g (t ∷ rest) ≡ first_full g rest
full-tail g t rest room = rw room refl

full-both : (g : Geometry) (us vs : List (List File)) → first_full g (us ++ vs) ≡ option_or (first_full g us) (first_full g vs)
full-both g [] vs = refl
full-both g (u ∷ us) vs = ⊎_elim
    (λ (room : has_room g u ≡ true). rw room (full-both g us vs))
    (λ (full : has_room g u ≡ false). rw full refl)
    (cases_Bool (has_room g u))

pub full-here : (g : Geometry) → FullHere g
full-here g f files at is inside full =
    let w = ends-first (body g) (length f.bytes) at is inside in
    ap (λ (l : List ℕ). first_full g (map (begun g f files) l)) w.1 ∙ full-head g (begun g f files at) (map (begun g f files) w.0) full

pub full-later : (g : Geometry) → FullLater g
full-later g f files at len whole some few inside ends room =
    ap (λ (l : List ℕ). first_full g (map (begun g f files) l)) (ends-next (body g) (length f.bytes) at len whole some few inside)
    ∙ full-tail g (begun g f files at) (map (begun g f files) (ends_from (body g) (length f.bytes) (at + len))) room

pub full-ends : (g : Geometry) → FullEnds g
full-ends g f files room =
    ap (λ (l : List ℕ). first_full g (map (begun g f files) l)) (ends-last (body g) (length f.bytes))
    ∙ full-tail g (begun g f files (length f.bytes)) [] room

-- ---- the steps behind a record's bytes

room-same : (g : Geometry) (a b : List File) → index_count g a ≡ index_count g b → data_count g a ≡ data_count g b → has_room g a ≡ has_room g b
unfolding has_room
room-same g a b index pages = rw (index, pages) refl

-- tables with a file of an unused id and one size
pub put-room : (g : Geometry) (w w2 : File) (files : List File) → has_id w.id files ≡ false → w2.id ≡ w.id → length w2.bytes ≡ length w.bytes → has_room g (put_file w2 files) ≡ has_room g (put_file w files)
put-room g w w2 files unused same long =
    let a = put-adds g w files unused in
    let b = put-adds g w2 files (ap (λ (id : ℕ). has_id id files) same ∙ unused) in
    room-same g (put_file w2 files) (put_file w files)
    (b.index_are ∙ ap (λ (n : ℕ). index_count g files + index_pages g n) long ∙ sym a.index_are)
    (b.data_are ∙ ap (λ (n : ℕ). data_count g files + data_pages g n) long ∙ sym a.data_are)

marked-long : (g : Geometry) (alike : Bool) (f : File) (files : List File) → length (marked g alike f files).bytes ≡ length f.bytes
marked-long g true f files = refl
marked-long g false f files = refl

-- the working file with the record's name
abbrev renamed : Geometry → Bool → File → List File → File
renamed g alike f files = record (marked g alike f files) { name = f.name }

marked-room : (g : Geometry) (alike : Bool) (f : File) (files : List File) → has_room g (begun g f files (length f.bytes)) ≡ true → has_room g (put_file (marked g alike f files) files) ≡ true
marked-room g alike f files room =
    let all : take (length f.bytes) f.bytes ≡ f.bytes = take_all (length f.bytes) f.bytes (omega arith) in
    put-room g (front_of g files f.bytes) (marked g alike f files) files (least-unused files) (marked-id g alike f files) (marked-long g alike f files)
    ∙ subst (λ (l : List ℕ). has_room g (put_file (front_of g files l) files) ≡ true) all room

pub less-room : (g : Geometry) (o : Option File) (files : List File) → has_room g files ≡ true → has_room g (without_found o files) ≡ true
less-room g None files room = room
less-room g (Some x) files room = drop-room g x.id files room

cleared-room : (g : Geometry) (alike : Bool) (f : File) (files : List File) → has_room g (put_file (marked g alike f files) files) ≡ true → has_room g (cleared g alike f files) ≡ true
unfolding without_name
cleared-room g alike f files room = less-room g (file_named f.name (put_file (marked g alike f files) files)) (put_file (marked g alike f files) files) room

over-found : (g : Geometry) (alike : Bool) (f : File) (files : List File) → f.name ≢ working → has_room g (put_file (marked g alike f files) files) ≡ true → (o : Option File) → file_named f.name (put_file (marked g alike f files) files) ≡ o →
    has_room g (put_file (renamed g alike f files) (without_found o (put_file (marked g alike f files) files))) ≡ true
over-found g alike f files fine room None is =
    ap (has_room g) (put_twice (renamed g alike f files) (marked g alike f files) files refl)
    ∙ put-room g (marked g alike f files) (renamed g alike f files) files (marked-unused g alike f files) refl refl ∙ room
over-found g alike f files fine room (Some x) is =
    ap (has_room g) (over-drop (marked g alike f files) (renamed g alike f files) x.id files refl
    (other-there (marked g alike f files) files f.name x (marked-unused g alike f files) (λ same. fine (sym same ∙ marked-name g alike f files)) is))
    ∙ drop-room g x.id (put_file (renamed g alike f files) files) (put-room g (marked g alike f files) (renamed g alike f files) files (marked-unused g alike f files) refl refl ∙ room)

placed-room : (g : Geometry) (alike : Bool) (f : File) (files : List File) → f.name ≢ working → has_room g (put_file (marked g alike f files) files) ≡ true → has_room g (placed g alike f files) ≡ true
unfolding placed without_name
placed-room g alike f files fine room = over-found g alike f files fine room (file_named f.name (put_file (marked g alike f files) files)) refl

pub room-behind : (g : Geometry) → RoomBehind g
room-behind g alike f files fine room =
    let whole = marked-room g alike f files room in
    record { marked_room = whole; cleared_room = cleared-room g alike f files whole; placed_room = placed-room g alike f files fine whole }

-- where none of the tables of a record's bytes lacks room, the last one has it
all-room : (g : Geometry) (u : ℕ → List File) (es : List ℕ) (e : ℕ) → first_full g (map u (es ++ e ∷ [])) ≡ None → has_room g (u e) ≡ true
all-room g u [] e none = ⊎_elim
    (λ (room : has_room g (u e) ≡ true). room)
    (λ (full : has_room g (u e) ≡ false). absurd (none-some (u e) (sym (rw full at none))))
    (cases_Bool (has_room g (u e)))
all-room g u (d ∷ es) e none = ⊎_elim
    (λ (room : has_room g (u d) ≡ true). all-room g u es e (rw room at none))
    (λ (full : has_room g (u d) ≡ false). absurd (none-some (u d) (sym (rw full at none))))
    (cases_Bool (has_room g (u d)))

-- the last of some numbers passes
one-more : (p : ℕ → Bool) (a n k : ℕ) (front : List ℕ) → filter p (range_with_len (a + 1) (n + 1)) ≡ front ++ k ∷ [] → (all : List ℕ) × (filter p (range_with_len a (suc n + 1)) ≡ all ++ k ∷ [])
one-more p a n k front is =
    let more : suc n + 1 ≡ suc (n + 1) = omega arith in
    ⊎_elim
    (λ (yes : p a ≡ true). (a ∷ front, rw more (rw yes (ap (λ (l : List ℕ). a ∷ l) is))))
    (λ (no : p a ≡ false). (front, rw more (rw no is)))
    (cases_Bool (p a))

last-passes : (p : ℕ → Bool) (a n k : ℕ) → k ≡ a + n → p k ≡ true → (front : List ℕ) × (filter p (range_with_len a (n + 1)) ≡ front ++ k ∷ [])
last-passes p a zero k is passes = let here : a ≡ k = omega (arith, is) in ([], rw here (rw passes refl))
last-passes p a (suc n) k is passes = let rest = last-passes p (a + 1) n k (omega (arith, is)) passes in one-more p a n k rest.0 rest.1

ends-all : (page size : ℕ) → (front : List ℕ) × (ends_from page size 0 ≡ front ++ size ∷ [])
ends-all page size =
    let p : ℕ → Bool = λ e. (e % page == 0) || (e == size) in
    let rest = last-passes p 0 size size (omega arith) (end-passes page size size (inr refl)) in
    let all : size + 1 - 0 ≡ size + 1 = omega arith in
    (rest.0, ap (λ (n : ℕ). filter p (range_with_len 0 n)) all ∙ rest.1)

pub last-has_room : (g : Geometry) (f : File) (files : List File) → filling_full g f files 0 ≡ None → has_room g (begun g f files (length f.bytes)) ≡ true
last-has_room g f files none =
    let w = ends-all (body g) (length f.bytes) in
    all-room g (begun g f files) w.0 (length f.bytes) (subst (λ (l : List ℕ). first_full g (map (begun g f files) l) ≡ None) w.1 none)

-- no table behind the record's bytes lacks room
none-behind : (g : Geometry) (alike : Bool) (f : File) (files : List File) → HasRoomBehind g alike f files → first_full g (put_file (marked g alike f files) files ∷ cleared g alike f files ∷ placed g alike f files ∷ []) ≡ None
none-behind g alike f files has = rw (has.marked_room, has.cleared_room, has.placed_room) refl

or-none : {X : Type 0} (o : Option X) → option_or o None ≡ o
or-none None = refl
or-none (Some x) = refl

pub record-full : (g : Geometry) → RecordFull g
unfolding record_steps
record-full g alike f files fine =
    let tail : List (List File) = put_file (marked g alike f files) files ∷ cleared g alike f files ∷ placed g alike f files ∷ [] in
    full-both g (map (begun g f files) (ends_from (body g) (length f.bytes) 0)) tail ∙ go (filling_full g f files 0) refl
  where
    go : (o : Option (List File)) → filling_full g f files 0 ≡ o → option_or (filling_full g f files 0) (first_full g (put_file (marked g alike f files) files ∷ cleared g alike f files ∷ placed g alike f files ∷ [])) ≡ filling_full g f files 0
    go None none =
        ap (λ (o : Option (List File)). option_or (filling_full g f files 0) o) (none-behind g alike f files (room-behind g alike f files fine (last-has_room g f files none))) ∙ or-none (filling_full g f files 0)
    go (Some t) some = rw some refl

pub steps-kept : (g : Geometry) → StepsKept g
unfolding copy_steps
steps-kept g alike f rest files kept = rw kept refl

pub steps-full : (g : Geometry) → StepsFull g
unfolding copy_steps
steps-full g alike f rest files fine copies =
    rw copies (full-both g (record_steps g alike f files) (copy_steps g alike rest (placed g alike f files))
    ∙ ap (λ (o : Option (List File)). option_or o (first_full g (copy_steps g alike rest (placed g alike f files)))) (record-full g alike f files fine))
