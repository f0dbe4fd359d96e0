-- What a volume answers where a new file is made and written.
use Rattle.std.proofs.Common.{◌≡◌, ℕ, ◌+◌, ◌-◌, ◌<◌, ◌≤◌, List, [], ◌∷◌, ◌++◌, length, take, drop, Bool, true, false, ◌==◌, Option, Some, None, refl, sym, ◌∙◌, ap, arith, subst, ⊎_elim}
use Rattle.std.specs.Prelude.{replicate}
use Rattle.std.proofs.lemmas.Bool.{cases_Bool, cases_lt, ne_eqb, eqb-true, eqb-false}
use Rattle.std.proofs.lemmas.Option.{none-some, same_Some}
use Rattle.std.proofs.lemmas.List.{take_all, drop_all, append-nil, length-append, set-set, get_or-set_same}
use Rattle.std.proofs.lemmas.List.Sums.{sum_by-cons}
use Rattle.geometry.specs.declared.geometry.Geometry.{Geometry}
use Rattle.table_model.specs.declared.error.FsErr.TheVariants.{Full}
use Rattle.table_model.specs.Table.{File, Open, State, file_of, least_id, put_file}
use Rattle.table_model.specs.Room.{has_room, index_count, data_count}
use Rattle.table_model.specs.Descriptors.{open_at, put_at, lowest_closed, lowest_from, appends}
use Rattle.table_model.specs.Files.{written, write_place}
use Rattle.table_model.specs.Opening.{answer_open}
use Rattle.table_model.specs.declared.reply.Info.{Info}
use Rattle.table_model.specs.Calls.{answer_write, info_of}
use Rattle.table_model.specs.Outcome.{Outcome, gives, refused, page_refusal}
use Rattle.table_model.specs.Ask.{Opens, Writes}
use Rattle.table_model.specs.Reply.{Tells}
use Rattle.table_model.specs.Steps.{is_refusal}
use Rattle.table_model.specs.Flat.{answer}
use Rattle.call_model.proofs.Unused.{least-unused}
use Rattle.call_model.proofs.Tables.{file_of-put}
use Rattle.call_model.proofs.Parts.{put_twice}
use Rattle.file_room.specs.Fitting.{has_room_for, IsNew, write_all, put_new, IsTaken, IsFull, size_of, IsMost, IsLargest}
use Rattle.header_laws.proofs.AddsUp.{put-adds}
use Rattle.file_room.proofs.Growing.{shorter-fits, longer-fails}

-- ---- the lowest closed descriptor is one of them

closed_inside : (n fd : ℕ) (all : List (Option Open)) → lowest_from n all ≡ Some fd → (n ≤ fd) × (fd < n + length all)
closed_inside n fd [] is = absurd (none-some fd is)
closed_inside n fd (None ∷ all) is = let here = same_Some n fd is in (omega (arith, here), omega (arith, here))
closed_inside n fd (Some d ∷ all) is = let rest = closed_inside (n + 1) fd all is in (omega (arith, rest.0), omega (arith, rest.1))

opened_at : (all : List (Option Open)) (fd : ℕ) (d : Open) → lowest_closed all ≡ Some fd → open_at (put_at all fd (Some d)) fd ≡ Some d
unfolding lowest_closed open_at put_at
opened_at all fd d is =
    let w = closed_inside 1 fd all is in
    rw (ne_eqb fd 0 (λ none. omega (arith, none, w.0))) (get_or-set_same all (fd - 1) (Some d) None (omega (arith, w.0, w.1)))

opened_again : (all : List (Option Open)) (fd : ℕ) (d e : Open) → put_at (put_at all fd (Some d)) fd (Some e) ≡ put_at all fd (Some e)
unfolding put_at
opened_again all fd d e = set-set all (fd - 1) (Some d) (Some e)

-- bytes that are written at the end of others
written_end : (xs ys : List ℕ) → take (length xs) xs ++ ys ++ drop (length xs + length ys) xs ≡ xs ++ ys
written_end xs ys =
    let front : take (length xs) xs ≡ xs = take_all (length xs) xs (omega arith) in
    let back : drop (length xs + length ys) xs ≡ [] = drop_all (length xs + length ys) xs (omega arith) in
    rw (front, back) (append-nil (xs ++ ys))

some_bytes : (piece : List ℕ) → (length piece == 0) ≡ false → 0 < length piece
some_bytes piece some = let apart = eqb-false (length piece) 0 some in omega (arith, apart)

-- nothing is written behind a refusal
stops : (g : Geometry) (fd : ℕ) (s : State) (pieces : List (List ℕ)) → IsFull (write_all g fd (refused Full s) pieces)
unfolding write_all
stops g fd s [] = refl
stops g fd s (piece ∷ pieces) = refl

module _ (g : Geometry) (s : State) (name : List ℕ) (flags fd : ℕ) (new : IsNew s name flags fd) where
  -- the new file with some bytes
  abbrev file : List ℕ → File
  file bytes = record { id = least_id s.table; name = name; kind = 1; meta = replicate g.meta 0xFF; bytes = bytes }

  abbrev table : List ℕ → List File
  table bytes = put_file (file bytes) s.table

  -- the descriptor at its end
  abbrev at_end : List ℕ → Open
  at_end bytes = record { id = least_id s.table; flags = flags; offset = length bytes }

  -- it was made, and these bytes were written
  abbrev state : List ℕ → State
  state bytes = record { table = table bytes; slots = put_at s.slots fd (Some (at_end bytes)) }

  abbrev fits : ℕ → Bool
  fits size = has_room_for g (index_count g s.table) (data_count g s.table) size

  room_is : (bytes : List ℕ) → has_room g (table bytes) ≡ fits (length bytes)
  unfolding has_room
  room_is bytes = let w = put-adds g (file bytes) s.table (least-unused s.table) in rw (w.index_are, w.data_are) refl

  -- ---- the opening

  made : fits 0 ≡ true → answer g true s (Opens name flags) ≡ gives (Tells fd) (state [])
  unfolding answer answer_open page_refusal
  made room = rw (new.fine, new.good, new.closed, new.missing, new.makes, room_is [] ∙ room) refl

  not_made : fits 0 ≡ false → answer g true s (Opens name flags) ≡ refused Full s
  unfolding answer answer_open page_refusal
  not_made full = rw (new.fine, new.good, new.closed, new.missing, new.makes, room_is [] ∙ full) refl

  -- ---- a write at the end

  place_is : (bytes : List ℕ) → write_place (at_end bytes) (file bytes) ≡ length bytes
  place_is bytes = ⊎_elim
      (λ (yes : appends flags ≡ true). rw yes refl)
      (λ (no : appends flags ≡ false). rw no refl)
      (cases_Bool (appends flags))

  table_after : (bytes more : List ℕ) → put_file (written (length bytes) more (file bytes)) (table bytes) ≡ table (bytes ++ more)
  table_after bytes more =
      ap (λ (l : List ℕ). put_file (file l) (table bytes)) (written_end bytes more) ∙ put_twice (file (bytes ++ more)) (file bytes) s.table refl

  wrote : (bytes more : List ℕ) → 0 < length more → fits (length bytes + length more) ≡ true → answer g true (state bytes) (Writes fd more) ≡ gives (Tells (length more)) (state (bytes ++ more))
  unfolding answer answer_write page_refusal
  wrote bytes more some room =
      let long : length (bytes ++ more) ≡ length bytes + length more = length-append bytes more in
      let here : file_of (least_id s.table) (table bytes) ≡ Some (file bytes) = file_of-put (file bytes) s.table in
      let has : has_room g (table (bytes ++ more)) ≡ true = room_is (bytes ++ more) ∙ ap fits long ∙ room in
      rw (opened_at s.slots fd (at_end bytes) new.closed, here, new.writes, ne_eqb (length more) 0 (λ none. omega (arith, none, some)), place_is bytes, table_after bytes more, has, opened_again s.slots fd (at_end bytes) (record (at_end bytes) { offset = length bytes + length more }), long) refl

  not_wrote : (bytes more : List ℕ) → 0 < length more → fits (length bytes + length more) ≡ false → answer g true (state bytes) (Writes fd more) ≡ refused Full (state bytes)
  unfolding answer answer_write page_refusal
  not_wrote bytes more some full =
      let long : length (bytes ++ more) ≡ length bytes + length more = length-append bytes more in
      let here : file_of (least_id s.table) (table bytes) ≡ Some (file bytes) = file_of-put (file bytes) s.table in
      let has : has_room g (table (bytes ++ more)) ≡ false = room_is (bytes ++ more) ∙ ap fits long ∙ full in
      rw (opened_at s.slots fd (at_end bytes) new.closed, here, new.writes, ne_eqb (length more) 0 (λ none. omega (arith, none, some)), place_is bytes, table_after bytes more, has) refl

  -- no byte
  wrote_none : (bytes more : List ℕ) → (length more == 0) ≡ true → answer g true (state bytes) (Writes fd more) ≡ gives (Tells 0) (state bytes)
  unfolding answer answer_write
  wrote_none bytes more none =
      let here : file_of (least_id s.table) (table bytes) ≡ Some (file bytes) = file_of-put (file bytes) s.table in
      rw (opened_at s.slots fd (at_end bytes) new.closed, here, new.writes, none) refl

  -- ---- all pieces

  module _ (most : ℕ) (last : fits most ≡ true) (next : fits (most + 1) ≡ false) where
    -- what comes of the pieces behind some bytes that were written
    record Ends (bytes : List ℕ) (outcome : Outcome) (pieces : List (List ℕ)) : Type 0 where
      taken : length bytes + size_of pieces ≤ most → IsTaken outcome
      refuses : most < length bytes + size_of pieces → IsFull outcome

    -- the first of them is written
    step : (done : Outcome) (bytes piece : List ℕ) (pieces : List (List ℕ)) → is_refusal done.answer ≡ false → done.next ≡ state bytes →
        write_all g fd done (piece ∷ pieces) ≡ write_all g fd (answer g true (state bytes) (Writes fd piece)) pieces
    unfolding write_all
    step done bytes piece pieces fine at = rw fine (ap (λ (t : State). write_all g fd (answer g true t (Writes fd piece)) pieces) at)

    -- then the others go on
    on : (bytes more piece : List ℕ) (pieces : List (List ℕ)) (next : Outcome) → answer g true (state bytes) (Writes fd piece) ≡ next → length more ≡ length bytes + length piece → Ends more (write_all g fd next pieces) pieces →
        Ends bytes (write_all g fd (answer g true (state bytes) (Writes fd piece)) pieces) (piece ∷ pieces)
    on bytes more piece pieces next is long rest =
        let sum : size_of (piece ∷ pieces) ≡ length piece + size_of pieces = sum_by-cons length piece pieces in
        record {
          taken = λ less. subst (λ (o : Outcome). IsTaken (write_all g fd o pieces)) (sym is) (rest.taken (omega (arith, less, sum, long)));
          refuses = λ over. subst (λ (o : Outcome). IsFull (write_all g fd o pieces)) (sym is) (rest.refuses (omega (arith, over, sum, long)));
        }

    -- or it is refused
    ended : (bytes piece : List ℕ) (pieces : List (List ℕ)) → 0 < length piece → most < length bytes + length piece → Ends bytes (write_all g fd (answer g true (state bytes) (Writes fd piece)) pieces) (piece ∷ pieces)
    ended bytes piece pieces some over =
        let sum : size_of (piece ∷ pieces) ≡ length piece + size_of pieces = sum_by-cons length piece pieces in
        let full : fits (length bytes + length piece) ≡ false = longer-fails g (index_count g s.table) (data_count g s.table) (most + 1) (length bytes + length piece) (omega (arith, over)) next in
        record {
          taken = λ less. absurd (omega (arith, less, sum, over));
          refuses = λ more. subst (λ (o : Outcome). IsFull (write_all g fd o pieces)) (sym (not_wrote bytes piece some full)) (stops g fd (state bytes) pieces);
        }

    ends : (pieces : List (List ℕ)) (bytes : List ℕ) (done : Outcome) → is_refusal done.answer ≡ false → done.next ≡ state bytes → length bytes ≤ most → Ends bytes (write_all g fd done pieces) pieces
    unfolding write_all
    ends [] bytes done fine at within = record { taken = λ less. fine; refuses = λ over. absurd (omega (arith, within, over)) }
    ends (piece ∷ pieces) bytes done fine at within =
        subst (λ (o : Outcome). Ends bytes o (piece ∷ pieces)) (sym (step done bytes piece pieces fine at)) (⊎_elim
        (λ (none : (length piece == 0) ≡ true).
        let zero_is : length piece ≡ 0 = eqb-true (length piece) 0 none in
        on bytes bytes piece pieces (gives (Tells 0) (state bytes)) (wrote_none bytes piece none) (omega (arith, zero_is)) (ends pieces bytes (gives (Tells 0) (state bytes)) refl refl within))
        (λ (some : (length piece == 0) ≡ false). ⊎_elim
        (λ (over : most < length bytes + length piece). ended bytes piece pieces (some_bytes piece some) over)
        (λ (inside : length bytes + length piece ≤ most).
        let room : fits (length bytes + length piece) ≡ true = shorter-fits g (index_count g s.table) (data_count g s.table) (length bytes + length piece) most inside last in
        let long : length (bytes ++ piece) ≡ length bytes + length piece = length-append bytes piece in
        on bytes (bytes ++ piece) piece pieces (gives (Tells (length piece)) (state (bytes ++ piece))) (wrote bytes piece (some_bytes piece some) room) long
        (ends pieces (bytes ++ piece) (gives (Tells (length piece)) (state (bytes ++ piece))) refl refl (omega (arith, long, inside))))
        (cases_lt most (length bytes + length piece)))
        (cases_Bool (length piece == 0)))

    all_ends : (pieces : List (List ℕ)) → Ends [] (put_new g s name flags fd pieces) pieces
    all_ends pieces =
        let is = made (shorter-fits g (index_count g s.table) (data_count g s.table) 0 most (omega arith) last) in
        ends pieces [] (answer g true s (Opens name flags)) (rw is refl) (rw is refl) (omega arith)

-- ---- the largest new file

-- a file of so many bytes has room, and one of a byte more has none
pub most_is : (g : Geometry) (s : State) (info : Info) (most over : ℕ) → info_of g s.table ≡ info → has_room_for g info.index_pages info.data_pages most ≡ true → has_room_for g info.index_pages info.data_pages over ≡ false → over ≡ most + 1 → IsMost g s most
most_is g s info most over told room full more =
    let last : has_room_for g (index_count g s.table) (data_count g s.table) most ≡ true = subst (λ (x : Info). has_room_for g x.index_pages x.data_pages most ≡ true) (sym told) room in
    let next : has_room_for g (index_count g s.table) (data_count g s.table) (most + 1) ≡ false =
    subst (λ (n : ℕ). has_room_for g (index_count g s.table) (data_count g s.table) n ≡ false) more (subst (λ (x : Info). has_room_for g x.index_pages x.data_pages over ≡ false) (sym told) full) in
    record {
      taken = λ name flags fd pieces new less. (all_ends g s name flags fd new most last next pieces).taken (omega (arith, less));
      refused = λ name flags fd pieces new above. (all_ends g s name flags fd new most last next pieces).refuses (omega (arith, above));
    }

-- an empty one has none
pub none_is : (g : Geometry) (s : State) (info : Info) → info_of g s.table ≡ info → has_room_for g info.index_pages info.data_pages 0 ≡ false → IsLargest g s None
none_is g s info told none =
    let full : has_room_for g (index_count g s.table) (data_count g s.table) 0 ≡ false = subst (λ (x : Info). has_room_for g x.index_pages x.data_pages 0 ≡ false) (sym told) none in
    λ name flags fd pieces new. subst (λ (o : Outcome). IsFull (write_all g fd o pieces)) (sym (not_made g s name flags fd new full)) (stops g fd s pieces)
