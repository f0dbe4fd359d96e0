-- Openings of a file that is there, which becomes empty where the flags say so.
use Rattle.std.proofs.Common.{◌≡◌, ℕ, List, length, map, Bool, true, false, ◌&&◌, refl, sym, ◌∙◌, ap, arith}
use Rattle.std.specs.Prelude.{Option, Some, None, Ok, Err}
use Rattle.std.specs.Option.{option_map}
use Rattle.std.proofs.lemmas.Bool.{ne_eqb}
use Rattle.geometry.specs.declared.geometry.Geometry.{Geometry}
use Rattle.nor_core.specs.declared.state.NorState.{Ghosts as NorOf}
use Rattle.table_model.specs.declared.error.FsErr.{FsErr}
use Rattle.table_model.specs.declared.error.FsErr.TheVariants.{DeviceFault}
use Rattle.table_model.specs.declared.reply.Stat.{Stat}
use Rattle.table_model.specs.Table.{File, Open, State, file_named, file_of}
use Rattle.table_model.specs.Names.{name_refusal}
use Rattle.table_model.specs.Descriptors.{empties, put_at, new_open, pulled_back}
use Rattle.table_model.specs.Files.{stat_of, with_open, cut_to}
use Rattle.table_model.specs.Opening.{takes_bytes}
use Rattle.table_model.specs.Outcome.{refused, gives}
use Rattle.table_model.specs.Reply.{Tells as Number}
use Rattle.table_model.specs.Ask.{Opens}
use Rattle.table_model.specs.Flat.{answer}
use Rattle.table_model.specs.Steps.{done_steps}
use Rattle.image_model.specs.Tables.{table_of}
use Rattle.image_model.specs.Tidy.{IsTidy, has_spare}
use Rattle.call_model.proofs.Tables.{file_of-id}
use Rattle.file_drop.specs.Truncates.{shortened}
use Rattle.fd_table.specs.declared.slot.FdSlot.{FdSlot}
use Rattle.fd_table.specs.Slots.{descriptors}
use Rattle.file_calls.specs.States.{IsImageOf}
use Rattle.file_calls.specs.Moves.{with_slots}
use Rattle.file_calls.specs.Opens.{TakesSlot, FindsOpened}
use Rattle.file_calls.specs.Refusals.{IsResized}
use Rattle.file_calls.specs.Cuts.{cutting}
use Rattle.file_calls.proofs.Going.{IsStep}
use Rattle.file_calls.proofs.Descriptors.{stat_is}
use Rattle.file_calls.proofs.Restates.{the_file, the_file_is, named_there}
use Rattle.file_calls.proofs.Cutting.{TellsRoom, is_resized, where_true, CutsFile, cut_refuses, cut_step}
use Rattle.file_calls.proofs.Openings.{lowest, opens_there, flat_empties}

-- ---- whether bytes are taken

and_never : (b : Bool) → (b && false) ≡ false
and_never true = refl
and_never false = refl

takes_none : (flags : ℕ) (f : File) → length f.bytes ≡ 0 → takes_bytes flags f ≡ false
takes_none flags f none = rw none (and_never (empties flags))

takes_some : (flags : ℕ) (f : File) → empties flags ≡ true → (length f.bytes ≡ 0 → ⊥) → takes_bytes flags f ≡ true
takes_some flags f empty some = rw (empty, ne_eqb (length f.bytes) 0 some) refl

pub takes_never : (flags : ℕ) (f : File) → empties flags ≡ false → takes_bytes flags f ≡ false
takes_never flags f keeps = rw keeps refl

-- ---- over a device

-- the state after an opening that empties a file
abbrev pub emptied : (flags fd : ℕ) → File → State → State
emptied flags fd f s = with_open fd (new_open f.id flags) (cut_to 0 f s)

-- and its descriptors
abbrev pub emptied_slots : List FdSlot → (id flags fd : ℕ) → List (Option Open)
emptied_slots slots id flags fd = put_at (map (pulled_back id 0) (descriptors slots)) fd (Some (new_open id flags))

module _ {D : Type 0} {nor : NorOf D} {g : Geometry} {old : D} {slots : List FdSlot} (name : List ℕ) (flags : ℕ) (fine : name_refusal name ≡ None) (fd : ℕ) (taken : TakesSlot flags (descriptors slots) (Ok fd)) (id : ℕ)
    (found : nor.tells old → IsTidy g (nor.bytes old) → FindsOpened name flags (table_of g (nor.bytes old)) (Ok (Some id))) where
  -- its record can't be missing
  pub opened_missing : (s : State) → IsImageOf nor g old slots s → file_of id (table_of g (nor.bytes old)) ≡ None → ⊥
  opened_missing s here none = let w = named_there g (nor.bytes old) name id (found here.tells here.tidy).0 in let no : Some w.0 ≡ None = sym w.2 ∙ none in cc

  -- by the size that its record tells
  module _ (stat : Stat) (told : nor.tells old → IsTidy g (nor.bytes old) → Some stat ≡ option_map stat_of (file_of id (table_of g (nor.bytes old)))) where
    size_is : (f : File) (s : State) → IsImageOf nor g old slots s → file_of id (table_of g (nor.bytes old)) ≡ Some f → stat.size ≡ length f.bytes
    size_is f s here at = ap (λ (x : Stat). x.size) (stat_is stat f _ (told here.tells here.tidy) at)

    -- an empty file
    pub opens_empty : stat.size ≡ 0 → (s : State) → IsImageOf nor g old slots s → answer g (has_spare g (nor.bytes old)) s (Opens name flags) ≡ gives (Number fd) (with_slots (put_at (descriptors slots) fd (Some (new_open id flags))) s)
    opens_empty none s here = opens_there name flags fine fd taken id s here (found here.tells here.tidy) (λ f at. takes_none flags f (sym (size_is f s here at) ∙ none))

    -- the file, as it was
    is_there : (s : State) → IsImageOf nor g old slots s → file_of id (table_of g (nor.bytes old)) ≡ Some (the_file id (table_of g (nor.bytes old)))
    is_there s here =
        let w = named_there g (nor.bytes old) name id (found here.tells here.tidy).0 in
        w.2 ∙ ap (λ (x : File). Some x) (sym (the_file_is id (table_of g (nor.bytes old)) w.0 w.2))

    is_named : (s : State) → IsImageOf nor g old slots s → file_named name s.table ≡ Some (the_file id (table_of g (nor.bytes old)))
    is_named s here =
        let w = named_there g (nor.bytes old) name id (found here.tells here.tidy).0 in
        ap (file_named name) here.table ∙ w.1 ∙ ap (λ (x : File). Some x) (sym (the_file_is id (table_of g (nor.bytes old)) w.0 w.2))

    is_room : (s : State) → IsImageOf nor g old slots s → IsResized (table_of g (nor.bytes old)) stat.size 0 (the_file id (table_of g (nor.bytes old))) (shortened 0 (the_file id (table_of g (nor.bytes old))))
    is_room s here = is_resized (table_of g (nor.bytes old)) id 0 stat.size (the_file id (table_of g (nor.bytes old))) (is_there s here) (sym (size_is _ s here (is_there s here))) (omega arith)

    -- one that has bytes
    module _ (empty : empties flags ≡ true) (some : stat.size ≡ 0 → ⊥) where
      empties_by : (s : State) → IsImageOf nor g old slots s → CutsFile g (has_spare g (nor.bytes old)) s (Opens name flags) (Number fd) id 0 (emptied_slots slots id flags fd) (the_file id (table_of g (nor.bytes old))) (emptied flags fd (the_file id (table_of g (nor.bytes old))) s)
      unfolding cut_to done_steps
      empties_by s here =
          let f = the_file id (table_of g (nor.bytes old)) in
          let at = is_there s here in
          let is : f.id ≡ id = file_of-id id (table_of g (nor.bytes old)) f at in
          let takes : takes_bytes flags f ≡ true = takes_some flags f empty (λ none. some (size_is f s here at ∙ none)) in
          record {
            there = ap (file_of id) here.table ∙ at;
            less = omega arith;
            is = flat_empties g (has_spare g (nor.bytes old)) s name flags fine fd taken.0 (lowest name flags fine fd taken s here) f (is_named s here) (found here.tells here.tidy).1 takes;
            table_is = refl;
            slots_are = rw (is, here.slots) refl;
            step = rw (is_named s here) (rw takes refl);
          }

      -- no page is had
      pub empties_refuses : {why : FsErr} → (nor.tells old → IsTidy g (nor.bytes old) → TellsRoom stat.size 0 (Err why) g (nor.bytes old)) → (s : State) → IsImageOf nor g old slots s → (why ≡ DeviceFault → ⊥) → answer g (has_spare g (nor.bytes old)) s (Opens name flags) ≡ refused why s
      empties_refuses room s here no_fault = cut_refuses (Opens name flags) (Number fd) refl id 0 (emptied_slots slots id flags fd) (the_file id (table_of g (nor.bytes old))) (emptied flags fd (the_file id (table_of g (nor.bytes old)))) empties_by s here
          (room here.tells here.tidy (the_file id (table_of g (nor.bytes old))) (shortened 0 (the_file id (table_of g (nor.bytes old)))) (is_room s here) no_fault)

      -- the step
      pub emptied_step : (nor.tells old → IsTidy g (nor.bytes old) → TellsRoom stat.size 0 (Ok tt) g (nor.bytes old)) → IsStep nor g slots (Opens name flags) (Number fd) (emptied_slots slots id flags fd) old (where_true (cutting id 0 (the_file id (table_of g (nor.bytes old)))))
      emptied_step room = cut_step (Opens name flags) (Number fd) refl id 0 (emptied_slots slots id flags fd) (the_file id (table_of g (nor.bytes old))) (emptied flags fd (the_file id (table_of g (nor.bytes old)))) empties_by
          (λ s here. room here.tells here.tidy (the_file id (table_of g (nor.bytes old))) (shortened 0 (the_file id (table_of g (nor.bytes old)))) (is_room s here))
