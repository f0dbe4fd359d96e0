-- A run is written into its file, or a write doesn't wait: what is settled then.
use Rattle.std.proofs.Common.{◌≡◌, ℕ, ◌+◌, ◌*◌, ◌/◌, ◌%◌, ◌<◌, ◌≤◌, ◌⊎◌, List, length, true, false, not, ◌&&◌, Some, inl, inr, ⊎_elim, sym, ◌∙◌, ap, subst, refl, arith}
use Rattle.std.specs.Prelude.{nat_lt}
use Rattle.std.proofs.Math.Nat.{div-add-mod, div-mul-le_self, mul-le-mul_right}
use Rattle.std.proofs.lemmas.Bool.{cases_lt, cases_eq, lt-leb, and_right}
use Rattle.std.proofs.lemmas.Option.{same_Some}
use Rattle.geometry.specs.declared.geometry.Geometry.{Geometry}
use Rattle.geometry.specs.Numbers.{body}
use Rattle.table_model.specs.Table.{File, Open, put_file}
use Rattle.table_model.specs.Descriptors.{is_direct}
use Rattle.table_model.specs.Files.{written, write_place}
use Rattle.table_model.specs.Ask.{Writes}
use Rattle.table_model.specs.Outcome.{Outcome}
use Rattle.table_model.specs.Steps.{file_steps, written_up_to}
use Rattle.table_model.specs.Window.{Moment, may_wait, page_end, settled_at, IsAmong}
use Rattle.write_window.specs.Runs.{Run}
use Rattle.call_model.specs.Memory.{Waits}
use Rattle.call_model.specs.Parts.{IsPartEnd}
use Rattle.call_model.specs.Writing.{DirectMoment, WaitSettles, WaitEnds, EndedAt, brought}
use Rattle.call_model.proofs.After.{other-settles}
use Rattle.call_model.proofs.Parts.{among-left, among-steps, whole-table}
use Rattle.call_model.proofs.Writing.{write-is_done}

-- the first place behind another where a data page ends is the end of its page
first_end : (b at e end : ℕ) → at < e → e ≤ end → end ≤ (at / b + 1) * b → e % b ≡ 0 → e ≡ end
first_end b at e end low high within ends =
    let whole : b * (e / b) + e % b ≡ e = div-add-mod e b in
    let back : at / b * b ≤ at = div-mul-le_self at b in
    ⊎_elim
    (λ (behind : at / b < e / b). let up : (at / b + 1) * b ≤ e / b * b = mul-le-mul_right b (omega (arith, behind)) in omega (arith, whole, up, high, within, ends))
    (λ (before : e / b ≤ at / b). let down : e / b * b ≤ at / b * b = mul-le-mul_right b before in absurd (omega (arith, whole, back, down, low, ends)))
    (cases_lt (at / b) (e / b))

module _ (g : Geometry) (m : Moment) (r : Run) (w : Waits g m r) where
  -- the whole run gives the table of the state
  run-whole : written_up_to r.start r.bytes w.file m.settled (r.start + length r.bytes) ≡ m.state.table
  run-whole = whole-table r.start r.bytes w.file m.settled ∙ sym w.next

  -- a step of the run waits
  step-waits : (e : ℕ) → IsPartEnd (body g) (length w.file.bytes) r.start (length r.bytes) e → IsAmong (written_up_to r.start r.bytes w.file m.settled e) m.waiting
  step-waits e is =
      let at_whole : e ≡ r.start + length r.bytes → IsAmong (written_up_to r.start r.bytes w.file m.settled e) m.waiting =
      λ whole. subst (λ (t : List File). IsAmong t m.waiting) (sym (ap (written_up_to r.start r.bytes w.file m.settled) whole ∙ run-whole)) w.last in
      ⊎_elim
      (λ (whole : e ≡ r.start + length r.bytes). at_whole whole)
      (λ (part : e ≡ r.start + length r.bytes → ⊥). ⊎_elim
      (λ (page : e % body g ≡ 0). at_whole (first_end (body g) r.start e (r.start + length r.bytes) is.from is.to w.one_page page))
      (λ (other : (e ≡ length w.file.bytes) ⊎ (e ≡ r.start + length r.bytes)). ⊎_elim
      (λ (old : e ≡ length w.file.bytes).
      subst (λ (n : ℕ). IsAmong (written_up_to r.start r.bytes w.file m.settled n) m.waiting) (sym old)
      (w.middle (omega (arith, old, is.from)) (omega (arith, old, is.to, part))))
      (λ (whole : e ≡ r.start + length r.bytes). at_whole whole)
      other)
      is.ends)
      (cases_eq e (r.start + length r.bytes))

  steps-wait : (t : List File) → IsAmong t (file_steps g r.start r.bytes w.file m.settled) → IsAmong t m.waiting
  steps-wait t h = let s = among-steps g r.start r.bytes w.file m.settled t h in subst (λ (u : List File). IsAmong u m.waiting) (sym s.table) (step-waits s.end s.is_end)

pub wait_settles : (g : Geometry) → WaitSettles g
unfolding IsAmong
wait_settles g m r f t more w there h = ⊎_elim
    (λ (settled : t ≡ m.settled). inl settled)
    (λ (step : IsAmong t (file_steps g r.start r.bytes f m.settled)).
    let is : f ≡ w.file = same_Some f w.file (sym there ∙ w.there) in
    inr (among-left t m.waiting more (steps-wait g m r w t (subst (λ (x : File). IsAmong t (file_steps g r.start r.bytes x m.settled)) is step))))
    h

pub wait_ends : (g : Geometry) → WaitEnds g
wait_ends g m r f w there = w.next ∙ ap (λ (x : File). put_file (written r.start r.bytes x) m.settled) (same_Some w.file f (sym w.there ∙ there))

-- ---- nothing waits

pub ended_at : (g : Geometry) → EndedAt g
unfolding settled_at
ended_at g image s tidy table opens = record { tidy = tidy; table = table; slots = refl; run = refl; opened = opens }

never-waits : (g : Geometry) (fd : ℕ) (bytes : List ℕ) (d : Open) (f : File) → (is_direct d.flags ≡ true) ⊎ (page_end g (write_place d f) < write_place d f + length bytes) → may_wait g (Some (brought fd bytes d f)) ≡ false
never-waits g fd bytes d f why = ⊎_elim
    (λ (direct : is_direct d.flags ≡ true). rw direct refl)
    (λ (past : page_end g (write_place d f) < write_place d f + length bytes). rw (lt-leb (write_place d f + length bytes) (page_end g (write_place d f)) past) (and_right (not (is_direct d.flags) && nat_lt 0 (length bytes)) false refl))
    why

pub direct-moment : (g : Geometry) → DirectMoment g
direct-moment g spare m fd bytes d f w why stops =
    let v = write-is_done g spare m.state fd bytes d f w in
    other-settles g spare m (Writes fd bytes) refl stops (rw v.brings (never-waits g fd bytes d f why)) ∙ ap (λ (o : Outcome). settled_at o.next) v.answer_is
