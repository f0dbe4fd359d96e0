-- Turns of a soak.
use Rattle.std.proofs.Common.{◌≡◌, ℕ, List, refl, sym, ◌∙◌, ap, Bool, false, not, Option, Some, None, Result, Ok, Err}
use Rattle.std.specs.Prelude.{IfOk, IfErr}
use Rattle.geometry.specs.declared.geometry.Geometry.{Geometry}
use Rattle.nor_core.specs.declared.state.NorState.{Ghosts as NorOf}
use Rattle.table_model.specs.Table.{State}
use Rattle.table_model.specs.Ask.{Ask, Closes, Removes}
use Rattle.table_model.specs.Reply.{Answer}
use Rattle.table_model.specs.Steps.{is_refusal}
use Rattle.volume.specs.declared.volume.Volume.{Volume}
use Rattle.volume_run.specs.Ready.{IsAnsweredFrom, IsOpenedFrom}
use Rattle.volume_run.specs.Stops.{StopsFrom}
use Rattle.volume_run.specs.declared.asking.Stop.{Stop}
use Rattle.volume_run.proofs.Stopping.{stops_opened}
use Rattle.volume_soak.specs.declared.draws.Draw.{Draw}
use Rattle.volume_soak.specs.declared.draws.Kind.{Kind}
use Rattle.volume_soak.specs.Asks.{IsDraw}
use Rattle.volume_soak.specs.Turns.{on_opened, through, removal, turn_of, turn}
use Rattle.volume_soak.specs.Doing.{DidFrom}

-- the turn of a draw is that of what it asks for
turn_is : (g : Geometry) (s : State) (r : ℕ) (d : Draw) → IsDraw r d → turn g s r ≡ turn_of g s d.kind d.name d.count d.byte
unfolding turn
turn_is g s r d is = rw (is.kind, is.name, is.count, is.byte) refl

module _ {N : Type 0} {nor : NorOf N} where
  -- a call through a descriptor, which is closed then
  pub did_finish : {old mid new : Volume N nor} {called closed : Answer} (call : ℕ → Ask) (fd : ℕ) (ok : Bool) → ok ≡ not (is_refusal called) → IsAnsweredFrom old (call fd) mid called → IsAnsweredFrom mid (Closes fd) new closed → DidFrom old (λ g s. on_opened g s call (Some fd)) new ok
  did_finish call fd ok is first second = λ g s ready.
      let a = first g s ready in
      let b = second g _ a.ready in
      record { ready = b.ready; ok_is = is ∙ ap (λ (r : Answer). not (is_refusal r)) a.reply_is }

  -- a removal
  pub did_remove : {old new : Volume N nor} {told : Answer} (name : List ℕ) (ok : Bool) → ok ≡ not (is_refusal told) → IsAnsweredFrom old (Removes name) new told → DidFrom old (λ g s. removal g s name) new ok
  did_remove name ok is first = λ g s ready. let a = first g s ready in record { ready = a.ready; ok_is = is ∙ ap (λ (r : Answer). not (is_refusal r)) a.reply_is }

  -- a file was opened, and its call made
  did_through : {old mid new : Volume N nor} (name : List ℕ) (flags : ℕ) (call : ℕ → Ask) (fd : ℕ) (ok : Bool) → IsOpenedFrom old name flags mid (Some fd) → DidFrom mid (λ g s. on_opened g s call (Some fd)) new ok → DidFrom old (λ g s. through g s name flags call) new ok
  unfolding through
  did_through name flags call fd ok opens did = λ g s ready. let o = opens g s ready in rw (sym o.fd_is) (did g _ o.ready)

  -- the same of how that ended
  pub ends_through : {old mid : Volume N nor} (new : Volume N nor) (name : List ℕ) (flags : ℕ) (call : ℕ → Ask) (fd : ℕ) (result : Result Bool Stop) → IsOpenedFrom old name flags mid (Some fd) → IfOk result (DidFrom mid (λ g s. on_opened g s call (Some fd)) new) → IfOk result (DidFrom old (λ g s. through g s name flags call) new)
  ends_through new name flags call fd (Ok ok) opens did = did_through name flags call fd ok opens did
  ends_through new name flags call fd (Err why) opens did = tt {0}

  pub stops_through : {old mid : Volume N nor} {name : List ℕ} {flags : ℕ} {fd : Option ℕ} (result : Result Bool Stop) → IsOpenedFrom old name flags mid fd → IfErr result (StopsFrom mid) → IfErr result (StopsFrom old)
  stops_through (Ok ok) opens stops = tt {0}
  stops_through (Err why) opens stops = stops_opened why opens stops

  -- or the opening was refused
  pub did_refused : {old mid : Volume N nor} (name : List ℕ) (flags : ℕ) (call : ℕ → Ask) → IsOpenedFrom old name flags mid None → DidFrom old (λ g s. through g s name flags call) mid false
  unfolding through
  did_refused name flags call opens = λ g s ready. let o = opens g s ready in rw (sym o.fd_is) (record { ready = o.ready; ok_is = refl })

  -- how the turn of a draw ended
  pub ends_turn : (old new : Volume N nor) (d : Draw) (kind : Kind) (result : Result Bool Stop) → d.kind ≡ kind → IfOk result (DidFrom old (λ g s. turn_of g s kind d.name d.count d.byte) new) → IfOk result (λ ok. (r : ℕ) → IsDraw r d → DidFrom old (λ g s. turn g s r) new ok)
  ends_turn old new d kind (Ok ok) same did = λ r is g s ready. rw (turn_is g s r d is, same) (did g s ready)
  ends_turn old new d kind (Err why) same did = tt {0}
