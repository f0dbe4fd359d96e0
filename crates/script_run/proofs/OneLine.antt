-- One line of a script.
use Rattle.std.proofs.Common.{◌≡◌, ℕ, List, [], ◌∷◌, ◌++◌, sym, subst, Option, Some, None}
use Rattle.std.specs.Option.{IfSome, IfNone}
use Rattle.geometry.specs.declared.geometry.Geometry.{Geometry}
use Rattle.nor_core.specs.declared.state.NorState.{Ghosts as NorOf}
use Rattle.nor_core.specs.Device.{Leaves, Changes, InSay, Says}
use Rattle.table_model.specs.Ask.{Ask}
use Rattle.table_model.specs.Reply.{Answer}
use Rattle.table_model.specs.Window.{Moment}
use Rattle.call_script.specs.Lines.{Bad, Asks, of_line, calls_of}
use Rattle.call_script.specs.Replies.{text}
use Rattle.call_model.specs.Memory.{Memory}
use Rattle.run_model.specs.Ran.{RunStands, RunPublishes, IsTold, Reached, SaidPart}
use Rattle.run_model.proofs.OneCall.{call_said, reply_said, reply_reached}
use Rattle.tool_parts.specs.declared.ending.Ending.{Ending}
use Rattle.tool_parts.specs.declared.ending.Ending.TheVariants.{BoardFault}
use Rattle.script_run.specs.Turns.{DidLine}
use Rattle.script_run.proofs.LineWork.{call_good, one_call, same_reached, same_said}

if_none : {P Q : Type 0} (o : Option Ending) → IfNone o P → (P → Q) → IfNone o Q
if_none None p f = f p
if_none (Some ending) p f = tt {0}

said_did : (o : Option Ending) {D : Type 0} {nor : NorOf D} {old new : D} (g : Geometry) (was now : Memory) (m : Moment) (line : List ℕ) (n : ℕ) → (of_line line ≡ Bad → ⊥) → IfSome o (λ ending. ending ≡ BoardFault) → IfNone o (Reached nor g old new now m (calls_of (line ∷ []))) → SaidPart nor g old new m (calls_of (line ∷ [])) → DidLine nor g old new was now m line n o
said_did None g was now m line n good fault reached said = (good, reached)
said_did (Some ending) {D} {nor} {old} {new} g was now m line n good fault reached said = subst (λ (e : Ending). DidLine nor g old new was now m line n (Some e)) (sym fault) (good, said)

module _ {D : Type 0} {nor : NorOf D} {g : Geometry} where
  -- a call was done, and its reply said or a front of it
  pub reply_did : (o : Option Ending) {old mid new : D} {was now : Memory} {m : Moment} (line : List ℕ) (n : ℕ) (ask : Ask) {reply : Answer} → of_line line ≡ Asks ask → Changes nor old mid (RunPublishes g was m ask) → RunStands nor g old was m → IsTold nor g old mid now m ask reply → Says nor mid new (text reply) → Leaves nor mid new (InSay nor mid (text reply)) → IfSome o (λ ending. ending ≡ BoardFault) → IfNone o (nor.said new ≡ nor.said mid ++ text reply) → DidLine nor g old new was now m line n o
  reply_did o {old} {mid} {new} {was} {now} {m} line n ask {reply} e changes stands ok says leaves fault done = said_did o g was now m line n (call_good line ask e) fault
      (if_none o done (λ whole. same_reached (one_call line ask e) (reply_reached changes stands ok says leaves whole)))
      (same_said g m (ask ∷ []) (calls_of (line ∷ [])) (one_call line ask e) (reply_said ask changes stands ok says leaves))

  -- the board failed in a call
  pub stop_did : (ending : Ending) {old new : D} {was : Memory} (now : Memory) {m : Moment} (line : List ℕ) (n : ℕ) (ask : Ask) → of_line line ≡ Asks ask → Changes nor old new (RunPublishes g was m ask) → RunStands nor g old was m → ending ≡ BoardFault → DidLine nor g old new was now m line n (Some ending)
  stop_did ending {old} {new} {was} now {m} line n ask e changes stands fault = subst (λ (e : Ending). DidLine nor g old new was now m line n (Some e)) (sym fault) (call_good line ask e, same_said g m (ask ∷ []) (calls_of (line ∷ [])) (one_call line ask e) (call_said ask changes stands))
