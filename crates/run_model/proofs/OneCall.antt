-- One call and its reply.
use Rattle.std.proofs.Common.{◌≡◌, ℕ, ◌-◌, ◌≤◌, List, [], ◌∷◌, ◌++◌, length, take, drop, refl, sym, ◌∙◌, ap, subst, arith, ⊎_elim, append-nil, Bool, true, false}
use Rattle.std.proofs.lemmas.Bool.Decides.{nat_tests}
use Rattle.std.proofs.lemmas.List.{take-append-drop, length-take-le, take_all, length-drop}
use Rattle.std.proofs.lemmas.Bool.{cases_Bool, cases_lt}
use Rattle.geometry.specs.declared.geometry.Geometry.{Geometry}
use Rattle.nor_core.specs.declared.state.NorState.{Ghosts as NorOf}
use Rattle.nor_core.specs.Device.{Leaves, Changes, InSay, Says}
use Rattle.nor_core.proofs.Cuts.{andthen, widened, wider}
use Rattle.table_model.specs.Table.{State}
use Rattle.table_model.specs.Room.{has_room}
use Rattle.table_model.specs.Ask.{Ask}
use Rattle.table_model.specs.Reply.{Answer}
use Rattle.table_model.specs.Flat.{answer}
use Rattle.table_model.specs.Steps.{steps, is_refusal}
use Rattle.table_model.specs.Window.{Moment, after, settled_at, leaves_window, continues, may_wait, incoming_of, from_settled, IsAmong}
use Rattle.call_script.specs.Replies.{text}
use Rattle.image_model.specs.Tables.{table_of}
use Rattle.image_model.specs.Tidy.{HasReserve, has_spare}
use Rattle.call_model.specs.Safe.{IsSafe, HoldsImage}
use Rattle.call_model.specs.Memory.{Memory}
use Rattle.call_model.specs.Calls.{Stands, Publishes, Answers}
use Rattle.call_model.proofs.Room.{room_kept}
use Rattle.run_model.specs.Runs.{RunCall, IsFair, AreFair, next, said_of, after_all, replies, LacksPage, IsInCall, IsUnderWay, IsCut}
use Rattle.run_model.specs.Ran.{RunStands, RunPublishes, RunAnswers, IsTold, CutIn, Reached, SaidPart}
use Rattle.run_model.proofs.Runs.{said_some, is_settled, plain_fair}
use Rattle.run_model.proofs.Chain.{run_stands_on}

-- the one reply of one call
one_reply : (g : Geometry) (m : Moment) (call : RunCall) → replies g m (call ∷ []) ≡ said_of g m call
unfolding replies
one_reply g m call = append-nil (said_of g m call)

one_call : (g : Geometry) (m : Moment) (call : RunCall) → after_all g m (call ∷ []) ≡ next g m call
unfolding after_all
one_call g m call = refl

one_fair : (g : Geometry) (m : Moment) (call : RunCall) → IsFair g m call → AreFair g m (call ∷ [])
unfolding AreFair
one_fair g m call fair = (fair, tt {0})

-- a part of a reply was said
in_call : (g : Geometry) (m : Moment) (call : RunCall) (part image : List ℕ) → IsInCall g m call part image → IsCut g m (call ∷ []) part image
unfolding after_all replies IsUnderWay
in_call g m call part image here = record { front = []; later = call ∷ []; part = part; calls_are = refl; said_is = refl; under_way = here }

-- a reply was said whole
call_done : (g : Geometry) (m : Moment) (call : RunCall) (image : List ℕ) → table_of g image ≡ (next g m call).settled → IsCut g m (call ∷ []) (said_of g m call) image
unfolding IsUnderWay
call_done g m call image is = record {
  front = call ∷ [];
  later = [];
  part = [];
  calls_are = refl;
  said_is = sym (append-nil (replies g m (call ∷ [])) ∙ one_reply g m call);
  under_way = (refl, is_settled (after_all g m (call ∷ [])) (table_of g image) [] (is ∙ ap (λ (j : Moment). j.settled) (sym (one_call g m call))));
}

-- nothing was said of a reply
cut_call : (g : Geometry) (m : Moment) (call : RunCall) (image : List ℕ) → IsAmong (table_of g image) (from_settled m (steps g true m.state call.ask)) → IsCut g m (call ∷ []) [] image
cut_call g m call image among = in_call g m call [] image (record {
  said = record { rest = said_of g m call; whole_is = refl; some = said_some g m call };
  among = among;
  once_said = λ some. absurd (omega (arith, some));
  lacks = λ some. absurd (omega (arith, some));
})

-- a front of a reply line was said
cut_say : (g : Geometry) (m : Moment) (call : RunCall) (n : ℕ) (image : List ℕ) → n ≤ length (said_of g m call) → table_of g image ≡ (next g m call).settled → IsAmong (table_of g image) (from_settled m (steps g true m.state call.ask)) → IsAmong (table_of g image) (from_settled m (steps g call.spare m.state call.ask)) → (call.spare ≡ false → LacksPage g image) → IsCut g m (call ∷ []) (take n (said_of g m call)) image
cut_say g m call n image le is among told lacks = ⊎_elim
    (λ below. in_call g m call (take n (said_of g m call)) image (record {
      said = record { rest = drop n (said_of g m call); whole_is = sym (take-append-drop n (said_of g m call)); some = omega (arith, length-drop n (said_of g m call), below) };
      among = among;
      once_said = λ some. told;
      lacks = λ some. lacks;
    }))
    (λ above. subst (λ (l : List ℕ). IsCut g m (call ∷ []) l image) (sym (take_all n (said_of g m call) above)) (call_done g m call image is))
    (cases_lt n (length (said_of g m call)))

-- two blocks are free
pub spared : (g : Geometry) (image : List ℕ) → HasReserve g image → has_spare g image ≡ true
spared g image reserve = grind (arith, nat_tests)

-- the state after a call is that of its answer
pub after_state : (g : Geometry) (spare : Bool) (m : Moment) (ask : Ask) → (after g spare m ask).state ≡ (answer g spare m.state ask).next
unfolding after settled_at
after_state g spare m ask = ⊎_elim
    (λ leaves. rw leaves refl)
    (λ moves. rw moves (⊎_elim
    (λ refused. rw refused refl)
    (λ done. rw done (⊎_elim
    (λ goes. rw goes refl)
    (λ stops. rw stops (⊎_elim (λ waits. rw waits refl) (λ settles. rw settles refl) (cases_Bool (may_wait g (incoming_of m.state ask)))))
    (cases_Bool (continues g m.window (incoming_of m.state ask)))))
    (cases_Bool (is_refusal (answer g spare m.state ask).answer))))
    (cases_Bool (leaves_window ask))

-- a table that has room has it after a call
pub room_after : (g : Geometry) (m : Moment) (ask : Ask) → has_room g m.state.table ≡ true → has_room g (after g true m ask).state.table ≡ true
room_after g m ask room = subst (λ (s : State). has_room g s.table ≡ true) (sym (after_state g true m ask)) (room_kept g true m.state ask room)

module _ {D : Type 0} {nor : NorOf D} {g : Geometry} where
  -- what a call publishes is what one of a run may
  pub run_publishes : {old new : D} (memory : Memory) (m : Moment) (ask : Ask) → Changes nor old new (Publishes g memory m ask) → Changes nor old new (RunPublishes g memory m ask)
  run_publishes {old} {new} memory m ask changes = wider changes (λ tells image here at reserve.
      subst (λ (b : Bool). IsSafe g (nor.bytes old) image × IsAmong (table_of g image) (from_settled m (steps g b m.state ask))) (spared g (nor.bytes old) reserve) (here at))

  -- a call of a run was answered
  pub run_answers : {old new : D} {before after_it : Memory} {m : Moment} {ask : Ask} {reply : Answer} → RunStands nor g old before m → Answers nor g old new after_it m ask reply → RunAnswers nor g old new after_it m ask reply
  run_answers {old} {new} {before} {after_it} {m} {ask} {reply} stands a = record {
    reply_is = subst (λ (b : Bool). reply ≡ (answer g b m.state ask).answer) (spared g (nor.bytes old) stands.reserve) a.reply_is;
    stands = record {
      stands = subst (λ (b : Bool). Stands nor g new after_it (after g b m ask)) (spared g (nor.bytes old) stands.reserve) a.stands;
      reserve = a.holds.reserve stands.reserve;
    };
    holds = a.holds;
  }

  -- so it was told
  pub told_as : {old new : D} {memory : Memory} {m : Moment} {ask : Ask} {reply : Answer} → IsAmong (table_of g (nor.bytes new)) (from_settled m (steps g true m.state ask)) → RunAnswers nor g old new memory m ask reply → IsTold nor g old new memory m ask reply
  told_as {old} {new} {memory} {m} {ask} {reply} among a = record { spare = true; fair = plain_fair g m ask; lacks = λ e. absurd (let no : true ≡ false = e in cc); reply_is = a.reply_is; among = among; stands = a.stands; holds = a.holds }

  -- a cut in the call, before its reply
  call_cuts : {old mid : D} {memory : Memory} {m : Moment} (call : RunCall) → Changes nor old mid (RunPublishes g memory m call.ask) → RunStands nor g old memory m → Leaves nor old mid (CutIn nor g old m (call ∷ []))
  call_cuts {old} {mid} {memory} {m} call changes stands = widened changes.cuts (λ image count here. let now = here.1 stands.stands.tells stands.stands.image stands.reserve in record {
    part = [];
    count_is = here.0 ∙ omega arith;
    safe = now.0;
    cut = cut_call g m call image now.1;
  })

  -- nothing was said in the call
  pub call_said : {old mid : D} {memory : Memory} {m : Moment} (ask : Ask) → Changes nor old mid (RunPublishes g memory m ask) → RunStands nor g old memory m → SaidPart nor g old mid m (ask ∷ [])
  call_said {old} {mid} {memory} {m} ask changes stands = record {
    calls = record { ask = ask; spare = true } ∷ [];
    asks_are = refl;
    fair = one_fair g m (record { ask = ask; spare = true }) (plain_fair g m ask);
    part = [];
    rest = replies g m (record { ask = ask; spare = true } ∷ []);
    said = changes.said ∙ sym (append-nil (nor.said old));
    whole_is = refl;
    cuts = call_cuts (record { ask = ask; spare = true }) changes stands;
  }

  -- a cut in the call or in its reply
  reply_cuts : {old mid new : D} {before after_it : Memory} {m : Moment} {ask : Ask} {reply : Answer} → Changes nor old mid (RunPublishes g before m ask) → RunStands nor g old before m → (ok : IsTold nor g old mid after_it m ask reply) → Leaves nor mid new (InSay nor mid (text reply)) → Leaves nor old new (CutIn nor g old m (record { ask = ask; spare = ok.spare } ∷ []))
  unfolding said_of
  reply_cuts {old} {mid} {new} {before} {after_it} {m} {ask} {reply} changes stands ok leaves = andthen (call_cuts (record { ask = ask; spare = ok.spare }) changes stands) (widened leaves (λ image count here.
      let call : RunCall = record { ask = ask; spare = ok.spare } in
      let whole : text reply ≡ said_of g m call = ap text ok.reply_is in
      let within : count - length (nor.said old) ≤ length (said_of g m call) = omega (arith, here.most, ap length changes.said, ap length whole) in
      let same_image : image ≡ nor.bytes mid = here.all_bytes ok.stands.stands.tells in
      let now = changes.now stands.stands.tells stands.stands.image stands.reserve in
      record {
        part = take (count - length (nor.said old)) (said_of g m call);
        count_is = omega (arith, here.least, ap length changes.said, length-take-le (count - length (nor.said old)) (said_of g m call) within);
        safe = subst (λ (l : List ℕ). IsSafe g (nor.bytes old) l) (sym same_image) now.0;
        cut = cut_say g m call (count - length (nor.said old)) image within (ap (table_of g) same_image ∙ ok.stands.stands.image.table)
            (subst (λ (l : List ℕ). IsAmong (table_of g l) (from_settled m (steps g true m.state ask))) (sym same_image) now.1)
            (subst (λ (l : List ℕ). IsAmong (table_of g l) (from_settled m (steps g ok.spare m.state ask))) (sym same_image) ok.among)
            (λ e. subst (λ (l : List ℕ). LacksPage g l) (sym same_image) (ok.lacks e));
      }))

  -- a front of the reply was said
  pub reply_said : {old mid new : D} {before after_it : Memory} {m : Moment} (ask : Ask) {reply : Answer} → Changes nor old mid (RunPublishes g before m ask) → RunStands nor g old before m → IsTold nor g old mid after_it m ask reply → Says nor mid new (text reply) → Leaves nor mid new (InSay nor mid (text reply)) → SaidPart nor g old new m (ask ∷ [])
  unfolding said_of
  reply_said {old} {mid} {new} {before} {after_it} {m} ask {reply} changes stands ok says leaves = record {
    calls = record { ask = ask; spare = ok.spare } ∷ [];
    asks_are = refl;
    fair = one_fair g m (record { ask = ask; spare = ok.spare }) ok.fair;
    part = take says.said.0 (text reply);
    rest = drop says.said.0 (text reply);
    said = says.said.1 ∙ ap (λ (l : List ℕ). l ++ take says.said.0 (text reply)) changes.said;
    whole_is = one_reply g m (record { ask = ask; spare = ok.spare }) ∙ sym (ap text ok.reply_is) ∙ sym (take-append-drop says.said.0 (text reply));
    cuts = reply_cuts changes stands ok leaves;
  }

  -- the call was done and its reply said
  pub reply_reached : {old mid new : D} {before after_it : Memory} {m : Moment} {ask : Ask} {reply : Answer} → Changes nor old mid (RunPublishes g before m ask) → RunStands nor g old before m → IsTold nor g old mid after_it m ask reply → Says nor mid new (text reply) → Leaves nor mid new (InSay nor mid (text reply)) → nor.said new ≡ nor.said mid ++ text reply → Reached nor g old new after_it m (ask ∷ [])
  unfolding said_of
  reply_reached {old} {mid} {new} {before} {after_it} {m} {ask} {reply} changes stands ok says leaves done = record {
    calls = record { ask = ask; spare = ok.spare } ∷ [];
    asks_are = refl;
    fair = one_fair g m (record { ask = ask; spare = ok.spare }) ok.fair;
    said = done ∙ ap (λ (l : List ℕ). l ++ text reply) changes.said ∙ ap (λ (l : List ℕ). nor.said old ++ l) (ap text ok.reply_is ∙ sym (one_reply g m (record { ask = ask; spare = ok.spare })));
    stands = subst (λ (j : Moment). RunStands nor g new after_it j) (sym (one_call g m (record { ask = ask; spare = ok.spare }))) (run_stands_on says.bytes leaves.told ok.stands);
    holds = subst (λ (l : List ℕ). HoldsImage g (nor.bytes old) l) (sym says.bytes) ok.holds;
    cuts = reply_cuts changes stands ok leaves;
  }
