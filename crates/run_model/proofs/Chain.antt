-- Calls after calls.
use Rattle.std.proofs.Common.{◌≡◌, ℕ, List, [], ◌++◌, length, refl, sym, ◌∙◌, ap, subst, arith, append_assoc, append-nil, length-append}
use Rattle.geometry.specs.declared.geometry.Geometry.{Geometry}
use Rattle.nor_core.specs.declared.state.NorState.{Ghosts as NorOf}
use Rattle.nor_core.specs.Device.{OnlyReads, Leaves}
use Rattle.nor_core.proofs.Cuts.{andthen, widened, read_on, started}
use Rattle.table_model.specs.Ask.{Ask}
use Rattle.table_model.specs.Window.{Moment}
use Rattle.image_model.specs.Tidy.{IsTidy, HasReserve}
use Rattle.call_model.specs.Safe.{HoldsImage}
use Rattle.call_model.specs.Memory.{Memory, IsAt}
use Rattle.call_model.specs.Calls.{Stands}
use Rattle.call_model.proofs.Safety.{holds_safe, holds_then, holds_itself}
use Rattle.run_model.specs.Runs.{RunCall, AreFair, plain, asks_of, after_all, replies}
use Rattle.run_model.specs.Ran.{RunStands, CutIn, Reached, SaidPart}
use Rattle.run_model.proofs.Runs.{after_all-append, replies-append, asks-append, fair-append, plain-asks, plain-fair, cut_wider, cut_later}

-- no call has no reply
pub no_replies : (g : Geometry) (m : Moment) → replies g m [] ≡ []
unfolding replies
no_replies g m = refl

-- and leaves the volume as it was
pub no_calls : (g : Geometry) (m : Moment) → after_all g m [] ≡ m
unfolding after_all
no_calls g m = refl

pub none_fair : (g : Geometry) (m : Moment) → AreFair g m []
unfolding AreFair
none_fair g m = tt {0}

module _ {D : Type 0} {nor : NorOf D} {g : Geometry} where
  -- a cut in the front of a run
  pub wider_cut : {old new : D} {m : Moment} {xs : List RunCall} (ys : List RunCall) → Leaves nor old new (CutIn nor g old m xs) → Leaves nor old new (CutIn nor g old m (xs ++ ys))
  wider_cut {old} {new} {m} {xs} ys leaves = widened leaves (λ image count c. record { part = c.part; count_is = c.count_is; safe = c.safe; cut = cut_wider g m xs ys c.part image c.cut })

  -- a cut in calls after those that were done
  pub cut_behind : {old mid : D} {m : Moment} (xs : List RunCall) {ys : List RunCall} {image : List ℕ} {count : ℕ} → nor.said mid ≡ nor.said old ++ replies g m xs → HoldsImage g (nor.bytes old) (nor.bytes mid) → IsTidy g (nor.bytes mid) → CutIn nor g mid (after_all g m xs) ys image count → CutIn nor g old m (xs ++ ys) image count
  cut_behind {old} {mid} {m} xs {ys} {image} {count} said holds tidy c = record {
    part = replies g m xs ++ c.part;
    count_is = omega (arith, c.count_is, ap length said, length-append (nor.said old) (replies g m xs), length-append (replies g m xs) c.part);
    safe = holds_safe g (nor.bytes old) (nor.bytes mid) image holds tidy c.safe;
    cut = cut_later g m xs ys c.part image c.cut;
  }

  -- a cut in calls, or in those that come after
  later_cut : {old mid new : D} {m : Moment} (xs : List RunCall) {ys : List RunCall} → nor.said mid ≡ nor.said old ++ replies g m xs → HoldsImage g (nor.bytes old) (nor.bytes mid) → IsTidy g (nor.bytes mid) → Leaves nor old mid (CutIn nor g old m xs) → Leaves nor mid new (CutIn nor g mid (after_all g m xs) ys) → Leaves nor old new (CutIn nor g old m (xs ++ ys))
  later_cut {old} {mid} {new} {m} xs {ys} said holds tidy first second = andthen (wider_cut ys first) (widened second (λ image count c. cut_behind xs said holds tidy c))

  -- a front of the replies to calls is one of the replies to more calls
  pub said_wider : {old new : D} {m : Moment} {xs : List Ask} (ys : List Ask) → SaidPart nor g old new m xs → SaidPart nor g old new m (xs ++ ys)
  said_wider {old} {new} {m} {xs} ys s = record {
    calls = s.calls ++ plain ys;
    asks_are = ap (λ (l : List Ask). l ++ ys) s.asks_are ∙ ap (λ (l : List Ask). asks_of s.calls ++ l) (sym (plain-asks ys)) ∙ sym (asks-append s.calls (plain ys));
    fair = fair-append g m s.calls (plain ys) s.fair (plain-fair g (after_all g m s.calls) ys);
    part = s.part;
    rest = s.rest ++ replies g (after_all g m s.calls) (plain ys);
    said = s.said;
    whole_is = replies-append g m s.calls (plain ys) ∙ ap (λ (l : List ℕ). l ++ replies g (after_all g m s.calls) (plain ys)) s.whole_is ∙ append_assoc s.part s.rest (replies g (after_all g m s.calls) (plain ys));
    cuts = wider_cut (plain ys) s.cuts;
  }

  -- calls were done, and others after them
  pub later_reached : {old mid new : D} {between after : Memory} {m : Moment} {xs ys : List Ask} → (r : Reached nor g old mid between m xs) → Reached nor g mid new after (after_all g m r.calls) ys → Reached nor g old new after m (xs ++ ys)
  later_reached {old} {mid} {new} {between} {after} {m} {xs} {ys} r s = record {
    calls = r.calls ++ s.calls;
    asks_are = ap (λ (l : List Ask). l ++ ys) r.asks_are ∙ ap (λ (l : List Ask). asks_of r.calls ++ l) s.asks_are ∙ sym (asks-append r.calls s.calls);
    fair = fair-append g m r.calls s.calls r.fair s.fair;
    said = s.said ∙ ap (λ (l : List ℕ). l ++ replies g (after_all g m r.calls) s.calls) r.said ∙ append_assoc (nor.said old) (replies g m r.calls) (replies g (after_all g m r.calls) s.calls) ∙ ap (λ (l : List ℕ). nor.said old ++ l) (sym (replies-append g m r.calls s.calls));
    stands = subst (λ (j : Moment). RunStands nor g new after j) (sym (after_all-append g m r.calls s.calls)) s.stands;
    holds = holds_then g (nor.bytes old) (nor.bytes mid) (nor.bytes new) r.holds s.holds;
    cuts = later_cut r.calls r.said r.holds r.stands.stands.image.tidy r.cuts s.cuts;
  }

  -- the replies to calls were said, and a front of those after them
  pub later_said : {old mid new : D} {memory : Memory} {m : Moment} {xs : List Ask} (ys : List Ask) → (r : Reached nor g old mid memory m xs) → SaidPart nor g mid new (after_all g m r.calls) ys → SaidPart nor g old new m (xs ++ ys)
  later_said {old} {mid} {new} {memory} {m} {xs} ys r s = record {
    calls = r.calls ++ s.calls;
    asks_are = ap (λ (l : List Ask). l ++ ys) r.asks_are ∙ ap (λ (l : List Ask). asks_of r.calls ++ l) s.asks_are ∙ sym (asks-append r.calls s.calls);
    fair = fair-append g m r.calls s.calls r.fair s.fair;
    part = replies g m r.calls ++ s.part;
    rest = s.rest;
    said = s.said ∙ ap (λ (l : List ℕ). l ++ s.part) r.said ∙ append_assoc (nor.said old) (replies g m r.calls) s.part;
    whole_is = replies-append g m r.calls s.calls ∙ ap (λ (l : List ℕ). replies g m r.calls ++ l) s.whole_is ∙ sym (append_assoc (replies g m r.calls) s.part s.rest);
    cuts = later_cut r.calls r.said r.holds r.stands.stands.image.tidy r.cuts s.cuts;
  }

  -- a volume stands still on a device that tells the same bytes
  pub stands_on : {old new : D} {memory : Memory} {m : Moment} → nor.bytes new ≡ nor.bytes old → (nor.tells old → nor.tells new) → Stands nor g old memory m → Stands nor g new memory m
  stands_on {old} {new} {memory} {m} same told stands = record { tells = told stands.tells; image = subst (λ (l : List ℕ). IsAt g l memory m) (sym same) stands.image }

  -- so it does at a moment of a run
  pub run_stands_on : {old new : D} {memory : Memory} {m : Moment} → nor.bytes new ≡ nor.bytes old → (nor.tells old → nor.tells new) → RunStands nor g old memory m → RunStands nor g new memory m
  run_stands_on {old} {new} same told stands = record { stands = stands_on same told stands.stands; reserve = subst (λ (l : List ℕ). HasReserve g l) (sym same) stands.reserve }

  -- where only reads were made, no call was
  pub reached_reads : {old new : D} {memory : Memory} {m : Moment} → OnlyReads nor old new → RunStands nor g old memory m → Reached nor g old new memory m []
  reached_reads {old} {new} {memory} {m} reads stands = record {
    calls = [];
    asks_are = refl;
    fair = none_fair g m;
    said = reads.said ∙ sym (ap (λ (l : List ℕ). nor.said old ++ l) (no_replies g m) ∙ append-nil (nor.said old));
    stands = subst (λ (j : Moment). RunStands nor g new memory j) (sym (no_calls g m)) (run_stands_on reads.bytes reads.told stands);
    holds = subst (λ (l : List ℕ). HoldsImage g l (nor.bytes new)) reads.bytes (holds_itself g (nor.bytes new));
    cuts = read_on _ reads;
  }

  -- nothing was called
  pub reached_none : (d : D) (memory : Memory) (m : Moment) → RunStands nor g d memory m → Reached nor g d d memory m []
  reached_none d memory m stands = record {
    calls = [];
    asks_are = refl;
    fair = none_fair g m;
    said = sym (ap (λ (l : List ℕ). nor.said d ++ l) (no_replies g m) ∙ append-nil (nor.said d));
    stands = subst (λ (j : Moment). RunStands nor g d memory j) (sym (no_calls g m)) stands;
    holds = holds_itself g (nor.bytes d);
    cuts = started d _;
  }
