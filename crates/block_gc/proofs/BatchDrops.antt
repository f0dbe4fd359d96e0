-- The old pages of a batch are killed, from what each kill leaves.
use Rattle.std.proofs.Common.{◌≡◌, ◌≢◌, ℕ, ◌+◌, List, [], ◌∷◌, length, subst, true, false, not, ◌==◌, ◌&&◌, ◌||◌, Bool, Some, None, ap, refl, sym, ◌∙◌, arith, ⊎_elim, inl, inr}
use Rattle.std.specs.Prelude.{All, Contains, is_some}
use Rattle.std.proofs.lemmas.Option.{same_Some}
use Rattle.std.proofs.lemmas.Bool.{cases_eq, cases_Bool, and_parts, or_cases, eqb-true, eq-eqb, ne_eqb, false_from_ne_true}
use Rattle.geometry.specs.declared.geometry.Geometry.{Geometry}
use Rattle.flash_view.specs.Steps.{Begins}
use Rattle.image_model.specs.Live.{live_at}
use Rattle.image_model.specs.Places.{block_of}
use Rattle.image_model.specs.Sound.{Keeps}
use Rattle.image_model.specs.Tidy.{IsTidy}
use Rattle.image_laws.specs.LiveSteps.{KillLeaves, KillDone}
use Rattle.image_laws.proofs.Sounding.{keeps-on}
use Rattle.renew_laws.proofs.IdleKill.{idle-kills, idles-end}
use Rattle.renew_laws.proofs.TailSteps.{tail-dropped}
use Rattle.room_laws.specs.Sorts.{sort_at}
use Rattle.room_laws.specs.Ways.{Move, AreApart, AreMoves, OnWay, IsBatch, HasCome}
use Rattle.room_laws.specs.Recovery.{IsOnWay}
use Rattle.room_laws.proofs.Batches.{IsOut, outs}
use Rattle.room_laws.proofs.BatchPuts.{killed_is_batch}
use Rattle.room_laws.proofs.BatchMends.{batch_way_mends}
use Rattle.room_laws.proofs.Carried.{begins_between, batch_goes_on}
use Rattle.room_laws.proofs.OnTheWay.{all_at, all_cons, all_from, all_head, all_tail, way_kill}
use Rattle.page_put.specs.LivePages.{IsKillable, killing}
use Rattle.block_gc.specs.Turns.{TurnCut, TurnDone}
use Rattle.block_gc.specs.declared.batch.Batch.{Batch}
use Rattle.block_gc.specs.declared.batch.Run.{Run}
use Rattle.block_gc.specs.Batches.{Carried, move_of, moves_of, are_from, below, IsOfBatch, IsSpanOf, IsTurnOf, IsLeft, HaveGone, Drops, DropsTo, dropping_turn}
use Rattle.block_gc.proofs.BatchRenews.{mapped}
use Rattle.block_gc.proofs.BatchRuns.{below_with, below_without}
use Rattle.block_gc.proofs.Replacing.{counts_then, flags_stay, kill_left}

no_or : (x : Bool) → (x || true) ≡ false → ⊥
no_or true e = absurd (cc)
no_or false e = absurd (cc)

-- none went where all are left
pub none_gone : (g : Geometry) (cs : List Carried) (image : List ℕ) → HaveGone g cs cs image image
none_gone g cs image = record { among = λ r e. e; gone = λ r e. inl e; others = λ r e. refl }

pub gone_then : (g : Geometry) (from mid left : List Carried) (a b c : List ℕ) → HaveGone g from mid a b → HaveGone g mid left b c → HaveGone g from left a c
gone_then g from mid left a b c first second = record {
  among = λ r e. first.among r (second.among r e);
  gone = λ r e. ⊎_elim
      (λ (in_mid : are_from mid r ≡ true). second.gone r in_mid)
      (λ (out : are_from mid r ≡ false). ⊎_elim
      (λ (in_mid : are_from mid r ≡ true). second.gone r in_mid)
      (λ (dead : live_at g b r ≡ None). inr (second.others r out ∙ dead))
      (first.gone r e))
      (cases_Bool (are_from mid r));
  others = λ r e.
      let out : are_from mid r ≡ false = false_from_ne_true _ (λ is. let f = first.among r is in let bad : true ≡ false = sym f ∙ e in absurd (cc)) in
      second.others r out ∙ first.others r e;
}

-- what a cut leaves while they are killed
dropped_cut : (g : Geometry) (was image : List ℕ) (block most page : ℕ) (left : List Carried) (d : Drops g was block most page left image) (c : List ℕ) → Keeps g was c → OnWay g (d.index ∷ d.moves) was c → IsBatch g was c d.index d.moves →
    TurnCut g block most was c
dropped_cut g was image block most page left d c keeps way batch = record {
  keeps = keeps;
  mends = λ first may most_is between.
      let few = d.few in
      batch_way_mends g first was c block d.index d.moves may between d.ways d.some (omega (arith, few, most_is)) d.out d.place batch (record { moves_are = d.are; way = way; table = keeps.table });
}

pub drops_stay : (g : Geometry) (was image : List ℕ) (block most page : ℕ) (left : List Carried) → Drops g was block most page left image → TurnCut g block most was image
drops_stay g was image block most page left d = dropped_cut g was image block most page left d image d.keeps d.way d.batch

module _ (g : Geometry) (was image : List ℕ) (block most page : ℕ) (x : Carried) (left : List Carried) (d : Drops g was block most page (x ∷ left) image) where
  one : IsLeft g was image d.spare x
  one = all_head (IsLeft g was image d.spare) x left d.each

  apart_of : (y : Carried) → Contains left y → y.from ≢ x.from
  unfolding AreMoves
  apart_of y has e = (all_at (AreApart (move_of x)) (moves_of left) (move_of y) d.apart.1 (mapped left y has)).from (sym e)

  apart_tail : AreMoves g was (moves_of left)
  unfolding AreMoves
  apart_tail = d.apart.2

  way_by : (c : List ℕ) → KillLeaves g x.from image c → OnWay g (d.index ∷ d.moves) was c
  way_by c kill = way_kill g (d.index ∷ d.moves) was image c x.from one.old d.way kill one.was_live

  batch_by : (c : List ℕ) → KillLeaves g x.from image c → IsBatch g was c d.index d.moves
  batch_by c kill = killed_is_batch g was image c d.moves d.index x.from d.batch kill

  kill_left_cut : (c : List ℕ) → KillLeaves g x.from image c → TurnCut g block most was c
  kill_left_cut c kill =
      let law = (idle-kills g image x.from one.old d.spare d.idles one.idle one.live).0 c kill in
      dropped_cut g was image block most page (x ∷ left) d c (keeps-on g was image c d.keeps law.0) (way_by c kill) (batch_by c kill)

  kill_done : (b : List ℕ) → KillDone g x.from image b → Drops g was block most page left b
  kill_done b kill =
      let law = (idle-kills g image x.from one.old d.spare d.idles one.idle one.live).1 b kill in
      let cut = kill_left kill in
      let still : (q : ℕ) → live_at g image q ≡ None → live_at g b q ≡ None = λ q dead. ⊎_elim
      (λ (here : q ≡ x.from). ap (live_at g b) here ∙ kill.loses.after)
      (λ (there : q ≡ x.from → ⊥). kill.loses.others q there ∙ dead)
      (cases_eq q x.from) in
      record {
        is = d.is;
        can = d.can;
        low = d.low;
        moves = d.moves;
        index = d.index;
        ways = d.ways;
        some = d.some;
        few = d.few;
        out = d.out;
        place = d.place;
        are = d.are;
        way = way_by b cut;
        batch = batch_by b cut;
        keeps = keeps-on g was image b d.keeps law.0;
        index_gone = still d.index.from d.index_gone;
        spare = λ q. d.spare q && not (q == x.from);
        idles = law.2;
        only = λ r e.
            let v : (d.spare r ≡ true) × (not (r == x.from) ≡ true) = and_parts (d.spare r) (not (r == x.from)) e in
            ⊎_elim
            (λ (rest : are_from left r ≡ true). rest)
            (λ (here : (r == x.from) ≡ true). let bad : false ≡ true = rw here at v.1 in absurd (cc))
            (or_cases (are_from left r) (r == x.from) (d.only r v.0));
        each = all_from (IsLeft g was b (λ q. d.spare q && not (q == x.from))) left (λ y has.
            let l = all_at (IsLeft g was image d.spare) left y (all_tail (IsLeft g was image d.spare) x left d.each) has in
            let other = apart_of y has in
            record {
              old = l.old;
              was_live = l.was_live;
              kind = l.kind;
              live = kill.loses.others y.from other ∙ l.live;
              idle = rw (l.idle, ne_eqb y.from x.from other) refl;
              flags = flags_stay g image b x.from y.from l.old kill.agree l.live other l.flags;
            });
        apart = apart_tail;
        gone = ⊎_elim
            (λ (from : are_from (x ∷ left) page ≡ true). ⊎_elim
            (λ (rest : are_from left page ≡ true). inl rest)
            (λ (here : (page == x.from) ≡ true). inr (ap (live_at g b) (eqb-true page x.from here) ∙ kill.loses.after))
            (or_cases (are_from left page) (page == x.from) from))
            (λ (dead : live_at g image page ≡ None). inr (still page dead))
            d.gone;
        tails = λ j ready. tail-dropped g image b x.from one.old one.live one.kind kill j (d.tails j ready);
        counts = counts_then g was image b d.counts kill.agree.counts;
      }

  killed_one : (b : List ℕ) → KillDone g x.from image b → HaveGone g (x ∷ left) left image b
  killed_one b kill = record {
    among = λ r e. rw e refl;
    gone = λ r e. ⊎_elim
        (λ (rest : are_from left r ≡ true). inl rest)
        (λ (here : (r == x.from) ≡ true). inr (ap (live_at g b) (eqb-true r x.from here) ∙ kill.loses.after))
        (or_cases (are_from left r) (r == x.from) e);
    others = λ r e. kill.loses.others r (λ same. (let bad = rw (eq-eqb r x.from same) at e in no_or (are_from left r) bad));
  }

  pub kill_starts : IsKillable g image x.from
  kill_starts = record { live = ap is_some one.live; byte = one.flags }

-- a live page of the block was live before
pub alive_before : (g : Geometry) (was image : List ℕ) (block most page : ℕ) (left : List Carried) → Drops g was block most page left image → (q : ℕ) (x : List ℕ) → block_of g q ≡ block → live_at g image q ≡ Some x → live_at g was q ≡ Some x
alive_before g was image block most page left d q x here e = ⊎_elim
    (λ (before : live_at g was q ≡ Some x). before)
    (λ (come : HasCome g was (d.index ∷ d.moves) q x). absurd (all_at (λ (m : Move). block_of g m.to ≢ block) (d.index ∷ d.moves) come.move outside come.one (ap (λ (p : ℕ). block_of g p) come.at ∙ here)))
    (d.way.live q x e)
  where
    outside : All (λ (m : Move). block_of g m.to ≢ block) (d.index ∷ d.moves)
    outside = all_cons (λ (m : Move). block_of g m.to ≢ block) d.index d.moves d.place.apart
        (all_from (λ (m : Move). block_of g m.to ≢ block) d.moves (λ m has. (all_at (IsOut g block (sort_at g was)) d.moves m (outs g block (sort_at g was) d.moves d.ways) has).apart))

-- ---- the turn of a page

module _ (g : Geometry) (was image : List ℕ) (block most : ℕ) (batch : Batch) (first : ℕ) (run : Run) (q left : ℕ) where
  -- nothing is killed in the turn of a page that wasn't carried
  idle : (cs : List Carried) → DropsTo g was block most batch first (q + 1) run left cs image → are_from cs q ≡ false →
      DropsTo g was block most batch first q run left cs image × HaveGone g (below (q + 1) cs) (below q cs) image image
  idle cs to none =
      let same : below (q + 1) cs ≡ below q cs = below_without q cs none in (
        record {
          drops = subst (λ (ds : List Carried). Drops g was block most first ds image) same to.drops;
          run_is = to.run_is;
          many = ap (λ (ds : List Carried). length ds) (sym same) ∙ to.many;
        },
        subst (λ (ds : List Carried). HaveGone g (below (q + 1) cs) ds image image) same (none_gone g (below (q + 1) cs) image),
      )

  -- nor where none is left
  pub drop_none : left ≡ 0 → (cs : List Carried) → DropsTo g was block most batch first (q + 1) run left cs image →
      DropsTo g was block most batch first q run left cs image × HaveGone g (below (q + 1) cs) (below q cs) image image
  drop_none zero cs to = idle cs to (⊎_elim
      (λ (yes : are_from cs q ≡ true).
      let x = below_with q cs to.run_is.falls yes in
      let more : length (below (q + 1) cs) ≡ length (below q cs) + 1 = ap (λ (ds : List Carried). length ds) x.3 ∙ omega arith in
      let many = to.many in
      absurd (omega (arith, more, many, zero)))
      (λ (no : are_from cs q ≡ false). no)
      (cases_Bool (are_from cs q)))

  -- nor in that of one that isn't a page of the batch
  pub drop_idle : IsSpanOf g image batch q None → (cs : List Carried) → DropsTo g was block most batch first (q + 1) run left cs image →
      DropsTo g was block most batch first q run left cs image × HaveGone g (below (q + 1) cs) (below q cs) image image
  drop_idle none cs to = idle cs to (⊎_elim
      (λ (yes : are_from cs q ≡ true).
      let x = below_with q cs to.run_is.falls yes in
      let of = all_at (λ (d : Carried). IsOfBatch g was batch d.from d.span) cs x.0 to.run_is.of x.1 in
      let drops : Drops g was block most first (x.0 ∷ below q cs) image = subst (λ (ds : List Carried). Drops g was block most first ds image) x.3 to.drops in
      let one = all_head (IsLeft g was image drops.spare) x.0 (below q cs) drops.each in
      let same : one.old ≡ of.page = same_Some one.old of.page (sym one.was_live ∙ of.live) in
      absurd (none x.0.span (subst (λ (k : ℕ). IsOfBatch g image batch k x.0.span) x.2
      (record { page = of.page; live = one.live ∙ ap Some same; kind = of.kind; id = of.id; is_span = of.is_span; at = of.at }))))
      (λ (no : are_from cs q ≡ false). no)
      (cases_Bool (are_from cs q)))

  module _ (turn : IsTurnOf g block first run q) (span : ℕ) (of : IsOfBatch g image batch q span) where
    -- the first one that is left is the page
    front : (cs : List Carried) → DropsTo g was block most batch first (q + 1) run left cs image → (c : Carried) × Contains cs c × (c.from ≡ q) × (below (q + 1) cs ≡ c ∷ below q cs)
    front cs to =
        let before : IsOfBatch g was batch q span = record {
          page = of.page;
          live = alive_before g was image block most first (below (q + 1) cs) to.drops q of.page turn.at of.live;
          kind = of.kind;
          id = of.id;
          is_span = of.is_span;
          at = of.at;
        } in
        below_with q cs to.run_is.falls (to.run_is.each q span turn.at turn.from turn.before before)

    front_drops : (cs : List Carried) (to : DropsTo g was block most batch first (q + 1) run left cs image) → Drops g was block most first ((front cs to).0 ∷ below q cs) image
    front_drops cs to = subst (λ (ds : List Carried). Drops g was block most first ds image) (front cs to).3 to.drops

    pub drop_begins : (cs : List Carried) × DropsTo g was block most batch first (q + 1) run left cs image → Begins g image (killing q) (dropping_turn was block most batch first run q left)
    drop_begins need =
        let x = front need.0 need.1 in
        let d = front_drops need.0 need.1 in
        record {
          needs = subst (λ (k : ℕ). IsKillable g image k) x.2 (kill_starts g was image block most first x.0 (below q need.0) d);
          cut = λ c kill. kill_left_cut g was image block most first x.0 (below q need.0) d c (subst (λ (k : ℕ). KillLeaves g k image c) (sym x.2) kill);
        }

    pub drop_ends : (b : List ℕ) (rest : ℕ) → rest + 1 ≡ left → KillDone g q image b → (cs : List Carried) → DropsTo g was block most batch first (q + 1) run left cs image →
        DropsTo g was block most batch first q run rest cs b × HaveGone g (below (q + 1) cs) (below q cs) image b
    drop_ends b rest one kill cs to =
        let x = front cs to in
        let d = front_drops cs to in
        let k : KillDone g x.0.from image b = subst (λ (p : ℕ). KillDone g p image b) (sym x.2) kill in
        let more : length (below (q + 1) cs) ≡ length (below q cs) + 1 = ap (λ (ds : List Carried). length ds) x.3 ∙ omega arith in
        let many = to.many in (
          record { drops = kill_done g was image block most first x.0 (below q cs) d b k; run_is = to.run_is; many = omega (arith, more, many, one) },
          subst (λ (ds : List Carried). HaveGone g ds (below q cs) image b) (sym x.3) (killed_one g was image block most first x.0 (below q cs) d b k),
        )

-- ---- with none left the turn is done

module _ (g : Geometry) (was image : List ℕ) (block most page : ℕ) (d : Drops g was block most page [] image) where
  tidy : IsTidy g image
  tidy = idles-end g image d.spare (λ r e. let bad : false ≡ true = d.only r e in absurd (cc)) d.idles

  on_way : IsOnWay g (d.index ∷ d.moves) was image
  on_way = record { moves_are = d.are; way = d.way; table = d.keeps.table }

  pub drops_end : TurnDone g block page was image
  drops_end = record {
    keeps = d.keeps;
    can = record { tidy = tidy; places = (batch_goes_on g was was image block d.index d.moves d.low (begins_between g was block d.is d.can.tidy d.low) d.can.places d.ways d.some d.out d.place d.batch on_way tidy d.index_gone).1 };
    gone = ⊎_elim (λ (left : are_from [] page ≡ true). let bad : false ≡ true = left in absurd (cc)) (λ (dead : live_at g image page ≡ None). dead) d.gone;
    others = alive_before g was image block most page [] d;
    between = λ first so_far. (batch_goes_on g first was image block d.index d.moves d.low so_far d.can.places d.ways d.some d.out d.place d.batch on_way tidy d.index_gone).0;
    tails = d.tails;
    counts = d.counts;
  }
