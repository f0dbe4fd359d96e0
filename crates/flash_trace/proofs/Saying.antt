-- The judge's tests decide what may stand.
use Rattle.std.proofs.Common.{◌≡◌, ℕ, ◌+◌, ◌<◌, List, [], ◌∷◌, ◌++◌, length, map, refl, sym, ◌∙◌, ap, subst, arith, Bool, true, false, Option, Some, None, ◌⊎◌, inl, inr, ⊎_elim}
use Rattle.geometry.specs.declared.geometry.Geometry.{Geometry}
use Rattle.table_model.specs.Table.{File}
use Rattle.table_model.specs.Ask.{Ask}
use Rattle.table_model.specs.Steps.{steps}
use Rattle.table_model.specs.Window.{Moment, from_settled, IsAmong}
use Rattle.call_script.specs.Lines.{lines, calls}
use Rattle.image_model.specs.Tables.{table_of}
use Rattle.run_model.specs.Runs.{RunCall, IsFair, asks_of, after_all, replies, IsPart, IsInCall}
use Rattle.run_model.proofs.Runs.{plain_fair, said_some}
use Rattle.trace_laws.specs.Standing.{MayStand, IsInFirst, call_of}
use Rattle.trace_laws.proofs.Standing.{in_first, before_first_only, part_of_first, stands_end, none_stands}
use Rattle.plain_table.specs.Seen.{file, files_of}
use Rattle.plain_table.specs.Moments.{moment_of}
use Rattle.flash_trace.specs.declared.case.Case.{Case}
use Rattle.flash_trace.specs.declared.spot.Place.{Place}
use Rattle.flash_trace.specs.declared.picture.Picture.{Picture}
use Rattle.flash_trace.specs.declared.ways.Way.{Way}
use Rattle.flash_trace.specs.declared.ways.Ways.{Ways}
use Rattle.flash_trace.specs.declared.ways.Ahead.{Ahead}
use Rattle.flash_trace.specs.declared.ways.Ahead.TheVariants.{End, Bad, Call}
use Rattle.flash_trace.specs.Good.{EndsBadly, Unbegun, Says, IsBegun, bad_text, first_bad}
use Rattle.flash_trace.specs.Ways.{IsTightWay, AreWays, IsAhead, IsQuiet}
use Rattle.flash_trace.specs.Places.{IsPlace, IsSettled, begins, part_of}
use Rattle.flash_trace.specs.Stands.{IsPicture, MayLeave, StandsTight, StandsAhead, EndsAhead, BeginsNot, SaysHere}
use Rattle.flash_trace.proofs.Endings.{end_here, only_here, ends_not}
use Rattle.flash_trace.proofs.Behind.{stands_behind, stands_before, ends_behind, ends_before, unbegun_first}
use Rattle.flash_trace.proofs.Places.{unanswered}

-- a list is empty, or it is not
empty_or_some : (l : List ℕ) → (l ≡ []) ⊎ (0 < length l)
empty_or_some [] = inl refl
empty_or_some (x ∷ xs) = inr (omega arith)

module _ (case : Case) (p : Picture) (place : Place) (picture : IsPicture case p) where
  abbrev g : Geometry
  g = case.g.now

  abbrev m : Moment
  m = moment_of place.moment

  abbrev image : List ℕ
  image = p.image.items

  abbrev part : List ℕ
  part = part_of place

  -- the table of the picture is that of the image
  seen : (more : List (List File)) → IsAmong (map file p.table.items) (from_settled m more) → IsAmong (table_of g image) (from_settled m more)
  seen more among = subst (λ (t : List File). IsAmong t (from_settled m more)) picture.table among

  unseen : (more : List (List File)) → IsAmong (table_of g image) (from_settled m more) → IsAmong (map file p.table.items) (from_settled m more)
  unseen more among = subst (λ (t : List File). IsAmong t (from_settled m more)) (sym picture.table) among

  module _ (ask : Ask) (rest : List Ask) (ways : Ways) (are : AreWays g m ask ways) (quiet : IsQuiet part (Call ways)) where
    plain_in : IsPart part ways.plain.line.items → MayLeave place p ways.plain.steps.items → IsInCall g m (call_of ask true) part image
    plain_in is leaves =
        let among : IsAmong (table_of g image) (from_settled m (steps g true m.state ask)) = subst (λ (l : List (List File)). IsAmong (table_of g image) (from_settled m l)) are.plain.steps (seen (map files_of ways.plain.steps.items) leaves) in
        record { said = subst (IsPart part) are.plain.line is; among = among; once_said = λ some. among; lacks = λ some e. absurd (let no : true ≡ false = e in cc) }

    tight_in : (o : Option Way) → IsTightWay g m ask o → StandsTight case p place ways.plain o → IsInFirst g m ask part image
    tight_in None tight stands = absurd stands
    tight_in (Some way) tight stands = record {
      spare = false;
      fair = λ e. tight.0;
      here = record {
        said = subst (IsPart part) tight.1.line stands.0;
        among = subst (λ (l : List (List File)). IsAmong (table_of g image) (from_settled m l)) are.plain.steps (seen (map files_of ways.plain.steps.items) stands.1);
        once_said = λ some. subst (λ (l : List (List File)). IsAmong (table_of g image) (from_settled m l)) tight.1.steps (seen (map files_of way.steps.items) stands.2);
        lacks = λ some e. stands.3;
      };
    }

    pub call_stands : StandsAhead case p place (Call ways) → MayStand g m (ask ∷ rest) part image
    call_stands (inl stands) = in_first g m ask rest true part image (plain_fair g m ask) (plain_in stands.0 stands.1)
    call_stands (inr stands) = let w = tight_in ways.tight are.tight stands.1 in in_first g m ask rest w.spare part image w.fair w.here

    tight_out : (o : Option Way) → IsTightWay g m ask o → IsFair g m (call_of ask false) → 0 < length part → IsInCall g m (call_of ask false) part image → StandsTight case p place ways.plain o
    tight_out None tight fair some here = tight (fair refl)
    tight_out (Some way) tight fair some here = (
      subst (IsPart part) (sym tight.1.line) here.said,
      unseen (map files_of ways.plain.steps.items) (subst (λ (l : List (List File)). IsAmong (table_of g image) (from_settled m l)) (sym are.plain.steps) here.among),
      unseen (map files_of way.steps.items) (subst (λ (l : List (List File)). IsAmong (table_of g image) (from_settled m l)) (sym tight.1.steps) (here.once_said some)),
      here.lacks some refl,
    )

    out_by : (spare : Bool) → IsFair g m (call_of ask spare) → 0 < length part → IsInCall g m (call_of ask spare) part image → StandsAhead case p place (Call ways)
    out_by true fair some here = inl (subst (IsPart part) (sym are.plain.line) here.said, unseen (map files_of ways.plain.steps.items) (subst (λ (l : List (List File)). IsAmong (table_of g image) (from_settled m l)) (sym are.plain.steps) here.among))
    out_by false fair some here = inr (some, tight_out ways.tight are.tight fair some here)

    empty_part : (l : List ℕ) → l ≡ [] → 0 < length ways.plain.line.items → IsPart l ways.plain.line.items
    empty_part l none some = record { rest = ways.plain.line.items; whole_is = ap (λ (k : List ℕ). k ++ ways.plain.line.items) (sym none); some = some }

    none_out : part ≡ [] → MayStand g m (ask ∷ rest) part image → StandsAhead case p place (Call ways)
    none_out none s = inl (
      empty_part part none (subst (λ (l : List ℕ). 0 < length l) (sym are.plain.line) (said_some g m (call_of ask true))),
      unseen (map files_of ways.plain.steps.items) (subst (λ (l : List (List File)). IsAmong (table_of g image) (from_settled m l)) (sym are.plain.steps) (before_first_only g m ask rest image (subst (λ (l : List ℕ). MayStand g m (ask ∷ rest) l image) none s))),
    )

    some_out : 0 < length part → MayStand g m (ask ∷ rest) part image → StandsAhead case p place (Call ways)
    some_out some s = let w = part_of_first g m ask rest part image some (unanswered g m ask ways part are quiet) s in out_by w.spare w.fair some w.here

    pub stands_call : MayStand g m (ask ∷ rest) part image → StandsAhead case p place (Call ways)
    stands_call s = ⊎_elim (λ none. none_out none s) (λ some. some_out some s) (empty_or_some part)

  -- behind the last call
  end_stands : (part ≡ []) × MayLeave place p [] → MayStand g m [] part image
  end_stands stands = subst (λ (l : List ℕ). MayStand g m [] l image) (sym stands.0) (none_stands g m [] image (seen [] stands.1))

  stands_at_end : MayStand g m [] part image → (part ≡ []) × MayLeave place p []
  stands_at_end s = let w = stands_end g m part image s in (w.0, unseen [] w.1)

  module _ (asks rest : List Ask) (bad later : Option ℕ) where
    ahead_stands : (a : Ahead) → IsAhead g m asks bad rest later a → IsQuiet part a → StandsAhead case p place a → MayStand g m asks part image
    ahead_stands End is quiet stands = subst (λ (l : List Ask). MayStand g m l part image) (sym is.0) (end_stands stands)
    ahead_stands (Bad number) is quiet stands = subst (λ (l : List Ask). MayStand g m l part image) (sym is.0) (end_stands stands)
    ahead_stands (Call ways) is quiet stands = subst (λ (l : List Ask). MayStand g m l part image) (sym is.1) (call_stands is.0 rest ways is.3 quiet stands)

    stands_ahead : (a : Ahead) → IsAhead g m asks bad rest later a → IsQuiet part a → MayStand g m asks part image → StandsAhead case p place a
    stands_ahead End is quiet s = stands_at_end (subst (λ (l : List Ask). MayStand g m l part image) is.0 s)
    stands_ahead (Bad number) is quiet s = stands_at_end (subst (λ (l : List Ask). MayStand g m l part image) is.0 s)
    stands_ahead (Call ways) is quiet s = stands_call is.0 rest ways is.3 quiet (subst (λ (l : List Ask). MayStand g m l part image) is.1 s)

    ahead_ends : (a : Ahead) → IsAhead g m asks bad rest later a → EndsAhead p place a → EndsBadly g m asks bad part image
    ahead_ends End is ends = absurd ends
    ahead_ends (Bad number) is ends = subst (λ (l : List Ask). EndsBadly g m l bad part image) (sym is.0) (end_here g bad image m part (record { number = number; bad_is = is.1; begun = ends.0; table = sym picture.table ∙ ends.1 }))
    ahead_ends (Call ways) is ends = absurd ends

    ends_ahead : (a : Ahead) → IsAhead g m asks bad rest later a → IsQuiet part a → EndsBadly g m asks bad part image → EndsAhead p place a
    ends_ahead End is quiet e = let h = only_here g bad image m part (subst (λ (l : List Ask). EndsBadly g m l bad part image) is.0 e) in absurd (let no : None ≡ Some h.number = sym is.1 ∙ h.bad_is in cc)
    ends_ahead (Bad number) is quiet e =
        let h = only_here g bad image m part (subst (λ (l : List Ask). EndsBadly g m l bad part image) is.0 e) in
        let same : h.number ≡ number = (let both : Some h.number ≡ Some number = sym h.bad_is ∙ is.1 in cc) in
        (subst (λ (n : ℕ). IsBegun part (bad_text n)) same h.begun, picture.table ∙ h.table)
    ends_ahead (Call ways) is quiet e = ends_not g bad image m is.0 rest part (unanswered g m is.0 ways part is.3 quiet) (subst (λ (l : List Ask). EndsBadly g m l bad part image) is.1 e)

  module _ (settled : IsSettled case place) where
    abbrev m0 : Moment
    m0 = begins case

    abbrev script : List ℕ
    script = case.script.now

    abbrev bad : Option ℕ
    bad = first_bad 1 (lines script)

    abbrev said : List ℕ
    said = place.said.items

    at : IsPlace g m0 script place
    at = settled.at

    nothing_before : at.done ≡ [] → said ≡ part
    unfolding replies
    nothing_before is = at.said_is ∙ ap (λ (d : List RunCall). replies g m0 d ++ part) is

    after_none : at.done ≡ [] → m ≡ m0
    unfolding after_all
    after_none is = at.moment_is ∙ ap (after_all g m0) is

    begins_first : (done : List RunCall) → at.done ≡ done → BeginsNot case p place → Unbegun g m0 case.first.now said image
    begins_first [] is b = record {
      line = b.line;
      why = b.why;
      begun = subst (λ (l : List ℕ). IsBegun l b.line) (sym (nothing_before is)) b.begun;
      table = sym picture.table ∙ b.table ∙ ap (λ (j : Moment). j.state.table) (after_none is);
    }
    begins_first (x ∷ done) is b = absurd (let n : length at.done ≡ length done + 1 = ap length is ∙ omega arith in omega (arith, n, at.count, b.none))

    first_begins : (done : List RunCall) → at.done ≡ done → Unbegun g m0 case.first.now said image → BeginsNot case p place
    first_begins [] is u = record {
      none = at.count ∙ ap length is;
      line = u.line;
      why = u.why;
      begun = subst (λ (l : List ℕ). IsBegun l u.line) (nothing_before is) u.begun;
      table = picture.table ∙ u.table ∙ ap (λ (j : Moment). j.state.table) (sym (after_none is));
    }
    first_begins (x ∷ done) is u = absurd (unbegun_first g m0 x done part case.first.now image u.line u.why (subst (λ (l : List ℕ). IsBegun l u.line) (at.said_is ∙ ap (λ (d : List RunCall). replies g m0 d ++ part) is) u.begun))

    whole_said : (P : List Ask → List ℕ → Type 0) → P (asks_of at.done ++ at.asks) (replies g m0 at.done ++ part) → P (calls script) said
    whole_said P h = subst (λ (l : List ℕ). P (calls script) l) (sym at.said_is) (subst (λ (l : List Ask). P l (replies g m0 at.done ++ part)) (sym at.asks_are) h)

    said_whole : (P : List Ask → List ℕ → Type 0) → P (calls script) said → P (asks_of at.done ++ at.asks) (replies g m0 at.done ++ part)
    said_whole P h = subst (λ (l : List ℕ). P (asks_of at.done ++ at.asks) l) at.said_is (subst (λ (l : List Ask). P l said) at.asks_are h)

    pub says_here : SaysHere case p place → Says g m0 case.first.now script (record { image = image; said = said })
    says_here (inl stands) = inl (whole_said (λ l k. MayStand g m0 l k image) (stands_before g image m0 at.done at.asks part at.fair
        (subst (λ (j : Moment). MayStand g j at.asks part image) at.moment_is (ahead_stands at.asks _ bad _ place.ahead at.found.is settled.quiet stands))))
    says_here (inr (inl ends)) = inr (inl (whole_said (λ l k. EndsBadly g m0 l bad k image) (ends_before g image bad m0 at.done at.asks part at.fair
        (subst (λ (j : Moment). EndsBadly g j at.asks bad part image) at.moment_is (ahead_ends at.asks _ bad _ place.ahead at.found.is ends)))))
    says_here (inr (inr none)) = inr (inr (begins_first at.done refl none))

    pub here_says : Says g m0 case.first.now script (record { image = image; said = said }) → SaysHere case p place
    here_says (inl s) = inl (stands_ahead at.asks _ bad _ place.ahead at.found.is settled.quiet
        (subst (λ (j : Moment). MayStand g j at.asks part image) (sym at.moment_is) (stands_behind g image m0 at.done at.asks part at.fair (said_whole (λ l k. MayStand g m0 l k image) s))))
    here_says (inr (inl e)) = inr (inl (ends_ahead at.asks _ bad _ place.ahead at.found.is settled.quiet
        (subst (λ (j : Moment). EndsBadly g j at.asks bad part image) (sym at.moment_is) (ends_behind g image bad m0 at.done at.asks part at.fair (said_whole (λ l k. EndsBadly g m0 l bad k image) e)))))
    here_says (inr (inr u)) = inr (inr (first_begins at.done refl u))
