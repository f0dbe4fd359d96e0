use Rattle.std.proofs.Common.{◌≡◌, ◌∙◌, sym, ap, ℕ, List, length, None, rules, arith, ◌<◌}
use Rattle.nor_core.proofs.Cuts.{reads_none}
use Rattle.image_tool.specs.Parts.{lines_of}
use Rattle.image_tool.proofs.Found.{lines-ascend}
use Rattle.image_tool.proofs.Speaking.{says_none, on_err}
use Rattle.image_tool.proofs.Walking.{place_first, walk_says, walk_front, walk_next, walk_last}
use Rattle.flash_view.proofs.Looking.{same_none, same_then}
use Rattle.image_tool.proofs.listing.list_part.Goals as goal

pub loop-id-init : goal.loop-id-init
loop-id-init g c =
    let v = c.args.v.now in
    let image = g.B.NorState.bytes v.nor.now in
    record {
      same = same_none v;
      few = omega arith;
      says = says_none _ (reads_none v.nor.now);
      place = λ tells.
          let w = place_first (λ (x : ℕ × List ℕ). x.0) (λ (x : ℕ × List ℕ). x.1) (g.B.NorState.said v.nor.now) (lines_of c.args.part v.geometry image) (lines-ascend v.geometry image c.args.part) in
          (w.0, ap (λ (l : List (ℕ × List ℕ)). length l) (sym w.1));
    }

pub returns-in_err-id-clause-says : goal.returns-in_err-id-clause-says
returns-in_err-id-clause-says g c =
    let was = c.loop-id.invariant in
    let first : List (ℕ × List ℕ) = lines_of c.args.part c.args.v.now.geometry (g.B.NorState.bytes c.args.v.now.nor.now) in
    let here : List (ℕ × List ℕ) = lines_of c.args.part c.loop-id.v.geometry (g.B.NorState.bytes c.loop-id.v.nor.now) in
    let e : here ≡ first = cc (was.same.geometry, was.says.bytes) in
    walk_says (λ (x : ℕ × List ℕ). x.0) (λ (x : ℕ × List ℕ). x.1) first here c.loop-id.after e was.says (λ tells. (was.place tells).0) c.say_next.ensures.says

pub returns-in_err-id-clause-front : goal.returns-in_err-id-clause-front
returns-in_err-id-clause-front g c = λ tells.
    let was = c.loop-id.invariant in
    let first : List (ℕ × List ℕ) = lines_of c.args.part c.args.v.now.geometry (g.B.NorState.bytes c.args.v.now.nor.now) in
    let here : List (ℕ × List ℕ) = lines_of c.args.part c.loop-id.v.geometry (g.B.NorState.bytes c.loop-id.v.nor.now) in
    let e : here ≡ first = cc (was.same.geometry, was.says.bytes) in
    on_err c.from_residual.result (walk_front (λ (x : ℕ × List ℕ). x.0) (λ (x : ℕ × List ℕ). x.1) first here c.loop-id.after e (was.place tells).0 (c.in_err-id.ensures.front (was.says.cuts.told tells)))

pub loop-id-preserved : goal.loop-id-preserved
loop-id-preserved g c =
    let was = c.loop-id.invariant in
    let first : List (ℕ × List ℕ) = lines_of c.args.part c.args.v.now.geometry (g.B.NorState.bytes c.args.v.now.nor.now) in
    let here : List (ℕ × List ℕ) = lines_of c.args.part c.loop-id.v.geometry (g.B.NorState.bytes c.loop-id.v.nor.now) in
    let e : here ≡ first = cc (was.same.geometry, was.says.bytes) in
    let above : c.loop-id.after < c.in-Some.id = search rules in
    record {
      same = same_then was.same c.say_next.ensures.same;
      few = omega (arith, was.few, c.in-Some.is, above);
      says = walk_says (λ (x : ℕ × List ℕ). x.0) (λ (x : ℕ × List ℕ). x.1) first here c.loop-id.after e was.says (λ tells. (was.place tells).0) c.say_next.ensures.says;
      place = λ tells.
          let now = was.says.cuts.told tells in
          let w = walk_next (λ (x : ℕ × List ℕ). x.0) (λ (x : ℕ × List ℕ). x.1) first here c.loop-id.after c.in-Some.id e (was.place tells).0 (sym c.in-Some.is ∙ c.in_ok-id.ensures.found now) (c.in_ok-id.ensures.whole now) in
          (w.0, omega (arith, w.1.1, (was.place tells).1));
    }

pub returns-clause-says : goal.returns-clause-says
returns-clause-says g c =
    let was = c.loop-id.invariant in
    let first : List (ℕ × List ℕ) = lines_of c.args.part c.args.v.now.geometry (g.B.NorState.bytes c.args.v.now.nor.now) in
    let here : List (ℕ × List ℕ) = lines_of c.args.part c.loop-id.v.geometry (g.B.NorState.bytes c.loop-id.v.nor.now) in
    let e : here ≡ first = cc (was.same.geometry, was.says.bytes) in
    walk_says (λ (x : ℕ × List ℕ). x.0) (λ (x : ℕ × List ℕ). x.1) first here c.loop-id.after e was.says (λ tells. (was.place tells).0) c.say_next.ensures.says

pub returns-clause-whole : goal.returns-clause-whole
returns-clause-whole g c = λ tells.
    let was = c.loop-id.invariant in
    let first : List (ℕ × List ℕ) = lines_of c.args.part c.args.v.now.geometry (g.B.NorState.bytes c.args.v.now.nor.now) in
    let here : List (ℕ × List ℕ) = lines_of c.args.part c.loop-id.v.geometry (g.B.NorState.bytes c.loop-id.v.nor.now) in
    let e : here ≡ first = cc (was.same.geometry, was.says.bytes) in
    let now = was.says.cuts.told tells in
    let none : None ≡ c.in_ok-id.field-0 = search rules in
    (walk_last (λ (x : ℕ × List ℕ). x.0) (λ (x : ℕ × List ℕ). x.1) first here c.loop-id.after e (was.place tells).0 (none ∙ c.in_ok-id.ensures.found now) (c.in_ok-id.ensures.whole now)).0

pub returns-clause-count : goal.returns-clause-count
returns-clause-count g c = λ tells.
    let was = c.loop-id.invariant in
    let first : List (ℕ × List ℕ) = lines_of c.args.part c.args.v.now.geometry (g.B.NorState.bytes c.args.v.now.nor.now) in
    let here : List (ℕ × List ℕ) = lines_of c.args.part c.loop-id.v.geometry (g.B.NorState.bytes c.loop-id.v.nor.now) in
    let e : here ≡ first = cc (was.same.geometry, was.says.bytes) in
    let now = was.says.cuts.told tells in
    let none : None ≡ c.in_ok-id.field-0 = search rules in
    (was.place tells).1 ∙ ap (λ (l : List (ℕ × List ℕ)). length l) (walk_last (λ (x : ℕ × List ℕ). x.0) (λ (x : ℕ × List ℕ). x.1) first here c.loop-id.after e (was.place tells).0 (none ∙ c.in_ok-id.ensures.found now) (c.in_ok-id.ensures.whole now)).1

pub returns-clause-same : goal.returns-clause-same
returns-clause-same g c = same_then c.loop-id.invariant.same c.say_next.ensures.same
