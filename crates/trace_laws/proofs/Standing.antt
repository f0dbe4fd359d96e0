-- What may stand in a run of some calls, by the first of them.
use Rattle.std.proofs.Common.{◌≡◌, ℕ, ◌<◌, List, [], ◌∷◌, ◌++◌, length, refl, sym, ◌∙◌, ap, subst, arith, ⊎_elim, append_assoc, length-append, Bool, true, false}
use Rattle.geometry.specs.declared.geometry.Geometry.{Geometry}
use Rattle.table_model.specs.Ask.{Ask}
use Rattle.table_model.specs.Steps.{steps}
use Rattle.table_model.specs.Window.{Moment, after, from_settled, IsAmong}
use Rattle.image_model.specs.Tables.{table_of}
use Rattle.run_model.specs.Runs.{RunCall, IsFair, AreFair, next, asks_of, said_of, replies, IsInCall, IsCut}
use Rattle.run_model.proofs.Runs.{said_some, cut_none, among_settled, plain_fair}
use Rattle.trace_laws.specs.Standing.{MayStand, IsInFirst, IsUnanswered, WalksOn, call_of, line_of}
use Rattle.trace_laws.proofs.Fronts.{Heads, more_heads, heads_one}
use Rattle.trace_laws.proofs.Cuts.{cut_front, cut_stood, cut_end, cut_on, cut_off, cut_here, cut_in}
use Rattle.trace_laws.proofs.Spares.{corner_answers}

-- What stood in a run that asked some first calls: what was said then is a front of what was said in the end, as long as the cut tells.
pub cut_stands : (g : Geometry) (m : Moment) (asks later : List Ask) (done : List RunCall) (closing said stood rest image : List ℕ) → asks ≡ asks_of done ++ later → AreFair g m done → IsCut g m done said image → length stood ≡ length said
    → replies g m done ++ closing ≡ stood ++ rest → MayStand g m asks stood image
cut_stands g m asks later done closing said stood rest image asks_are fair c same end = record { done = done; later = later; asks_are = asks_are; fair = fair; cut = cut_stood g m done closing said stood rest image c same end }

-- before the first byte nothing but the table counts
pub none_stands : (g : Geometry) (m : Moment) (asks : List Ask) (image : List ℕ) → IsAmong (table_of g image) (from_settled m []) → MayStand g m asks [] image
unfolding AreFair
none_stands g m asks image among = record { done = []; later = asks; asks_are = refl; fair = tt {0}; cut = cut_none g m [] image among }

pub fair_first : (g : Geometry) (m : Moment) (x : RunCall) (xs : List RunCall) → AreFair g m (x ∷ xs) → IsFair g m x × AreFair g (next g m x) xs
unfolding AreFair
fair_first g m x xs fair = fair

fair_more : (g : Geometry) (m : Moment) (x : RunCall) (xs : List RunCall) → IsFair g m x → AreFair g (next g m x) xs → AreFair g m (x ∷ xs)
unfolding AreFair
fair_more g m x xs here later = (here, later)

-- ---- without a call

end_by : (g : Geometry) (m : Moment) (said image : List ℕ) (done : List RunCall) (later : List Ask) → [] ≡ asks_of done ++ later → IsCut g m done said image → (said ≡ []) × IsAmong (table_of g image) (from_settled m [])
end_by g m said image [] later asks c = cut_end g m said image c
end_by g m said image (x ∷ done) later asks c = absurd (cc)

pub stands_end : (g : Geometry) (m : Moment) (said image : List ℕ) → MayStand g m [] said image → (said ≡ []) × IsAmong (table_of g image) (from_settled m [])
stands_end g m said image s = end_by g m said image s.done s.later s.asks_are s.cut

-- ---- in the first call

pub in_first : (g : Geometry) (m : Moment) (ask : Ask) (asks : List Ask) (spare : Bool) (part image : List ℕ) → IsFair g m (call_of ask spare) → IsInCall g m (call_of ask spare) part image → MayStand g m (ask ∷ asks) part image
unfolding AreFair
in_first g m ask asks spare part image fair here = record {
  done = call_of ask spare ∷ [];
  later = asks;
  asks_are = refl;
  fair = (fair, tt {0});
  cut = cut_in g m (call_of ask spare) [] part image here;
}

-- nothing of its reply was said
nothing_said : (g : Geometry) (m : Moment) (ask : Ask) (image : List ℕ) → IsAmong (table_of g image) (from_settled m (steps g true m.state ask)) → IsInCall g m (call_of ask true) [] image
nothing_said g m ask image among = record {
  said = record { rest = line_of g m ask true; whole_is = refl; some = said_some g m (call_of ask true) };
  among = among;
  once_said = λ some. absurd (omega (arith, some));
  lacks = λ some. absurd (omega (arith, some));
}

pub before_first : (g : Geometry) (m : Moment) (ask : Ask) (asks : List Ask) (image : List ℕ) → IsAmong (table_of g image) (from_settled m (steps g true m.state ask)) → MayStand g m (ask ∷ asks) [] image
before_first g m ask asks image among = in_first g m ask asks true [] image (plain_fair g m ask) (nothing_said g m ask image among)

-- no reply is a front of nothing
not_none : (g : Geometry) (m : Moment) (x : RunCall) (more : List ℕ) → [] ≡ said_of g m x ++ more → ⊥
not_none g m x more e = let n : 0 ≡ length (said_of g m x ++ more) = ap length e in absurd (omega (arith, n, length-append (said_of g m x) more, said_some g m x))

before_by : (g : Geometry) (m : Moment) (ask : Ask) (asks : List Ask) (image : List ℕ) (done : List RunCall) (later : List Ask) → ask ∷ asks ≡ asks_of done ++ later → IsCut g m done [] image → IsAmong (table_of g image) (from_settled m (steps g true m.state ask))
before_by g m ask asks image [] later are c = among_settled m (table_of g image) (steps g true m.state ask) (cut_end g m [] image c).1
before_by g m ask asks image (x ∷ done) later are c =
    let here = cut_here g m x done [] image (not_none g m x) c in
    let first : ask ≡ x.ask = cc in
    subst (λ (a : Ask). IsAmong (table_of g image) (from_settled m (steps g true m.state a))) (sym first) here.among

pub before_first_only : (g : Geometry) (m : Moment) (ask : Ask) (asks : List Ask) (image : List ℕ) → MayStand g m (ask ∷ asks) [] image → IsAmong (table_of g image) (from_settled m (steps g true m.state ask))
before_first_only g m ask asks image s = before_by g m ask asks image s.done s.later s.asks_are s.cut

-- a part of its reply was said
part_by : (g : Geometry) (m : Moment) (ask : Ask) (asks : List Ask) (part image : List ℕ) → 0 < length part → IsUnanswered g m ask part → (done : List RunCall) (later : List Ask) → ask ∷ asks ≡ asks_of done ++ later → AreFair g m done → IsCut g m done part image → IsInFirst g m ask part image
part_by g m ask asks part image some not [] later are fair c = absurd (let e : length part ≡ 0 = ap length (cut_end g m part image c).0 in omega (arith, e, some))
part_by g m ask asks part image some not (x ∷ done) later are fair c =
    let first : ask ≡ x.ask = cc in
    let is : x ≡ call_of ask x.spare = ap (λ (a : Ask). call_of a x.spare) (sym first) in
    let fair_x : IsFair g m (call_of ask x.spare) = subst (IsFair g m) is (fair_first g m x done fair).0 in
    let none : (more : List ℕ) → part ≡ said_of g m x ++ more → ⊥ = λ more e. not x.spare fair_x more (e ∙ ap (λ (y : RunCall). said_of g m y ++ more) is) in
    record { spare = x.spare; fair = fair_x; here = subst (λ (y : RunCall). IsInCall g m y part image) is (cut_here g m x done part image none c) }

pub part_of_first : (g : Geometry) (m : Moment) (ask : Ask) (asks : List Ask) (part image : List ℕ) → 0 < length part → IsUnanswered g m ask part → MayStand g m (ask ∷ asks) part image → IsInFirst g m ask part image
part_of_first g m ask asks part image some not s = part_by g m ask asks part image some not s.done s.later s.asks_are s.fair s.cut

-- ---- behind the first call

pub stands_off : (g : Geometry) (m : Moment) (ask : Ask) (asks : List Ask) (spare : Bool) (more image : List ℕ) → IsFair g m (call_of ask spare) → MayStand g (after g spare m ask) asks more image → MayStand g m (ask ∷ asks) (line_of g m ask spare ++ more) image
stands_off g m ask asks spare more image fair s = record {
  done = call_of ask spare ∷ s.done;
  later = s.later;
  asks_are = ap (λ (l : List Ask). ask ∷ l) s.asks_are;
  fair = fair_more g m (call_of ask spare) s.done fair s.fair;
  cut = cut_off g m (call_of ask spare) s.done more image s.cut;
}

-- the two ways to answer a call begin with one byte, or they are one
pub one_way : (g : Geometry) (m : Moment) (ask : Ask) (a b : Bool) → IsFair g m (call_of ask a) → IsFair g m (call_of ask b) → (x y : List ℕ) → line_of g m ask a ++ x ≡ line_of g m ask b ++ y → (line_of g m ask a ≡ line_of g m ask b) × (after g a m ask ≡ after g b m ask)
one_way g m ask true true fa fb x y e = (refl, refl)
one_way g m ask false false fa fb x y e = (refl, refl)
one_way g m ask true false fa fb x y e = ⊎_elim
    (λ same. (sym same.line, sym same.next))
    (λ tight. absurd (let bad : 111 ≡ 45 = heads_one 111 45 (line_of g m ask true ++ x) (more_heads 111 (line_of g m ask true) x tight.done) (subst (Heads 45) (sym e) (more_heads 45 (line_of g m ask false) y tight.tight)) in omega (arith, bad)))
    (corner_answers g m ask (fb refl))
one_way g m ask false true fa fb x y e = ⊎_elim
    (λ same. (same.line, same.next))
    (λ tight. absurd (let bad : 111 ≡ 45 = heads_one 111 45 (line_of g m ask true ++ y) (more_heads 111 (line_of g m ask true) y tight.done) (subst (Heads 45) e (more_heads 45 (line_of g m ask false) x tight.tight)) in omega (arith, bad)))
    (corner_answers g m ask (fa refl))

on_by : (g : Geometry) (m : Moment) (ask : Ask) (asks : List Ask) (spare : Bool) (more image : List ℕ) → IsFair g m (call_of ask spare) → (done : List RunCall) (later : List Ask) → ask ∷ asks ≡ asks_of done ++ later → AreFair g m done → IsCut g m done (line_of g m ask spare ++ more) image → MayStand g (after g spare m ask) asks more image
unfolding replies
on_by g m ask asks spare more image fair_call [] later are fair c = absurd (not_none g m (call_of ask spare) more (sym (cut_end g m (line_of g m ask spare ++ more) image c).0))
on_by g m ask asks spare more image fair_call (x ∷ done) later are fair c =
    let first : ask ≡ x.ask = cc in
    let others : asks ≡ asks_of done ++ later = cc in
    let is : x ≡ call_of ask x.spare = ap (λ (a : Ask). call_of a x.spare) (sym first) in
    let fair_x : IsFair g m (call_of ask x.spare) × AreFair g (next g m (call_of ask x.spare)) done = subst (λ (y : RunCall). IsFair g m y × AreFair g (next g m y) done) is (fair_first g m x done fair) in
    let cut_x : IsCut g m (call_of ask x.spare ∷ done) (line_of g m ask spare ++ more) image = subst (λ (y : RunCall). IsCut g m (y ∷ done) (line_of g m ask spare ++ more) image) is c in
    let front = cut_front g m (call_of ask x.spare ∷ done) (line_of g m ask spare ++ more) image cut_x in
    let way = one_way g m ask spare x.spare fair_call fair_x.0 (more ++ front.0) (replies g (after g x.spare m ask) done) (sym (front.1 ∙ append_assoc (line_of g m ask spare) more front.0)) in
    record {
      done = done;
      later = later;
      asks_are = others;
      fair = subst (λ (j : Moment). AreFair g j done) (sym way.1) fair_x.1;
      cut = subst (λ (j : Moment). IsCut g j done more image) (sym way.1) (cut_on g m (call_of ask x.spare) done more image (subst (λ (l : List ℕ). IsCut g m (call_of ask x.spare ∷ done) (l ++ more) image) way.0 cut_x));
    }

-- its reply was said whole
pub stands_on : (g : Geometry) (m : Moment) (ask : Ask) (asks : List Ask) (spare : Bool) (more image : List ℕ) → IsFair g m (call_of ask spare) → MayStand g m (ask ∷ asks) (line_of g m ask spare ++ more) image → MayStand g (after g spare m ask) asks more image
stands_on g m ask asks spare more image fair s = on_by g m ask asks spare more image fair s.done s.later s.asks_are s.fair s.cut

pub walks_on : (g : Geometry) → WalksOn g
walks_on g = record {
  at_end = λ m said image. (
    stands_end g m said image,
    λ w. subst (λ (l : List ℕ). MayStand g m [] l image) (sym w.0) (none_stands g m [] image w.1),
  );
  before = λ m ask asks image. (before_first_only g m ask asks image, before_first g m ask asks image);
  inside = λ m ask asks part image some not. (part_of_first g m ask asks part image some not, λ w. in_first g m ask asks w.spare part image w.fair w.here);
  behind = λ m ask asks spare more image fair. (stands_on g m ask asks spare more image fair, stands_off g m ask asks spare more image fair);
}
