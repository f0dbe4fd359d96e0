-- A cut in some calls, by the first of them: its reply was said whole, or not.
use Rattle.std.proofs.Common.{◌≡◌, ℕ, List, [], ◌∷◌, ◌++◌, length, refl, sym, ◌∙◌, ap, subst, arith, append_assoc, append-nil, length-append}
use Rattle.std.proofs.lemmas.List.{append_cancel_left}
use Rattle.geometry.specs.declared.geometry.Geometry.{Geometry}
use Rattle.table_model.specs.Window.{Moment, from_settled, IsAmong}
use Rattle.image_model.specs.Tables.{table_of}
use Rattle.run_model.specs.Runs.{RunCall, next, after_all, said_of, replies, IsInCall, IsUnderWay, IsCut}
use Rattle.run_model.proofs.Runs.{replies-append}
use Rattle.trace_laws.proofs.Fronts.{same_front}

-- what is under way is a front of the replies
under_way_front : (g : Geometry) (m : Moment) (calls : List RunCall) (part image : List ℕ) → IsUnderWay g m calls part image → (rest : List ℕ) × (replies g m calls ≡ part ++ rest)
unfolding IsUnderWay replies
under_way_front g m [] part image u = ([], sym (append-nil part ∙ u.0))
under_way_front g m (x ∷ xs) part image u = (u.said.rest ++ replies g (next g m x) xs, ap (λ (l : List ℕ). l ++ replies g (next g m x) xs) u.said.whole_is ∙ append_assoc part u.said.rest (replies g (next g m x) xs))

-- so is what was said at a cut
pub cut_front : (g : Geometry) (m : Moment) (calls : List RunCall) (said image : List ℕ) → IsCut g m calls said image → (rest : List ℕ) × (replies g m calls ≡ said ++ rest)
cut_front g m calls said image c =
    let w = under_way_front g (after_all g m c.front) c.later c.part image c.under_way in (
      w.0,
      ap (replies g m) c.calls_are
          ∙ replies-append g m c.front c.later
          ∙ ap (λ (l : List ℕ). replies g m c.front ++ l) w.1
          ∙ sym (append_assoc (replies g m c.front) c.part w.0)
          ∙ ap (λ (l : List ℕ). l ++ w.0) (sym c.said_is),
    )

-- What was said at a cut is what stood there, where that is as long, and a front of what was said in the end.
pub cut_stood : (g : Geometry) (m : Moment) (calls : List RunCall) (closing said stood rest image : List ℕ) → IsCut g m calls said image → length stood ≡ length said → replies g m calls ++ closing ≡ stood ++ rest → IsCut g m calls stood image
cut_stood g m calls closing said stood rest image c same end =
    let w = cut_front g m calls said image c in
    let whole : said ++ (w.0 ++ closing) ≡ stood ++ rest = sym (append_assoc said w.0 closing) ∙ ap (λ (l : List ℕ). l ++ closing) (sym w.1) ∙ end in
    let is : stood ≡ said = sym (same_front said stood (w.0 ++ closing) rest whole (sym same)) in
    subst (λ (l : List ℕ). IsCut g m calls l image) (sym is) c

-- what is under way before no call, and in the first of some
under_end : (g : Geometry) (m : Moment) (part image : List ℕ) → IsUnderWay g m [] part image → (part ≡ []) × IsAmong (table_of g image) (from_settled m [])
unfolding IsUnderWay
under_end g m part image u = u

under_first : (g : Geometry) (m : Moment) (x : RunCall) (xs : List RunCall) (part image : List ℕ) → IsUnderWay g m (x ∷ xs) part image → IsInCall g m x part image
unfolding IsUnderWay
under_first g m x xs part image u = u

end_by : (g : Geometry) (m : Moment) (said image : List ℕ) (front later : List RunCall) (part : List ℕ) → [] ≡ front ++ later → said ≡ replies g m front ++ part → IsUnderWay g (after_all g m front) later part image → (said ≡ []) × IsAmong (table_of g image) (from_settled m [])
unfolding replies after_all
end_by g m said image [] [] part calls is under = let u = under_end g m part image under in (is ∙ u.0, u.1)
end_by g m said image [] (x ∷ later) part calls is under = absurd (cc)
end_by g m said image (x ∷ front) later part calls is under = absurd (cc)

-- a cut in no call
pub cut_end : (g : Geometry) (m : Moment) (said image : List ℕ) → IsCut g m [] said image → (said ≡ []) × IsAmong (table_of g image) (from_settled m [])
cut_end g m said image c = end_by g m said image c.front c.later c.part c.calls_are c.said_is c.under_way

on_by : (g : Geometry) (m : Moment) (x : RunCall) (xs : List RunCall) (more image : List ℕ) (front later : List RunCall) (part : List ℕ) → x ∷ xs ≡ front ++ later → said_of g m x ++ more ≡ replies g m front ++ part → IsUnderWay g (after_all g m front) later part image → IsCut g (next g m x) xs more image
unfolding replies after_all
on_by g m x xs more image [] later part calls is under =
    let here : IsInCall g m x part image = under_first g m x xs part image (subst (λ (l : List RunCall). IsUnderWay g m l part image) (sym calls) under) in
    let e : length (said_of g m x) ≡ length (said_of g m x ++ (more ++ here.said.rest)) = ap length (here.said.whole_is ∙ ap (λ (l : List ℕ). l ++ here.said.rest) (sym is) ∙ append_assoc (said_of g m x) more here.said.rest) in
    absurd (omega (arith, e, length-append (said_of g m x) (more ++ here.said.rest), length-append more here.said.rest, here.said.some))
on_by g m x xs more image (y ∷ front) later part calls is under =
    let first : x ≡ y = cc in
    let others : xs ≡ front ++ later = cc in
    let said : said_of g m x ++ more ≡ said_of g m x ++ (replies g (next g m x) front ++ part) = is ∙ ap (λ (z : RunCall). (said_of g m z ++ replies g (next g m z) front) ++ part) (sym first) ∙ append_assoc (said_of g m x) (replies g (next g m x) front) part in
    record {
      front = front;
      later = later;
      part = part;
      calls_are = others;
      said_is = append_cancel_left (said_of g m x) more (replies g (next g m x) front ++ part) said;
      under_way = subst (λ (z : RunCall). IsUnderWay g (after_all g (next g m z) front) later part image) (sym first) under;
    }

-- the first reply was said whole
pub cut_on : (g : Geometry) (m : Moment) (x : RunCall) (xs : List RunCall) (more image : List ℕ) → IsCut g m (x ∷ xs) (said_of g m x ++ more) image → IsCut g (next g m x) xs more image
cut_on g m x xs more image c = on_by g m x xs more image c.front c.later c.part c.calls_are c.said_is c.under_way

pub cut_off : (g : Geometry) (m : Moment) (x : RunCall) (xs : List RunCall) (more image : List ℕ) → IsCut g (next g m x) xs more image → IsCut g m (x ∷ xs) (said_of g m x ++ more) image
unfolding replies after_all
cut_off g m x xs more image c = record {
  front = x ∷ c.front;
  later = c.later;
  part = c.part;
  calls_are = ap (λ (l : List RunCall). x ∷ l) c.calls_are;
  said_is = ap (λ (l : List ℕ). said_of g m x ++ l) c.said_is ∙ sym (append_assoc (said_of g m x) (replies g (next g m x) c.front) c.part);
  under_way = c.under_way;
}

here_by : (g : Geometry) (m : Moment) (x : RunCall) (xs : List RunCall) (said image : List ℕ) → ((more : List ℕ) → said ≡ said_of g m x ++ more → ⊥) → (front later : List RunCall) (part : List ℕ) → x ∷ xs ≡ front ++ later → said ≡ replies g m front ++ part → IsUnderWay g (after_all g m front) later part image → IsInCall g m x said image
unfolding replies after_all
here_by g m x xs said image not [] later part calls is under =
    subst (λ (l : List ℕ). IsInCall g m x l image) (sym is) (under_first g m x xs part image (subst (λ (l : List RunCall). IsUnderWay g m l part image) (sym calls) under))
here_by g m x xs said image not (y ∷ front) later part calls is under =
    let first : x ≡ y = cc in
    absurd (not (replies g (next g m x) front ++ part) (is ∙ ap (λ (z : RunCall). (said_of g m z ++ replies g (next g m z) front) ++ part) (sym first) ∙ append_assoc (said_of g m x) (replies g (next g m x) front) part))

-- it wasn't
pub cut_here : (g : Geometry) (m : Moment) (x : RunCall) (xs : List RunCall) (said image : List ℕ) → ((more : List ℕ) → said ≡ said_of g m x ++ more → ⊥) → IsCut g m (x ∷ xs) said image → IsInCall g m x said image
cut_here g m x xs said image not c = here_by g m x xs said image not c.front c.later c.part c.calls_are c.said_is c.under_way

-- what stands in the first call is a cut in all of them
pub cut_in : (g : Geometry) (m : Moment) (x : RunCall) (xs : List RunCall) (said image : List ℕ) → IsInCall g m x said image → IsCut g m (x ∷ xs) said image
unfolding replies after_all IsUnderWay
cut_in g m x xs said image here = record { front = []; later = x ∷ xs; part = said; calls_are = refl; said_is = refl; under_way = here }
