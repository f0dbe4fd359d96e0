-- A renewed header page: its cuts, and the image after it.
use Rattle.std.proofs.Common.{◌≡◌, ◌≢◌, ℕ, ◌+◌, ◌%◌, ◌<◌, ◌≤◌, ◌⊎◌, List, [], Bool, true, false, not, ◌==◌, ◌||◌, ◌&&◌, Some, None, Result, Ok, ap, refl, sym, ◌∙◌, arith, ⊎_elim, subst, inl, inr}
use Rattle.std.specs.Prelude.{is_some}
use Rattle.std.proofs.lemmas.Bool.{cases_eq, cases_Bool, and_parts, ne_eqb, eq-eqb, eqb-true, or_parts, or_cases}
use Rattle.std.proofs.lemmas.Option.{none-some, same_Some}
use Rattle.geometry.specs.declared.geometry.Geometry.{Geometry}
use Rattle.image_model.specs.Within.{page_number}
use Rattle.image_model.specs.declared.damage.Damage.{Damage}
use Rattle.geometry.specs.Numbers.{page_count}
use Rattle.image_model.specs.Live.{live_at, Live, own}
use Rattle.image_model.specs.Places.{entry_of}
use Rattle.image_model.specs.Headers.{obj_id}
use Rattle.image_laws.specs.Changes.{Gains, Loses}
use Rattle.table_model.specs.Table.{File, put_file}
use Rattle.image_model.specs.Tables.{has_of, table_of, damaged_of}
use Rattle.image_model.specs.Files.{is_index, index_page, judged, found}
use Rattle.image_model.specs.Tidy.{serves, free_blocks}
use Rattle.image_laws.specs.NewFile.{IsBeforeOrAfter}
use Rattle.image_model.specs.Sound.{HasMagics, IsMixed}
use Rattle.image_laws.specs.TidySteps.{Agree, IsTidyBut}
use Rattle.image_laws.specs.Creating.{CutOf}
use Rattle.renew_laws.proofs.ReserveKept.{kill-reserve}
use Rattle.renew_laws.specs.OneId.{OneIdChanges}
use Rattle.image_laws.specs.LiveSteps.{PutLeaves, PutDone, KillLeaves}
use Rattle.image_laws.specs.Spares.{Spares, leftover}
use Rattle.renew_laws.specs.Replace.{Replaced}
use Rattle.renew_laws.specs.Renew.{RenewsTo, RenewCuts, RenewSpares}
use Rattle.image_laws.proofs.Append.{page_there}
use Rattle.image_laws.proofs.Publish.{either, own-before, own-after, own-others}
use Rattle.image_laws.proofs.Kill.{own-loses, own-loses_other}
use Rattle.image_laws.proofs.Tables.{own-gains_other}
use Rattle.image_laws.proofs.Judge.{IsHeadAtMost, judged-heads, retired, found_parts, index_passes, judged-keyed}
use Rattle.image_laws.proofs.Finish.{own-parts, records-changed}
use Rattle.image_laws.proofs.Undamaged.{undamaged-changed}
use Rattle.image_laws.proofs.Sounding.{sound-by, mixed-gains, mixed-from, loses-back, gains-undamaged}
use Rattle.image_laws.proofs.FreeBlocks.{free_blocks-fall}
use Rattle.renew_laws.proofs.HeadsServe.{serves-heads}
use Rattle.renew_laws.proofs.OneIdTidy.{one_id-spares}

module _ (g : Geometry) (a0 : List ℕ) (p o id : ℕ) (old head : List ℕ) (f : File) (start : RenewsTo g a0 p o id old head f) where
  within : p < page_count g
  within = page_number g p start.inside

  was0 : (live_at g a0 o ≡ Some old) × (obj_id old % 0x8000 ≡ id)
  was0 = own-parts (live_at g a0) id o old start.was

  -- ---- live pages with the new header page

  module _ (c : List ℕ) (agree : Agree g a0 c p) (gains : Gains p head (live_at g a0) (live_at g c)) where
    undamaged4 : damaged_of g c ≡ []
    unfolding damaged_of
    undamaged4 = gains-undamaged g a0 (live_at g c) p id head f within gains start.leads

    table4 : IsBeforeOrAfter g a0 f c
    unfolding table_of
    table4 = either g a0 (live_at g c) p id head f within gains start.leads

    mixed4 : (d : ℕ) → IsMixed g (live_at g c) d → IsMixed g (live_at g a0) d
    mixed4 = mixed-gains g (live_at g a0) (live_at g c) p head gains start.kind

    apart : o ≢ p
    apart e = none-some old (sym gains.before ∙ ap (live_at g a0) (sym e) ∙ was0.0)

    was4 : own (live_at g c) id o ≡ Some old
    was4 = own-others g a0 (live_at g c) p id head f within gains start.leads o apart ∙ start.was

    is4 : own (live_at g c) id p ≡ Some head
    is4 = own-after g a0 (live_at g c) p id head f within gains start.leads

    only4 : (r : ℕ) → is_index (own (live_at g c) id r) 0 ≡ true → r ≢ o → r ≡ p
    only4 r passes other =
        ⊎_elim
        (λ (here : r ≡ p). here)
        (λ (there : r ≡ p → ⊥). absurd (other (start.only r (rw (own-others g a0 (live_at g c) p id head f within gains start.leads r there) at passes))))
        (cases_eq r p)

    live4 : live_at g c o ≡ Some old
    live4 = gains.others o apart ∙ was0.0

    heads_before : IsHeadAtMost (own (live_at g a0) id p)
    heads_before = subst IsHeadAtMost (sym (own-before g a0 (live_at g c) p id head f within gains start.leads)) tt

    heads_after : IsHeadAtMost (own (live_at g c) id p)
    heads_after = subst IsHeadAtMost (sym is4) (start.leads.is_head.index, start.leads.is_head.first)

    judged4 : judged g (own (live_at g c) id) id head ≡ Ok f
    judged4 = judged-heads g p (own (live_at g a0) id) (own (live_at g c) id) (own-others g a0 (live_at g c) p id head f within gains start.leads) heads_before heads_after id head ∙ start.leads.file

    -- ---- and without the old one

    module _ (d : List ℕ) (then : Agree g c d o) (loses : Loses o (live_at g c) (live_at g d)) where
      mine : Loses o (own (live_at g c) id) (own (live_at g d) id)
      mine = own-loses o old (live_at g c) (live_at g d) live4 loses id

      found5 : found g (own (live_at g d) id) id ≡ Some (p, Ok f)
      found5 = retired g o (own (live_at g c) id) (own (live_at g d) id) (subst IsHeadAtMost (sym was4) (start.old_head.index, start.old_head.first)) mine.after mine.others
          id p head within (λ e. apart (sym e)) is4 start.leads.is_head.index start.leads.is_head.first only4
          ∙ ap (λ (r : Result File Damage). Some (p, r)) judged4

      others5 : (j : ℕ) → j ≢ id → own (live_at g d) j ≡ own (live_at g a0) j
      others5 j there = own-loses_other o old (live_at g c) (live_at g d) live4 loses j (λ e. there (sym e ∙ was0.1))
          ∙ own-gains_other p head (live_at g a0) (live_at g c) gains j (λ e. there (sym e ∙ start.leads.is_head.of))

      has5 : has_of g (live_at g d) id ≡ Some (p, Ok f)
      unfolding has_of
      has5 = found5

      has_others5 : (j : ℕ) → j ≢ id → has_of g (live_at g d) j ≡ has_of g (live_at g a0) j
      unfolding has_of
      has_others5 j there = ap (λ (pages : Live). found g pages j) (others5 j there)

      its : f.id ≡ id
      its = judged-keyed g (own (live_at g a0) id) id head f start.leads.file

      table5 : table_of g d ≡ put_file f (table_of g a0)
      unfolding table_of damaged_of
      table5 = records-changed g a0 (live_at g d) id p f start.leads.low start.leads.high start.leads.undamaged start.leads.unused its has5 has_others5

      undamaged5 : damaged_of g d ≡ []
      unfolding table_of damaged_of
      undamaged5 = undamaged-changed g a0 id f start.leads.low start.leads.high start.leads.undamaged start.leads.unused (live_at g d) p its has5 has_others5

      mixed5 : (k : ℕ) → IsMixed g (live_at g d) k → IsMixed g (live_at g a0) k
      mixed5 k m = mixed4 k (mixed-from g (live_at g c) (live_at g d) k (loses-back o (live_at g c) (live_at g d) loses) m)

      found_at : (x : List ℕ) × (index_page g (own (live_at g d) id) 0 ≡ Some p) × (own (live_at g d) id p ≡ Some x) × (judged g (own (live_at g d) id) id x ≡ Ok f)
      found_at = found_parts g (own (live_at g d) id) id p (Ok f) found5

      header5 : own (live_at g d) id p ≡ Some head
      header5 = mine.others p (λ e. apart (sym e)) ∙ is4

      file5 : judged g (own (live_at g d) id) id head ≡ Ok f
      file5 = subst (λ (x : List ℕ). judged g (own (live_at g d) id) id x ≡ Ok f) (same_Some found_at.0 head (sym found_at.2 ∙ header5)) found_at.3

      back5 : (r : ℕ) → r ≢ p → r ≢ o → own (live_at g d) id r ≡ own (live_at g a0) id r
      back5 r there apart' = mine.others r apart' ∙ own-others g a0 (live_at g c) p id head f within gains start.leads r there

      no_first : (r : ℕ) → r ≢ p → r ≢ o → index_page g (own (live_at g c) id) 0 ≢ Some r
      no_first r there apart' e = there (only4 r (index_passes g (own (live_at g c) id) 0 r e) apart')

      serves5 : (r : ℕ) → r ≢ p → r ≢ o → (v : Bool) → serves g (own (live_at g a0) id) head r ≡ v → serves g (own (live_at g d) id) head r ≡ v
      serves5 r there apart' v e =
          serves-heads g o (own (live_at g c) id) (own (live_at g d) id) mine.others (subst IsHeadAtMost (sym was4) (start.old_head.index, start.old_head.first)) (subst IsHeadAtMost (sym mine.after) tt) r
          (no_first r there apart') (λ k. there (same_Some r p (sym k ∙ found_at.1))) head
          ∙ serves-heads g p (own (live_at g a0) id) (own (live_at g c) id) (own-others g a0 (live_at g c) p id head f within gains start.leads) heads_before heads_after r
          (λ k. apart' (start.only r (index_passes g (own (live_at g a0) id) 0 r k))) (no_first r there apart') head
          ∙ e

      serves_head5 : serves g (own (live_at g d) id) head p ≡ true
      unfolding serves
      serves_head5 =
          let any = Rattle.image_laws.proofs.Damaged.any_from (λ (j : ℕ). Rattle.image_model.specs.Tidy.is_number (index_page g (own (live_at g d) id) j) p) 0 (Rattle.table_model.specs.Room.index_pages g (Rattle.image_model.specs.Headers.size_of head)) 0 (omega arith)
          (omega (arith, Rattle.image_laws.proofs.Wanted.header-below g (Rattle.image_model.specs.Headers.size_of head))) (rw found_at.1 (eq-eqb p p refl)) in
          rw any refl

      changes : (before spare : ℕ → Bool) → ((r : ℕ) → before r ≡ true → is_some (own (live_at g a0) id r) ≡ true) → entry_of g d o ≡ 0 →
          ((r : ℕ) (x : List ℕ) → r ≢ o → own (live_at g a0) id r ≡ Some x → (spare r ≡ true) ⊎ (serves g (own (live_at g a0) id) head r ≡ true)) →
          OneIdChanges g id p head f (λ r. before r || ((r == p) || (r == o))) spare a0 d
      changes before spare inside zero rest = record {
        low = start.leads.low;
        high = start.leads.high;
        magic = λ k. then.magic k ∙ agree.magic k;
        entry = λ r e out. let u : (before r ≡ false) × (((r == p) || (r == o)) ≡ false) = or_parts (before r) ((r == p) || (r == o)) out in let w = or_parts (r == p) (r == o) u.1 in
            then.entry r e (λ k. let y : (r == o) ≡ true = eq-eqb r o k in let n = w.1 in absurd (cc)) ∙ agree.entry r e (λ k. let y : (r == p) ≡ true = eq-eqb r p k in let n = w.0 in absurd (cc));
        bytes = λ r e out. let u : (before r ≡ false) × (((r == p) || (r == o)) ≡ false) = or_parts (before r) ((r == p) || (r == o)) out in let w = or_parts (r == p) (r == o) u.1 in
            then.page r e (λ k. let y : (r == o) ≡ true = eq-eqb r o k in let n = w.1 in absurd (cc)) ∙ agree.page r e (λ k. let y : (r == p) ≡ true = eq-eqb r p k in let n = w.0 in absurd (cc));
        others = others5;
        mixed = mixed5;
        at = found_at.1;
        header = header5;
        file = file5;
        unused = start.leads.unused;
        killed = λ r e yes none. ⊎_elim
            (λ (b : before r ≡ true).
            let x = page_there (own (live_at g a0) id r) (inside r b) in
            ⊎_elim
            (λ (gone : r ≡ o). inr (ap (entry_of g d) gone ∙ zero))
            (λ (left : r ≡ o → ⊥).
            let there : r ≢ p = λ k. none-some x.0 (sym (own-before g a0 (live_at g c) p id head f within gains start.leads) ∙ ap (own (live_at g a0) id) (sym k) ∙ x.1) in
            absurd (none-some x.0 (sym none ∙ back5 r there left ∙ x.1)))
            (cases_eq r o))
            (λ (w : ((r == p) || (r == o)) ≡ true). ⊎_elim
            (λ (x : (r == p) ≡ true). absurd (none-some head (sym none ∙ ap (own (live_at g d) id) (eqb-true r p x) ∙ header5)))
            (λ (x : (r == o) ≡ true). inr (ap (entry_of g d) (eqb-true r o x) ∙ zero))
            (or_cases (r == p) (r == o) w))
            (or_cases (before r) ((r == p) || (r == o)) yes);
        served = λ r x e. ⊎_elim
            (λ (here : r ≡ p). inr (ap (serves g (own (live_at g d) id) head) here ∙ serves_head5))
            (λ (there : r ≡ p → ⊥). ⊎_elim
            (λ (gone : r ≡ o). absurd (none-some x (sym mine.after ∙ ap (own (live_at g d) id) (sym gone) ∙ e)))
            (λ (left : r ≡ o → ⊥). ⊎_elim
            (λ (s : spare r ≡ true). inl s)
            (λ (s : serves g (own (live_at g a0) id) head r ≡ true). inr (serves5 r there left true s))
            (rest r x left (sym (back5 r there left) ∙ e)))
            (cases_eq r o))
            (cases_eq r p);
      }

      spared : (r : ℕ) → (not (r == o) && leftover g (own (live_at g a0) id) head r) ≡ true → (r ≢ o) × (r ≢ p) × (is_some (own (live_at g a0) id r) ≡ true) × (serves g (own (live_at g a0) id) head r ≡ false)
      unfolding leftover
      spared r e =
          let w : (not (r == o) ≡ true) × ((is_some (own (live_at g a0) id r) && not (serves g (own (live_at g a0) id) head r)) ≡ true) = and_parts (not (r == o)) _ e in
          let v : (is_some (own (live_at g a0) id r) ≡ true) × (not (serves g (own (live_at g a0) id) head r) ≡ true) = and_parts (is_some (own (live_at g a0) id r)) _ w.1 in (
            λ k. let yes : (r == o) ≡ true = eq-eqb r o k in let bad : false ≡ true = rw yes at w.0 in absurd (cc),
            λ k. let none : own (live_at g a0) id r ≡ None = ap (own (live_at g a0) id) k ∙ own-before g a0 (live_at g c) p id head f within gains start.leads in let bad : false ≡ true = rw none at v.0 in absurd (cc),
            v.0,
            ⊎_elim (λ (y : serves g (own (live_at g a0) id) head r ≡ true). let bad : false ≡ true = rw y at v.1 in absurd (cc)) (λ (n : serves g (own (live_at g a0) id) head r ≡ false). n) (cases_Bool (serves g (own (live_at g a0) id) head r)),
          )

      idle5 : (r : ℕ) (x : List ℕ) → (not (r == o) && leftover g (own (live_at g a0) id) head r) ≡ true → live_at g d r ≡ Some x → (obj_id x % 0x8000 ≡ id) × (serves g (own (live_at g d) id) head r ≡ false)
      idle5 r x e live =
          let w = spared r e in
          let y = page_there (own (live_at g a0) id r) w.2 in
          let z = own-parts (live_at g a0) id r y.0 y.1 in
          let same : x ≡ y.0 = same_Some x y.0 (sym live ∙ loses.others r w.0 ∙ gains.others r w.1 ∙ z.0) in
          (ap (λ (k : List ℕ). obj_id k % 0x8000) same ∙ z.1, serves5 r w.1 w.0 false w.3)

      covered : (r : ℕ) (x : List ℕ) → r ≢ o → own (live_at g a0) id r ≡ Some x → ((not (r == o) && leftover g (own (live_at g a0) id) head r) ≡ true) ⊎ (serves g (own (live_at g a0) id) head r ≡ true)
      unfolding leftover
      covered r x there e =
          ⊎_elim
          (λ (y : serves g (own (live_at g a0) id) head r ≡ true). inr y)
          (λ (n : serves g (own (live_at g a0) id) head r ≡ false). inl (rw (ne_eqb r o there) (rw (e, n) refl)))
          (cases_Bool (serves g (own (live_at g a0) id) head r))

  -- ---- the programs

  module _ (m : HasMagics g a0) where
    fall4 : (c : List ℕ) → Agree g a0 c p → free_blocks g a0 ≤ free_blocks g c + 1
    fall4 c h = (free_blocks-fall g a0 c p h).0

    cut_put : (c : List ℕ) → PutLeaves g p head a0 c → CutOf g a0 f c × (damaged_of g c ≡ [])
    cut_put c h =
        ⊎_elim
        (λ (same : live_at g c ≡ live_at g a0).
        let table : table_of g c ≡ table_of g a0 = Rattle.image_laws.proofs.Frames.table_of-same g c a0 (λ q. ap (λ (l : Live). l q) same) in
        let damaged : damaged_of g c ≡ damaged_of g a0 = Rattle.image_laws.proofs.Frames.damaged_of-same g c a0 (λ q. ap (λ (l : Live). l q) same) in (
          record { table = inl table; sound = sound-by g a0 c m h.agree.magic (λ d x. rw same at x) damaged; free = fall4 c h.agree },
          damaged ∙ start.leads.undamaged,
        ))
        (λ (gains : Gains p head (live_at g a0) (live_at g c)).
        let none = undamaged4 c h.agree gains in (
          record { table = table4 c h.agree gains; sound = sound-by g a0 c m h.agree.magic (mixed4 c h.agree gains) (none ∙ sym start.leads.undamaged); free = fall4 c h.agree },
          none,
        ))
        h.live

    cut_kill : (a4 c : List ℕ) → PutDone g p head a0 a4 → KillLeaves g o a4 c → CutOf g a0 f c × (damaged_of g c ≡ [])
    cut_kill a4 c put h =
        let live = live4 a4 put.agree put.gains in
        let free : free_blocks g a0 ≤ free_blocks g c + 1 =
        let one = fall4 a4 put.agree in
        let two = kill-reserve g a4 c o old live h.agree in omega (arith, one, two) in
        ⊎_elim
        (λ (same : live_at g c ≡ live_at g a4).
        let table : table_of g c ≡ table_of g a4 = Rattle.image_laws.proofs.Frames.table_of-same g c a4 (λ q. ap (λ (l : Live). l q) same) in
        let damaged : damaged_of g c ≡ damaged_of g a4 = Rattle.image_laws.proofs.Frames.damaged_of-same g c a4 (λ q. ap (λ (l : Live). l q) same) in
        let none : damaged_of g c ≡ [] = damaged ∙ undamaged4 a4 put.agree put.gains in (
          record {
            table = ⊎_elim (λ (x : table_of g a4 ≡ table_of g a0). inl (table ∙ x)) (λ (x : table_of g a4 ≡ put_file f (table_of g a0)). inr (table ∙ x)) (table4 a4 put.agree put.gains);
            sound = sound-by g a0 c m (λ d. h.agree.magic d ∙ put.agree.magic d) (λ d x. mixed4 a4 put.agree put.gains d (rw same at x)) (none ∙ sym start.leads.undamaged);
            free = free;
          },
          none,
        ))
        (λ (loses : Loses o (live_at g a4) (live_at g c)).
        let none = undamaged5 a4 put.agree put.gains c h.agree loses in (
          record {
            table = inr (table5 a4 put.agree put.gains c h.agree loses);
            sound = sound-by g a0 c m (λ d. h.agree.magic d ∙ put.agree.magic d) (mixed5 a4 put.agree put.gains c h.agree loses) (none ∙ sym start.leads.undamaged);
            free = free;
          },
          none,
        ))
        h.live

pub renew-cuts : (g : Geometry) → RenewCuts g
renew-cuts g a c p o id old head f start m cut =
    ⊎_elim
    (λ (x : PutLeaves g p head a c). cut_put g a p o id old head f start m c x)
    (λ (x : (b : List ℕ) × PutDone g p head a b × KillLeaves g o b c). cut_kill g a p o id old head f start m x.0 c x.1 x.2)
    cut

-- what the new header page does not need is spare, and serves no file
pub renewed-spares : (g : Geometry) (a b : List ℕ) (p o id : ℕ) (old head : List ℕ) (f : File) (before : ℕ → Bool) → RenewsTo g a p o id old head f → Replaced g p o head a b → IsTidyBut g a before →
    ((r : ℕ) → before r ≡ true → is_some (own (live_at g a) id r) ≡ true) →
    Spares g (λ r. not (r == o) && leftover g (own (live_at g a) id) head r) b × (table_of g b ≡ put_file f (table_of g a))
renewed-spares g a b p o id old head f before start all t inside =
    let put = all.put in
    let kill = all.kill in
    one_id-spares g a b id p head f before (λ (r : ℕ). before r || ((r == p) || (r == o))) (λ (r : ℕ). not (r == o) && leftover g (own (live_at g a) id) head r) t (λ r e. rw e refl)
    (changes g a p o id old head f start all.middle put.agree put.gains b kill.agree kill.loses before (λ (r : ℕ). not (r == o) && leftover g (own (live_at g a) id) head r) inside kill.zero
    (covered g a p o id old head f start all.middle put.agree put.gains b kill.agree kill.loses))
    (idle5 g a p o id old head f start all.middle put.agree put.gains b kill.agree kill.loses)

pub renew-spares : (g : Geometry) → RenewSpares g
renew-spares g a b p o id old head f before start all t inside =
    let w = renewed-spares g a b p o id old head f before start all t inside in
    (inr w.0, w.1)

-- the new header page is the one of the file
pub renewed_head : (g : Geometry) (a b : List ℕ) (p o id : ℕ) (old head : List ℕ) (f : File) → RenewsTo g a p o id old head f → Replaced g p o head a b →
    (index_page g (own (live_at g b) id) 0 ≡ Some p) × (own (live_at g b) id p ≡ Some head)
renewed_head g a b p o id old head f start all = (
  (found_at g a p o id old head f start all.middle all.put.agree all.put.gains b all.kill.agree all.kill.loses).1,
  header5 g a p o id old head f start all.middle all.put.agree all.put.gains b all.kill.agree all.kill.loses,
)
