-- Killing pages that are not wanted leaves the others as wanted as they were.
use Rattle.std.proofs.Common.{◌≡◌, ◌≢◌, ℕ, ◌+◌, ◌*◌, ◌%◌, ◌<◌, List, slice_index, true, false, not, ◌&&◌, Some, ap, refl, sym, ◌∙◌, arith, ⊎_elim, subst}
use Rattle.std.specs.Prelude.{is_some}
use Rattle.std.specs.List.{range_with_len, list_any}
use Rattle.std.proofs.lemmas.Bool.{cases_eq, cases_Bool, and_parts, or_parts, or_cases, or_right}
use Rattle.geometry.specs.declared.geometry.Geometry.{Geometry}
use Rattle.image_model.specs.Within.{sizes}
use Rattle.geometry.specs.Numbers.{page_count}
use Rattle.table_model.specs.Room.{index_pages, data_pages}
use Rattle.image_model.specs.Live.{live_at, Live, own}
use Rattle.image_model.specs.Headers.{obj_id, size_of}
use Rattle.image_model.specs.Places.{entry_of, is_entry_page}
use Rattle.image_laws.specs.Changes.{Loses}
use Rattle.image_model.specs.Files.{index_page, entry_number, data_of}
use Rattle.image_model.specs.Tables.{has_of, counted}
use Rattle.image_model.specs.Tidy.{is_number, serves, is_wanted, is_wanted_as}
use Rattle.image_laws.specs.Programs.{IsIdle}
use Rattle.image_laws.specs.TidySteps.{Agree}
use Rattle.image_laws.specs.Kills.{KillCounts, UnwantedLeaves}
use Rattle.image_model.specs.Killed.{is_killable, is_used, killed_of}
use Rattle.image_laws.proofs.Damaged.{any_at, any_from, same_truth}
use Rattle.image_laws.proofs.Records.{list_any-at}
use Rattle.image_model.specs.Within.{page_number}
use Rattle.image_laws.proofs.Frames.{live_parts}
use Rattle.image_laws.proofs.Bits.{one_bit_image}
use Rattle.image_laws.proofs.Kill.{killing-loses, own-loses, own-loses_other, has_of-loses, index-loses, entry-loses}
use Rattle.image_laws.proofs.Wanted.{number-other, unwanted-idle}
use Rattle.image_laws.proofs.Wants.{wanted_parts, wanted_from, wanted-loses}
use Rattle.image_laws.proofs.DeadEntries.{filter-one, and_false}

module _ (g : Geometry) (p : ℕ) (pages now : Live) (change : Loses p pages now) (idle : IsIdle g pages p) (h : ℕ) (head : List ℕ)
    (at : index_page g now 0 ≡ Some h) (header : now h ≡ Some head) (unserved : (hd : List ℕ) → index_page g pages 0 ≡ Some h → pages h ≡ Some hd → serves g pages hd p ≡ false) where
  at-before : index_page g pages 0 ≡ Some h
  at-before = sym (index-loses g p pages now change 0 idle.no_header) ∙ at

  header-before : pages h ≡ Some head
  header-before = sym (change.others h (λ e. idle.no_header (at-before ∙ ap (λ (x : ℕ). Some x) e))) ∙ header

  serves-before : (q : ℕ) → q ≢ p → serves g now head q ≡ true → serves g pages head q ≡ true
  unfolding serves
  serves-before q there e =
      let w = or_parts _ _ (unserved head at-before header-before) in
      ⊎_elim
      (λ (index : list_any (λ (j : ℕ). is_number (index_page g now j) q) (range_with_len 0 (index_pages g (size_of head))) ≡ true).
      let v = any_at (λ (j : ℕ). is_number (index_page g now j) q) 0 (index_pages g (size_of head)) index in
      let other : index_page g pages v.0 ≢ Some p = number-other (index_page g pages v.0) p (list_any-at (λ (j : ℕ). is_number (index_page g pages j) p) 0 (index_pages g (size_of head)) w.0 v.0 v.1 v.2) in
      let any : list_any (λ (j : ℕ). is_number (index_page g pages j) q) (range_with_len 0 (index_pages g (size_of head))) ≡ true =
      any_from (λ (j : ℕ). is_number (index_page g pages j) q) 0 (index_pages g (size_of head)) v.0 v.1 v.2 (rw (sym (index-loses g p pages now change v.0 other)) v.3) in
      rw any refl)
      (λ (page : list_any (λ (span : ℕ). is_number (entry_number g now head span) q && is_some (data_of (now q) span)) (range_with_len 0 (data_pages g (size_of head))) ≡ true).
      let v = any_at (λ (span : ℕ). is_number (entry_number g now head span) q && is_some (data_of (now q) span)) 0 (data_pages g (size_of head)) page in
      let free = idle.no_page h head at-before header-before v.0 (omega (arith, v.2)) in
      or_right _ _ (any_from (λ (span : ℕ). is_number (entry_number g pages head span) q && is_some (data_of (pages q) span)) 0 (data_pages g (size_of head)) v.0 v.1 v.2
      (rw (sym (entry-loses g p pages now change head v.0 free.0), sym (change.others q there)) v.3)))
      (or_cases _ _ e)

module _ (g : Geometry) (p : ℕ) (page : List ℕ) (old new : Live) (was : old p ≡ Some page) (change : Loses p old new) (idle : IsIdle g (own old (obj_id page % 0x8000)) p)
    (unserved : (h : ℕ) (hd : List ℕ) → index_page g (own old (obj_id page % 0x8000)) 0 ≡ Some h → own old (obj_id page % 0x8000) h ≡ Some hd → serves g (own old (obj_id page % 0x8000)) hd p ≡ false) where
  wanted-before : (q : ℕ) → q ≢ p → is_wanted_as g new (new q) q ≡ true → is_wanted_as g old (old q) q ≡ true
  wanted-before q there e =
      let w = wanted_parts g new q e in
      let has : has_of g new ≡ has_of g old = has_of-loses p page old new was change g idle in
      let i = w.in_table in
      let counts : is_some (counted (has_of g old) 0x7FFF (has_of g old (obj_id w.page % 0x8000))) ≡ true = rw has at i in
      ⊎_elim
      (λ (same : obj_id page % 0x8000 ≡ obj_id w.page % 0x8000).
      let mine : Loses p (own old (obj_id w.page % 0x8000)) (own new (obj_id w.page % 0x8000)) = own-loses p page old new was change (obj_id w.page % 0x8000) in
      let idle' : IsIdle g (own old (obj_id w.page % 0x8000)) p = subst (λ (k : ℕ). IsIdle g (own old k) p) same idle in
      let un : (hd : List ℕ) → index_page g (own old (obj_id w.page % 0x8000)) 0 ≡ Some w.h → own old (obj_id w.page % 0x8000) w.h ≡ Some hd → serves g (own old (obj_id w.page % 0x8000)) hd p ≡ false =
      subst (λ (k : ℕ). (hd : List ℕ) → index_page g (own old k) 0 ≡ Some w.h → own old k w.h ≡ Some hd → serves g (own old k) hd p ≡ false) same (unserved w.h) in
      wanted_from g old q (record {
        page = w.page;
        h = w.h;
        head = w.head;
        is = sym (change.others q there) ∙ w.is;
        in_table = counts;
        at = at-before g p (own old (obj_id w.page % 0x8000)) (own new (obj_id w.page % 0x8000)) mine idle' w.h w.head w.at w.header un;
        header = header-before g p (own old (obj_id w.page % 0x8000)) (own new (obj_id w.page % 0x8000)) mine idle' w.h w.head w.at w.header un;
        served = serves-before g p (own old (obj_id w.page % 0x8000)) (own new (obj_id w.page % 0x8000)) mine idle' w.h w.head w.at w.header un q there w.served;
      }))
      (λ (other : obj_id page % 0x8000 ≡ obj_id w.page % 0x8000 → ⊥).
      let pages : own old (obj_id w.page % 0x8000) ≡ own new (obj_id w.page % 0x8000) = sym (own-loses_other p page old new was change (obj_id w.page % 0x8000) other) in
      wanted_from g old q (record {
        page = w.page;
        h = w.h;
        head = w.head;
        is = sym (change.others q there) ∙ w.is;
        in_table = counts;
        at = rw pages w.at;
        header = rw pages w.header;
        served = rw pages w.served;
      }))
      (cases_eq (obj_id page % 0x8000) (obj_id w.page % 0x8000))

  pub wanted-as_before : (q : ℕ) → q ≢ p → is_wanted_as g new (new q) q ≡ is_wanted_as g old (old q) q
  wanted-as_before q there = same_truth _ _ (wanted-before q there) (wanted-loses g p page old new was change idle q there)

pub unwanted-leaves : (g : Geometry) → UnwantedLeaves g
unfolding is_wanted
unwanted-leaves g a b p flags page is live unwanted in_table clears torn q there =
    let big : 9 < g.page = omega (arith, (sizes g).page) in
    let idle = unwanted-idle g a p page live unwanted in_table in
    let unserved : (h : ℕ) (hd : List ℕ) → index_page g (own (live_at g a) (obj_id page % 0x8000)) 0 ≡ Some h → own (live_at g a) (obj_id page % 0x8000) h ≡ Some hd → serves g (own (live_at g a) (obj_id page % 0x8000)) hd p ≡ false = λ h hd e k.
    ⊎_elim
    (λ (yes : serves g (own (live_at g a) (obj_id page % 0x8000)) hd p ≡ true).
    let wanted : is_wanted_as g (live_at g a) (live_at g a p) p ≡ true = wanted_from g (live_at g a) p (record { page = page; h = h; head = hd; is = live; in_table = in_table; at = e; header = k; served = yes }) in
    let bad : true ≡ false = sym wanted ∙ unwanted in absurd (cc))
    (λ (none : serves g (own (live_at g a) (obj_id page % 0x8000)) hd p ≡ false). none)
    (cases_Bool (serves g (own (live_at g a) (obj_id page % 0x8000)) hd p)) in
    ⊎_elim
    (λ (same : b ≡ a). ap (λ (x : List ℕ). is_wanted_as g (live_at g x) (live_at g x q) q) same)
    (λ (done : slice_index b (p * g.page + 4) ≡ flags).
    wanted-as_before g p page (live_at g a) (live_at g b) live (killing-loses g a b p flags is (live_parts g a p page live).entry_page clears.cleared torn done) idle unserved q there)
    (one_bit_image 7 (p * g.page + 4) flags a b clears torn)

used-same : (g : Geometry) (a b : List ℕ) (p : ℕ) → Agree g a b p → (q : ℕ) → q ≢ p → is_used g b q ≡ is_used g a q
unfolding is_used
used-same g a b p agree q there =
    ⊎_elim
    (λ (yes : is_entry_page g q ≡ true). rw (agree.magic (Rattle.image_model.specs.Places.block_of g q), agree.entry q yes there, agree.page q yes there) refl)
    (λ (none : is_entry_page g q ≡ false). rw none refl)
    (cases_Bool (is_entry_page g q))

used_page : (g : Geometry) (a : List ℕ) (p : ℕ) → is_used g a p ≡ true → is_entry_page g p ≡ true
unfolding is_used
used_page g a p h = let v = and_parts _ _ h in let u = and_parts _ _ v.0 in (and_parts _ _ u.0).0

unused : (g : Geometry) (b : List ℕ) (p : ℕ) → entry_of g b p ≡ 0 → is_used g b p ≡ false
unfolding is_used
unused g b p e = rw e (and_false _ _)

pub kill-counts : (g : Geometry) → KillCounts g
unfolding killed_of
kill-counts g a b p is agree killable zero wants =
    let w : (is_used g a p ≡ true) × (not (is_wanted g a p) ≡ true) = and_parts (is_used g a p) (not (is_wanted g a p)) killable in
    filter-one (λ (q : ℕ). is_killable g a q) (λ (q : ℕ). is_killable g b q) p 0 (page_count g) (omega arith) (omega (arith, page_number g p (used_page g a p w.0))) killable (rw (unused g b p zero) refl)
    (λ q there. rw (used-same g a b p agree q there, wants q there) refl)
