-- The turns of a block's entries one after the other, over plain images.
use Rattle.std.proofs.Common.{◌≡◌, ℕ, ◌+◌, ◌*◌, ◌<◌, ◌≤◌, ◌⊎◌, ⊎_elim, inl, inr, List, true, Some, None, refl, subst, sym, ◌∙◌, arith}
use Rattle.std.specs.Prelude.{Option}
use Rattle.std.proofs.lemmas.Bool.{cases_eq, cases_lt}
use Rattle.std.proofs.lemmas.Option.{none-some}
use Rattle.geometry.specs.declared.geometry.Geometry.{Geometry}
use Rattle.geometry.specs.Numbers.{per_block, lookups, entries, page_count}
use Rattle.image_model.specs.Within.{entry_of_block}
use Rattle.image_model.specs.Live.{live_at}
use Rattle.image_model.specs.Places.{block_of, IsImage}
use Rattle.image_model.specs.Kinds.{is_index_page, is_data_page}
use Rattle.image_laws.proofs.Frames.{live_parts}
use Rattle.image_laws.proofs.Sounding.{keeps-on}
use Rattle.flash_view.specs.Steps.{Step, Begins, Finishes}
use Rattle.block_gc.specs.Turns.{CanEmpty, TurnCut, TurnDone, moving_index, moving_batch, turning_entry, Emptied, emptying}
use Rattle.block_gc.proofs.IndexOut.{turn_stays}
use Rattle.block_gc.proofs.Replacing.{counts_then}

-- ---- one turn

-- an entry whose page isn't live is passed over
pub turn_passes : (g : Geometry) (a : List ℕ) (block most p : ℕ) → IsImage g a → live_at g a p ≡ None → CanEmpty g a block → TurnDone g block p a a
turn_passes g a block most p is dead can = record {
  keeps = (turn_stays g a block most is can).keeps;
  can = can;
  gone = dead;
  others = λ q x here live. live;
  between = λ first so_far. so_far;
  tails = λ id ready. ready;
  counts = λ c inside. refl;
}

pub index_turn : (g : Geometry) (a : List ℕ) (block most p : ℕ) → 1 ≤ most → is_index_page (live_at g a p) ≡ true → CanEmpty g a block → Finishes g a a (moving_index block p) (turning_entry block most p)
index_turn g a block most p one index can = record {
  needs = record { can = can; index = index };
  cut = λ c cut. record { keeps = cut.keeps; mends = λ first may few between. cut.mends first may (omega (arith, few, one)) between };
  done = λ c ok done. done;
}

pub batch_turn : (g : Geometry) (a : List ℕ) (block most p : ℕ) → is_data_page (live_at g a p) ≡ true → CanEmpty g a block → Finishes g a a (moving_batch block most p) (turning_entry block most p)
batch_turn g a block most p is_data can = record { needs = record { can = can; is_data = is_data }; cut = λ c cut. cut; done = λ c ok done. done }

-- ---- turn after turn

-- the turns of the first n entries of the block
abbrev pub emptying_to : (block most n : ℕ) → Step (Unit {0})
emptying_to block most n = record { needs = λ g was. CanEmpty g was block; cut = λ g was image. TurnCut g block most was image; done = λ g was now ok. Emptied g block (block * per_block g + lookups g + n) was now }

-- no page of a block is live before its entry pages, or behind them
dead_around : (g : Geometry) (a : List ℕ) (block q : ℕ) → block_of g q ≡ block → (q < block * per_block g + lookups g) ⊎ (block * per_block g + lookups g + entries g ≤ q) → live_at g a q ≡ None
dead_around g a block q here around = dead (live_at g a q) refl
  where
    dead : (o : Option (List ℕ)) → live_at g a q ≡ o → live_at g a q ≡ None
    dead None e = e
    dead (Some x) e =
        let w : (block * per_block g + lookups g ≤ q) × (q < block * per_block g + lookups g + entries g) = rw here at (entry_of_block g q (live_parts g a q x e).entry_page) in
        absurd (⊎_elim
        (λ (low : q < block * per_block g + lookups g). omega (arith, low, w.0))
        (λ (high : block * per_block g + lookups g + entries g ≤ q). omega (arith, high, w.1))
        around)

pub none_turned : (g : Geometry) (a : List ℕ) (block most : ℕ) → IsImage g a → CanEmpty g a block → TurnCut g block most a a × Emptied g block (block * per_block g + lookups g + 0) a a
none_turned g a block most is can =
    let stays = turn_stays g a block most is can in
    (stays, record { keeps = stays.keeps; can = can; gone = λ q here below. dead_around g a block q here (inl (omega (arith, below))); between = λ first so_far. so_far; tails = λ id ready. ready; counts = λ c inside. refl })

pub turns_begin : (g : Geometry) (a : List ℕ) (block most n k : ℕ) → CanEmpty g a block → Begins g a (emptying_to block most n) (emptying_to block most k)
turns_begin g a block most n k can = record { needs = can; cut = λ c cut. cut }

pub turns_pass : (g : Geometry) (a : List ℕ) (block most n : ℕ) → CanEmpty g a block → Begins g a (emptying_to block most n) (emptying block most)
turns_pass g a block most n can = record { needs = can; cut = λ c cut. cut }

-- a page of the block that isn't live stays so
still_dead : (g : Geometry) (block p : ℕ) (a b : List ℕ) → TurnDone g block p a b → (q : ℕ) → block_of g q ≡ block → live_at g a q ≡ None → live_at g b q ≡ None
still_dead g block p a b turn q here dead = by (live_at g b q) refl
  where
    by : (o : Option (List ℕ)) → live_at g b q ≡ o → live_at g b q ≡ None
    by None e = e
    by (Some x) e = absurd (none-some x (sym dead ∙ turn.others q x here e))

emptied_on : (g : Geometry) (block p : ℕ) (first a b : List ℕ) → Emptied g block p first a → TurnDone g block p a b → Emptied g block (p + 1) first b
emptied_on g block p first a b so_far turn = record {
  keeps = keeps-on g first a b so_far.keeps turn.keeps;
  can = turn.can;
  gone = λ q here low. ⊎_elim
      (λ (last : q ≡ p). rw last turn.gone)
      (λ (other : q ≡ p → ⊥). still_dead g block p a b turn q here (so_far.gone q here (omega (arith, low, other))))
      (cases_eq q p);
  between = λ f so. turn.between f (so_far.between f so);
  tails = λ id ready. turn.tails id (so_far.tails id ready);
  counts = counts_then g first a b so_far.counts turn.counts;
}

-- a cut in a turn
cut_on : (g : Geometry) (block most p : ℕ) (first a x : List ℕ) → Emptied g block p first a → TurnCut g block most a x → TurnCut g block most first x
cut_on g block most p first a x so_far cut = record {
  keeps = keeps-on g first a x so_far.keeps cut.keeps;
  mends = λ f may few so. cut.mends f may few (so_far.between f so);
}

pub next_turn : (g : Geometry) (first a : List ℕ) (block most p n : ℕ) → p ≡ block * per_block g + lookups g + n → block * per_block g + lookups g + (n + 1) ≡ block * per_block g + lookups g + n + 1 →
    Emptied g block (block * per_block g + lookups g + n) first a → Finishes g first a (turning_entry block most p) (emptying_to block most (n + 1))
next_turn g first a block most p n here next so_far =
    rw here
    (record {
      needs = so_far.can;
      cut = λ c cut. cut_on g block most (block * per_block g + lookups g + n) first a c so_far cut;
      done = λ c ok done. subst (λ (k : ℕ). Emptied g block k first c) (sym next) (emptied_on g block (block * per_block g + lookups g + n) first a c so_far done);
    })

emptied_end : (g : Geometry) (block p n : ℕ) (first a : List ℕ) → block * per_block g + lookups g + entries g ≤ p → Emptied g block p first a → Emptied g block n first a
emptied_end g block p n first a all so_far = record {
  keeps = so_far.keeps;
  can = so_far.can;
  gone = λ q here low. ⊎_elim (λ (below : q < p). so_far.gone q here below) (λ (high : p ≤ q). dead_around g a block q here (inr (omega (arith, high, all)))) (cases_lt q p);
  between = so_far.between;
  tails = so_far.tails;
  counts = so_far.counts;
}

pub turns_end : (g : Geometry) (a : List ℕ) (block most n : ℕ) → entries g ≤ n → CanEmpty g a block → Finishes g a a (emptying_to block most n) (emptying block most)
turns_end g a block most n all can = record { needs = can; cut = λ c cut. cut; done = λ c ok so_far. emptied_end g block (block * per_block g + lookups g + n) (page_count g) a c (omega (arith, all)) so_far }
