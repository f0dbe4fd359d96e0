-- The header page of a new file: its cuts, and the image after it.
use Rattle.std.proofs.Common.{◌≡◌, ℕ, ◌+◌, ◌<◌, ◌≤◌, List, [], Bool, ap, sym, ◌∙◌, ⊎_elim, inl, inr}
use Rattle.std.proofs.lemmas.Option.{none-some}
use Rattle.geometry.specs.declared.geometry.Geometry.{Geometry}
use Rattle.table_model.specs.Table.{File, put_file}
use Rattle.geometry.specs.Numbers.{page_count}
use Rattle.image_model.specs.Within.{page_number}
use Rattle.image_model.specs.Live.{Live, live_at, own}
use Rattle.image_model.specs.Tables.{table_of, damaged_of}
use Rattle.image_model.specs.Tidy.{is_wanted, free_blocks}
use Rattle.image_laws.specs.Changes.{Gains}
use Rattle.image_laws.specs.TidySteps.{Agree, IsTidyBut}
use Rattle.image_laws.proofs.Finish.{records-changed}
use Rattle.image_laws.proofs.Frames.{table_of-same, damaged_of-same}
use Rattle.image_laws.proofs.FreeBlocks.{free_blocks-fall}
use Rattle.image_laws.proofs.Judge.{judged-keyed}
use Rattle.image_laws.proofs.Sounding.{sound-by, keeps-by_live, mixed-gains, gains-undamaged}
use Rattle.image_laws.proofs.TidySteps.{entries-but}
use Rattle.image_laws.proofs.Wants.{wanted-gains, wanted-new}
use Rattle.renew_laws.specs.NewHead.{IsNewHead, NewHeadCuts, NewHeadTidies}
use Rattle.image_laws.proofs.MixedBlocks.{unmixed-from, mixed-none}
use Rattle.image_laws.proofs.Publish as publish

module _ (g : Geometry) (a : List ℕ) (p id : ℕ) (head : List ℕ) (f : File) (start : IsNewHead g a p id head f) where
  within : p < page_count g
  within = page_number g p start.inside

  module _ (c : List ℕ) (agree : Agree g a c p) (gains : Gains p head (live_at g a) (live_at g c)) where
    undamaged : damaged_of g c ≡ []
    unfolding damaged_of
    undamaged = gains-undamaged g a (live_at g c) p id head f within gains start.leads

    puts : table_of g c ≡ put_file f (table_of g a)
    unfolding table_of damaged_of
    puts =
        records-changed g a (live_at g c) id p f start.leads.low start.leads.high start.leads.undamaged start.leads.unused (judged-keyed g (own (live_at g a) id) id head f start.leads.file)
        (publish.first g a (live_at g c) p id head f within gains start.leads (λ q k. absurd (none-some q (sym start.none ∙ k)))) (publish.others-same g a (live_at g c) p id head f within gains start.leads)

    tidy : (spare : ℕ → Bool) → IsTidyBut g a spare → IsTidyBut g c spare
    unfolding is_wanted
    tidy spare t = record {
      magic = λ b low. agree.magic b ∙ t.magic b low;
      entries = entries-but g a c p spare spare agree t (λ q there s. s)
          (λ q there w. wanted-gains g a (live_at g c) p id head f within gains start.leads start.none q there w)
          (inr (inr (inr (wanted-new g a (live_at g c) p id head f within gains start.leads start.none))));
      undamaged = undamaged;
      unmixed = unmixed-from g (live_at g c) (λ d m. mixed-none g (live_at g a) t.unmixed d (mixed-gains g (live_at g a) (live_at g c) p head gains start.kind d m));
    }

pub new_head-cuts : (g : Geometry) → NewHeadCuts g
new_head-cuts g a c p id head f start m put =
    let free : free_blocks g a ≤ free_blocks g c + 1 = (free_blocks-fall g a c p put.agree).0 in
    ⊎_elim
    (λ (same : live_at g c ≡ live_at g a).
    let live : (q : ℕ) → live_at g c q ≡ live_at g a q = λ q. ap (λ (l : Live). l q) same in (
      record { table = inl (table_of-same g c a live); sound = (keeps-by_live g a c m put.agree.magic live).sound; free = free },
      damaged_of-same g c a live ∙ start.leads.undamaged,
    ))
    (λ (gains : Gains p head (live_at g a) (live_at g c)).
    let none = undamaged g a p id head f start c put.agree gains in (
      record {
        table = inr (puts g a p id head f start c put.agree gains);
        sound = sound-by g a c m put.agree.magic (mixed-gains g (live_at g a) (live_at g c) p head gains start.kind) (none ∙ sym start.leads.undamaged);
        free = free;
      },
      none,
    ))
    put.live

pub new_head-tidies : (g : Geometry) → NewHeadTidies g
new_head-tidies g a b p id head f spare start put t = (tidy g a p id head f start b put.agree put.gains spare t, puts g a p id head f start b put.agree put.gains)
