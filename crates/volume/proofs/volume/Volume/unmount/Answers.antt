use Rattle.std.proofs.Common.{◌≡◌, true, false, refl, sym, ◌∙◌, ap, ⊎_elim}
use Rattle.page_cache.proofs.Held.{few_none}
use Rattle.flash_view.proofs.Behind.{behind_none}
use Rattle.volume.specs.declared.stage.Stage.TheVariants.{Unmounted, Mounted}
use Rattle.volume.specs.Opening.{is_open, is_failed}
use Rattle.volume.proofs.RunSettling.{unmounts_closed, unmounts_open}
use Rattle.volume.proofs.volume.Volume.unmount.Goals.{in-Failed, in-Checked, in-Unmounted}
use Rattle.volume.proofs.volume.Volume.unmount.Goals as goal

pub returns-clause-unmounts : goal.returns-clause-unmounts
returns-clause-unmounts g c = elim c.match-self.branch [
  | in-Failed w ↦ rw (w.self-is, w.last-is) (unmounts_closed c.args.self _ (ap is_open w.in-Failed.is) (λ e. cc) (λ d e. cc) (λ e. refl) (λ e. absurd (let no : true ≡ false = sym (ap is_failed w.in-Failed.is) ∙ e in cc)))
  | in-Checked w ↦ let takes : is_open c.args.self.stage ≡ true = ap is_open w.in-Checked.is in rw (w.self-is, w.last-is) (unmounts_open w.settle-last.result takes (w.settle-last.ensures.settled takes))
  | in-Unmounted w ↦
      let shut : is_open c.args.self.stage ≡ false = ⊎_elim (λ (e : c.args.self.stage ≡ Unmounted). ap is_open e) (λ (e : c.args.self.stage ≡ Mounted). ap is_open e) w.in-Unmounted.is in
      let whole : is_failed c.args.self.stage ≡ false = ⊎_elim (λ (e : c.args.self.stage ≡ Unmounted). ap is_failed e) (λ (e : c.args.self.stage ≡ Mounted). ap is_failed e) w.in-Unmounted.is in
      rw (w.self-is, w.last-is) (unmounts_closed c.args.self _ shut (λ e. cc) (λ d e. cc) (λ e. absurd (let no : true ≡ false = sym e ∙ whole in cc)) (λ e. refl))
]

pub returns-clause-behind : goal.returns-clause-behind
returns-clause-behind g c = elim c.match-self.branch [
  | in-Failed w ↦ rw w.self-is (behind_none c.args.self.geometry c.args.self.nor.now)
  | in-Checked w ↦ let takes : is_open c.args.self.stage ≡ true = ap is_open w.in-Checked.is in rw w.self-is (w.settle-last.ensures.settled takes).settles.same.behind
  | in-Unmounted w ↦ rw w.self-is (behind_none c.args.self.geometry c.args.self.nor.now)
]

pub returns-clause-few : goal.returns-clause-few
returns-clause-few g c = elim c.match-self.branch [
  | in-Failed w ↦ rw w.self-is (few_none c.args.self.geometry c.args.self.nor.now c.args.self.cache.now)
  | in-Checked w ↦ let takes : is_open c.args.self.stage ≡ true = ap is_open w.in-Checked.is in rw w.self-is (w.settle-last.ensures.settled takes).settles.same.few
  | in-Unmounted w ↦ rw w.self-is (few_none c.args.self.geometry c.args.self.nor.now c.args.self.cache.now)
]
