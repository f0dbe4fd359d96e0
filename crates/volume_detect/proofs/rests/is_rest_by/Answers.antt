use Rattle.std.proofs.Common.{ℕ, ◌≡◌, ◌+◌, ◌-◌, ◌*◌, refl, sym, ap, ◌∙◌, subst}
use Rattle.std.proofs.lemmas.Bool.{not-true, not-false}
use Rattle.volume_detect.specs.Marks.{HasNoWideGap, widest_gap}
use Rattle.volume_detect.specs.Rows.{is_marked}
use Rattle.volume_detect.proofs.Longer.{last_inside, not_marked, not_narrow}
use Rattle.volume_detect.proofs.rests.is_rest_by.Goals as goal

pub has_wide_gap-requires-clause-inside : goal.has_wide_gap-requires-clause-inside
has_wide_gap-requires-clause-inside c =
    let made = c.in-Some.ensures.made in
    last_inside c.args.first c.args.step c.args.g.now.blocks c.args.more c.in-Some.longer.blocks _ (made.blocks_is ∙ ap (λ (n : ℕ). n + c.args.more) c.blocks-2.ensures) c.args.g.now.valid.some_blocks c.if-first-before.false c.requires.inside

pub returns-then-is_marked-clause-rest : goal.returns-then-is_marked-clause-rest
returns-then-is_marked-clause-rest c = λ yes.
    let made = c.in-Some.ensures.made in
    let h = c.in-Some.longer in
    let wide : c.widest_gap.result ≡ widest_gap h.magic = c.widest_gap.ensures.gap ∙ ap widest_gap (sym made.magic_is) in
    record {
      longer = h;
      inside = c.if-first-before.false;
      same = record { page = made.page_is ∙ c.page.ensures; block = made.block_is ∙ c.block.ensures; phys = made.phys_is ∙ c.block.ensures ∙ sym c.requires.phys; meta = made.meta_is ∙ sym c.requires.meta; magic = made.magic_is };
      blocks = made.blocks_is ∙ ap (λ (n : ℕ). n + c.args.more) c.blocks-2.ensures;
      marked = sym c.is_marked.ensures ∙ c.if-is_marked.true;
      gaps = subst (λ (x : ℕ). HasNoWideGap (is_marked c.args.words.now (c.args.first - c.args.step * c.args.more) c.args.step h) x h.blocks) wide (c.has_wide_gap.ensures.none (not-true _ yes));
    }

pub returns-then-is_marked-clause-none : goal.returns-then-is_marked-clause-none
returns-then-is_marked-clause-none c = λ no rest.
    let made = c.in-Some.ensures.made in
    let h = c.in-Some.longer in
    let wide : c.widest_gap.result ≡ widest_gap h.magic = c.widest_gap.ensures.gap ∙ ap widest_gap (sym made.magic_is) in
    not_narrow c.args.words.now c.args.first c.args.step c.args.g.now h c.args.more
    (record { page = made.page_is ∙ c.page.ensures; block = made.block_is ∙ c.block.ensures; phys = made.phys_is ∙ c.block.ensures ∙ sym c.requires.phys; meta = made.meta_is ∙ sym c.requires.meta; magic = made.magic_is })
    (made.blocks_is ∙ ap (λ (n : ℕ). n + c.args.more) c.blocks-2.ensures)
    (λ narrow. c.has_wide_gap.ensures.wide (not-false _ no) (subst (λ (x : ℕ). HasNoWideGap (is_marked c.args.words.now (c.args.first - c.args.step * c.args.more) c.args.step h) x h.blocks) (sym wide) narrow)) rest

pub returns-else-is_marked-clause-none : goal.returns-else-is_marked-clause-none
returns-else-is_marked-clause-none c = λ no rest.
    let made = c.in-Some.ensures.made in
    not_marked c.args.words.now c.args.first c.args.step c.args.g.now c.in-Some.longer c.args.more
    (record { page = made.page_is ∙ c.page.ensures; block = made.block_is ∙ c.block.ensures; phys = made.phys_is ∙ c.block.ensures ∙ sym c.requires.phys; meta = made.meta_is ∙ sym c.requires.meta; magic = made.magic_is })
    (made.blocks_is ∙ ap (λ (n : ℕ). n + c.args.more) c.blocks-2.ensures) (sym c.is_marked.ensures ∙ c.if-is_marked.false) rest

pub returns-in-None-clause-none : goal.returns-in-None-clause-none
returns-in-None-clause-none c = λ no rest.
    c.in-None.ensures.refused refl rest.longer (rest.same.page ∙ sym c.page.ensures) (rest.same.block ∙ sym c.block.ensures) (rest.blocks ∙ ap (λ (n : ℕ). n + c.args.more) (sym c.blocks-2.ensures)) (rest.same.phys ∙ c.requires.phys ∙ sym c.block.ensures)
