use Rattle.std.proofs.Common.{◌≤◌, arith, ap, ◌∙◌}
use Rattle.page_layout.specs.declared.header.PageHeader.{PageHeader}
use Rattle.page_layout.proofs.Bits.{top_bit}
use Rattle.page_layout.proofs.NewHeader.{Parts, parts_written, bytes_of_parts, fields_of_parts}
use Rattle.page_layout.proofs.fresh.build_header_page.Goals as goal

pub returns : goal.returns
returns c =
    let least : 45 ≤ c.args.g.now.page = omega (arith, c.args.g.now.valid.page_least) in
    let parts : Parts c.args.g.now.page c.args.id c.args.name.now c.put_name.new.page =
    parts_written _ _ _ c.args.name.now c.fill.new.self c.put_header.new.page c.put_type.new.page _
    (c.fill.ensures.after (λ y same. same)) c.requires.page least
    (ap (λ (h : PageHeader). h.id) c.put_header.ensures.field ∙ top_bit c.args.id c.requires.id)
    (ap (λ (h : PageHeader). h.span) c.put_header.ensures.field)
    (ap (λ (h : PageHeader). h.flags.bits) c.put_header.ensures.field ∙ c.placed_index-flags.ensures)
    c.put_header.ensures.others c.put_type.ensures.field c.put_type.ensures.others
    c.put_name.ensures.field c.put_name.ensures.others (λ k. omega (arith, c.type_inv.page k)) in
    record {
      bytes = bytes_of_parts _ _ _ _ least parts;
      fields = fields_of_parts c.args.g.now _ _ _ c.args.g.now.valid.page_least c.args.g.now.valid.meta_most c.requires.some c.requires.few c.requires.no_zero parts;
    }
