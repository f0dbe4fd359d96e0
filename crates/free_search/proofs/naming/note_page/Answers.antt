use Rattle.std.proofs.Common.{◌≡◌, true, sym, ap, ◌∙◌, List, ℕ}
use Rattle.std.specs.Prelude.{None}
use Rattle.geometry.specs.Numbers.{usable}
use Rattle.page_layout.specs.Layout.{header_at}
use Rattle.image_model.specs.Headers.{name_of}
use Rattle.image_model.specs.Live.{live_at}
use Rattle.image_model.specs.Places.{page_of}
use Rattle.flash_view.specs.Found.{named_at, is_name}
use Rattle.flash_view.proofs.Passed.{found_other, found_unnamed}
use Rattle.flash_view.proofs.Looking.{looks_then}
use Rattle.flash_view.proofs.Telling.{looked}
use Rattle.free_search.specs.Ids.{bits_at, head_id, Notes}
use Rattle.free_search.proofs.Scanning.{scan_other, scan_open, next_here, scan_named, scan_noted}
use Rattle.free_search.proofs.naming.note_page.Goals.{else-head-eq0-via-then-head-eq0+else-is_named, else-head-eq0-via-else-head-eq0}
use Rattle.free_search.proofs.naming.note_page.Goals as goal

pub returns-then-entry-head : goal.returns-then-entry-head
returns-then-entry-head g c = record {
  looks = looked c.in_ok-hold.ensures.looks (λ tells index was.
      let h = c.in_ok-hold.ensures in
      let geometry = c.args.v.now.geometry in
      let image = g.N.NorState.bytes c.args.v.now.nor.now in
      let head : c.header_of-head.result ≡ header_at (page_of geometry image c.args.page) = rw (c.header_of-head.ensures, c.held.ensures.bytes (h.looks.reads.told tells), h.looks.same.geometry, h.looks.reads.bytes) in
      rw h.work (scan_other geometry image (bits_at geometry c.args.v.now.work.now) c.args.name.now c.args.page c.args.entry c.header_of-head.result index head c.if-entry-head.true was));
}

pub returns-then-not-is_finished : goal.returns-then-not-is_finished
returns-then-not-is_finished g c = record {
  looks = looked c.in_ok-hold.ensures.looks (λ tells index was.
      let h = c.in_ok-hold.ensures in
      let geometry = c.args.v.now.geometry in
      let image = g.N.NorState.bytes c.args.v.now.nor.now in
      let head : c.header_of-head.result ≡ header_at (page_of geometry image c.args.page) = rw (c.header_of-head.ensures, c.held.ensures.bytes (h.looks.reads.told tells), h.looks.same.geometry, h.looks.reads.bytes) in
      rw h.work (scan_open geometry image (bits_at geometry c.args.v.now.work.now) c.args.name.now c.args.page c.header_of-head.result head (sym c.if-not-is_finished.ensures) was));
}

pub returns-then-is_named : goal.returns-then-is_named
returns-then-is_named g c = record {
  looks = looked c.in_ok-hold.ensures.looks (λ tells index was.
      let h = c.in_ok-hold.ensures in
      let geometry = c.args.v.now.geometry in
      let image = g.N.NorState.bytes c.args.v.now.nor.now in
      let name = c.args.name.now in
      let page = c.args.page in
      let head : c.header_of-head.result ≡ header_at (page_of geometry image page) = rw (c.header_of-head.ensures, c.held.ensures.bytes (h.looks.reads.told tells), h.looks.same.geometry, h.looks.reads.bytes) in
      let held : c.held-then-head-eq0.result.now ≡ page_of geometry image page = rw (h.looks.same.geometry, h.looks.reads.bytes) at (c.held-then-head-eq0.ensures.bytes (h.looks.reads.told tells)) in
      let has : is_name (name_of (page_of geometry image page)) name ≡ true = ap (λ (l : List ℕ). is_name (name_of l) name) (sym held) ∙ sym c.is_named.ensures ∙ c.if-is_named.true in
      scan_named geometry image (bits_at geometry c.args.v.now.work.now) name page c.header_of-head.result c.requires.below
      (next_here geometry image page c.args.entry c.header_of-head.result c.requires index head c.if-entry-head.false (sym c.is_finished.ensures ∙ c.if-not-is_finished.false)) c.if-head-eq0.true has was);
}

pub returns : goal.returns
returns g c = record {
  looks = looked (looks_then c.in_ok-hold.ensures.looks c.note_head.ensures.looks) (λ tells index was.
      let h = c.in_ok-hold.ensures in
      let geometry = c.args.v.now.geometry in
      let image = g.N.NorState.bytes c.args.v.now.nor.now in
      let name = c.args.name.now in
      let page = c.args.page in
      let head : c.header_of-head.result ≡ header_at (page_of geometry image page) = rw (c.header_of-head.ensures, c.held.ensures.bytes (h.looks.reads.told tells), h.looks.same.geometry, h.looks.reads.bytes) in
      let next = next_here geometry image page c.args.entry c.header_of-head.result c.requires index head c.if-entry-head.false (sym c.is_finished.ensures ∙ c.if-not-is_finished.false) in
      let isnt : named_at (live_at geometry image page) name ≡ None = elim c.else-head-eq0.branch [
        | else-head-eq0-via-then-head-eq0+else-is_named w ↦
            let held : w.held-then-head-eq0.result.now ≡ page_of geometry image page = rw (h.looks.same.geometry, h.looks.reads.bytes) at (w.held-then-head-eq0.ensures.bytes (h.looks.reads.told tells)) in
            found_unnamed geometry image page page c.header_of-head.result name next (ap (λ (l : List ℕ). is_name (name_of l) name) (sym held) ∙ sym w.is_named.ensures ∙ w.if-is_named.false)
        | else-head-eq0-via-else-head-eq0 w ↦ found_other geometry image page page c.header_of-head.result name next w.if-head-eq0.false
      ] in
      let notes : Notes (usable geometry) (head_id c.header_of-head.result) (bits_at geometry c.args.v.now.work.now) (bits_at geometry c.note_head.new.v.work.now) = rw (h.looks.same.geometry, h.work) at c.note_head.ensures.noted in
      scan_noted geometry image (bits_at geometry c.args.v.now.work.now) (bits_at geometry c.note_head.new.v.work.now) name page c.header_of-head.result next isnt notes was);
}
