use Rattle.std.proofs.Common.{◌∙◌, ap, map}
use Rattle.plain_image.specs.Seen.{file}
use Rattle.flash_trace.proofs.Pictures.{picture_made}
use Rattle.flash_trace.proofs.picture.picture_of.Goals as goal

pub returns-clause-picture : goal.returns-clause-picture
returns-clause-picture c =
    picture_made c.args.case.now _ c.in_ok-meaning.meaning.table.items _ _ c.requires c.as_slice.ensures.value c.as_slice-3.ensures.value (c.in_ok-seen.ensures.items ∙ c.as_slice-5.ensures.value)
    (c.in_ok-table.ensures ∙ ap (map file) c.as_slice-2.ensures.value) c.in_ok-meaning.ensures.table c.is_sound-is_sound.ensures
