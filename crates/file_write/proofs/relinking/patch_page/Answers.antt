use Rattle.std.proofs.Common.{length, refl}
use Rattle.file_write.proofs.Patching.{patched_by}
use Rattle.file_write.proofs.relinking.patch_page.Goals as goal

pub returns-clause-patched : goal.returns-clause-patched
returns-clause-patched c =
    patched_by c.args.from c.args.used (length c.args.page.now) c.args.bytes.now c.args.page.now c.erase_part.new.bytes c.write_part.new.page refl c.requires.used c.requires.fits c.erase_part.ensures.others c.erase_part.ensures.ones c.write_part.ensures.inside c.write_part.ensures.others
