use Rattle.flash_trace.proofs.Pictures.{magic_yes, magic_no}
use Rattle.flash_trace.proofs.picture.is_same_magic.Goals as goal

pub returns-then-has_magic : goal.returns-then-has_magic
returns-then-has_magic c = magic_yes _ _ _ _ c.has_magic.ensures c.has_magic-then-has_magic.ensures c.if-has_magic.true

pub returns : goal.returns
returns c = magic_no _ _ _ _ c.has_magic.ensures c.has_magic-2.ensures c.if-has_magic.false
