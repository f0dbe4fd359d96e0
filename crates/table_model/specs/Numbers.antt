-- The numbers of refusals.
use Rattle.std.specs.Prelude.{ℤ, negsuc}
use Rattle.table_model.specs.declared.error.FsErr.{FsErr}
use Rattle.table_model.specs.declared.error.FsErr.TheVariants.{Failed, BadName, NameTooLong, BadFlags, BadDescriptor, OutOfDescriptors, NotFound, FileExists}
use Rattle.table_model.specs.declared.error.FsErr.TheVariants.{ConflictingName, NotReadable, NotWritable, SeekBounds, Tight, Full, DeviceFault, Damaged}

-- the number of a refusal: `negsuc n` is -(n + 1)
abbrev pub number_of : FsErr → ℤ
number_of Failed = negsuc 11004
number_of BadName = negsuc 10999
number_of NameTooLong = negsuc 10035
number_of BadFlags = negsuc 11000
number_of BadDescriptor = negsuc 10009
number_of OutOfDescriptors = negsuc 10006
number_of NotFound = negsuc 10001
number_of FileExists = negsuc 10029
number_of ConflictingName = negsuc 10022
number_of NotReadable = negsuc 10021
number_of NotWritable = negsuc 10020
number_of SeekBounds = negsuc 11001
number_of Tight = negsuc 11002
number_of Full = negsuc 10000
number_of DeviceFault = negsuc 11005
number_of (Damaged differ) = negsuc 11006
