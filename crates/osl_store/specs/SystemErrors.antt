-- What the errors of the system's files mean.
use Rattle.std.specs.declared.io.ErrorKind.{ErrorKind}
use Rattle.std.specs.declared.io.ErrorKind.TheVariants.{NotFound, NotADirectory, InvalidFilename, OutOfMemory}
use Rattle.osl_store.specs.declared.ReadError.{ReadError}
use Rattle.osl_store.specs.declared.ReadError.TheVariants as read
use Rattle.osl_store.specs.declared.WriteError.{WriteError}
use Rattle.osl_store.specs.declared.WriteError.TheVariants as write
use Rattle.osl_store.specs.declared.system.TakeError.{TakeError}
use Rattle.osl_store.specs.declared.system.TakeError.TheVariants.{TooLarge, Unread}

-- A file that was not opened is absent where there is none of that name: its last part is not there, a part before is no
-- folder, or the name is longer than the system's names. Else an allocation failed, or the system refused it.
abbrev pub not_opened : ErrorKind → ReadError
not_opened NotFound = read.Absent
not_opened NotADirectory = read.Absent
not_opened InvalidFilename = read.Absent
not_opened OutOfMemory = read.Memory
not_opened _ = read.Failed

-- a file that was opened and not read to its end
abbrev pub not_read : ErrorKind → ReadError
not_read OutOfMemory = read.Memory
not_read _ = read.Failed

-- why what is left of a file was not appended
abbrev pub not_taken : TakeError → ReadError
not_taken TooLarge = read.TooLarge
not_taken (Unread error) = not_read error

-- a file that was not made
abbrev pub not_made : ErrorKind → WriteError
not_made OutOfMemory = write.Memory
not_made _ = write.Failed
