-- What the rows are written with: a text, and what reading it comes to.
use Rattle.std.specs.Prelude.{ℕ, List, ◌++◌, codes, Option, None, Some, Result, Ok, Err}
use Rattle.oso_code.specs.declared.raw.Raw.{Raw}
use Rattle.oso_read.specs.Faults.{Fault}
use Rattle.oso_write.specs.Canon.{canon}

-- the header, the shader's line, and these lines
abbrev pub after : List ℕ → List ℕ
after lines = codes "OpenShadingLanguage 1.00\nshader s\n" ++ lines

-- the first fault
abbrev pub found : Result Raw Fault → Option Fault
found (Ok raw) = None
found (Err fault) = Some fault

-- the canonical text of what was read
abbrev pub written : Result Raw Fault → Option (List ℕ)
written (Ok raw) = Some (canon raw)
written (Err fault) = None
