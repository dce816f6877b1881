-- What the lines of the table of built-in functions say.
use Rattle.std.specs.Prelude.{ℕ, List, map, bytes_eq}
use Rattle.std.specs.List.{filter, flat_map}
use Rattle.osl_overload.specs.declared.signature.Signature.{Signature}
use Rattle.osl_typed.specs.BuiltIns.{Line as NamedLine, input, of_line}
use Rattle.osl_typed.specs.Scopes.{Candidate}
use Rattle.osl_calls.specs.declared.built_in.Line.{Line}
use Rattle.osl_calls.specs.declared.built_in.Takes.{Takes}

abbrev pub signature_of : Takes → Signature
signature_of takes = record { params = map input (takes.0).now; result = takes.1 }

abbrev pub line_of : Line → NamedLine
line_of line = record { name = (line.0).now; callee = line.1; signatures = map signature_of (line.2).now }

-- the functions of a name in some lines
unfoldable pub named_in : List NamedLine → List ℕ → List Candidate
named_in lines name = flat_map of_line (filter (λ line. bytes_eq line.name name) lines)
