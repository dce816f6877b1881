use Rattle.std.proofs.Common.{◌≡◌, map, take}
use Rattle.std.specs.List.{filter}
use Rattle.oso_code.specs.declared.symbol.Symbol.{Symbol}
use Rattle.oso_code.specs.Symbols.{is_parameter}
use Rattle.osl_network.specs.Shaders.{port_of}
use Rattle.osl_group.proofs.ports.ports_of.Given as goal

-- the parameters among the symbols so far
abbrev pub invariant-loop-symbol : goal.invariant-loop-symbol
invariant-loop-symbol l = l.found.items ≡ map port_of (filter (λ (s : Symbol). is_parameter s.class) (take l.symbol-index l.symbol-items))
