-- From the reading to the grammar.
use Rattle.std.proofs.Common.{ℕ, List, Result, Ok, Err, sym, ◌∙◌}
use Rattle.std.specs.Prelude.{IfOk}
use Rattle.std.proofs.lemmas.Option.{none-some}
use Rattle.osl_tree.specs.declared.token.Token.{Token}
use Rattle.osl_tree.specs.declared.tree.Tree.{Tree}
use Rattle.osl_tree.specs.Lexemes.{lexemes}
use Rattle.osl_tree.specs.Files.{Spells}
use Rattle.osl_tree.specs.FileReading.{parsed}
use Rattle.osl_tree.proofs.Parsed.{parsed_again, parsed_spells}
use Rattle.osl_parse.specs.declared.error.SyntaxError.{SyntaxError}
use Rattle.osl_parse.specs.declared.error.SyntaxError.TheVariants as errors
use Rattle.osl_parse.specs.Reads.{Parses, IsNoTree}

pub found : (bytes : List ℕ) (ts : List Token) (r : Result Tree SyntaxError) → Parses (parsed (lexemes bytes ts)) r → IfOk r (λ x. Spells x bytes ts)
found bytes ts (Ok x) p = parsed_spells x bytes ts p
found bytes ts (Err d) p = tt

pub none : (bytes : List ℕ) (ts : List Token) (r : Result Tree SyntaxError) → Parses (parsed (lexemes bytes ts)) r → IsNoTree r → (x : Tree) → Spells x bytes ts → ⊥
none bytes ts (Ok y) p n x s = n
none bytes ts (Err errors.Memory) p n x s = n
none bytes ts (Err errors.NoTree) p n x s = none-some x (sym p ∙ parsed_again x bytes ts s)
