use Rattle.std.proofs.Common.{◌≡◌, sym, ◌∙◌, Some}
use Rattle.osl_typed.specs.declared.shader.TypedShader.{TypedShader}
use Rattle.osl_typed.proofs.laws.one_typing.Goals as goal

some_same : (a b : TypedShader) → Some a ≡ Some b → a ≡ b
some_same a b e = cc

pub returns : goal.returns
returns c = λ tree a b p q. some_same a b (sym p ∙ q)
