-- A shader of one parameter, and its text of 75 bytes.
use Rattle.std.proofs.Common.{codes, ◌≡◌, pos, [], ◌∷◌, ◌++◌, length, Some, None, refl}
use Rattle.std.specs.Fmt.{digits}
use Rattle.osl_decimal.specs.Canonical.{magnitude_text, fraction_text}
use Rattle.osl_value.specs.declared.types.Base.TheVariants.{Float}
use Rattle.osl_value.specs.Types.{only}
use Rattle.oso_code.specs.declared.raw.Raw.{Raw}
use Rattle.osl_value.specs.declared.shader_kind.ShaderKind.TheVariants.{Shader}
use Rattle.oso_code.specs.declared.symbol.Class.TheVariants.{Oparam}
use Rattle.oso_write.specs.Canon.{canon}

-- `shader plain` with the output parameter `r`, which is 7
plain : Raw
plain =
    record {
      kind = Shader;
      name = codes "plain";
      metas = [];
      symbols = record { class = Oparam; ty = only Float; name = codes "r"; value = Some (record { ty = only Float; nums = pos 7000000000 ∷ []; texts = [] }); metas = [] } ∷ [];
      sections = record { param = None; start = 0; end = 0 } ∷ [];
      ops = [];
    }

plain_text : canon plain
    ≡ codes "OpenShadingLanguage 1.00" ++ 10 ∷ codes "shader plain" ++ 10 ∷ codes "oparam float r 7" ++ 10 ∷ codes "code ___main___" ++ 10 ∷ codes "end" ++ 10 ∷ []
unfolding plain canon magnitude_text fraction_text digits
plain_text = refl

plain_length : length (canon plain) ≡ 75
unfolding plain canon magnitude_text fraction_text digits
plain_length = refl
