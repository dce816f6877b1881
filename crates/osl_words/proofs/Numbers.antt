use Rattle.std.proofs.Common.{◌≡◌, ℕ, List, true, false, Some, None, refl, cond}
use Rattle.std.specs.Str.Parse.{digits_value, without_leading_plus}
use Rattle.clap.specs.Values.{Accepts}
use Rattle.clap.specs.ValueTests.{is_unsigned_in}
use Rattle.clap.specs.declared.builder.value_parser.ValueParser.TheVariants as vp
use Rattle.clap.proofs.ValueTestLemmas.{accepts-Accepts, Accepts-accepts}
use Rattle.osl_words.specs.Arguments.{number_in}

pub number_in-some : (low high : ℕ) (text : List ℕ) → Accepts false (vp.Unsigned low high) text → number_in low high text ≡ Some (digits_value 10 (without_leading_plus text))
number_in-some low high text h =
    let e : is_unsigned_in low high text ≡ true = Accepts-accepts false (vp.Unsigned low high) text h in
    rw e refl

pub number_in-none : (low high : ℕ) (text : List ℕ) → (Accepts false (vp.Unsigned low high) text → ⊥) → number_in low high text ≡ None
number_in-none low high text n =
    elim (is_unsigned_in low high text) as (λ v. is_unsigned_in low high text ≡ v → cond v (Some (digits_value 10 (without_leading_plus text))) None ≡ None)
    [ true ↦ λ e. absurd (n (accepts-Accepts false (vp.Unsigned low high) text e)) | false ↦ λ e. refl ] refl
