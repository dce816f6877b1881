-- Constants, parentheses and `exit()`.
use Rattle.std.proofs.Common.{◌≡◌, ℕ, List, [], ◌∷◌, ◌++◌, length, Some, true, refl, sym, ap, ◌∙◌, subst, arith}
use Rattle.std.specs.Prelude.{slice_get}
use Rattle.osl_value.specs.declared.op_name.OpName.TheVariants as O
use Rattle.osl_value.specs.declared.types.Ty.{Ty}
use Rattle.osl_value.specs.AnyValue.{AnyValue, type_of}
use Rattle.oso_code.specs.declared.op.Op.{Op}
use Rattle.oso_code.specs.declared.symbol.Symbol.{Symbol}
use Rattle.oso_code.specs.CodeRun.{stated}
use Rattle.oso_code.specs.Run as R
use Rattle.oso_code.specs.Steps.{Leave, step_of, Exit}
use Rattle.osl_typed.specs.State.{State, Gives, Exits}
use Rattle.osl_gencode.specs.Relation.{Related, IsOwn}
use Rattle.osl_gencode.specs.Growth.{Extends}
use Rattle.osl_gencode.specs.Codes.{ExprCode}
use Rattle.osl_gencode.specs.Bodies.{Body, is_const}
use Rattle.osl_gencode.specs.RunEnds.{Finishes}
use Rattle.osl_gencode.proofs.Operations.{one_place, own_one}
use Rattle.osl_gencode.proofs.Growing.{extends_push, get_some, get_extended, extends_self, push_length, at_push}
use Rattle.osl_gencode.proofs.RelatedStates.{kept_self, kept_older}
use Rattle.osl_gencode.proofs.OneOp.{in_one}
use Rattle.osl_gencode.proofs.RangeRuns.{leads_self, one_ends}

-- symbol c is a constant of this type and value
pub record IsConstant (syms : List Symbol) (c : ℕ) (ty : Ty) (v : AnyValue) : Type 0 where
  pub symbol : Symbol
  pub here : slice_get syms c ≡ Some symbol
  pub const : is_const symbol.class ≡ true
  pub type : symbol.ty ≡ ty
  pub value : stated symbol.ty symbol.value ≡ v
  pub typed : type_of v ≡ ty

pub constant_later : (syms syms1 : List Symbol) (c : ℕ) (ty : Ty) (v : AnyValue) → Extends syms syms1 → IsConstant syms c ty v → IsConstant syms1 c ty v
constant_later syms syms1 c ty v ext k = record { symbol = k.symbol; here = get_extended syms syms1 c k.symbol ext k.here; const = k.const; type = k.type; value = k.value; typed = k.typed }

-- what a constant holds
pub constant_holds : (b : Body) (syms : List Symbol) (c : ℕ) (ty : Ty) (v : AnyValue) (src : State) (x : R.State) → IsConstant syms c ty v → Related b syms src x → x.values c ≡ v
constant_holds b syms c ty v src x k rel = rel.consts c k.symbol k.here k.const ∙ k.value

module _ (b : Body) where
  -- a constant is its symbol, which may be older than the expression
  pub constant_code : (ops0 : List Op) (syms0 syms1 : List Symbol) (c : ℕ) (ty : Ty) (v : AnyValue) → Extends syms0 syms1 → IsConstant syms1 c ty v → IsOwn b c → ExprCode b ops0 ops0 syms0 syms1 c (ty ∷ []) (λ inputs s. Gives (v ∷ []) s)
  constant_code ops0 syms0 syms1 c ty v ext k own = record {
    within = (let l = get_some syms1 c k.symbol k.here in omega (arith, l));
    own = own_one b c own;
    places = one_place syms1 c ty (record { symbol = k.symbol; here = k.here; type = k.type });
    code = record {
      grows = record { ops = extends_self ops0; syms = ext };
      runs = λ inputs from steps syms a src cod wired cov ext1 rel p.
          (cod, record { leads = leads_self from steps (length ops0) cod; related = rel; kept = kept_self b (length syms0) cod }, in_one c ty v cod (constant_holds b syms c ty v src cod (constant_later syms1 syms c ty v ext1 k) rel) k.typed);
    };
  }

  abbrev pub exit_op : Op
  exit_op = record { name = O.Exit; args = []; jumps = [] }

  pub exit_step : (syms : List Symbol) (at : ℕ) → step_of syms at exit_op ≡ Leave Exit
  unfolding step_of
  exit_step syms at = refl

  pub exit_code : (ops0 : List Op) (syms0 : List Symbol) → ExprCode b ops0 (ops0 ++ exit_op ∷ []) syms0 syms0 (length syms0) [] (λ inputs s. Exits s)
  exit_code ops0 syms0 = record {
    within = omega arith;
    own = λ k lt. absurd (omega (arith, lt));
    places = record { each = λ k ty at. absurd (cc at) };
    code = record {
      grows = record { ops = extends_push ops0 exit_op; syms = extends_self syms0 };
      runs = λ inputs from steps syms a src cod wired cov ext rel p.
          let at = at_push syms steps ops0 exit_op (length ops0) (omega arith) cov ∙ ap Some (exit_step syms (length ops0)) in
          let y = R.ticked cod in (
            y,
            record {
              finishes = subst (λ z. Finishes from steps (length ops0) z cod (R.Jumps Exit y)) (sym (push_length ops0 exit_op)) (one_ends from steps (length ops0) cod (R.Jumps Exit y) (Leave Exit) at (λ g e. refl));
              related = record { vars = rel.vars; typed = rel.typed; globals = rel.globals; global_types = rel.global_types; turns = rel.turns; reads = rel.reads; consts = rel.consts };
              kept = kept_older b (length syms0) cod y (λ k h. refl);
            },
          );
    };
  }
