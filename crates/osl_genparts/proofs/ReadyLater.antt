-- What lasts while symbols are added, and what constants are in the words of the nodes' lemmas.
use Rattle.std.proofs.Common.{◌≡◌, ℕ, ◌<◌, ◌≤◌, List, length, Option, Bool, true, false, refl, sym, ap, ◌∙◌, arith, ⊎_elim}
use Rattle.std.specs.Prelude.{IsTrue, not, ◌&&◌}
use Rattle.std.proofs.lemmas.Bool.{cases_lt}
use Rattle.osl_value.specs.AnyValue.{Of}
use Rattle.osl_value.specs.Plain.{Plain}
use Rattle.oso_code.specs.CodeRun.{stated}
use Rattle.oso_code.specs.declared.symbol.Symbol.{Symbol}
use Rattle.oso_code.specs.Ops.{may_read, may_read_symbol, comes_later}
use Rattle.oso_code.specs.Symbols.{is_parameter}
use Rattle.osl_gencode.specs.Bodies.{Body, Laid, shader, function, Room, is_const}
use Rattle.osl_gencode.specs.Growth.{Extends}
use Rattle.osl_gencode.specs.Relation.{IsOwn}
use Rattle.osl_gencode.proofs.Constants.{IsConstant}
use Rattle.osl_gencode.proofs.RelatedStates.{room_later}
use Rattle.osl_genparts.specs.declared.insides.Insides.{Insides}
use Rattle.osl_genparts.specs.Insides.{body_of, ConstantsAfter, IsReady}
use Rattle.osl_genparts.specs.Made.{IsConstantOf}

-- ---- where code may be made

-- the parameters have symbols
pub params_there : (b : Body) (syms : List Symbol) → Room b syms → b.params ≤ length syms
params_there b syms room = by_laid room.laid
  where
    by_laid : Laid b → b.params ≤ length syms
    by_laid (shader start globals shift params) = let w = room.within in let s = room.splits in omega (arith, w, s, params)
    by_laid (function start split globals params) = let w = room.within in omega (arith, w, globals, params)

pub constants_later : (params : ℕ) (syms syms1 : List Symbol) → params ≤ length syms → Extends syms syms1 → ConstantsAfter params syms → ConstantsAfter params syms1
constants_later params syms syms1 low ext c = record {
  each = λ k symbol at class. ⊎_elim (λ (l : k < length syms).
      c.each k symbol (sym (ext.same k l) ∙ at) class) (λ (g : length syms ≤ k).
      omega (arith, low, g)) (cases_lt k (length syms));
}

pub ready_later : (i : Insides) (syms syms1 : List Symbol) → Extends syms syms1 → IsReady i syms → IsReady i syms1
ready_later i syms syms1 ext r = record {
  room = room_later (body_of i) syms syms1 ext r.room;
  constants = constants_later i.params syms syms1 (params_there (body_of i) syms r.room) ext r.constants;
  callable = r.callable;
  low = r.low;
}

-- ---- constants

pub as_constant : (syms : List Symbol) (c : ℕ) (v : Plain) → IsConstantOf syms c v → IsConstant syms c v.ty (Of v)
as_constant syms c v k = record {
  symbol = k.symbol;
  here = k.here;
  const = ap is_const k.class;
  type = k.type;
  value = λ j. stated (k.type j) (k.value j);
  typed = refl;
}

-- no input reaches a constant
pub constant_own : (b : Body) (syms : List Symbol) (c : ℕ) (v : Plain) → ConstantsAfter b.params syms → IsConstantOf syms c v → IsOwn b c
constant_own b syms c v after k inputs from wired = wired.above c (after.each c k.symbol k.here k.class)

-- and it may be read in any section
pub constant_read : (owner : Option ℕ) (syms : List Symbol) (c : ℕ) (v : Plain) → IsConstantOf syms c v → IsTrue (may_read syms owner c)
constant_read owner syms c v k =
    ap (may_read_symbol (comes_later owner c)) k.here ∙ ap (λ class. not (comes_later owner c && is_parameter class)) k.class ∙ by_later (comes_later owner c)
  where
    by_later : (later : Bool) → not (later && false) ≡ true
    by_later true = refl
    by_later false = refl
