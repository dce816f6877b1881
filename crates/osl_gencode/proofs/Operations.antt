-- Operations with their operands, and promotions.
use Rattle.std.proofs.Common.{◌≡◌, ℕ, zero, suc, ◌+◌, ◌<◌, List, [], ◌∷◌, ◌++◌, length, map, Some, true, false, refl, sym, ap, ◌∙◌, subst, arith}
use Rattle.std.specs.Prelude.{slice_get}
use Rattle.osl_value.specs.declared.op_name.OpName.{OpName}
use Rattle.osl_value.specs.declared.op_name.OpName.TheVariants.{Assign}
use Rattle.osl_value.specs.declared.types.Base.TheVariants.{Closure}
use Rattle.osl_value.specs.declared.types.Ty.{Ty}
use Rattle.osl_value.specs.AnyValue.{AnyValue}
use Rattle.osl_value.specs.Apply.{apply}
use Rattle.osl_value.specs.Table.{is_control, updates}
use Rattle.osl_value.specs.Types.{same_base}
use Rattle.osl_layer.specs.Layer.{Inputs}
use Rattle.oso_code.specs.declared.op.Op.{Op}
use Rattle.oso_code.specs.declared.symbol.Symbol.{Symbol}
use Rattle.oso_code.specs.Run as R
use Rattle.osl_typed.specs.State.{Gives, then_value, in_order}
use Rattle.osl_typed.specs.Expressions.{Meaning, Calls, promoted, eval}
use Rattle.osl_typed.specs.declared.expr.TypedExpr.{TypedExpr}
use Rattle.osl_typed.specs.declared.expr.TypedExpr.TheVariants as e
use Rattle.osl_typed.specs.Parts.{single}
use Rattle.osl_typed.proofs.ExpressionLaws.{eval-Apply}
use Rattle.osl_value.specs.Laws.{HasValues}
use Rattle.osl_gencode.specs.Bodies.{is_const, HasType, HaveTypes, Body, frame_at, Room}
use Rattle.osl_gencode.specs.Relation.{IsOwn, In}
use Rattle.osl_gencode.specs.Codes.{Anything, ExprCode, Place, AllIn, AllWithin, ListCode}
use Rattle.osl_gencode.proofs.Growing.{get_seam, push_length}
use Rattle.osl_gencode.proofs.RelatedStates.{room_later, above_own}
use Rattle.osl_gencode.proofs.CodeLists.{in_order_then, code_then, code_as}
use Rattle.osl_gencode.proofs.OneOp.{op_of, AllUnwired, op_code, one_value}
use Rattle.osl_gencode.proofs.OpValues.{promotes}

-- each place is that of one leaf
abbrev pub AllSingle : List Place → Type 0
AllSingle [] = Unit {0}
AllSingle (p ∷ ps) = (length p.types ≡ 1) × AllSingle ps

abbrev pub firsts : List Place → List ℕ
firsts ps = map (λ p. p.first) ps

pub single_value : (r : ℕ) (types : List Ty) (vs : List AnyValue) (x : R.State) → length types ≡ 1 → In r types vs x → x.values r ≡ single vs
single_value r types [] x one p = let e = ap length p.typed in absurd (omega (arith, e, one))
single_value r types (v ∷ vs) x one p = one_value r types v vs x p

pub values_of : (ps : List Place) (vss : List (List AnyValue)) (x : R.State) → AllSingle ps → AllIn ps vss x → map x.values (firsts ps) ≡ map single vss
values_of [] [] x s all = refl
values_of [] (vs ∷ vss) x s all = absurd all
values_of (p ∷ ps) [] x s all = absurd all
values_of (p ∷ ps) (vs ∷ vss) x s all =
    ap (λ v. v ∷ map x.values (firsts ps)) (single_value p.first p.types vs x s.0 all.0) ∙ ap (λ l. single vs ∷ l) (values_of ps vss x s.1 all.1)

pub all_unwired : (b : Body) (hi : ℕ) (ps : List Place) → AllSingle ps → AllWithin b hi ps → AllUnwired b (firsts ps)
all_unwired b hi [] one w = tt
all_unwired b hi (p ∷ ps) one w =
    let o = one.0 in let e : p.first + 0 ≡ p.first = omega arith in
    (subst (IsOwn b) e (w.1 0 (omega (arith, o))), all_unwired b hi ps one.1 w.2)

pub own_one : (b : Body) (k : ℕ) → IsOwn b k → (j : ℕ) → j < 1 → IsOwn b (k + j)
own_one b k own j lt = let e : k ≡ k + j = omega (arith, lt) in subst (IsOwn b) e own

-- a place of one leaf
pub one_place : (syms : List Symbol) (r : ℕ) (ty : Ty) → HasType syms r ty → HaveTypes syms r (ty ∷ [])
one_place syms r ty h = record { each = λ k t at. each k t at }
  where
    each : (k : ℕ) (t : Ty) → slice_get (ty ∷ []) k ≡ Some t → HasType syms (r + k) t
    each zero t at =
        let e : r + 0 ≡ r = omega arith in
        let some : Some ty ≡ Some t = at in
        record { symbol = h.symbol; here = ap (slice_get syms) e ∙ h.here; type = h.type ∙ cc some }
    each (suc k) t at = absurd (cc at)

pub one_typed : (syms : List Symbol) (symbol : Symbol) (ty : Ty) → symbol.ty ≡ ty → HaveTypes (syms ++ symbol ∷ []) (length syms) (ty ∷ [])
one_typed syms symbol ty typed = record { each = λ k t at. each k t at }
  where
    each : (k : ℕ) (t : Ty) → slice_get (ty ∷ []) k ≡ Some t → HasType (syms ++ symbol ∷ []) (length syms + k) t
    each zero t at =
        let e : length syms + 0 ≡ length syms = omega arith in
        let some : Some ty ≡ Some t = at in
        record { symbol = symbol; here = ap (slice_get (syms ++ symbol ∷ [])) e ∙ get_seam syms symbol; type = cc (typed, some) }
    each (suc k) t at = absurd (cc at)

no_closure : (ty : Ty) → same_base ty.base Closure ≡ false → HasValues ty
no_closure ty other is = absurd (let e : same_base ty.base Closure ≡ true = ap (λ z. same_base z Closure) is in cc (e, other))

module _ (b : Body) where
  -- an operation: its operands, and one op
  pub apply_code : (ops0 ops1 : List Op) (syms0 syms1 : List Symbol) (ps : List Place) (op : OpName) (ty : Ty) (symbol : Symbol) (sems : Inputs → List Meaning) → Room b syms0 → is_control op ≡ false → updates op ≡ false → symbol.ty ≡ ty → is_const symbol.class ≡ false → HasValues ty → AllSingle ps → ListCode b ops0 ops1 syms0 syms1 ps sems → ExprCode b ops0 (ops1 ++ op_of op (length syms1) (firsts ps) ∷ []) syms0 (syms1 ++ symbol ∷ []) (length syms1) (ty ∷ []) (λ inputs s. in_order (sems inputs) s (λ vs s1. Gives (apply op ty (map single vs) ∷ []) s1))
  apply_code ops0 ops1 syms0 syms1 ps op ty symbol sems room plain reads typed free sound one c =
      let w = room.within in let longer = c.code.grows.syms.longer in
      let last = op_of op (length syms1) (firsts ps) in
      record {
        within = omega (arith, push_length syms1 symbol);
        own = own_one b (length syms1) (above_own b syms1 (room_later b syms0 syms1 c.code.grows.syms room) (length syms1) (omega (arith, w, longer)));
        places = one_typed syms1 symbol ty typed;
        code = code_as b ops0 (ops1 ++ last ∷ []) syms0 (syms1 ++ symbol ∷ []) Anything (In (length syms1) (ty ∷ [])) _ _ (λ j inputs a s. sym (in_order_then (sems inputs) s (λ vs s1. Gives (apply op ty (map single vs) ∷ []) s1)) j) (
            code_then b ops0 ops1 (ops1 ++ last ∷ []) syms0 syms1 (syms1 ++ symbol ∷ []) Anything (AllIn ps) (In (length syms1) (ty ∷ [])) (λ inputs a s. in_order (sems inputs) s Gives) (λ inputs vs s1. Gives (apply op ty (map single vs) ∷ []) s1) c.code (
            op_code b ops1 syms1 (AllIn ps) op ty (firsts ps) symbol (map single) (room_later b syms0 syms1 c.code.grows.syms room) plain reads typed free sound (all_unwired b (length syms1) ps one c.within) (λ vss x all. values_of ps vss x one all)));
      }

  -- the promotion of a number or a triple: one assignment
  pub promote_code : (ops0 ops1 : List Op) (syms0 syms1 : List Symbol) (r : ℕ) (from ty : Ty) (symbol : Symbol) (sem : Inputs → Meaning) → Room b syms0 → same_base ty.base Closure ≡ false → symbol.ty ≡ ty → is_const symbol.class ≡ false → ExprCode b ops0 ops1 syms0 syms1 r (from ∷ []) sem → ExprCode b ops0 (ops1 ++ op_of Assign (length syms1) (r ∷ []) ∷ []) syms0 (syms1 ++ symbol ∷ []) (length syms1) (ty ∷ []) (λ inputs s. then_value (sem inputs s) (λ v s1. Gives (promoted ty (single v) ∷ []) s1))
  promote_code ops0 ops1 syms0 syms1 r from ty symbol sem room other typed free c =
      let last = op_of Assign (length syms1) (r ∷ []) in
      let w = room.within in let longer = c.code.grows.syms.longer in
      record {
        within = omega (arith, push_length syms1 symbol);
        own = own_one b (length syms1) (above_own b syms1 (room_later b syms0 syms1 c.code.grows.syms room) (length syms1) (omega (arith, w, longer)));
        places = one_typed syms1 symbol ty typed;
        code = code_as b ops0 (ops1 ++ last ∷ []) syms0 (syms1 ++ symbol ∷ []) Anything (In (length syms1) (ty ∷ [])) _ _ (λ j inputs a s. then_value (sem inputs s) (λ v s1. Gives ((sym (promotes ty (single v) other)) j ∷ []) s1)) (
            code_then b ops0 ops1 (ops1 ++ last ∷ []) syms0 syms1 (syms1 ++ symbol ∷ []) Anything (In r (from ∷ [])) (In (length syms1) (ty ∷ [])) (λ inputs a. sem inputs) (λ inputs v s1. Gives (apply Assign ty (single v ∷ []) ∷ []) s1) c.code (
            op_code b ops1 syms1 (In r (from ∷ [])) Assign ty (r ∷ []) symbol (λ v. single v ∷ []) (room_later b syms0 syms1 c.code.grows.syms room) refl refl typed free (no_closure ty other) (subst (IsOwn b) (let e : r + 0 ≡ r = omega arith in e) (c.own 0 (omega arith)), tt) (λ v x p. ap (λ z. z ∷ []) (single_value r (from ∷ []) v x refl p))));
      }

  -- ---- the same, of the trees

  pub applied_code : (calls : Calls) (ops0 ops1 : List Op) (syms0 syms1 : List Symbol) (ps : List Place) (op : OpName) (ty : Ty) (symbol : Symbol) (es : List TypedExpr) → Room b syms0 → is_control op ≡ false → updates op ≡ false → symbol.ty ≡ ty → is_const symbol.class ≡ false → HasValues ty → AllSingle ps → ListCode b ops0 ops1 syms0 syms1 ps (λ inputs. map (eval (frame_at b inputs) calls) es) → ExprCode b ops0 (ops1 ++ op_of op (length syms1) (firsts ps) ∷ []) syms0 (syms1 ++ symbol ∷ []) (length syms1) (ty ∷ []) (λ inputs. eval (frame_at b inputs) calls (e.Apply op ty es))
  applied_code calls ops0 ops1 syms0 syms1 ps op ty symbol es room plain reads typed free sound one c =
      subst (ExprCode b ops0 (ops1 ++ op_of op (length syms1) (firsts ps) ∷ []) syms0 (syms1 ++ symbol ∷ []) (length syms1) (ty ∷ [])) (λ j inputs. sym (eval-Apply (frame_at b inputs) calls op ty es) j) (
      apply_code ops0 ops1 syms0 syms1 ps op ty symbol (λ inputs. map (eval (frame_at b inputs) calls) es) room plain reads typed free sound one c)
