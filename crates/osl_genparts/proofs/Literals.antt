-- A literal is its constant.
use Rattle.std.proofs.Common.{◌≡◌, ℕ, ◌+◌, ◌≤◌, List, [], ◌∷◌, length, Bool, true, false, sym, ap, subst, arith}
use Rattle.std.specs.Prelude.{IsTrue, ℤ, if◌then◌else◌}
use Rattle.osl_value.specs.declared.types.Base.TheVariants.{Int, Float, Str}
use Rattle.osl_value.specs.declared.types.Ty.{Ty}
use Rattle.osl_value.specs.AnyValue.{Of}
use Rattle.osl_value.specs.Plain.{Plain}
use Rattle.osl_value.specs.Types.{only, slot_count}
use Rattle.osl_overload.specs.declared.signature.Kind.TheVariants.{Value}
use Rattle.osl_typed.specs.declared.expr.Argument.TheViews.{out-TypedExpr}
use Rattle.osl_typed.specs.declared.expr.TypedExpr.{TypedExpr}
use Rattle.osl_typed.specs.declared.expr.TypedExpr.TheVariants as e
use Rattle.osl_typed.specs.Expressions.{eval}
use Rattle.osl_typed.specs.Frames.{leaves_of}
use Rattle.osl_typed.specs.Sizes.{kind_slots, weight}
use Rattle.osl_typed.specs.State.{Gives}
use Rattle.osl_welltyped.proofs.KindedLaws.{kinded-Int, kinded-Float, kinded-Text}
use Rattle.osl_welltyped.proofs.KindsTold.{told_by_node}
use Rattle.osl_welltyped.specs.KindOf.{kind_of}
use Rattle.oso_code.specs.declared.op.Op.{Op}
use Rattle.oso_code.specs.declared.symbol.Symbol.{Symbol}
use Rattle.oso_code.specs.Ops.{may_read}
use Rattle.osl_gencode.specs.Bodies.{Body, frame_at, with_calm}
use Rattle.osl_gencode.specs.Codes.{ExprCode}
use Rattle.osl_gencode.specs.Depths.{expr_depth}
use Rattle.osl_gencode.specs.Sizes.{Adds, ExprWithin}
use Rattle.osl_gencode.proofs.Constants.{constant_code}
use Rattle.osl_gencode.proofs.PieceLaws.{piece_none}
use Rattle.osl_gencode.proofs.SizeNodes.{int_within, float_within, text_within}
use Rattle.osl_gencode.proofs.SizeSums.{within_less}
use Rattle.osl_gencode.proofs.TreeLaws.{int_tree, float_tree, text_tree}
use Rattle.osl_genparts.specs.declared.insides.Insides.{Insides}
use Rattle.osl_genparts.specs.Calm.{is_calm}
use Rattle.osl_genparts.specs.Insides.{body_of, rules_in, calls_in, scale_in, types_in, becomes_triple, spare_slots, IsReady}
use Rattle.osl_genparts.specs.Made.{AddsConstant}
use Rattle.osl_genparts.specs.Promises.{IsExprCode}
use Rattle.osl_genparts.proofs.ReadyLater.{params_there, constants_later, as_constant, constant_own, constant_read}

-- what an expression of a type leaves is no more than the slots of the type, and one
pub spare_low : (i : Insides) (x : TypedExpr) (ty : Ty) → kind_of x ≡ Value ty → spare_slots i x ≤ 1 + slot_count ty
spare_low i x ty kind = by_test (becomes_triple (out-TypedExpr x))
  where
    by_test : (t : Bool) → (if t then 0 else 1 + kind_slots i.structures.now (kind_of x)) ≤ 1 + slot_count ty
    by_test true = omega arith
    by_test false = let e = ap (kind_slots i.structures.now) kind in omega (arith, e)

module _ (i : Insides) (ops : List Op) (syms0 syms1 : List Symbol) (c : ℕ) (ready : IsReady i syms0) where
  abbrev inner : TypedExpr → Body
  inner x = with_calm (is_calm x) (body_of i)

  module _ (x : TypedExpr) (v : Plain) (kind : kind_of x ≡ Value v.ty) (added : AddsConstant syms0 syms1 v c) where
    constant_here : ExprCode (inner x) ops ops syms0 syms1 c (v.ty ∷ []) (λ inputs s. Gives (Of v ∷ []) s)
    constant_here =
        let after = constants_later i.params syms0 syms1 (params_there (body_of i) syms0 ready.room) added.grows ready.constants in
        constant_code (inner x) ops syms0 syms1 c v.ty (Of v) added.grows (as_constant syms1 c v added.constant) (constant_own (inner x) syms1 c v after added.constant)

    types_are : types_in i x ≡ v.ty ∷ []
    types_are = ap (leaves_of i.structures.now) kind

    adds : Adds ops ops syms0 syms1 0 1 (slot_count v.ty)
    adds = let f = added.few in let s = added.slots in record { ops = omega arith; syms = omega (arith, f); slots = omega (arith, s) }

    literal_made : ExprCode (inner x) ops ops syms0 syms1 c (v.ty ∷ []) (λ inputs. eval (frame_at (body_of i) inputs) (calls_in i) x) → ExprWithin ops ops syms0 syms1 1 (1 + slot_count v.ty) (weight (scale_in i) x) → IsExprCode i x ops ops syms0 syms1 c
    literal_made code within =
        let n = ap length types_are in let q = spare_low i x v.ty kind in
        record {
          code = subst (λ types. ExprCode (inner x) ops ops syms0 syms1 c types (λ inputs. eval (frame_at (body_of i) inputs) (calls_in i) x)) (sym types_are) code;
          within = within_less ops ops syms0 syms1 2 1 (1 + slot_count v.ty) _ _ _ (weight (scale_in i) x) (omega (arith, n)) (omega (arith, n)) q within;
          valid = λ inside. piece_none i.kind i.owner inside (expr_depth (scale_in i) x) ops syms0 syms1 added.grows;
          readable = λ k lt. let e : c ≡ c + k = omega (arith, lt, n) in subst (λ z. IsTrue (may_read syms1 i.owner z)) e (constant_read i.owner syms1 c v added.constant);
        }

  pub int_made : (n : ℤ) → AddsConstant syms0 syms1 (record { ty = only Int; nums = n ∷ []; texts = [] }) c → IsExprCode i (e.Int n) ops ops syms0 syms1 c
  int_made n added =
      let v : Plain = record { ty = only Int; nums = n ∷ []; texts = [] } in
      let kind = told_by_node (rules_in i) (e.Int n) (Value (only Int)) (kinded-Int (rules_in i) n) in
      literal_made (e.Int n) v kind added (int_tree (inner (e.Int n)) (calls_in i) ops ops syms0 syms1 c (only Int ∷ []) n (constant_here (e.Int n) v kind added)) (int_within (scale_in i) ops ops syms0 syms1 n (adds (e.Int n) v kind added))

  pub float_made : (units : ℤ) → AddsConstant syms0 syms1 (record { ty = only Float; nums = units ∷ []; texts = [] }) c → IsExprCode i (e.Float units) ops ops syms0 syms1 c
  float_made units added =
      let v : Plain = record { ty = only Float; nums = units ∷ []; texts = [] } in
      let kind = told_by_node (rules_in i) (e.Float units) (Value (only Float)) (kinded-Float (rules_in i) units) in
      literal_made (e.Float units) v kind added (float_tree (inner (e.Float units)) (calls_in i) ops ops syms0 syms1 c (only Float ∷ []) units (constant_here (e.Float units) v kind added)) (float_within (scale_in i) ops ops syms0 syms1 units (adds (e.Float units) v kind added))

  pub text_made : (bytes : List ℕ) → AddsConstant syms0 syms1 (record { ty = only Str; nums = []; texts = bytes ∷ [] }) c → IsExprCode i (e.Text bytes) ops ops syms0 syms1 c
  text_made bytes added =
      let v : Plain = record { ty = only Str; nums = []; texts = bytes ∷ [] } in
      let kind = told_by_node (rules_in i) (e.Text bytes) (Value (only Str)) (kinded-Text (rules_in i) bytes) in
      literal_made (e.Text bytes) v kind added (text_tree (inner (e.Text bytes)) (calls_in i) ops ops syms0 syms1 c (only Str ∷ []) bytes (constant_here (e.Text bytes) v kind added)) (text_within (scale_in i) ops ops syms0 syms1 bytes (adds (e.Text bytes) v kind added))
