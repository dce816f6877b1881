-- Which symbols the ops of a section may read and write, and with which types.
use Rattle.std.proofs.Common.{◌≡◌, ℕ, ◌+◌, ◌<◌, ◌≤◌, ◌⊎◌, inl, inr, ⊎_elim, List, [], ◌∷◌, ◌++◌, length, Option, Some, None, Bool, true, false, not, refl, sym, ap, ◌∙◌, subst, arith}
use Rattle.std.specs.Prelude.{slice_get, IsTrue, ◌&&◌, if◌then◌else◌}
use Rattle.std.specs.List.{list_all}
use Rattle.std.proofs.lemmas.Bool.{eq-eqb, le-ltb}
use Rattle.osl_value.specs.declared.shader_kind.ShaderKind.{ShaderKind}
use Rattle.osl_value.specs.declared.shader_kind.ShaderKind.TheVariants as K
use Rattle.osl_value.specs.declared.types.Ty.{Ty}
use Rattle.osl_layer.specs.Globals.{global_named, type_of_global}
use Rattle.osl_layer.specs.declared.global.GlobalName.{GlobalName}
use Rattle.osl_layer.specs.declared.global.GlobalName.TheVariants as G
use Rattle.osl_typed.specs.declared.shader.TypedParam.{TypedParam}
use Rattle.osl_typed.specs.Scopes as source
use Rattle.oso_code.specs.declared.symbol.Class.{Class}
use Rattle.oso_code.specs.declared.symbol.Class.TheVariants as C
use Rattle.oso_code.specs.declared.symbol.Symbol.{Symbol}
use Rattle.oso_code.specs.Ops.{type_of_symbol, is_owner, may_write_symbol, may_write_class, is_assignable_in, is_assignable_global, comes_later, may_read, may_read_symbol}
use Rattle.oso_code.specs.Symbols.{is_parameter}
use Rattle.oso_code.proofs.Members.{both_and}
use Rattle.osl_gencode.specs.Bodies.{HasType}
use Rattle.osl_gencode.specs.Codes.{Place, AllTyped}
use Rattle.osl_gencode.specs.Growth.{Extends}
use Rattle.osl_gencode.specs.ShaderSymbols.{At, IsParam, IsGlobal, IsLocal}
use Rattle.osl_gencode.specs.Validity.{Takes, Writes, MayRead, AllReadable}
use Rattle.osl_gencode.proofs.BraceLists.{item_types}
use Rattle.osl_gencode.proofs.FittingOps.{read_later}
use Rattle.osl_gencode.proofs.Growing.{get_seam, get_there}
use Rattle.osl_gencode.proofs.LayerStart.{named_back}
use Rattle.osl_gencode.proofs.Operations.{AllSingle, firsts}

-- ---- reading

-- no parameter that comes after the owner of the section
pub read_symbol : (owner : Option ℕ) (syms : List Symbol) (k : ℕ) (symbol : Symbol) → slice_get syms k ≡ Some symbol → (comes_later owner k ≡ false) ⊎ (is_parameter symbol.class ≡ false) → IsTrue (may_read syms owner k)
read_symbol owner syms k symbol here early =
    ap (may_read_symbol (comes_later owner k)) here ∙ ap not (⊎_elim (λ e. ap (λ t. t && is_parameter symbol.class) e) (λ e. ap (λ t. comes_later owner k && t) e ∙ never (comes_later owner k)) early)
  where
    never : (t : Bool) → (t && false) ≡ false
    never true = refl
    never false = refl

-- in the section of the body any symbol
pub read_any : (syms : List Symbol) (k : ℕ) → k < length syms → IsTrue (may_read syms None k)
read_any syms k lt = let s = get_there syms k lt in read_symbol None syms k (s.0) (s.1) (inl refl)

-- in that of a parameter it and earlier ones
pub read_earlier : (syms : List Symbol) (p k : ℕ) → k ≤ p → k < length syms → IsTrue (may_read syms (Some p) k)
read_earlier syms p k le lt = let s = get_there syms k lt in read_symbol (Some p) syms k (s.0) (s.1) (inl (le-ltb p k le))

-- a symbol that was pushed
pub read_new : (owner : Option ℕ) (syms : List Symbol) (symbol : Symbol) → is_parameter symbol.class ≡ false → IsTrue (may_read (syms ++ symbol ∷ []) owner (length syms))
read_new owner syms symbol plain = read_symbol owner (syms ++ symbol ∷ []) (length syms) symbol (get_seam syms symbol) (inr plain)

pub may_read_later : (owner : Option ℕ) (syms syms1 : List Symbol) (r n : ℕ) → Extends syms syms1 → MayRead owner syms r n → MayRead owner syms1 r n
may_read_later owner syms syms1 r n ext m = record { each = λ k lt. read_later syms syms1 ext owner (r + k) (m.each k lt) }

pub may_read_one : (owner : Option ℕ) (syms : List Symbol) (r : ℕ) → IsTrue (may_read syms owner r) → MayRead owner syms r 1
may_read_one owner syms r may = record { each = λ k lt. let e : r ≡ r + k = omega (arith, lt) in ap (may_read syms owner) (sym e) ∙ may }

pub all_readable_later : (owner : Option ℕ) (syms syms1 : List Symbol) (ps : List Place) → Extends syms syms1 → AllReadable owner syms ps → AllReadable owner syms1 ps
all_readable_later owner syms syms1 [] ext all = tt
all_readable_later owner syms syms1 (p ∷ ps) ext all = (may_read_later owner syms syms1 p.first (length p.types) ext all.0, all_readable_later owner syms syms1 ps ext all.1)

-- ---- operands

pub takes_none : (owner : Option ℕ) (syms : List Symbol) → Takes owner syms [] []
takes_none owner syms = record { may = refl; typed = refl }

pub takes_more : (owner : Option ℕ) (syms : List Symbol) (r : ℕ) (rs : List ℕ) (ty : Ty) (types : List Ty) → IsTrue (may_read syms owner r) → HasType syms r ty → Takes owner syms rs types → Takes owner syms (r ∷ rs) (ty ∷ types)
takes_more owner syms r rs ty types may has more = record {
  may = both_and (may_read syms owner r) (list_all (may_read syms owner) rs) may more.may;
  typed = (λ j. (ap type_of_symbol has.here ∙ has.type) j ∷ more.typed j);
}

pub takes_one : (owner : Option ℕ) (syms : List Symbol) (r : ℕ) (ty : Ty) → IsTrue (may_read syms owner r) → HasType syms r ty → Takes owner syms (r ∷ []) (ty ∷ [])
takes_one owner syms r ty may has = takes_more owner syms r [] ty [] may has (takes_none owner syms)

-- values of one leaf each
pub takes_places : (owner : Option ℕ) (syms : List Symbol) (ps : List Place) → AllSingle ps → AllReadable owner syms ps → AllTyped syms ps → Takes owner syms (firsts ps) (item_types ps)
takes_places owner syms [] single may typed = takes_none owner syms
takes_places owner syms (p ∷ ps) single may typed = by_types (takes_places owner syms ps single.1 may.1 typed.1) p.types single.0 refl
  where
    by_types : Takes owner syms (firsts ps) (item_types ps) → (types : List Ty) → length p.types ≡ 1 → p.types ≡ types → Takes owner syms (p.first ∷ firsts ps) (p.types ++ item_types ps)
    by_types rest [] one e = absurd (let n = ap length e in omega (arith, one, n))
    by_types rest (ty ∷ []) one e =
        let z : p.first + 0 ≡ p.first = omega arith in
        subst (λ l. Takes owner syms (p.first ∷ firsts ps) (l ++ item_types ps)) (sym e) (takes_more owner syms p.first (firsts ps) ty (item_types ps) (ap (may_read syms owner) (sym z) ∙ may.0.each 0 (omega (arith, one))) (subst (λ n. HasType syms n ty) z (typed.0.each 0 ty (ap (λ l. slice_get l 0) e))) rest)
    by_types rest (ty ∷ other ∷ types) one e = absurd (let n = ap length e in omega (arith, one, n))

-- ---- writing

pub write_symbol : (kind : ShaderKind) (owner : Option ℕ) (syms : List Symbol) (w : ℕ) (symbol : Symbol) → slice_get syms w ≡ Some symbol → may_write_class kind (is_owner owner w) symbol.name symbol.class ≡ true → Writes kind owner syms w symbol.ty
write_symbol kind owner syms w symbol here may = record { may = ap (may_write_symbol kind (is_owner owner w)) here ∙ may; typed = ap type_of_symbol here }

-- a variable of the compiler, or of the source
pub write_local : (kind : ShaderKind) (owner : Option ℕ) (syms : List Symbol) (w : ℕ) (ty : Ty) → At (IsLocal ty) syms w → Writes kind owner syms w ty
write_local kind owner syms w ty a =
    subst (Writes kind owner syms w) a.is.type (write_symbol kind owner syms w a.symbol a.here (⊎_elim (λ e. ap (may_write_class kind (is_owner owner w) a.symbol.name) e) (λ e. ap (may_write_class kind (is_owner owner w) a.symbol.name) e) a.is.class))

-- an output parameter
pub write_output : (kind : ShaderKind) (owner : Option ℕ) (syms : List Symbol) (w : ℕ) (symbol : Symbol) → slice_get syms w ≡ Some symbol → symbol.class ≡ C.Oparam → Writes kind owner syms w symbol.ty
write_output kind owner syms w symbol here class = write_symbol kind owner syms w symbol here (ap (may_write_class kind (is_owner owner w) symbol.name) class)

-- a parameter in its own section
pub write_own : (kind : ShaderKind) (syms : List Symbol) (w : ℕ) (p : TypedParam) (default : Option _) → At (IsParam p default) syms w → Writes kind (Some w) syms w p.ty
write_own kind syms w p default a =
    subst (Writes kind (Some w) syms w) a.is.type (write_symbol kind (Some w) syms w a.symbol a.here (ap (λ t. may_write_class kind t a.symbol.name a.symbol.class) (eq-eqb w w refl) ∙ by_output p.output a.symbol.class a.is.class))
  where
    by_output : (t : Bool) (class : Class) → class ≡ (if t then C.Oparam else C.Param) → may_write_class kind true a.symbol.name class ≡ true
    by_output true class e = ap (may_write_class kind true a.symbol.name) e
    by_output false class e = ap (may_write_class kind true a.symbol.name) e

-- a global variable that the kind of shader may assign, by the source's rule
same_rule : (kind : ShaderKind) (g : GlobalName) → source.is_assignable_global kind g ≡ true → is_assignable_in kind g ≡ true
same_rule K.Surface G.Ci h = refl
same_rule K.Volume G.Ci h = refl
same_rule K.Displacement G.P h = refl
same_rule K.Displacement G.N h = refl
same_rule kind g h = absurd (cc h)

pub write_global : (kind : ShaderKind) (owner : Option ℕ) (syms : List Symbol) (w : ℕ) (g : GlobalName) → At (IsGlobal g) syms w → source.is_assignable_global kind g ≡ true → Writes kind owner syms w (type_of_global g)
write_global kind owner syms w g a may =
    subst (Writes kind owner syms w) a.is.type (write_symbol kind owner syms w a.symbol a.here (ap (may_write_class kind (is_owner owner w) a.symbol.name) a.is.class ∙ ap (λ n. is_assignable_global kind (global_named n)) a.is.name ∙ ap (is_assignable_global kind) (named_back g) ∙ same_rule kind g may))
