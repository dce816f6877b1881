-- Arguments: a list of which each is an expression, or one is a row of a matrix; and an argument that is the only one.
use Rattle.std.proofs.Common.{◌≡◌, suc, ◌+◌, Bool, true, false, ◌||◌, if◌then◌else◌, refl, ap, sym, ◌∙◌, List, [], ◌∷◌, ◌++◌, length, map, Option, None, Some, arith, length-append}
use Rattle.std.proofs.lemmas.List.{map-append}
use Rattle.std.specs.List.{list_any}
use Rattle.osl_value.specs.declared.types.Ty.{Ty}
use Rattle.osl_typed.specs.declared.found.Found.{Found}
use Rattle.osl_typed.specs.declared.expr.TypedExpr.{TypedExpr}
use Rattle.osl_typed.specs.Typing.{◌>>=◌, sequence, expression, converted, tree_of}
use Rattle.osl_typing.specs.Pieces.{converted_alone}

-- the first is an expression unless it is a row
abbrev with_first : Bool → Found → Option (List Found) → Option (List Found)
with_first is_row a o = if◌then◌else◌ {A = Option Found} is_row None (Some a) >>= λ first. o >>= λ others. Some (first ∷ others)

pub all_expressions : (args : List Found) → list_any (λ a. a.is_row) args ≡ false → sequence (map expression args) ≡ Some args
unfolding sequence
all_expressions [] h = refl
all_expressions (a ∷ args) h = go a.is_row h (all_expressions args)
  where
    go : (t : Bool) → (t || list_any (λ (b : Found). b.is_row) args) ≡ false → (list_any (λ (b : Found). b.is_row) args ≡ false → sequence (map expression args) ≡ Some args)
        → with_first t a (sequence (map expression args)) ≡ Some (a ∷ args)
    go true k ih = absurd (cc)
    go false k ih = ap (with_first false a) (ih k)

pub no_expressions : (args : List Found) → list_any (λ a. a.is_row) args ≡ true → sequence (map expression args) ≡ None
unfolding sequence
no_expressions [] h = absurd (cc)
no_expressions (a ∷ args) h = go a.is_row h (no_expressions args)
  where
    go : (t : Bool) → (t || list_any (λ (b : Found). b.is_row) args) ≡ true → (list_any (λ (b : Found). b.is_row) args ≡ true → sequence (map expression args) ≡ None)
        → with_first t a (sequence (map expression args)) ≡ None
    go true k ih = refl
    go false k ih = ap (with_first false a) (ih k)

pub alone : (ty : Ty) (args rest : List Found) (a : Found) → length args ≡ 1 → args ≡ rest ++ a ∷ [] → converted_alone ty args ≡ converted ty a
alone ty args [] a h e = ap (converted_alone ty) e
alone ty args (x ∷ rest) a h e = absurd (let n : length args ≡ suc (length (rest ++ a ∷ [])) = ap length e in let m : length (rest ++ a ∷ []) ≡ length rest + 1 = length-append rest (a ∷ []) in omega arith)

pub one_more_tree : (args : List Found) (trees new : List TypedExpr) (a : Found) (tree : TypedExpr) → trees ≡ map tree_of args → tree ≡ tree_of a → new ≡ trees ++ tree ∷ []
    → new ≡ map tree_of (args ++ a ∷ [])
one_more_tree args trees new a tree h t e =
    e ∙ ap (λ ts. ts ++ tree ∷ []) h ∙ ap (λ (x : TypedExpr). map tree_of args ++ x ∷ []) t ∙ sym (map-append tree_of args (a ∷ []))
