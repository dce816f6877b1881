-- Brace lists of structures: the fields in order, and zeros in the rest.
use Rattle.std.proofs.Common.{◌≡◌, ℕ, zero, suc, List, [], ◌∷◌, ◌++◌, length, map, Option, Some, false, refl, sym, ap, ◌∙◌, arith}
use Rattle.std.specs.Prelude.{slice_get, drop}
use Rattle.std.specs.List.{flat_map}
use Rattle.std.proofs.lemmas.List.{length-map}
use Rattle.osl_value.specs.declared.types.Ty.{Ty}
use Rattle.osl_value.specs.AnyValue.{AnyValue, type_of, zero_value}
use Rattle.osl_value.specs.Laws.{HasValues}
use Rattle.osl_layer.specs.Layer.{Inputs}
use Rattle.osl_overload.specs.declared.signature.Kind.TheVariants.{Structure}
use Rattle.oso_code.specs.declared.op.Op.{Op}
use Rattle.oso_code.specs.declared.symbol.Symbol.{Symbol}
use Rattle.oso_code.specs.Run as R
use Rattle.osl_typed.specs.Ends.{Next}
use Rattle.osl_typed.specs.Frames.{leaves_of}
use Rattle.osl_typed.specs.State.{State, Gives, in_order, write_leaves}
use Rattle.osl_typed.specs.Expressions.{Meaning}
use Rattle.osl_typed.specs.Statements.{with_value, listed}
use Rattle.osl_gencode.specs.Relation.{Related}
use Rattle.osl_gencode.specs.Growth.{Extends}
use Rattle.osl_gencode.specs.Bodies.{Body, Room}
use Rattle.osl_gencode.specs.Codes.{Place, AllIn, Anything, ListCode, StmtCode}
use Rattle.osl_gencode.proofs.BlockMoves.{AreLeaves, AreSources, HeldIn, MoveCode, held_by}
use Rattle.osl_gencode.proofs.OpValues.{zero_type}
use Rattle.osl_gencode.proofs.ArgumentLists.{AreZeros, numbers, in_numbers, zero_held, append_map, append_types}
use Rattle.osl_gencode.proofs.CodeLists.{code_as, in_order_then}
use Rattle.osl_gencode.proofs.CalmCode.{code_to}
use Rattle.osl_gencode.proofs.Statements.{declare_code}

-- ---- items

abbrev pub flat_items : List (List AnyValue) → List AnyValue
flat_items vss = flat_map (λ item. item) vss

-- the symbols of the leaves of all items
abbrev pub item_symbols : List Place → List ℕ
item_symbols [] = []
item_symbols (p ∷ ps) = numbers p.first (length p.types) ++ item_symbols ps

abbrev pub item_types : List Place → List Ty
item_types [] = []
item_types (p ∷ ps) = p.types ++ item_types ps

pub item_values : (ps : List Place) (vss : List (List AnyValue)) (x : R.State) → AllIn ps vss x → (map x.values (item_symbols ps) ≡ flat_items vss) × (map type_of (flat_items vss) ≡ item_types ps)
item_values [] [] x all = (refl, refl)
item_values [] (vs ∷ vss) x all = absurd all
item_values (p ∷ ps) [] x all = absurd all
item_values (p ∷ ps) (vs ∷ vss) x all =
    let rest = item_values ps vss x all.1 in (
      append_map x.values (numbers p.first (length p.types)) (item_symbols ps)
          ∙ ap (λ l. l ++ map x.values (item_symbols ps)) (in_numbers p.first p.types vs x all.0)
          ∙ ap (λ l. vs ++ l) rest.0,
      append_types vs (flat_items vss) ∙ ap (λ l. l ++ map type_of (flat_items vss)) (all.0.typed) ∙ ap (λ l. p.types ++ l) rest.1,
    )

-- ---- what is held

some_same : {X : Type 0} {u v : X} → Some u ≡ Some v → u ≡ v
some_same e = cc e

mapped : {A : Type 0} (f : A → AnyValue) (ks : List A) (vs : List AnyValue) (k : ℕ) (a : A) → map f ks ≡ vs → slice_get ks k ≡ Some a → slice_get vs k ≡ Some (f a)
mapped f [] vs k a e at = absurd (cc at)
mapped f (j ∷ ks) vs zero a e at = ap (λ z. slice_get z 0) (sym e) ∙ ap Some (ap f (some_same at))
mapped f (j ∷ ks) vs (suc k) a e at = ap (λ z. slice_get z (suc k)) (sym e) ∙ mapped f ks (map f ks) k a refl at

-- symbols, as what a block is filled from
abbrev pub as_sources : List ℕ → List (Option ℕ)
as_sources rs = map (λ r. Some r) rs

held_sources : (rs : List ℕ) (x : R.State) → map (held_by x) (as_sources rs) ≡ map x.values rs
held_sources [] x = refl
held_sources (r ∷ rs) x = ap (λ l. x.values r ∷ l) (held_sources rs x)

-- the zeros of these types are in these symbols
zeros_held : (syms syms1 : List Symbol) (types : List Ty) (zs : List (Option ℕ)) (b : Body) (src : State) (x : R.State) → AreZeros syms types zs → Extends syms syms1 → Related b syms1 src x → map (held_by x) zs ≡ map zero_value types
zeros_held syms syms1 types zs b src x z ext rel = same types zs z.count (λ k o ty at is. zero_held syms syms1 types zs x k o ty z ext rel.consts at is)
  where
    same : (us : List Ty) (os : List (Option ℕ)) → length os ≡ length us → ((k : ℕ) (o : Option ℕ) (ty : Ty) → slice_get os k ≡ Some o → slice_get us k ≡ Some ty → held_by x o ≡ zero_value ty) → map (held_by x) os ≡ map zero_value us
    same [] [] n each = refl
    same [] (o ∷ os) n each = absurd (omega (arith, n))
    same (u ∷ us) [] n each = absurd (omega (arith, n))
    same (u ∷ us) (o ∷ os) n each =
        ap (λ v. v ∷ map (held_by x) os) (each 0 o u refl refl) ∙ ap (λ l. zero_value u ∷ l) (same us os (omega (arith, n)) (λ k p t at is. each (suc k) p t at is))

append_held : (x : R.State) (os ps : List (Option ℕ)) → map (held_by x) (os ++ ps) ≡ map (held_by x) os ++ map (held_by x) ps
append_held x [] ps = refl
append_held x (o ∷ os) ps = ap (λ l. held_by x o ∷ l) (append_held x os ps)

zero_types : (types : List Ty) → ((k : ℕ) (ty : Ty) → slice_get types k ≡ Some ty → HasValues ty) → map type_of (map zero_value types) ≡ types
zero_types [] has = refl
zero_types (t ∷ types) has =
    ap (λ z. z ∷ map type_of (map zero_value types)) (zero_type t (has 0 t refl)) ∙ ap (λ l. t ∷ l) (zero_types types (λ k ty at. has (suc k) ty at))

drop_after : (xs ys : List Ty) → drop (length xs) (map zero_value (xs ++ ys)) ≡ map zero_value ys
drop_after [] ys = refl
drop_after (x ∷ xs) ys = drop_after xs ys

-- The items' types are the first leaves of the structure, and `more` is the types of the others, whose zeros are in zs.
pub record IsListed (syms : List Symbol) (types : List Ty) (ps : List Place) (more : List Ty) (zs : List (Option ℕ)) : Type 0 where
  pub leaves : types ≡ item_types ps ++ more
  pub zeros : AreZeros syms more zs
  pub has : (k : ℕ) (ty : Ty) → slice_get more k ≡ Some ty → HasValues ty

module _ (b : Body) (m : ℕ) (syms1 : List Symbol) (ps : List Place) (more : List Ty) (zs : List (Option ℕ)) (is : IsListed syms1 (leaves_of b.structures (Structure m)) ps more zs) where
  -- what the block is filled from
  abbrev pub list_sources : List (Option ℕ)
  list_sources = as_sources (item_symbols ps) ++ zs

  listed_is : (vss : List (List AnyValue)) (x : R.State) → AllIn ps vss x → listed b.structures (Structure m) vss ≡ flat_items vss ++ map zero_value more
  listed_is vss x all =
      let given = flat_items vss in
      let n : length given ≡ length (item_types ps) = sym (length-map given type_of) ∙ ap length (item_values ps vss x all).1 in
      ap (λ types. given ++ drop (length given) (map zero_value types)) is.leaves
      ∙ ap (λ k. given ++ drop k (map zero_value (item_types ps ++ more))) n
      ∙ ap (λ l. given ++ l) (drop_after (item_types ps) more)

  pub list_held : (syms : List Symbol) (vss : List (List AnyValue)) (src : State) (x : R.State) → Extends syms1 syms → Related b syms src x → AllIn ps vss x → HeldIn list_sources (leaves_of b.structures (Structure m)) (listed b.structures (Structure m) vss) x
  list_held syms vss src x ext rel all =
      let p = item_values ps vss x all in
      let value : map (held_by x) list_sources ≡ listed b.structures (Structure m) vss
      = append_held x (as_sources (item_symbols ps)) zs
      ∙ ap (λ l. l ++ map (held_by x) zs) (held_sources (item_symbols ps) x ∙ p.0)
      ∙ ap (λ l. flat_items vss ++ l) (zeros_held syms1 syms more zs b src x is.zeros ext rel)
      ∙ sym (listed_is vss x all) in
      record {
        values = λ k o at. mapped (held_by x) list_sources (listed b.structures (Structure m) vss) k o value at;
        count = sym (length-map list_sources (held_by x)) ∙ ap length value;
        typed = ap (map type_of) (listed_is vss x all)
            ∙ append_types (flat_items vss) (map zero_value more)
            ∙ ap (λ l. l ++ map type_of (map zero_value more)) p.1
            ∙ ap (λ l. item_types ps ++ l) (zero_types more is.has)
            ∙ sym is.leaves;
      }

  -- the items, and then one op for each leaf of the variable
  pub list_code : (result : List Ty) (ops0 ops1 ops2 : List Op) (syms0 : List Symbol) (k0 w : ℕ) (sems : Inputs → List Meaning) → b.calm ≡ false → Room b syms0 → AreLeaves b k0 w (leaves_of b.structures (Structure m)) → AreSources b w (length (leaves_of b.structures (Structure m))) list_sources → ListCode b ops0 ops1 syms0 syms1 ps sems → MoveCode ops1 ops2 w list_sources
      → StmtCode b result ops0 ops2 syms0 syms1 (λ inputs s. with_value (in_order (sems inputs) s (λ vss s1. Gives (listed b.structures (Structure m) vss) s1)) (λ vs s1. Next (write_leaves k0 vs s1)))
  list_code result ops0 ops1 ops2 syms0 k0 w sems loud room leaves sources c mv =
      let types = leaves_of b.structures (Structure m) in
      let Q : List AnyValue → R.State → Type 0 = λ vs x. HeldIn list_sources types vs x in
      let value = code_as b ops0 ops1 syms0 syms1 Anything Q _ _ (λ j inputs a s. sym (in_order_then (sems inputs) s (λ vss s1. Gives (listed b.structures (Structure m) vss) s1)) j) (
      code_to b ops0 ops1 syms0 syms1 Anything (AllIn ps) Q (listed b.structures (Structure m)) (λ inputs a s. in_order (sems inputs) s Gives) (λ syms vss s x ext rel all. list_held syms vss s x ext rel all) c.code) in
      declare_code b result {P = Q} ops0 ops1 ops2 syms0 syms1 list_sources types k0 w (λ inputs s. in_order (sems inputs) s (λ vss s1. Gives (listed b.structures (Structure m) vss) s1)) loud room leaves sources value (λ syms s vs x ext rel held. held) mv
