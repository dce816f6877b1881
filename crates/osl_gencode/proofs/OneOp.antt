-- What one operation of code does.
use Rattle.std.proofs.Common.{◌≡◌, ℕ, zero, suc, ◌+◌, ◌≤◌, List, [], ◌∷◌, ◌++◌, length, map, Some, true, false, refl, sym, ap, ◌∙◌, subst, arith}
use Rattle.std.specs.Prelude.{slice_get, if◌then◌else◌}
use Rattle.osl_value.specs.declared.op_name.OpName.{OpName}
use Rattle.osl_value.specs.declared.types.Ty.{Ty}
use Rattle.osl_value.specs.AnyValue.{AnyValue, type_of}
use Rattle.osl_value.specs.Apply.{apply}
use Rattle.osl_value.specs.Table.{is_control, updates}
use Rattle.osl_layer.specs.Layer.{Inputs}
use Rattle.oso_code.specs.declared.op.Op.{Op}
use Rattle.oso_code.specs.declared.symbol.Symbol.{Symbol}
use Rattle.oso_code.specs.Ops.{type_at, type_of_symbol, operands}
use Rattle.oso_code.specs.Run as R
use Rattle.oso_code.specs.Steps.{Step, Compute, step_of}
use Rattle.osl_typed.specs.State.{State, Gives}
use Rattle.osl_value.specs.Laws.{HasValues}
use Rattle.osl_value.proofs.TableLaws.{applied_type}
use Rattle.osl_gencode.specs.Bodies.{is_const, IsVariable, Body, frame_end, Room}
use Rattle.osl_gencode.specs.Relation.{IsOwn, Wired, Related, In}
use Rattle.osl_gencode.specs.RunEnds.{GivesCode}
use Rattle.osl_gencode.specs.Codes.{Code, Shows}
use Rattle.osl_gencode.specs.PartCodes.{AllOwn}
use Rattle.osl_gencode.proofs.Growing.{get_seam, get_extended, extends_on, extends_push, at_push, push_length}
use Rattle.osl_gencode.proofs.RangeRuns.{compute_leads, step_plain}
use Rattle.osl_gencode.proofs.RelatedStates.{wrote_one, related_temp, kept_temp, one_apart, room_later}

-- an operation by its name and arguments, the first of which it writes
abbrev pub op_of : OpName → ℕ → List ℕ → Op
op_of name w rs = record { name = name; args = w ∷ rs; jumps = [] }

-- no input reaches any of these symbols
abbrev pub AllUnwired : Body → List ℕ → Type 0
AllUnwired b [] = Unit {0}
AllUnwired b (r ∷ rs) = IsOwn b r × AllUnwired b rs

pub all_own : (b : Body) (inputs : Inputs) (from : R.Sources) (rs : List ℕ) → Wired b inputs from → AllUnwired b rs → AllOwn from rs
all_own b inputs from [] w all = tt
all_own b inputs from (r ∷ rs) w all = (all.0 inputs from w, all_own b inputs from rs w all.1)

pub variable_type : (syms : List Symbol) (w : ℕ) (ty : Ty) → IsVariable syms w ty → type_at syms w ≡ ty
variable_type syms w ty v = ap type_of_symbol v.here ∙ v.type

-- the step of an operation that writes a symbol of this type, and reads what stands after it
pub reading_step : (syms : List Symbol) (at : ℕ) (name : OpName) (w : ℕ) (ty : Ty) (rs : List ℕ) → is_control name ≡ false → updates name ≡ false → IsVariable syms w ty → step_of syms at (op_of name w rs) ≡ Compute name ty w rs
reading_step syms at name w ty rs plain reads v =
    step_plain syms at name w rs plain
    ∙ ap (λ t. Compute name t w (operands name (w ∷ rs))) (variable_type syms w ty v)
    ∙ ap (λ t. Compute name ty w (if t then w ∷ rs else rs)) reads

-- the step of one that reads what it writes
pub updating_step : (syms : List Symbol) (at : ℕ) (name : OpName) (w : ℕ) (ty : Ty) (rs : List ℕ) → is_control name ≡ false → updates name ≡ true → IsVariable syms w ty → step_of syms at (op_of name w rs) ≡ Compute name ty w (w ∷ rs)
updating_step syms at name w ty rs plain reads v =
    step_plain syms at name w rs plain
    ∙ ap (λ t. Compute name t w (operands name (w ∷ rs))) (variable_type syms w ty v)
    ∙ ap (λ t. Compute name ty w (if t then w ∷ rs else rs)) reads

pub in_one : (w : ℕ) (ty : Ty) (v : AnyValue) (x : R.State) → x.values w ≡ v → type_of v ≡ ty → In w (ty ∷ []) (v ∷ []) x
in_one w ty v x is typed = record { held = record { each = λ k u at. one k u at }; typed = ap (λ t. t ∷ []) typed }
  where
    one : (k : ℕ) (u : AnyValue) → slice_get (v ∷ []) k ≡ Some u → x.values (w + k) ≡ u
    one zero u at = let e : w + 0 ≡ w = omega arith in let some : Some v ≡ Some u = at in ap x.values e ∙ is ∙ cc some
    one (suc k) u at = absurd (cc at)

-- and back
pub one_value : (w : ℕ) (types : List Ty) (v : AnyValue) (vs : List AnyValue) (x : R.State) → In w types (v ∷ vs) x → x.values w ≡ v
one_value w types v vs x p = let e : w ≡ w + 0 = omega arith in ap x.values e ∙ p.held.each 0 v refl

module _ (b : Body) (from : R.Sources) (steps : List Step) (syms : List Symbol) (room : Room b syms) where
  -- an operation into a symbol after the frame
  pub op_gives : (s0 i w : ℕ) (name : OpName) (ty : Ty) (rs : List ℕ) (src : State) (x : R.State) → s0 ≤ w → frame_end b ≤ w → IsVariable syms w ty → HasValues ty → slice_get steps i ≡ Some (Compute name ty w rs) → AllOwn from rs → Related b syms src x → GivesCode b from steps syms s0 (In w (ty ∷ [])) i (i + 1) x (Gives (apply name ty (map x.values rs) ∷ []) src)
  op_gives s0 i w name ty rs src x le above var sound at own rel =
      let v = apply name ty (map x.values rs) in
      let y = R.write w v (R.ticked x) in
      let wr = wrote_one w v x in
      let held : y.values w ≡ v = (let e : w + 0 ≡ w = omega arith in ap y.values (sym e) ∙ wr.inside.each 0 v refl) in (
        y,
        record {
          leads = compute_leads from steps i w name ty rs x at own;
          related = related_temp b syms room w (v ∷ []) src x y above (one_apart b syms room w ty var) wr rel;
          kept = kept_temp b syms room s0 w (v ∷ []) x y le wr;
        },
        in_one w ty v y held (applied_type name ty (map x.values rs) sound),
      )

-- an operation that is added, with the symbol that it writes
module _ (b : Body) {A : Type 0} where
  pub op_code : (ops : List Op) (syms : List Symbol) (P : Shows A) (name : OpName) (ty : Ty) (rs : List ℕ) (symbol : Symbol) (values : A → List AnyValue) → Room b syms → is_control name ≡ false → updates name ≡ false → symbol.ty ≡ ty → is_const symbol.class ≡ false → HasValues ty → AllUnwired b rs → ((a : A) (x : R.State) → P a x → map x.values rs ≡ values a) → Code b ops (ops ++ op_of name (length syms) rs ∷ []) syms (syms ++ symbol ∷ []) P (In (length syms) (ty ∷ [])) (λ inputs a s. Gives (apply name ty (values a) ∷ []) s)
  op_code ops syms P name ty rs symbol values room plain reads typed free sound all vals =
      let w = length syms in
      let op = op_of name w rs in
      let len = push_length ops op in
      record {
        grows = record { ops = extends_push ops op; syms = extends_push syms symbol };
        runs = λ inputs from steps syms1 a src cod wired cov ext rel p.
            let here = get_extended (syms ++ symbol ∷ []) syms1 w symbol ext (get_seam syms symbol) in
            let var : IsVariable syms1 w ty = record { symbol = symbol; here = here; type = typed; free = free } in
            let room1 = room_later b syms syms1 (extends_on syms (syms ++ symbol ∷ []) syms1 (extends_push syms symbol) ext) room in
            let at = at_push syms1 steps ops op (length ops) (omega arith) cov ∙ ap Some (reading_step syms1 (length ops) name w ty rs plain reads var) in
            let done = op_gives b from steps syms1 room1 w (length ops) w name ty rs src cod (omega arith) room.within var sound at (all_own b inputs from rs wired all) rel in
            subst (λ z. GivesCode b from steps syms1 w (In w (ty ∷ [])) (length ops) z cod (Gives (apply name ty (values a) ∷ []) src)) (sym len)
            (subst (λ vs. GivesCode b from steps syms1 w (In w (ty ∷ [])) (length ops) (length ops + 1) cod (Gives (apply name ty vs ∷ []) src)) (vals a cod p) done);
      }
