-- Outputs are copied back into what was passed, from left to right.
use Rattle.std.proofs.Common.{◌≡◌, ℕ, ◌+◌, ◌<◌, ◌≤◌, ◌⊎◌, inr, List, [], ◌∷◌, ◌++◌, length, map, Some, None, false, refl, sym, ap, ◌∙◌, subst, arith}
use Rattle.osl_value.specs.declared.types.Ty.{Ty}
use Rattle.osl_value.specs.AnyValue.{AnyValue, type_of}
use Rattle.osl_value.specs.Laws.{HasValues}
use Rattle.osl_layer.specs.Layer.{Inputs}
use Rattle.oso_code.specs.declared.op.Op.{Op}
use Rattle.oso_code.specs.declared.symbol.Symbol.{Symbol}
use Rattle.oso_code.specs.Run as R
use Rattle.oso_code.specs.Steps.{Step}
use Rattle.osl_typed.specs.State.{State}
use Rattle.osl_typed.specs.Parts.{Frame, with_selected, write_part, all_indices}
use Rattle.osl_typed.specs.Expressions.{Passed, Copied, Lent, copied_back}
use Rattle.osl_typed.specs.declared.expr.Part.{Part}
use Rattle.osl_typed.specs.declared.expr.Root.{Root}
use Rattle.std.proofs.lemmas.List.{length-map}
use Rattle.osl_typed.specs.Statements.{below}
use Rattle.osl_gencode.specs.PartCodes.{StoreCode, Stored, AllBelow}
use Rattle.osl_gencode.specs.CallCodes.{IndicesIn, ArgPlace, FinalsIn, BackCode}
use Rattle.osl_gencode.specs.Relation.{Related, Wired, Kept}
use Rattle.osl_gencode.specs.Growth.{Extends, Covers}
use Rattle.osl_gencode.specs.Bodies.{Body, Room, frame_end, frame_at}
use Rattle.osl_gencode.specs.RunEnds.{Leads}
use Rattle.osl_gencode.proofs.Growing.{covers_before, extends_self, extends_on, get_some, grows_on, variable_later}
use Rattle.osl_gencode.proofs.RelatedStates.{above_own, kept_on, kept_self}
use Rattle.osl_gencode.proofs.OneOp.{all_own, AllUnwired}
use Rattle.osl_gencode.proofs.RangeRuns.{leads_on, leads_self}
use Rattle.osl_gencode.proofs.Targets.{kept_target, Target, stored_type}

abbrev first_length : List (List Ty) → ℕ
first_length [] = 0
first_length (x ∷ xs) = length x

pub some_pair : {A B : Type 0} (x y : A × B) → Some x ≡ Some y → (x.0 ≡ y.0) × (x.1 ≡ y.1)
some_pair x y e = (ap (λ o. elim o [ None ↦ x.0 | Some p ↦ p.0 ]) e, ap (λ o. elim o [ None ↦ x.1 | Some p ↦ p.1 ]) e)

empty_map : (f : ℕ → AnyValue) (rs : List ℕ) → map f rs ≡ [] → rs ≡ []
empty_map f [] e = refl
empty_map f (r ∷ rs) e = absurd (cc e)

-- ---- one argument

module _ (b inner : Body) (at : ℕ) where
  -- nothing is copied back
  pub back_none : (ops : List Op) (syms0 : List Symbol) → BackCode b inner at [] ops ops syms0 syms0 []
  back_none ops syms0 = record {
    grows = record { ops = extends_self ops; syms = extends_self syms0 };
    runs = λ inputs from steps syms passed finals s old wired cov ext rel indices held types. (old, leads_self from steps (length ops) old, none inputs passed finals s old syms rel indices, kept_self b (length syms0) old);
  }
    where
      none : (inputs : Inputs) (passed : List Passed) (finals : List (List AnyValue)) (s : State) (old : R.State) (syms : List Symbol) → Related b syms s old → IndicesIn [] passed old → Related b syms (copied_back (frame_at b inputs) passed finals s) old
      none inputs [] finals s old syms rel indices = rel
      none inputs (p ∷ passed) finals s old syms rel indices = absurd indices

  -- an argument that is no output
  pub back_value : (ops : List Op) (syms0 : List Symbol) (p : ArgPlace) (types : List Ty) → p.target ≡ None → BackCode b inner at (types ∷ []) ops ops syms0 syms0 (p ∷ [])
  back_value ops syms0 p types target = record {
    grows = record { ops = extends_self ops; syms = extends_self syms0 };
    runs = λ inputs from steps syms passed finals s old wired cov ext rel indices held ts. (old, leads_self from steps (length ops) old, same inputs passed finals s old syms rel indices, kept_self b (length syms0) old);
  }
    where
      same : (inputs : Inputs) (passed : List Passed) (finals : List (List AnyValue)) (s : State) (old : R.State) (syms : List Symbol) → Related b syms s old → IndicesIn (p ∷ []) passed old → Related b syms (copied_back (frame_at b inputs) passed finals s) old
      same inputs [] finals s old syms rel indices = absurd indices
      same inputs (Copied v ∷ []) [] s old syms rel indices = rel
      same inputs (Copied v ∷ []) (f ∷ finals) s old syms rel indices = rel
      same inputs (Copied v ∷ (w ∷ more)) finals s old syms rel indices = absurd (indices.1)
      same inputs (Lent v root part is ∷ more) finals s old syms rel indices = absurd (let t = indices.0 in cc (t, target))

  -- an output that is a leaf or a part of one
  pub back_leaf : (ops0 ops1 : List Op) (syms0 syms1 : List Symbol) (p : ArgPlace) (rt : Root) (part : Part) (ty vty : Ty) (w : ℕ) → b.calm ≡ false → Room b syms0 → Target b syms0 rt part ty w → p.target ≡ Some (rt, part) → HasValues ty → (p.indices ≡ [] → vty ≡ ty)
      → AllUnwired b p.indices → AllBelow (length syms0) w p.indices → frame_end b ≤ inner.shift → inner.shift + at < length syms0
      → StoreCode ops0 ops1 syms0 syms1 w ty p.indices (inner.shift + at) → BackCode b inner at ((vty ∷ []) ∷ []) ops0 ops1 syms0 syms1 (p ∷ [])
  back_leaf ops0 ops1 syms0 syms1 p rt part ty vty w loud room t target sound same unwired below order low c =
      record {
        grows = c.grows;
        runs = λ inputs from steps syms passed finals s old wired cov ext rel indices held types.
            let v = one_final finals types in
            back inputs from steps syms passed finals s old wired cov ext rel indices held (v.0) (v.1) (v.2);
      }
    where
      one_final : (finals : List (List AnyValue)) → map (map type_of) finals ≡ (vty ∷ []) ∷ [] → (v : AnyValue) × (finals ≡ (v ∷ []) ∷ []) × (type_of v ≡ vty)
      one_final [] e = absurd (cc e)
      one_final ([] ∷ []) e = absurd (cc e)
      one_final ((v ∷ []) ∷ []) e = let q : (type_of v ∷ []) ∷ [] ≡ (vty ∷ []) ∷ [] = e in (v, refl, cc q)
      one_final ((v ∷ u ∷ vs) ∷ []) e = absurd (let n = ap first_length e in omega (arith, n))
      one_final (vs ∷ (ws ∷ more)) e = absurd (let n = ap length e in omega (arith, n))

      back : (inputs : Inputs) (from : R.Sources) (steps : List Step) (syms : List Symbol) (passed : List Passed) (finals : List (List AnyValue)) (s : State) (old : R.State) → Wired b inputs from → Covers syms steps ops1 (length ops0) → Extends syms1 syms → Related b syms s old → IndicesIn (p ∷ []) passed old → FinalsIn inner at finals old → (v : AnyValue) → finals ≡ (v ∷ []) ∷ [] → type_of v ≡ vty → (new : R.State) × Leads from steps (length ops0) (length ops1) old new × Related b syms (copied_back (frame_at b inputs) passed finals s) new × Kept b (length syms0) old new
      back inputs from steps syms [] finals s old wired cov ext rel indices held v is typed = absurd indices
      back inputs from steps syms (Copied u ∷ vs) finals s old wired cov ext rel indices held v is typed = absurd (let q = indices.0 in cc (q, target))
      back inputs from steps syms (Lent u r q js ∷ (other ∷ vs)) finals s old wired cov ext rel indices held v is typed = absurd (indices.2)
      back inputs from steps syms (Lent u r q js ∷ []) finals s old wired cov ext rel indices held v is typed =
          let rw = room.within in let tl = t.low in
          let ext0 = extends_on syms0 syms1 syms c.grows.syms ext in
          let source = inner.shift + at in
          let same_target = some_pair {A = Root} {B = Part} (rt, part) (r, q) (sym target ∙ indices.0) in
          let held1 = subst (λ z. FinalsIn inner at z old) is held in
          let v_is : old.values source ≡ v = (let z : source ≡ inner.shift + at + 0 = omega arith in ap old.values z ∙ held1.0.each 0 v refl) in
          let values : map old.values p.indices ≡ all_indices part js = indices.1 ∙ ap (λ z. all_indices z js) (sym (same_target.1)) in
          let did = c.runs from steps syms old cov ext (variable_later syms0 syms w ty ext0 t.variable) (t.own inputs from wired) (all_own b inputs from p.indices wired unwired) (above_own b syms0 room source (omega (arith, order)) inputs from wired) (λ j l. above_own b syms0 room j (omega (arith, rw, l)) inputs from wired) (omega (arith, tl, rw)) low (λ e. absurd (omega (arith, e, tl, order))) below in
          let y = did.0 in
          let x = with_selected ty (t.leaf s) (all_indices part js) v in
          let x_is : with_selected ty (old.values w) (map old.values p.indices) (old.values source) ≡ x = ap (λ z. with_selected ty z (map old.values p.indices) (old.values source)) (t.holds syms s old rel) ∙ ap (λ z. with_selected ty (t.leaf s) z (old.values source)) values ∙ ap (with_selected ty (t.leaf s) (all_indices part js)) v_is in
          let st = subst (λ z. Stored syms w z (length syms0) old y) x_is did.2 in
          let fits : type_of x ≡ ty = stored_type ty (t.leaf s) (all_indices part js) v sound (t.typed syms s old rel) (λ none. typed ∙ same (empty_map old.values p.indices (values ∙ none))) in
          let rel1 = t.related syms (length syms0) x s old y ext0 rw fits st rel in
          let means : copied_back (frame_at b inputs) (Lent u r q js ∷ []) finals s ≡ t.put x s
          = ap (λ z. copied_back (frame_at b inputs) (Lent u r q js ∷ []) z s) is
          ∙ ap (λ z. write_part (frame_at b inputs) z q js (v ∷ []) s) (sym (same_target.0))
          ∙ ap (λ z. write_part (frame_at b inputs) rt z js (v ∷ []) s) (sym (same_target.1))
          ∙ t.writes inputs js (v ∷ []) s in
          (y, did.1, subst (λ z. Related b syms z y) (sym means) rel1, kept_target b syms0 rt part ty w t loud syms (length syms0) x old y st)

-- ---- several

-- how many leaves these are
abbrev pub leaves_in : List (List Ty) → ℕ
leaves_in [] = 0
leaves_in (types ∷ more) = length types + leaves_in more

-- no code of the body writes these symbols, which are below n
abbrev pub AllSafe : Body → ℕ → List ℕ → Type 0
AllSafe b n [] = Unit {0}
AllSafe b n (r ∷ rs) = (r < n) × ((r < b.start) ⊎ (frame_end b ≤ r)) × AllSafe b n rs

abbrev pub IndicesSafe : Body → ℕ → List ArgPlace → Type 0
IndicesSafe b n [] = Unit {0}
IndicesSafe b n (p ∷ ps) = AllSafe b n p.indices × IndicesSafe b n ps

pub safe_values : (b : Body) (n : ℕ) (rs : List ℕ) (x y : R.State) → Kept b n x y → AllSafe b n rs → map y.values rs ≡ map x.values rs
safe_values b n [] x y kept all = refl
safe_values b n (r ∷ rs) x y kept all = ap (λ v. v ∷ map y.values rs) (kept.keeps r all.0 all.1) ∙ ap (λ l. x.values r ∷ l) (safe_values b n rs x y kept all.2)

safe_indices : (b : Body) (n : ℕ) (ps : List ArgPlace) (passed : List Passed) (x y : R.State) → Kept b n x y → IndicesSafe b n ps → IndicesIn ps passed x → IndicesIn ps passed y
safe_indices b n [] [] x y kept all p = tt
safe_indices b n [] (v ∷ vs) x y kept all p = absurd p
safe_indices b n (q ∷ ps) [] x y kept all p = absurd p
safe_indices b n (q ∷ ps) (Copied v ∷ vs) x y kept all p = (p.0, safe_indices b n ps vs x y kept all.1 p.1)
safe_indices b n (q ∷ ps) (Lent v root part is ∷ vs) x y kept all p = (p.0, safe_values b n q.indices x y kept all.0 ∙ p.1, safe_indices b n ps vs x y kept all.1 p.2)

-- what was passed to the first, and to the others
split_passed : (ps qs : List ArgPlace) (passed : List Passed) (x : R.State) → IndicesIn (ps ++ qs) passed x → (one : List Passed) × (two : List Passed) × (passed ≡ one ++ two) × IndicesIn ps one x × IndicesIn qs two x
split_passed [] qs passed x all = ([], passed, refl, tt, all)
split_passed (p ∷ ps) qs [] x all = absurd all
split_passed (p ∷ ps) qs (Copied v ∷ vs) x all = let r = split_passed ps qs vs x all.1 in (Copied v ∷ r.0, r.1, ap (λ l. Copied v ∷ l) r.2, (all.0, r.3), r.4)
split_passed (p ∷ ps) qs (Lent v root part is ∷ vs) x all = let r = split_passed ps qs vs x all.2 in (Lent v root part is ∷ r.0, r.1, ap (λ l. Lent v root part is ∷ l) r.2, (all.0, all.1, r.3), r.4)

abbrev rest : List (List Ty) → List (List Ty)
rest [] = []
rest (x ∷ xs) = xs

abbrev top : List (List Ty) → List Ty
top [] = []
top (x ∷ xs) = x

split_finals : (types more : List (List Ty)) (finals : List (List AnyValue)) → map (map type_of) finals ≡ types ++ more → (one : List (List AnyValue)) × (two : List (List AnyValue)) × (finals ≡ one ++ two) × (map (map type_of) one ≡ types) × (map (map type_of) two ≡ more)
split_finals [] more finals e = ([], finals, refl, refl, e)
split_finals (t ∷ types) more [] e = absurd (let n = ap length e in omega (arith, n))
split_finals (t ∷ types) more (f ∷ finals) e =
    let q : map type_of f ∷ map (map type_of) finals ≡ t ∷ (types ++ more) = e in
    let r = split_finals types more finals (tail_same q) in
    (f ∷ r.0, r.1, ap (λ l. f ∷ l) r.2, ap (λ z. z ∷ map (map type_of) r.0) (head_same q) ∙ ap (λ l. t ∷ l) r.3, r.4)
  where
    tail_same : {x y : List Ty} {xs ys : List (List Ty)} → x ∷ xs ≡ y ∷ ys → xs ≡ ys
    tail_same e = ap rest e

    head_same : {x y : List Ty} {xs ys : List (List Ty)} → x ∷ xs ≡ y ∷ ys → x ≡ y
    head_same e = ap top e

finals_left : (inner : Body) (at : ℕ) (one two : List (List AnyValue)) (x : R.State) → FinalsIn inner at (one ++ two) x → FinalsIn inner at one x
finals_left inner at [] two x all = tt
finals_left inner at (f ∷ one) two x all = (all.0, finals_left inner (at + length f) one two x all.1)

finals_right : (inner : Body) (at : ℕ) (one two : List (List AnyValue)) (x : R.State) → FinalsIn inner at (one ++ two) x → FinalsIn inner (at + leaves_in (map (map type_of) one)) two x
finals_right inner at [] two x all = let e : at ≡ at + 0 = omega arith in subst (λ z. FinalsIn inner z two x) e all
finals_right inner at (f ∷ one) two x all =
    let l = length-map f type_of in
    let e : (at + length f) + leaves_in (map (map type_of) one) ≡ at + (length (map type_of f) + leaves_in (map (map type_of) one)) = omega (arith, l) in
    subst (λ z. FinalsIn inner z two x) e (finals_right inner (at + length f) one two x all.1)

kept_finals : (b inner : Body) (n at : ℕ) (finals : List (List AnyValue)) (x y : R.State) → frame_end b ≤ inner.shift → inner.shift + at + leaves_in (map (map type_of) finals) ≤ n → Kept b n x y → FinalsIn inner at finals x → FinalsIn inner at finals y
kept_finals b inner n at [] x y order le kept all = tt
kept_finals b inner n at (f ∷ finals) x y order le kept all =
    let l = length-map f type_of in (
      record { each = λ k v here. let lt = get_some f k v here in kept.keeps (inner.shift + at + k) (omega (arith, lt, l, le)) (inr (omega (arith, order))) ∙ all.0.each k v here },
      kept_finals b inner n (at + length f) finals x y order (omega (arith, l, le)) kept all.1,
    )

back_append : (frame : Frame) (one two : List Passed) (f g : List (List AnyValue)) (s : State) → length one ≡ length f → copied_back frame (one ++ two) (f ++ g) s ≡ copied_back frame two g (copied_back frame one f s)
back_append frame [] two [] g s e = refl
back_append frame [] two (x ∷ f) g s e = absurd (omega (arith, e))
back_append frame (p ∷ one) two [] g s e = absurd (omega (arith, e))
back_append frame (p ∷ one) two (x ∷ f) g s e = back_append frame one two f g _ (omega (arith, e))

places_passed : (ps : List ArgPlace) (passed : List Passed) (x : R.State) → IndicesIn ps passed x → length passed ≡ length ps
places_passed [] [] x all = refl
places_passed [] (v ∷ vs) x all = absurd all
places_passed (p ∷ ps) [] x all = absurd all
places_passed (p ∷ ps) (Copied v ∷ vs) x all = let r = places_passed ps vs x all.1 in omega (arith, r)
places_passed (p ∷ ps) (Lent v root part is ∷ vs) x all = let r = places_passed ps vs x all.2 in omega (arith, r)

-- some arguments, and then others
pub back_then : (b inner : Body) (at : ℕ) (types more : List (List Ty)) (ops0 ops1 ops2 : List Op) (syms0 syms1 syms2 : List Symbol) (ps qs : List ArgPlace) → length ps ≡ length types → frame_end b ≤ inner.shift → inner.shift + (at + leaves_in types) + leaves_in more ≤ length syms0 → IndicesSafe b (length syms0) qs → BackCode b inner at types ops0 ops1 syms0 syms1 ps → BackCode b inner (at + leaves_in types) more ops1 ops2 syms1 syms2 qs → BackCode b inner at (types ++ more) ops0 ops2 syms0 syms2 (ps ++ qs)
back_then b inner at types more ops0 ops1 ops2 syms0 syms1 syms2 ps qs count order le safe c d =
    let l0 = c.grows.ops.longer in let l1 = d.grows.ops.longer in let ls = c.grows.syms.longer in
    record {
      grows = grows_on ops0 ops1 ops2 syms0 syms1 syms2 c.grows d.grows;
      runs = λ inputs from steps syms passed finals s old wired cov ext rel indices held typed.
          let frame = frame_at b inputs in
          let p = split_passed ps qs passed old indices in
          let f = split_finals types more finals typed in
          let heldS = subst (λ z. FinalsIn inner at z old) f.2 held in
          let ext1 = extends_on syms1 syms2 syms d.grows.syms ext in
          let did = c.runs inputs from steps syms p.0 f.0 s old wired (covers_before syms steps ops1 ops2 (length ops0) (length ops0) (omega arith) d.grows.ops cov) ext1 rel p.3 (finals_left inner at f.0 f.1 old heldS) f.3 in
          let y = did.0 in
          let right = subst (λ z. FinalsIn inner (at + leaves_in z) f.1 old) f.3 (finals_right inner at f.0 f.1 old heldS) in
          let e2 : leaves_in (map (map type_of) f.1) ≡ leaves_in more = ap leaves_in f.4 in
          let rightY = kept_finals b inner (length syms0) (at + leaves_in types) f.1 old y order (omega (arith, e2, le)) did.3 right in
          let did2 = d.runs inputs from steps syms p.1 f.1 (copied_back frame p.0 f.0 s) y wired (covers_before syms steps ops2 ops2 (length ops0) (length ops1) l0 (extends_self ops2) cov) ext did.2 (safe_indices b (length syms0) qs p.1 old y did.3 safe p.4) rightY f.4 in
          let z = did2.0 in
          let n1 = places_passed ps p.0 old p.3 in
          let n2 : length f.0 ≡ length types = sym (length-map f.0 (map type_of)) ∙ ap length f.3 in
          let means : copied_back frame passed finals s ≡ copied_back frame p.1 f.1 (copied_back frame p.0 f.0 s) = ap (λ l. copied_back frame l finals s) p.2 ∙ ap (λ l. copied_back frame (p.0 ++ p.1) l s) f.2 ∙ back_append frame p.0 p.1 f.0 f.1 s (omega (arith, n1, n2, count)) in
          (z, leads_on from steps (length ops0) (length ops1) (length ops2) old y z l1 did.1 did2.1, subst (λ q. Related b syms q z) (sym means) did2.2, kept_on b (length syms0) (length syms1) old y z ls did.3 did2.3);
    }
