-- Reading parts of a leaf, index after index.
use Rattle.std.proofs.Common.{◌≡◌, ℕ, ◌<◌, ◌≤◌, inl, inr, ⊎_elim, List, [], ◌∷◌, ◌++◌, length, map, Some, true, false, refl, sym, ap, ◌∙◌, subst, arith}
use Rattle.std.proofs.lemmas.Bool.{cond-true, cond-false}
use Rattle.std.proofs.lemmas.List.{length-map}
use Rattle.osl_value.specs.declared.op_name.OpName.{OpName}
use Rattle.osl_value.specs.declared.op_name.OpName.TheVariants.{Assign, ARef, CompRef, MxCompRef}
use Rattle.osl_value.specs.declared.types.Base.TheVariants.{Float, Matrix}
use Rattle.osl_value.specs.declared.types.Ty.{Ty}
use Rattle.osl_value.specs.AnyValue.{AnyValue, type_of, is_array, element_type}
use Rattle.osl_value.specs.Apply.{apply}
use Rattle.osl_value.specs.Types.{only, is_only}
use Rattle.oso_code.specs.declared.op.Op.{Op}
use Rattle.oso_code.specs.declared.symbol.Symbol.{Symbol}
use Rattle.oso_code.specs.Run as R
use Rattle.osl_typed.specs.Parts.{selected}
use Rattle.osl_value.specs.Laws.{HasValues}
use Rattle.osl_value.proofs.TableLaws.{applied_type}
use Rattle.osl_gencode.specs.PartCodes.{SelectCode, AllUnder, Selects, AllOwn}
use Rattle.osl_gencode.specs.Bodies.{IsNew}
use Rattle.osl_gencode.specs.RunEnds.{Leads}
use Rattle.osl_gencode.proofs.PartStores.{const_apart}
use Rattle.osl_gencode.proofs.Growing.{covers_before, extends_on, extends_push, get_seam, extends_self, push_length, at_push}
use Rattle.osl_gencode.proofs.OpValues.{copied}
use Rattle.osl_gencode.proofs.AndNode.{new_variable}
use Rattle.osl_gencode.proofs.Assignments.{map_append}
use Rattle.osl_gencode.proofs.OneOp.{reading_step, op_of}
use Rattle.osl_gencode.proofs.RangeRuns.{put_same, leads_self, compute_leads, leads_on, put_other}

-- ---- one op

pub selects_whole : (ty : Ty) (m : ℕ) → HasValues ty → Selects ty Assign ty 0 m
selects_whole ty m has = record { plain = refl; reading = refl; has = has; means = λ v is js tv n l. whole v is js tv n }
  where
    whole : (v : AnyValue) (is js : List AnyValue) → type_of v ≡ ty → length is ≡ 0 → selected ty v (is ++ js) ≡ selected ty (apply Assign ty (v ∷ is)) js
    whole v [] js tv n = ap (λ z. selected ty z js) (sym (copied v ty tv))
    whole v (i ∷ is) js tv n = absurd (omega (arith, n))

pub selects_element : (ty : Ty) (m : ℕ) → is_array ty ≡ true → HasValues (element_type ty) → Selects ty ARef (element_type ty) 1 m
unfolding selected
selects_element ty m array has = record { plain = refl; reading = refl; has = has; means = λ v is js tv n l. element v is js n }
  where
    element : (v : AnyValue) (is js : List AnyValue) → length is ≡ 1 → selected ty v (is ++ js) ≡ selected (element_type ty) (apply ARef (element_type ty) (v ∷ is)) js
    element v [] js n = absurd (omega (arith, n))
    element v (i ∷ []) js n = cond-true _ _ _ array
    element v (i ∷ (k ∷ is)) js n = absurd (omega (arith, n))

pub selects_component : (ty : Ty) → is_array ty ≡ false → is_only Matrix ty ≡ false → Selects ty CompRef (only Float) 1 0
unfolding selected
selects_component ty flat other = record { plain = refl; reading = refl; has = λ is. refl; means = λ v is js tv n l. component v is js n l }
  where
    component : (v : AnyValue) (is js : List AnyValue) → length is ≡ 1 → length js ≡ 0 → selected ty v (is ++ js) ≡ selected (only Float) (apply CompRef (only Float) (v ∷ is)) js
    component v [] js n l = absurd (omega (arith, n))
    component v (i ∷ []) [] n l = cond-false _ _ _ flat ∙ cond-false _ _ _ other
    component v (i ∷ []) (j ∷ js) n l = absurd (omega (arith, l))
    component v (i ∷ (k ∷ is)) js n l = absurd (omega (arith, n))

pub selects_entry : (ty : Ty) → is_array ty ≡ false → is_only Matrix ty ≡ true → Selects ty MxCompRef (only Float) 2 0
unfolding selected
selects_entry ty flat matrix = record { plain = refl; reading = refl; has = λ is. refl; means = λ v is js tv n l. entry v is js n l }
  where
    entry : (v : AnyValue) (is js : List AnyValue) → length is ≡ 2 → length js ≡ 0 → selected ty v (is ++ js) ≡ selected (only Float) (apply MxCompRef (only Float) (v ∷ is)) js
    entry v [] js n l = absurd (omega (arith, n))
    entry v (i ∷ []) js n l = absurd (omega (arith, n))
    entry v (i ∷ (k ∷ [])) [] n l = cond-false _ _ _ flat ∙ cond-true _ _ _ matrix
    entry v (i ∷ (k ∷ [])) (j ∷ js) n l = absurd (omega (arith, l))
    entry v (i ∷ (k ∷ (h ∷ is))) js n l = absurd (omega (arith, n))

-- ---- lists of symbols

pub under_left : (n : ℕ) (rs cs : List ℕ) → AllUnder n (rs ++ cs) → AllUnder n rs
under_left n [] cs all = tt
under_left n (r ∷ rs) cs all = (all.0, under_left n rs cs all.1)

pub under_right : (n : ℕ) (rs cs : List ℕ) → AllUnder n (rs ++ cs) → AllUnder n cs
under_right n [] cs all = all
under_right n (r ∷ rs) cs all = under_right n rs cs all.1

pub under_more : (n m : ℕ) (rs : List ℕ) → n ≤ m → AllUnder n rs → AllUnder m rs
under_more n m [] le all = tt
under_more n m (r ∷ rs) le all = let a = all.0 in (omega (arith, a, le), under_more n m rs le all.1)

pub own_left : (from : R.Sources) (rs cs : List ℕ) → AllOwn from (rs ++ cs) → AllOwn from rs
own_left from [] cs all = tt
own_left from (r ∷ rs) cs all = (all.0, own_left from rs cs all.1)

pub own_right : (from : R.Sources) (rs cs : List ℕ) → AllOwn from (rs ++ cs) → AllOwn from cs
own_right from [] cs all = all
own_right from (r ∷ rs) cs all = own_right from rs cs all.1

pub same_values : (n : ℕ) (rs : List ℕ) (x y : R.State) → ((k : ℕ) → k < n → y.values k ≡ x.values k) → AllUnder n rs → map y.values rs ≡ map x.values rs
same_values n [] x y same all = refl
same_values n (r ∷ rs) x y same all = ap (λ v. v ∷ map y.values rs) (same r all.0) ∙ ap (λ l. x.values r ∷ l) (same_values n rs x y same all.1)

-- ---- code

-- nothing is selected
pub select_none : (ops : List Op) (syms : List Symbol) (w : ℕ) (ty : Ty) → SelectCode ops ops syms syms w ty [] w ty
unfolding selected
select_none ops syms w ty = record {
  grows = record { ops = extends_self ops; syms = extends_self syms };
  place = inl (refl, refl);
  typed = λ h. h;
  runs = λ from steps syms1 old cov ext tv own above under. (old, leads_self from steps (length ops) old, record { value = refl; older = λ k lt. refl; consts = λ k symbol here is. refl; turns = refl; reads = refl }, tv);
}

-- one op, and then what is selected of what it gives
pub select_more : (ops ops1 : List Op) (syms0 syms1 : List Symbol) (w : ℕ) (ty : Ty) (name : OpName) (to : Ty) (hs rs : List ℕ) (symbol : Symbol) (r : ℕ) (last : Ty) → IsNew symbol to → Selects ty name to (length hs) (length rs) → SelectCode (ops ++ op_of name (length syms0) (w ∷ hs) ∷ []) ops1 (syms0 ++ symbol ∷ []) syms1 (length syms0) to rs r last → SelectCode ops ops1 syms0 syms1 w ty (hs ++ rs) r last
select_more ops ops1 syms0 syms1 w ty name to hs rs symbol r last new sel c =
    let t = length syms0 in
    let op = op_of name t (w ∷ hs) in
    let opsF = ops ++ op ∷ [] in
    let symsT = syms0 ++ symbol ∷ [] in
    let lF = push_length ops op in let lC = c.grows.ops.longer in let kT = push_length syms0 symbol in let kC = c.grows.syms.longer in
    record {
      grows = record { ops = extends_on ops opsF ops1 (extends_push ops op) c.grows.ops; syms = extends_on syms0 symsT syms1 (extends_push syms0 symbol) c.grows.syms };
      place = inr (⊎_elim (λ (q : (r ≡ t) × (rs ≡ [])). let e = q.0 in (omega (arith, e), omega (arith, e, kT, kC))) (λ (q : (length symsT ≤ r) × (r < length syms1)). let a = q.0 in (omega (arith, a, kT), q.1)) c.place);
      typed = λ h. c.typed (record { symbol = symbol; here = get_seam syms0 symbol; type = new.typed });
      runs = λ from steps syms old cov ext tv own above under.
          let extT = extends_on symsT syms1 syms c.grows.syms ext in
          let var = new_variable syms0 syms symbol to new extT in
          let cov1 = covers_before syms steps opsF ops1 (length ops) (length ops) (omega arith) c.grows.ops cov in
          let covC = covers_before syms steps ops1 ops1 (length ops) (length opsF) (omega (arith, lF)) (extends_self ops1) cov in
          let at = at_push syms steps ops op (length ops) (omega arith) cov1 ∙ ap Some (reading_step syms (length ops) name t to (w ∷ hs) sel.plain sel.reading var) in
          let v = apply name to (map old.values (w ∷ hs)) in
          let y = R.write t v (R.ticked old) in
          let moves = compute_leads from steps (length ops) t name to (w ∷ hs) old at (own.0, own_left from hs rs own.1) in
          let same : (k : ℕ) → k < t → y.values k ≡ old.values k = λ k lt. put_other t k v old.values (λ e. absurd (omega (arith, lt, e))) in
          let t_is : y.values t ≡ v = put_same t v old.values in
          let did = c.runs from steps syms y covC ext (ap type_of t_is ∙ applied_type name to (map old.values (w ∷ hs)) sel.has) (above t (omega arith), own_right from hs rs own.1) (λ k l. above k (omega (arith, l, kT))) (omega (arith, kT), under_more t (length symsT) rs (omega (arith, kT)) (under_right t hs rs under.1)) in
          let z = did.0 in
          let value : z.values r ≡ selected ty (old.values w) (map old.values (hs ++ rs)) = did.2.value ∙ ap (λ q. selected to q (map y.values rs)) t_is ∙ ap (selected to v) (same_values t rs old y same (under_right t hs rs under.1)) ∙ sym (sel.means (old.values w) (map old.values hs) (map old.values rs) tv (length-map hs old.values) (length-map rs old.values)) ∙ sym (ap (selected ty (old.values w)) (map_append old.values hs rs)) in (
            z,
            leads_on from steps (length ops) (length opsF) (length ops1) old y z lC (subst (λ q. Leads from steps (length ops) q old y) (sym lF) moves) did.1,
            record {
              value = value;
              older = λ k lt. did.2.older k (omega (arith, lt, kT)) ∙ same k lt;
              consts = λ k s here is. did.2.consts k s here is ∙ put_other t k v old.values (const_apart syms k t s to var here is);
              turns = did.2.turns;
              reads = did.2.reads;
            },
            did.3,
          );
    }
