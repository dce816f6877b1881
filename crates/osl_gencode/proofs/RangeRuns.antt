-- How runs of ranges compose, and what one op does.
use Rattle.std.proofs.Common.{◌≡◌, ℕ, zero, suc, ◌+◌, ◌<◌, ◌≤◌, ◌≢◌, List, [], ◌∷◌, map, Some, Bool, true, false, refl, ap, ◌∙◌, arith}
use Rattle.std.specs.Prelude.{slice_get, if◌then◌else◌}
use Rattle.std.proofs.lemmas.Bool.{eq-eqb, ne_eqb}
use Rattle.osl_value.specs.AnyValue.{AnyValue}
use Rattle.osl_value.specs.Apply.{apply}
use Rattle.osl_value.specs.declared.op_name.OpName.{OpName}
use Rattle.osl_value.specs.declared.op_name.OpName.TheVariants as O
use Rattle.osl_value.specs.declared.types.Ty.{Ty}
use Rattle.osl_value.specs.Table.{is_control}
use Rattle.oso_code.specs.declared.symbol.Symbol.{Symbol}
use Rattle.oso_code.specs.Ops.{type_at, operands}
use Rattle.oso_code.specs.Run as R
use Rattle.oso_code.specs.Steps.{Step, Compute, Branch, span, step_of}
use Rattle.oso_code.proofs.Steady.{run_more, run_past}
use Rattle.osl_value.specs.declared.op_name.OpName.TheVariants.{If}
use Rattle.osl_gencode.specs.RunEnds.{Leads, Finishes}
use Rattle.osl_gencode.specs.PartCodes.{AllOwn}

-- ---- the values of symbols

pub put_same : {X : Type 0} (k : ℕ) (v : X) (f : ℕ → X) → R.put k v f k ≡ v
unfolding R.put
put_same k v f = ap (λ b. if b then v else f k) (eq-eqb k k refl)

pub put_other : {X : Type 0} (k j : ℕ) (v : X) (f : ℕ → X) → j ≢ k → R.put k v f j ≡ f j
unfolding R.put
put_other k j v f ne = ap (λ b. if b then v else f j) (ne_eqb j k ne)

-- ---- decoding

pub step_plain : (symbols : List Symbol) (at : ℕ) (name : OpName) (w : ℕ) (rs : List ℕ) → is_control name ≡ false → step_of symbols at (record { name = name; args = w ∷ rs; jumps = [] }) ≡ Compute name (type_at symbols w) w (operands name (w ∷ rs))
unfolding step_of
step_plain symbols at O.If w rs h = absurd (cc h)
step_plain symbols at O.For w rs h = absurd (cc h)
step_plain symbols at O.While w rs h = absurd (cc h)
step_plain symbols at O.DoWhile w rs h = absurd (cc h)
step_plain symbols at O.FunctionCall w rs h = absurd (cc h)
step_plain symbols at O.Break w rs h = absurd (cc h)
step_plain symbols at O.Continue w rs h = absurd (cc h)
step_plain symbols at O.Return w rs h = absurd (cc h)
step_plain symbols at O.Exit w rs h = absurd (cc h)
step_plain symbols at name w rs h = refl

module _ (from : R.Sources) (steps : List Step) where
  -- one op of a range
  pub step : (f i e : ℕ) (s : R.State) → i < e → e ≤ f + i → (g : ℕ) × (e ≤ g + (i + 1)) × (R.run from steps f i e s ≡ R.act from (R.run from steps g) (slice_get steps i) i e (R.ticked s))
  step zero i e s lt le = absurd (omega arith)
  step (suc f) i e s lt le = (f, omega arith, run_more from steps f i e s lt)

  pub at_end : (g e : ℕ) (s : R.State) → R.run from steps g e e s ≡ R.Next s
  at_end g e s = run_past from steps g e e s (omega arith)

  pub leads_self : (i : ℕ) (s : R.State) → Leads from steps i i s s
  leads_self i s = record { by = λ f e le en. (f, en, refl) }

  pub leads_on : (i m e : ℕ) (a b c : R.State) → m ≤ e → Leads from steps i m a b → Leads from steps m e b c → Leads from steps i e a c
  leads_on i m e a b c le k l =
      record { by = λ f x lx en. let p = k.by f x (omega arith) en in let q = l.by p.0 x lx p.1 in (q.0, q.1, p.2 ∙ q.2) }

  pub leads_end : (i m e : ℕ) (a b : R.State) (o : R.Outcome) → m ≤ e → Leads from steps i m a b → Finishes from steps m e b o → Finishes from steps i e a o
  leads_end i m e a b o le k l =
      record { by = λ f x lx en. let p = k.by f x (omega arith) en in p.2 ∙ l.by p.0 x lx p.1 }

  pub end_later : (i m e : ℕ) (a : R.State) (o : R.Outcome) → m ≤ e → Finishes from steps i m a o → Finishes from steps i e a o
  end_later i m e a o le k = record { by = λ f x lx en. k.by f x (omega arith) en }

  pub one_leads : (i : ℕ) (a b : R.State) (one : Step) → slice_get steps i ≡ Some one → ((g e : ℕ) → R.act from (R.run from steps g) (Some one) i e (R.ticked a) ≡ R.run from steps g (i + 1) e b) → Leads from steps i (i + 1) a b
  one_leads i a b one at does =
      record { by = λ f e le en. let p = step f i e a (omega arith) en in (p.0, p.1, p.2 ∙ ap (λ o. R.act from (R.run from steps p.0) o i e (R.ticked a)) at ∙ does p.0 e) }

  pub one_ends : (i : ℕ) (a : R.State) (o : R.Outcome) (one : Step) → slice_get steps i ≡ Some one → ((g e : ℕ) → R.act from (R.run from steps g) (Some one) i e (R.ticked a) ≡ o) → Finishes from steps i (i + 1) a o
  one_ends i a o one at does =
      record { by = λ f e le en. let p = step f i e a (omega arith) en in p.2 ∙ ap (λ q. R.act from (R.run from steps p.0) q i e (R.ticked a)) at ∙ does p.0 e }

  -- a whole range
  pub whole : (i m f : ℕ) (a b : R.State) → m ≤ f + i → Leads from steps i m a b → R.run from steps f i m a ≡ R.Next b
  whole i m f a b le k = let p = k.by f m (omega arith) le in p.2 ∙ at_end p.0 m b

  pub whole_end : (i m f : ℕ) (a : R.State) (o : R.Outcome) → m ≤ f + i → Finishes from steps i m a o → R.run from steps f i m a ≡ o
  whole_end i m f a o le k = k.by f m (omega arith) le

  -- ---- operations

  pub args_own : (rs : List ℕ) (s : R.State) (go : List AnyValue → R.State → R.Outcome) → AllOwn from rs → R.arguments from rs s go ≡ go (map s.values rs) s
  args_own [] s go own = refl
  args_own (r ∷ rs) s go own =
      ap (λ x. R.with_value (R.read_from x r s) (λ v s1. R.arguments from rs s1 (λ vs s2. go (v ∷ vs) s2))) own.0
      ∙ args_own rs s (λ vs s2. go (s.values r ∷ vs) s2) own.1

  pub compute_leads : (i w : ℕ) (name : OpName) (ty : Ty) (rs : List ℕ) (s : R.State) → slice_get steps i ≡ Some (Compute name ty w rs) → AllOwn from rs → Leads from steps i (i + 1) s (R.write w (apply name ty (map s.values rs)) (R.ticked s))
  compute_leads i w name ty rs s at own =
      one_leads i s _ (Compute name ty w rs) at (λ g e. args_own rs (R.ticked s) (λ vs s1. R.run from steps g (i + 1) e (R.write w (apply name ty vs) s1)) own)

  -- ---- branches

  pub branch_step : (i c a e x f : ℕ) (s : R.State) → slice_get steps i ≡ Some (Branch c (span (i + 1) a) (span a e)) → from c ≡ R.Own → i < a → a ≤ e → e ≤ x → x ≤ f + i → (g : ℕ) × (x ≤ g + (i + 1)) × (R.run from steps f i x s ≡ R.then_do (R.either (R.is_so (s.values c)) (R.run from steps g (i + 1) a) (R.run from steps g a e) (R.ticked s)) (R.run from steps g e x))
  branch_step i c a e x f s at own l1 l2 l3 en =
      let p = step f i x s (omega arith) en in
      (p.0, p.1, p.2 ∙ ap (λ o. R.act from (R.run from steps p.0) o i x (R.ticked s)) at ∙ ap (λ z. R.with_value (R.read_from z c (R.ticked s)) (λ v s1. R.then_do (R.either (R.is_so v) (R.run from steps p.0 (i + 1) a) (R.run from steps p.0 a e) s1) (R.run from steps p.0 e x))) own)

  -- the range of the branch that is taken
  abbrev pub taken_from : Bool → ℕ → ℕ → ℕ
  taken_from true i a = i + 1
  taken_from false i a = a

  abbrev pub taken_to : Bool → ℕ → ℕ → ℕ
  taken_to true a e = a
  taken_to false a e = e

  branch_is : (t : Bool) (g i a e : ℕ) (s : R.State) → R.either t (R.run from steps g (i + 1) a) (R.run from steps g a e) s ≡ R.run from steps g (taken_from t i a) (taken_to t a e) s
  branch_is true g i a e s = refl
  branch_is false g i a e s = refl

  branch_order : (t : Bool) (i a e : ℕ) → i < a → a ≤ e → (i < taken_from t i a) × (taken_from t i a ≤ taken_to t a e) × (taken_to t a e ≤ e)
  branch_order true i a e l1 l2 = (omega arith, omega arith, omega arith)
  branch_order false i a e l1 l2 = (omega arith, omega arith, omega arith)

  pub branch_leads : (t : Bool) (i c a e : ℕ) (s b : R.State) → slice_get steps i ≡ Some (Branch c (span (i + 1) a) (span a e)) → from c ≡ R.Own → i < a → a ≤ e → R.is_so (s.values c) ≡ t → Leads from steps (taken_from t i a) (taken_to t a e) (R.ticked s) b → Leads from steps i e s b
  branch_leads t i c a e s b at own l1 l2 is k =
      record {
        by = λ f x lx en.
            let p = branch_step i c a e x f s at own l1 l2 lx en in
            let o = branch_order t i a e l1 l2 in
            let o0 = o.0 in let o1 = o.1 in let o2 = o.2 in let p1 = p.1 in
            (p.0, omega (arith, p1, l1, l2), p.2 ∙ ap (λ z. R.then_do (R.either z (R.run from steps p.0 (i + 1) a) (R.run from steps p.0 a e) (R.ticked s)) (R.run from steps p.0 e x)) is ∙ ap (λ z. R.then_do z (R.run from steps p.0 e x)) (branch_is t p.0 i a e (R.ticked s) ∙ whole (taken_from t i a) (taken_to t a e) p.0 (R.ticked s) b (omega (arith, o0, o1, o2, p1, lx)) k));
      }

  -- an outcome that ends what stands around it
  abbrev pub IsEnd : R.Outcome → Type 0
  IsEnd o = (go : R.State → R.Outcome) → R.then_do o go ≡ o

  pub branch_ends : (t : Bool) (i c a e : ℕ) (s : R.State) (o : R.Outcome) → IsEnd o → slice_get steps i ≡ Some (Branch c (span (i + 1) a) (span a e)) → from c ≡ R.Own → i < a → a ≤ e → R.is_so (s.values c) ≡ t → Finishes from steps (taken_from t i a) (taken_to t a e) (R.ticked s) o → Finishes from steps i e s o
  branch_ends t i c a e s o over at own l1 l2 is k =
      record {
        by = λ f x lx en.
            let p = branch_step i c a e x f s at own l1 l2 lx en in
            let q = branch_order t i a e l1 l2 in
            let o0 = q.0 in let o1 = q.1 in let o2 = q.2 in let p1 = p.1 in
            p.2 ∙ ap (λ z. R.then_do (R.either z (R.run from steps p.0 (i + 1) a) (R.run from steps p.0 a e) (R.ticked s)) (R.run from steps p.0 e x)) is ∙ ap (λ z. R.then_do z (R.run from steps p.0 e x)) (branch_is t p.0 i a e (R.ticked s) ∙ whole_end (taken_from t i a) (taken_to t a e) p.0 (R.ticked s) o (omega (arith, o0, o1, o2, p1, lx)) k) ∙ over (R.run from steps p.0 e x);
      }
