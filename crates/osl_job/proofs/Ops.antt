-- The ops of a shader, and the machine that runs them.
use Rattle.std.proofs.Common.{◌≡◌, ◌≢◌, ◌⊎◌, inl, inr, ⊎_elim, ℕ, zero, suc, ◌+◌, ◌<◌, ◌≤◌, List, [], ◌∷◌, ◌++◌, length, reverse, take, drop, get_or, set, Bool, true, false, ◌&&◌, nat_lt, cond, refl, sym, ap, subst, ◌∙◌, arith, add-one, append_assoc, length-append, get_or-set_same, get_or-set_other}
use Rattle.std.specs.Prelude.{ℤ, pos}
use Rattle.std.specs.List.{list_all}
use Rattle.std.proofs.lemmas.Bool.{lt-ltb, ltb-true}
use Rattle.std.proofs.lemmas.Bool.Decides.{eqb_tells}
use Rattle.std.proofs.lemmas.List.{reverse-append, drop_all, append-nil, get_or_append_left, take_more}
use Rattle.std.proofs.lemmas.List.Folds.{list_all-append}
use Rattle.std.proofs.Math.Seq.{drop-cons, get_or-append_seam}
use Rattle.std.proofs.Math.ListN.{length-set}
use Rattle.osl_job.specs.declared.small.SumOp.{SumOp}
use Rattle.osl_job.specs.declared.small.Expr.{Expr}
use Rattle.osl_job.specs.declared.small.Expr.TheVariants as e
use Rattle.osl_job.specs.declared.small.Param.{Param}
use Rattle.osl_job.specs.declared.small.Assignment.{Assignment}
use Rattle.osl_job.specs.declared.small.SmallShader.{SmallShader}
use Rattle.osl_job.specs.SmallNames.{fits, assignment_fits}
use Rattle.osl_job.specs.SmallRun.{Environment, zeros, write, eval, exec, hold_defaults}
use Rattle.osl_job.proofs.Nodes.{eval-Const, eval-Var, eval-Apply, fits-Var, fits-Apply}
use Rattle.osl_job.specs.declared.code.Op.{Op}
use Rattle.osl_job.specs.declared.code.Op.TheVariants.{Push, Load, Apply, Store}
use Rattle.osl_job.specs.Code.{Machine, stored, act, run, op_fits, start, PushesValue, StoresValue, HoldsDefaults, Executes, StandsFor, Holds, IsMachine, Acts}
use Rattle.osl_job.specs.declared.code.State.{State}

-- ---- ops behind one another

pub run-append : (a b : List Op) (m : Machine) → run (a ++ b) m ≡ run b (run a m)
run-append [] b m = refl
run-append (op ∷ a) b m = run-append a b (act op m)

pub both_true : (a b : Bool) → a ≡ true → b ≡ true → (a && b) ≡ true
both_true true true e f = refl
both_true true false e f = f
both_true false b e f = cc

pub first_true : (a b : Bool) → (a && b) ≡ true → a ≡ true
first_true true b h = refl
first_true false b h = cc

pub second_true : (a b : Bool) → (a && b) ≡ true → b ≡ true
second_true true b h = h
second_true false b h = cc

all_within : (n : ℕ) (a b : List Op) → list_all (op_fits n) a ≡ true → list_all (op_fits n) b ≡ true → list_all (op_fits n) (a ++ b) ≡ true
all_within n a b p q = list_all-append (op_fits n) a b ∙ both_true _ _ p q

-- ---- expressions

pub pushes_const : (v : ℤ) (old new : List Op) → new ≡ old ++ Push v ∷ [] → PushesValue (e.Const v) old new
pushes_const v old new g = record {
  added = Push v ∷ [];
  grows = g;
  runs = λ m. ap (λ (x : ℤ). record { stack = x ∷ m.stack; env = m.env }) (sym (eval-Const m.env v));
  within = λ n f. refl;
}

pub pushes_var : (k : ℕ) (old new : List Op) → new ≡ old ++ Load k ∷ [] → PushesValue (e.Var k) old new
pushes_var k old new g = record {
  added = Load k ∷ [];
  grows = g;
  runs = λ m. ap (λ (x : ℤ). record { stack = x ∷ m.stack; env = m.env }) (sym (eval-Var m.env k));
  within = λ n f. both_true (nat_lt k n) true (sym (fits-Var n k) ∙ f) refl;
}

pub pushes_apply : (op : SumOp) (a b : Expr) (old mid far new : List Op) → PushesValue a old mid → PushesValue b mid far → new ≡ far ++ Apply op ∷ [] → PushesValue (e.Apply op a b) old new
pushes_apply op a b old mid far new p q g = record {
  added = (p.added ++ q.added) ++ Apply op ∷ [];
  grows = g ∙ ap (λ l. l ++ Apply op ∷ []) (q.grows ∙ ap (λ l. l ++ q.added) p.grows ∙ append_assoc old p.added q.added) ∙ append_assoc old (p.added ++ q.added) (Apply op ∷ []);
  runs = λ m.
      run-append (p.added ++ q.added) (Apply op ∷ []) m
      ∙ ap (run (Apply op ∷ [])) (run-append p.added q.added m ∙ ap (run q.added) (p.runs m) ∙ q.runs (record { stack = eval m.env a ∷ m.stack; env = m.env }))
      ∙ ap (λ (x : ℤ). record { stack = x ∷ m.stack; env = m.env }) (sym (eval-Apply m.env op a b));
  within = λ n f.
      let both = sym (fits-Apply n op a b) ∙ f in
      all_within n (p.added ++ q.added) (Apply op ∷ []) (all_within n p.added q.added (p.within n (first_true (fits n a) (fits n b) both)) (q.within n (second_true (fits n a) (fits n b) both))) refl;
}

pub stores_value : (k : ℕ) (x : Expr) (old mid new : List Op) → PushesValue x old mid → new ≡ mid ++ Store k ∷ [] → StoresValue k x old new
stores_value k x old mid new p g = record {
  added = p.added ++ Store k ∷ [];
  grows = g ∙ ap (λ l. l ++ Store k ∷ []) p.grows ∙ append_assoc old p.added (Store k ∷ []);
  runs = λ m. run-append p.added (Store k ∷ []) m ∙ ap (run (Store k ∷ [])) (p.runs m);
  within = λ n lt f. all_within n p.added (Store k ∷ []) (p.within n f) (both_true (nat_lt k n) true (lt-ltb k n lt) refl);
}

-- the same, of equal operands
pub pushes_apply_of : (op : SumOp) (a b x y : Expr) (old mid far new : List Op) → x ≡ a → y ≡ b → PushesValue x old mid → PushesValue y mid far → new ≡ far ++ Apply op ∷ []
    → PushesValue (e.Apply op a b) old new
pushes_apply_of op a b x y old mid far new p q u v g =
    pushes_apply op a b old mid far new (subst (λ (z : Expr). PushesValue z old mid) p u) (subst (λ (z : Expr). PushesValue z mid far) q v) g

-- ---- a whole shader, one store after another

list_all-at : {A : Type 0} → (p : A → Bool) (xs : List A) (i : ℕ) (d : A) → list_all p xs ≡ true → i < length xs → p (get_or xs i d) ≡ true
list_all-at p [] i d h lt = absurd (omega arith)
list_all-at p (x ∷ xs) zero d h lt = first_true (p x) (list_all p xs) h
list_all-at p (x ∷ xs) (suc i) d h lt = list_all-at p xs i d (second_true (p x) (list_all p xs) h) (omega arith)

-- the ops for the first i parameters
pub record DefaultsSoFar (params : List Param) (i : ℕ) (old now : List Op) : Type 0 where
  pub added : List Op
  pub grows : now ≡ old ++ added
  pub stack : (m : Machine) → (run added m).stack ≡ m.stack
  pub env : (m : Machine) → hold_defaults 0 params m.env ≡ hold_defaults i (drop i params) (run added m).env
  pub within : (n : ℕ) → length params ≤ n → list_all (λ p. fits n p.default) params ≡ true → list_all (op_fits n) added ≡ true

pub defaults_none : (params : List Param) (old : List Op) → DefaultsSoFar params 0 old old
defaults_none params old = record { added = []; grows = sym (append-nil old); stack = λ m. refl; env = λ m. refl; within = λ n le h. refl }

pub defaults_more : (params : List Param) (i : ℕ) (p : Param) (old now new : List Op) → i < length params → p ≡ get_or params i p
    → DefaultsSoFar params i old now → StoresValue i p.default now new → DefaultsSoFar params (i + 1) old new
defaults_more params i p old now new lt is d s =
    let front : drop i params ≡ p ∷ drop (i + 1) params = rw add-one (drop-cons params i p lt ∙ ap (λ x. x ∷ drop (suc i) params) (sym is)) in
    record {
      added = d.added ++ s.added;
      grows = s.grows ∙ ap (λ l. l ++ s.added) d.grows ∙ append_assoc old d.added s.added;
      stack = λ m. ap (λ (x : Machine). x.stack) (run-append d.added s.added m ∙ s.runs (run d.added m)) ∙ d.stack m;
      env = λ m. d.env m ∙ ap (λ l. hold_defaults i l (run d.added m).env) front
          ∙ ap (λ (x : Machine). hold_defaults (i + 1) (drop (i + 1) params) x.env) (sym (run-append d.added s.added m ∙ s.runs (run d.added m)));
      within = λ n le h.
          let here : fits n p.default ≡ true = ap (λ (x : Param). fits n x.default) is ∙ list_all-at (λ (x : Param). fits n x.default) params i p h lt in
          all_within n d.added s.added (d.within n le h) (s.within n (omega arith) here);
    }

pub defaults_all : (params : List Param) (i : ℕ) (old now : List Op) → length params ≤ i → DefaultsSoFar params i old now → HoldsDefaults params old now
defaults_all params i old now h d = record {
  added = d.added;
  grows = d.grows;
  runs = λ m. machine_is (run d.added m) m.stack (hold_defaults 0 params m.env) (d.stack m) (sym (d.env m ∙ ap (λ l. hold_defaults i l (run d.added m).env) (drop_all i params h)));
  within = d.within;
}
  where
    machine_is : (m : Machine) (stack : List ℤ) (env : Environment) → m.stack ≡ stack → m.env ≡ env → m ≡ record { stack = stack; env = env }
    machine_is m stack env p q = ap (λ s. record { stack = s; env = m.env }) p ∙ ap (λ (x : Environment). record { stack = stack; env = x }) q

-- the ops for the first i assignments
pub record BodySoFar (body : List Assignment) (i : ℕ) (old now : List Op) : Type 0 where
  pub added : List Op
  pub grows : now ≡ old ++ added
  pub stack : (m : Machine) → (run added m).stack ≡ m.stack
  pub env : (m : Machine) → exec body m.env ≡ exec (drop i body) (run added m).env
  pub within : (n : ℕ) → list_all (assignment_fits n) body ≡ true → list_all (op_fits n) added ≡ true

pub body_none : (body : List Assignment) (old : List Op) → BodySoFar body 0 old old
body_none body old = record { added = []; grows = sym (append-nil old); stack = λ m. refl; env = λ m. refl; within = λ n h. refl }

pub body_more : (body : List Assignment) (i : ℕ) (a : Assignment) (old now new : List Op) → i < length body → a ≡ get_or body i a
    → BodySoFar body i old now → StoresValue a.target a.value now new → BodySoFar body (i + 1) old new
body_more body i a old now new lt is d s =
    let front : drop i body ≡ a ∷ drop (i + 1) body = rw add-one (drop-cons body i a lt ∙ ap (λ x. x ∷ drop (suc i) body) (sym is)) in
    record {
      added = d.added ++ s.added;
      grows = s.grows ∙ ap (λ l. l ++ s.added) d.grows ∙ append_assoc old d.added s.added;
      stack = λ m. ap (λ (x : Machine). x.stack) (run-append d.added s.added m ∙ s.runs (run d.added m)) ∙ d.stack m;
      env = λ m. d.env m ∙ ap (λ l. exec l (run d.added m).env) front
          ∙ ap (λ (x : Machine). exec (drop (i + 1) body) x.env) (sym (run-append d.added s.added m ∙ s.runs (run d.added m)));
      within = λ n h.
          let here : assignment_fits n a ≡ true = ap (assignment_fits n) is ∙ list_all-at (assignment_fits n) body i a h lt in
          all_within n d.added s.added (d.within n h) (s.within n (ltb-true a.target n (first_true (nat_lt a.target n) (fits n a.value) here)) (second_true (nat_lt a.target n) (fits n a.value) here));
    }

pub body_all : (body : List Assignment) (i : ℕ) (old now : List Op) → length body ≤ i → BodySoFar body i old now → Executes body old now
body_all body i old now h d = record {
  added = d.added;
  grows = d.grows;
  runs = λ m. machine_is (run d.added m) m.stack (exec body m.env) (d.stack m) (sym (d.env m ∙ ap (λ l. exec l (run d.added m).env) (drop_all i body h)));
  within = d.within;
}
  where
    machine_is : (m : Machine) (stack : List ℤ) (env : Environment) → m.stack ≡ stack → m.env ≡ env → m ≡ record { stack = stack; env = env }
    machine_is m stack env p q = ap (λ s. record { stack = s; env = m.env }) p ∙ ap (λ (x : Environment). record { stack = stack; env = x }) q

pub stands_for : (t : SmallShader) (mid new : List Op) → HoldsDefaults t.params [] mid → Executes t.body mid new → StandsFor t new
stands_for t mid new d b =
    let is : new ≡ d.added ++ b.added = b.grows ∙ ap (λ l. l ++ b.added) d.grows in
    record {
      runs = ap (λ l. (run l start).env) is ∙ ap (λ (m : Machine). m.env) (run-append d.added b.added start ∙ ap (run b.added) (d.runs start) ∙ b.runs (record { stack = []; env = hold_defaults 0 t.params zeros }));
      within = λ h.
          let n = length t.params in
          ap (list_all (op_fits n)) is
          ∙ all_within n d.added b.added
          (d.within n (omega arith) (first_true (list_all (λ p. fits n p.default) t.params) (list_all (assignment_fits n) t.body) h))
          (b.within n (second_true (list_all (λ p. fits n p.default) t.params) (list_all (assignment_fits n) t.body) h));
    }

-- ---- the machine in memory

pub holds_set : (env : Environment) (n k : ℕ) (v : ℤ) (values : List ℤ) → k < n → Holds env n values → Holds (write k v env) n (set values k v)
unfolding write
holds_set env n k v values lt h = record {
  count = length-set values k v ∙ h.count;
  each = λ j below. ⊎_elim
      (λ (y : _).
      ap (λ i. get_or (set values k v) i (pos 0)) y.1 ∙ get_or-set_same values k v (pos 0) (omega (arith, h.count)) ∙ sym (ap (λ b. cond b v (env j)) y.0))
      (λ (y : _). get_or-set_other values k j v (pos 0) y.1 ∙ h.each j below ∙ sym (ap (λ b. cond b v (env j)) y.0))
      (eqb_tells j k);
}

pub reverse_push : (xs : List ℤ) (v : ℤ) → reverse (xs ++ v ∷ []) ≡ v ∷ reverse xs
reverse_push xs v = reverse-append xs (v ∷ [])

pub holds_push : (env : Environment) (n : ℕ) (v : ℤ) (values : List ℤ) → v ≡ env n → Holds env n values → Holds env (n + 1) (values ++ v ∷ [])
holds_push env n v values e h = record {
  count = length-append values (v ∷ []) ∙ ap (λ k. k + 1) h.count;
  each = λ k below. ⊎_elim
      (λ (inside : k < n). get_or_append_left values (v ∷ []) (pos 0) k (omega (arith, h.count)) ∙ h.each k inside)
      (λ (last : k ≡ n). ap (λ i. get_or (values ++ v ∷ []) i (pos 0)) (last ∙ sym h.count) ∙ get_or-append_seam values v [] (pos 0) ∙ e ∙ ap env (sym last))
      (below_or k n (omega arith));
}
  where
    below_or : (k n : ℕ) → k ≤ n → (k < n) ⊎ (k ≡ n)
    below_or k n le = ⊎_elim (λ (y : _). inr y.1) (λ (y : _). inl (lt_of k n le y.1)) (eqb_tells k n)
      where
        lt_of : (k n : ℕ) → k ≤ n → k ≢ n → k < n
        lt_of k n le ne = omega arith

pub holds_none : (env : Environment) → Holds env 0 []
holds_none env = record { count = refl; each = λ k below. absurd (omega arith) }

pub acts_store : (k : ℕ) (v : ℤ) (old new : State) → k < length old.vars.items → old.stack.items ≡ new.stack.items ++ v ∷ [] → new.vars.items ≡ set old.vars.items k v → Acts (Store k) old new
acts_store k v old new lt pop put =
    let count : length new.vars.items ≡ length old.vars.items = ap length put ∙ length-set old.vars.items k v in
    record {
      count = count;
      acts = λ m is.
          let top : m.stack ≡ v ∷ reverse new.stack.items = sym is.stack ∙ ap reverse pop ∙ reverse_push new.stack.items v in
          let vars : Holds (write k v m.env) (length new.vars.items) new.vars.items =
          subst (λ (n : ℕ). Holds (write k v m.env) n new.vars.items) (sym count)
          (subst (λ (l : List ℤ). Holds (write k v m.env) (length old.vars.items) l) (sym put) (holds_set m.env (length old.vars.items) k v old.vars.items lt is.vars)) in
          subst (λ (s : List ℤ). IsMachine (stored k s m.env) new) (sym top) (record { stack = refl; vars = vars });
    }

-- one op more
pub runs_more : (ops : List Op) (i : ℕ) (op : Op) (m : Machine) → i < length ops → op ≡ get_or ops i op → run (take (i + 1) ops) m ≡ act op (run (take i ops) m)
runs_more ops i op m lt is = ap (λ l. run l m) (take_more ops i op lt ∙ ap (λ x. take i ops ++ x ∷ []) (sym is)) ∙ run-append (take i ops) (op ∷ []) m

pub machine_after : (ops : List Op) (i : ℕ) (op : Op) (m : Machine) (old new : State) → i < length ops → op ≡ get_or ops i op → Acts op old new → IsMachine (run (take i ops) m) old → IsMachine (run (take (i + 1) ops) m) new
machine_after ops i op m old new lt is acts before =
    subst (λ (x : Machine). IsMachine x new) (sym (runs_more ops i op m lt is)) (acts.acts (run (take i ops) m) before)
