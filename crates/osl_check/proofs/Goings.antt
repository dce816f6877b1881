-- Blocks, and the parts in the parentheses of a `for`.
use Rattle.std.proofs.Common.{◌≡◌, ℕ, Bool, true, length, map, refl, ap, sym, subst, ◌∙◌}
use Rattle.std.specs.Prelude.{Option, None, Some}
use Rattle.osl_names.specs.Kept.{Keeps}
use Rattle.osl_names.proofs.Keeping.{keeps_left, keeps_on}
use Rattle.osl_tree.specs.declared.expr.Expr.{Expr}
use Rattle.osl_tree.specs.declared.stmt.ForStart.{ForStart}
use Rattle.osl_tree.specs.declared.stmt.Stmt.{Stmt}
use Rattle.osl_tree.specs.declared.stmt.Stmt.TheVariants as s
use Rattle.osl_typed.specs.declared.stmt.TypedForStart.{TypedForStart}
use Rattle.osl_typed.specs.declared.stmt.TypedStmt.{TypedStmt}
use Rattle.osl_typed.specs.declared.stmt.TypedStmt.TheVariants as t
use Rattle.osl_typed.specs.Scopes.{Scope, enter, leave}
use Rattle.osl_typed.specs.Typing.{◌>>=◌}
use Rattle.osl_typed.specs.BodyTyping.{Around, going, all_typed, inside, started, condition, evaluated, maybe}
use Rattle.osl_check.specs.BodyParts.{Heading, heading, repeated}
use Rattle.osl_check.proofs.StatementLaws.{going-Empty, going-Block, going-Declare, going-Expr, going-Break, going-Continue, going-Return, going-If, going-If-Else, going-While, going-DoWhile, going-For}
use Rattle.osl_check.proofs.Walks.{IsGathered, within}

pub statements_gathered : (around : Around) (in_loop : Bool) → IsGathered (λ x scope. going around x in_loop scope) (λ xs scope. all_typed (map (going around) xs) in_loop scope)
unfolding all_typed
statements_gathered around in_loop = record { ends = λ scope. refl; takes = λ x xs scope. refl }

-- ---- after a block

-- what `Scope::leave` says
abbrev pub Leaves : ℕ → Scope → Scope → Type 0
Leaves count inner new = (outer : Scope) → length outer.bindings ≡ count → Keeps (enter outer) inner → new ≡ leave outer inner

pub left_is : (outer entered inner new : Scope) (count : ℕ) → entered ≡ enter outer → count ≡ length outer.bindings → Keeps entered inner → Leaves count inner new → new ≡ leave outer inner
left_is outer entered inner new count is counted kept left = left outer (sym counted) (subst (λ scope. Keeps scope inner) is kept)

-- what was found in a block, seen after it
abbrev pub behind_block : {A : Type 0} → Scope → Option (A × Scope) → Option (A × Scope)
behind_block outer o = o >>= λ q. Some (q.0, leave outer (q.1))

pub left_says : {A : Type 0} (go : Scope → Option (A × Scope)) (outer entered inner new : Scope) (r : A) (count : ℕ)
    → entered ≡ enter outer → count ≡ length outer.bindings → go entered ≡ Some (r, inner) → Keeps entered inner → Leaves count inner new
    → behind_block outer (go (enter outer)) ≡ Some (r, new)
left_says go outer entered inner new r count is counted went kept left =
    ap (behind_block outer) (ap go (sym is) ∙ went)
    ∙ ap (λ scope. Some (r, scope)) (sym (left_is outer entered inner new count is counted kept left))

pub left_keeps : (outer entered inner new : Scope) (count : ℕ) → entered ≡ enter outer → count ≡ length outer.bindings → Keeps entered inner → Leaves count inner new → Keeps outer new
left_keeps outer entered inner new count is counted kept left = subst (Keeps outer) (sym (left_is outer entered inner new count is counted kept left)) (keeps_left outer inner)

-- ---- the parentheses of a `for`

-- the three parts, and the scope after them
abbrev pub parts_of : {X Y : Type 0} → TypedForStart → Scope → Option X → Option Y → Option ((TypedForStart × X × Y) × Scope)
parts_of begin scope x y = x >>= λ u. y >>= λ v. Some ((begin, u, v), scope)

both_then : {X Y R : Type 0} (begin : TypedForStart) (scope : Scope) (x : Option X) (y : Option Y) (k : TypedForStart → Scope → X → Y → Option R)
    → (x >>= λ u. y >>= λ v. k begin scope u v) ≡ (parts_of begin scope x y >>= λ h. k (h.0.0) (h.1) (h.0.1) (h.0.2))
both_then begin scope None y k = refl
both_then begin scope (Some u) None k = refl
both_then begin scope (Some u) (Some v) k = refl

joined : {X Y R : Type 0} (o : Option (TypedForStart × Scope)) (f : Scope → Option X) (g : Scope → Option Y) (k : TypedForStart → Scope → X → Y → Option R)
    → (o >>= λ b. f (b.1) >>= λ x. g (b.1) >>= λ y. k (b.0) (b.1) x y)
    ≡ ((o >>= λ b. parts_of (b.0) (b.1) (f (b.1)) (g (b.1))) >>= λ h. k (h.0.0) (h.1) (h.0.1) (h.0.2))
joined None f g k = refl
joined (Some b) f g k = both_then (b.0) (b.1) (f (b.1)) (g (b.1)) k

going_for : (around : Around) (first : ForStart) (c step : Option Expr) (a : Stmt) (in_loop : Bool) (scope : Scope)
    → going around (s.For first c step a) in_loop scope
    ≡ (heading around (enter scope) first c step >>= λ h. inside (going around a) true (h.1) >>= λ r. Some (t.For (h.0.0) (h.0.1) (h.0.2) (r.0), leave scope (r.1)))
going_for around first c step a in_loop scope =
    going-For around first c step a in_loop scope
    ∙ joined (started around (enter scope) first) (λ inner. maybe (condition around inner) c) (λ inner. maybe (evaluated around inner) step)
    (λ begin inner x y. inside (going around a) true inner >>= λ r. Some (t.For begin x y (r.0), leave scope (r.1)))

-- a `for`, seen in the block that it is
abbrev pub for_inside : Around → ForStart → Option Expr → Option Expr → Stmt → Scope → Option (TypedStmt × Scope)
for_inside around first c step a scope = heading around scope first c step >>= λ h. repeated around (h.0) a (h.1)

pub going_for_block : (around : Around) (first : ForStart) (c step : Option Expr) (a : Stmt) (in_loop : Bool) (scope : Scope)
    → going around (s.For first c step a) in_loop scope ≡ behind_block scope (for_inside around first c step a (enter scope))
going_for_block around first c step a in_loop scope =
    going_for around first c step a in_loop scope
    ∙ sym (within (heading around (enter scope) first c step) (λ h. inside (going around a) true (h.1)) (λ h r. Some (t.For (h.0.0) (h.0.1) (h.0.2) (r.0), r.1)) (λ q. Some (q.0, leave scope (q.1))))

-- what a `for` is typed as, by its heading and what it repeats, read in its block
pub for_says : (around : Around) (x : Stmt) (first : ForStart) (c step : Option Expr) (a at_a : Stmt) (in_loop : Bool) (outer entered middle inner new : Scope) (head : Heading) (r : TypedStmt) (count : ℕ)
    → x ≡ s.For first c step a → at_a ≡ a → entered ≡ enter outer → count ≡ length outer.bindings
    → heading around entered first c step ≡ Some (head, middle) → Keeps entered middle → repeated around head at_a middle ≡ Some (r, inner) → Keeps middle inner
    → Leaves count inner new → going around x in_loop outer ≡ Some (r, new)
for_says around x first c step a at_a in_loop outer entered middle inner new head r count is at_is entered_is counted began began_keeps went went_keeps left =
    let whole : for_inside around first c step a entered ≡ Some (r, inner) =
    ap (λ (o : Option (Heading × Scope)). o >>= λ h. repeated around (h.0) a (h.1)) began ∙ ap (λ y. repeated around head y middle) (sym at_is) ∙ went in
    ap (λ y. going around y in_loop outer) is ∙ going_for_block around first c step a in_loop outer
    ∙ left_says (for_inside around first c step a) outer entered inner new r count entered_is counted whole (keeps_on entered middle inner began_keeps went_keeps) left

-- the laws of all forms
pub ruleset laws = (going-Empty, going-Block, going-Declare, going-Expr, going-Break, going-Continue, going-Return, going-If, going-If-Else, going-While, going-DoWhile, going_for_block)
