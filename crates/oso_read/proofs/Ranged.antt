-- The first op at which ranges are at fault, from what a walk over the ops finds.
use Rattle.std.proofs.Common.{◌≡◌, ℕ, ◌<◌, ◌≤◌, Bool, true, false, cond, Option, Some, None, refl, arith, rules, tests}
use Rattle.std.specs.Prelude.{unwrap_or, nat_le, nat_lt}
use Rattle.std.proofs.lemmas.Bool.{ltb-true, ltb-false}
use Rattle.oso_code.specs.Walk.{if_before}
use Rattle.oso_read.specs.declared.error.OsoKind.TheVariants as kinds
use Rattle.oso_read.specs.Finds.{found}
use Rattle.oso_read.specs.Reading.{sooner}

-- a place below the end, where there is one
abbrev pub IsBelow : ℕ → Option ℕ → Type 0
IsBelow end None = Unit {0}
IsBelow end (Some p) = p < end

pub first_found : (end : ℕ) (jump deep : Option ℕ) → IsBelow end deep → found jump (if_before (unwrap_or jump end) deep) ≡ sooner jump deep
first_found end None None below = refl
first_found end (Some jump) None below = refl
first_found end None (Some deep) below = let before : nat_lt deep end ≡ true = search (rules, tests) in rw before refl
first_found end (Some jump) (Some deep) below = go (nat_lt deep jump) (nat_le jump deep) refl refl
  where
    go : (a b : Bool) → nat_lt deep jump ≡ a → nat_le jump deep ≡ b
        → found (Some jump) (cond a (Some deep) None) ≡ cond b (Some (kinds.Jump, jump)) (Some (kinds.Limit, deep))
    go true true e f =
        let lt : deep < jump = ltb-true _ _ e in
        let le : jump ≤ deep = search (rules, tests) in
        absurd (omega arith)
    go true false e f = refl
    go false true e f = refl
    go false false e f =
        let le : jump ≤ deep = ltb-false _ _ e in
        let lt : deep < jump = search (rules, tests) in
        absurd (omega arith)
