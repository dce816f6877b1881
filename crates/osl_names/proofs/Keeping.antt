-- A scope keeps what there was before it.
use Rattle.std.proofs.Common.{◌≡◌, ℕ, ◌+◌, ◌-◌, Bool, List, [], ◌∷◌, ◌++◌, length, drop, refl, sym, ap, ◌∙◌, append_assoc, arith, length-append}
use Rattle.std.proofs.Math.Seq.{drop-append_seam}
use Rattle.osl_overload.specs.declared.signature.Kind.{Kind}
use Rattle.osl_typed.specs.declared.found.Binding.{Binding}
use Rattle.osl_typed.specs.Scopes.{Scope, with_variable, enter, leave}
use Rattle.osl_names.specs.Kept.{Keeps}

pub keeps_itself : (s : Scope) → Keeps s s
keeps_itself s = record { more = []; bindings = refl; depth = refl }

pub keeps_on : (a b c : Scope) → Keeps a b → Keeps b c → Keeps a c
keeps_on a b c p q = record {
  more = q.more ++ p.more;
  bindings = q.bindings ∙ ap (λ bs. q.more ++ bs) p.bindings ∙ sym (append_assoc q.more p.more a.bindings);
  depth = q.depth ∙ p.depth;
}

pub keeps_with : (name : List ℕ) (kind : Kind) (writable : Bool) (s : Scope) → Keeps s (with_variable name kind writable s)
keeps_with name kind writable s = record { more = _ ∷ []; bindings = refl; depth = refl }

pub keeps_left : (outer inner : Scope) → Keeps outer (leave outer inner)
keeps_left outer inner = record { more = []; bindings = refl; depth = refl }

-- after what was put before it a list is as it was
behind : {A : Type 0} (all more rest : List A) → all ≡ more ++ rest → drop (length all - length rest) all ≡ rest
behind all more rest e =
    let n : length all - length rest ≡ length more =
    let l : length all ≡ length more + length rest = ap length e ∙ length-append more rest in omega arith in
    ap (λ k. drop k all) n ∙ ap (drop (length more)) e ∙ drop-append_seam more rest

-- where the bindings of a block are taken back
pub left_is : (outer inner : Scope) → Keeps (enter outer) inner → (count depth : ℕ) (bindings : List Binding) → length outer.bindings ≡ count
    → bindings ≡ drop (length inner.bindings - count) inner.bindings → depth ≡ inner.depth - 1
    → record { bindings = bindings; depth = depth; kinds = inner.kinds } ≡ leave outer inner
left_is outer inner keeps count depth bindings counted e d =
    let b : bindings ≡ outer.bindings = e ∙ ap (λ n. drop (length inner.bindings - n) inner.bindings) (sym counted) ∙ behind inner.bindings keeps.more outer.bindings keeps.bindings in
    let n : depth ≡ outer.depth = let k : inner.depth ≡ outer.depth + 1 = keeps.depth in omega arith in
    λ i. record { bindings = b i; depth = n i; kinds = inner.kinds }
