use Rattle.std.proofs.Common.{◌≡◌, ◌||◌, ◌<◌, false, not, [], ◌∷◌, length, ap, sym, ◌∙◌, subst, refl}
use Rattle.std.specs.Prelude.{◌&&◌}
use Rattle.std.proofs.lemmas.List.{length-set}
use Rattle.std.proofs.lemmas.List.Elements.{All-head, All-weaker}
use Rattle.oso_code.specs.Uses.{reads_on_entry, written_by}
use Rattle.oso_step.specs.Decoded.{seen_step}
use Rattle.osl_flow.specs.Rows.{UsesBelow, is_symbol}
use Rattle.osl_flow.specs.Uses.{bit, has}
use Rattle.osl_flow.proofs.Bits.{set_one, and_true}
use Rattle.osl_flow.proofs.rows.pass_step.Goals as goal

pub set-requires : goal.set-requires
set-requires c =
    let u = subst (λ s. UsesBelow (length c.args.more.now) (seen_step [] s)) c.in-Compute.is (c.requires []) in
    u.written c.in-Compute.target refl

pub set_all-requires : goal.set_all-requires
set_all-requires c =
    let u = subst (λ s. UsesBelow (length c.args.more.now) (seen_step [] s)) c.in-Compute.is (c.requires []) in
    let e : length c.set.new.self ≡ length c.args.more.now = ap length c.set.ensures ∙ length-set c.args.more.now c.in-Compute.target false in
    All-weaker (λ k. k < length c.args.more.now) (λ k. k < length c.set.new.self) (λ k lt. subst (λ n. k < n) (sym e) lt) c.in-Compute.sources.now u.entry

pub set-requires-in-Branch : goal.set-requires-in-Branch
set-requires-in-Branch c =
    let u = subst (λ s. UsesBelow (length c.args.more.now) (seen_step [] s)) c.in-Branch.is (c.requires []) in
    All-head (λ k. k < length c.args.more.now) c.in-Branch.c [] u.entry

pub returns-in-Branch-clause-bits : goal.returns-in-Branch-clause-bits
returns-in-Branch-clause-bits c = λ symbols k.
    let u = subst (λ s. UsesBelow (length c.args.more.now) (seen_step [] s)) c.in-Branch.is (c.requires []) in
    let lt = All-head (λ k. k < length c.args.more.now) c.in-Branch.c [] u.entry in
    ap (λ row. bit row k) c.set-in-Branch.ensures ∙ set_one c.args.more.now c.in-Branch.c k lt
    ∙ ap (λ b. b || has (c.in-Branch.c ∷ []) k) (sym (and_true (bit c.args.more.now k)))
    ∙ sym (ap (λ s. (bit c.args.more.now k && not (is_symbol (written_by (seen_step symbols s)) k)) || has (reads_on_entry (seen_step symbols s)) k) c.in-Branch.is)
