-- Statements that are no loops: expressions, blocks, declarations, `break`, `continue` and `return`.
use Rattle.std.proofs.Common.{◌≡◌, ℕ, ◌+◌, ◌≤◌, ◌⊎◌, inl, inr, ⊎_elim, List, [], ◌∷◌, ◌++◌, length, Option, Some, false, refl, sym, ap, ◌∙◌, subst, arith}
use Rattle.std.proofs.lemmas.List.{length-map}
use Rattle.osl_value.specs.declared.op_name.OpName.TheVariants as O
use Rattle.osl_value.specs.declared.types.Ty.{Ty}
use Rattle.osl_value.specs.AnyValue.{AnyValue, type_of}
use Rattle.osl_layer.specs.Layer.{Inputs}
use Rattle.oso_code.specs.declared.op.Op.{Op}
use Rattle.oso_code.specs.declared.symbol.Symbol.{Symbol}
use Rattle.oso_code.specs.Run as R
use Rattle.oso_code.specs.Steps.{Step, Leave, step_of, Break, Continue, Return, Way}
use Rattle.osl_typed.specs.State.{State, write_leaves}
use Rattle.osl_typed.specs.Ends.{StatementEnd, Doing, Next, Breaks, Continues, Returns, Exits, Spent, then_do, in_turn}
use Rattle.osl_typed.specs.Expressions.{Meaning}
use Rattle.osl_typed.specs.Statements.{with_value, done}
use Rattle.osl_gencode.specs.Relation.{In, Related}
use Rattle.osl_gencode.specs.Growth.{Extends, Covers}
use Rattle.osl_gencode.specs.Codes.{Code, ExprCode, StmtCode, Anything}
use Rattle.osl_gencode.specs.Bodies.{function, shader, Body, Room, frame_end, Laid}
use Rattle.osl_gencode.specs.RunEnds.{Finishes}
use Rattle.osl_gencode.proofs.BlockMoves.{IsRow, block_moves, row_sources, MoveCode, row_held, HeldIn, consts_apart, AreLeaves, AreSources, kept_block, variables_later, leaves_variables, related_block, AreVariables}
use Rattle.osl_gencode.proofs.Growing.{extends_self, extends_push, at_push, covers_before, grows_on, extends_on, push_length}
use Rattle.osl_gencode.proofs.RelatedStates.{kept_self, room_later, kept_older, related_temp}
use Rattle.osl_gencode.proofs.Sequels.{value_code, then_code}
use Rattle.osl_gencode.proofs.RangeRuns.{leads_end, leads_self, one_ends}

module _ (b : Body) (types : List Ty) where
  -- ---- nothing, and one after another

  pub nothing_code : (ops0 : List Op) (syms0 : List Symbol) → StmtCode b types ops0 ops0 syms0 syms0 (λ inputs. Next)
  nothing_code ops0 syms0 = record {
    grows = record { ops = extends_self ops0; syms = extends_self syms0 };
    runs = λ inputs from steps syms src cod wired cov ext rel. (cod, record { leads = leads_self from steps (length ops0) cod; related = rel; kept = kept_self b (length syms0) cod });
  }

  pub both_code : (ops0 ops1 ops2 : List Op) (syms0 syms1 syms2 : List Symbol) (f g : Inputs → Doing) → StmtCode b types ops0 ops1 syms0 syms1 f → StmtCode b types ops1 ops2 syms1 syms2 g → StmtCode b types ops0 ops2 syms0 syms2 (λ inputs src. then_do (f inputs src) (g inputs))
  both_code ops0 ops1 ops2 syms0 syms1 syms2 f g c d =
      let l0 = c.grows.ops.longer in let l1 = d.grows.ops.longer in let ls = c.grows.syms.longer in
      record {
        grows = grows_on ops0 ops1 ops2 syms0 syms1 syms2 c.grows d.grows;
        runs = λ inputs from steps syms src cod wired cov ext rel.
            then_code b from steps syms types (length syms0) (length syms1) (length ops0) (length ops1) (length ops2) cod (f inputs src) (g inputs) ls l1 (c.runs inputs from steps syms src cod wired (covers_before syms steps ops1 ops2 (length ops0) (length ops0) (omega arith) d.grows.ops cov) (extends_on syms1 syms2 syms d.grows.syms ext) rel) (λ s y rel1 kept1. d.runs inputs from steps syms s y wired (covers_before syms steps ops2 ops2 (length ops0) (length ops1) l0 (extends_self ops2) cov) ext rel1);
      }

  pub stmt_as : (ops0 ops1 : List Op) (syms0 syms1 : List Symbol) (f g : Inputs → Doing) → f ≡ g → StmtCode b types ops0 ops1 syms0 syms1 f → StmtCode b types ops0 ops1 syms0 syms1 g
  stmt_as ops0 ops1 syms0 syms1 f g e c = subst (StmtCode b types ops0 ops1 syms0 syms1) e c

  then_next : (o : StatementEnd) → then_do o Next ≡ o
  then_next (Next s) = refl
  then_next (Breaks s) = refl
  then_next (Continues s) = refl
  then_next (Returns vs s) = refl
  then_next (Exits s) = refl
  then_next (Spent s) = refl

  then_then : (o : StatementEnd) (f g : Doing) → then_do o (λ s. then_do (f s) g) ≡ then_do (then_do o f) g
  then_then (Next s) f g = refl
  then_then (Breaks s) f g = refl
  then_then (Continues s) f g = refl
  then_then (Returns vs s) f g = refl
  then_then (Exits s) f g = refl
  then_then (Spent s) f g = refl

  in_turn_snoc : (xs : List Doing) (x : Doing) (s : State) → in_turn (xs ++ x ∷ []) s ≡ then_do (in_turn xs s) x
  unfolding in_turn
  in_turn_snoc [] x s = then_next (x s)
  in_turn_snoc (y ∷ xs) x s = (λ j. then_do (y s) (λ s1. in_turn_snoc xs x s1 j)) ∙ then_then (y s) (in_turn xs) x

  pub block_none : (ops0 : List Op) (syms0 : List Symbol) → StmtCode b types ops0 ops0 syms0 syms0 (λ inputs. in_turn [])
  unfolding in_turn
  block_none ops0 syms0 = nothing_code ops0 syms0

  -- one statement more
  pub block_more : (ops0 ops1 ops2 : List Op) (syms0 syms1 syms2 : List Symbol) (fs : Inputs → List Doing) (g : Inputs → Doing) → StmtCode b types ops0 ops1 syms0 syms1 (λ inputs. in_turn (fs inputs)) → StmtCode b types ops1 ops2 syms1 syms2 g → StmtCode b types ops0 ops2 syms0 syms2 (λ inputs. in_turn (fs inputs ++ g inputs ∷ []))
  block_more ops0 ops1 ops2 syms0 syms1 syms2 fs g c d =
      stmt_as ops0 ops2 syms0 syms2 (λ inputs src. then_do (in_turn (fs inputs) src) (g inputs)) (λ inputs. in_turn (fs inputs ++ g inputs ∷ [])) (λ j inputs src. sym (in_turn_snoc (fs inputs) (g inputs) src) j) (both_code ops0 ops1 ops2 syms0 syms1 syms2 (λ inputs. in_turn (fs inputs)) g c d)

  -- ---- expressions

  -- an expression for what it does
  pub done_code : {P : List AnyValue → R.State → Type 0} (ops0 ops1 : List Op) (syms0 syms1 : List Symbol) (sem : Inputs → Meaning) → Code b ops0 ops1 syms0 syms1 Anything P (λ inputs u. sem inputs) → StmtCode b types ops0 ops1 syms0 syms1 (λ inputs. done (sem inputs))
  done_code {P} ops0 ops1 syms0 syms1 sem c = record {
    grows = c.grows;
    runs = λ inputs from steps syms src cod wired cov ext rel.
        value_code b from steps syms P types (length syms0) (length syms0) (length ops0) (length ops1) (length ops1) cod (sem inputs src) (λ v s. Next s) (omega arith) (omega arith) (c.runs inputs from steps syms tt src cod wired cov ext rel tt) (λ v s y rel1 kept1 p. (y, record { leads = leads_self from steps (length ops1) y; related = rel1; kept = kept_self b (length syms0) y }));
  }

  -- ---- variables

  -- A value is written into the leaves of a variable: a declaration, a default, or a structure that is assigned. Where the values are, `rs` says.
  pub declare_code : {P : List AnyValue → R.State → Type 0} (ops0 ops1 ops2 : List Op) (syms0 syms1 : List Symbol) (rs : List (Option ℕ)) (kinds : List Ty) (k0 w : ℕ) (sem : Inputs → Meaning) → b.calm ≡ false → Room b syms0 → AreLeaves b k0 w kinds → AreSources b w (length kinds) rs → Code b ops0 ops1 syms0 syms1 Anything P (λ inputs u. sem inputs) → ((syms : List Symbol) (s : State) (vs : List AnyValue) (x : R.State) → Extends syms1 syms → Related b syms s x → P vs x → HeldIn rs kinds vs x) → MoveCode ops1 ops2 w rs → StmtCode b types ops0 ops2 syms0 syms1 (λ inputs s. with_value (sem inputs s) (λ vs s1. Next (write_leaves k0 vs s1)))
  declare_code {P} ops0 ops1 ops2 syms0 syms1 rs kinds k0 w sem loud room leaves sources c held m =
      let l0 = c.grows.ops.longer in let l1 = m.grows.longer in
      record {
        grows = record { ops = extends_on ops0 ops1 ops2 c.grows.ops m.grows; syms = c.grows.syms };
        runs = λ inputs from steps syms src cod wired cov ext rel.
            let roomS = room_later b syms0 syms (extends_on syms0 syms1 syms c.grows.syms ext) room in
            value_code b from steps syms P types (length syms0) (length syms0) (length ops0) (length ops1) (length ops2) cod (sem inputs src) (λ vs s. Next (write_leaves k0 vs s)) (omega arith) l1 (c.runs inputs from steps syms tt src cod wired (covers_before syms steps ops1 ops2 (length ops0) (length ops0) (omega arith) m.grows cov) ext rel tt) (λ vs s x rel1 kept1 p.
            let h = held syms s vs x ext rel1 p in
            let did = block_moves b ops1 ops2 w rs kinds vs inputs from steps syms x m wired (covers_before syms steps ops2 ops2 (length ops0) (length ops1) l0 (extends_self ops2) cov) (leaves_variables b syms k0 w kinds roomS leaves) sources h in (
              did.0,
              record {
                leads = did.1;
                related = related_block b syms roomS k0 w kinds leaves vs s x did.0 h.typed did.2 rel1;
                kept = kept_block b syms roomS k0 w kinds leaves (length syms0) vs x did.0 loud h.typed did.2;
              },
            ));
      }

  -- ---- ways out

  abbrev pub break_op : Op
  break_op = record { name = O.Break; args = []; jumps = [] }

  abbrev pub continue_op : Op
  continue_op = record { name = O.Continue; args = []; jumps = [] }

  abbrev pub return_op : Op
  return_op = record { name = O.Return; args = []; jumps = [] }

  break_step : (syms : List Symbol) (at : ℕ) → step_of syms at break_op ≡ Leave Break
  unfolding step_of
  break_step syms at = refl

  continue_step : (syms : List Symbol) (at : ℕ) → step_of syms at continue_op ≡ Leave Continue
  unfolding step_of
  continue_step syms at = refl

  return_step : (syms : List Symbol) (at : ℕ) → step_of syms at return_op ≡ Leave Return
  unfolding step_of
  return_step syms at = refl

  -- an op that leaves its range
  leaving : (op : Op) (way : Way) (from : R.Sources) (steps : List Step) (syms : List Symbol) (ops0 : List Op) (start : ℕ) (x : R.State) → start ≤ length ops0 → step_of syms (length ops0) op ≡ Leave way → Covers syms steps (ops0 ++ op ∷ []) start → Finishes from steps (length ops0) (length (ops0 ++ op ∷ [])) x (R.Jumps way (R.ticked x))
  leaving op way from steps syms ops0 start x le is cov =
      let at = at_push syms steps ops0 op start le cov ∙ ap Some is in
      subst (λ z. Finishes from steps (length ops0) z x (R.Jumps way (R.ticked x))) (sym (push_length ops0 op)) (one_ends from steps (length ops0) x (R.Jumps way (R.ticked x)) (Leave way) at (λ g e. refl))

  related_tick : (syms : List Symbol) (s : State) (x : R.State) → Related b syms s x → Related b syms s (R.ticked x)
  related_tick syms s x rel = record { vars = rel.vars; typed = rel.typed; globals = rel.globals; global_types = rel.global_types; turns = rel.turns; reads = rel.reads; consts = rel.consts }

  pub break_code : (ops0 : List Op) (syms0 : List Symbol) → StmtCode b types ops0 (ops0 ++ break_op ∷ []) syms0 syms0 (λ inputs. Breaks)
  break_code ops0 syms0 = record {
    grows = record { ops = extends_push ops0 break_op; syms = extends_self syms0 };
    runs = λ inputs from steps syms src cod wired cov ext rel.
        (R.ticked cod, record { finishes = leaving break_op Break from steps syms ops0 (length ops0) cod (omega arith) (break_step syms (length ops0)) cov; related = related_tick syms src cod rel; kept = kept_older b (length syms0) cod (R.ticked cod) (λ k h. refl) });
  }

  pub continue_code : (ops0 : List Op) (syms0 : List Symbol) → StmtCode b types ops0 (ops0 ++ continue_op ∷ []) syms0 syms0 (λ inputs. Continues)
  continue_code ops0 syms0 = record {
    grows = record { ops = extends_push ops0 continue_op; syms = extends_self syms0 };
    runs = λ inputs from steps syms src cod wired cov ext rel.
        (R.ticked cod, record { finishes = leaving continue_op Continue from steps syms ops0 (length ops0) cod (omega arith) (continue_step syms (length ops0)) cov; related = related_tick syms src cod rel; kept = kept_older b (length syms0) cod (R.ticked cod) (λ k h. refl) });
  }

  -- a return without a value
  pub return_code : (ops0 : List Op) (syms0 : List Symbol) → types ≡ [] → StmtCode b types ops0 (ops0 ++ return_op ∷ []) syms0 syms0 (λ inputs. Returns [])
  return_code ops0 syms0 none = record {
    grows = record { ops = extends_push ops0 return_op; syms = extends_self syms0 };
    runs = λ inputs from steps syms src cod wired cov ext rel. (
      R.ticked cod,
      record {
        finishes = leaving return_op Return from steps syms ops0 (length ops0) cod (omega arith) (return_step syms (length ops0)) cov;
        related = related_tick syms src cod rel;
        kept = λ k h o. refl;
        value = record { each = λ k v at. absurd (cc at) };
        typed = sym none;
      },
    );
  }

  -- a return with a value, which is moved into the symbols after the frame
  pub return_value_code : (ops0 ops1 ops2 : List Op) (syms0 syms1 : List Symbol) (r : ℕ) (rs : List (Option ℕ)) (sem : Inputs → Meaning) → Room b syms0 → frame_end b + length types ≤ length syms0 → AreVariables syms0 (frame_end b) types → IsRow rs r (length types) → (r + length types ≤ frame_end b) ⊎ (frame_end b + length types ≤ r) → ExprCode b ops0 ops1 syms0 syms1 r types sem → MoveCode ops1 ops2 (frame_end b) rs → StmtCode b types ops0 (ops2 ++ return_op ∷ []) syms0 syms1 (λ inputs s. with_value (sem inputs s) (λ v s1. Returns v s1))
  return_value_code ops0 ops1 ops2 syms0 syms1 r rs sem room within vars row apart c m =
      let w = frame_end b in
      let opsR = ops2 ++ return_op ∷ [] in
      let l0 = c.code.grows.ops.longer in let l1 = m.grows.longer in let lR = push_length ops2 return_op in
      let to = extends_on ops1 ops2 opsR m.grows (extends_push ops2 return_op) in
      record {
        grows = record { ops = extends_on ops0 ops1 opsR c.code.grows.ops to; syms = c.code.grows.syms };
        runs = λ inputs from steps syms src cod wired cov ext rel.
            let ext0 = extends_on syms0 syms1 syms c.code.grows.syms ext in
            let roomS = room_later b syms0 syms ext0 room in
            let cov2 = covers_before syms steps ops2 opsR (length ops0) (length ops0) (omega arith) (extends_push ops2 return_op) cov in
            value_code b from steps syms (In r types) types (length syms0) (length syms0) (length ops0) (length ops1) (length opsR) cod (sem inputs src) (λ v s. Returns v s) (omega arith) to.longer (c.code.runs inputs from steps syms tt src cod wired (covers_before syms steps ops1 opsR (length ops0) (length ops0) (omega arith) to cov) ext rel tt) (λ v s x rel1 kept1 p.
            let varsS = variables_later syms0 syms w types ext0 vars in
            let did = block_moves b ops1 ops2 w rs types v inputs from steps syms x m wired (covers_before syms steps ops2 ops2 (length ops0) (length ops1) l0 (extends_self ops2) cov2) varsS (row_sources b w r (length types) rs row c.own apart) (row_held rs r types v x row p) in
            let y = did.0 in
            let n : length v ≡ length types = sym (length-map v type_of) ∙ ap length p.typed in
            let rel2 = related_temp b syms roomS w v s x y (omega arith) (λ k symbol here is. ⊎_elim (λ a. inl a) (λ g. inr (omega (arith, g, n))) (consts_apart syms w types varsS k symbol here is)) did.2 rel1 in
            let ends = leaving return_op Return from steps syms ops2 (length ops0) y (omega (arith, l0, l1)) (return_step syms (length ops2)) cov in (
              R.ticked y,
              record {
                finishes = leads_end from steps (length ops1) (length ops2) (length opsR) x y (R.Jumps Return (R.ticked y)) (omega (arith, lR)) did.1 ends;
                related = related_tick syms s y rel2;
                kept = λ k h o. did.2.outside k (⊎_elim (λ l. inl (let f = first roomS in omega (arith, l, f))) (λ g. inr (omega (arith, g, n))) o);
                value = did.2.inside;
                typed = p.typed;
              },
            ));
      }
    where
      first : {syms : List Symbol} → Room b syms → b.start ≤ frame_end b
      first roomS = by_laid roomS.laid
        where
          by_laid : Laid b → b.start ≤ frame_end b
          by_laid (shader e1 e2 e3 e4) = omega (arith, e1)
          by_laid (function e1 e2 e3 e4) = omega (arith, e1)
