-- A layer's run from its code gives what its run from its source gives.
use Rattle.std.proofs.Common.{◌≡◌, ℕ, zero, suc, ◌+◌, ◌<◌, ◌≤◌, List, [], ◌∷◌, length, map, Some, None, true, false, sym, ap, ◌∙◌, subst, arith}
use Rattle.std.specs.Prelude.{slice_get, ◌&&◌}
use Rattle.osl_value.specs.declared.point.Point.{Point}
use Rattle.osl_value.specs.declared.types.Ty.{Ty}
use Rattle.osl_value.specs.AnyValue.{parts_of}
use Rattle.osl_layer.specs.Globals.{global_text}
use Rattle.osl_layer.specs.Layer.{Inputs, Parameter, AreInputs}
use Rattle.osl_layer.specs.declared.global.GlobalName.TheVariants as G
use Rattle.osl_typed.specs.declared.shader.TypedParam.{TypedParam}
use Rattle.osl_typed.specs.declared.shader.TypedShader.{TypedShader}
use Rattle.osl_typed.specs.State.{State}
use Rattle.osl_typed.specs.Ends.{StatementEnd, Doing, Next, Breaks, Continues, Returns, Exits, Spent}
use Rattle.osl_typed.specs.Statements.{exec_all}
use Rattle.osl_typed.specs.SourceRun as source
use Rattle.oso_code.specs.declared.op.Op.{Op}
use Rattle.oso_code.specs.declared.op.Section.{Section}
use Rattle.oso_code.specs.declared.raw.Raw.{Raw}
use Rattle.oso_code.specs.declared.symbol.Symbol.{Symbol}
use Rattle.oso_code.specs.CodeRun as code
use Rattle.oso_code.specs.declared.symbol.Class.TheVariants as C
use Rattle.oso_code.specs.Symbols.{is_global}
use Rattle.std.specs.Str.{bytes_eq}
use Rattle.oso_code.specs.Ranges.{steps_of}
use Rattle.oso_code.specs.Run as R
use Rattle.oso_code.proofs.Decoding.{length_steps, steps_get}
use Rattle.osl_typed.specs.SourceRun.{source_run}
use Rattle.oso_code.specs.CodeRun.{code_run, sources_of, start_of, outputs_from, is_ci, closure_from}
use Rattle.osl_gencode.specs.Relation.{Wired, Related}
use Rattle.osl_typed_runs.specs.Parameters.{parameters_of}
use Rattle.osl_gencode.specs.Growth.{Covers, Extends}
use Rattle.osl_gencode.specs.Codes.{StmtCode}
use Rattle.osl_gencode.specs.Bodies.{Body, Room, global_of}
use Rattle.osl_gencode.proofs.SectionRuns.{layer_same, SameRun, Sections, does_same}
use Rattle.osl_gencode.proofs.Growing.{get_extended}
use Rattle.osl_gencode.proofs.RelatedStates.{low_symbol}
use Rattle.osl_gencode.specs.ShaderSymbols.{Defaults, AreSymbols}
use Rattle.osl_gencode.proofs.LayerStart.{MayBeGiven, start_related}
use Rattle.osl_gencode.proofs.LayerResults.{closure_same, outputs_same}

-- ---- sections

-- the ops of a part are those of the whole
pub covers_raw : (raw : Raw) (ops : List Op) (start : ℕ) → Extends ops raw.ops → Covers raw.symbols (steps_of raw) ops start
covers_raw raw ops start ext = record { at = λ k op le at. steps_get raw.symbols raw.ops k op (get_extended ops raw.ops k op ext at) }

-- the code of a statement is a section that does what the statement does
pub section_holds : (b : Body) (raw : Raw) (types : List Ty) (ops0 ops1 : List Op) (syms0 syms1 : List Symbol) (sem : Inputs → Doing) (inputs given : Inputs) (from : R.Sources) (section : Section) → StmtCode b types ops0 ops1 syms0 syms1 sem → Wired b given from → Extends ops1 raw.ops → Extends syms1 raw.symbols → section.start ≡ length ops0 → section.end ≡ length ops1 → (s : State) (x : R.State) → Related b raw.symbols s x → SameRun b from (steps_of raw) raw.symbols (sem given s) (R.range from (steps_of raw) section.start section.end x)
section_holds b raw types ops0 ops1 syms0 syms1 sem inputs given from section c wired ops syms starts ends s x rel =
    let n = length_steps raw.symbols 0 raw.ops in let l = ops.longer in
    subst (λ z. SameRun b from (steps_of raw) raw.symbols (sem given s) (R.range from (steps_of raw) z section.end x)) (sym starts) (
    subst (λ z. SameRun b from (steps_of raw) raw.symbols (sem given s) (R.range from (steps_of raw) (length ops0) z x)) (sym ends) (
    does_same b from (steps_of raw) raw.symbols types (length syms0) (length ops0) (length ops1) x (sem given s) (omega (arith, n, l)) (c.runs given from (steps_of raw) raw.symbols s x wired (covers_raw raw ops1 (length ops0) ops) syms rel)))

-- ---- inputs

mapped : {X Y : Type 0} (f : X → Y) (xs : List X) (k : ℕ) (x : X) → slice_get xs k ≡ Some x → slice_get (map f xs) k ≡ Some (f x)
mapped f [] k x at = absurd (cc at)
mapped f (y ∷ xs) zero x at = ap (λ o. elim o [ None ↦ None | Some z ↦ Some (f z) ]) at
mapped f (y ∷ xs) (suc k) x at = mapped f xs k x at

pub may_be_given : (t : TypedShader) (inputs : Inputs) → AreInputs (parameters_of t) inputs → MayBeGiven t inputs
may_be_given t inputs are = record {
  outputs = λ k p o at out. are.outputs k (record { output = p.output; ty = p.ty }) o (mapped told t.params k p at) out;
  fixed = λ k p v at is. (are.fixed k (record { output = p.output; ty = p.ty }) v (mapped told t.params k p at) is).type;
  connected = λ k p v at is. (are.connected k (record { output = p.output; ty = p.ty }) v (mapped told t.params k p at) is).type;
}
  where
    told : TypedParam → Parameter
    told p = record { output = p.output; ty = p.ty }

-- ---- the end

module _ (t : TypedShader) (defaults : Defaults) (b : Body) (raw : Raw) (symbols : AreSymbols t defaults b raw.symbols) (params : length t.params ≤ length b.types) (room : Room b raw.symbols)
    (unnamed : (k : ℕ) (symbol : Symbol) → k < length t.params + 6 → slice_get raw.symbols k ≡ Some symbol → code.is_ci symbol ≡ false) where
  outputs_are : (s : State) (x : R.State) → Related b raw.symbols s x → code.outputs_from 0 raw.symbols x.values ≡ source.outputs_from s.vars 0 t.params
  outputs_are s x rel =
      let sp = symbols.body.split in
      outputs_same 0 t.params raw.symbols x.values s.vars (λ k p at. let q = symbols.params k p at in record { symbol = q.symbol; here = q.here; is = q.is.class }) symbols.others (λ k lt. let z : 0 + k ≡ k = omega arith in ap x.values (z ∙ sym (low_symbol b k (omega (arith, lt, sp)))) ∙ rel.vars k (omega (arith, lt, params)) ∙ sym (ap s.vars z))

  ci_is : (symbol : Symbol) → symbol.class ≡ C.Global → symbol.name ≡ global_text G.Ci → code.is_ci symbol ≡ true
  ci_is symbol class name = ap (λ c. is_global c && bytes_eq symbol.name (global_text G.Ci)) class ∙ ap (λ n. bytes_eq n (global_text G.Ci)) name

  closure_is : (s : State) (x : R.State) → Related b raw.symbols s x → code.closure_from 0 raw.symbols x.values ≡ parts_of (s.globals G.Ci)
  closure_is s x rel =
      let g = symbols.globals G.Ci in
      let at = symbols.body.globals_at in
      let k = length t.params + 6 in
      let e : 0 + k ≡ global_of b G.Ci = omega (arith, at) in
      closure_same 0 k raw.symbols g.symbol x.values g.here (ci_is g.symbol g.is.class g.is.name) (λ j q lt here. unnamed j q lt here) ∙ ap (λ z. parts_of (x.values z)) e ∙ ap parts_of (rel.globals G.Ci)

  results_are : (s : State) (x : R.State) → Related b raw.symbols s x → record { results = Some (code.results_by raw x); reads = x.reads } ≡ source.layer_end t (Next s)
  results_are s x rel =
      (λ j. record { results = Some (record { outputs = outputs_are s x rel j; closure = closure_is s x rel j }); reads = rel.reads j })

  end_same : (from : R.Sources) (o : StatementEnd) (out : R.Outcome) → SameRun b from (steps_of raw) raw.symbols o out → code.layer_end raw out ≡ source.layer_end t o
  end_same from (Next s) out (x, is, rel) = ap (code.layer_end raw) (is 0 tt) ∙ results_are s x rel
  end_same from (Breaks s) out (x, is, rel) = ap (code.layer_end raw) (is 0 tt) ∙ results_are s x rel
  end_same from (Continues s) out (x, is, rel) = ap (code.layer_end raw) (is 0 tt) ∙ results_are s x rel
  end_same from (Returns vs s) out (x, is, rel) = ap (code.layer_end raw) (is 0 tt) ∙ results_are s x rel
  end_same from (Exits s) out (x, is, rel) = ap (code.layer_end raw) (is 0 tt) ∙ results_are s x rel
  end_same from (Spent s) out (x, is, reads) = ap (code.layer_end raw) (is 0 tt) ∙ (λ j. record { results = None; reads = reads j })

  -- where the sections do what the defaults and the body do, the runs give the same
  pub runs_same : (inputs : Inputs) (point : Point) (budget : ℕ) → AreInputs (parameters_of t) inputs → Sections b (code.sources_of raw inputs) (steps_of raw) raw.symbols inputs (source.shader_frame t inputs) (source.functions_of t) (exec_all (source.shader_frame t inputs) (source.functions_of t) t.body) defaults 0 t.params raw.sections → code.code_run raw inputs point budget ≡ source.source_run t inputs point budget
  unfolding code.code_run source.source_run
  runs_same inputs point budget are sections =
      let given = may_be_given t inputs are in
      let frame = source.shader_frame t inputs in
      let calls = source.functions_of t in
      end_same (code.sources_of raw inputs) (source.layer_run t inputs (source.start_of t inputs point budget)) (code.layer_run raw inputs point budget) (
      layer_same b (code.sources_of raw inputs) (steps_of raw) raw.symbols inputs frame calls (exec_all frame calls t.body) defaults 0 t.params raw.sections sections (source.start_of t inputs point budget) (code.start_of raw inputs point budget) (start_related t defaults b raw inputs symbols given point budget))
