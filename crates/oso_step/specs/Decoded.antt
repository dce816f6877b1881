-- Which step a decoded op is.
use Rattle.std.specs.Prelude.{List}
use Rattle.oso_code.specs.declared.symbol.Symbol.{Symbol}
use Rattle.oso_code.specs.Ops.{type_at}
use Rattle.oso_code.specs.Steps as S
use Rattle.oso_step.specs.declared.step.Span.{Span}
use Rattle.oso_step.specs.declared.step.Way.{Way}
use Rattle.oso_step.specs.declared.step.Way.TheVariants as W
use Rattle.oso_step.specs.declared.step.Step.{Step}
use Rattle.oso_step.specs.declared.step.Step.TheVariants as D

abbrev pub seen_span : Span → S.Span
seen_span r = S.span r.start r.end

abbrev pub seen_way : Way → S.Way
seen_way W.Break = S.Break
seen_way W.Continue = S.Continue
seen_way W.Return = S.Return
seen_way W.Exit = S.Exit

abbrev pub seen_step : List Symbol → Step → S.Step
seen_step symbols (D.Compute name target sources) = S.Compute name (type_at symbols target) target sources.now
seen_step symbols (D.Branch c holds fails) = S.Branch c (seen_span holds) (seen_span fails)
seen_step symbols (D.Loop tested l) = S.Loop tested l.condition (seen_span l.test) (seen_span l.body) (seen_span l.step)
seen_step symbols (D.Call body) = S.Call (seen_span body)
seen_step symbols (D.Leave way) = S.Leave (seen_way way)
