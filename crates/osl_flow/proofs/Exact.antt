-- The rows of a view hold just what is live.
use Rattle.std.proofs.Common.{◌≡◌, ℕ, ◌+◌, ◌<◌, Bool, true, false, None, Some, List, [], length, get_or, sym, ◌∙◌, ap}
use Rattle.osl_value.specs.declared.op_name.OpName.{OpName}
use Rattle.osl_value.specs.declared.types.Ty.{Ty}
use Rattle.std.specs.List.{list_any}
use Rattle.std.proofs.lemmas.Bool.{or_parts}
use Rattle.std.specs.Prelude.{slice_get}
use Rattle.oso_code.specs.Ranges.{steps_of}
use Rattle.oso_code.specs.Run.{Sources}
use Rattle.oso_code.specs.Steps.{Step, Compute}
use Rattle.oso_code.specs.declared.op.Section.{Section}
use Rattle.osl_rewrites.specs.Flow.{first, nexts, nexts_of, Live, Reads, Passes, Asked, Settled}
use Rattle.osl_rewrites.specs.Drop.{AllSure, Dead}
use Rattle.osl_rewrites.specs.declared.point.Around.{Around}
use Rattle.osl_rewrites.specs.declared.point.Spot.{Spot}
use Rattle.osl_rewrites.specs.declared.point.Spot.TheVariants.{At}
use Rattle.osl_flow.specs.Flow.{View, IsFlow, IsLiveAfter}
use Rattle.osl_flow.specs.Uses.{bit}
use Rattle.osl_flow.proofs.Live.{any_one, one_any}

-- what is live is in settled rows
pub live_in_row : (steps : List Step) (sections : List Section) (around : ℕ → Around) (asked : ℕ → Bool) (row : Spot → ℕ → Bool) → Settled steps sections around asked row → (k : ℕ) (p : Spot) → Live steps sections around asked k p → row p k ≡ true
live_in_row steps sections around asked row settled k _ (Reads p m) = settled.read p k m
live_in_row steps sections around asked row settled k _ (Passes p q m other live) = settled.pass p q k m other (live_in_row steps sections around asked row settled k q live)
live_in_row steps sections around asked row settled k _ (Asked h) = settled.asks k h

pub live_exact : (view : View) (i : ℕ) (row : List Bool) → IsFlow view → i < length view.code.ops → row ≡ get_or view.live i [] → IsLiveAfter view.code view.asked i row
live_exact view i row flow lt is =
    let steps = steps_of view.code in
    let sections = view.code.sections in
    let spots = nexts steps sections flow.around (At i) in
    let live = flow.are_live in
    record {
      around = flow.around;
      surrounds = flow.surrounds;
      exact = λ k.
          let same = ap (λ r. bit r k) is ∙ live.after i k lt in (
            λ h. let one = any_one live.row spots k (sym same ∙ h) in (one.spot, one.among, live.earned.each one.spot k one.has_it),
            λ h. same ∙ one_any live.row spots k h.0 h.1 (live_in_row steps sections flow.around (bit view.asked) live.row live.settled k h.0 h.2),
          );
    }

-- an operation whose symbol's bit is false after it is dead by the rows, where it reads nothing from a layer that gave nothing
pub dead_by_row : (view : View) (from : Sources) (i : ℕ) (name : OpName) (ty : Ty) (target : ℕ) (sources : List ℕ) (flow : IsFlow view) → i < length view.code.ops
    → slice_get (steps_of view.code) i ≡ Some (Compute name ty target sources) → AllSure from sources → bit (get_or view.live i []) target ≡ false → Dead from (steps_of view.code) flow.around flow.are_live.row i
dead_by_row view from i name ty target sources flow lt is sure off =
    let row = flow.are_live.row in
    let here = ap (λ o. list_any (λ q. row q target) (elim o [ None ↦ [] | Some step ↦ nexts_of i (flow.around i) step ])) is in
    record { name = name; ty = ty; target = target; sources = sources; here = is; sure = sure; dead = (or_parts (row (first (i + 1) (flow.around i)) target) false (sym here ∙ sym (flow.are_live.after i target lt) ∙ off)).0 }
