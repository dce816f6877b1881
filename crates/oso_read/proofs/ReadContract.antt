-- What the contract of reading says, from what a text reads as.
use Rattle.std.proofs.Common.{◌≡◌, ℕ, List, Option, Some, Ok, Err, sym, ap, ◌∙◌, subst}
use Rattle.std.specs.Prelude.{Result, IfOk, slice_index}
use Rattle.oso_code.specs.declared.raw.Raw.{Raw}
use Rattle.oso_read.specs.declared.error.OsoError.{OsoError}
use Rattle.oso_read.specs.declared.error.OsoError.TheVariants as errors
use Rattle.oso_read.specs.declared.error.OsoKind.{OsoKind}
use Rattle.oso_read.specs.Faults.{Fault, fault, Fails, Gives}
use Rattle.oso_read.specs.Reading.{range_fault, in_range, reading}
use Rattle.oso_read.specs.Spelt.{Spelt}
use Rattle.oso_read.proofs.ReadsSpelt.{reads_spelt}
use Rattle.oso_read.proofs.SpeltReads.{spelt_reads}

pub fails_in_range : (raw : Raw) (lines : List ℕ) (o : Option (OsoKind × ℕ)) (kind : OsoKind) (op at : ℕ) (e : OsoError)
    → o ≡ range_fault raw → o ≡ Some (kind, op) → at ≡ slice_index lines op → e ≡ errors.Bad kind at → Fails e (in_range raw lines (range_fault raw))
fails_in_range raw lines o kind op at e is some line bad =
    let read : in_range raw lines (range_fault raw) ≡ Err (fault kind at) = ap (in_range raw lines) (sym is ∙ some) ∙ ap (λ (n : ℕ). Err (fault kind n)) (sym line) in
    subst (λ (d : OsoError). Fails d (in_range raw lines (range_fault raw))) (sym bad) read

pub found_is_spelt : (bytes : List ℕ) (result : Result Raw OsoError) → Gives (λ (raw : Raw). raw) result (reading bytes) → IfOk result (λ raw. Spelt bytes raw)
found_is_spelt bytes (Ok raw) read = reads_spelt bytes raw read
found_is_spelt bytes (Err e) read = tt

pub spelt_is_found : (bytes : List ℕ) (result : Result Raw OsoError) (raw : Raw) → Gives (λ (raw : Raw). raw) result (reading bytes) → Spelt bytes raw → Gives (λ (raw : Raw). raw) result (Ok raw)
spelt_is_found bytes result raw read spelt = subst (λ (r : Result Raw Fault). Gives (λ (raw : Raw). raw) result r) (spelt_reads bytes raw spelt) read
