-- What a put leaves written.
use Rattle.std.specs.Prelude.{ℕ, ◌≤◌, List, length, take, Ok, Err}
use Rattle.std.specs.Io.KnownBytes.{Appends, Keeps}
use Rattle.std.specs.declared.result.Result.{Result}
use Rattle.osl_store.specs.Views.{SinkView}
use Rattle.osl_store.specs.declared.PutError.{PutError}
use Rattle.osl_store.specs.declared.PutError.TheVariants.{Fault, Memory}

-- this text was appended
abbrev pub Wrote : SinkView → SinkView → List ℕ → Type 0
Wrote before now text = Appends before.written now.written text

-- a front of this text was appended
abbrev pub WroteFront : SinkView → SinkView → List ℕ → Type 0
WroteFront before now text = (n : ℕ) × (n ≤ length text) × Wrote before now (take n text)

-- nothing was appended
abbrev pub WroteNothing : SinkView → SinkView → Type 0
WroteNothing before now = Keeps before.written now.written

-- what a put leaves written
abbrev pub Puts : {T : Type 0} → SinkView → SinkView → List ℕ → Result T PutError → Type 0
Puts before now bytes (Ok x) = Wrote before now bytes
Puts before now bytes (Err Fault) = WroteFront before now bytes
Puts before now bytes (Err Memory) = WroteNothing before now
