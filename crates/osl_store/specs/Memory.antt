-- What is seen of files and of bytes in memory.
use Rattle.std.specs.Prelude.{◌≡◌, ◌≢◌, ℕ, ◌<◌, List, [], ◌∷◌, String, Vec, None, Some, ◌&&◌, string_bytes, length, slice_index_or, if◌then◌else◌, bytes_eq}
use Rattle.std.specs.Global.{Global}
use Rattle.osl_store.specs.Files.{Files}
use Rattle.osl_store.specs.Views.{StoreView, SinkView}
use Rattle.osl_store.specs.Failures as calls
use Rattle.osl_store.specs.declared.failures.Failures.{Failures}
use Rattle.osl_store.specs.declared.memory.MemoryStore.{MemoryStore}
use Rattle.osl_store.specs.declared.memory.MemorySink.{MemorySink}

-- a file with its name
abbrev pub Entry : Type 0
Entry = String Global × Vec ℕ Global

abbrev pub name_of : Entry → List ℕ
name_of entry = string_bytes entry.0

abbrev pub bytes_of : Entry → List ℕ
bytes_of entry = entry.1.items

-- of two files of one name the first counts
abbrev pub content : List Entry → Files
content [] name = None
content (entry ∷ entries) name = if bytes_eq (name_of entry) name then Some (bytes_of entry) else content entries name

-- the first entry of a name is at this place
pub record IsFirst (entries : List Entry) (name : List ℕ) (at : ℕ) : Type 0 where
  pub within : at < length entries
  pub same : (d : Entry) → name_of (slice_index_or entries at d) ≡ name
  pub earlier : (d : Entry) (k : ℕ) → k < at → name_of (slice_index_or entries k d) ≢ name

-- the files of a store in memory
abbrev pub files_of : MemoryStore → Files
files_of store = content store.files.items

-- the reads of a store, and which of them fail
abbrev pub reads_of : MemoryStore → Failures
reads_of store = store.reads

-- the writes of a store, and which of them fail
abbrev pub writes_of : MemoryStore → Failures
writes_of store = store.writes

-- a store in memory tells all its files, and no call of it fails where none is listed
abbrev pub seen_store : MemoryStore → StoreView
seen_store store = record {
  files = λ name. Some (files_of store name);
  counts = record { absents = store.absents; larges = store.larges; faults = store.faults; write_faults = store.write_faults };
  faultless = calls.never_fails store.reads && calls.never_fails store.writes;
}

-- the bytes that a sink in memory has taken
abbrev pub written_of : MemorySink → List ℕ
written_of sink = sink.bytes.items

-- the puts of a sink, and which of them fail
abbrev pub puts_of : MemorySink → Failures
puts_of sink = sink.puts

-- a sink in memory tells its bytes, and no call of it fails where none is listed
abbrev pub seen_sink : MemorySink → SinkView
seen_sink sink = record { written = Some (written_of sink); faults = sink.faults; faultless = calls.never_fails sink.puts }
