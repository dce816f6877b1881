-- What contracts see of a store and of a sink.
use Rattle.std.specs.Prelude.{◌≡◌, ℕ, Bool, IsTrue, List, Option, Some}
use Rattle.osl_store.specs.Counts.{Counts}
use Rattle.osl_store.specs.Files.{Files, Told}

-- a store: what it tells of each file, what went wrong so far, and whether no call of it fails
pub record StoreView : Type 0 where
  pub files : List ℕ → Told
  pub counts : Counts
  pub faultless : Bool

-- a sink: the bytes written, where it tells them, how often a put failed, and whether no call of it fails
pub record SinkView : Type 0 where
  pub written : Option (List ℕ)
  pub faults : ℕ
  pub faultless : Bool

-- the store tells all its files, and they are these
abbrev pub Tells : StoreView → Files → Type 0
Tells store files = (name : List ℕ) → store.files name ≡ Some (files name)

-- every file is told as before
abbrev pub SameFiles : StoreView → StoreView → Type 0
SameFiles before now = (name : List ℕ) → now.files name ≡ before.files name

-- a store of which no call fails stays one, and counts no faults
pub record StaysFaultless (before now : StoreView) : Type 0 where
  pub still : IsTrue before.faultless → IsTrue now.faultless
  pub faults : IsTrue before.faultless → now.counts.faults ≡ before.counts.faults
  pub write_faults : IsTrue before.faultless → now.counts.write_faults ≡ before.counts.write_faults

-- a sink of which no call fails stays one, and counts no faults
pub record SinkStaysFaultless (before now : SinkView) : Type 0 where
  pub still : IsTrue before.faultless → IsTrue now.faultless
  pub faults : IsTrue before.faultless → now.faults ≡ before.faults
