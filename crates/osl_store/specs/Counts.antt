-- How often something went wrong, and what a call may do to such counts.
use Rattle.std.specs.Prelude.{◌≡◌, ℕ, ◌+◌, ◌-◌, ◌^◌, ◌<◌, ◌≤◌, ◌⊎◌, min, refl, IsErrOf, OnOk}
use Rattle.std.specs.Coded.{Coded, code_by, coded×, coded_ℕ}
use Rattle.std.specs.declared.result.Result.{Result}
use Rattle.osl_store.specs.declared.ReadError.{ReadError}
use Rattle.osl_store.specs.declared.ReadError.TheVariants as read
use Rattle.osl_store.specs.declared.WriteError.{WriteError}
use Rattle.osl_store.specs.declared.WriteError.TheVariants as write
use Rattle.osl_store.specs.declared.PutError.{PutError}
use Rattle.osl_store.specs.declared.PutError.TheVariants as put

-- one more, up to the end of the counter's type
abbrev pub one_more : ℕ → ℕ
one_more n = min (n + 1) (2 ^ 64 - 1)

-- A count rose in a call: it is greater at the return than at the entry, or is at its type's end.
abbrev pub Rose : ℕ → ℕ → Type 0
Rose before now = (before < now) ⊎ (now ≡ 2 ^ 64 - 1)

-- how often a store has had no such file, a file that is too large, a read that failed, a write that failed
pub record Counts : Type 0 where
  pub absents : ℕ
  pub larges : ℕ
  pub faults : ℕ
  pub write_faults : ℕ

-- counts are stored as their numbers
abbrev pub counts_code : Coded Counts
counts_code =
    code_by (ℕ × (ℕ × (ℕ × ℕ))) (coded× coded_ℕ (coded× coded_ℕ (coded× coded_ℕ coded_ℕ)))
    (λ c. (c.absents, (c.larges, (c.faults, c.write_faults))))
    (λ p. record { absents = p.0; larges = p.1.0; faults = p.1.1.0; write_faults = p.1.1.1 }) (λ _. refl)

-- nothing has gone wrong yet
abbrev pub no_counts : Counts
no_counts = record { absents = 0; larges = 0; faults = 0; write_faults = 0 }

-- no count has fallen
pub record NoneFell (before now : Counts) : Type 0 where
  pub absents : before.absents ≤ now.absents
  pub larges : before.larges ≤ now.larges
  pub faults : before.faults ≤ now.faults
  pub write_faults : before.write_faults ≤ now.write_faults

-- What a read does to the counts: each refusal raises its own count, and no other count changes.
pub record CountsRead {T : Type 0} (before now : Counts) (result : Result T ReadError) : Type 0 where
  pub later : NoneFell before now
  pub ok : OnOk result (now ≡ before)
  pub absent : IsErrOf result read.Absent → Rose before.absents now.absents × (now ≡ record before { absents = now.absents })
  pub large : IsErrOf result read.TooLarge → Rose before.larges now.larges × (now ≡ record before { larges = now.larges })
  pub failed : IsErrOf result read.Failed → Rose before.faults now.faults × (now ≡ record before { faults = now.faults })
  pub memory : IsErrOf result read.Memory → now ≡ before

-- What a write does to the counts: a failure raises its own count, and no other count changes.
pub record CountsWrite {T : Type 0} (before now : Counts) (result : Result T WriteError) : Type 0 where
  pub later : NoneFell before now
  pub ok : OnOk result (now ≡ before)
  pub failed : IsErrOf result write.Failed → Rose before.write_faults now.write_faults × (now ≡ record before { write_faults = now.write_faults })
  pub memory : IsErrOf result write.Memory → now ≡ before

-- what a put does to the count of a sink
pub record CountsPut {T : Type 0} (before now : ℕ) (result : Result T PutError) : Type 0 where
  pub later : before ≤ now
  pub ok : OnOk result (now ≡ before)
  pub failed : IsErrOf result put.Fault → Rose before now
  pub memory : IsErrOf result put.Memory → now ≡ before
