-- What a function of the code returned, against what a word says.
use Rattle.std.specs.Prelude.{◌≡◌, Option, None, Some, Result, Ok, Err}
use Rattle.osl_valuetext.specs.declared.unread.Unread.{Unread}
use Rattle.osl_valuetext.specs.declared.unread.Unread.TheVariants as unread

-- It is, seen by view, what the word says, and misspelled where the word says nothing, unless memory ran out.
abbrev pub Tells : {X A : Type 0} → (X → A) → Result X Unread → Option A → Type 0
Tells view (Ok x) told = told ≡ Some (view x)
Tells view (Err unread.Memory) told = Unit {0}
Tells view (Err unread.Misspelled) told = told ≡ None
