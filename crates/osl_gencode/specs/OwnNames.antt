-- The names of symbols that a compiler makes: `$0`, `$1` and so on, by their numbers. No word of a source has a `$`.
use Rattle.std.specs.Prelude.{ℕ, ◌≡◌, ◌⊎◌, ◌==◌, Bool, false, List, [], ◌∷◌, Some, slice_get, IsTrue}
use Rattle.std.specs.Fmt.{decimal}
use Rattle.oso_code.specs.Holding.{is_type}
use Rattle.oso_code.specs.Symbols.{is_parameter, is_global, is_value_of, has_value, symbol_at_fits}
use Rattle.oso_code.specs.declared.symbol.Symbol.{Symbol}

-- `$` and the number
abbrev pub own_name : ℕ → List ℕ
own_name n = 36 ∷ decimal n

-- a name that begins with `$`
abbrev pub is_own : List ℕ → Bool
is_own [] = false
is_own (c ∷ cs) = c == 36

-- Symbols fit, and the names among them that begin with `$` are those of their numbers.
pub record AreNamed (syms : List Symbol) : Type 0 where
  pub fit : (k : ℕ) (symbol : Symbol) → slice_get syms k ≡ Some symbol → IsTrue (symbol_at_fits syms k symbol)
  pub named : (k : ℕ) (symbol : Symbol) → slice_get syms k ≡ Some symbol → (symbol.name ≡ own_name k) ⊎ (is_own symbol.name ≡ false)

-- a constant, or a variable of the compiler or of the source, with the name of the number n
pub record IsOwned (n : ℕ) (symbol : Symbol) : Type 0 where
  pub name : symbol.name ≡ own_name n
  pub no_parameter : is_parameter symbol.class ≡ false
  pub no_global : is_global symbol.class ≡ false
  pub type : IsTrue (is_type symbol.ty)
  pub value : IsTrue (is_value_of (has_value symbol.class symbol.ty) symbol.ty symbol.value)
  pub metas : symbol.metas ≡ []
