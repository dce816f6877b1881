-- What is left at the end of a source.
use Rattle.std.proofs.Common.{◌≡◌, ℕ, true, false, List, [], ◌∷◌, Some, None, refl}
use Rattle.osl_tree.specs.Lexeme.{Lexeme}
use Rattle.osl_tree.specs.declared.tree.Tree.{Tree}
use Rattle.osl_tree.specs.FileReading.{none_left}
use Rattle.osl_parse.specs.Reads.{is_end}

pub all_read : (x : Tree × ℕ) (ts : List Lexeme) → is_end ts ≡ true → none_left (Some (x, ts)) ≡ Some x.0
all_read x [] e = refl
all_read x (t ∷ ts) e = cc

pub rest_left : (x : Tree × ℕ) (ts : List Lexeme) → is_end ts ≡ false → none_left (Some (x, ts)) ≡ None
rest_left x [] e = cc
rest_left x (t ∷ ts) e = refl
