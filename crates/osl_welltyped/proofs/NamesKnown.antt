-- The names that a tree spells are words of its tokens.
use Rattle.std.proofs.Common.{ℕ, List, [], ◌∷◌, ◌++◌}
use Rattle.osl_tree.specs.Lexeme.{Lexeme}
use Rattle.osl_tree.specs.Lexical.{IsWord}
use Rattle.osl_tree.specs.Terminals.{sign}
use Rattle.osl_tree.specs.Statements.{AreListed, IsItem}
use Rattle.osl_tree.specs.Statements as y
use Rattle.osl_tree.specs.Files.{output_word, AreTrailed, IsDatum, IsMetadata, IsParam, AreParams, IsShader, IsTree}
use Rattle.osl_tree.specs.Files as f
use Rattle.osl_tree.specs.declared.token.Punct.TheVariants as p
use Rattle.osl_tree.specs.declared.stmt.Item.{Item}
use Rattle.osl_tree.specs.declared.tree.Datum.{Datum}
use Rattle.osl_tree.specs.declared.tree.Param.{Param}
use Rattle.osl_tree.specs.declared.tree.Shader.{Shader}
use Rattle.osl_tree.specs.declared.tree.Tree.{Tree}
use Rattle.osl_welltyped.proofs.GrammarFiles.{AllOf}
use Rattle.osl_welltyped.proofs.Lexed.{IsLexed}

abbrev L : List Lexeme → Type 0
L a = AllOf IsLexed a

left : (xs ys : List Lexeme) → L (xs ++ ys) → L xs
left [] ys h = tt
left (x ∷ xs) ys h = (h.0, left xs ys (h.1))

right : (xs ys : List Lexeme) → L (xs ++ ys) → L ys
right [] ys h = h
right (x ∷ xs) ys h = right xs ys (h.1)

abbrev pub DatumWord : Datum → Type 0
DatumWord x = IsWord x.item.name

abbrev pub ParamWord : Param → Type 0
ParamWord x = IsWord x.item.name × AllOf DatumWord x.metadata

pub record ShaderWords (x : Shader) : Type 0 where
  pub name : IsWord x.name
  pub metadata : AllOf DatumWord x.metadata
  pub params : AllOf ParamWord x.params

item_word : (x : Item) (a : List Lexeme) (h : ℕ) → IsItem x a h → L a → IsWord x.name
item_word x a h (y.alone name) t = t.0
item_word x a h (y.array name n) t = t.0

datum_word : (x : Datum) (a : List Lexeme) (h : ℕ) → IsDatum x a h → L a → DatumWord x
datum_word x d n (f.datum {i = i} {x = item} {a = a} {b = q} {c = c} u v s) t = item_word item q i v (right a q (left (a ++ q) (sign p.Assign ∷ c) t))

data_words : (xs : List Datum) (a : List Lexeme) (h : ℕ) → AreListed IsDatum xs a h → L a → AllOf DatumWord xs
data_words xs a h (y.last {x = x} u) t = (datum_word x a h u t, tt)
data_words zs d n (y.more {h = h} {i = i} {x = x} {xs = xs} {a = a} {b = c} u v) t =
    (datum_word x a h u (left a (sign p.Comma ∷ c) t), data_words xs c i v (right a (sign p.Comma ∷ c) t).1)

trailed_data : (xs : List Datum) (a : List Lexeme) (h : ℕ) → AreTrailed IsDatum xs a h → L a → AllOf DatumWord xs
trailed_data xs a h (f.bare u) t = data_words xs a h u t
trailed_data xs d h (f.with_comma {a = a} u) t = data_words xs a h u (left a (sign p.Comma ∷ []) t)

metadata_words : (xs : List Datum) (a : List Lexeme) (h : ℕ) → IsMetadata xs a h → L a → AllOf DatumWord xs
metadata_words xs a h f.none t = tt
metadata_words xs d n (f.some {h = h} {a = a} u) t = trailed_data xs a h u (left a (sign p.CloseBracket ∷ sign p.CloseBracket ∷ []) (t.1))

param_word : (x : Param) (a : List Lexeme) (h : ℕ) → IsParam x a h → L a → ParamWord x
param_word x e n (f.param {i = i} {k = kk} {x = item} {zs = zs} {a = a} {b = q} {c = c} {d = d} output u v s r) t =
    let front = left (output_word output ++ a ++ q ++ sign p.Assign ∷ c) d t in (
      item_word item q i v (right (output_word output ++ a) q (left (output_word output ++ a ++ q) (sign p.Assign ∷ c) front)),
      metadata_words zs d kk r (right (output_word output ++ a ++ q ++ sign p.Assign ∷ c) d t),
    )

params_words : (xs : List Param) (a : List Lexeme) (h : ℕ) → AreListed IsParam xs a h → L a → AllOf ParamWord xs
params_words xs a h (y.last {x = x} u) t = (param_word x a h u t, tt)
params_words zs d n (y.more {h = h} {i = i} {x = x} {xs = xs} {a = a} {b = c} u v) t =
    (param_word x a h u (left a (sign p.Comma ∷ c) t), params_words xs c i v (right a (sign p.Comma ∷ c) t).1)

trailed_params : (xs : List Param) (a : List Lexeme) (h : ℕ) → AreTrailed IsParam xs a h → L a → AllOf ParamWord xs
trailed_params xs a h (f.bare u) t = params_words xs a h u t
trailed_params xs d h (f.with_comma {a = a} u) t = params_words xs a h u (left a (sign p.Comma ∷ []) t)

all_params : (xs : List Param) (a : List Lexeme) (h : ℕ) → AreParams xs a h → L a → AllOf ParamWord xs
all_params xs a h f.none t = tt
all_params xs a h (f.some u) t = trailed_params xs a h u t

shader_words : (x : Shader) (a : List Lexeme) (h : ℕ) → IsShader x a h → L a → ShaderWords x
shader_words x d n (f.shader {h = h} {i = i} {metas = metas} {xs = xs} {a = a} {b = q} {c = c} terminal kind name is_kind u v s) t =
    let front = left (a ++ sign p.OpenParen ∷ q) (sign p.CloseParen ∷ c) (t.1.1) in
    record {
      name = t.1.0;
      metadata = metadata_words metas a h u (left a (sign p.OpenParen ∷ q) front);
      params = all_params xs q i v (right a (sign p.OpenParen ∷ q) front).1;
    }

pub tree_words : (x : Tree) (a : List Lexeme) (h : ℕ) → IsTree x a h → AllOf IsLexed a → ShaderWords x.shader
tree_words x a h (f.shader_alone {x = shader} u) t = shader_words shader a h u t
tree_words x d n (f.with_definitions {j = j} {x = shader} {a = a} {b = q} {c = c} u v r) t = shader_words shader c j r (right (a ++ q) c t)
