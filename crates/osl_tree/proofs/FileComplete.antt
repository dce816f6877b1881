-- What is spelled as a structure, a function, a shader or a source is read.
use Rattle.std.proofs.Common.{◌≡◌, ℕ, zero, suc, ◌+◌, ◌≤◌, ◌<◌, max, Bool, true, false, if◌then◌else◌, List, [], ◌∷◌, ◌++◌, length, Option, Some, None, refl, sym, ap, ◌∙◌, arith, append_assoc, append-nil, length-append}
use Rattle.std.proofs.Common.{subst}
use Rattle.std.proofs.lemmas.Option.{same_Some}
use Rattle.osl_tree.specs.declared.token.Punct.TheVariants as p
use Rattle.osl_tree.specs.declared.terminal.Keyword.TheVariants as w
use Rattle.osl_tree.specs.declared.terminal.Terminal.{Terminal}
use Rattle.osl_tree.specs.declared.terminal.Terminal.TheVariants as m
use Rattle.osl_tree.specs.Lexeme.{Lexeme}
use Rattle.osl_tree.specs.Lexeme as l
use Rattle.osl_tree.specs.declared.expr.BaseType.{BaseType}
use Rattle.osl_tree.specs.declared.stmt.TypeName.{TypeName}
use Rattle.osl_tree.specs.declared.stmt.Item.{Item}
use Rattle.osl_tree.specs.declared.stmt.Stmt.{Stmt}
use Rattle.osl_tree.specs.declared.tree.Fields.{Fields}
use Rattle.osl_tree.specs.declared.tree.Structure.{Structure}
use Rattle.osl_tree.specs.declared.tree.Formal.{Formal}
use Rattle.osl_tree.specs.declared.tree.Function.{Function}
use Rattle.osl_tree.specs.declared.tree.Definition.{Definition}
use Rattle.osl_tree.specs.declared.tree.Datum.{Datum}
use Rattle.osl_tree.specs.declared.tree.Param.{Param}
use Rattle.osl_value.specs.declared.shader_kind.ShaderKind.{ShaderKind}
use Rattle.osl_tree.specs.declared.tree.Shader.{Shader}
use Rattle.osl_tree.specs.declared.tree.Tree.{Tree}
use Rattle.osl_tree.specs.Terminals.{sign, key, base_of, kind_of}
use Rattle.osl_tree.specs.Grammar as e
use Rattle.osl_tree.specs.Grammar.{IsType}
use Rattle.osl_tree.specs.Statements as s
use Rattle.osl_tree.specs.Statements.{AreListed, IsItem, IsBlock}
use Rattle.osl_tree.specs.Files as g
use Rattle.osl_tree.specs.Files.{AreTrailed, AreFields, IsStructure, output_word, IsFormal, AreFormals, IsResult, IsFunction, IsDefinition, IsDatum, IsMetadata, IsParam, AreParams, IsShader, AreDefinitions, IsTree}
use Rattle.osl_tree.specs.Parser.{same_terminal, Read, Parser, first, rest, of_terminal, sees, listed}
use Rattle.osl_tree.specs.StatementReading.{item, stmt}
use Rattle.osl_tree.specs.FileReading.{fields_from, structure, formal_from, formal, formals, body, returns, function, definition, datum, metadata, param_from, param, params, shader, up_to_kind, definitions_from, source_of, source}
use Rattle.osl_tree.proofs.Steps.{expect_terminal, node_in, name_is, bound, eats, skips, takes, leaves, sees_terminal, seen}
use Rattle.osl_tree.proofs.Begins.{NoBeginning, type_complete}
use Rattle.osl_tree.proofs.Lists.{CompleteFor, listed_complete, trailed_complete}
use Rattle.osl_tree.proofs.Complete.{follows, Stops, no_comma_at_paren}
use Rattle.osl_tree.proofs.StatementSound.{high_item}
use Rattle.osl_tree.proofs.StatementComplete.{item_complete, reads_item, item_some, init_complete, no_comma_at_semicolon, type_unlike, type_some, no_paren_terminal, block_complete, stmt_complete}
use Rattle.osl_tree.proofs.FileSound.{fields_high, formal_high, function_tokens, datum_tokens, datum_high, metadata_tokens, param_tokens, param_high, definitions_high, fields_tokens, formal_tokens}

-- ---- what these parts do not begin with

no_output : NoBeginning (m.Keyword w.Output)
unfolding same_terminal
no_output = record { no_base = refl; no_prefix = refl; no_paren = refl; no_closure = refl }

no_void : NoBeginning (m.Keyword w.Void)
unfolding same_terminal
no_void = record { no_base = refl; no_prefix = refl; no_paren = refl; no_closure = refl }

no_struct : NoBeginning (m.Keyword w.Struct)
unfolding same_terminal
no_struct = record { no_base = refl; no_prefix = refl; no_paren = refl; no_closure = refl }

no_closing_brace : NoBeginning (m.Punct p.CloseBrace)
unfolding same_terminal
no_closing_brace = record { no_base = refl; no_prefix = refl; no_paren = refl; no_closure = refl }

no_closing_bracket : NoBeginning (m.Punct p.CloseBracket)
unfolding same_terminal
no_closing_bracket = record { no_base = refl; no_prefix = refl; no_paren = refl; no_closure = refl }

-- one terminal is not another
apart : (j k : Terminal) (us : List Lexeme) → same_terminal j k ≡ false → sees k (l.terminal j ∷ us) ≡ false
unfolding sees
apart j k us q = q

output_apart : (k : Terminal) (us : List Lexeme) → same_terminal (m.Keyword w.Output) k ≡ false → sees k (key w.Output ∷ us) ≡ false
output_apart k us q = apart (m.Keyword w.Output) k us q

-- ---- structures

fields_complete : (n : ℕ) {next : List Fields} {a : List Lexeme} {h : ℕ} (xs : List Fields) (i : ℕ) (after : List Lexeme) → 0 < i → AreFields next a h → length next < n
    → fields_from n xs i (a ++ sign p.CloseBrace ∷ after) ≡ Some ((xs ++ next, max i h), after)
unfolding fields_from
fields_complete zero xs i after some d short = absurd (omega arith)
fields_complete (suc n) xs i after some g.end short =
    eats (m.Punct p.CloseBrace) after _ _ (let peak : i ≡ max i 1 = omega arith in ap (λ k. Some ((xs, k), after)) peak ∙ ap (λ ys. Some ((ys, max i 1), after)) (sym (append-nil xs)))
fields_complete (suc n) xs i after some (g.more {h} {i = j} {j = k} {to} {items} {xs = next} {a} {b} {c} d d' d'') short =
    let ts = c ++ sign p.CloseBrace ∷ after in
    let us = b ++ sign p.Semicolon ∷ ts in
    ap (fields_from (suc n) xs i) (fields_tokens a b c (sign p.CloseBrace ∷ after))
    ∙ skips (m.Punct p.CloseBrace) (a ++ us) _ _ (type_unlike (m.Punct p.CloseBrace) us no_closing_brace d)
    (bound _ (type_complete us d)
    (bound _ (items_complete j items b (sign p.Semicolon ∷ ts) d' (omega arith, no_comma_at_semicolon ts))
    (bound _ (expect_terminal (m.Punct p.Semicolon) ts)
    (fields_complete n (xs ++ record { ty = to; items = items } ∷ []) (max i (max h j)) after (omega arith) d'' (omega arith)
    ∙ ap (λ ys. Some ((ys, max (max i (max h j)) k), after)) (append_assoc xs (record { ty = to; items = items } ∷ []) next)
    ∙ ap (λ t. Some ((xs ++ record { ty = to; items = items } ∷ next, t), after)) (let q : max (max i (max h j)) k ≡ max i (max h (max j k)) = omega arith in q)))))
  where
    items_high : {xs : List Item} {a : List Lexeme} {h : ℕ} → AreListed IsItem xs a h → h ≤ 3
    items_high (s.last (s.alone b)) = omega arith
    items_high (s.last (s.array b n)) = omega arith
    items_high (s.more (s.alone b) d) = let k = items_high d in omega arith
    items_high (s.more (s.array b n) d) = let k = items_high d in omega arith

    items_complete : (h : ℕ) (xs : List Item) (a us : List Lexeme) → AreListed IsItem xs a h → (follows us ≤ 12) × (sees (m.Punct p.Comma) us ≡ false) → listed item (a ++ us) ≡ Some ((xs, h), us)
    items_complete h xs a us d f = listed_complete IsItem 3 item (λ ts. follows ts ≤ 12) item_complete (λ x a h d. high_item d) (λ x a h d. item_some d) (λ ts. omega arith) h xs a us d (items_high d) f

fields_length : {xs : List Fields} {a : List Lexeme} {h : ℕ} → AreFields xs a h → length xs ≤ length a
fields_length g.end = omega arith
fields_length (g.more {a} {b} {c} d d' d'') = omega (arith, fields_length d'', length-append (a ++ b) (sign p.Semicolon ∷ c))

structure_complete : (room h : ℕ) (x : Structure) (a after : List Lexeme) → IsStructure x (key w.Struct ∷ a) h → h ≤ room + 1 → structure room (a ++ after) ≡ Some ((x, h), after)
unfolding structure
structure_complete room _ x _ after (g.struct {h} {xs} {a} bytes d) low =
    let us = sign p.Semicolon ∷ after in
    let ts = a ++ sign p.CloseBrace ∷ us in
    let long : length xs < length ts = omega (arith, fields_length d, length-append a (sign p.CloseBrace ∷ us)) in
    let peak : max 1 h ≡ h = let k = fields_high d in omega arith in
    ap (structure room) (tokens (l.name bytes) a after)
    ∙ bound _ (name_is bytes (sign p.OpenBrace ∷ ts))
    (bound _ (expect_terminal (m.Punct p.OpenBrace) ts)
    (bound _ (fields_complete (length ts) [] 1 us (omega arith) d long ∙ ap (λ k. Some ((xs, k), us)) peak)
    (bound _ (expect_terminal (m.Punct p.Semicolon) after) (bound _ (node_in room h after (omega arith)) refl))))
  where
    tokens : (word : Lexeme) (a after : List Lexeme) → (word ∷ sign p.OpenBrace ∷ a ++ sign p.CloseBrace ∷ sign p.Semicolon ∷ []) ++ after ≡ word ∷ sign p.OpenBrace ∷ (a ++ sign p.CloseBrace ∷ sign p.Semicolon ∷ after)
    tokens word a after = simp append_assoc

-- ---- functions

-- an `output` that may be missing, before what begins otherwise
outputs : {B : Type 0} (o : Bool) (ts : List Lexeme) (go : Bool → Parser B) {y : Read B} → sees (m.Keyword w.Output) ts ≡ false → go o ts ≡ y
    → go (sees (m.Keyword w.Output) (output_word o ++ ts)) (if sees (m.Keyword w.Output) (output_word o ++ ts) then rest (output_word o ++ ts) else output_word o ++ ts) ≡ y
outputs true ts go n q = rw (sees_terminal (m.Keyword w.Output) ts) q
outputs false ts go n q = rw n q

formal_complete : (room : ℕ) → CompleteFor IsFormal (room + 1) (λ ts. follows ts ≤ 12) (formal room)
unfolding formal
formal_complete room _ _ _ after (g.formal {h} {i} {to} {x} {a} {b} o d d') low quiet =
    let us = b ++ after in
    ap (formal room) (formal_tokens (output_word o) a b after)
    ∙ outputs o (a ++ us) (formal_from room) (type_unlike (m.Keyword w.Output) us no_output d)
    (bound _ (type_complete us d) (bound _ (reads_item i x b after d' quiet) (bound _ (node_in room (max h i) after (omega arith)) refl)))

formal_some : {x : Formal} {a : List Lexeme} {h : ℕ} → IsFormal x a h → 0 < length a
formal_some (g.formal {a} {b} o d d') = omega (arith, item_some d', length-append (output_word o ++ a) b)

formal_open : {x : Formal} {a : List Lexeme} {h : ℕ} (c : List Lexeme) → IsFormal x a h → sees (m.Punct p.CloseParen) (a ++ c) ≡ false
unfolding same_terminal
formal_open c (g.formal {a} {b} true d d') = output_apart (m.Punct p.CloseParen) _ refl
formal_open c (g.formal {a} {b} false d d') = ap (sees (m.Punct p.CloseParen)) (append_assoc a b c) ∙ type_unlike (m.Punct p.CloseParen) (b ++ c) no_paren_terminal d

formals_open : {xs : List Formal} {a : List Lexeme} {h : ℕ} (c : List Lexeme) → AreListed IsFormal xs a h → sees (m.Punct p.CloseParen) (a ++ c) ≡ false
formals_open c (s.last d) = formal_open c d
formals_open c (s.more {a} {b} d d') = ap (sees (m.Punct p.CloseParen)) (append_assoc a (sign p.Comma ∷ b) c) ∙ formal_open (sign p.Comma ∷ b ++ c) d

formals_complete : (room h : ℕ) (xs : List Formal) (a us : List Lexeme) → AreFormals xs a h → h ≤ room + 1 → formals room (a ++ sign p.CloseParen ∷ us) ≡ Some ((xs, h), sign p.CloseParen ∷ us)
unfolding formals
formals_complete room h xs a us g.none low = rw (sees_terminal (m.Punct p.CloseParen) us) refl
formals_complete room h xs a us (g.some d) low =
    rw (formals_open (sign p.CloseParen ∷ us) d)
    (listed_complete IsFormal (room + 1) (formal room) (λ ts. follows ts ≤ 12) (formal_complete room) (λ x a h d. formal_high d) (λ x a h d. formal_some d) (λ ts. omega arith) h xs a (sign p.CloseParen ∷ us) d low (omega arith, no_comma_at_paren us))

body_complete : (room h : ℕ) (xs : List Stmt) (a after : List Lexeme) → IsBlock xs a h → h ≤ room + 1 → body room (a ++ after) ≡ Some ((xs, h), after)
unfolding body
body_complete room _ xs _ after (s.braces {h} {a} d) low =
    let us = a ++ sign p.CloseBrace ∷ after in
    ap (body room) (append_assoc (sign p.OpenBrace ∷ a) (sign p.CloseBrace ∷ []) after)
    ∙ bound _ (expect_terminal (m.Punct p.OpenBrace) us) (block_complete (stmt room) room (stmt_complete room) after d (omega arith))

returns_complete : (h : ℕ) (to : Option TypeName) (a after : List Lexeme) → IsResult to a h → returns (a ++ after) ≡ Some ((to, h), after)
unfolding returns
returns_complete h to a after g.void = eats (m.Keyword w.Void) after _ _ refl
returns_complete h to a after (g.of_type d) = skips (m.Keyword w.Void) (a ++ after) _ _ (type_unlike (m.Keyword w.Void) after no_void d) (bound _ (type_complete after d) refl)

function_complete : (room h : ℕ) (x : Function) (a after : List Lexeme) → IsFunction x a h → h ≤ room + 1 → function room (a ++ after) ≡ Some ((x, h), after)
unfolding function
function_complete room _ x _ after (g.function {h} {i} {j} {to} {xs} {body = ys} {a} {b} {c} bytes d d' d'') low =
    let v = c ++ after in
    let u = b ++ sign p.CloseParen ∷ v in
    ap (function room) (function_tokens (l.name bytes) a b c after)
    ∙ bound _ (returns_complete h to a (l.name bytes ∷ sign p.OpenParen ∷ u) d)
    (bound _ (name_is bytes (sign p.OpenParen ∷ u))
    (bound _ (expect_terminal (m.Punct p.OpenParen) u)
    (bound _ (formals_complete room i xs b v d' (omega arith))
    (bound _ (expect_terminal (m.Punct p.CloseParen) v)
    (bound _ (body_complete room j ys c after d'' (omega arith)) (bound _ (node_in room (max h (max i j)) after (omega arith)) refl))))))

result_unlike : {to : Option TypeName} {a : List Lexeme} {h : ℕ} (c : List Lexeme) → IsResult to a h → sees (m.Keyword w.Struct) (a ++ c) ≡ false
unfolding same_terminal
result_unlike c g.void = apart (m.Keyword w.Void) (m.Keyword w.Struct) c refl
result_unlike c (g.of_type d) = type_unlike (m.Keyword w.Struct) c no_struct d

definition_complete : (room h : ℕ) (x : Definition) (a after : List Lexeme) → IsDefinition x a h → h ≤ room + 1 → definition room (a ++ after) ≡ Some ((x, h), after)
unfolding definition
definition_complete room h _ _ after (g.structure {x} (g.struct {h = i} {xs} {a} bytes d)) low =
    eats (m.Keyword w.Struct) ((l.name bytes ∷ sign p.OpenBrace ∷ a ++ sign p.CloseBrace ∷ sign p.Semicolon ∷ []) ++ after) _ _
    (bound _ (structure_complete room h x (l.name bytes ∷ sign p.OpenBrace ∷ a ++ sign p.CloseBrace ∷ sign p.Semicolon ∷ []) after (g.struct bytes d) low) refl)
definition_complete room h _ _ after (g.function {x} (g.function {a} {b} {c} bytes d d' d'')) low =
    skips (m.Keyword w.Struct) _ _ _
    (ap (sees (m.Keyword w.Struct)) (function_tokens (l.name bytes) a b c after) ∙ result_unlike (l.name bytes ∷ sign p.OpenParen ∷ (b ++ sign p.CloseParen ∷ (c ++ after))) d)
    (bound _ (function_complete room h x _ after (g.function bytes d d' d'') low) refl)

-- ---- shaders

datum_complete : (room : ℕ) → CompleteFor IsDatum (room + 1) Stops (datum room)
unfolding datum
datum_complete room _ _ _ after (g.datum {h} {i} {j} {to} {x} {y} {a} {b} {c} d d' d'') low quiet =
    let u = sign p.Assign ∷ (c ++ after) in
    ap (datum room) (datum_tokens a b c after)
    ∙ bound _ (type_complete (b ++ u) d)
    (bound _ (reads_item i x b u d' (omega arith))
    (bound _ (expect_terminal (m.Punct p.Assign) (c ++ after))
    (bound _ (init_complete room j y c after d'' (omega arith) quiet) (bound _ (node_in room (max h (max i j)) after (omega arith)) refl))))

datum_some : {x : Datum} {a : List Lexeme} {h : ℕ} → IsDatum x a h → 0 < length a
datum_some (g.datum {a} {b} {c} d d' d'') = omega (arith, length-append (a ++ b) (sign p.Assign ∷ c))

datum_open : (x : Datum) (a : List Lexeme) (h : ℕ) (c : List Lexeme) → IsDatum x a h → sees (m.Punct p.CloseBracket) (a ++ c) ≡ false
datum_open x _ h c (g.datum {a} {b} {c = c'} d d' d'') = ap (sees (m.Punct p.CloseBracket)) (datum_tokens a b c' c) ∙ type_unlike (m.Punct p.CloseBracket) (b ++ sign p.Assign ∷ (c' ++ c)) no_closing_bracket d

bracket_no_comma : same_terminal (m.Punct p.CloseBracket) (m.Punct p.Comma) ≡ false
unfolding same_terminal
bracket_no_comma = refl

paren_no_comma : same_terminal (m.Punct p.CloseParen) (m.Punct p.Comma) ≡ false
unfolding same_terminal
paren_no_comma = refl

stops_at_bracket : (ts : List Lexeme) → sees (m.Punct p.CloseBracket) ts ≡ true → Stops ts
stops_at_bracket ts q = let r = ap follows (seen (m.Punct p.CloseBracket) ts q) in omega arith

metadata_complete : (room h : ℕ) (xs : List Datum) (a after : List Lexeme) → IsMetadata xs a h → h ≤ room + 1 → sees (m.Punct p.OpenMeta) after ≡ false → metadata room (a ++ after) ≡ Some ((xs, h), after)
unfolding metadata
metadata_complete room h xs _ after g.none low quiet = skips (m.Punct p.OpenMeta) after _ _ quiet refl
metadata_complete room _ xs _ after (g.some {h} {a} d) low quiet =
    let u = sign p.CloseBracket ∷ after in
    let t = sign p.CloseBracket ∷ u in
    ap (metadata room) (metadata_tokens a after)
    ∙ eats (m.Punct p.OpenMeta) (a ++ t) _ _
    (bound _ (trailed_complete IsDatum (room + 1) (datum room) Stops (datum_complete room) (λ x a h d. datum_high d) (λ x a h d. datum_some d) (λ ts. omega arith)
    (m.Punct p.CloseBracket) stops_at_bracket bracket_no_comma datum_open h xs a t d (omega arith) (sees_terminal (m.Punct p.CloseBracket) u))
    (bound _ (expect_terminal (m.Punct p.CloseBracket) u) (bound _ (expect_terminal (m.Punct p.CloseBracket) after) (bound _ (node_in room h after (omega arith)) refl))))

-- what metadata begins with does not go on with an expression
stops_before_metadata : {zs : List Datum} {a : List Lexeme} {h : ℕ} (c : List Lexeme) → Stops c → IsMetadata zs a h → Stops (a ++ c)
stops_before_metadata c q g.none = q
stops_before_metadata c q (g.some d) = omega arith

-- what may follow a parameter
abbrev BehindParam : List Lexeme → Type 0
BehindParam ts = Stops ts × (sees (m.Punct p.OpenMeta) ts ≡ false)

param_complete : (room : ℕ) → CompleteFor IsParam (room + 1) BehindParam (param room)
unfolding param
param_complete room _ _ _ after (g.param {h} {i} {j} {k} {to} {x} {y} {zs} {a} {b} {c} {d} o d0 d1 d2 d3) low f =
    let v = d ++ after in
    let u = sign p.Assign ∷ (c ++ v) in
    ap (param room) (param_tokens (output_word o) a b c d after)
    ∙ outputs o (a ++ (b ++ u)) (param_from room) (type_unlike (m.Keyword w.Output) (b ++ u) no_output d0)
    (bound _ (type_complete (b ++ u) d0)
    (bound _ (reads_item i x b u d1 (omega arith))
    (bound _ (expect_terminal (m.Punct p.Assign) (c ++ v))
    (bound _ (init_complete room j y c v d2 (omega arith) (stops_before_metadata after f.0 d3))
    (bound _ (metadata_complete room k zs d after d3 (omega arith) f.1) (bound _ (node_in room (max (max h i) (max j k)) after (omega arith)) refl))))))

param_some : {x : Param} {a : List Lexeme} {h : ℕ} → IsParam x a h → 0 < length a
param_some (g.param {a} {b} {c} {d} o d0 d1 d2 d3) = omega (arith, length-append (output_word o ++ a ++ b) (sign p.Assign ∷ c), length-append (output_word o ++ a ++ b ++ sign p.Assign ∷ c) d)

param_open : (x : Param) (a : List Lexeme) (h : ℕ) (c : List Lexeme) → IsParam x a h → sees (m.Punct p.CloseParen) (a ++ c) ≡ false
unfolding same_terminal
param_open x _ h c (g.param true d0 d1 d2 d3) = output_apart (m.Punct p.CloseParen) _ refl
param_open x _ h c (g.param {a} {b} {c = c'} {d} false d0 d1 d2 d3) =
    ap (sees (m.Punct p.CloseParen)) (param_tokens [] a b c' d c) ∙ type_unlike (m.Punct p.CloseParen) (b ++ sign p.Assign ∷ (c' ++ (d ++ c))) no_paren_terminal d0

no_meta_at_comma : (us : List Lexeme) → sees (m.Punct p.OpenMeta) (sign p.Comma ∷ us) ≡ false
unfolding sees same_terminal
no_meta_at_comma us = refl

no_meta_at_paren : (us : List Lexeme) → sees (m.Punct p.OpenMeta) (sign p.CloseParen ∷ us) ≡ false
unfolding sees same_terminal
no_meta_at_paren us = refl

no_meta_at_open : (us : List Lexeme) → sees (m.Punct p.OpenMeta) (sign p.OpenParen ∷ us) ≡ false
unfolding sees same_terminal
no_meta_at_open us = refl

behind_last : (ts : List Lexeme) → sees (m.Punct p.CloseParen) ts ≡ true → BehindParam ts
behind_last ts q =
    let split = seen (m.Punct p.CloseParen) ts q in
    let r = ap follows split in
    (omega arith, ap (sees (m.Punct p.OpenMeta)) split ∙ no_meta_at_paren (rest ts))

params_open : {xs : List Param} {a : List Lexeme} {h : ℕ} (c : List Lexeme) → AreListed IsParam xs a h → sees (m.Punct p.CloseParen) (a ++ c) ≡ false
params_open c (s.last {h} {x} {a} d) = param_open x a h c d
params_open c (s.more {h} {x} {a} {b} d d') = ap (sees (m.Punct p.CloseParen)) (append_assoc a (sign p.Comma ∷ b) c) ∙ param_open x a h (sign p.Comma ∷ b ++ c) d

trailed_open : {xs : List Param} {a : List Lexeme} {h : ℕ} (c : List Lexeme) → AreTrailed IsParam xs a h → sees (m.Punct p.CloseParen) (a ++ c) ≡ false
trailed_open c (g.bare d) = params_open c d
trailed_open c (g.with_comma {a} d) = ap (sees (m.Punct p.CloseParen)) (append_assoc a (sign p.Comma ∷ []) c) ∙ params_open (sign p.Comma ∷ c) d

params_complete : (room h : ℕ) (xs : List Param) (a us : List Lexeme) → AreParams xs a h → h ≤ room + 1 → params room (a ++ sign p.CloseParen ∷ us) ≡ Some ((xs, h), sign p.CloseParen ∷ us)
unfolding params
params_complete room h xs a us g.none low = rw (sees_terminal (m.Punct p.CloseParen) us) refl
params_complete room h xs a us (g.some d) low =
    rw (trailed_open (sign p.CloseParen ∷ us) d)
    (trailed_complete IsParam (room + 1) (param room) BehindParam (param_complete room) (λ x a h d. param_high d) (λ x a h d. param_some d) (λ ts. (omega arith, no_meta_at_comma ts))
    (m.Punct p.CloseParen) behind_last paren_no_comma param_open h xs a (sign p.CloseParen ∷ us) d low (sees_terminal (m.Punct p.CloseParen) us))

shader_complete : (room h : ℕ) (k : Terminal) (kind : ShaderKind) (x : Shader) (a after : List Lexeme) → kind_of k ≡ Some kind → IsShader x (l.terminal k ∷ a) h → h ≤ room + 1
    → shader room kind (a ++ after) ≡ Some ((x, h), after)
unfolding shader
shader_complete room _ _ kind x _ after same (g.shader {h} {i} {j} {metas} {xs} {body = ys} {a} {b} {c} k kind' bytes q d d' d'') low =
    let v = c ++ after in
    let u = b ++ sign p.CloseParen ∷ v in
    let one : kind' ≡ kind = same_Some kind' kind (sym q ∙ same) in
    ap (shader room kind) (tokens (l.name bytes) a b c after)
    ∙ bound _ (name_is bytes (a ++ sign p.OpenParen ∷ u))
    (bound _ (metadata_complete room h metas a (sign p.OpenParen ∷ u) d (omega arith) (no_meta_at_open u))
    (bound _ (expect_terminal (m.Punct p.OpenParen) u)
    (bound _ (params_complete room i xs b v d' (omega arith))
    (bound _ (expect_terminal (m.Punct p.CloseParen) v)
    (bound _ (body_complete room j ys c after d'' (omega arith))
    (bound _ (node_in room (max h (max i j)) after (omega arith))
    (ap (λ t. Some ((record { kind = t; name = bytes; metadata = metas; params = xs; body = ys }, max h (max i j) + 1), after)) (sym one))))))))
  where
    tokens : (word : Lexeme) (a b c after : List Lexeme) → (word ∷ a ++ sign p.OpenParen ∷ b ++ sign p.CloseParen ∷ c) ++ after ≡ word ∷ (a ++ sign p.OpenParen ∷ (b ++ sign p.CloseParen ∷ (c ++ after)))
    tokens word a b c after = simp append_assoc

-- ---- sources

base_no_kind : (k : Terminal) (to : BaseType) → base_of k ≡ Some to → kind_of k ≡ None
base_no_kind (m.Punct k) to q = cc
base_no_kind (m.Keyword w.Surface) to q = cc
base_no_kind (m.Keyword w.Displacement) to q = cc
base_no_kind (m.Keyword w.Volume) to q = cc
base_no_kind (m.Keyword w.Shader) to q = cc
base_no_kind (m.Keyword _) to q = refl

result_no_kind : {to : Option TypeName} {a : List Lexeme} {h : ℕ} (c : List Lexeme) → IsResult to a h → of_terminal kind_of (first (a ++ c)) ≡ None
result_no_kind c g.void = refl
result_no_kind c (g.of_type (e.base _ (e.of_one_word k to q))) = base_no_kind k to q
result_no_kind c (g.of_type (e.base _ e.closure)) = refl
result_no_kind c (g.of_type (e.struct bytes)) = refl

definition_no_kind : {x : Definition} {a : List Lexeme} {h : ℕ} (after : List Lexeme) → IsDefinition x a h → of_terminal kind_of (first (a ++ after)) ≡ None
definition_no_kind after (g.structure (g.struct bytes d)) = refl
definition_no_kind after (g.function (g.function {a} {b} {c} bytes d d' d'')) =
    ap (λ us. of_terminal kind_of (first us)) (function_tokens (l.name bytes) a b c after) ∙ result_no_kind (l.name bytes ∷ sign p.OpenParen ∷ (b ++ sign p.CloseParen ∷ (c ++ after))) d

result_some : {to : Option TypeName} {a : List Lexeme} {h : ℕ} → IsResult to a h → 0 < length a
result_some g.void = omega arith
result_some (g.of_type d) = type_some d

definition_some : {x : Definition} {a : List Lexeme} {h : ℕ} → IsDefinition x a h → 0 < length a
definition_some (g.structure (g.struct bytes d)) = omega arith
definition_some (g.function (g.function {a} {b} {c} bytes d d' d'')) =
    omega (arith, length-append (a ++ l.name bytes ∷ sign p.OpenParen ∷ b) (sign p.CloseParen ∷ c))

definitions_length : {xs : List Definition} {a : List Lexeme} {h : ℕ} → AreDefinitions xs a h → length xs ≤ length a
definitions_length g.end = omega arith
definitions_length (g.more {a} {b} d d') = omega (arith, definition_some d, definitions_length d', length-append a b)

definitions_complete : (room n : ℕ) {next : List Definition} {a : List Lexeme} {h : ℕ} (xs : List Definition) (i : ℕ) (k : Terminal) (kind : ShaderKind) (after : List Lexeme) → 0 < i
    → AreDefinitions next a h → h ≤ room + 1 → length next < n → kind_of k ≡ Some kind
    → definitions_from room n (xs, i) (a ++ l.terminal k ∷ after) ≡ Some (((xs ++ next, max i h), kind), after)
unfolding definitions_from
definitions_complete room zero xs i k kind after some d low short q = absurd (omega arith)
definitions_complete room (suc n) xs i k kind after some g.end low short q =
    takes kind_of k kind after (up_to_kind (xs, i) (definition room) (definitions_from room n)) q
    (let peak : i ≡ max i 1 = omega arith in ap (λ t. Some (((xs, t), kind), after)) peak ∙ ap (λ ys. Some (((ys, max i 1), kind), after)) (sym (append-nil xs)))
definitions_complete room (suc n) xs i k kind after some (g.more {h} {i = j} {x} {xs = next} {a} {b} d d') low short q =
    let ts = b ++ l.terminal k ∷ after in
    ap (definitions_from room (suc n) (xs, i)) (append_assoc a b (l.terminal k ∷ after))
    ∙ leaves _ (a ++ ts) (rest (a ++ ts)) (up_to_kind (xs, i) (definition room) (definitions_from room n)) (definition_no_kind ts d)
    (bound _ (definition_complete room h x a ts d (omega arith))
    (definitions_complete room n (xs ++ x ∷ []) (max i h) k kind after (omega arith) d' (omega arith) (omega arith) q
    ∙ ap (λ ys. Some (((ys, max (max i h) j), kind), after)) (append_assoc xs (x ∷ []) next)
    ∙ ap (λ t. Some (((xs ++ x ∷ next, t), kind), after)) (let r : max (max i h) j ≡ max i (max h j) = omega arith in r)))

-- what a shader begins with
record Headed (x : Shader) (a : List Lexeme) : Type 0 where
  terminal : Terminal
  kind : ShaderKind
  behind : List Lexeme
  is : kind_of terminal ≡ Some kind
  split : a ≡ l.terminal terminal ∷ behind

headed : {x : Shader} {a : List Lexeme} {h : ℕ} → IsShader x a h → Headed x a
headed (g.shader k kind bytes q d d' d'') = record { terminal = k; kind = kind; behind = _; is = q; split = refl }

-- the definitions and the shader of a source
parts_complete : (room h i : ℕ) (ds : List Definition) (x : Shader) (a b after : List Lexeme) → AreDefinitions ds a h → IsShader x b i → h ≤ room + 1 → i ≤ room + 1
    → (y : Read (Tree × ℕ)) → source_of room (ds, h) (x, i) after ≡ y → source room (a ++ (b ++ after)) ≡ y
unfolding source
parts_complete room h i ds x a b after d s low low' y q =
    let t = headed s in
    let us = t.behind ++ after in
    let all : a ++ (b ++ after) ≡ a ++ l.terminal t.terminal ∷ us = ap (λ vs. a ++ (vs ++ after)) t.split in
    let long : length ds < length (a ++ l.terminal t.terminal ∷ us) = omega (arith, definitions_length d, length-append a (l.terminal t.terminal ∷ us)) in
    let peak : max 1 h ≡ h = let k = definitions_high d in omega arith in
    ap (source room) all
    ∙ bound _ (definitions_complete room (length (a ++ l.terminal t.terminal ∷ us)) [] 1 t.terminal t.kind us (omega arith) d low long t.is ∙ ap (λ k. Some (((ds, k), t.kind), us)) peak)
    (bound _ (shader_complete room i t.terminal t.kind x t.behind after t.is (subst (λ vs. IsShader x vs i) t.split s) low') q)

-- What is spelled is read by `source`.
pub source_complete : (room h : ℕ) (x : Tree) (a after : List Lexeme) → IsTree x a h → h ≤ room + 1 → source room (a ++ after) ≡ Some ((x, h), after)
source_complete room h _ a after (g.shader_alone {x} s) low = parts_complete room 1 h [] x [] a after g.end s (omega arith) low _ refl
source_complete room _ _ _ after (g.with_definitions {h} {i} {j} {d = y} {ds} {x} {a} {b} {c} d ds' s) low =
    let same : max (max h i) j + 1 ≡ max h (max i j) + 1 = omega arith in
    let all : (a ++ b ++ c) ++ after ≡ (a ++ b) ++ (c ++ after) = append_assoc (a ++ b) c after in
    ap (source room) all
    ∙ parts_complete room (max h i) j (y ∷ ds) x (a ++ b) c after (g.more d ds') s (omega arith) (omega arith) _
    (bound _ (node_in room (max (max h i) j) after (omega arith)) (ap (λ t. Some ((record { definitions = y ∷ ds; shader = x }, t), after)) same))
