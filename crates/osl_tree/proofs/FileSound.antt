-- What is read as a structure, a function, a shader or a source is spelled.
use Rattle.std.proofs.Common.{◌≡◌, ℕ, zero, suc, ◌+◌, ◌≤◌, ◌<◌, max, Bool, true, false, if◌then◌else◌, List, [], ◌∷◌, ◌++◌, length, Some, refl, sym, ap, ◌∙◌, arith, append_assoc, append-nil, subst, inl, inr}
use Rattle.osl_tree.specs.declared.token.Punct.TheVariants as p
use Rattle.osl_tree.specs.declared.terminal.Keyword.TheVariants as w
use Rattle.osl_tree.specs.declared.terminal.Terminal.{Terminal}
use Rattle.osl_tree.specs.declared.terminal.Terminal.TheVariants as m
use Rattle.osl_tree.specs.Lexeme.{Lexeme}
use Rattle.osl_tree.specs.Lexeme as l
use Rattle.osl_tree.specs.declared.tree.Fields.{Fields}
use Rattle.osl_tree.specs.declared.tree.Structure.{Structure}
use Rattle.osl_tree.specs.declared.tree.Formal.{Formal}
use Rattle.osl_tree.specs.declared.tree.Definition.{Definition}
use Rattle.osl_tree.specs.declared.tree.Datum.{Datum}
use Rattle.osl_tree.specs.declared.tree.Param.{Param}
use Rattle.osl_value.specs.declared.shader_kind.ShaderKind.{ShaderKind}
use Rattle.osl_tree.specs.declared.tree.Shader.{Shader}
use Rattle.osl_tree.specs.declared.tree.Tree.{Tree}
use Rattle.osl_tree.specs.Terminals.{sign, key, kind_of}
use Rattle.osl_tree.specs.Statements.{IsItem, IsBlock}
use Rattle.osl_tree.specs.Files as g
use Rattle.osl_tree.specs.Files.{AreTrailed, AreFields, IsStructure, output_word, IsFormal, AreFormals, IsResult, IsFunction, IsDefinition, IsDatum, IsMetadata, IsParam, AreParams, IsShader, AreDefinitions, IsTree}
use Rattle.osl_tree.specs.Parser.{Parser, rest, sees, expect, name, type_name, listed, trailed}
use Rattle.osl_tree.specs.StatementReading.{item, init, stmt}
use Rattle.osl_tree.specs.FileReading.{fields_from, structure, formal_from, formal, formals, body, returns, function, definition, datum, metadata, param_from, param, params, shader, Definitions, up_to_kind, definitions_from, source_of, source}
use Rattle.osl_tree.proofs.Steps.{steps, ended, expected, raised, named, seen, did, didn't, ate, took, left, taking, decided}
use Rattle.osl_tree.proofs.Lists.{Spelt, respelt, SoundFor, listed_sound, trailed_sound}
use Rattle.osl_tree.proofs.StatementSound.{type_sound, item_sound, init_sound, block_sound, stmt_sound, high_item}

-- ---- structures

record FieldsRead (xs : List Fields) (h : ℕ) (ts : List Lexeme) (ys : List Fields × ℕ) (after : List Lexeme) : Type 0 where
  next : List Fields
  high : ℕ
  front : List Lexeme
  split : ts ≡ front ++ sign p.CloseBrace ∷ after
  is : AreFields next front high
  all : ys.0 ≡ xs ++ next
  peak : ys.1 ≡ max h high

pub fields_tokens : (a b c after : List Lexeme) → (a ++ b ++ sign p.Semicolon ∷ c) ++ after ≡ a ++ (b ++ sign p.Semicolon ∷ (c ++ after))
fields_tokens a b c after = simp append_assoc

fields_sound : (n : ℕ) (xs : List Fields) (h : ℕ) (ts after : List Lexeme) (ys : List Fields × ℕ) → 0 < h → fields_from n xs h ts ≡ Some (ys, after) → FieldsRead xs h ts ys after
unfolding fields_from
fields_sound zero xs h ts after ys some eq = cc
fields_sound (suc n) xs h ts after ys some eq =
    elim (ate (m.Punct p.CloseBrace) ts _ _ ys after eq) [
      | did us se eq ↦ ended (λ y vs. FieldsRead xs h ts y vs) eq
          (record { next = []; high = 1; front = []; split = se; is = g.end; all = sym (append-nil xs); peak = omega arith })
      | didn't f eq ↦
          let b = steps (type_name ts) _ ys after eq in
          let d = type_sound ts b.between b.value b.was in
          let i = steps (listed item b.between) _ ys after b.goes in
          let r = listed_sound IsItem 3 item item_sound (λ x a h d. high_item d) b.between i.between i.value i.was in
          let c = steps (expect (m.Punct p.Semicolon) i.between) _ ys after i.goes in
          let q = expected (m.Punct p.Semicolon) i.between c.between c.value c.was in
          let more = fields_sound n _ _ c.between after ys (omega arith) c.goes in
          let peak = more.peak in
          record {
            next = record { ty = b.value.0; items = i.value.0 } ∷ more.next;
            high = max b.value.1 (max i.value.1 more.high);
            front = d.front ++ r.front ++ sign p.Semicolon ∷ more.front;
            split = d.split ∙ ap (λ vs. d.front ++ vs) (r.split ∙ ap (λ vs. r.front ++ vs) (q ∙ ap (λ vs. sign p.Semicolon ∷ vs) more.split)) ∙ sym (fields_tokens d.front r.front more.front (sign p.CloseBrace ∷ after));
            is = g.more d.is r.is more.is;
            all = more.all ∙ append_assoc xs (record { ty = b.value.0; items = i.value.0 } ∷ []) more.next;
            peak = omega arith;
          }
    ]

pub fields_high : {xs : List Fields} {a : List Lexeme} {h : ℕ} → AreFields xs a h → 0 < h
fields_high g.end = omega arith
fields_high (g.more d d' d'') = let k = fields_high d'' in omega arith

pub structure_tokens : (word : Lexeme) (a after : List Lexeme) → (key w.Struct ∷ word ∷ sign p.OpenBrace ∷ a ++ sign p.CloseBrace ∷ sign p.Semicolon ∷ []) ++ after
    ≡ key w.Struct ∷ word ∷ sign p.OpenBrace ∷ (a ++ sign p.CloseBrace ∷ sign p.Semicolon ∷ after)
structure_tokens word a after = simp append_assoc

structure_sound : (room : ℕ) (ts after : List Lexeme) (x : Structure × ℕ) → structure room ts ≡ Some (x, after) → Spelt IsStructure (room + 1) (key w.Struct ∷ ts) x after
unfolding structure
structure_sound room ts after x eq =
    let b = steps (name ts) _ x after eq in
    let e = named ts b.value b.between b.was in
    let o = steps (expect (m.Punct p.OpenBrace) b.between) _ x after b.goes in
    let f = expected (m.Punct p.OpenBrace) b.between o.between o.value o.was in
    let i = steps (fields_from (length o.between) [] 1 o.between) _ x after o.goes in
    let d = fields_sound (length o.between) [] 1 o.between i.between i.value (omega arith) i.was in
    let c = steps (expect (m.Punct p.Semicolon) i.between) _ x after i.goes in
    let q = expected (m.Punct p.Semicolon) i.between c.between c.value c.was in
    let n = raised room i.value.1 c.between _ x after c.goes in
    let k = fields_high d.is in
    let peak : i.value.1 ≡ d.high = let q = d.peak in omega arith in
    ended (λ y vs. Spelt IsStructure (room + 1) (key w.Struct ∷ ts) y vs) n.goes (record {
      front = key w.Struct ∷ l.name b.value ∷ sign p.OpenBrace ∷ d.front ++ sign p.CloseBrace ∷ sign p.Semicolon ∷ [];
      split = ap (λ vs. key w.Struct ∷ vs) (e ∙ ap (λ vs. l.name b.value ∷ vs) (f ∙ ap (λ vs. sign p.OpenBrace ∷ vs) (d.split ∙ ap (λ vs. d.front ++ sign p.CloseBrace ∷ vs) q)))
          ∙ sym (structure_tokens (l.name b.value) d.front c.between);
      is = g.struct b.value (subst (λ zs. AreFields zs d.front i.value.1) (sym d.all) (subst (λ t. AreFields d.next d.front t) (sym peak) d.is));
      low = let low = n.low in omega arith;
    })

-- ---- functions

-- a word `output` that may be missing
record Marked {B : Type 0} (ts : List Lexeme) (go : Bool → Parser B) (y : B) (after : List Lexeme) : Type 0 where
  output : Bool
  between : List Lexeme
  split : ts ≡ output_word output ++ between
  goes : go output between ≡ Some (y, after)

marked : {B : Type 0} (ts : List Lexeme) (go : Bool → Parser B) (y : B) (after : List Lexeme)
    → go (sees (m.Keyword w.Output) ts) (if sees (m.Keyword w.Output) ts then rest ts else ts) ≡ Some (y, after) → Marked ts go y after
marked ts go y after e = by (sees (m.Keyword w.Output) ts) refl e
  where
    by : (b : Bool) → sees (m.Keyword w.Output) ts ≡ b → go b (if b then rest ts else ts) ≡ Some (y, after) → Marked ts go y after
    by true s e = record { output = true; between = rest ts; split = seen (m.Keyword w.Output) ts s; goes = e }
    by false s e = record { output = false; between = ts; split = refl; goes = e }

pub formal_tokens : (o a b after : List Lexeme) → (o ++ a ++ b) ++ after ≡ o ++ (a ++ (b ++ after))
formal_tokens o a b after = simp append_assoc

formal_sound : (room : ℕ) → SoundFor IsFormal (room + 1) (formal room)
unfolding formal
formal_sound room ts after x eq =
    let o = marked ts (formal_from room) x after eq in
    let b = steps (type_name o.between) _ x after o.goes in
    let d = type_sound o.between b.between b.value b.was in
    let i = steps (item b.between) _ x after b.goes in
    let r = item_sound b.between i.between i.value i.was in
    let n = raised room (max b.value.1 i.value.1) i.between _ x after i.goes in
    ended (λ y vs. Spelt IsFormal (room + 1) ts y vs) n.goes (record {
      front = output_word o.output ++ d.front ++ r.front;
      split = o.split ∙ ap (λ vs. output_word o.output ++ vs) (d.split ∙ ap (λ vs. d.front ++ vs) r.split) ∙ sym (formal_tokens (output_word o.output) d.front r.front i.between);
      is = g.formal o.output d.is r.is;
      low = let low = n.low in omega arith;
    })

pub formal_high : {x : Formal} {a : List Lexeme} {h : ℕ} → IsFormal x a h → 0 < h
formal_high (g.formal o d d') = omega arith

formals_sound : (room : ℕ) → SoundFor AreFormals (room + 1) (formals room)
unfolding formals
formals_sound room ts after x eq =
    elim (decided (sees (m.Punct p.CloseParen) ts) _ _ ts _ eq) [
      | inl q ↦ ended (λ y vs. Spelt AreFormals (room + 1) ts y vs) q.1 (record { front = []; split = refl; is = g.none; low = omega arith })
      | inr q ↦
          let r = listed_sound IsFormal (room + 1) (formal room) (formal_sound room) (λ x a h d. formal_high d) ts after x q.1 in
          record { front = r.front; split = r.split; is = g.some r.is; low = r.low }
    ]

body_sound : (room : ℕ) → SoundFor IsBlock (room + 1) (body room)
unfolding body
body_sound room ts after x eq =
    let o = steps (expect (m.Punct p.OpenBrace) ts) _ x after eq in
    let f = expected (m.Punct p.OpenBrace) ts o.between o.value o.was in
    respelt f (block_sound (stmt room) room (stmt_sound room) o.between after x o.goes)

returns_sound : SoundFor IsResult 2 returns
unfolding returns
returns_sound ts after x eq =
    elim (ate (m.Keyword w.Void) ts _ _ x after eq) [
      | did us se eq ↦ ended (λ y vs. Spelt IsResult 2 ts y vs) eq (record { front = key w.Void ∷ []; split = se; is = g.void; low = omega arith })
      | didn't f eq ↦
          let b = steps (type_name ts) _ x after eq in
          let d = type_sound ts b.between b.value b.was in
          ended (λ y vs. Spelt IsResult 2 ts y vs) b.goes (record { front = d.front; split = d.split; is = g.of_type d.is; low = d.low })
    ]

pub function_tokens : (word : Lexeme) (a b c after : List Lexeme) → (a ++ word ∷ sign p.OpenParen ∷ b ++ sign p.CloseParen ∷ c) ++ after ≡ a ++ word ∷ sign p.OpenParen ∷ (b ++ sign p.CloseParen ∷ (c ++ after))
function_tokens word a b c after = simp append_assoc

function_sound : (room : ℕ) → SoundFor IsFunction (room + 1) (function room)
unfolding function
function_sound room ts after x eq =
    let a = steps (returns ts) _ x after eq in
    let d = returns_sound ts a.between a.value a.was in
    let b = steps (name a.between) _ x after a.goes in
    let e = named a.between b.value b.between b.was in
    let o = steps (expect (m.Punct p.OpenParen) b.between) _ x after b.goes in
    let f = expected (m.Punct p.OpenParen) b.between o.between o.value o.was in
    let i = steps (formals room o.between) _ x after o.goes in
    let r = formals_sound room o.between i.between i.value i.was in
    let c = steps (expect (m.Punct p.CloseParen) i.between) _ x after i.goes in
    let f' = expected (m.Punct p.CloseParen) i.between c.between c.value c.was in
    let v = steps (body room c.between) _ x after c.goes in
    let t = body_sound room c.between v.between v.value v.was in
    let n = raised room (max a.value.1 (max i.value.1 v.value.1)) v.between _ x after v.goes in
    ended (λ y vs. Spelt IsFunction (room + 1) ts y vs) n.goes (record {
      front = d.front ++ l.name b.value ∷ sign p.OpenParen ∷ r.front ++ sign p.CloseParen ∷ t.front;
      split = d.split ∙ ap (λ vs. d.front ++ vs) (e ∙ ap (λ vs. l.name b.value ∷ vs) (f ∙ ap (λ vs. sign p.OpenParen ∷ vs) (r.split ∙ ap (λ vs. r.front ++ vs) (f' ∙ ap (λ vs. sign p.CloseParen ∷ vs) t.split))))
          ∙ sym (function_tokens (l.name b.value) d.front r.front t.front v.between);
      is = g.function b.value d.is r.is t.is;
      low = let low = n.low in omega arith;
    })

definition_sound : (room : ℕ) → SoundFor IsDefinition (room + 1) (definition room)
unfolding definition
definition_sound room ts after x eq =
    elim (ate (m.Keyword w.Struct) ts _ _ x after eq) [
      | did us se eq ↦
          let b = steps (structure room us) _ x after eq in
          let d = structure_sound room us b.between b.value b.was in
          ended (λ y vs. Spelt IsDefinition (room + 1) ts y vs) b.goes (record { front = d.front; split = se ∙ d.split; is = g.structure d.is; low = d.low })
      | didn't f eq ↦
          let b = steps (function room ts) _ x after eq in
          let d = function_sound room ts b.between b.value b.was in
          ended (λ y vs. Spelt IsDefinition (room + 1) ts y vs) b.goes (record { front = d.front; split = d.split; is = g.function d.is; low = d.low })
    ]

-- ---- shaders

pub datum_tokens : (a b c after : List Lexeme) → (a ++ b ++ sign p.Assign ∷ c) ++ after ≡ a ++ (b ++ sign p.Assign ∷ (c ++ after))
datum_tokens a b c after = simp append_assoc

datum_sound : (room : ℕ) → SoundFor IsDatum (room + 1) (datum room)
unfolding datum
datum_sound room ts after x eq =
    let b = steps (type_name ts) _ x after eq in
    let d = type_sound ts b.between b.value b.was in
    let i = steps (item b.between) _ x after b.goes in
    let r = item_sound b.between i.between i.value i.was in
    let o = steps (expect (m.Punct p.Assign) i.between) _ x after i.goes in
    let f = expected (m.Punct p.Assign) i.between o.between o.value o.was in
    let v = steps (init room o.between) _ x after o.goes in
    let t = init_sound room o.between v.between v.value v.was in
    let n = raised room (max b.value.1 (max i.value.1 v.value.1)) v.between _ x after v.goes in
    ended (λ y vs. Spelt IsDatum (room + 1) ts y vs) n.goes (record {
      front = d.front ++ r.front ++ sign p.Assign ∷ t.front;
      split = d.split ∙ ap (λ vs. d.front ++ vs) (r.split ∙ ap (λ vs. r.front ++ vs) (f ∙ ap (λ vs. sign p.Assign ∷ vs) t.split)) ∙ sym (datum_tokens d.front r.front t.front v.between);
      is = g.datum d.is r.is t.is;
      low = let low = n.low in omega arith;
    })

pub datum_high : {x : Datum} {a : List Lexeme} {h : ℕ} → IsDatum x a h → 0 < h
datum_high (g.datum d d' d'') = omega arith

pub metadata_tokens : (a after : List Lexeme) → (sign p.OpenMeta ∷ a ++ sign p.CloseBracket ∷ sign p.CloseBracket ∷ []) ++ after ≡ sign p.OpenMeta ∷ (a ++ sign p.CloseBracket ∷ sign p.CloseBracket ∷ after)
metadata_tokens a after = simp append_assoc

metadata_sound : (room : ℕ) → SoundFor IsMetadata (room + 1) (metadata room)
unfolding metadata
metadata_sound room ts after x eq =
    elim (ate (m.Punct p.OpenMeta) ts _ _ x after eq) [
      | did us se eq ↦
          let i = steps (trailed (m.Punct p.CloseBracket) (datum room) us) _ x after eq in
          let r = trailed_sound IsDatum (room + 1) (datum room) (datum_sound room) (λ x a h d. datum_high d) (m.Punct p.CloseBracket) us i.between i.value i.was in
          let b = steps (expect (m.Punct p.CloseBracket) i.between) _ x after i.goes in
          let f = expected (m.Punct p.CloseBracket) i.between b.between b.value b.was in
          let c = steps (expect (m.Punct p.CloseBracket) b.between) _ x after b.goes in
          let f' = expected (m.Punct p.CloseBracket) b.between c.between c.value c.was in
          let n = raised room i.value.1 c.between _ x after c.goes in
          ended (λ y vs. Spelt IsMetadata (room + 1) ts y vs) n.goes (record {
            front = sign p.OpenMeta ∷ r.front ++ sign p.CloseBracket ∷ sign p.CloseBracket ∷ [];
            split = se ∙ ap (λ vs. sign p.OpenMeta ∷ vs) (r.split ∙ ap (λ vs. r.front ++ vs) (f ∙ ap (λ vs. sign p.CloseBracket ∷ vs) f')) ∙ sym (metadata_tokens r.front c.between);
            is = g.some r.is;
            low = let low = n.low in omega arith;
          })
      | didn't f eq ↦ ended (λ y vs. Spelt IsMetadata (room + 1) ts y vs) eq (record { front = []; split = refl; is = g.none; low = omega arith })
    ]

pub param_tokens : (o a b c d after : List Lexeme) → (o ++ a ++ b ++ sign p.Assign ∷ c ++ d) ++ after ≡ o ++ (a ++ (b ++ sign p.Assign ∷ (c ++ (d ++ after))))
param_tokens o a b c d after = simp append_assoc

param_sound : (room : ℕ) → SoundFor IsParam (room + 1) (param room)
unfolding param
param_sound room ts after x eq =
    let o = marked ts (param_from room) x after eq in
    let b = steps (type_name o.between) _ x after o.goes in
    let d = type_sound o.between b.between b.value b.was in
    let i = steps (item b.between) _ x after b.goes in
    let r = item_sound b.between i.between i.value i.was in
    let c = steps (expect (m.Punct p.Assign) i.between) _ x after i.goes in
    let f = expected (m.Punct p.Assign) i.between c.between c.value c.was in
    let v = steps (init room c.between) _ x after c.goes in
    let t = init_sound room c.between v.between v.value v.was in
    let u = steps (metadata room v.between) _ x after v.goes in
    let z = metadata_sound room v.between u.between u.value u.was in
    let n = raised room (max (max b.value.1 i.value.1) (max v.value.1 u.value.1)) u.between _ x after u.goes in
    ended (λ y vs. Spelt IsParam (room + 1) ts y vs) n.goes (record {
      front = output_word o.output ++ d.front ++ r.front ++ sign p.Assign ∷ t.front ++ z.front;
      split = o.split ∙ ap (λ vs. output_word o.output ++ vs) (d.split ∙ ap (λ vs. d.front ++ vs) (r.split ∙ ap (λ vs. r.front ++ vs) (f ∙ ap (λ vs. sign p.Assign ∷ vs) (t.split ∙ ap (λ vs. t.front ++ vs) z.split))))
          ∙ sym (param_tokens (output_word o.output) d.front r.front t.front z.front u.between);
      is = g.param o.output d.is r.is t.is z.is;
      low = let low = n.low in omega arith;
    })

pub param_high : {x : Param} {a : List Lexeme} {h : ℕ} → IsParam x a h → 0 < h
param_high (g.param o d d' d'' d3) = omega arith

params_sound : (room : ℕ) → SoundFor AreParams (room + 1) (params room)
unfolding params
params_sound room ts after x eq =
    elim (decided (sees (m.Punct p.CloseParen) ts) _ _ ts _ eq) [
      | inl q ↦ ended (λ y vs. Spelt AreParams (room + 1) ts y vs) q.1 (record { front = []; split = refl; is = g.none; low = omega arith })
      | inr q ↦
          let r = trailed_sound IsParam (room + 1) (param room) (param_sound room) (λ x a h d. param_high d) (m.Punct p.CloseParen) ts after x q.1 in
          record { front = r.front; split = r.split; is = g.some r.is; low = r.low }
    ]

pub shader_tokens : (k word : Lexeme) (a b c after : List Lexeme) → (k ∷ word ∷ a ++ sign p.OpenParen ∷ b ++ sign p.CloseParen ∷ c) ++ after ≡ k ∷ word ∷ (a ++ sign p.OpenParen ∷ (b ++ sign p.CloseParen ∷ (c ++ after)))
shader_tokens k word a b c after = simp append_assoc

shader_sound : (room : ℕ) (k : Terminal) (kind : ShaderKind) → kind_of k ≡ Some kind → (ts after : List Lexeme) (x : Shader × ℕ) → shader room kind ts ≡ Some (x, after) → Spelt IsShader (room + 1) (l.terminal k ∷ ts) x after
unfolding shader
shader_sound room k kind is ts after x eq =
    let b = steps (name ts) _ x after eq in
    let e = named ts b.value b.between b.was in
    let a = steps (metadata room b.between) _ x after b.goes in
    let d = metadata_sound room b.between a.between a.value a.was in
    let o = steps (expect (m.Punct p.OpenParen) a.between) _ x after a.goes in
    let f = expected (m.Punct p.OpenParen) a.between o.between o.value o.was in
    let i = steps (params room o.between) _ x after o.goes in
    let r = params_sound room o.between i.between i.value i.was in
    let c = steps (expect (m.Punct p.CloseParen) i.between) _ x after i.goes in
    let f' = expected (m.Punct p.CloseParen) i.between c.between c.value c.was in
    let v = steps (body room c.between) _ x after c.goes in
    let t = body_sound room c.between v.between v.value v.was in
    let n = raised room (max a.value.1 (max i.value.1 v.value.1)) v.between _ x after v.goes in
    ended (λ y vs. Spelt IsShader (room + 1) (l.terminal k ∷ ts) y vs) n.goes (record {
      front = l.terminal k ∷ l.name b.value ∷ d.front ++ sign p.OpenParen ∷ r.front ++ sign p.CloseParen ∷ t.front;
      split = ap (λ vs. l.terminal k ∷ vs) (e ∙ ap (λ vs. l.name b.value ∷ vs) (d.split ∙ ap (λ vs. d.front ++ vs) (f ∙ ap (λ vs. sign p.OpenParen ∷ vs) (r.split ∙ ap (λ vs. r.front ++ vs) (f' ∙ ap (λ vs. sign p.CloseParen ∷ vs) t.split)))))
          ∙ sym (shader_tokens (l.terminal k) (l.name b.value) d.front r.front t.front v.between);
      is = g.shader k kind b.value is d.is r.is t.is;
      low = let low = n.low in omega arith;
    })

-- ---- sources

-- definitions, after those that were read, and the terminal of the shader after them
record DefinitionsRead (xs : List Definition) (h : ℕ) (ts : List Lexeme) (ys : Definitions) (after : List Lexeme) : Type 0 where
  next : List Definition
  high : ℕ
  front : List Lexeme
  terminal : Terminal
  kind : kind_of terminal ≡ Some ys.1
  split : ts ≡ front ++ l.terminal terminal ∷ after
  is : AreDefinitions next front high
  all : ys.0.0 ≡ xs ++ next
  peak : ys.0.1 ≡ max h high

definitions_sound : (room n : ℕ) (xs : List Definition) (h : ℕ) (ts after : List Lexeme) (ys : Definitions) → 0 < h → definitions_from room n (xs, h) ts ≡ Some (ys, after) → DefinitionsRead xs h ts ys after
unfolding definitions_from
definitions_sound room zero xs h ts after ys some eq = cc
definitions_sound room (suc n) xs h ts after ys some eq =
    elim (taking kind_of ts (up_to_kind (xs, h) (definition room) (definitions_from room n)) ys after eq) [
      | took k kind us e se eq ↦ ended (λ y vs. DefinitionsRead xs h ts y vs) eq
          (record { next = []; high = 1; front = []; terminal = k; kind = e; split = se; is = g.end; all = sym (append-nil xs); peak = omega arith })
      | left f eq ↦
          let b = steps (definition room ts) _ ys after eq in
          let d = definition_sound room ts b.between b.value b.was in
          let r = definitions_sound room n (xs ++ b.value.0 ∷ []) (max h b.value.1) b.between after ys (omega arith) b.goes in
          let peak = r.peak in
          record {
            next = b.value.0 ∷ r.next;
            high = max b.value.1 r.high;
            front = d.front ++ r.front;
            terminal = r.terminal;
            kind = r.kind;
            split = d.split ∙ ap (λ vs. d.front ++ vs) r.split ∙ sym (append_assoc d.front r.front (l.terminal r.terminal ∷ after));
            is = g.more d.is r.is;
            all = r.all ∙ append_assoc xs (b.value.0 ∷ []) r.next;
            peak = omega arith;
          }
    ]

pub definitions_high : {xs : List Definition} {a : List Lexeme} {h : ℕ} → AreDefinitions xs a h → 0 < h
definitions_high g.end = omega arith
definitions_high (g.more d d') = let k = definitions_high d' in omega arith

source_of_sound : (room : ℕ) (xs : List Definition) (h : ℕ) (x : Shader × ℕ) (a b ts after : List Lexeme) (y : Tree × ℕ) → AreDefinitions xs a h → IsShader x.0 b x.1 → x.1 ≤ room + 1
    → source_of room (xs, h) x ts ≡ Some (y, after) → Spelt IsTree (room + 1) (a ++ (b ++ ts)) y after
source_of_sound room _ _ x _ b ts after y g.end s low eq = ended (λ z vs. Spelt IsTree (room + 1) (b ++ ts) z vs) eq (record { front = b; split = refl; is = g.shader_alone s; low = low })
source_of_sound room _ _ x _ c ts after y (g.more {h} {i} {x = d'} {xs} {a} {b} d ds) s low eq =
    let n = raised room (max (max h i) x.1) ts _ y after eq in
    let same : max (max h i) x.1 + 1 ≡ max h (max i x.1) + 1 = omega arith in
    ended (λ z vs. Spelt IsTree (room + 1) ((a ++ b) ++ (c ++ ts)) z vs) n.goes (record {
      front = a ++ b ++ c;
      split = sym (append_assoc (a ++ b) c ts);
      is = subst (λ t. IsTree (record { definitions = d' ∷ xs; shader = x.0 }) (a ++ b ++ c) t) (sym same) (g.with_definitions d ds s);
      low = let low = n.low in omega arith;
    })

-- What `source` reads is spelled.
pub source_sound : (room : ℕ) → SoundFor IsTree (room + 1) (source room)
unfolding source
source_sound room ts after y eq =
    let b = steps (definitions_from room (length ts) ([], 1) ts) _ y after eq in
    let d = definitions_sound room (length ts) [] 1 ts b.between b.value (omega arith) b.was in
    let i = steps (shader room b.value.1 b.between) _ y after b.goes in
    let r = shader_sound room d.terminal b.value.1 d.kind b.between i.between i.value i.was in
    let k = definitions_high d.is in
    let peak : b.value.0.1 ≡ d.high = let q = d.peak in omega arith in
    let are = subst (λ zs. AreDefinitions zs d.front b.value.0.1) (sym d.all) (subst (λ t. AreDefinitions d.next d.front t) (sym peak) d.is) in
    respelt (d.split ∙ ap (λ vs. d.front ++ vs) r.split) (source_of_sound room b.value.0.0 b.value.0.1 i.value d.front r.front i.between after y are r.is r.low i.goes)
