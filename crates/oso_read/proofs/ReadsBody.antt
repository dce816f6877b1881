-- Lines that say sections and ops: what is read of them.
use Rattle.std.proofs.Common.{codes, ◌≡◌, ℕ, ◌+◌, ◌-◌, ◌<◌, Bool, true, false, ◌&&◌, List, [], ◌∷◌, ◌++◌, length, map, Option, Some, Result, Ok, refl, sym, ap, ◌∙◌, subst, append_assoc, append-nil, arith}
use Rattle.std.specs.Prelude.{IsTrue, if◌then◌else◌, nat_lt, ◌==◌, slice_get, option_map, option_and_then}
use Rattle.std.specs.List.{list_all}
use Rattle.std.specs.Option.{ok_or}
use Rattle.std.proofs.lemmas.Bool.{and_parts, and_from, lt-ltb}
use Rattle.std.proofs.lemmas.List.{length-append}
use Rattle.osl_value.specs.declared.op_name.OpName.{OpName}
use Rattle.osl_value.specs.OpText.{name_of}
use Rattle.oso_code.specs.declared.op.Op.{Op}
use Rattle.osl_value.specs.declared.shader_kind.ShaderKind.{ShaderKind}
use Rattle.oso_code.specs.declared.symbol.Symbol.{Symbol}
use Rattle.oso_code.specs.Names.{is_name}
use Rattle.oso_code.specs.Ops.{is_number_of, op_fits, takes_types, type_at, range_count}
use Rattle.oso_code.specs.Sections.{owner_fits}
use Rattle.oso_code.specs.Valid.{most_ops}
use Rattle.osl_valuetext.specs.Words.{Line}
use Rattle.oso_write.specs.Lines.{name_at, op_line, section_name}
use Rattle.oso_read.specs.declared.body.Start.{Start}
use Rattle.oso_read.specs.declared.error.OsoKind.{OsoKind}
use Rattle.oso_read.specs.declared.error.OsoKind.TheVariants as kinds
use Rattle.oso_read.specs.Faults.{Fault, ◌>>=◌, at_line, holding}
use Rattle.oso_read.specs.Text.{Numbered}
use Rattle.oso_read.specs.Hints.{Saying, saying}
use Rattle.osl_valuetext.specs.Literals.{each}
use Rattle.oso_read.specs.OpLine.{OpWords, op_at, code_at, is_code_line, is_end_line}
use Rattle.oso_read.specs.Reading.{heard, Body, owner_named, last_start, owner_of_start, owner_now, may_follow, symbol_number, section_begun, code_read, op_of, op_added, op_read, body_line, Filled, filled_from}
use Rattle.oso_read.proofs.NameNumbers.{Fit, numbers_written, name_is_name, owner_written, owner_is_name, op_written}
use Rattle.oso_read.proofs.PlainLines.{AreJumps, code_line_reads, op_line_reads}
use Rattle.oso_read.proofs.ReadsSymbols.{Say, said_first, said_rest, none_said}
use Rattle.oso_read.proofs.ValidSymbols.{get_seam}

module _ (last : Numbered) (kind : ShaderKind) (symbols : List Symbol) (fit : Fit symbols) where
  -- ops from the n-th on, each of which fits the owner of the section
  abbrev pub OpsFit : Option ℕ → ℕ → List Op → Type 0
  OpsFit owner n [] = Unit {0}
  OpsFit owner n (op ∷ ops) = IsTrue (op_fits kind symbols owner op) × (n < most_ops) × AreJumps op.jumps × OpsFit owner (n + 1) ops

  abbrev body_with : List Start → List Op → List ℕ → Body
  body_with starts ops lines = record { starts = starts; ops = ops; lines = lines }

  -- lines that are read as ops after those of a body
  pub record OpsRead (body : Body) (ops : List Op) (ls : List Numbered) (ws : List Line) : Type 0 where
    pub lines : List ℕ
    pub rest : List Numbered
    pub reads : filled_from kind symbols body ls ≡ filled_from kind symbols (record { starts = body.starts; ops = body.ops ++ ops; lines = lines }) rest
    pub says : Say last rest ws

  -- ---- an op

  op_is : (op : Op) → IsTrue (list_all (is_number_of symbols) op.args) → op_of symbols (record { name = name_of op.name; args = map (name_at symbols) op.args; jumps = op.jumps }) ≡ Some op
  unfolding op_of
  op_is op below =
      ap (λ (o : Option OpName). option_and_then (λ name. option_map (λ args. record { name = name; args = args; jumps = op.jumps }) (each_number op)) o) (op_written op.name)
      ∙ ap (λ (o : Option (List ℕ)). option_map (λ args. record { name = op.name; args = args; jumps = op.jumps }) o) (numbers_written symbols op.args fit below)
    where
      each_number : Op → Option (List ℕ)
      each_number o = each (symbol_number symbols) (map (name_at symbols) o.args)

  names_are : (args : List ℕ) → IsTrue (list_all (is_number_of symbols) args) → list_all is_name (map (name_at symbols) args) ≡ true
  names_are [] below = refl
  names_are (k ∷ args) below =
      let parts = and_parts (is_number_of symbols k) (list_all (is_number_of symbols) args) below in
      and_from (is_name (name_at symbols k)) (list_all is_name (map (name_at symbols) args)) (name_is_name symbols k fit parts.0) (names_are args parts.1)

  numbers_below : (owner : Option ℕ) (op : Op) → IsTrue (op_fits kind symbols owner op) → IsTrue (list_all (is_number_of symbols) op.args)
  numbers_below owner op fits =
      let counts = list_all (is_number_of symbols) op.args && (length op.jumps == range_count op.name) in
      (and_parts (list_all (is_number_of symbols) op.args) (length op.jumps == range_count op.name)
      (and_parts counts (takes_types op.name (map (type_at symbols) op.args)) (and_parts (counts && takes_types op.name (map (type_at symbols) op.args)) _ fits).0).0).0

  abbrev with_op : Body → ℕ → Op → Body
  with_op body number op = record body { ops = body.ops ++ op ∷ []; lines = body.lines ++ number ∷ [] }

  op_is_added : (body : Body) (number : ℕ) (op : Op) → IsTrue (op_fits kind symbols (owner_now body) op) → length body.ops < most_ops → op_added kind symbols body number op ≡ Ok (with_op body number op)
  op_is_added body number op fits room =
      ap (λ (b : Bool). holding b kinds.Op op >>= λ o. holding (nat_lt (length body.ops) most_ops) kinds.Limit (with_op body number o)) fits
      ∙ ap (λ (b : Bool). holding b kinds.Limit (with_op body number op)) (lt-ltb (length body.ops) most_ops room)

  op_is_read : (body : Body) (number : ℕ) (op : Op) (s : Saying) → op_at s ≡ Some (record { name = name_of op.name; args = map (name_at symbols) op.args; jumps = op.jumps })
      → IsTrue (op_fits kind symbols (owner_now body) op) → length body.ops < most_ops → op_read kind symbols body number s ≡ Ok (with_op body number op)
  unfolding op_read
  op_is_read body number op s is fits room =
      ap (λ (o : Option OpWords). ok_or o kinds.Line >>= λ w. ok_or (op_of symbols w) kinds.Op >>= op_added kind symbols body number) is
      ∙ ap (λ (o : Option Op). ok_or o kinds.Op >>= op_added kind symbols body number) (op_is op (numbers_below (owner_now body) op fits))
      ∙ op_is_added body number op fits room

  -- ---- lines up to `end`

  abbrev going : Body → Numbered → List Numbered → Bool → Result Filled Fault
  going body l ls ends = if ends then Ok (record { body = body; rest = l ∷ ls }) else (at_line l.number (body_line kind symbols body l) >>= λ after. filled_from kind symbols after ls)

  abbrev line_made : Body → Numbered → Saying → Bool → Result Body OsoKind
  line_made body l s code = if code then code_read symbols body s else op_read kind symbols body l.number s

  -- a line that is not `end` and makes a body, and those after it
  goes_to : (body : Body) (l : Numbered) (ls : List Numbered) (s : Saying) (code : Bool) (after : Body) → is_end_line l.line ≡ false → saying l.line ≡ Some s → is_code_line l.line ≡ code
      → line_made body l s code ≡ Ok after → filled_from kind symbols body (l ∷ ls) ≡ filled_from kind symbols after ls
  unfolding filled_from
  goes_to body l ls s code after not_end says is made =
      let behind : Body → Result Filled Fault = λ after. filled_from kind symbols after ls in
      ap (going body l ls) not_end
      ∙ ap (λ (o : Option Saying). at_line l.number (heard kinds.Line (λ s. line_made body l s (is_code_line l.line)) o) >>= behind) says
      ∙ ap (λ (b : Bool). at_line l.number (line_made body l s b) >>= behind) is
      ∙ ap (λ (r : Result Body OsoKind). at_line l.number r >>= behind) made

  pub ops_read : (ops : List Op) (body : Body) (ls : List Numbered) (ws : List Line) → OpsFit (owner_now body) (length body.ops) ops → Say last ls (map (op_line symbols) ops ++ ws) → OpsRead body ops ls ws
  ops_read [] body ls ws all h =
      record { lines = body.lines; rest = ls; reads = ap (λ (ops : List Op). filled_from kind symbols (body_with body.starts ops body.lines) ls) (sym (append-nil body.ops)); says = h }
  ops_read (op ∷ ops) body [] ws all h = absurd (none_said last (op_line symbols op) (map (op_line symbols) ops ++ ws) h)
  ops_read (op ∷ ops) body (l ∷ ls) ws all h =
      let line = op_line_reads l.line op.name (map (name_at symbols) op.args) op.jumps (names_are op.args (numbers_below (owner_now body) op all.0)) all.2 (said_first last l ls (op_line symbols op) (map (op_line symbols) ops ++ ws) h) in
      let after = with_op body l.number op in
      let len = length-append body.ops (op ∷ []) in
      let next : length body.ops + 1 ≡ length (body.ops ++ op ∷ []) = omega (arith, len) in
      let more = ops_read ops after ls ws (subst (λ (n : ℕ). OpsFit (owner_now body) n ops) next all.3) (said_rest last l ls (op_line symbols op) (map (op_line symbols) ops ++ ws) h) in
      record {
        lines = more.lines;
        rest = more.rest;
        reads =
            goes_to body l ls line.heard false after line.not_end line.says line.not_code (op_is_read body l.number op line.heard line.op all.0 all.1)
            ∙ more.reads
            ∙ ap (λ (done : List Op). filled_from kind symbols (body_with body.starts done more.lines) more.rest) (append_assoc body.ops (op ∷ []) ops);
        says = more.says;
      }

  -- ---- a section

  abbrev with_start : Body → Option ℕ → Body
  with_start body owner = record body { starts = body.starts ++ record { owner = owner; op = length body.ops } ∷ [] }

  pub last_of_more : (starts : List Start) (start : Start) → last_start (starts ++ start ∷ []) ≡ Some start
  last_of_more starts start =
      let len = length-append starts (start ∷ []) in
      let n : length (starts ++ start ∷ []) - 1 ≡ length starts = omega (arith, len) in
      ap (slice_get (starts ++ start ∷ [])) n ∙ get_seam starts start

  code_is_read : (body : Body) (s : Saying) (owner : Option ℕ) → code_at s ≡ Some (section_name symbols owner) → IsTrue (owner_fits symbols owner) → IsTrue (may_follow (last_start body.starts) owner)
      → code_read symbols body s ≡ Ok (with_start body owner)
  unfolding code_read
  code_is_read body s owner is fits comes =
      ap (λ (o : Option (List ℕ)). ok_or o kinds.Line >>= λ name. ok_or (owner_named symbols name) kinds.Op >>= section_begun symbols body) is
      ∙ ap (λ (o : Option (Option ℕ)). ok_or o kinds.Op >>= section_begun symbols body) (owner_written symbols owner fit fits)
      ∙ ap (λ (b : Bool). holding b kinds.Op (with_start body owner)) (and_from (owner_fits symbols owner) (may_follow (last_start body.starts) owner) fits comes)

  abbrev code_words : Option ℕ → Line
  code_words owner = codes "code" ∷ section_name symbols owner ∷ []

  -- lines that are read as a section after those of a body
  pub record SectionRead (body : Body) (owner : Option ℕ) (ops : List Op) (ls : List Numbered) (ws : List Line) : Type 0 where
    pub lines : List ℕ
    pub rest : List Numbered
    pub reads : filled_from kind symbols body ls ≡ filled_from kind symbols (record { starts = body.starts ++ record { owner = owner; op = length body.ops } ∷ []; ops = body.ops ++ ops; lines = lines }) rest
    pub says : Say last rest ws

  pub section_read : (owner : Option ℕ) (ops : List Op) (body : Body) (ls : List Numbered) (ws : List Line) → IsTrue (owner_fits symbols owner) → IsTrue (may_follow (last_start body.starts) owner)
      → OpsFit owner (length body.ops) ops → Say last ls (code_words owner ∷ (map (op_line symbols) ops ++ ws)) → SectionRead body owner ops ls ws
  section_read owner ops body [] ws fits comes all h = absurd (none_said last (code_words owner) (map (op_line symbols) ops ++ ws) h)
  section_read owner ops body (l ∷ ls) ws fits comes all h =
      let line = code_line_reads l.line (section_name symbols owner) (owner_is_name symbols owner fit fits) (said_first last l ls (code_words owner) (map (op_line symbols) ops ++ ws) h) in
      let after = with_start body owner in
      let now : owner ≡ owner_now after = sym (ap owner_of_start (last_of_more body.starts (record { owner = owner; op = length body.ops }))) in
      let more = ops_read ops after ls ws (subst (λ (o : Option ℕ). OpsFit o (length body.ops) ops) now all) (said_rest last l ls (code_words owner) (map (op_line symbols) ops ++ ws) h) in
      record {
        lines = more.lines;
        rest = more.rest;
        reads = goes_to body l ls line.heard true after line.not_end line.says line.is_code (code_is_read body line.heard owner line.code fits comes) ∙ more.reads;
        says = more.says;
      }
