-- What was read of sections and ops: the lines say the lines that are written of them.
use Rattle.std.proofs.Common.{codes, ◌≡◌, ℕ, ◌-◌, ◌≤◌, Bool, true, false, ◌&&◌, ◌||◌, List, [], ◌∷◌, ◌++◌, length, take, drop, map, Option, Some, Ok, refl, sym, ap, ◌∙◌, subst, append_assoc, append-nil, arith}
use Rattle.std.specs.Prelude.{IsTrue, if◌then◌else◌, nat_lt, option_map}
use Rattle.std.specs.Fmt.{decimal}
use Rattle.std.specs.List.{flat_map, slice_range}
use Rattle.std.specs.Option.{ok_or}
use Rattle.std.proofs.lemmas.List.{map-append, take_all, take-append-le, drop-append-le, length-drop}
use Rattle.osl_value.specs.declared.op_name.OpName.{OpName}
use Rattle.osl_value.specs.OpText.{name_of}
use Rattle.oso_code.specs.declared.op.Op.{Op}
use Rattle.oso_code.specs.declared.op.Section.{Section}
use Rattle.osl_value.specs.declared.shader_kind.ShaderKind.{ShaderKind}
use Rattle.oso_code.specs.declared.symbol.Symbol.{Symbol}
use Rattle.oso_code.specs.Ops.{op_fits}
use Rattle.oso_code.specs.Sections.{owner_fits}
use Rattle.oso_code.specs.Valid.{most_ops}
use Rattle.osl_valuetext.specs.Words.{Line}
use Rattle.oso_write.specs.Lines.{name_at, op_line, section_name}
use Rattle.oso_read.specs.declared.body.Start.{Start}
use Rattle.oso_read.specs.declared.error.OsoKind.TheVariants as kinds
use Rattle.oso_read.specs.Faults.{◌>>=◌, at_line, holding}
use Rattle.oso_read.specs.Text.{Numbered}
use Rattle.oso_read.specs.Hints.{Saying, saying, said}
use Rattle.osl_valuetext.specs.Literals.{each}
use Rattle.oso_read.specs.OpLine.{OpWords, op_at, code_at, is_code_line, is_end_line}
use Rattle.oso_read.specs.Reading.{Body, empty_body, symbol_number, owner_named, last_start, owner_now, may_follow, section_begun, code_read, op_named, op_of, op_added, op_read, body_line, Filled, filled_from, sections_of}
use Rattle.osl_valuetext.proofs.Canonicals.{each_read}
use Rattle.oso_read.proofs.NameNumbers.{number_names, owner_names, op_names}
use Rattle.oso_read.proofs.Passing.{ok_of, goes_on, line_gave, hears, some_from_ok, holds, follows, maps}
use Rattle.oso_read.proofs.PlainLines.{code_line_says, op_line_says}
use Rattle.oso_read.proofs.SaysHead.{says, EndsWith, ends_itself, ends_later}
use Rattle.oso_read.proofs.ValidBody.{IsFilled, line_made, made_filled, code_first}
use Rattle.oso_read.proofs.ValidSections.{Rises, rises_end, begun}
use Rattle.oso_read.proofs.ValidSymbols.{BeginsBody}

-- ---- the lines that are written of sections and ops

abbrev code_line : List Symbol → Option ℕ → Line
code_line symbols owner = codes "code" ∷ section_name symbols owner ∷ []

abbrev lines_in : List Symbol → List Op → Section → List Line
lines_in symbols ops s = code_line symbols s.param ∷ map (op_line symbols) (slice_range ops s.start s.end)

abbrev lines_of_starts : List Symbol → List Op → List Start → List Line
lines_of_starts symbols ops starts = flat_map (lines_in symbols ops) (sections_of starts (length ops))

abbrev pub body_lines : List Symbol → Body → List Line
body_lines symbols body = lines_of_starts symbols body.ops body.starts

-- ops up to a place stay where one more follows
range_stays : (ops : List Op) (op : Op) (from to : ℕ) → from ≤ to → to ≤ length ops → slice_range (ops ++ op ∷ []) from to ≡ slice_range ops from to
range_stays ops op from to ordered within =
    ap (take (to - from)) (drop-append-le from ops (op ∷ []) (omega arith))
    ∙ take-append-le (to - from) (drop from ops) (op ∷ []) (omega (arith, length-drop from ops))

range_whole : (ops : List Op) (from : ℕ) → slice_range ops from (length ops) ≡ drop from ops
range_whole ops from = take_all (length ops - from) (drop from ops) (omega (arith, length-drop from ops))

range_grows : (ops : List Op) (op : Op) (from : ℕ) → from ≤ length ops → slice_range (ops ++ op ∷ []) from (length (ops ++ op ∷ [])) ≡ slice_range ops from (length ops) ++ op ∷ []
range_grows ops op from within =
    range_whole (ops ++ op ∷ []) from ∙ drop-append-le from ops (op ∷ []) within ∙ ap (λ (os : List Op). os ++ op ∷ []) (sym (range_whole ops from))

-- one more op is one more line
op_grown : (symbols : List Symbol) (ops : List Op) (op : Op) (first : Start) (later : List Start) → Rises symbols first later (length ops)
    → lines_of_starts symbols (ops ++ op ∷ []) (first ∷ later) ≡ lines_of_starts symbols ops (first ∷ later) ++ op_line symbols op ∷ []
op_grown symbols ops op first [] rises =
    let code = code_line symbols first.owner in
    let old = map (op_line symbols) (slice_range ops first.op (length ops)) in
    let grown : map (op_line symbols) (slice_range (ops ++ op ∷ []) first.op (length (ops ++ op ∷ []))) ≡ old ++ op_line symbols op ∷ [] =
    ap (map (op_line symbols)) (range_grows ops op first.op rises.1) ∙ map-append (op_line symbols) (slice_range ops first.op (length ops)) (op ∷ []) in
    ap (λ (ls : List Line). (code ∷ ls) ++ []) grown ∙ append-nil (code ∷ (old ++ op_line symbols op ∷ [])) ∙ ap (λ (ls : List Line). ls ++ op_line symbols op ∷ []) (sym (append-nil (code ∷ old)))
op_grown symbols ops op first (next ∷ later) rises =
    let within = rises_end symbols next later (length ops) rises.3 in
    let section : Section = record { param = first.owner; start = first.op; end = next.op } in
    let stays : lines_in symbols (ops ++ op ∷ []) section ≡ lines_in symbols ops section =
    ap (λ (os : List Op). code_line symbols first.owner ∷ map (op_line symbols) os) (range_stays ops op first.op next.op rises.1 within) in
    ap (λ (ls : List Line). ls ++ lines_of_starts symbols (ops ++ op ∷ []) (next ∷ later)) stays
    ∙ ap (λ (ls : List Line). lines_in symbols ops section ++ ls) (op_grown symbols ops op next later rises.3)
    ∙ sym (append_assoc (lines_in symbols ops section) (lines_of_starts symbols ops (next ∷ later)) (op_line symbols op ∷ []))

no_ops : (ops : List Op) (n : ℕ) → slice_range ops n n ≡ []
no_ops ops n = let none : n - n ≡ 0 = omega arith in ap (λ (k : ℕ). take k (drop n ops)) none

new_section : (symbols : List Symbol) (ops : List Op) (owner : Option ℕ) (n : ℕ) → lines_in symbols ops (record { param = owner; start = n; end = n }) ≡ code_line symbols owner ∷ []
new_section symbols ops owner n = ap (λ (os : List Op). code_line symbols owner ∷ map (op_line symbols) os) (no_ops ops n)

-- one more section is one more line
section_grown : (symbols : List Symbol) (ops : List Op) (first : Start) (later : List Start) (owner : Option ℕ)
    → lines_of_starts symbols ops (first ∷ (later ++ begun owner (length ops) ∷ [])) ≡ lines_of_starts symbols ops (first ∷ later) ++ code_line symbols owner ∷ []
section_grown symbols ops first [] owner =
    let section : Section = record { param = first.owner; start = first.op; end = length ops } in
    ap (λ (ls : List Line). lines_in symbols ops section ++ (ls ++ [])) (new_section symbols ops owner (length ops))
    ∙ ap (λ (ls : List Line). ls ++ code_line symbols owner ∷ []) (sym (append-nil (lines_in symbols ops section)))
section_grown symbols ops first (next ∷ later) owner =
    let section : Section = record { param = first.owner; start = first.op; end = next.op } in
    ap (λ (ls : List Line). lines_in symbols ops section ++ ls) (section_grown symbols ops next later owner)
    ∙ sym (append_assoc (lines_in symbols ops section) (lines_of_starts symbols ops (next ∷ later)) (code_line symbols owner ∷ []))

first_section : (symbols : List Symbol) (owner : Option ℕ) → lines_of_starts symbols [] (begun owner 0 ∷ []) ≡ code_line symbols owner ∷ []
first_section symbols owner = append-nil (lines_in symbols [] (record { param = owner; start = 0; end = 0 })) ∙ new_section symbols [] owner 0

-- the lines that are left begin with `end`, where there are some
abbrev pub EndsBody : List Numbered → Type 0
EndsBody [] = Unit {0}
EndsBody (l ∷ ls) = IsTrue (is_end_line l.line)

-- ---- a line

module _ (kind : ShaderKind) (symbols : List Symbol) where
  -- the section that a `code` line began
  record Begins (l : Numbered) (body after : Body) : Type 0 where
    owner : Option ℕ
    line : said l.line ≡ Some (code_line symbols owner)
    made : record body { starts = body.starts ++ begun owner (length body.ops) ∷ [] } ≡ after

  code_begins : (l : Numbered) (s : Saying) (body after : Body) → saying l.line ≡ Some s → is_code_line l.line ≡ true → code_read symbols body s ≡ Ok after → Begins l body after
  unfolding code_read
  code_begins l s body after is code h =
      let read = goes_on (ok_or (code_at s) kinds.Line) (λ name. ok_or (owner_named symbols name) kinds.Op >>= section_begun symbols body) after h in
      let known = goes_on (ok_or (owner_named symbols read.value) kinds.Op) (section_begun symbols body) after read.rest in
      let made : Body = record body { starts = body.starts ++ begun known.value (length body.ops) ∷ [] } in
      let fits = holds (owner_fits symbols known.value && may_follow (last_start body.starts) known.value) kinds.Op made after known.rest in
      let line = code_line_says l.line s read.value is code (some_from_ok (code_at s) kinds.Line read.value read.gave) in
      let name = owner_names symbols read.value known.value (some_from_ok (owner_named symbols read.value) kinds.Op known.value known.gave) in
      record { owner = known.value; line = line ∙ ap (λ (n : List ℕ). Some (codes "code" ∷ n ∷ [])) name; made = fits.1 }

  record Adds (l : Numbered) (body after : Body) : Type 0 where
    op : Op
    line : said l.line ≡ Some (op_line symbols op)
    ops : after.ops ≡ body.ops ++ op ∷ []
    starts : after.starts ≡ body.starts

  -- the op of words has these words
  op_words_of : (w : OpWords) (op : Op) → op_of symbols w ≡ Some op → w.name ∷ (w.args ++ map decimal w.jumps) ≡ op_line symbols op
  unfolding op_of
  op_words_of w op h =
      let make : OpName → List ℕ → Op = λ name args. record { name = name; args = args; jumps = w.jumps } in
      let known = follows (op_named w.name) (λ name. option_map (make name) (each (symbol_number symbols) w.args)) op h in
      let found = maps (make known.value) (each (symbol_number symbols) w.args) op known.rest in
      let args : w.args ≡ map (name_at symbols) found.value = each_read (symbol_number symbols) (name_at symbols) (λ (name : List ℕ) (k : ℕ) (e : symbol_number symbols name ≡ Some k). number_names symbols name k e) w.args found.value found.is in
      ap (λ (n : List ℕ). n ∷ (w.args ++ map decimal w.jumps)) (op_names w.name known.value known.is)
      ∙ ap (λ (as' : Line). name_of known.value ∷ (as' ++ map decimal w.jumps)) args
      ∙ ap (op_line symbols) found.image

  abbrev with_op : Numbered → Body → Op → Body
  with_op l body op = record body { ops = body.ops ++ op ∷ []; lines = body.lines ++ l.number ∷ [] }

  adds_it : (l : Numbered) (body after : Body) (op fitting : Op) → said l.line ≡ Some (op_line symbols op) → op ≡ fitting → with_op l body fitting ≡ after → Adds l body after
  adds_it l body after op fitting line same made =
      let added : Adds l body (with_op l body op) = record { op = op; line = line; ops = refl; starts = refl } in
      subst (λ (b : Body). Adds l body b) made (subst (λ (o : Op). Adds l body (with_op l body o)) same added)

  op_adds : (l : Numbered) (s : Saying) (body after : Body) → saying l.line ≡ Some s → op_read kind symbols body l.number s ≡ Ok after → Adds l body after
  unfolding op_read
  op_adds l s body after is h =
      let read = goes_on (ok_or (op_at s) kinds.Line) (λ w. ok_or (op_of symbols w) kinds.Op >>= op_added kind symbols body l.number) after h in
      let known = goes_on (ok_or (op_of symbols read.value) kinds.Op) (op_added kind symbols body l.number) after read.rest in
      let fitting = goes_on (holding (op_fits kind symbols (owner_now body) known.value) kinds.Op known.value) (λ o. holding (nat_lt (length body.ops) most_ops) kinds.Limit (with_op l body o)) after known.rest in
      let fits = holds (op_fits kind symbols (owner_now body) known.value) kinds.Op known.value fitting.value fitting.gave in
      let room = holds (nat_lt (length body.ops) most_ops) kinds.Limit (with_op l body fitting.value) after fitting.rest in
      let line = op_line_says l.line s read.value is (some_from_ok (op_at s) kinds.Line read.value read.gave) in
      let words = op_words_of read.value known.value (some_from_ok (op_of symbols read.value) kinds.Op known.value known.gave) in
      adds_it l body after known.value fitting.value (line ∙ ap Some words) fits.1 room.1

  -- what a line says is the line that is written of what it made
  abbrev Grows : Numbered → Body → Body → Type 0
  Grows l body after = map Some (body_lines symbols after) ≡ map Some (body_lines symbols body) ++ said l.line ∷ []

  grown_by : (l : Numbered) (body after : Body) (line : Line) → said l.line ≡ Some line → body_lines symbols after ≡ body_lines symbols body ++ line ∷ [] → Grows l body after
  grown_by l body after line is more =
      ap (map Some) more ∙ map-append Some (body_lines symbols body) (line ∷ []) ∙ ap (λ (o : Option Line). map Some (body_lines symbols body) ++ o ∷ []) (sym is)

  section_grows : (l : Numbered) (body after : Body) → IsFilled kind symbols body → Begins l body after → Grows l body after
  section_grows l body after filled begins =
      let starts : List Start → List Line = λ ss. lines_of_starts symbols body.ops ss in
      let new = begun begins.owner (length body.ops) in
      grown_by l body after (code_line symbols begins.owner) begins.line
      (ap (body_lines symbols) (sym begins.made) ∙ ap (λ (ss : List Start). starts (ss ++ new ∷ [])) filled.starts
      ∙ section_grown symbols body.ops filled.first filled.later begins.owner ∙ ap (λ (ss : List Start). starts ss ++ code_line symbols begins.owner ∷ []) (sym filled.starts))

  op_grows : (l : Numbered) (body after : Body) → IsFilled kind symbols body → Adds l body after → Grows l body after
  op_grows l body after filled adds =
      grown_by l body after (op_line symbols adds.op) adds.line
      (ap (λ (ss : List Start). lines_of_starts symbols after.ops ss) (adds.starts ∙ filled.starts)
      ∙ ap (λ (os : List Op). lines_of_starts symbols os (filled.first ∷ filled.later)) adds.ops
      ∙ op_grown symbols body.ops adds.op filled.first filled.later filled.rises
      ∙ ap (λ (ss : List Start). lines_of_starts symbols body.ops ss ++ op_line symbols adds.op ∷ []) (sym filled.starts))

  made_grows : (l : Numbered) (s : Saying) (body after : Body) → IsFilled kind symbols body → saying l.line ≡ Some s → line_made kind symbols body l s ≡ Ok after → Grows l body after
  made_grows l s body after filled is h = by (is_code_line l.line) refl h
    where
      by : (b : Bool) → is_code_line l.line ≡ b → (if b then code_read symbols body s else op_read kind symbols body l.number s) ≡ Ok after → Grows l body after
      by true code e = section_grows l body after filled (code_begins l s body after is code e)
      by false code e = op_grows l body after filled (op_adds l s body after is e)

  -- ---- lines up to `end`

  pub record FillSays (body : Body) (ls : List Numbered) (f : Filled) : Type 0 where
    pub says_it : map Some (body_lines symbols body) ++ says ls ≡ map Some (body_lines symbols f.body) ++ says f.rest
    pub end : EndsBody f.rest
    pub ends : EndsWith ls f.rest

  stays : (body : Body) (ls : List Numbered) → EndsBody ls → FillSays body ls (record { body = body; rest = ls })
  stays body ls end = record { says_it = refl; end = end; ends = ends_itself ls }

  one_line : (l : Numbered) (ls : List Numbered) (body after : Body) (f : Filled) → Grows l body after → FillSays after ls f → FillSays body (l ∷ ls) f
  one_line l ls body after f grows rest =
      record {
        says_it = sym (append_assoc (map Some (body_lines symbols body)) (said l.line ∷ []) (says ls)) ∙ ap (λ (xs : List (Option Line)). xs ++ says ls) (sym grows) ∙ rest.says_it;
        end = rest.end;
        ends = ends_later l ls f.rest rest.ends;
      }

  -- a line that made something, and what is read after it
  record Read (body : Body) (l : Numbered) (ls : List Numbered) (f : Filled) : Type 0 where
    heard : Saying
    is : saying l.line ≡ Some heard
    after : Body
    made : line_made kind symbols body l heard ≡ Ok after
    rest : filled_from kind symbols after ls ≡ Ok f

  line_read : (body : Body) (l : Numbered) (ls : List Numbered) (f : Filled) → (at_line l.number (body_line kind symbols body l) >>= λ after. filled_from kind symbols after ls) ≡ Ok f → Read body l ls f
  line_read body l ls f h =
      let read = goes_on (at_line l.number (body_line kind symbols body l)) (λ after. filled_from kind symbols after ls) f h in
      let made = hears kinds.Line (line_made kind symbols body l) (saying l.line) read.value (line_gave l.number (body_line kind symbols body l) read.value read.gave) in
      record { heard = made.saying; is = made.says; after = read.value; made = made.made; rest = read.rest }

  filled_says : (body : Body) (ls : List Numbered) (f : Filled) → IsFilled kind symbols body → filled_from kind symbols body ls ≡ Ok f → FillSays body ls f
  unfolding filled_from
  filled_says body [] f filled h = subst (λ (g : Filled). FillSays body [] g) (ok_of (record { body = body; rest = [] }) f h) (stays body [] tt)
  filled_says body (l ∷ ls) f filled h = by (is_end_line l.line) refl h (λ after more rest. filled_says after ls f more rest)
    where
      by : (b : Bool) → is_end_line l.line ≡ b
          → (if b then Ok (record { body = body; rest = l ∷ ls }) else (at_line l.number (body_line kind symbols body l) >>= λ after. filled_from kind symbols after ls)) ≡ Ok f
          → ((after : Body) → IsFilled kind symbols after → filled_from kind symbols after ls ≡ Ok f → FillSays after ls f) → FillSays body (l ∷ ls) f
      by true end e go = subst (λ (g : Filled). FillSays body (l ∷ ls) g) (ok_of (record { body = body; rest = l ∷ ls }) f e) (stays body (l ∷ ls) end)
      by false end e go =
          let read = line_read body l ls f e in
          one_line l ls body read.after f (made_grows l read.heard body read.after filled read.is read.made) (go read.after (made_filled kind symbols body l read.heard read.after filled read.made) read.rest)

  -- from the first `code` on
  pub first_says : (ls : List Numbered) (f : Filled) → BeginsBody ls → filled_from kind symbols empty_body ls ≡ Ok f → FillSays empty_body ls f
  unfolding filled_from
  first_says [] f begins h = subst (λ (g : Filled). FillSays empty_body [] g) (ok_of (record { body = empty_body; rest = [] }) f h) (stays empty_body [] tt)
  first_says (l ∷ ls) f begins h = by (is_code_line l.line) (is_end_line l.line) refl refl begins h
    where
      by : (c b : Bool) → is_code_line l.line ≡ c → is_end_line l.line ≡ b → IsTrue (c || b)
          → (if b then Ok (record { body = empty_body; rest = l ∷ ls }) else (at_line l.number (body_line kind symbols empty_body l) >>= λ after. filled_from kind symbols after ls)) ≡ Ok f
          → FillSays empty_body (l ∷ ls) f
      by c true code end either e = subst (λ (g : Filled). FillSays empty_body (l ∷ ls) g) (ok_of (record { body = empty_body; rest = l ∷ ls }) f e) (stays empty_body (l ∷ ls) end)
      by false false code end either e = absurd (cc either)
      by true false code end either e =
          let read = line_read empty_body l ls f e in
          let made : code_read symbols empty_body read.heard ≡ Ok read.after =
          sym (ap (λ (b : Bool). if b then code_read symbols empty_body read.heard else op_read kind symbols empty_body l.number read.heard) code) ∙ read.made in
          let begins_it = code_begins l read.heard empty_body read.after read.is code made in
          let grows : Grows l empty_body read.after =
          grown_by l empty_body read.after (code_line symbols begins_it.owner) begins_it.line (ap (body_lines symbols) (sym begins_it.made) ∙ first_section symbols begins_it.owner) in
          one_line l ls empty_body read.after f grows (filled_says read.after ls f (code_first kind symbols read.heard read.after made) read.rest)
