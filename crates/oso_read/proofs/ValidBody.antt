-- Sections and ops that are read fit.
use Rattle.std.proofs.Common.{◌≡◌, ℕ, ◌<◌, ◌≤◌, Bool, true, false, ◌&&◌, ◌||◌, ◌⊎◌, inl, inr, List, [], ◌∷◌, ◌++◌, length, Option, Some, Result, Ok, refl, sym, ap, ◌∙◌, subst, arith}
use Rattle.std.specs.Prelude.{IsTrue, if◌then◌else◌, nat_lt, slice_get}
use Rattle.std.specs.Option.{ok_or}
use Rattle.std.proofs.lemmas.Bool.{and_parts, ltb-true}
use Rattle.std.proofs.lemmas.List.{length-append}
use Rattle.std.proofs.lemmas.Option.{slice_get_within}
use Rattle.oso_code.specs.declared.op.Op.{Op}
use Rattle.osl_value.specs.declared.shader_kind.ShaderKind.{ShaderKind}
use Rattle.oso_code.specs.declared.symbol.Symbol.{Symbol}
use Rattle.oso_code.specs.Ops.{op_fits}
use Rattle.oso_code.specs.Sections.{owner_fits}
use Rattle.oso_code.specs.Valid.{most_ops}
use Rattle.oso_read.specs.declared.body.Start.{Start}
use Rattle.oso_read.specs.declared.error.OsoKind.{OsoKind}
use Rattle.oso_read.specs.declared.error.OsoKind.TheVariants as kinds
use Rattle.oso_read.specs.Faults.{Fault, ◌>>=◌, at_line, holding}
use Rattle.oso_read.specs.Text.{Numbered}
use Rattle.oso_read.specs.Hints.{Saying, saying}
use Rattle.oso_read.specs.OpLine.{op_at, code_at, is_code_line, is_end_line}
use Rattle.oso_read.specs.Reading.{Body, empty_body, owner_named, last_start, owner_of_start, owner_now, may_follow, section_begun, code_read, op_of, op_added, op_read, body_line, Filled, filled_from}
use Rattle.oso_read.proofs.Passing.{ok_of, goes_on, line_gave, hears, holds}
use Rattle.oso_read.proofs.ValidSections.{last_is, Rises, rises_more, begun, rises_begun, owner_in, owner_last, owner_begun}
use Rattle.oso_read.proofs.ValidSymbols.{each_of_more, BeginsBody}

-- sections in order from 0 on, and each op fits its section
pub record IsFilled (kind : ShaderKind) (symbols : List Symbol) (body : Body) : Type 0 where
  pub first : Start
  pub later : List Start
  pub starts : body.starts ≡ first ∷ later
  pub at_start : first.op ≡ 0
  pub rises : Rises symbols first later (length body.ops)
  pub ops : (k : ℕ) (op : Op) → slice_get body.ops k ≡ Some op → IsTrue (op_fits kind symbols (owner_in first later k) op)
  pub few : length body.ops ≤ most_ops

module _ (kind : ShaderKind) (symbols : List Symbol) where
  abbrev with_op : Body → ℕ → Op → Body
  with_op body number op = record body { ops = body.ops ++ op ∷ []; lines = body.lines ++ number ∷ [] }

  abbrev with_section : Body → Option ℕ → Body
  with_section body owner = record body { starts = body.starts ++ begun owner (length body.ops) ∷ [] }

  -- ---- an op

  op_filled : (body : Body) (number : ℕ) (op : Op) → IsFilled kind symbols body → IsTrue (op_fits kind symbols (owner_now body) op) → length body.ops < most_ops → IsFilled kind symbols (with_op body number op)
  op_filled body number op filled fits room =
      let len = length-append body.ops (op ∷ []) in
      let owner = ap (λ starts. owner_of_start (last_start starts)) filled.starts ∙ ap owner_of_start (last_is filled.first filled.later) ∙ sym (owner_last symbols filled.first filled.later (length body.ops) filled.rises) in
      record {
        first = filled.first;
        later = filled.later;
        starts = filled.starts;
        at_start = filled.at_start;
        rises = rises_more symbols filled.first filled.later (length body.ops) (length (body.ops ++ op ∷ [])) (omega (arith, len)) filled.rises;
        ops = each_of_more (λ k o. IsTrue (op_fits kind symbols (owner_in filled.first filled.later k) o)) body.ops op (λ k o lower is. filled.ops k o is)
            (subst (λ (o : Option ℕ). IsTrue (op_fits kind symbols o op)) owner fits);
        few = omega (arith, len, room);
      }

  added_filled : (body : Body) (number : ℕ) (op : Op) (after : Body) → IsFilled kind symbols body → op_added kind symbols body number op ≡ Ok after → IsFilled kind symbols after
  added_filled body number op after filled h =
      let fitting = goes_on (holding (op_fits kind symbols (owner_now body) op) kinds.Op op) (λ o. holding (nat_lt (length body.ops) most_ops) kinds.Limit (with_op body number o)) after h in
      let fits = holds (op_fits kind symbols (owner_now body) op) kinds.Op op fitting.value fitting.gave in
      let room = holds (nat_lt (length body.ops) most_ops) kinds.Limit (with_op body number fitting.value) after fitting.rest in
      subst (IsFilled kind symbols) room.1
      (op_filled body number fitting.value filled (subst (λ o. IsTrue (op_fits kind symbols (owner_now body) o)) fits.1 fits.0) (ltb-true (length body.ops) most_ops room.0))

  op_line_filled : (body : Body) (number : ℕ) (s : Saying) (after : Body) → IsFilled kind symbols body → op_read kind symbols body number s ≡ Ok after → IsFilled kind symbols after
  unfolding op_read
  op_line_filled body number s after filled h =
      let read = goes_on (ok_or (op_at s) kinds.Line) (λ w. ok_or (op_of symbols w) kinds.Op >>= op_added kind symbols body number) after h in
      let known = goes_on (ok_or (op_of symbols read.value) kinds.Op) (op_added kind symbols body number) after read.rest in
      added_filled body number known.value after filled known.rest

  -- ---- a section

  section_filled : (body : Body) (owner : Option ℕ) → IsFilled kind symbols body → IsTrue (owner_fits symbols owner) → IsTrue (may_follow (last_start body.starts) owner) → IsFilled kind symbols (with_section body owner)
  section_filled body owner filled fits comes =
      let end = length body.ops in
      let last = ap last_start filled.starts ∙ last_is filled.first filled.later in
      record {
        first = filled.first;
        later = filled.later ++ begun owner end ∷ [];
        starts = ap (λ starts. starts ++ begun owner end ∷ []) filled.starts;
        at_start = filled.at_start;
        rises = rises_begun symbols filled.first filled.later owner end filled.rises fits (subst (λ before. IsTrue (may_follow before owner)) last comes);
        ops = λ k op is. subst (λ (o : Option ℕ). IsTrue (op_fits kind symbols o op)) (sym (owner_begun filled.first filled.later (begun owner end) k (slice_get_within body.ops k op is))) (filled.ops k op is);
        few = filled.few;
      }

  first_filled : (owner : Option ℕ) → IsTrue (owner_fits symbols owner) → IsFilled kind symbols (with_section empty_body owner)
  first_filled owner fits =
      record {
        first = begun owner 0;
        later = [];
        starts = refl;
        at_start = refl;
        rises = (fits, omega arith);
        ops = λ k op is. absurd (cc is);
        few = omega arith;
      }

  -- a `code` line begins a section whose owner fits and may follow
  pub record Begins (body after : Body) : Type 0 where
    pub owner : Option ℕ
    pub fits : IsTrue (owner_fits symbols owner)
    pub comes : IsTrue (may_follow (last_start body.starts) owner)
    pub made : with_section body owner ≡ after

  code_begins : (body : Body) (s : Saying) (after : Body) → code_read symbols body s ≡ Ok after → Begins body after
  unfolding code_read
  code_begins body s after h =
      let read = goes_on (ok_or (code_at s) kinds.Line) (λ name. ok_or (owner_named symbols name) kinds.Op >>= section_begun symbols body) after h in
      let known = goes_on (ok_or (owner_named symbols read.value) kinds.Op) (section_begun symbols body) after read.rest in
      let both = holds (owner_fits symbols known.value && may_follow (last_start body.starts) known.value) kinds.Op (with_section body known.value) after known.rest in
      let parts = and_parts (owner_fits symbols known.value) (may_follow (last_start body.starts) known.value) both.0 in
      record { owner = known.value; fits = parts.0; comes = parts.1; made = both.1 }

  code_filled : (body : Body) (s : Saying) (after : Body) → IsFilled kind symbols body → code_read symbols body s ≡ Ok after → IsFilled kind symbols after
  code_filled body s after filled h =
      let begins = code_begins body s after h in
      subst (IsFilled kind symbols) begins.made (section_filled body begins.owner filled begins.fits begins.comes)

  pub code_first : (s : Saying) (after : Body) → code_read symbols empty_body s ≡ Ok after → IsFilled kind symbols after
  code_first s after h =
      let begins = code_begins empty_body s after h in
      subst (IsFilled kind symbols) begins.made (first_filled begins.owner begins.fits)

  -- ---- lines

  abbrev pub line_made : Body → Numbered → Saying → Result Body OsoKind
  line_made body l s = if is_code_line l.line then code_read symbols body s else op_read kind symbols body l.number s

  pub made_filled : (body : Body) (l : Numbered) (s : Saying) (after : Body) → IsFilled kind symbols body → line_made body l s ≡ Ok after → IsFilled kind symbols after
  made_filled body l s after filled h = by (is_code_line l.line) h
    where
      by : (b : Bool) → (if b then code_read symbols body s else op_read kind symbols body l.number s) ≡ Ok after → IsFilled kind symbols after
      by true e = code_filled body s after filled e
      by false e = op_line_filled body l.number s after filled e

  -- a line and those after it, up to `end`
  abbrev lines_made : Body → Numbered → List Numbered → Bool → Result Filled Fault
  lines_made body l ls ends = if ends then Ok (record { body = body; rest = l ∷ ls }) else (at_line l.number (body_line kind symbols body l) >>= λ after. filled_from kind symbols after ls)

  -- a line that made something, and what is read after it
  pub record Reads (body : Body) (l : Numbered) (ls : List Numbered) (f : Filled) : Type 0 where
    pub said : Saying
    pub after : Body
    pub made : line_made body l said ≡ Ok after
    pub rest : filled_from kind symbols after ls ≡ Ok f

  line_reads : (body : Body) (l : Numbered) (ls : List Numbered) (f : Filled) → lines_made body l ls false ≡ Ok f → Reads body l ls f
  line_reads body l ls f h =
      let read = goes_on (at_line l.number (body_line kind symbols body l)) (λ after. filled_from kind symbols after ls) f h in
      let made = hears kinds.Line (line_made body l) (saying l.line) read.value (line_gave l.number (body_line kind symbols body l) read.value read.gave) in
      record { said = made.saying; after = read.value; made = made.made; rest = read.rest }

  pub filled_are : (body : Body) (ls : List Numbered) (f : Filled) → IsFilled kind symbols body → filled_from kind symbols body ls ≡ Ok f → IsFilled kind symbols f.body
  unfolding filled_from
  filled_are body [] f filled h = subst (λ (g : Filled). IsFilled kind symbols g.body) (ok_of (record { body = body; rest = [] }) f h) filled
  filled_are body (l ∷ ls) f filled h = by (is_end_line l.line) h (λ after more rest. filled_are after ls f more rest)
    where
      by : (b : Bool) → lines_made body l ls b ≡ Ok f → ((after : Body) → IsFilled kind symbols after → filled_from kind symbols after ls ≡ Ok f → IsFilled kind symbols f.body) → IsFilled kind symbols f.body
      by true e go = subst (λ (g : Filled). IsFilled kind symbols g.body) (ok_of (record { body = body; rest = l ∷ ls }) f e) filled
      by false e go =
          let read = line_reads body l ls f e in
          go read.after (made_filled body l read.said read.after filled read.made) read.rest

  -- where lines begin the body, the first one begins a section, or there is none
  pub filled_first : (ls : List Numbered) (f : Filled) → BeginsBody ls → filled_from kind symbols empty_body ls ≡ Ok f → IsFilled kind symbols f.body ⊎ (f.body.starts ≡ [])
  unfolding filled_from
  filled_first [] f begins h = inr (ap (λ (g : Filled). g.body.starts) (sym (ok_of (record { body = empty_body; rest = [] }) f h)))
  filled_first (l ∷ ls) f begins h = by (is_code_line l.line) (is_end_line l.line) refl begins h
    where
      by : (c e : Bool) → is_code_line l.line ≡ c → IsTrue (c || e) → lines_made empty_body l ls e ≡ Ok f → IsFilled kind symbols f.body ⊎ (f.body.starts ≡ [])
      by c true is either made = inr (ap (λ (g : Filled). g.body.starts) (sym (ok_of (record { body = empty_body; rest = l ∷ ls }) f made)))
      by false false is either made = absurd (cc either)
      by true false is either made =
          let read = line_reads empty_body l ls f made in
          let code : code_read symbols empty_body read.said ≡ Ok read.after = sym (ap (λ (b : Bool). if b then code_read symbols empty_body read.said else op_read kind symbols empty_body l.number read.said) is) ∙ read.made in
          inl (filled_are read.after ls f (code_first read.said read.after code) read.rest)
