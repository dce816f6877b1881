-- A text read line by line: the shader, or the kind and the line of the first fault.
use Rattle.std.specs.Prelude.{ℕ, ◌+◌, ◌-◌, nat_lt, nat_le, Bool, true, false, not, ◌&&◌, ◌||◌, ◌==◌, if◌then◌else◌, List, [], ◌∷◌, ◌++◌, length, position, find, Option, Some, None, option_and_then, option_map, Result, Ok, Err, slice_get, slice_index}
use Rattle.std.specs.Option.{ok_or}
use Rattle.std.specs.Str.{bytes_eq}
use Rattle.std.specs.Cmp.Lexicographic.{pointwise}
use Rattle.osl_value.specs.declared.op_name.OpName.{OpName}
use Rattle.osl_value.specs.declared.op_name.TheConstants.OpName.{ALL}
use Rattle.osl_value.specs.OpText.{name_of}
use Rattle.oso_code.specs.declared.op.Op.{Op}
use Rattle.oso_code.specs.declared.op.Section.{Section}
use Rattle.oso_code.specs.declared.raw.Raw.{Raw}
use Rattle.osl_value.specs.declared.shader_kind.ShaderKind.{ShaderKind}
use Rattle.oso_code.specs.declared.symbol.Symbol.{Symbol}
use Rattle.oso_code.specs.Faults.{least, misfits}
use Rattle.oso_code.specs.Names.{main_name}
use Rattle.oso_code.specs.Ops.{op_fits}
use Rattle.oso_code.specs.Ranges.{jump_faults, steps_of}
use Rattle.oso_code.specs.Sections.{owner_fits, owner_follows, is_body}
use Rattle.oso_code.specs.Symbols.{fits_behind}
use Rattle.oso_code.specs.Valid.{most_ops, nests_within}
use Rattle.osl_valuetext.specs.Words.{Line}
use Rattle.oso_write.specs.Lines.{header}
use Rattle.oso_read.specs.declared.body.Start.{Start}
use Rattle.oso_read.specs.declared.error.OsoKind.{OsoKind}
use Rattle.oso_read.specs.declared.error.OsoKind.TheVariants as kinds
use Rattle.oso_read.specs.Faults.{Fault, fault, ◌>>=◌, at_line, holding}
use Rattle.oso_read.specs.Text.{Numbered, told, line_count}
use Rattle.oso_read.specs.Hints.{Saying, saying}
use Rattle.osl_valuetext.specs.Literals.{each}
use Rattle.oso_read.specs.SymbolNames.{names_of, has_room}
use Rattle.oso_read.specs.SymbolLine.{Head, head_at, symbol_at}
use Rattle.oso_read.specs.OpLine.{OpWords, op_at, code_at, is_end, is_code_line, is_end_line}

-- what is made of what a line says, and a fault of this kind where it says nothing
abbrev pub heard : {A : Type 0} → OsoKind → (Saying → Result A OsoKind) → Option Saying → Result A OsoKind
heard kind make None = Err kind
heard kind make (Some s) = make s

-- ---- the first two lines

abbrev pub says_header : Option Saying → Bool
says_header None = false
says_header (Some s) = (length s.metadata == 0) && pointwise bytes_eq s.words header

-- the lines after the header; `end` is the number of the line after the last
unfoldable pub headed : ℕ → List Numbered → Result (List Numbered) Fault
headed end [] = Err (fault kinds.Header end)
headed end (l ∷ ls) = if says_header (saying l.line) then Ok ls else Err (fault kinds.Header l.number)

pub record Opened : Type 0 where
  pub head : Head
  pub rest : List Numbered

-- the kind and the name, and the lines after them
unfoldable pub named_from : ℕ → List Numbered → Result Opened Fault
named_from end [] = Err (fault kinds.Header end)
named_from end (l ∷ ls) =
    at_line l.number (heard kinds.Header (λ s. ok_or (head_at s) kinds.Header) (saying l.line)) >>= λ head. Ok (record { head = head; rest = ls })

-- the header, and the kind and the name
unfoldable pub opened : ℕ → List Numbered → Result Opened Fault
opened end lines = headed end lines >>= named_from end

-- ---- symbols

-- the symbols with one more after them
abbrev pub added : List Symbol → Symbol → Result (List Symbol) OsoKind
added before symbol =
    holding (fits_behind before symbol) kinds.Symbol symbol
    >>= λ symbol. holding (has_room before symbol.ty) kinds.Limit (before ++ symbol ∷ [])

-- the symbols with that of a line after them
unfoldable pub symbol_added : List Symbol → Saying → Result (List Symbol) OsoKind
symbol_added before s = ok_or (symbol_at s) kinds.Line >>= added before

pub record Declared : Type 0 where
  pub symbols : List Symbol
  pub rest : List Numbered

abbrev pub begins_body : Line → Bool
begins_body line = is_code_line line || is_end_line line

-- symbols up to the first `code` or `end`, after these
unfoldable pub declared_from : List Symbol → List Numbered → Result Declared Fault
declared_from before [] = Ok (record { symbols = before; rest = [] })
declared_from before (l ∷ ls) =
    if begins_body l.line then Ok (record { symbols = before; rest = l ∷ ls })
    else (at_line l.number (heard kinds.Line (symbol_added before) (saying l.line)) >>= λ symbols. declared_from symbols ls)

-- ---- sections and ops

-- the sections that have begun, the ops, and the number of each op's line
pub record Body : Type 0 where
  pub starts : List Start
  pub ops : List Op
  pub lines : List ℕ

abbrev pub empty_body : Body
empty_body = record { starts = []; ops = []; lines = [] }

abbrev pub symbol_number : List Symbol → List ℕ → Option ℕ
symbol_number symbols name = position (bytes_eq name) (names_of symbols)

-- the body for `___main___`, and else a symbol
abbrev pub owner_named : List Symbol → List ℕ → Option (Option ℕ)
owner_named symbols name = if bytes_eq name main_name then Some None else option_map Some (symbol_number symbols name)

-- the section that began last
abbrev pub last_start : List Start → Option Start
last_start starts = slice_get starts (length starts - 1)

abbrev pub owner_of_start : Option Start → Option ℕ
owner_of_start None = None
owner_of_start (Some start) = start.owner

-- whether a section may follow one
abbrev pub may_follow : Option Start → Option ℕ → Bool
may_follow None owner = true
may_follow (Some start) owner = owner_follows start.owner owner

-- a section of this owner after those that have begun
abbrev pub section_begun : List Symbol → Body → Option ℕ → Result Body OsoKind
section_begun symbols body owner =
    holding (owner_fits symbols owner && may_follow (last_start body.starts) owner) kinds.Op
    (record body { starts = body.starts ++ record { owner = owner; op = length body.ops } ∷ [] })

-- a `code` line
unfoldable pub code_read : List Symbol → Body → Saying → Result Body OsoKind
code_read symbols body s =
    ok_or (code_at s) kinds.Line >>= λ name. ok_or (owner_named symbols name) kinds.Op >>= section_begun symbols body

-- the operation of a name
unfoldable pub op_named : List ℕ → Option OpName
op_named name = find (λ op. bytes_eq name (name_of op)) ALL

-- the op of these words, if its name and its arguments are known
unfoldable pub op_of : List Symbol → OpWords → Option Op
op_of symbols w =
    option_and_then (λ name. option_map (λ args. record { name = name; args = args; jumps = w.jumps }) (each (symbol_number symbols) w.args)) (op_named w.name)

-- the owner of the section that began last
abbrev pub owner_now : Body → Option ℕ
owner_now body = owner_of_start (last_start body.starts)

-- an op after the others, from a line of this number
abbrev pub op_added : ShaderKind → List Symbol → Body → ℕ → Op → Result Body OsoKind
op_added kind symbols body number op =
    holding (op_fits kind symbols (owner_now body) op) kinds.Op op
    >>= λ op. holding (nat_lt (length body.ops) most_ops) kinds.Limit
    (record body { ops = body.ops ++ op ∷ []; lines = body.lines ++ number ∷ [] })

-- an op's line
unfoldable pub op_read : ShaderKind → List Symbol → Body → ℕ → Saying → Result Body OsoKind
op_read kind symbols body number s =
    ok_or (op_at s) kinds.Line >>= λ w. ok_or (op_of symbols w) kinds.Op >>= op_added kind symbols body number

-- a line up to `end`
abbrev pub body_line : ShaderKind → List Symbol → Body → Numbered → Result Body OsoKind
body_line kind symbols body l =
    heard kinds.Line (λ s. if is_code_line l.line then code_read symbols body s else op_read kind symbols body l.number s) (saying l.line)

pub record Filled : Type 0 where
  pub body : Body
  pub rest : List Numbered

-- lines up to `end`
unfoldable pub filled_from : ShaderKind → List Symbol → Body → List Numbered → Result Filled Fault
filled_from kind symbols body [] = Ok (record { body = body; rest = [] })
filled_from kind symbols body (l ∷ ls) =
    if is_end_line l.line then Ok (record { body = body; rest = l ∷ ls })
    else (at_line l.number (body_line kind symbols body l) >>= λ body. filled_from kind symbols body ls)

-- ---- the whole

-- a section ends where the next begins, and the last where the ops end
abbrev pub sections_of : List Start → ℕ → List Section
sections_of [] end = []
sections_of (start ∷ []) end = record { param = start.owner; start = start.op; end = end } ∷ []
sections_of (start ∷ next ∷ starts) end = record { param = start.owner; start = start.op; end = next.op } ∷ sections_of (next ∷ starts) end

abbrev pub raw_of : Head → List Symbol → List Section → List Op → Raw
raw_of head symbols sections ops =
    record { kind = head.kind; name = head.name; metas = head.metas; symbols = symbols; sections = sections; ops = ops }

abbrev pub sooner : Option ℕ → Option ℕ → Option (OsoKind × ℕ)
sooner None None = None
sooner (Some jump) None = Some (kinds.Jump, jump)
sooner None (Some nest) = Some (kinds.Limit, nest)
sooner (Some jump) (Some nest) = if nat_le jump nest then Some (kinds.Jump, jump) else Some (kinds.Limit, nest)

-- the first op whose jumps are not valid or whose ranges nest too deep
unfoldable pub range_fault : Raw → Option (OsoKind × ℕ)
range_fault raw = sooner (least (jump_faults raw)) (least (misfits (nests_within (steps_of raw)) 0 (steps_of raw)))

abbrev pub in_range : Raw → List ℕ → Option (OsoKind × ℕ) → Result Raw Fault
in_range raw lines None = Ok raw
in_range raw lines (Some found) = Err (fault found.0 (slice_index lines found.1))

-- whether a line of this number has its line feed
abbrev pub is_ended : List ℕ → ℕ → Bool
is_ended bytes number = nat_lt number (line_count bytes) || (slice_index bytes (length bytes - 1) == 10)

abbrev pub says_end : Option Saying → Bool
says_end None = false
says_end (Some s) = is_end s

-- whether the section that began last is the body's
abbrev pub has_main : Option Start → Bool
has_main None = false
has_main (Some start) = is_body start.owner

abbrev pub nothing_behind : List Numbered → Result (Unit {0}) Fault
nothing_behind [] = Ok tt
nothing_behind (l ∷ ls) = Err (fault kinds.Line l.number)

-- `end` with its line feed, and nothing after it that means something
unfoldable pub ended : List ℕ → Body → List Numbered → Result (Unit {0}) Fault
ended bytes body [] = Err (fault kinds.Line (line_count bytes + 1))
ended bytes body (l ∷ ls) =
    if not (says_end (saying l.line) && has_main (last_start body.starts)) then Err (fault kinds.Line l.number)
    else (if is_ended bytes l.number then nothing_behind ls else Err (fault kinds.Line (line_count bytes + 1)))

-- the end, and then the ranges of all ops
unfoldable pub closed : List ℕ → Raw → Body → List Numbered → Result Raw Fault
closed bytes raw body lines = ended bytes body lines >>= λ _. in_range raw body.lines (range_fault raw)

-- the shader that a text spells, or its first fault
unfoldable pub reading : List ℕ → Result Raw Fault
reading bytes =
    opened (line_count bytes + 1) (told bytes) >>= λ o. declared_from [] o.rest
    >>= λ d. filled_from o.head.kind d.symbols empty_body d.rest
    >>= λ f. closed bytes (raw_of o.head d.symbols (sections_of f.body.starts (length f.body.ops)) f.body.ops) f.body f.rest
