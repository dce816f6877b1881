-- The symbols and the body, line by line, as loops read them.
use Rattle.std.proofs.Common.{◌≡◌, ℕ, true, false, cond, List, ◌∷◌, Option, Some, None, Ok, Err, refl, sym, ap, ◌∙◌, subst}
use Rattle.std.specs.Prelude.{Result}
use Rattle.osl_value.specs.declared.shader_kind.ShaderKind.{ShaderKind}
use Rattle.oso_code.specs.declared.symbol.Symbol.{Symbol}
use Rattle.osl_valuetext.specs.Words.{Line}
use Rattle.oso_read.specs.declared.error.OsoKind.{OsoKind}
use Rattle.oso_read.specs.declared.error.OsoKind.TheVariants as kinds
use Rattle.oso_read.specs.declared.fault.LineFault.{LineFault}
use Rattle.oso_read.specs.declared.fault.LineFault.TheVariants as faults
use Rattle.oso_read.specs.Faults.{Fault, ◌>>=◌, at_line, Fails}
use Rattle.oso_read.specs.Finds.{Finds, error_at}
use Rattle.oso_read.specs.Hints.{Saying, saying}
use Rattle.oso_read.specs.Left.{with_line}
use Rattle.oso_read.specs.OpLine.{is_end_line}
use Rattle.oso_read.specs.Reading.{heard, begins_body, symbol_added, Declared, declared_from, Body, body_line, Filled, filled_from}
use Rattle.oso_read.specs.Text.{Numbered}

-- ---- one line

some_is : (m n : ℕ) → ◌≡◌ {A = Option ℕ} (Some m) (Some n) → m ≡ n
some_is m n e = cc

-- a line that is at fault ends a reading
pub line_fails : {X A B : Type 0} (view : X → A) (bad : LineFault) (n : ℕ) (read : Result A OsoKind) (next : A → Result B Fault)
    → Finds {X = X} view (Err bad) read → Fails (error_at bad n) (at_line n read >>= next)
line_fails view faults.Memory n read next h = tt
line_fails view (faults.Kind kind) n read next h = ap (λ r. at_line n r >>= next) h

-- ---- symbols

pub declared_ends : (before : List Symbol) (o : Option ℕ) (line : Line) (rest : List Numbered) (n : ℕ) → o ≡ Some n → begins_body line ≡ true
    → declared_from before (with_line o line rest) ≡ Ok (record { symbols = before; rest = with_line o line rest })
unfolding declared_from
declared_ends before None line rest n e h = absurd cc
declared_ends before (Some m) line rest n e h =
    let l : Numbered = record { number = m; line = line } in
    ap (λ b. cond b (Ok (record { symbols = before; rest = l ∷ rest })) (at_line m (heard kinds.Line (symbol_added before) (saying line)) >>= λ symbols. declared_from symbols rest)) h

pub declared_last : (before : List Symbol) (o : Option ℕ) (line : Line) (rest : List Numbered) → o ≡ None
    → declared_from before (with_line o line rest) ≡ Ok (record { symbols = before; rest = with_line o line rest })
unfolding declared_from
declared_last before None line rest e = refl
declared_last before (Some m) line rest e = absurd cc

declared_on : (before : List Symbol) (m : ℕ) (line : Line) (rest : List Numbered) → begins_body line ≡ false
    → declared_from before (with_line (Some m) line rest) ≡ at_line m (heard kinds.Line (symbol_added before) (saying line)) >>= λ symbols. declared_from symbols rest
unfolding declared_from
declared_on before m line rest h =
    let l : Numbered = record { number = m; line = line } in
    ap (λ b. cond b (Ok (record { symbols = before; rest = l ∷ rest })) (at_line m (heard kinds.Line (symbol_added before) (saying line)) >>= λ symbols. declared_from symbols rest)) h

pub declared_more : (before after : List Symbol) (said : Option Saying) (o : Option ℕ) (line : Line) (rest : List Numbered) (n : ℕ) → o ≡ Some n → begins_body line ≡ false
    → said ≡ saying line → heard kinds.Line (symbol_added before) said ≡ Ok after → declared_from before (with_line o line rest) ≡ declared_from after rest
declared_more before after said None line rest n e h is read = absurd cc
declared_more before after said (Some m) line rest n e h is read =
    declared_on before m line rest h
    ∙ ap (λ r. at_line m r >>= λ symbols. declared_from symbols rest) (ap (heard kinds.Line (symbol_added before)) (sym is) ∙ read)

pub declared_fails : {X : Type 0} (view : X → List Symbol) (bad : LineFault) (before : List Symbol) (said : Option Saying) (o : Option ℕ) (line : Line) (rest : List Numbered) (n : ℕ)
    → o ≡ Some n → begins_body line ≡ false → said ≡ saying line → Finds {X = X} view (Err bad) (heard kinds.Line (symbol_added before) said)
    → Fails (error_at bad n) (declared_from before (with_line o line rest))
declared_fails view bad before said None line rest n e h is read = absurd cc
declared_fails {X} view bad before said (Some m) line rest n e h is read =
    let same : m ≡ n = some_is m n e in
    let next : List Symbol → Result Declared Fault = λ symbols. declared_from symbols rest in
    let found = heard kinds.Line (symbol_added before) in
    subst (λ (r : Result Declared Fault). Fails (error_at bad n) r) (sym (declared_on before m line rest h))
    (subst (λ (k : ℕ). Fails (error_at bad n) (at_line k (found (saying line)) >>= next)) (sym same)
    (line_fails view bad n (found (saying line)) next (subst (λ (s : Option Saying). Finds {X = X} view (Err bad) (found s)) is read)))

-- ---- sections and ops

pub filled_ends : (kind : ShaderKind) (symbols : List Symbol) (body : Body) (o : Option ℕ) (line : Line) (rest : List Numbered) (n : ℕ) → o ≡ Some n → is_end_line line ≡ true
    → filled_from kind symbols body (with_line o line rest) ≡ Ok (record { body = body; rest = with_line o line rest })
unfolding filled_from
filled_ends kind symbols body None line rest n e h = absurd cc
filled_ends kind symbols body (Some m) line rest n e h =
    let l : Numbered = record { number = m; line = line } in
    ap (λ b. cond b (Ok (record { body = body; rest = l ∷ rest })) (at_line m (body_line kind symbols body l) >>= λ body. filled_from kind symbols body rest)) h

pub filled_last : (kind : ShaderKind) (symbols : List Symbol) (body : Body) (o : Option ℕ) (line : Line) (rest : List Numbered) → o ≡ None
    → filled_from kind symbols body (with_line o line rest) ≡ Ok (record { body = body; rest = with_line o line rest })
unfolding filled_from
filled_last kind symbols body None line rest e = refl
filled_last kind symbols body (Some m) line rest e = absurd cc

filled_on : (kind : ShaderKind) (symbols : List Symbol) (body : Body) (m : ℕ) (line : Line) (rest : List Numbered) → is_end_line line ≡ false
    → filled_from kind symbols body (with_line (Some m) line rest) ≡ at_line m (body_line kind symbols body (record { number = m; line = line })) >>= λ body. filled_from kind symbols body rest
unfolding filled_from
filled_on kind symbols body m line rest h =
    let l : Numbered = record { number = m; line = line } in
    ap (λ b. cond b (Ok (record { body = body; rest = l ∷ rest })) (at_line m (body_line kind symbols body l) >>= λ body. filled_from kind symbols body rest)) h

pub filled_more : (kind : ShaderKind) (symbols : List Symbol) (body after : Body) (o : Option ℕ) (line : Line) (rest : List Numbered) (n : ℕ) → o ≡ Some n → is_end_line line ≡ false
    → body_line kind symbols body (record { number = n; line = line }) ≡ Ok after → filled_from kind symbols body (with_line o line rest) ≡ filled_from kind symbols after rest
filled_more kind symbols body after None line rest n e h read = absurd cc
filled_more kind symbols body after (Some m) line rest n e h read =
    let same : m ≡ n = some_is m n e in
    filled_on kind symbols body m line rest h
    ∙ ap (λ (k : ℕ). at_line k (body_line kind symbols body (record { number = k; line = line })) >>= λ body. filled_from kind symbols body rest) same
    ∙ ap (λ r. at_line n r >>= λ body. filled_from kind symbols body rest) read

pub filled_fails : {X : Type 0} (view : X → Body) (bad : LineFault) (kind : ShaderKind) (symbols : List Symbol) (body : Body) (o : Option ℕ) (line : Line) (rest : List Numbered) (n : ℕ)
    → o ≡ Some n → is_end_line line ≡ false → Finds {X = X} view (Err bad) (body_line kind symbols body (record { number = n; line = line }))
    → Fails (error_at bad n) (filled_from kind symbols body (with_line o line rest))
filled_fails view bad kind symbols body None line rest n e h read = absurd cc
filled_fails view bad kind symbols body (Some m) line rest n e h read =
    let same : m ≡ n = some_is m n e in
    let next : Body → Result Filled Fault = λ body. filled_from kind symbols body rest in
    subst (λ (r : Result Filled Fault). Fails (error_at bad n) r) (sym (filled_on kind symbols body m line rest h))
    (subst (λ (k : ℕ). Fails (error_at bad n) (at_line k (body_line kind symbols body (record { number = k; line = line })) >>= next)) (sym same)
    (line_fails view bad n (body_line kind symbols body (record { number = n; line = line })) next read))
