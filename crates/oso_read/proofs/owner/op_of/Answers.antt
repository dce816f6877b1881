use Rattle.std.proofs.Common.{◌≡◌, ℕ, List, Option, Some, None, Ok, Err, refl, sym, ap, ◌∙◌, option_map}
use Rattle.std.specs.Prelude.{option_and_then}
use Rattle.std.specs.Option.{ok_or}
use Rattle.osl_value.specs.declared.op_name.OpName.{OpName}
use Rattle.oso_code.specs.declared.op.Op.{Op}
use Rattle.oso_code.specs.declared.symbol.Symbol.{Symbol}
use Rattle.oso_read.specs.declared.error.OsoKind.TheVariants as kinds
use Rattle.osl_valuetext.specs.Literals.{each}
use Rattle.oso_read.specs.OpLine.{OpWords}
use Rattle.oso_read.specs.Reading.{op_named, symbol_number, op_of}
use Rattle.oso_read.specs.Said.{op_words_of}
use Rattle.oso_read.proofs.owner.op_of.Goals as goal

module _ (symbols : List Symbol) (w : OpWords) where
  abbrev made : Option OpName → Option (List ℕ) → Option Op
  made name args = option_and_then (λ n. option_map (λ a. record { name = n; args = a; jumps = w.jumps }) args) name

  parts : (name : Option OpName) (args : Option (List ℕ)) → op_named w.name ≡ name → each (symbol_number symbols) w.args ≡ args → op_of symbols w ≡ made name args
  unfolding op_of
  parts name args n a = ap (λ (o : Option OpName). made o (each (symbol_number symbols) w.args)) n ∙ ap (made name) a

  unnamed : op_named w.name ≡ None → op_of symbols w ≡ None
  unnamed n = parts None (each (symbol_number symbols) w.args) n refl

  pub no_name : op_named w.name ≡ None → ok_or (op_of symbols w) kinds.Op ≡ Err kinds.Op
  no_name n = ap (λ (o : Option Op). ok_or o kinds.Op) (unnamed n)

  pub no_argument : (name : OpName) → op_named w.name ≡ Some name → each (symbol_number symbols) w.args ≡ None → ok_or (op_of symbols w) kinds.Op ≡ Err kinds.Op
  no_argument name n a = ap (λ (o : Option Op). ok_or o kinds.Op) (parts (Some name) None n a)

  pub an_op : (name : OpName) (args jumps : List ℕ) → op_named w.name ≡ Some name → each (symbol_number symbols) w.args ≡ Some args → w.jumps ≡ jumps
      → ok_or (op_of symbols w) kinds.Op ≡ Ok (record { name = name; args = args; jumps = jumps })
  an_op name args jumps n a j =
      ap (λ (o : Option Op). ok_or o kinds.Op) (parts (Some name) (Some args) n a) ∙ ap (λ (js : List ℕ). Ok (record { name = name; args = args; jumps = js })) j

pub returns-in_default : goal.returns-in_default
returns-in_default c = no_name c.args.table.now.symbols.items (op_words_of c.args.line) (sym c.op_named.ensures ∙ c.in_default.is)

pub returns-in_default-2 : goal.returns-in_default-2
returns-in_default-2 c =
    no_argument c.args.table.now.symbols.items (op_words_of c.args.line) c.in-Some.name (sym c.op_named.ensures ∙ c.in-Some.is)
    (sym c.in_ok-numbers.ensures ∙ ap (option_map (λ v. v.items)) c.in_default-2.is)

pub returns : goal.returns
returns c =
    an_op c.args.table.now.symbols.items (op_words_of c.args.line) c.in-Some.name c.new.result c.new-2.result (sym c.op_named.ensures ∙ c.in-Some.is)
    (sym c.in_ok-numbers.ensures ∙ ap (option_map (λ v. v.items)) c.in-Some-2.is ∙ ap Some (sym c.new.ensures)) (sym c.new-2.ensures)
